-- Laws of the operators on vectors and on any two values.
use Rattle.std.proofs.Common.{◌≡◌, ◌∙◌, suc, Ok, Err, refl, sym, ap, arith}
use Rattle.wgsl_rules.specs.Refusals.{Outcome}
use Rattle.wgsl_rules.specs.Values.{Val, truth, number, Vals, no_vals, val, count}
use Rattle.wgsl_rules.specs.declared.syntax.ShaderStage.{ShaderStage}
use Rattle.wgsl_value_ops.specs.Laws.{LiftedKeepsTheCount, Lifted2KeepsTheCount, LiteralsAreJoinedAsLiterals, SumsAndProductsSwap}
use Rattle.wgsl_value_ops.specs.Lift.{followed, lifted, lifted2}

-- what a list of two outcomes is made of
record IsFollowed (o : Outcome Val) (p : Outcome Vals) (us : Vals) : Type 0 where
  first : Val
  rest : Vals
  rest_is : p ≡ Ok rest
  is : us ≡ val first rest

follows : (o : Outcome Val) (p : Outcome Vals) (us : Vals) → followed o p ≡ Ok us → IsFollowed o p us
follows (Err e) p us h = cc
follows (Ok v) (Err e) us h = cc
follows (Ok v) (Ok vs) us h = record { first = v; rest = vs; rest_is = refl; is = let e : us ≡ val v vs = cc in e }

pub lifted-count : LiftedKeepsTheCount
lifted-count f no_vals ws h = let e : no_vals ≡ ws = cc in ap count (sym e)
lifted-count f (val v vs) ws h = let k = follows (f v) (lifted f vs) ws h in ap count k.is ∙ ap suc (lifted-count f vs k.rest k.rest_is)

pub lifted2-count : Lifted2KeepsTheCount
lifted2-count f no_vals ws us c h = let e : no_vals ≡ us = cc in ap count (sym e)
lifted2-count f (val v vs) no_vals us c h = absurd (omega arith)
lifted2-count f (val v vs) (val w ws) us c h =
    let k = follows (f v w) (lifted2 f vs ws) us h in ap count k.is ∙ ap suc (lifted2-count f vs ws k.rest (omega arith) k.rest_is)

pub literals-joined : LiteralsAreJoinedAsLiterals
literals-joined op stage (truth a) (truth b) k l = refl
literals-joined op stage (truth a) (number j y) k l = refl
literals-joined op stage (number j y) (truth b) k l = refl
literals-joined op stage (number i x) (number j y) k l = refl
literals-joined op stage (truth a) w k l = absurd l
literals-joined op stage (number i x) w k l = absurd l
literals-joined op stage v w k l = absurd k

pub swapped : (stage : ShaderStage) (s v : Val) → SumsAndProductsSwap stage s v
swapped stage s v = record { sums = refl; products = refl }
