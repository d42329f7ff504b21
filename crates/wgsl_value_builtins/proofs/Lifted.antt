-- What is lifted to the components of vectors may be stored.
use Rattle.std.proofs.Common.{◌≡◌, ℕ, suc, ◌≤◌, ℤ, Option, Some, None, Ok, arith, refl, sym, ap, ◌∙◌, subst}
use Rattle.wgsl_value_ops.specs.Lift.{lifted, lifted2}
use Rattle.wgsl_rules.proofs.lemmas.Converted.{converted-type, converted-well_formed, storable-well_formed}
use Rattle.wgsl_rules.specs.Conversion.{common_type}
use Rattle.wgsl_rules.specs.Converted.{converted}
use Rattle.wgsl_rules.specs.InCommon.{both_in, in_common}
use Rattle.wgsl_rules.specs.Kinds.{Kind, InKind}
use Rattle.wgsl_rules.specs.Refusals.{Outcome, and_then, builtin}
use Rattle.wgsl_rules.specs.Types as types
use Rattle.wgsl_rules.specs.Types.{Ty}
use Rattle.wgsl_rules.specs.Values.{Val, truth, number, vector, Vals, no_vals, val, count, first_type, type_of, type_of_kind, AllOfType, AreLiterals, AreStorable, IsLiteral, IsStorable, IsWellFormed}
use Rattle.wgsl_value_ops.proofs.Outcomes.{then-is, some-of}
use Rattle.wgsl_value_builtins.specs.Laws.{Answers1, Answers2}
use Rattle.wgsl_value_builtins.specs.Lifts.{on_components, on_both, in_common_type}
use Rattle.wgsl_value_builtins.proofs.Known.{both-is}

-- by a name that a function can give its tactic
pub well_formed : (v : Val) → IsStorable v → IsWellFormed v
well_formed = storable-well_formed

-- ---- literals of a type

pub record IsLiteralOf (t : Ty) (x : Val) : Type 0 where
  pub literal : IsLiteral x
  pub storable : IsStorable x
  pub typed : type_of x ≡ t

pub number-literal : (k : Kind) (z : ℤ) → InKind k z → IsLiteralOf (type_of_kind k) (number k z)
number-literal k z h = record { literal = tt; storable = h; typed = refl }

pub record AreLiteralsOf (t : Ty) (n : ℕ) (ws : Vals) : Type 0 where
  pub literals : AreLiterals ws
  pub typed : AllOfType t ws
  pub storable : AreStorable ws
  pub counted : count ws ≡ n

first-typed : (t : Ty) (ws : Vals) (n : ℕ) → AllOfType t ws → count ws ≡ n → 2 ≤ n → first_type ws ≡ t
first-typed t no_vals n h c l = absurd (omega arith)
first-typed t (val w ws) n h c l = h.0

pub vector-storable : (t : Ty) (n : ℕ) (ws : Vals) → AreLiteralsOf t n ws → 2 ≤ n → n ≤ 4 → IsStorable (vector ws)
vector-storable t n ws h l g =
    let c = h.counted in
    (omega arith, omega arith, h.literals, subst (λ (u : Ty). AllOfType u ws) (sym (first-typed t ws n h.typed c l)) h.typed, h.storable)

-- ---- one argument

-- a literal of the type t gives one of the type u
abbrev pub GivesLiteral : (Val → Outcome Val) → Ty → Ty → Type 0
GivesLiteral f t u = (v x : Val) → IsLiteralOf t v → f v ≡ Ok x → IsLiteralOf u x

pub lifted-literals : (f : Val → Outcome Val) (t u : Ty) (vs ws : Vals) → GivesLiteral f t u → AreLiteralsOf t (count vs) vs → lifted f vs ≡ Ok ws → AreLiteralsOf u (count vs) ws
lifted-literals f t u no_vals ws g h e =
    let same : no_vals ≡ ws = cc in subst (AreLiteralsOf u 0) same (record { literals = tt; typed = tt; storable = tt; counted = refl })
lifted-literals f t u (val v vs) ws g h e =
    let a = then-is (f v) (λ w. and_then (lifted f vs) (λ us. Ok (val w us))) ws e in
    let b = then-is (lifted f vs) (λ us. Ok (val a.first us)) ws a.rest in
    let same : val a.first b.first ≡ ws = let r = b.rest in cc in
    let one = g v a.first (record { literal = h.literals.0; storable = h.storable.0; typed = h.typed.0 }) a.is in
    let more = lifted-literals f t u vs b.first g (record { literals = h.literals.1; typed = h.typed.1; storable = h.storable.1; counted = refl }) b.is in
    subst (AreLiteralsOf u (suc (count vs))) same
    (record { literals = (one.literal, more.literals); typed = (one.typed, more.typed); storable = (one.storable, more.storable); counted = ap suc more.counted })

pub components-storable : (f : Val → Outcome Val) (u : Ty → Ty) → ((t : Ty) → GivesLiteral f t (u t)) → Answers1 (on_components f)
components-storable f u g (truth b) x h e = (g types.bool (truth b) x (record { literal = tt; storable = tt; typed = refl }) e).storable
components-storable f u g (number k z) x h e = (g (type_of_kind k) (number k z) x (number-literal k z h) e).storable
components-storable f u g (vector vs) x h e =
    let a = then-is (lifted f vs) (λ us. Ok (vector us)) x e in
    let same : vector a.first ≡ x = let r = a.rest in cc in
    let t = first_type vs in
    let l = lifted-literals f t (u t) vs a.first (g t) (record { literals = h.2; typed = h.3; storable = h.4; counted = refl }) a.is in
    subst IsStorable same (vector-storable (u t) (count vs) a.first l h.0 h.1)
components-storable f u g v x h e = absurd (cc)

-- ---- two arguments of one type

abbrev pub GivesLiteral2 : (Val → Val → Outcome Val) → Ty → Type 0
GivesLiteral2 f t = (v w x : Val) → type_of v ≡ t → type_of w ≡ t → f v w ≡ Ok x → IsLiteralOf t x

lifted2-literals : (f : Val → Val → Outcome Val) (t : Ty) (vs ws xs : Vals) → GivesLiteral2 f t → AllOfType t vs → AllOfType t ws → count vs ≡ count ws → lifted2 f vs ws ≡ Ok xs → AreLiteralsOf t (count vs) xs
lifted2-literals f t no_vals ws xs g h k c e =
    let same : no_vals ≡ xs = cc in subst (AreLiteralsOf t 0) same (record { literals = tt; typed = tt; storable = tt; counted = refl })
lifted2-literals f t (val v vs) no_vals xs g h k c e = absurd (omega arith)
lifted2-literals f t (val v vs) (val w ws) xs g h k c e =
    let a = then-is (f v w) (λ x. and_then (lifted2 f vs ws) (λ us. Ok (val x us))) xs e in
    let b = then-is (lifted2 f vs ws) (λ us. Ok (val a.first us)) xs a.rest in
    let same : val a.first b.first ≡ xs = let r = b.rest in cc in
    let one = g v w a.first h.0 k.0 a.is in
    let more = lifted2-literals f t vs ws b.first g h.1 k.1 (omega arith) b.is in
    subst (AreLiteralsOf t (suc (count vs))) same
    (record { literals = (one.literal, more.literals); typed = (one.typed, more.typed); storable = (one.storable, more.storable); counted = ap suc more.counted })

pub both-storable : (f : Val → Val → Outcome Val) → ((t : Ty) → GivesLiteral2 f t) → (v w x : Val) → IsWellFormed v → IsWellFormed w → type_of v ≡ type_of w → on_both f v w ≡ Ok x → IsStorable x
both-storable f g (vector vs) (vector ws) x h k s e =
    let a = then-is (lifted2 f vs ws) (λ us. Ok (vector us)) x e in
    let same : vector a.first ≡ x = let r = a.rest in cc in
    let counts : count vs ≡ count ws = cc in
    let firsts : first_type vs ≡ first_type ws = cc in
    let t = first_type vs in
    let l = lifted2-literals f t vs ws a.first (g t) h.3 (subst (λ (u : Ty). AllOfType u ws) (sym firsts) k.3) counts a.is in
    subst IsStorable same (vector-storable t (count vs) a.first l h.0 h.1)
both-storable f g v w x h k s e = (g (type_of v) v w x refl (sym s) e).storable

-- ---- in the common type

pub record IsPair (p : Val × Val) : Type 0 where
  pub left : IsWellFormed p.0
  pub right : IsWellFormed p.1
  pub typed : type_of p.0 ≡ type_of p.1

pair-in : (v w : Val) (o : Option Ty) (p : Val × Val) → IsWellFormed v → IsWellFormed w → both_in converted converted v w o ≡ Some p → IsPair p
pair-in v w None p h k e = absurd (cc)
pair-in v w (Some t) p h k e =
    let b = both-is (converted v t) (converted w t) p e in
    record {
      left = converted-well_formed v p.0 t h b.0;
      right = converted-well_formed w p.1 t k b.1;
      typed = converted-type v p.0 t h b.0 ∙ sym (converted-type w p.1 t k b.1);
    }

pub common-pair : (v w : Val) (p : Val × Val) → IsWellFormed v → IsWellFormed w → in_common_type v w ≡ Ok p → IsPair p
common-pair v w p h k e = pair-in v w (common_type (type_of v) (type_of w)) p h k (some-of builtin (in_common converted v w) p e)

pub common-storable : (f : Val → Val → Outcome Val) → ((t : Ty) → GivesLiteral2 f t) → Answers2 (λ v w. and_then (in_common_type v w) (λ p. on_both f p.0 p.1))
common-storable f g v w x h k e =
    let a = then-is (in_common_type v w) (λ p. on_both f p.0 p.1) x e in
    let p = common-pair v w a.first h k a.is in
    both-storable f g a.first.0 a.first.1 x p.left p.right p.typed a.rest
