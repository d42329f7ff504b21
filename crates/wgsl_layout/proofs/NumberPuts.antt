-- Numbers put in the scalars and the atomics of values that are held as bytes.
use Rattle.std.proofs.Common.{Global, Vec, ◌≡◌, ℕ, zero, suc, ℤ, ◌+◌, ◌-◌, ◌≤◌, List, [], ◌∷◌, ◌++◌, length, take, drop, Option, Some, None, option_map, option_and_then, Ok, Err, Bool, true, ◌&&◌, refl, sym, ap, ◌∙◌, subst, arith}
use Rattle.std.proofs.lemmas.List.{take_rest}
use Rattle.std.specs.Prelude.{IsOk, IsOkAnd, IsSomeAnd, IsTrue}
use Rattle.wgsl_rules.specs.Kinds as kinds
use Rattle.wgsl_rules.specs.Layout.{Layout, has_layout, layout, layout_of, length_in, runtime_count}
use Rattle.wgsl_rules.specs.Paths.{fits, parts, put_tree, put_viewed, replace_item, value_at, viewed, with_parts, FitsPlace}
use Rattle.wgsl_rules.specs.Refusals.{Outcome}
use Rattle.wgsl_rules.specs.Types.{atomic}
use Rattle.wgsl_rules.specs.Values.{Step, Val, Vals, no_vals, val, item, truth, number, atomic_of, type_of, type_of_kind, IsAtomicContent, IsLiteral, IsStorable}
use Rattle.wgsl_rules.specs.Equal.{same-Decides}
use Rattle.wgsl_rules.proofs.lemmas.Paths.{fits-Decides}
use Rattle.wgsl_layout.specs.Buffers.{buffer}
use Rattle.wgsl_layout.specs.FlatCells.{Holds, IsPartAt}
use Rattle.wgsl_layout.specs.NumbersIn.{HasNumberAt, IsLikeNumber, IsNumberAt, number_put, with_number}
use Rattle.wgsl_layout.specs.Located.{part_range}
use Rattle.wgsl_layout.specs.Plan.{Plan, plan_of, scalar}
use Rattle.wgsl_layout.specs.Ranges.{Range, bytes_in, further, range_in, view_range}
use Rattle.wgsl_layout.specs.Walk.{put, Stands}
use Rattle.wgsl_layout.specs.declared.flat.FlatCell.TheInside.{Inside}
use Rattle.wgsl_layout.specs.declared.located.Located.{Located}
use Rattle.wgsl_layout.proofs.Outcomes.{answered}
use Rattle.wgsl_layout.proofs.lemmas.Compose.{compose, value-below}
use Rattle.wgsl_layout.proofs.lemmas.Flat.{IsPut, fits-laid, put-at-path}
use Rattle.wgsl_layout.proofs.lemmas.PathRanges.{range_in-append, view-path}
use Rattle.wgsl_layout.proofs.lemmas.Standing.{stands}
pub use Rattle.wgsl_values.proofs.lemmas.Literals.{is-literal}
use Rattle.wgsl_values.proofs.lemmas.ViewedPaths.{has-path}
use Rattle.wgsl_values.proofs.lemmas.Replaced.{part-storable}

-- ---- a path that goes on

-- what is put at it is put in what the first numbers lead to
replaced-same : (i : ℕ) (f g : Val → Val) (vs : Vals) → ((z : Val) → item i vs ≡ Some z → f z ≡ g z) → replace_item i f vs ≡ replace_item i g vs
replaced-same i f g no_vals h = refl
replaced-same zero f g (val v vs) h = ap (λ (z : Val). val z vs) (h v refl)
replaced-same (suc i) f g (val v vs) h = ap (val v) (replaced-same i f g vs h)

put-append : (p q : List ℕ) (w v x : Val) → value_at p v ≡ Some x → put_tree p (put_tree q w x) v ≡ put_tree (p ++ q) w v
put-append [] q w v x e = let same : x ≡ v = cc in ap (put_tree q w) same
put-append (i ∷ p) q w v x e =
    ap (with_parts v) (replaced-same i (put_tree p (put_tree q w x)) (put_tree (p ++ q) w) (parts v) (λ z is. put-append p q w z x (ap (option_and_then (value_at p)) (sym is) ∙ e)))

-- ---- numbers, and atomics that hold them

no-truth : (k : kinds.Kind) → type_of (truth true) ≡ type_of_kind k → ⊥
no-truth kinds.abstract_int e = cc
no-truth kinds.i32 e = cc
no-truth kinds.u32 e = cc
no-truth kinds.i64 e = cc
no-truth kinds.u64 e = cc

same-kinds : (j k : kinds.Kind) → type_of_kind j ≡ type_of_kind k → j ≡ k
same-kinds kinds.abstract_int kinds.abstract_int e = refl
same-kinds kinds.i32 kinds.i32 e = refl
same-kinds kinds.u32 kinds.u32 e = refl
same-kinds kinds.i64 kinds.i64 e = refl
same-kinds kinds.u64 kinds.u64 e = refl
same-kinds j k e = absurd (cc)

-- the number fits where one like it stands
number-fits : (w y : Val) → IsLiteral w → IsLikeNumber w y → IsTrue (fits (with_number w y) y)
number-fits (number j x) (number k z) l e = ap (λ (b : Bool). b && true) ((same-Decides (type_of_kind j) (type_of_kind k)).1 e)
number-fits (number j x) (atomic_of u) l e = ap (λ (b : Bool). b && true) ((same-Decides (atomic (type_of_kind j)) (atomic (type_of u))).1 (ap atomic e))
number-fits (number j x) y l e = absurd e
number-fits (truth b) (number k z) l e = absurd (no-truth k e)
number-fits (truth b) (atomic_of u) l e = ap (λ (b : Bool). b && true) ((same-Decides (atomic (type_of (truth b))) (atomic (type_of u))).1 (ap atomic e))
number-fits (truth b) y l e = absurd e
number-fits w y l e = absurd l

-- and may be stored there
number-storable : (w y : Val) → IsLiteral w → IsStorable w → IsStorable y → IsLikeNumber w y → IsStorable (with_number w y)
number-storable w (number k z) l s t e = s
number-storable (number j x) (atomic_of (number kinds.i32 z)) l s t e = (subst (λ (k : kinds.Kind). IsAtomicContent (number k x)) (sym (same-kinds j kinds.i32 e)) tt, s)
number-storable (number j x) (atomic_of (number kinds.u32 z)) l s t e = (subst (λ (k : kinds.Kind). IsAtomicContent (number k x)) (sym (same-kinds j kinds.u32 e)) tt, s)
number-storable (number j x) (atomic_of u) l s t e = absurd (t.0)
number-storable (number j x) y l s t e = absurd e
number-storable (truth b) (atomic_of (number kinds.i32 z)) l s t e = absurd (cc (e))
number-storable (truth b) (atomic_of (number kinds.u32 z)) l s t e = absurd (cc (e))
number-storable (truth b) (atomic_of u) l s t e = absurd (t.0)
number-storable (truth b) y l s t e = absurd e
number-storable w y l s t e = absurd l

-- an atomic is written as its number
put-number-is : (w y : Val) (p : Plan) (o : ℕ) (b : List ℕ) → IsLiteral w → IsLikeNumber w y → put (with_number w y) p o b ≡ put w scalar o b
put-number-is (number j x) (number k z) p o b l e = refl
put-number-is (number j x) (atomic_of u) p o b l e = refl
put-number-is (truth t) (number k z) p o b l e = refl
put-number-is (truth t) (atomic_of u) p o b l e = refl
put-number-is (number j x) y p o b l e = absurd e
put-number-is (truth t) y p o b l e = absurd e
put-number-is w y p o b l e = absurd l

number-stands : (j : kinds.Kind) (x : ℤ) (p : Plan) (o len : ℕ) → Stands (number j x) p o len → Stands (number j x) scalar o len
number-stands kinds.abstract_int x p o len h = h
number-stands kinds.i32 x p o len h = h
number-stands kinds.u32 x p o len h = h
number-stands kinds.i64 x p o len h = h
number-stands kinds.u64 x p o len h = h

stands-number-is : (w y : Val) (p : Plan) (o len : ℕ) → IsLiteral w → IsLikeNumber w y → Stands (with_number w y) p o len → Stands w scalar o len
stands-number-is (number j x) (number k z) p o len l e h = number-stands j x p o len h
stands-number-is (number j x) (atomic_of u) p o len l e h = number-stands j x p o len h
stands-number-is (number j x) y p o len l e h = absurd e
stands-number-is (truth t) (number k z) p o len l e h = absurd h
stands-number-is (truth t) (atomic_of u) p o len l e h = absurd h
stands-number-is (truth t) y p o len l e h = absurd e
stands-number-is w y p o len l e h = absurd l

-- ---- a number put

-- what a test of an answer tells of it
pub some-is : {A : Type 0} (o : Option A) (P : A → Type 0) → IsSomeAnd o P → (x : A) × (o ≡ Some x) × P x
some-is (Some x) P h = (x, refl, h)
some-is None P h = absurd h

-- the value after the number is put at a path, and where the number stands
record IsNumberPut (v w new : Val) (o : ℕ) : Type 0 where
  pub put_there : IsPut v new (put w scalar o (buffer v))
  pub stands_there : Stands w scalar o (length (buffer v))

-- the number like which one stands at a path of a value that has a layout
put-path : (v w y : Val) (path : List ℕ) (r : Range) → IsStorable v → has_layout (type_of v) ≡ true → IsLiteral w → IsStorable w → value_at path v ≡ Some y → IsLikeNumber w y
    → range_in path (layout_of v) ≡ Some r → IsNumberPut v w (put_tree path (with_number w y) v) r.start
put-path v w y path r s h lit sw stood like ranged =
    let new = with_number w y in
    let c = compose v y path s h stood in
    let one : Some r ≡ Some c.1.range_of = sym ranged ∙ c.1.there in
    let same : c.1.range_of ≡ r = cc in
    let inside : r.start + length (buffer y) ≤ length (buffer v) = subst (λ (k : Range). k.start + length (buffer y) ≤ length (buffer v)) same c.1.inside in
    let sy = part-storable path v y s stood in
    let fit = number-fits w y lit like in
    let fit_place : FitsPlace new y = (fits-Decides new y).0 fit in
    let snew = number-storable w y lit sw sy like in
    let own : has_layout (type_of new) ≡ true = ap has_layout fit_place.0 ∙ c.0 in
    let alike : layout_of new ≡ layout_of y = (fits-laid new y snew sy c.0).0 fit in
    let long : length_in (layout_of new) ≡ length (buffer y) = ap length_in (alike ∙ sym c.1.its_layout) ∙ c.1.its_length in
    let plan = plan_of (type_of new) in
    let at = r.start in
    record {
      put_there = subst (IsPut v (put_tree path new v)) (put-number-is w y plan at (buffer v) lit like) (put-at-path v new y path r plan s h snew stood fit_place ranged refl);
      stands_there = stands-number-is w y plan at (length (buffer v)) lit like (stands new at (length (buffer v)) snew own (omega (arith, inside, long)));
    }

-- inside what a view leads to
number-put-in : (v w x : Val) (from : List Step) (path : List ℕ) (r : Range) (at : ℕ) → IsStorable v → has_layout (type_of v) ≡ true → IsLiteral w → IsStorable w → viewed from v ≡ Ok x
    → view_range from (layout_of v) ≡ Some r → IsNumberAt x path at w → IsNumberPut v w (put_viewed from (number_put path w x) v) (r.start + at)
number-put-in v w x from path r at s h lit sw e there n =
    let led = some-is (value_at path x) (IsLikeNumber w) n.there in
    let y = led.0 in
    let begun = some-is (range_in path (layout_of x)) (λ q. q.start ≡ at) n.begins in
    let q = has-path from v x e in
    let outer = compose v x q.path s h q.stands in
    let ranged_out : range_in q.path (layout_of v) ≡ Some r = view-path v x from r s h e there in
    let one : Some r ≡ Some outer.1.range_of = sym ranged_out ∙ outer.1.there in
    let same : outer.1.range_of ≡ r = cc in
    let its_layout : r.layout ≡ layout_of x = subst (λ (k : Range). k.layout ≡ layout_of x) same outer.1.its_layout in
    let ranged : range_in (q.path ++ path) (layout_of v) ≡ Some (further r.start begun.0) =
    range_in-append q.path path (layout_of v) ∙ ap (option_and_then (λ k. option_map (further k.start) (range_in path k.layout))) ranged_out
    ∙ ap (λ (l : Layout). option_map (further r.start) (range_in path l)) its_layout ∙ ap (option_map (further r.start)) begun.1 in
    let stood : value_at (q.path ++ path) v ≡ Some y = value-below q.path path v ∙ ap (option_and_then (value_at path)) q.stands ∙ led.1 in
    let done = put-path v w y (q.path ++ path) (further r.start begun.0) s h lit sw stood led.2 ranged in
    let put_is : put_viewed from (number_put path w x) v ≡ put_tree (q.path ++ path) (with_number w y) v =
    ap (λ (o : Outcome (List ℕ)). elim o [ Ok p ↦ put_tree p (number_put path w x) v | Err f ↦ v ]) q.there
    ∙ ap (λ (o : Option Val). put_tree q.path (elim o [ Some z ↦ put_tree path (with_number w z) x | None ↦ x ]) v) led.1
    ∙ put-append q.path path (with_number w y) v x q.stands in
    let at_is : r.start + begun.0.start ≡ r.start + at = ap (λ (k : ℕ). r.start + k) begun.2 in
    subst (IsNumberPut v w (put_viewed from (number_put path w x) v)) at_is (subst (λ (u : Val). IsNumberPut v w u (r.start + begun.0.start)) (sym put_is) done)

-- a number that stands in so many bytes begins there
pub stands-below : (w : Val) (o len : ℕ) → IsLiteral w → Stands w scalar o len → o ≤ len
stands-below (number kinds.abstract_int z) o len l h = absurd h
stands-below (number kinds.i32 z) o len l h = omega (arith, h)
stands-below (number kinds.u32 z) o len l h = omega (arith, h)
stands-below (number kinds.i64 z) o len l h = omega (arith, h)
stands-below (number kinds.u64 z) o len l h = omega (arith, h)
stands-below (truth b) o len l h = absurd h
stands-below w o len l h = absurd l

-- a fact of what is led to
pub led-is : (P : Val → Type 0) (o : Outcome Val) (x : Val) → o ≡ Ok x → P x → IsOkAnd o P
led-is P o x e h = subst (λ (o : Outcome Val). IsOkAnd o P) (sym e) h

-- where the number stands in the bytes of a cell
pub number-stands-in : (v w : Val) (from : List Step) (l : Located) (at : ℕ) → IsStorable v → has_layout (type_of v) ≡ true → IsLiteral w → IsStorable w → IsPartAt v from l
    → IsOkAnd (viewed from v) (λ x. HasNumberAt x at w) → Stands w scalar (l.start + at) (length (buffer v))
number-stands-in v w from l at s h lit sw part n =
    let a = answered (viewed from v) (λ x. HasNumberAt x at w) n in
    (number-put-in v w a.answer from a.fact.path (part_range l) at s h lit sw a.is part.found a.fact.is).stands_there

-- the cell with these bytes holds the value after the put
pub number-holds : (c : Inside) (bytes : Vec ℕ Global) (v w x : Val) (from : List Step) (path : List ℕ) (l : Located) (at : ℕ) → Holds c v → IsLiteral w → IsStorable w → IsPartAt v from l
    → viewed from v ≡ Ok x → IsNumberAt x path at w → bytes.items ≡ put w scalar (l.start + at) (buffer v)
    → Holds (record { owner = c.owner; count = c.count; bytes = bytes }) (put_viewed from (number_put path w x) v)
number-holds c bytes v w x from path l at h lit sw part e n is =
    let after = (number-put-in v w x from path (part_range l) at h.storable (ap has_layout h.typed ∙ h.laid) lit sw e part.found n).put_there in
    record {
      typed = after.typed ∙ h.typed;
      laid = h.laid;
      counted = h.counted ∙ sym after.counted;
      storable = after.storable;
      bytes = is ∙ after.its_bytes;
    }

-- ---- what the value is after it

-- it has the layout that it had, and may be stored
pub record IsChanged (x new : Val) : Type 0 where
  pub storable : IsStorable new
  pub fit : IsTrue (fits new x)

pub number-changed : (x w : Val) (path : List ℕ) (at : ℕ) → IsStorable x → has_layout (type_of x) ≡ true → IsLiteral w → IsStorable w → IsNumberAt x path at w → IsChanged x (number_put path w x)
number-changed x w path at s h lit sw n =
    let led = some-is (value_at path x) (IsLikeNumber w) n.there in
    let begun = some-is (range_in path (layout_of x)) (λ q. q.start ≡ at) n.begins in
    let done = (put-path x w led.0 path begun.0 s h lit sw led.1 led.2 begun.1).put_there in
    let new = put_tree path (with_number w led.0) x in
    let is : new ≡ number_put path w x = ap (λ (o : Option Val). elim o [ Some z ↦ put_tree path (with_number w z) x | None ↦ x ]) (sym led.1) in
    let alike : layout_of new ≡ layout_of x = ap (λ (k : ℕ). layout k (type_of new)) done.counted ∙ ap (layout (runtime_count x)) done.typed in
    subst (IsChanged x) is (record { storable = done.storable; fit = (fits-laid new x done.storable s h).1 alike })

-- ---- bytes from a part on

-- those of the whole from where the part begins begin with the buffer of the part
pub bytes-from : (v : Val) (steps : List Step) (l : Located) (b : List ℕ) → IsStorable v → has_layout (type_of v) ≡ true → IsOk (viewed steps v) → IsPartAt v steps l → b ≡ buffer v
    → IsOkAnd (viewed steps v) (λ x. take (length (buffer x)) (take (length b - l.start) (drop l.start b)) ≡ buffer x)
bytes-from v steps l b s h ok part is = by (viewed steps v) refl ok
  where
    by : (o : Outcome Val) → viewed steps v ≡ o → IsOk o → IsOkAnd o (λ x. take (length (buffer x)) (take (length b - l.start) (drop l.start b)) ≡ buffer x)
    by (Ok x) e k =
        let q = has-path steps v x e in
        let c = compose v x q.path s h q.stands in
        let ranged = view-path v x steps (part_range l) s h e part.found in
        let one : Some (part_range l) ≡ Some c.1.range_of = sym ranged ∙ c.1.there in
        let same : c.1.range_of ≡ part_range l = cc in
        let its_bytes : bytes_in (buffer v) (part_range l) ≡ buffer x = subst (λ (r : Range). bytes_in (buffer v) r ≡ buffer x) same c.1.its_bytes in
        let its_length : length_in (part_range l).layout ≡ length (buffer x) = subst (λ (r : Range). length_in r.layout ≡ length (buffer x)) same c.1.its_length in
        ap (take (length (buffer x))) (take_rest b l.start ∙ ap (drop l.start) is) ∙ ap (λ (n : ℕ). take n (drop l.start (buffer v))) (sym its_length) ∙ its_bytes
    by (Err f) e k = cc
