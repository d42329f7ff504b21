-- Values that bytes lay out in a place of their own: what is so of them, what fits there, and what a write there makes
-- of the bytes of the whole.
use mathlib.Core.Logic.{inl, inr}
use Rattle.std.proofs.Common.{◌≡◌, ◌⊎◌, ℕ, zero, suc, ◌+◌, ◌≤◌, List, [], ◌∷◌, ◌++◌, length, Option, Some, None, is_some, option_map, option_and_then, Ok, Err, Bool, true, false, if◌then◌else◌, refl, sym, ap, ◌∙◌, subst, arith}
use Rattle.std.specs.Prelude.{◌||◌, ◌↔◌}
use Rattle.std.proofs.lemmas.List.FromFn.{get_or-map-range_with_len}
use Rattle.wgsl_rules.specs.Types.{Ty}
use Rattle.wgsl_rules.specs.Values.{Step, Val, Vals, no_vals, val, item, type_of, IsStorable}
use Rattle.wgsl_rules.specs.Refusals.{Outcome}
use Rattle.wgsl_rules.specs.Paths.{parts, value_at, viewed, put_tree, put_viewed, fits, FitsPlace}
use Rattle.wgsl_rules.proofs.lemmas.Paths.{fits-Decides}
use Rattle.wgsl_values.proofs.lemmas.Replaced.{a_part_replaced, part-storable, put-type}
use Rattle.wgsl_values.proofs.lemmas.ViewedPaths.{has-path}
use Rattle.wgsl_rules.specs.Layout.{has_fixed_layout, has_runtime_layout, has_layout, layout, layout_of, runtime_count, count_in, length_in, type_in, Layout, Parts, no_parts, part, leaves}
use Rattle.wgsl_layout.specs.Buffers.{number_at, byte_at, buffer, decoded, decode}
use Rattle.wgsl_layout.specs.Plan.{Plan, plan_of}
use Rattle.wgsl_layout.specs.Ranges.{Range, range_in, view_range, parts_in, overwritten}
use Rattle.wgsl_layout.specs.Reading.{IsThere}
use Rattle.wgsl_layout.specs.Walk.{put, Stands}
use Rattle.wgsl_layout.proofs.lemmas.Tidy.{tidy}
use Rattle.wgsl_layout.proofs.lemmas.Ranges.{range-is, length-bytes}
use Rattle.wgsl_layout.proofs.lemmas.Follows.{Follows, FollowAll, follows, parts-follow, layout-any}
use Rattle.wgsl_layout.proofs.lemmas.Decoded.{fixed-good, runtime-good}
use Rattle.wgsl_layout.proofs.lemmas.Counts.{count-fixed, count-some}
use Rattle.wgsl_layout.proofs.lemmas.Compose.{compose, laid-decodes}
use Rattle.wgsl_layout.proofs.lemmas.Roundtrip.{lays-itself}
use Rattle.wgsl_layout.proofs.lemmas.Leaves.{IsPaddingZero, layout-bytes-over, padding-byte}
use Rattle.wgsl_layout.proofs.lemmas.Standing.{put-leaves, stands}
use Rattle.wgsl_layout.proofs.lemmas.Places.{fits-count, put-count}
use Rattle.wgsl_layout.proofs.lemmas.Overwritten.{put-overwritten}
use Rattle.wgsl_layout.proofs.lemmas.ViewPaths.{path-in-is, layout-type}

-- ---- what bytes lay out

-- it may be stored, and is of the type and of the layout
pub record IsLaid (n : ℕ) (t : Ty) (v : Val) : Type 0 where
  pub storable : IsStorable v
  pub typed : type_of v ≡ t
  pub laid : has_layout (type_of v) ≡ true
  pub alike : layout_of v ≡ layout n t

laid-by : (n : ℕ) (t : Ty) (v : Val) → has_layout t ≡ true → IsStorable v → type_of v ≡ t → layout (runtime_count v) t ≡ layout n t → IsLaid n t v
laid-by n t v h s e l = record { storable = s; typed = e; laid = ap has_layout e ∙ h; alike = ap (layout (runtime_count v)) e ∙ l }

pub there-laid : (n : ℕ) (t : Ty) (p : Plan) (at len : ℕ) (b : List ℕ) → IsThere n t p at len → IsLaid n t (decoded b at (layout n t))
there-laid n t p at len b h = by (has_fixed_layout t) refl h.laid
  where
    v : Val
    v = decoded b at (layout n t)

    by : (c : Bool) → has_fixed_layout t ≡ c → (c || has_runtime_layout t) ≡ true → IsLaid n t v
    by true f is = let g = fixed-good t n at b f in laid-by n t v h.laid g.0 g.1 (layout-any t (runtime_count v) n f)
    by false f is = let g = runtime-good t n at b is (h.counted f) in laid-by n t v h.laid g.0.0 g.0.1 (ap (λ (k : ℕ). layout k t) g.1)

-- a buffer lays out its value
pub buffer-decodes : (v : Val) → IsStorable v → has_layout (type_of v) ≡ true → decoded (buffer v) 0 (layout_of v) ≡ v
buffer-decodes v s h =
    let l = lays-itself v s h in
    let is : decode (buffer v) (type_of v) ≡ Some (decoded (buffer v) 0 (layout_of v)) =
    ap (λ (c : Bool). if c then option_map (λ n. decoded (buffer v) 0 (layout n (type_of v))) (count_in (length (buffer v)) (type_of v)) else None) h
    ∙ ap (λ (o : Option ℕ). option_map (λ n. decoded (buffer v) 0 (layout n (type_of v))) o) l.counted in
    let own = laid-decodes (buffer v) (type_of v) v l in
    cc (is, own)

-- a whole stands at the start of its buffer
pub whole-there : (v : Val) (n : ℕ) (t : Ty) (p : Plan) (len : ℕ) → IsStorable v → has_layout t ≡ true → type_of v ≡ t → n ≡ runtime_count v → p ≡ plan_of t → len ≡ length (buffer v) → IsThere n t p 0 len
whole-there v n t p len s h e c planned long =
    let own : layout_of v ≡ layout n t = ap (layout (runtime_count v)) e ∙ ap (λ (k : ℕ). layout k t) (sym c) in
    let same_length = ap length_in own in
    let whole = length-bytes (number_at v) (layout_of v) in
    record {
      laid = h;
      counted = λ f. some (is_runtime f);
      planned = planned;
      inside = omega (arith, same_length, whole, long);
    }
  where
    is_runtime : has_fixed_layout t ≡ false → has_runtime_layout (type_of v) ≡ true
    is_runtime f = ap has_runtime_layout e ∙ ap (λ (b : Bool). b || has_runtime_layout t) (sym f) ∙ h

    some : has_runtime_layout (type_of v) ≡ true → 1 ≤ n
    some r = let one = count-some v s r in omega arith

-- ---- what fits

-- what has the layout of a type is of the type
pub type-alike : (w : Val) (n : ℕ) (t : Ty) → layout_of w ≡ layout n t → type_of w ≡ t
type-alike w n t e = sym (layout-type (type_of w) (runtime_count w)) ∙ ap type_in e ∙ layout-type t n

-- values of one layout have the same paths
same-parts : (p : List ℕ) (i : ℕ) (ps : Parts) (vs ws : Vals) → FollowAll ps vs → FollowAll ps ws → ((l : Layout) (x y : Val) → Follows l x → Follows l y → is_some (value_at p x) ≡ is_some (value_at p y))
    → is_some (option_and_then (value_at p) (item i vs)) ≡ is_some (option_and_then (value_at p) (item i ws))
same-parts p i no_parts no_vals no_vals f g on = refl
same-parts p i no_parts no_vals (val w ws) f g on = absurd g
same-parts p i no_parts (val v vs) ws f g on = absurd f
same-parts p i (part o l ps) no_vals ws f g on = absurd f
same-parts p i (part o l ps) (val v vs) no_vals f g on = absurd g
same-parts p zero (part o l ps) (val v vs) (val w ws) f g on = on l v w f.1 g.1
same-parts p (suc i) (part o l ps) (val v vs) (val w ws) f g on = same-parts p i ps vs ws f.2 g.2 on

same-layout-paths : (p : List ℕ) (l : Layout) (v w : Val) → Follows l v → Follows l w → is_some (value_at p v) ≡ is_some (value_at p w)
same-layout-paths [] l v w f g = refl
same-layout-paths (i ∷ p) l v w f g = same-parts p i (parts_in l) (parts v) (parts w) (parts-follow l v f) (parts-follow l w g) (λ q x y. same-layout-paths p q x y)

-- a value fits where it has the layout of what is there
pub fits-laid : (w v : Val) → IsStorable w → IsStorable v → has_layout (type_of v) ≡ true → (fits w v ≡ true) ↔ (layout_of w ≡ layout_of v)
fits-laid w v s t h = (to, from)
  where
    to : fits w v ≡ true → layout_of w ≡ layout_of v
    to f =
        let fit : FitsPlace w v = (fits-Decides w v).0 f in
        ap (λ (k : ℕ). layout k (type_of w)) (fits-count w v s t fit) ∙ ap (layout (runtime_count v)) fit.0

    from : layout_of w ≡ layout_of v → fits w v ≡ true
    from e =
        let typed = type-alike w (runtime_count v) (type_of v) e in
        let own : Follows (layout_of v) w = subst (λ (l : Layout). Follows l w) e (follows w s (ap has_layout typed ∙ h)) in
        (fits-Decides w v).1 (typed, λ p. same-layout-paths p (layout_of v) w v own (follows v t h))

-- a value of the type has the layout where it has as many elements, or none
pub counted-alike : (w : Val) (n m : ℕ) (t : Ty) → IsStorable w → has_layout t ≡ true → type_of w ≡ t → m ≡ runtime_count w → (has_fixed_layout t ≡ false → 1 ≤ n)
    → (layout_of w ≡ layout n t) ↔ ((m ≡ 0) ⊎ (m ≡ n))
counted-alike w n m t s h e c one = (to, from)
  where
    own : has_layout (type_of w) ≡ true
    own = ap has_layout e ∙ h

    turned : layout_of w ≡ layout m t
    turned = ap (layout (runtime_count w)) e ∙ ap (λ (k : ℕ). layout k t) (sym c)

    -- a value of the layout, for its count
    runtime : has_fixed_layout t ≡ false → has_runtime_layout t ≡ true → layout_of w ≡ layout n t → m ≡ n
    runtime f r is =
        let v = decoded [] 0 (layout n t) in
        let g = runtime-good t n 0 [] r (one f) in
        let v_is : layout_of v ≡ layout n t = ap (layout (runtime_count v)) g.0.1 ∙ ap (λ (k : ℕ). layout k t) g.1 in
        let fit = (fits-laid w v s g.0.0 (ap has_layout g.0.1 ∙ h)).1 (is ∙ sym v_is) in
        c ∙ fits-count w v s g.0.0 ((fits-Decides w v).0 fit) ∙ g.1

    to : layout_of w ≡ layout n t → (m ≡ 0) ⊎ (m ≡ n)
    to is = by (has_fixed_layout t) refl h
      where
        by : (b : Bool) → has_fixed_layout t ≡ b → (b || has_runtime_layout t) ≡ true → (m ≡ 0) ⊎ (m ≡ n)
        by true f r = inl (c ∙ count-fixed w s (ap has_fixed_layout e ∙ f))
        by false f r = inr (runtime f r is)

    none : m ≡ 0 → (b : Bool) → has_fixed_layout t ≡ b → (b || has_runtime_layout t) ≡ true → layout_of w ≡ layout n t
    none z true f r = turned ∙ layout-any t m n f
    none z false f r = let some = count-some w s (ap has_runtime_layout e ∙ r) in absurd (omega arith)

    from : (m ≡ 0) ⊎ (m ≡ n) → layout_of w ≡ layout n t
    from (inl z) = none z (has_fixed_layout t) refl h
    from (inr k) = turned ∙ ap (λ (q : ℕ). layout q t) k

-- ---- a write in place

-- a value of the layout stands where the part does
pub stands-there : (w : Val) (n : ℕ) (t : Ty) (p : Plan) (at len : ℕ) → IsThere n t p at len → IsStorable w → layout_of w ≡ layout n t → Stands w p at len
stands-there w n t p at len h s e =
    let typed = type-alike w n t e in
    let own : has_layout (type_of w) ≡ true = ap has_layout typed ∙ h.laid in
    let same_length = ap length_in e in
    subst (λ (k : Plan). Stands w k at len) (ap plan_of typed ∙ sym h.planned) (stands w at len s own (omega (arith, h.inside, same_length)))

-- where a part stands, the padding of its layout is 0
padding-zero : (v : Val) (p : List ℕ) (r : Range) → has_layout (type_of v) ≡ true → range_in p (layout_of v) ≡ Some r → IsPaddingZero (buffer v) r.start r.layout
padding-zero v p r h e =
    let l = layout_of v in
    let at_path = range-is (number_at v) p l r (tidy (type_of v) (runtime_count v) h).0 e in
    record {
      zeros = λ j lt is.
          let z : 0 + (r.start + j) ≡ r.start + j = omega arith in
          get_or-map-range_with_len (byte_at (number_at v) (leaves l)) 0 (length_in l) (r.start + j) (r.start + j) 0 (omega (arith, at_path.inside)) z
          ∙ at_path.same_bytes j lt ∙ padding-byte (λ q. number_at v (p ++ q)) (leaves r.layout) j is;
    }

-- what a value is after a put, and its bytes
pub record IsPut (v new : Val) (bytes : List ℕ) : Type 0 where
  pub storable : IsStorable new
  pub typed : type_of new ≡ type_of v
  pub counted : runtime_count new ≡ runtime_count v
  pub its_bytes : bytes ≡ buffer new

-- the scalars of what fits the place at a path, written there
pub put-at-path : (v w x : Val) (path : List ℕ) (r : Range) (p : Plan) → IsStorable v → has_layout (type_of v) ≡ true → IsStorable w → value_at path v ≡ Some x → FitsPlace w x
    → range_in path (layout_of v) ≡ Some r → p ≡ plan_of (type_of w) → IsPut v (put_tree path w v) (put w p r.start (buffer v))
put-at-path v w x path r p s h t stands fit ranged planned =
    let l = layout_of v in
    let sx = part-storable path v x s stands in
    let c = compose v x path s h stands in
    let over = put-overwritten v w x path s h t stands fit in
    let one : Some r ≡ Some over.range_of = sym ranged ∙ over.there in
    let same_range : r ≡ over.range_of = cc in
    let two : Some r ≡ Some c.1.range_of = sym ranged ∙ c.1.there in
    let same_part : r ≡ c.1.range_of = cc in
    let own : has_layout (type_of w) ≡ true = ap has_layout fit.0 ∙ c.0 in
    let fit_layout : layout_of w ≡ layout_of x = ap (λ (k : ℕ). layout k (type_of w)) (fits-count w x t sx fit) ∙ ap (layout (runtime_count x)) fit.0 in
    let alike : r.layout ≡ layout_of w = ap (λ (k : Range). k.layout) same_part ∙ c.1.its_layout ∙ sym fit_layout in
    let at_path = range-is (number_at v) path l r (tidy (type_of v) (runtime_count v) h).0 ranged in
    let whole = length-bytes (number_at v) l in
    let same_length = ap length_in alike in
    let zero_padding : IsPaddingZero (buffer v) r.start (layout_of w) = subst (λ (k : Layout). IsPaddingZero (buffer v) r.start k) alike (padding-zero v path r h ranged) in
    let written : put w p r.start (buffer v) ≡ overwritten (buffer v) r.start (buffer w) =
    ap (λ (k : Plan). put w k r.start (buffer v)) planned ∙ put-leaves w r.start (buffer v) t own
    ∙ layout-bytes-over (number_at w) (layout_of w) r.start (buffer v) (tidy (type_of w) (runtime_count w) own).0 (omega (arith, at_path.inside, whole, same_length)) zero_padding in
    record {
      storable = (a_part_replaced path v w x s stands t fit.0).storable;
      typed = put-type path w v x stands fit.0;
      counted = put-count path w v x t sx stands fit;
      its_bytes = written ∙ ap (λ (k : Range). overwritten (buffer v) k.start (buffer w)) same_range ∙ sym over.its_bytes;
    }

-- at the path of a view
pub put-in-place : (v w x : Val) (steps : List Step) (r : Range) (p : Plan) → IsStorable v → has_layout (type_of v) ≡ true → IsStorable w → viewed steps v ≡ Ok x → fits w x ≡ true
    → view_range steps (layout_of v) ≡ Some r → p ≡ plan_of (type_of w) → IsPut v (put_viewed steps w v) (put w p r.start (buffer v))
put-in-place v w x steps r p s h t e f there planned =
    let q = has-path steps v x e in
    let put_is : put_viewed steps w v ≡ put_tree q.path w v = ap (λ (o : Outcome (List ℕ)). elim o [ Ok q ↦ put_tree q w v | Err r ↦ v ]) q.there in
    let path_is = path-in-is steps (layout_of v) v q.path (refl, h) (follows v s h) q.there in
    let ranged : range_in q.path (layout_of v) ≡ Some r = ap (λ (o : Option (List ℕ)). option_and_then (λ p. range_in p (layout_of v)) o) (sym path_is) ∙ there in
    subst (λ (n : Val). IsPut v n (put w p r.start (buffer v))) (sym put_is) (put-at-path v w x q.path r p s h t q.stands ((fits-Decides w x).0 f) ranged planned)
