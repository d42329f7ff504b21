-- Numbers put side by side in what references name, one after the other.
use Rattle.std.proofs.Common.{◌≡◌, ℕ, zero, suc, ◌+◌, ◌*◌, ◌<◌, ◌≤◌, List, [], ◌∷◌, ◌++◌, length, map, get_or, slice_get, Option, Some, None, is_some, option_map, option_and_then, Ok, true, false, refl, sym, ap, ◌∙◌, subst, arith}
use Rattle.std.specs.Prelude.{IsOkAnd, IsSomeAnd, IfSome}
use Rattle.std.proofs.lemmas.Bool.{false≢true}
use Rattle.std.proofs.lemmas.List.{length-map}
use Rattle.std.proofs.lemmas.Option.{slice_get-get_or, slice_get-map}
use Rattle.wgsl_rules.specs.Layout.{Layout, has_layout, layout, layout_of, runtime_count, type_in}
use Rattle.wgsl_rules.specs.Paths.{fits, parts, put_tree, put_viewed, replace_item, value_at, with_parts, FitsPlace}
use Rattle.wgsl_rules.specs.Refusals.{Outcome}
use Rattle.wgsl_rules.specs.Values.{Reference, Val, truth, number, record_of, array_of, vector, matrix, Vals, no_vals, val, count, item, type_of, IsLiteral, AreLiterals, IsStorable}
use Rattle.wgsl_rules.specs.declared.syntax.AccessMode.TheVariants.{ReadWrite}
use Rattle.wgsl_rules.proofs.lemmas.Paths.{fits-Decides, put-held, parts-replaced}
use Rattle.wgsl_scalar.specs.Literals.{literal_of}
use Rattle.wgsl_scalar.specs.declared.literal.LiteralInstance.{LiteralInstance}
use Rattle.wgsl_values.specs.Iterators.{listed}
use Rattle.wgsl_values.specs.View.{vals_of}
use Rattle.wgsl_values.proofs.lemmas.PutTwice.{put-twice}
use Rattle.wgsl_values.proofs.lemmas.Replaced.{part-storable, put-type}
use Rattle.wgsl_values.proofs.Listed.{length-listed}
use Rattle.wgsl_layout.specs.Buffers.{buffer}
use Rattle.wgsl_store.specs.Copies.{in_bytes, is_bytes}
use Rattle.wgsl_store.specs.Memory.{held, IsKept, IsSound, put_cells}
use Rattle.wgsl_store.specs.MemoryLaws.{KeepsLayouts, StaysKept}
use Rattle.wgsl_layout.specs.NumbersIn.{HasNumberAt, IsLikeNumber, IsNumberAt, number_put, with_number}
use Rattle.wgsl_layout.specs.Plan.{plan_of}
use Rattle.wgsl_layout.specs.Ranges.{Range, range_in}
use Rattle.wgsl_layout.specs.Walk.{put}
use Rattle.wgsl_layout.proofs.lemmas.Compose.{value-below}
use Rattle.wgsl_layout.proofs.lemmas.Flat.{IsPut, fits-laid, put-at-path}
use Rattle.wgsl_store.proofs.lemmas.Held.{held-value}
use Rattle.wgsl_layout.proofs.lemmas.ViewPaths.{layout-type}
use Rattle.wgsl_store.proofs.lemmas.Writes.{accepts, at-own, held-after, put-cell, written-back, put-own, fits-own, at-twice}
use Rattle.wgsl_places.specs.Laws.{components_in}
use Rattle.wgsl_places.specs.Rows.{HasRow, IsRow}
use Rattle.wgsl_places.proofs.MemoryCalls.{each-named, fact-of, names-laid}
use Rattle.wgsl_layout.proofs.Outcomes.{answered}
use Rattle.wgsl_layout.proofs.NumberPuts.{led-is}
use Rattle.wgsl_layout.proofs.NumberPuts.{some-is}
use Rattle.wgsl_places.proofs.SideBySide.{nothing}
use Rattle.wgsl_layout.proofs.NumberPuts.{is-literal}
use Rattle.wgsl_store.proofs.CopiedCells.{bytes-is as bytes-at}

-- ---- components of which the first are new

abbrev pub first_new : ℕ → List LiteralInstance → Vals → Vals
first_new zero ls vs = vs
first_new (suc i) [] vs = vs
first_new (suc i) (l ∷ ls) no_vals = no_vals
first_new (suc i) (l ∷ ls) (val v vs) = val (literal_of l) (first_new i ls vs)

new-all : (ls : List LiteralInstance) (vs : Vals) → count vs ≡ length ls → first_new (length ls) ls vs ≡ vals_of (map literal_of ls)
new-all [] no_vals e = refl
new-all [] (val v vs) e = absurd (cc (e))
new-all (l ∷ ls) no_vals e = absurd (cc (e))
new-all (l ∷ ls) (val v vs) e = let same : count vs ≡ length ls = cc (e) in ap (val (literal_of l)) (new-all ls vs same)

-- one more
new-next : (i : ℕ) (ls : List LiteralInstance) (vs : Vals) → i < length ls → replace_item i (put_tree [] (literal_of (get_or ls i nothing))) (first_new i ls vs) ≡ first_new (suc i) ls vs
new-next i [] vs lt = absurd (omega arith)
new-next zero (l ∷ ls) no_vals lt = refl
new-next zero (l ∷ ls) (val v vs) lt = refl
new-next (suc i) (l ∷ ls) no_vals lt = refl
new-next (suc i) (l ∷ ls) (val v vs) lt = ap (val (literal_of l)) (new-next i ls vs (omega arith))

-- the others are as before
new-later : (i j : ℕ) (ls : List LiteralInstance) (vs : Vals) → i ≤ j → item j (first_new i ls vs) ≡ item j vs
new-later zero j ls vs le = refl
new-later (suc i) j [] vs le = refl
new-later (suc i) j (l ∷ ls) no_vals le = refl
new-later (suc i) zero (l ∷ ls) (val v vs) le = absurd (omega arith)
new-later (suc i) (suc j) (l ∷ ls) (val v vs) le = new-later i j ls vs (omega arith)

-- ---- what is put in a part that was put

replaced-both : (i : ℕ) (f g h : Val → Val) (vs : Vals) → ((z : Val) → f (g z) ≡ h z) → replace_item i f (replace_item i g vs) ≡ replace_item i h vs
replaced-both i f g h no_vals on = refl
replaced-both zero f g h (val v vs) on = ap (λ (z : Val). val z vs) (on v)
replaced-both (suc i) f g h (val v vs) on = ap (val v) (replaced-both i f g h vs on)

parts-twice : (v : Val) (vs ws : Vals) → with_parts (with_parts v vs) ws ≡ with_parts v ws
parts-twice (record_of t us) vs ws = refl
parts-twice (array_of runtime us) vs ws = refl
parts-twice (vector us) vs ws = refl
parts-twice (matrix us) vs ws = refl
parts-twice v vs ws = refl

put-below : (p q : List ℕ) (w v x : Val) → put_tree (p ++ q) w (put_tree p v x) ≡ put_tree p (put_tree q w v) x
put-below [] q w v x = refl
put-below (i ∷ p) q w v x =
    let ps = replace_item i (put_tree p v) (parts x) in
    ap (λ (vs : Vals). with_parts (with_parts x ps) (replace_item i (put_tree (p ++ q) w) vs)) (parts-replaced i (put_tree p v) x)
    ∙ parts-twice x ps (replace_item i (put_tree (p ++ q) w) ps)
    ∙ ap (with_parts x) (replaced-both i (put_tree (p ++ q) w) (put_tree p v) (put_tree p (put_tree q w v)) (parts x) (λ z. put-below p q w v z))

-- ---- what is put where it stood

-- no cell changes
cells-own : (cells : List Val) (r : Reference) (x : Val) → held cells r ≡ Ok x → put_cells cells r x ≡ cells
cells-own cells r x h =
    let q : Reference = record { cell = r.cell; view = r.view; ty = r.ty; space = r.space; access = ReadWrite } in
    let same : ◌≡◌ {A = Outcome (List Val)} (Ok (put_cells cells r x)) (Ok cells) = sym (accepts cells q x x refl h (fits-own x)) ∙ written-back cells q x refl h in
    cc (same)

-- ---- literals

item-literal : (i : ℕ) (vs : Vals) (y : Val) → AreLiterals vs → item i vs ≡ Some y → IsLiteral y
item-literal i no_vals y h e = absurd (cc (e))
item-literal zero (val v vs) y h e = let same : v ≡ y = cc (e) in subst IsLiteral same h.0
item-literal (suc i) (val v vs) y h e = item-literal i vs y h.1 e

with-literal : (w y : Val) → IsLiteral y → with_number w y ≡ w
with-literal w (truth b) h = refl
with-literal w (number k z) h = refl
with-literal w y h = absurd h

same-paths : (w y : Val) → IsLiteral w → IsLiteral y → (p : List ℕ) → is_some (value_at p w) ≡ is_some (value_at p y)
same-paths w y lw ly [] = refl
same-paths (truth b) (truth c) lw ly (i ∷ p) = refl
same-paths (truth b) (number k z) lw ly (i ∷ p) = refl
same-paths (number j x) (truth c) lw ly (i ∷ p) = refl
same-paths (number j x) (number k z) lw ly (i ∷ p) = refl
same-paths (truth b) y lw ly p = absurd ly
same-paths (number j x) y lw ly p = absurd ly
same-paths w y lw ly p = absurd lw

literal-fits : (w y : Val) → IsLiteral w → IsLiteral y → IsLikeNumber w y → FitsPlace w y
literal-fits w (number k z) lw ly like = (like, same-paths w (number k z) lw ly)
literal-fits w (truth b) lw ly like = absurd like
literal-fits w y lw ly like = absurd ly

-- ---- the vector that stands there

record IsVectorAt (x : Val) (path : List ℕ) (n : ℕ) : Type 0 where
  components : Vals
  there : value_at path x ≡ Some (vector components)
  many : count components ≡ n

vector-there : (x : Val) (path : List ℕ) (n : ℕ) → option_map length (option_and_then components_in (value_at path x)) ≡ Some n → IsVectorAt x path n
vector-there x path n e = by (value_at path x) refl e
  where
    at : (v : Val) → value_at path x ≡ Some v → option_map length (components_in v) ≡ Some n → IsVectorAt x path n
    at (vector vs) is e = let long : length (listed vs) ≡ n = cc (e) in record { components = vs; there = is; many = sym (length-listed vs) ∙ long }
    at v is e = absurd (cc (e))

    by : (o : Option Val) → value_at path x ≡ o → option_map length (option_and_then components_in o) ≡ Some n → IsVectorAt x path n
    by None is e = absurd (cc (e))
    by (Some v) is e = at v is e

-- ---- what is held after so many puts

abbrev pub with_first : ℕ → List LiteralInstance → Vals → List ℕ → Val → Val
with_first i ls vs path x = put_tree path (vector (first_new i ls vs)) x

pub record IsStage (old now : List Val) (r : Reference) (path : List ℕ) (x : Val) (ls : List LiteralInstance) (i : ℕ) : Type 0 where
  pub before : Vals
  pub there : value_at path x ≡ Some (vector before)
  pub storable : IsStorable (with_first i ls before path x)
  pub alike : layout_of (with_first i ls before path x) ≡ layout_of x
  pub fit : fits (with_first i ls before path x) x ≡ true
  pub cells : now ≡ put_cells old r (with_first i ls before path x)

first-stage : (old : List Val) (r : Reference) (path : List ℕ) (x : Val) (ls : List LiteralInstance) (vs : Vals) → IsStorable x → held old r ≡ Ok x → value_at path x ≡ Some (vector vs) → IsStage old old r path x ls 0
first-stage old r path x ls vs s h there =
    let own : put_tree path (vector vs) x ≡ x = put-own path (vector vs) x there in
    record {
      before = vs;
      there = there;
      storable = subst IsStorable (sym own) s;
      alike = ap layout_of own;
      fit = ap (λ (u : Val). fits u x) own ∙ fits-own x;
      cells = sym (ap (put_cells old r) own ∙ cells-own old r x h);
    }

stage-held : (old now : List Val) (r : Reference) (path : List ℕ) (x : Val) (ls : List LiteralInstance) (i : ℕ) → IsSound old → held old r ≡ Ok x → (st : IsStage old now r path x ls i) → held now r ≡ Ok (with_first i ls st.before path x)
stage-held old now r path x ls i s h st = ap (λ (cs : List Val). held cs r) st.cells ∙ held-after old r (with_first i ls st.before path x) x s st.storable h st.fit

-- a cell stays bytes
stage-bytes : (old now : List Val) (r : Reference) (path : List ℕ) (x : Val) (ls : List LiteralInstance) (i : ℕ) → IsSound old → held old r ≡ Ok x → IsStage old now r path x ls i → in_bytes now r ≡ in_bytes old r
stage-bytes old now r path x ls i s h st =
    let new = with_first i ls st.before path x in
    let c = put-cell old r new x s st.storable h st.fit in
    let typed : type_of new ≡ type_of x = ((fits-Decides new x).0 st.fit).0 in
    ap (λ (cs : List Val). in_bytes cs r) st.cells
    ∙ bytes-at (put_cells old r new) r (put_viewed r.view new c.cell) (at-own old r.cell (put_viewed r.view new) c.cell c.there)
    ∙ ap is_bytes c.put
    ∙ ap has_layout (put-type c.path new c.cell x c.stands typed)
    ∙ sym (bytes-at old r c.cell c.there)

-- ---- the next number

record IsNext (x : Val) (path : List ℕ) (i at : ℕ) (w : Val) : Type 0 where
  old : Val
  stood : value_at (path ++ i ∷ []) x ≡ Some old
  literal : IsLiteral old
  like : IsLikeNumber w old
  is : IsNumberAt x (path ++ i ∷ []) at w

at-one : (o : Option Val) → option_and_then (value_at []) o ≡ o
at-one None = refl
at-one (Some v) = refl

next-number : (old now : List Val) (r : Reference) (path : List ℕ) (x : Val) (at far : ℕ) (ls : List LiteralInstance) (i : ℕ) → IsStorable x → IsRow x path at far (map literal_of ls) → i < length ls
    → (st : IsStage old now r path x ls i) → IsNext (with_first i ls st.before path x) path i (at + i * far) (literal_of (get_or ls i nothing))
next-number old now r path x at far ls i s row lt st = record {
  old = led.0;
  stood = stood;
  literal = item-literal i st.before led.0 ((part-storable path x (vector st.before) s st.there).2) own;
  like = led.2;
  is = record {
    there = subst (λ (o : Option Val). IsSomeAnd o (IsLikeNumber w)) (sym stood) led.2;
    begins = subst (λ (l : Layout). IsSomeAnd (range_in (path ++ i ∷ []) l) (λ q. q.start ≡ at + i * far)) (sym st.alike) num.begins;
  };
}
  where
    w : Val
    w = literal_of (get_or ls i nothing)

    num : IsNumberAt x (path ++ i ∷ []) (at + i * far) w
    num =
        let is : slice_get (map literal_of ls) i ≡ Some w = slice_get-map literal_of ls i ∙ ap (option_map literal_of) (slice_get-get_or ls i nothing lt) in
        subst (λ (o : Option Val). IfSome o (IsNumberAt x (path ++ i ∷ []) (at + i * far))) is (row.each i)

    led : (y : Val) × (value_at (path ++ i ∷ []) x ≡ Some y) × IsLikeNumber w y
    led = some-is (value_at (path ++ i ∷ []) x) (IsLikeNumber w) num.there

    own : item i st.before ≡ Some led.0
    own = sym (value-below path (i ∷ []) x ∙ ap (option_and_then (value_at (i ∷ []))) st.there ∙ at-one (item i st.before)) ∙ led.1

    stood : value_at (path ++ i ∷ []) (with_first i ls st.before path x) ≡ Some led.0
    stood =
        value-below path (i ∷ []) (with_first i ls st.before path x)
        ∙ ap (option_and_then (value_at (i ∷ []))) (put-held path (vector (first_new i ls st.before)) x (ap (λ (o : Option Val). is_some o) st.there))
        ∙ at-one (item i (first_new i ls st.before)) ∙ new-later i i ls st.before (omega arith) ∙ own

next-stage : (old now after : List Val) (r : Reference) (path : List ℕ) (x : Val) (at : ℕ) (ls : List LiteralInstance) (i : ℕ) → IsStorable x → has_layout (type_of x) ≡ true → i < length ls
    → IsStorable (literal_of (get_or ls i nothing)) → (st : IsStage old now r path x ls i) → IsNext (with_first i ls st.before path x) path i at (literal_of (get_or ls i nothing))
    → after ≡ put_cells now r (number_put (path ++ i ∷ []) (literal_of (get_or ls i nothing)) (with_first i ls st.before path x)) → IsStage old after r path x ls (suc i)
next-stage old now after r path x at ls i s laid lt sw st n e = record {
  before = st.before;
  there = st.there;
  storable = storable;
  alike = alike;
  fit = (fits-laid new x storable s laid).1 alike;
  cells = e
      ∙ ap (put_cells now r) put_is
      ∙ ap (λ (cs : List Val). put_cells cs r new) st.cells
      ∙ at-twice old r.cell (put_viewed r.view was) (put_viewed r.view new) (λ u. put-twice r.view new was u);
}
  where
    w : Val
    w = literal_of (get_or ls i nothing)

    was : Val
    was = with_first i ls st.before path x

    new : Val
    new = with_first (suc i) ls st.before path x

    tree : put_tree (path ++ i ∷ []) w was ≡ new
    tree = put-below path (i ∷ []) w (vector (first_new i ls st.before)) x ∙ ap (λ (us : Vals). put_tree path (vector us) x) (new-next i ls st.before lt)

    put_is : number_put (path ++ i ∷ []) w was ≡ new
    put_is =
        ap (λ (o : Option Val). elim o [ Some z ↦ put_tree (path ++ i ∷ []) (with_number w z) was | None ↦ was ]) n.stood
        ∙ ap (λ (u : Val). put_tree (path ++ i ∷ []) u was) (with-literal w n.old n.literal) ∙ tree

    typed : type_of was ≡ type_of x
    typed = sym (layout-type (type_of was) (runtime_count was)) ∙ ap type_in st.alike ∙ layout-type (type_of x) (runtime_count x)

    begun : (q : Range) × (range_in (path ++ i ∷ []) (layout_of was) ≡ Some q) × (q.start ≡ at)
    begun = some-is (range_in (path ++ i ∷ []) (layout_of was)) (λ q. q.start ≡ at) n.is.begins

    done : IsPut was (put_tree (path ++ i ∷ []) w was) (put w (plan_of (type_of w)) begun.0.start (buffer was))
    done = put-at-path was w n.old (path ++ i ∷ []) begun.0 (plan_of (type_of w)) st.storable (ap has_layout typed ∙ laid) sw n.stood (literal-fits w n.old (is-literal (get_or ls i nothing)) n.literal n.like) begun.1 refl

    storable : IsStorable new
    storable = subst IsStorable tree done.storable

    alike : layout_of new ≡ layout_of x
    alike = ap layout_of (sym tree) ∙ ap (λ (k : ℕ). layout k (type_of (put_tree (path ++ i ∷ []) w was))) done.counted ∙ ap (layout (runtime_count was)) done.typed ∙ st.alike

-- ---- the loop

pub record IsPartly (old now : List Val) (r : Reference) (at far : ℕ) (ls : List LiteralInstance) (i : ℕ) : Type 0 where
  pub within : i ≤ length ls
  pub stays : StaysKept old now
  pub layouts : KeepsLayouts old now
  pub none : i ≡ 0 → now ≡ old
  pub flat : 0 < i → in_bytes old r ≡ true
  pub stages : (path : List ℕ) → IsOkAnd (held old r) (λ x. IsRow x path at far (map literal_of ls) → IsStage old now r path x ls i)

pub partly-init : (old : List Val) (r : Reference) (at far : ℕ) (ls : List LiteralInstance) → IsSound old → IsKept old r → IsPartly old old r at far ls 0
partly-init old r at far ls s k = record {
  within = omega arith;
  stays = record { sound = s; keeps = λ q kept. kept };
  layouts = λ q kept. refl;
  none = λ e. refl;
  flat = λ lt. absurd (omega arith);
  stages = λ path. each-named old r (λ x. IsRow x path at far (map literal_of ls) → IsStage old old r path x ls 0) k
      (λ x e typed row. let v = vector-there x path (length (map literal_of ls)) row.many in first-stage old r path x ls v.components (held-value old r x s e).0 e v.there);
}

-- what is held, with the stage of the row that it has
record IsHeld (old now : List Val) (r : Reference) (at far : ℕ) (ls : List LiteralInstance) (i : ℕ) : Type 0 where
  value : Val
  path : List ℕ
  is : held old r ≡ Ok value
  storable : IsStorable value
  row : IsRow value path at far (map literal_of ls)
  stage : IsStage old now r path value ls i

held-stage : (old now : List Val) (r : Reference) (at far : ℕ) (ls : List LiteralInstance) (i : ℕ) → IsSound old → IsOkAnd (held old r) (λ x. HasRow x at far (map literal_of ls)) → IsPartly old now r at far ls i → IsHeld old now r at far ls i
held-stage old now r at far ls i s h inv =
    let a = answered (held old r) (λ x. HasRow x at far (map literal_of ls)) h in
    record {
      value = a.answer;
      path = a.fact.path;
      is = a.is;
      storable = (held-value old r a.answer s a.is).0;
      row = a.fact.is;
      stage = fact-of (λ x. IsRow x a.fact.path at far (map literal_of ls) → IsStage old now r a.fact.path x ls i) (held old r) a.answer a.is (inv.stages a.fact.path) a.fact.is;
    }

-- the next number has a place there
pub partly-there : (old now : List Val) (r : Reference) (at far : ℕ) (ls : List LiteralInstance) (i : ℕ) → IsSound old → IsOkAnd (held old r) (λ x. HasRow x at far (map literal_of ls)) → IsPartly old now r at far ls i → i < length ls
    → IsOkAnd (held now r) (λ x. HasNumberAt x (at + i * far) (literal_of (get_or ls i nothing)))
partly-there old now r at far ls i s h inv lt =
    let k = held-stage old now r at far ls i s h inv in
    let n = next-number old now r k.path k.value at far ls i k.storable k.row lt k.stage in
    led-is (λ x. HasNumberAt x (at + i * far) (literal_of (get_or ls i nothing))) (held now r) (with_first i ls k.stage.before k.path k.value) (stage-held old now r k.path k.value ls i s k.is k.stage)
    (record { path = k.path ++ i ∷ []; is = n.is })

-- the cell is bytes where it was
pub partly-bytes : (old now : List Val) (r : Reference) (at far : ℕ) (ls : List LiteralInstance) (i : ℕ) → IsSound old → IsOkAnd (held old r) (λ x. HasRow x at far (map literal_of ls)) → IsPartly old now r at far ls i → in_bytes now r ≡ in_bytes old r
partly-bytes old now r at far ls i s h inv = let k = held-stage old now r at far ls i s h inv in stage-bytes old now r k.path k.value ls i s k.is k.stage

-- where it isn't, nothing has changed
pub partly-none : (old now : List Val) (r : Reference) (at far : ℕ) (ls : List LiteralInstance) (i : ℕ) → IsPartly old now r at far ls i → in_bytes old r ≡ false → now ≡ old
partly-none old now r at far ls zero inv f = inv.none refl
partly-none old now r at far ls (suc i) inv f = absurd (false≢true (sym f ∙ inv.flat (omega arith)))

pub partly-next : (old now after : List Val) (r : Reference) (at far : ℕ) (ls : List LiteralInstance) (i : ℕ) → IsSound old → IsKept old r → IsOkAnd (held old r) (λ x. HasRow x at far (map literal_of ls)) → IsPartly old now r at far ls i → i < length ls
    → IsStorable (literal_of (get_or ls i nothing)) → in_bytes now r ≡ true → StaysKept now after → KeepsLayouts now after
    → ((path : List ℕ) → IsOkAnd (held now r) (λ x. IsNumberAt x path (at + i * far) (literal_of (get_or ls i nothing)) → after ≡ put_cells now r (number_put path (literal_of (get_or ls i nothing)) x)))
    → IsPartly old after r at far ls (suc i)
partly-next old now after r at far ls i s kept h inv lt sw flat stays layouts put = record {
  within = omega arith;
  stays = record { sound = stays.sound; keeps = λ q k. stays.keeps q (inv.stays.keeps q k) };
  layouts = λ q k. layouts q (inv.stays.keeps q k) ∙ inv.layouts q k;
  none = λ e. absurd (cc (e));
  flat = λ _. bytes;
  stages = λ path. each-named old r (λ x. IsRow x path at far (map literal_of ls) → IsStage old after r path x ls (suc i)) kept (λ x e typed row. next path x e row);
}
  where
    w : Val
    w = literal_of (get_or ls i nothing)

    bytes : in_bytes old r ≡ true
    bytes = sym (partly-bytes old now r at far ls i s h inv) ∙ flat

    next : (path : List ℕ) (x : Val) → held old r ≡ Ok x → IsRow x path at far (map literal_of ls) → IsStage old after r path x ls (suc i)
    next path x e row =
        let st = fact-of (λ x. IsRow x path at far (map literal_of ls) → IsStage old now r path x ls i) (held old r) x e (inv.stages path) row in
        let sx = (held-value old r x s e).0 in
        let n = next-number old now r path x at far ls i sx row lt st in
        let told = fact-of (λ x. IsNumberAt x (path ++ i ∷ []) (at + i * far) w → after ≡ put_cells now r (number_put (path ++ i ∷ []) w x)) (held now r) (with_first i ls st.before path x) (stage-held old now r path x ls i s e st)
        (put (path ++ i ∷ [])) n.is in
        next-stage old now after r path x (at + i * far) ls i sx (names-laid old r x s e bytes) lt sw st n told

-- ---- all of them are put

pub all-put : (old now : List Val) (r : Reference) (at far : ℕ) (ls : List LiteralInstance) (i : ℕ) → IsKept old r → IsPartly old now r at far ls i → length ls ≤ i
    → (path : List ℕ) → IsOkAnd (held old r) (λ x. IsRow x path at far (map literal_of ls) → now ≡ put_cells old r (put_tree path (vector (vals_of (map literal_of ls))) x))
all-put old now r at far ls i k inv past path =
    each-named old r (λ x. IsRow x path at far (map literal_of ls) → now ≡ put_cells old r (put_tree path (vector (vals_of (map literal_of ls))) x)) k
    (λ x e typed row.
    let st = fact-of (λ x. IsRow x path at far (map literal_of ls) → IsStage old now r path x ls i) (held old r) x e (inv.stages path) row in
    let v = vector-there x path (length (map literal_of ls)) row.many in
    let same : Some (vector v.components) ≡ Some (vector st.before) = sym v.there ∙ st.there in
    let own : v.components ≡ st.before = cc (same) in
    let many : count st.before ≡ length ls = ap count (sym own) ∙ v.many ∙ length-map ls literal_of in
    let all : i ≡ length ls = omega (arith, inv.within) in
    st.cells ∙ ap (λ (vs : Vals). put_cells old r (put_tree path (vector vs) x)) (ap (λ (j : ℕ). first_new j ls st.before) all ∙ new-all ls st.before many))

-- a vector has components, so the cell is bytes
pub all-bytes : (old now : List Val) (r : Reference) (at far : ℕ) (ls : List LiteralInstance) (i : ℕ) → IsSound old → IsOkAnd (held old r) (λ x. HasRow x at far (map literal_of ls)) → IsPartly old now r at far ls i → length ls ≤ i → in_bytes old r ≡ true
all-bytes old now r at far ls i s h inv past =
    let k = held-stage old now r at far ls i s h inv in
    let v = vector-there k.value k.path (length (map literal_of ls)) k.row.many in
    let few = (part-storable k.path k.value (vector v.components) k.storable v.there).0 in
    let many : count v.components ≡ length ls = v.many ∙ length-map ls literal_of in
    inv.flat (omega (arith, few, many))
