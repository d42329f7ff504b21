-- What the calls on places in what references name answer.
use Rattle.std.proofs.Common.{◌≡◌, ℕ, List, length, take, slice_get, Option, Some, None, is_some, option_and_then, Ok, Err, Bool, true, false, refl, sym, ap, ◌∙◌, subst}
use Rattle.std.specs.Prelude.{IsOkAnd, IsSomeAnd, IfSome, ◌&&◌, if◌then◌else◌}
use Rattle.std.specs.Bool.{OnTrue}
use Rattle.std.specs.Result.{result_ok}
use Rattle.wgsl_rules.specs.Access.{can_read, can_write}
use Rattle.wgsl_rules.specs.Layout.{count_in, has_layout, layout, layout_of, runtime_count}
use Rattle.wgsl_rules.specs.Paths.{value_at}
use Rattle.wgsl_rules.specs.Refusals.{Outcome}
use Rattle.wgsl_rules.specs.Types.{Ty}
use Rattle.wgsl_rules.specs.Values.{Reference, Step, Val, type_of, IsStorable}
use Rattle.wgsl_scalar.specs.Literals.{literal_of}
use Rattle.wgsl_scalar.specs.declared.literal.LiteralInstance.{LiteralInstance}
use Rattle.wgsl_layout.specs.Buffers.{buffer}
use Rattle.wgsl_store.specs.Copies.{in_bytes, is_bytes}
use Rattle.wgsl_store.specs.HeldBytes.{bytes_at, held_bytes}
use Rattle.wgsl_layout.specs.Layouts.{Answer, answer_then, or_refused, part_in}
use Rattle.wgsl_store.specs.Memory.{held, IsKept, IsSound, put_cells}
use Rattle.wgsl_layout.specs.NumbersIn.{AreFrom, HasNumberAt, IsNumberAt, number_put}
use Rattle.wgsl_layout.specs.Ranges.{Range, path_in, range_in, view_range}
use Rattle.wgsl_layout.specs.declared.layout.LayoutRefusal.TheVariants.{TooFewBytes, NoPart}
use Rattle.wgsl_layout.proofs.lemmas.Compose.{compose}
use Rattle.wgsl_store.proofs.lemmas.Held.{has-cell, held-value, kept-is, sound-at}
use Rattle.wgsl_layout.proofs.lemmas.Roundtrip.{lays-itself}
use Rattle.wgsl_places.specs.Memory.{IsPlaceAt, IsPlaceIn, IsPlaceOf, range_viewed}
use Rattle.wgsl_places.specs.Numbers.{width_with}
use Rattle.wgsl_places.specs.Places.{ArePlaces, IsPlace, IsPlaceAnswer}
use Rattle.wgsl_places.specs.declared.place.Place.{Place}
use Rattle.wgsl_places.proofs.MemoryPlaces.{number-there-is, takes-told}
use Rattle.wgsl_layout.proofs.Outcomes.{answered}
use Rattle.wgsl_layout.proofs.NumberPuts.{led-is}
use Rattle.wgsl_values.proofs.lemmas.ViewedPaths.{has-path}

-- ---- what a reference names

-- what is so of what it names, where it is kept
pub each-named : (cells : List Val) (r : Reference) (P : Val → Type 0) → IsKept cells r → ((x : Val) → held cells r ≡ Ok x → type_of x ≡ r.ty → P x) → IsOkAnd (held cells r) P
each-named cells r P k on = let h = kept-is cells r k in led-is P (held cells r) h.held_value h.holds (on h.held_value h.holds h.typed)

-- in a cell of bytes it has a layout
pub names-laid : (cells : List Val) (r : Reference) (x : Val) → IsSound cells → held cells r ≡ Ok x → in_bytes cells r ≡ true → has_layout (type_of x) ≡ true
names-laid cells r x s e flat =
    let c = has-cell cells r x e in
    let sound = sound-at cells cells r.cell c.cell s c.there in
    let q = has-path r.view c.cell x c.leads in
    let laid : is_bytes c.cell ≡ true = ap (λ (o : Option Val). elim o [ None ↦ false | Some v ↦ is_bytes v ]) (sym c.there) ∙ flat in
    (compose c.cell x q.path sound.0 laid q.stands).0

pub fact-of : (P : Val → Type 0) (o : Outcome Val) (x : Val) → o ≡ Ok x → IsOkAnd o P → P x
fact-of P o x e h = subst (λ (o : Outcome Val). IsOkAnd o P) e h

-- ---- a place by a view

held-bytes-is : (cells : List Val) (r : Reference) (x : Val) → held_bytes cells r x ≡ (if in_bytes cells r then Some (buffer x) else None)
held-bytes-is cells r x = by (slice_get cells r.cell)
  where
    by : (o : Option Val) → option_and_then (λ v. bytes_at v x) o ≡ (if (elim o [ None ↦ false | Some v ↦ is_bytes v ]) then Some (buffer x) else None)
    by None = refl
    by (Some v) = refl

-- what is answered where the bytes of the part are lent, and where there are none
abbrev LentAnswer : Ty → List Step → Val → Bool → Option Place → Type 0
LentAnswer t steps x flat o = ArePlaces t (range_viewed flat steps x) o

answered-place : (t : Ty) (o : Option Range) (a : Answer Place) → IsPlaceAnswer t (or_refused o NoPart) a → ArePlaces t o (result_ok a)
answered-place t None (Ok p) h = absurd h
answered-place t None (Err e) h = refl
answered-place t (Some r) (Ok p) h = h
answered-place t (Some r) (Err e) h = absurd h

placed : (t : Ty) (x : Val) (steps : List Step) (len : ℕ) (a : Answer Place) → IsStorable x → has_layout (type_of x) ≡ true → type_of x ≡ t → len ≡ length (buffer x) → IsPlaceAnswer t (part_in len steps t) a
    → ArePlaces t (view_range steps (layout_of x)) (result_ok a)
placed t x steps len a s h typed long told =
    let counted : count_in len t ≡ Some (runtime_count x) = ap (λ (n : ℕ). count_in n t) long ∙ ap (count_in (length (buffer x))) (sym typed) ∙ (lays-itself x s h).counted in
    let own : layout (runtime_count x) t ≡ layout_of x = ap (layout (runtime_count x)) (sym typed) in
    let is : part_in len steps t ≡ or_refused (view_range steps (layout_of x)) NoPart =
    ap (λ (o : Option ℕ). answer_then (or_refused o TooFewBytes) (λ n. or_refused (view_range steps (layout n t)) NoPart)) counted ∙ ap (λ (l : _). or_refused (view_range steps l) NoPart) own in
    answered-place t (view_range steps (layout_of x)) a (subst (λ (b : Answer Range). IsPlaceAnswer t b a) is told)

pub none-lent : (t : Ty) (cells : List Val) (r : Reference) (steps : List Step) → IsKept cells r → IsOkAnd (held cells r) (λ x. None ≡ held_bytes cells r x) → IsOkAnd (held cells r) (λ x. ArePlaces t (range_viewed (in_bytes cells r) steps x) None)
none-lent t cells r steps k lent =
    each-named cells r (λ x. ArePlaces t (range_viewed (in_bytes cells r) steps x) None) k
    (λ x e typed. by x (in_bytes cells r) (fact-of (λ x. None ≡ held_bytes cells r x) (held cells r) x e lent ∙ held-bytes-is cells r x))
  where
    by : (x : Val) (flat : Bool) → None ≡ (if flat then Some (buffer x) else None) → ArePlaces t (range_viewed flat steps x) None
    by x true e = absurd (cc (e))
    by x false e = refl

pub some-lent : (t : Ty) (cells : List Val) (r : Reference) (steps : List Step) (b : List ℕ) (len : ℕ) (a : Answer Place) → IsSound cells → IsKept cells r → r.ty ≡ t → len ≡ length b
    → IsOkAnd (held cells r) (λ x. Some b ≡ held_bytes cells r x) → IsPlaceAnswer t (part_in len steps t) a → IsOkAnd (held cells r) (λ x. ArePlaces t (range_viewed (in_bytes cells r) steps x) (result_ok a))
some-lent t cells r steps b len a s k own long lent told =
    each-named cells r (λ x. ArePlaces t (range_viewed (in_bytes cells r) steps x) (result_ok a)) k
    (λ x e typed. by x e typed (in_bytes cells r) refl (fact-of (λ x. Some b ≡ held_bytes cells r x) (held cells r) x e lent ∙ held-bytes-is cells r x))
  where
    by : (x : Val) → held cells r ≡ Ok x → type_of x ≡ r.ty → (flat : Bool) → in_bytes cells r ≡ flat → Some b ≡ (if flat then Some (buffer x) else None) → ArePlaces t (range_viewed flat steps x) (result_ok a)
    by x e typed true flat is =
        let same : b ≡ buffer x = cc (is) in
        placed t x steps len a (held-value cells r x s e).0 (names-laid cells r x s e flat) (typed ∙ own) (long ∙ ap length same) told
    by x e typed false flat is = absurd (cc (is))

-- the place is that of a part
pub place-of : (t : Ty) (cells : List Val) (r : Reference) (steps : List Step) (o : Option Place) → IsSound cells → IsKept cells r → IsOkAnd (held cells r) (λ x. ArePlaces t (range_viewed (in_bytes cells r) steps x) o) → IfSome o (IsPlaceOf t cells r)
place-of t cells r steps None s k h = tt
place-of t cells r steps (Some p) s k h =
    each-named cells r (λ x. IsPlaceIn t x p) k (λ x e typed. by x e (in_bytes cells r) refl (fact-of (λ x. ArePlaces t (range_viewed (in_bytes cells r) steps x) (Some p)) (held cells r) x e h))
  where
    at : (x : Val) → has_layout (type_of x) ≡ true → (q : Option (List ℕ)) → ArePlaces t (option_and_then (λ q. range_in q (layout_of x)) q) (Some p) → IsPlaceIn t x p
    at x laid None h = absurd (cc (h))
    at x laid (Some q) h = in_range (range_in q (layout_of x)) refl h
      where
        in_range : (o : Option Range) → range_in q (layout_of x) ≡ o → ArePlaces t o (Some p) → IsPlaceIn t x p
        in_range None is h = absurd (cc (h))
        in_range (Some r) is h = record { laid = laid; path = q; is = subst (λ (o : Option Range). IsSomeAnd o (λ r. IsPlace t r p)) (sym is) h }

    by : (x : Val) → held cells r ≡ Ok x → (flat : Bool) → in_bytes cells r ≡ flat → ArePlaces t (range_viewed flat steps x) (Some p) → IsPlaceIn t x p
    by x e true flat h = at x (names-laid cells r x s e flat) (path_in steps (layout_of x)) h
    by x e false flat h = absurd (cc (h))

-- ---- loads

-- what f tells of the part at the path, where it may be read
abbrev told_at : {B : Type 0} → (Val → Option B) → Bool → List ℕ → Val → Option B
told_at f may path x = if may then option_and_then f (value_at path x) else None

pub not-read : {B : Type 0} (f : Val → Option B) (t : Ty) (cells : List Val) (r : Reference) (p : Place) (path : List ℕ) → IsKept cells r → can_read r.access ≡ false
    → IsOkAnd (held cells r) (λ x. IsPlaceAt t x path p → None ≡ told_at f (can_read r.access && in_bytes cells r) path x)
not-read f t cells r p path k no_read =
    each-named cells r (λ x. IsPlaceAt t x path p → None ≡ told_at f (can_read r.access && in_bytes cells r) path x) k (λ x e typed place. ap (λ (b : Bool). told_at f (b && in_bytes cells r) path x) (sym no_read))

pub none-loaded : {B : Type 0} (f : Val → Option B) (t : Ty) (cells : List Val) (r : Reference) (p : Place) (path : List ℕ) → IsKept cells r → can_read r.access ≡ true → IsOkAnd (held cells r) (λ x. AreFrom (in_bytes cells r) x None)
    → IsOkAnd (held cells r) (λ x. IsPlaceAt t x path p → None ≡ told_at f (can_read r.access && in_bytes cells r) path x)
none-loaded f t cells r p path k read lent =
    each-named cells r (λ x. IsPlaceAt t x path p → None ≡ told_at f (can_read r.access && in_bytes cells r) path x) k
    (λ x e typed place.
    ap (λ (b : Bool). told_at f b path x) (sym (fact-of (λ x. AreFrom (in_bytes cells r) x None) (held cells r) x e lent)) ∙ ap (λ (b : Bool). told_at f (b && in_bytes cells r) path x) (sym read))

-- the result is what f tells of the part in each range that the place is of, in bytes that begin with those of x
abbrev pub IsToldOf : {B : Type 0} → (Val → Option B) → Ty → Place → List ℕ → List ℕ → Option B → Type 0
IsToldOf f t p path b result =
    (x : Val) (q : Range) → IsStorable x → has_layout (type_of x) ≡ true → range_in path (layout_of x) ≡ Some q → IsPlace t q p → take (length (buffer x)) b ≡ buffer x → result ≡ option_and_then f (value_at path x)

pub some-loaded : {B : Type 0} (f : Val → Option B) (t : Ty) (cells : List Val) (r : Reference) (p : Place) (path b : List ℕ) (result : Option B) → IsSound cells → IsKept cells r → can_read r.access ≡ true
    → IsOkAnd (held cells r) (λ x. AreFrom (in_bytes cells r) x (Some b)) → IsToldOf f t p path b result → IsOkAnd (held cells r) (λ x. IsPlaceAt t x path p → result ≡ told_at f (can_read r.access && in_bytes cells r) path x)
some-loaded f t cells r p path b result s k read lent told =
    each-named cells r (λ x. IsPlaceAt t x path p → result ≡ told_at f (can_read r.access && in_bytes cells r) path x) k
    (λ x e typed place.
    let h = fact-of (λ x. AreFrom (in_bytes cells r) x (Some b)) (held cells r) x e lent in
    at x (held-value cells r x s e).0 (names-laid cells r x s e h.0) h.1 (range_in path (layout_of x)) refl place
    ∙ ap (λ (c : Bool). told_at f c path x) (sym h.0) ∙ ap (λ (c : Bool). told_at f (c && in_bytes cells r) path x) (sym read))
  where
    at : (x : Val) → IsStorable x → has_layout (type_of x) ≡ true → take (length (buffer x)) b ≡ buffer x → (o : Option Range) → range_in path (layout_of x) ≡ o → IsSomeAnd o (λ q. IsPlace t q p) → result ≡ option_and_then f (value_at path x)
    at x sx laid begins None is h = absurd h
    at x sx laid begins (Some q) is h = told x q sx laid is h begins

-- ---- stores

-- what is answered for what is held at the path, where the test tells whether it takes what is stored
abbrev pub AreStored : Ty → List Val → Reference → Place → List ℕ → (Val → Bool) → Bool → Type 0
AreStored t cells r p path taken done = IsOkAnd (held cells r) (λ x. IsPlaceAt t x path p → done ≡ (can_write r.access && (in_bytes cells r && taken x)))

-- where it takes none
pub not-stored : (t : Ty) (cells : List Val) (r : Reference) (p : Place) (path : List ℕ) (taken : Val → Bool) → IsKept cells r → ((x : Val) → IsPlaceAt t x path p → taken x ≡ false) → AreStored t cells r p path taken false
not-stored t cells r p path taken k none =
    each-named cells r (λ x. IsPlaceAt t x path p → false ≡ (can_write r.access && (in_bytes cells r && taken x))) k
    (λ x e typed place. sym (ap (λ (b : Bool). can_write r.access && (in_bytes cells r && b)) (none x place) ∙ no-one (can_write r.access) (in_bytes cells r)))
  where
    no-one : (a b : Bool) → (a && (b && false)) ≡ false
    no-one true true = refl
    no-one true false = refl
    no-one false b = refl

pub not-written : (t : Ty) (cells : List Val) (r : Reference) (p : Place) (path : List ℕ) (taken : Val → Bool) → IsKept cells r → can_write r.access ≡ false → AreStored t cells r p path taken false
not-written t cells r p path taken k no_write =
    each-named cells r (λ x. IsPlaceAt t x path p → false ≡ (can_write r.access && (in_bytes cells r && taken x))) k (λ x e typed place. sym (ap (λ (b : Bool). b && (in_bytes cells r && taken x)) no_write))

pub stored-where : (t : Ty) (cells : List Val) (r : Reference) (p : Place) (path : List ℕ) (taken : Val → Bool) (done : Bool) → IsKept cells r → can_write r.access ≡ true → ((x : Val) → IsPlaceAt t x path p → taken x ≡ true) → done ≡ in_bytes cells r
    → AreStored t cells r p path taken done
stored-where t cells r p path taken done k write some flat =
    each-named cells r (λ x. IsPlaceAt t x path p → done ≡ (can_write r.access && (in_bytes cells r && taken x))) k
    (λ x e typed place. flat ∙ sym (ap (λ (b : Bool). b && (in_bytes cells r && taken x)) write ∙ ap (λ (b : Bool). in_bytes cells r && b) (some x place) ∙ and-true (in_bytes cells r)))
  where
    and-true : (b : Bool) → (b && true) ≡ b
    and-true true = refl
    and-true false = refl

-- the number has a place there
pub number-there : (t : Ty) (cells : List Val) (r : Reference) (p : Place) (l : LiteralInstance) → IsSound cells → IsPlaceOf t cells r p → p.at.count ≡ 1 → is_some (width_with p.at.kind (literal_of l)) ≡ true
    → IsOkAnd (held cells r) (λ x. HasNumberAt x p.at.offset (literal_of l))
number-there t cells r p l s h one some =
    let a = answered (held cells r) (λ x. IsPlaceIn t x p) h in
    let x = a.answer in
    let path = a.fact.path in
    let taken = takes-told t x path p l one a.fact.is ∙ some in
    led-is (λ x. HasNumberAt x p.at.offset (literal_of l)) (held cells r) x a.is
    (record { path = path; is = number-there-is t x (literal_of l) path p (held-value cells r x s a.is).0 a.fact.laid a.fact.is taken })

-- and is put there
pub number-stored : (t : Ty) (cells after : List Val) (r : Reference) (p : Place) (l : LiteralInstance) (done : Bool) → IsSound cells → IsPlaceOf t cells r p → p.at.count ≡ 1 → is_some (width_with p.at.kind (literal_of l)) ≡ true
    → OnTrue done ((path : List ℕ) → IsOkAnd (held cells r) (λ x. IsNumberAt x path p.at.offset (literal_of l) → after ≡ put_cells cells r (number_put path (literal_of l) x)))
    → OnTrue done ((path : List ℕ) → IsOkAnd (held cells r) (λ x. IsPlaceAt t x path p → after ≡ put_cells cells r (number_put path (literal_of l) x)))
number-stored t cells after r p l false s h one some put = tt
number-stored t cells after r p l true s h one some put = at
  where
    at : (path : List ℕ) → IsOkAnd (held cells r) (λ x. IsPlaceAt t x path p → after ≡ put_cells cells r (number_put path (literal_of l) x))
    at path =
        let a = answered (held cells r) (λ x. IsPlaceIn t x p) h in
        let x = a.answer in
        let told = fact-of (λ x. IsNumberAt x path p.at.offset (literal_of l) → after ≡ put_cells cells r (number_put path (literal_of l) x)) (held cells r) x a.is (put path) in
        led-is (λ x. IsPlaceAt t x path p → after ≡ put_cells cells r (number_put path (literal_of l) x)) (held cells r) x a.is
        (λ place. told (number-there-is t x (literal_of l) path p (held-value cells r x s a.is).0 a.fact.laid place (takes-told t x path p l one place ∙ some)))
