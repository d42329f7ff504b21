-- What a reading shows is what was read.
use lib.Pointwise.{bytes_decides}
use Rattle.std.proofs.Common.{◌≡◌, ◌↔◌, IsTrue, ℕ, ◌+◌, ◌<◌, nat_lt, Bool, true, false, cond, not, Option, Some, None, List, [], ◌∷◌, length, map, get_or, set, slice_get, unwrap_or, zero, suc, refl, ◌∙◌, ap, sym, arith}
use Rattle.std.proofs.lemmas.Grind.{common_steps}
use Rattle.std.proofs.lemmas.Cmp.{ranked, nat_cmp_total, eq_by_cmp_equiv}
use Rattle.std.proofs.lemmas.Map.Views.{Contains-from_any, list_any-from_Contains}
use Rattle.std.specs.BTreeMap.{is_at}
use Rattle.std.specs.List.{position, prefix_len, list_any, Contains}
use Rattle.std.specs.Ordering.{MatchOrdering, eq_by_cmp, is_eq, nat_cmp}
use Rattle.std.specs.declared.cmp.Ordering.{Ordering}
use Rattle.std.specs.declared.cmp.Ordering.TheVariants.{Less, Equal, Greater}
use Rattle.std.specs.Map.{lookup}
use Rattle.std.specs.Option.{option_map}
use Rattle.std.specs.Str.{bytes_eq}
use Rattle.wgsl_source.specs.Cuts.{cut_of}
use Rattle.wgsl_source.specs.Cursors.{token_of, text_of}
use Rattle.wgsl_source.specs.Declarations.{number_named}
use Rattle.wgsl_source.specs.Readings.{Outline, extent_in, found_by_if, extent_of, word_of, first_of, extent_at, word_at}
use Rattle.wgsl_source.specs.declared.cursor.Cursor.{Cursor}
use Rattle.wgsl_source.specs.declared.declaration.Declaration.{Declaration}
use Rattle.wgsl_source.specs.declared.module.Extent.{Extent}
use Rattle.wgsl_source.specs.declared.token.Token.{Token}
use Rattle.wgsl_source.specs.declared.token.TokenKind.TheVariants as kinds
use Rattle.wgsl_source.proofs.Positions.{position-map}

-- the element of a list that is mapped
pub slice_get-map : {X Y : Type 0} (f : X → Y) (xs : List X) (at : ℕ) → slice_get (map f xs) at ≡ option_map f (slice_get xs at)
slice_get-map f [] at = refl
slice_get-map f (y ∷ ys) zero = refl
slice_get-map f (y ∷ ys) (suc at) = slice_get-map f ys at

-- an element in place of one that is mapped alike
pub map-set_alike : {X Y : Type 0} (f : X → Y) (xs : List X) (i : ℕ) (x y : X) → x ≡ get_or xs i x → f y ≡ f x → map f (set xs i y) ≡ map f xs
map-set_alike f [] i x y is same = refl
map-set_alike f (z ∷ zs) zero x y is same = ap (λ t. t ∷ map f zs) (same ∙ ap f is)
map-set_alike f (z ∷ zs) (suc i) x y is same = ap (λ ts. f z ∷ ts) (map-set_alike f zs i x y is same)

pub unwrap_or-map : {X Y : Type 0} (f : X → Y) (o : Option X) (x : X) → unwrap_or (option_map f o) (f x) ≡ f (unwrap_or o x)
unwrap_or-map f None x = refl
unwrap_or-map f (Some y) x = refl

pub extent_of-token : (c : Cursor) (at : ℕ) → extent_of c.text.now (map extent_in c.tokens.now) at ≡ extent_in (token_of c at)
extent_of-token c at =
    let x : Token = record { kind = kinds.End; start = length c.text.now; end = length c.text.now } in
    ap (λ o. unwrap_or o (extent_in x)) (slice_get-map extent_in c.tokens.now at) ∙ unwrap_or-map extent_in (slice_get c.tokens.now at) x

pub word_of-token : (c : Cursor) (at : ℕ) → word_of c.text.now (map extent_in c.tokens.now) at ≡ text_of c at
word_of-token c at = ap (λ (e : Extent). cut_of c.text.now e.start e.end) (extent_of-token c at)

-- two tests that answer alike
pub prefix_len-alike : {X : Type 0} (p q : X → Bool) → ((x : X) → p x ≡ q x) → (xs : List X) → prefix_len p xs ≡ prefix_len q xs
prefix_len-alike p q alike [] = refl
prefix_len-alike p q alike (x ∷ xs) = ap (λ b. cond b (1 + prefix_len p xs) 0) (alike x) ∙ ap (λ n. cond (q x) (1 + n) 0) (prefix_len-alike p q alike xs)

pub position-alike : {X : Type 0} (p q : X → Bool) → ((x : X) → p x ≡ q x) → (xs : List X) → position p xs ≡ position q xs
position-alike p q alike xs = ap (λ n. cond (nat_lt n (length xs)) (Some n) None) (prefix_len-alike (λ x. not (p x)) (λ x. not (q x)) (λ x. ap not (alike x)) xs)

pub first_of-named : (c : Cursor) (ds : List Declaration) (name : List ℕ) → first_of c.text.now (map extent_in c.tokens.now) (map (λ (d : Declaration). d.name) ds) name ≡ number_named c ds name
first_of-named c ds name =
    position-map (λ token. bytes_eq (word_of c.text.now (map extent_in c.tokens.now) token) name) (λ (d : Declaration). d.name) ds
    ∙ position-alike (λ (d : Declaration). bytes_eq (word_of c.text.now (map extent_in c.tokens.now) d.name) name) (λ (d : Declaration). bytes_eq (text_of c d.name) name) (λ d. ap (λ w. bytes_eq w name) (word_of-token c d.name)) ds

-- ---- from what was read to what is shown

pub shown_extent : (c : Cursor) (o : Outline) (at : ℕ) → c.text.now ≡ o.text → map extent_in c.tokens.now ≡ o.tokens → extent_at o at ≡ extent_in (token_of c at)
shown_extent c o at text tokens =
    ap (λ t. extent_of t o.tokens at) (sym text) ∙ ap (λ ts. extent_of c.text.now ts at) (sym tokens) ∙ extent_of-token c at

pub shown_word : (c : Cursor) (o : Outline) (at : ℕ) → c.text.now ≡ o.text → map extent_in c.tokens.now ≡ o.tokens → word_at o at ≡ text_of c at
shown_word c o at text tokens =
    ap (λ t. word_of t o.tokens at) (sym text) ∙ ap (λ ts. word_of c.text.now ts at) (sym tokens) ∙ word_of-token c at

-- ---- names that are known

pub found_by_if-known : (n : ℕ) (names : List ℕ) → 0 < n → found_by_if n names ≡ names
found_by_if-known n names h = grind (arith, common_steps)

pub lookup-none : {K X : Type 0} (test : K → Bool) (es : List (K × X)) → length es ≡ 0 → lookup test es ≡ None
lookup-none test [] e = refl
lookup-none test (x ∷ es) e = absurd (omega arith)

pub found_first : (c : Cursor) (ds : List Declaration) (known : ℕ) (get : List ℕ → Option ℕ) → (known ≡ 0 → (name : List ℕ) → get name ≡ None) → ((name : List ℕ) → get name ≡ number_named c ds name) → (name : List ℕ) → get name ≡ first_of c.text.now (map extent_in c.tokens.now) (found_by_if known (map (λ (d : Declaration). d.name) ds)) name
found_first c ds zero get none named name = none refl name
found_first c ds (suc n) get none named name =
    named name ∙ sym (first_of-named c ds name) ∙ ap (λ ns. first_of c.text.now (map extent_in c.tokens.now) ns name) (sym (found_by_if-known (suc n) (map (λ (d : Declaration). d.name) ds) (omega arith)))

pub found_first_in : (c : Cursor) (text : List ℕ) (tokens : List Token) (ds : List Declaration) (known : ℕ) (get : List ℕ → Option ℕ) → c.text.now ≡ text → c.tokens.now ≡ tokens → (known ≡ 0 → (name : List ℕ) → get name ≡ None) → ((name : List ℕ) → get name ≡ number_named c ds name) → (name : List ℕ) → get name ≡ first_of text (map extent_in tokens) (found_by_if known (map (λ (d : Declaration). d.name) ds)) name
found_first_in c text tokens ds known get same alike none named name =
    let names = found_by_if known (map (λ (d : Declaration). d.name) ds) in
    found_first c ds known get none named name
    ∙ ap (λ t. first_of t (map extent_in c.tokens.now) names name) same
    ∙ ap (λ ts. first_of text (map extent_in ts) names name) alike

pub first_is_zero : (b : Bool) (n l : ℕ) → b ≡ true → cond (nat_lt (cond (not b) (1 + n) 0) (1 + l)) (Some (cond (not b) (1 + n) 0)) None ≡ Some 0
first_is_zero true n l e = grind (arith, common_steps)
first_is_zero false n l e = absurd (cc e)

pub named_none : (c : Cursor) (ds : List Declaration) → ((name : List ℕ) → number_named c ds name ≡ None) → ds ≡ []
named_none c [] none = refl
named_none c (d ∷ ds) none =
    let t = text_of c d.name in
    let p : Declaration → Bool = λ e. bytes_eq (text_of c e.name) t in
    let l : length (d ∷ ds) ≡ 1 + length ds = grind (arith, common_steps) in
    let same : p d ≡ true = (bytes_decides t t).1 refl in
    let first : number_named c (d ∷ ds) t ≡ Some 0 =
    ap (λ m. cond (nat_lt (cond (not (p d)) (1 + prefix_len (λ e. not (p e)) ds) 0) m) (Some (cond (not (p d)) (1 + prefix_len (λ e. not (p e)) ds) 0)) None) l
    ∙ first_is_zero (p d) (prefix_len (λ e. not (p e)) ds) (length ds) same in
    absurd (cc (first, none t))

pub found_by_if-same : (c : Cursor) (ds : List Declaration) (known : ℕ) (get : List ℕ → Option ℕ) → (known ≡ 0 → (name : List ℕ) → get name ≡ None) → ((name : List ℕ) → get name ≡ number_named c ds name) → found_by_if known (map (λ (d : Declaration). d.name) ds) ≡ map (λ (d : Declaration). d.name) ds
found_by_if-same c ds zero get none named =
    ap (map (λ (d : Declaration). d.name)) (sym (named_none c ds (λ name. sym (named name) ∙ none refl name)))
found_by_if-same c ds (suc n) get none named = found_by_if-known (suc n) (map (λ (d : Declaration). d.name) ds) (omega arith)

-- ---- a set of numbers

pub same_number : (x y : ℕ) → eq_by_cmp nat_cmp x y ≡ true → x ≡ y
same_number x y e = from (nat_cmp x y) (ranked x y (nat_cmp x y) refl) e
  where
    from : (r : Ordering) → MatchOrdering r (x < y) (x ≡ y) (y < x) → is_eq r ≡ true → x ≡ y
    from Less h e = absurd cc
    from Equal h e = h
    from Greater h e = absurd cc

pub contains_is : (q : ℕ) (ks : List ℕ) (b : Bool) → b ≡ list_any (is_at (nat_cmp q)) ks → IsTrue b ↔ Contains ks q
contains_is q ks true e = (λ _. Contains-from_any {eq = eq_by_cmp nat_cmp} same_number q ks (sym e), λ _. refl)
contains_is q ks false e = (λ f. absurd (cc f), λ h. absurd (cc (e, list_any-from_Contains {eq = eq_by_cmp nat_cmp} (eq_by_cmp_equiv nat_cmp_total) q ks h)))
