-- Numbers of one kind side by side in bytes.
use Rattle.std.proofs.Common.{◌≡◌, ℕ, zero, suc, ◌+◌, ◌*◌, ◌<◌, ◌≤◌, ℤ, List, [], ◌∷◌, length, map, drop, get_or, Option, Some, None, option_and_then, is_some, Bool, true, false, ◌⊎◌, refl, sym, ap, ◌∙◌, arith, add-one, drop-cons}
use Rattle.std.specs.Prelude.{nat_le, ◌==◌, ◌&&◌, ◌||◌, if◌then◌else◌}
use Rattle.std.specs.List.{list_all}
use Rattle.std.proofs.lemmas.Bool.{false≢true, le-leb, eqb-true, leb-true, leb-false}
use Rattle.std.proofs.lemmas.Bool.Decides.{nat_tests}
use Rattle.std.proofs.lemmas.List.{length-map}
use Rattle.std.proofs.lemmas.List.Folds.{list_all-map}
use Rattle.std.proofs.Math.ListN.{drop_of_length-le}
use mathlib.Core.Logic.{inl, inr}
use Rattle.wgsl_rules.specs.InCommon.{prepended}
use Rattle.wgsl_rules.specs.Kinds as kinds
use Rattle.wgsl_rules.specs.Kinds.{Kind, bytes_of}
use Rattle.wgsl_rules.specs.Values.{Val, number, no_vals, val}
use Rattle.wgsl_rules.proofs.lemmas.Known.{and-both}
use Rattle.wgsl_scalar.specs.Literals.{literal_of}
use Rattle.wgsl_scalar.specs.declared.literal.LiteralInstance.{LiteralInstance}
use Rattle.wgsl_scalar.specs.declared.literal.LiteralInstance.TheVariants as literals
use Rattle.wgsl_values.specs.View.{vals_of}
use Rattle.wgsl_layout.specs.Plan.{scalar}
use Rattle.wgsl_layout.specs.Walk.{Stands, StandInRow, number_bytes, put, put_row}
use Rattle.wgsl_layout.proofs.lemmas.Leaves.{over-length}
use Rattle.wgsl_places.specs.Numbers.{is_of_kind, loaded_far, loaded_kind, loaded_row, number_put, stored_far, stored_in, stored_kind, stored_row, width_of, width_with}

-- ---- loading

-- each of the numbers is loaded from its place
abbrev pub AreLoaded : List ℕ → ℕ → ℕ → ℕ → List Val → Type 0
AreLoaded b o kind far [] = Unit {0}
AreLoaded b o kind far (v ∷ vs) = (Some v ≡ loaded_kind b o kind) × AreLoaded b (o + far) kind far vs

all-loaded : (b : List ℕ) (o kind far : ℕ) (vs : List Val) → AreLoaded b o kind far vs → Some vs ≡ loaded_far b o kind far (length vs)
all-loaded b o kind far [] h = refl
all-loaded b o kind far (v ∷ vs) h = ap (λ (x : Option Val). prepended x (Some vs)) h.0 ∙ ap (prepended (loaded_kind b o kind)) (all-loaded b (o + far) kind far vs h.1)

pub row-loaded : (b : List ℕ) (o kind far n : ℕ) (vs : List Val) → Some far ≡ width_of kind → length vs ≡ n → AreLoaded b o kind far vs → Some vs ≡ loaded_row b o kind n
row-loaded b o kind far n vs e len h =
    all-loaded b o kind far vs h ∙ ap (loaded_far b o kind far) len ∙ ap (option_and_then (λ (far : ℕ). loaded_far b o kind far n)) e

pub loaded-at : (b : List ℕ) (kind o at : ℕ) {v : Val} → o ≡ at → Some v ≡ loaded_kind b o kind → Some v ≡ loaded_kind b at kind
loaded-at b kind o at e h = h ∙ ap (λ (k : ℕ). loaded_kind b k kind) e

none-there : (b : List ℕ) (o kind far i n : ℕ) → i < n → None ≡ loaded_kind b (o + i * far) kind → None ≡ loaded_far b o kind far n
none-there b o kind far i zero lt e = absurd (omega arith)
none-there b o kind far zero (suc n) lt e =
    let at : o + 0 * far ≡ o = omega arith in
    ap (λ (x : Option Val). prepended x (loaded_far b (o + far) kind far n)) (e ∙ ap (λ (k : ℕ). loaded_kind b k kind) at)
none-there b o kind far (suc i) (suc n) lt e =
    let at : o + suc i * far ≡ o + far + i * far = omega arith in
    behind (loaded_kind b o kind) ∙ ap (prepended (loaded_kind b o kind)) (none-there b (o + far) kind far i n (omega arith) (e ∙ ap (λ (k : ℕ). loaded_kind b k kind) at))
  where
    behind : (x : Option Val) → None ≡ prepended x None
    behind None = refl
    behind (Some v) = refl

-- one of the numbers is not there
pub row-not-loaded : (b : List ℕ) (o kind far i n at : ℕ) → Some far ≡ width_of kind → i < n → at ≡ o + i * far → None ≡ loaded_kind b at kind → None ≡ loaded_row b o kind n
row-not-loaded b o kind far i n at e lt is h =
    none-there b o kind far i n lt (h ∙ ap (λ (k : ℕ). loaded_kind b k kind) is) ∙ ap (option_and_then (λ (far : ℕ). loaded_far b o kind far n)) e

-- ---- numbers of a kind

-- what a number of the kind is to the code that puts it
record IsOfKind (kind far : ℕ) (w : Val) : Type 0 where
  width : width_with kind w ≡ Some far
  stands : (o len : ℕ) → o + far ≤ len → Stands w scalar o len
  is_put : (o : ℕ) (b : List ℕ) → number_put b o w ≡ put w scalar o b
  kept : (o : ℕ) (b : List ℕ) → o + far ≤ length b → length (number_put b o w) ≡ length b

number-of-kind : (kind far : ℕ) (k : Kind) (z : ℤ) → (k ≡ kinds.abstract_int → ⊥) → far ≡ bytes_of k → width_with kind (number k z) ≡ Some far → IsOfKind kind far (number k z)
number-of-kind kind far kinds.abstract_int z concrete e w = absurd (concrete refl)
number-of-kind kind far kinds.i32 z concrete e w = record {
  width = w;
  stands = λ o len h. omega (arith, e);
  is_put = λ o b. refl;
  kept = λ o b h. over-length b (number_bytes kinds.i32 z) o (omega (arith, e));
}
number-of-kind kind far kinds.u32 z concrete e w = record {
  width = w;
  stands = λ o len h. omega (arith, e);
  is_put = λ o b. refl;
  kept = λ o b h. over-length b (number_bytes kinds.u32 z) o (omega (arith, e));
}
number-of-kind kind far kinds.i64 z concrete e w = record {
  width = w;
  stands = λ o len h. omega (arith, e);
  is_put = λ o b. refl;
  kept = λ o b h. over-length b (number_bytes kinds.i64 z) o (omega (arith, e));
}
number-of-kind kind far kinds.u64 z concrete e w = record {
  width = w;
  stands = λ o len h. omega (arith, e);
  is_put = λ o b. refl;
  kept = λ o b h. over-length b (number_bytes kinds.u64 z) o (omega (arith, e));
}

-- of the kind that has this number
numbered : (m kind far : ℕ) (k : Kind) (z : ℤ) → (k ≡ kinds.abstract_int → ⊥) → Some (bytes_of k) ≡ width_of m → width_with m (number k z) ≡ Some (bytes_of k) → Some far ≡ width_of kind → kind ≡ m
    → IsOfKind kind far (number k z)
numbered m kind far k z concrete own with_m e is =
    let same : Some far ≡ Some (bytes_of k) = e ∙ ap width_of is ∙ sym own in
    let wide : far ≡ bytes_of k = cc (same) in
    number-of-kind kind far k z concrete wide (ap (λ (n : ℕ). width_with n (number k z)) is ∙ with_m ∙ ap Some (sym wide))

passed : (c : Bool) (n : ℕ) → is_some (if c then Some n else None) ≡ true → c ≡ true
passed true n h = refl
passed false n h = absurd (false≢true h)

one-of : (kind m n : ℕ) → (kind == m || kind == n) ≡ true → (kind ≡ m) ⊎ (kind ≡ n)
one-of kind m n h = grind (arith, nat_tests)

of-kind : (kind far : ℕ) (w : Val) → Some far ≡ width_of kind → is_of_kind kind w ≡ true → IsOfKind kind far w
of-kind kind far (number kinds.i32 z) e h =
    elim (one-of kind 1 257 (passed (kind == 1 || kind == 257) 4 h)) [
      | inl is ↦ numbered 1 kind far kinds.i32 z (λ same. cc (same)) refl refl e is
      | inr is ↦ numbered 257 kind far kinds.i32 z (λ same. cc (same)) refl refl e is
    ]
of-kind kind far (number kinds.u32 z) e h =
    elim (one-of kind 2 258 (passed (kind == 2 || kind == 258) 4 h)) [
      | inl is ↦ numbered 2 kind far kinds.u32 z (λ same. cc (same)) refl refl e is
      | inr is ↦ numbered 258 kind far kinds.u32 z (λ same. cc (same)) refl refl e is
    ]
of-kind kind far (number kinds.i64 z) e h = numbered 5 kind far kinds.i64 z (λ same. cc (same)) refl refl e (eqb-true kind 5 (passed (kind == 5) 8 h))
of-kind kind far (number kinds.u64 z) e h = numbered 6 kind far kinds.u64 z (λ same. cc (same)) refl refl e (eqb-true kind 6 (passed (kind == 6) 8 h))
of-kind kind far w e h = absurd (false≢true h)

-- ---- storing

-- where it is of the kind and lies inside, it is put
stored-one : (b : List ℕ) (o kind far : ℕ) (w : Val) → IsOfKind kind far w → o + far ≤ length b → stored_kind b o kind w ≡ Some (put w scalar o b)
stored-one b o kind far w is le =
    ap (option_and_then (stored_in b o w)) is.width
    ∙ ap (λ (c : Bool). if c then Some (number_put b o w) else None) (le-leb (o + far) (length b) le) ∙ ap Some (is.is_put o b)

-- all are put, where all are of the kind and lie inside
all-stored : (b : List ℕ) (o kind far : ℕ) (ws : List Val) → Some far ≡ width_of kind → list_all (is_of_kind kind) ws ≡ true → o + length ws * far ≤ length b
    → Some (put_row (vals_of ws) far scalar o b) ≡ stored_far b o kind far ws
all-stored b o kind far [] e h le = refl
all-stored b o kind far (w ∷ ws) e h le =
    let both = and-both (is_of_kind kind w) (list_all (is_of_kind kind) ws) h in
    let is = of-kind kind far w e both.0 in
    let here : o + far ≤ length b = omega arith in
    let long : length (put w scalar o b) ≡ length b = ap length (sym (is.is_put o b)) ∙ is.kept o b here in
    all-stored (put w scalar o b) (o + far) kind far ws e both.1 (omega (arith, long))
    ∙ ap (option_and_then (λ (c : List ℕ). stored_far c (o + far) kind far ws)) (sym (stored-one b o kind far w is here))

all-stand : (o kind far len : ℕ) (ws : List Val) → Some far ≡ width_of kind → list_all (is_of_kind kind) ws ≡ true → o + length ws * far ≤ len → StandInRow (vals_of ws) far scalar o len
all-stand o kind far len [] e h le = tt
all-stand o kind far len (w ∷ ws) e h le =
    let both = and-both (is_of_kind kind w) (list_all (is_of_kind kind) ws) h in
    let is = of-kind kind far w e both.0 in
    (omega arith, is.stands o len (omega arith), all-stand (o + far) kind far len ws e both.1 (omega arith))

-- one is of another kind
other-stored : (b : List ℕ) (o kind far : ℕ) (ws : List Val) → list_all (is_of_kind kind) ws ≡ false → None ≡ stored_far b o kind far ws
other-stored b o kind far [] h = absurd (false≢true (sym h))
other-stored b o kind far (w ∷ ws) h = by (width_with kind w) (λ c other. other-stored c (o + far) kind far ws other) h
  where
    behind : (x : Option (List ℕ)) → ((c : List ℕ) → None ≡ stored_far c (o + far) kind far ws) → None ≡ option_and_then (λ (c : List ℕ). stored_far c (o + far) kind far ws) x
    behind None rest = refl
    behind (Some c) rest = rest c

    by : (x : Option ℕ) → ((c : List ℕ) → list_all (is_of_kind kind) ws ≡ false → None ≡ stored_far c (o + far) kind far ws) → (is_some x && list_all (is_of_kind kind) ws) ≡ false
        → None ≡ option_and_then (λ (c : List ℕ). stored_far c (o + far) kind far ws) (option_and_then (stored_in b o w) x)
    by None rest h = refl
    by (Some n) rest h = behind (stored_in b o w n) (λ c. rest c h)

-- one that is stored lies inside, and there are as many bytes as before
stored-inside : (b c : List ℕ) (o kind far : ℕ) (w : Val) → Some far ≡ width_of kind → stored_kind b o kind w ≡ Some c → (o + far ≤ length b) × (length c ≡ length b)
stored-inside b c o kind far w e h = by (width_with kind w) refl h
  where
    at : (n : ℕ) (x : Bool) → width_with kind w ≡ Some n → nat_le (o + n) (length b) ≡ x → (if x then Some (number_put b o w) else None) ≡ Some c → (o + far ≤ length b) × (length c ≡ length b)
    at n true is le h =
        let own = of-kind kind far w e (ap is_some is) in
        let both : Some n ≡ Some far = sym is ∙ own.width in
        let wide : n ≡ far = cc (both) in
        let inside = leb-true (o + n) (length b) le in
        let here : o + far ≤ length b = omega (arith, wide) in
        let put : number_put b o w ≡ c = cc (h) in
        (here, ap length (sym put) ∙ own.kept o b here)
    at n false is le h = absurd (cc (h))

    by : (x : Option ℕ) → width_with kind w ≡ x → option_and_then (stored_in b o w) x ≡ Some c → (o + far ≤ length b) × (length c ≡ length b)
    by None is h = absurd (cc (h))
    by (Some n) is h = at n (nat_le (o + n) (length b)) is refl h

-- so all that are stored lie inside
stored-fit : (b c : List ℕ) (o kind far : ℕ) (w : Val) (ws : List Val) → Some far ≡ width_of kind → Some c ≡ stored_far b o kind far (w ∷ ws) → o + suc (length ws) * far ≤ length b
stored-fit b c o kind far w [] e h = by (stored_kind b o kind w) refl h
  where
    by : (x : Option (List ℕ)) → stored_kind b o kind w ≡ x → Some c ≡ option_and_then (λ (d : List ℕ). stored_far d (o + far) kind far []) x → o + 1 * far ≤ length b
    by None is h = absurd (cc (h))
    by (Some d) is h = let one = stored-inside b d o kind far w e is in omega (arith, one.0)
stored-fit b c o kind far w (v ∷ vs) e h = by (stored_kind b o kind w) (λ d rest. stored-fit d c (o + far) kind far v vs e rest) refl h
  where
    by : (x : Option (List ℕ)) → ((d : List ℕ) → Some c ≡ stored_far d (o + far) kind far (v ∷ vs) → o + far + suc (length vs) * far ≤ length d) → stored_kind b o kind w ≡ x
        → Some c ≡ option_and_then (λ (d : List ℕ). stored_far d (o + far) kind far (v ∷ vs)) x → o + suc (suc (length vs)) * far ≤ length b
    by None rest is h = absurd (cc (h))
    by (Some d) rest is h = let one = stored-inside b d o kind far w e is in let fits = rest d h in omega (arith, one.1)

-- they do not all lie inside
outside-stored : (b : List ℕ) (o kind far : ℕ) (ws : List Val) → Some far ≡ width_of kind → 1 ≤ length ws → length b < o + length ws * far → None ≡ stored_far b o kind far ws
outside-stored b o kind far [] e some past = absurd (omega arith)
outside-stored b o kind far (w ∷ ws) e some past = by (stored_far b o kind far (w ∷ ws)) refl
  where
    by : (x : Option (List ℕ)) → x ≡ stored_far b o kind far (w ∷ ws) → None ≡ x
    by None is = refl
    by (Some c) is = let fits = stored-fit b c o kind far w ws e is in absurd (omega arith)

-- the literals of a row
abbrev pub AreOfKind : ℕ → List LiteralInstance → Bool → Type 0
AreOfKind kind ls c = list_all (λ l. is_of_kind kind (literal_of l)) ls ≡ c

abbrev pub AreInside : List ℕ → ℕ → ℕ → List LiteralInstance → Bool → Type 0
AreInside b o far ls c = nat_le (o + length ls * far) (length b) ≡ c

row-of : (b : List ℕ) (o kind far : ℕ) (ls : List LiteralInstance) (x : Option (List ℕ)) → Some far ≡ width_of kind → x ≡ stored_far b o kind far (map literal_of ls) → x ≡ stored_row b o kind (map literal_of ls)
row-of b o kind far ls x e h = h ∙ ap (option_and_then (λ (far : ℕ). stored_far b o kind far (map literal_of ls))) e

-- one is of another kind, or they do not all lie inside
pub row-not-stored : (b : List ℕ) (o kind far : ℕ) (ls : List LiteralInstance) → Some far ≡ width_of kind → 1 ≤ length ls → AreOfKind kind ls false ⊎ AreInside b o far ls false → None ≡ stored_row b o kind (map literal_of ls)
row-not-stored b o kind far ls e some (inl other) = row-of b o kind far ls None e (other-stored b o kind far (map literal_of ls) (list_all-map (is_of_kind kind) literal_of ls ∙ other))
row-not-stored b o kind far ls e some (inr outside) =
    let same : length (map literal_of ls) ≡ length ls = length-map ls literal_of in
    let past = leb-false (o + length ls * far) (length b) outside in
    let beyond = ap (λ (n : ℕ). o + n * far) same in
    row-of b o kind far ls None e (outside-stored b o kind far (map literal_of ls) e (omega (arith, same)) (omega (arith, beyond)))

-- else they are put
pub record IsRowPut (b : List ℕ) (o kind far : ℕ) (ls : List LiteralInstance) : Type 0 where
  pub stand : StandInRow (vals_of (map literal_of ls)) far scalar o (length b)
  pub bytes : Some (put_row (vals_of (map literal_of ls)) far scalar o b) ≡ stored_row b o kind (map literal_of ls)

pub row-stored : (b : List ℕ) (o kind far : ℕ) (ls : List LiteralInstance) → Some far ≡ width_of kind → AreOfKind kind ls true → AreInside b o far ls true → IsRowPut b o kind far ls
row-stored b o kind far ls e kinds inside =
    let same = ap (λ (n : ℕ). o + n * far) (length-map ls literal_of) in
    let le = leb-true (o + length ls * far) (length b) inside in
    let own = list_all-map (is_of_kind kind) literal_of ls ∙ kinds in
    record {
      stand = all-stand o kind far (length b) (map literal_of ls) e own (omega (arith, same));
      bytes = row-of b o kind far ls (Some (put_row (vals_of (map literal_of ls)) far scalar o b)) e (all-stored b o kind far (map literal_of ls) e own (omega (arith, same)));
    }

-- ---- the loop that puts

abbrev pub nothing : LiteralInstance
nothing = literals.Bool false

pub put-number : (l : LiteralInstance) (o : ℕ) (b : List ℕ) → number_put b o (literal_of l) ≡ put (literal_of l) scalar o b
put-number (literals.Bool b) o c = refl
put-number (literals.AbstractInt z) o c = refl
put-number (literals.I32 z) o c = refl
put-number (literals.U32 n) o c = refl
put-number (literals.I64 z) o c = refl
put-number (literals.U64 n) o c = refl

-- the literal of the position, and those behind it
pub literals-from : (ls : List LiteralInstance) (i : ℕ) → i < length ls → vals_of (map literal_of (drop i ls)) ≡ val (literal_of (get_or ls i nothing)) (vals_of (map literal_of (drop (i + 1) ls)))
literals-from ls i h = rw (drop-cons ls i nothing, add-one) refl

pub literals-past : (ls : List LiteralInstance) (i : ℕ) → length ls ≤ i → vals_of (map literal_of (drop i ls)) ≡ no_vals
literals-past ls i h = ap (λ (xs : List LiteralInstance). vals_of (map literal_of xs)) (drop_of_length-le ls {i = i} h)
