-- What the calls on a reference answer, from what the calls that they make answered.
use Rattle.std.proofs.Common.{◌≡◌, ℕ, List, [], ◌∷◌, ◌++◌, length, Option, Some, None, Ok, Err, option_map, Bool, true, false, ◌&&◌, if◌then◌else◌, refl, sym, ap, ◌∙◌, subst}
use Rattle.std.specs.Result.{result_ok}
use Rattle.wgsl_rules.proofs.lemmas.Paths.{member_named-item, stepped-item}
use Rattle.wgsl_rules.specs.Access.{can_write}
use Rattle.wgsl_rules.specs.Equal.{same_is}
use Rattle.wgsl_rules.specs.Same.{same}
use Rattle.wgsl_rules.specs.Types.{Ty}
use Rattle.wgsl_rules.specs.Values.{Step, index, Reference, Val, type_of, IsStorable}
use Rattle.wgsl_rules.specs.Refusals.{not_read_write, write_ref_type, Outcome, and_then}
use Rattle.wgsl_rules.specs.Paths.{parts, viewed, member_named, part_at, same_paths, fits}
use Rattle.wgsl_layout.specs.Fitting.{FitsAt}
use Rattle.wgsl_store.specs.Memory.{held, IsKept, put_cells}
use Rattle.wgsl_store.specs.ReferenceCalls.{going_on, read, deeper, old_value, read_written}
use Rattle.wgsl_store.proofs.lemmas.Sound.{deeper-kept, whole-kept-new}
use Rattle.wgsl_values.proofs.lemmas.Steps.{item-storable, parts-storable}

-- ---- parts of values that may be stored

pub member-storable : (n : List ℕ) (v x : Val) → IsStorable v → Some x ≡ option_map (λ p. p.1) (member_named n v) → IsStorable x
member-storable n v x h e = by (member_named n v) refl e
  where
    by : (o : Option (ℕ × Val)) → member_named n v ≡ o → Some x ≡ option_map (λ (p : ℕ × Val). p.1) o → IsStorable x
    by (Some p) is e = let same : p.1 ≡ x = cc in subst IsStorable same (item-storable p.0 (parts v) p.1 (parts-storable v h) (member_named-item n v p is))
    by None is e = absurd (cc)

pub indexed-storable : (i : ℕ) (v x : Val) → IsStorable v → Some x ≡ option_map (λ p. p.1) (result_ok (part_at i v)) → IsStorable x
indexed-storable i v x h e = by (part_at i v) refl e
  where
    by : (o : Outcome (ℕ × Val)) → part_at i v ≡ o → Some x ≡ option_map (λ (p : ℕ × Val). p.1) (result_ok o) → IsStorable x
    by (Ok p) is e = let same : p.1 ≡ x = cc in subst IsStorable same (item-storable p.0 (parts v) p.1 (parts-storable v h) (stepped-item (index i) v p is))
    by (Err f) is e = absurd (cc)

-- ---- a reference one step deeper

pub indexed-viewed : (i : ℕ) (v x : Val) → Some x ≡ option_map (λ p. p.1) (result_ok (part_at i v)) → viewed (index i ∷ []) v ≡ Ok x
indexed-viewed i v x e = by (part_at i v) refl e
  where
    by : (o : Outcome (ℕ × Val)) → part_at i v ≡ o → Some x ≡ option_map (λ (p : ℕ × Val). p.1) (result_ok o) → viewed (index i ∷ []) v ≡ Ok x
    by (Ok p) is e = let same : p.1 ≡ x = cc in ap (λ (o : Outcome (ℕ × Val)). and_then o (λ q. viewed [] q.1)) is ∙ ap Ok same
    by (Err f) is e = absurd (cc)

-- a reference that goes on by the step, to what is there, is kept
pub step-kept : (cells : List Val) (r q : Reference) (s : Step) (v x : Val) → read (held cells) r ≡ Ok v → viewed (s ∷ []) v ≡ Ok x
    → q.cell ≡ r.cell → q.view ≡ r.view ++ s ∷ [] → q.ty ≡ type_of x → IsKept cells q
step-kept cells r q s v x is leads at along typed =
    let deep : deeper (held cells) r s ≡ Ok (going_on r (s ∷ []) (type_of x)) =
    ap (λ (o : Outcome Val). and_then o (λ w. and_then (viewed (s ∷ []) w) (λ y. Ok (going_on r (s ∷ []) (type_of y))))) is
    ∙ ap (λ (o : Outcome Val). and_then o (λ y. Ok (going_on r (s ∷ []) (type_of y)))) leads in
    rw (at, along, typed) (deeper-kept cells r (going_on r (s ∷ []) (type_of x)) s deep)

-- a reference to the whole of a new last cell is kept
pub new-kept : (cells after : List Val) (v : Val) (q : Reference) → after ≡ cells ++ v ∷ [] → q.cell ≡ length cells → q.view ≡ [] → q.ty ≡ type_of v → IsKept after q
new-kept cells after v q added at whole typed = rw (at, whole, typed, added) (whole-kept-new cells v q.space q.access)

-- ---- values that fit

pub fits-typed : (w v : Val) (t : Ty) (b : Bool) → type_of w ≡ t → type_of v ≡ t → b ≡ same_paths w v → b ≡ fits w v
fits-typed w v t b e f h = h ∙ ap (λ (c : Bool). c && same_paths w v) (sym ((same_is (type_of w) (type_of v)).1 (e ∙ sym f)))

pub fits-other : (w v : Val) (t : Ty) (b : Bool) → b ≡ false → (type_of w ≡ t → ⊥) → type_of v ≡ t → b ≡ fits w v
fits-other w v t b e n f = by (same (type_of w) (type_of v)) refl
  where
    by : (c : Bool) → same (type_of w) (type_of v) ≡ c → b ≡ fits w v
    by true is = absurd (n ((same_is (type_of w) (type_of v)).0 is ∙ f))
    by false is = e ∙ ap (λ (c : Bool). c && same_paths w v) (sym is)

-- ---- an accepted write that answers the old value

pub read_written-is : (cells new : List Val) (r : Reference) (w old : Val) → can_write r.access ≡ true → FitsAt w (held cells r) → held cells r ≡ Ok old → new ≡ put_cells cells r w
    → read_written cells r w ≡ Ok (record { old = old; cells = new })
read_written-is cells new r w old can fit is put =
    let fitted : fits w old ≡ true = subst (FitsAt w) is fit in
    let accepted : old_value not_read_write (held cells) r w ≡ Ok old =
    ap (λ (b : Bool). if b then and_then (held cells r) (λ v. if fits w v then Ok v else Err (write_ref_type (type_of w) r.ty)) else Err not_read_write) can
    ∙ ap (λ (o : Outcome Val). and_then o (λ v. if fits w v then Ok v else Err (write_ref_type (type_of w) r.ty))) is
    ∙ ap (λ (b : Bool). if b then Ok old else Err (write_ref_type (type_of w) r.ty)) fitted in
    ap (λ (o : Outcome Val). and_then o (λ x. Ok (record { old = x; cells = put_cells cells r w }))) accepted ∙ rw put refl
