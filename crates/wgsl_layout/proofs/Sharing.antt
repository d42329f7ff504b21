-- The parts of a value that was read were read too.
use Rattle.std.proofs.Common.{◌≡◌, ℕ, zero, suc, ◌+◌, ◌<◌, ℤ, List, [], ◌∷◌, length, get_or, Option, Some, None, option_map, refl, sym, ap, ◌∙◌, subst, arith}
use Rattle.wgsl_rules.specs.Kinds.{Kind}
use Rattle.wgsl_rules.specs.Types.{Ty, struct, array, vec, mat, atomic, Fields}
use Rattle.wgsl_rules.specs.Values.{Val, Vals, item, type_of}
use Rattle.wgsl_rules.specs.Paths.{parts}
use Rattle.wgsl_rules.specs.Size.{end_after, extent_in, offset_after}
use Rattle.wgsl_rules.specs.Layout.{Layout, scalar, composite, amount, layout, member_parts, repeated}
use Rattle.wgsl_rules.specs.View.{member_view, members_view, type_view}
use Rattle.wgsl_rules.specs.declared.ty.StructMemberType.{StructMemberType}
use Rattle.wgsl_values.specs.View.{vals_view}
use Rattle.wgsl_values.specs.declared.instance.Instance.{Instance}
use Rattle.wgsl_layout.specs.Buffers.{decoded, decoded_parts, made_of_number, made_of_parts, read_number}
use Rattle.wgsl_layout.specs.Ranges.{Range, part_at, parts_in}
use Rattle.wgsl_layout.specs.Sharing.{WasRead, IsFirstRead}
use Rattle.wgsl_layout.proofs.Making.{type-is}
use Rattle.wgsl_layout.proofs.Reading.{join}
use Rattle.wgsl_layout.proofs.lemmas.Parts.{item-decoded}

made-item : (t : Ty) (vs : Vals) (i : ℕ) (x : Val) → item i (parts (made_of_parts t vs)) ≡ Some x → item i vs ≡ Some x
made-item (struct name fs) vs i x e = e
made-item (array t None) vs i x e = e
made-item (array t (Some n)) vs i x e = e
made-item (vec n t) vs i x e = e
made-item (mat c r t) vs i x e = e
made-item t vs i x e = absurd (cc)

number-item : (t : Ty) (k : Kind) (z : ℤ) (i : ℕ) (x : Val) → item i (parts (made_of_number t k z)) ≡ Some x → ⊥
number-item (atomic t) k z i x e = cc
number-item t k z i x e = cc

record IsPartRead (i : ℕ) (b : List ℕ) (o : ℕ) (l : Layout) (x : Val) : Type 0 where
  range : Range
  found : part_at i (parts_in l) ≡ Some range
  is : x ≡ decoded b (o + range.start) range.layout

part-read : (i : ℕ) (b : List ℕ) (o : ℕ) (l : Layout) (x : Val) → item i (parts (decoded b o l)) ≡ Some x → IsPartRead i b o l x
part-read i b o (scalar t k) x e = absurd (number-item t k (read_number b o k) i x e)
part-read i b o (composite t len ps) x e = by (part_at i ps) refl (made-item t (decoded_parts b o ps) i x e)
  where
    by : (q : Option Range) → part_at i ps ≡ q → item i (decoded_parts b o ps) ≡ Some x → IsPartRead i b o (composite t len ps) x
    by None f at = let none = item-decoded i b o ps ∙ ap (option_map (λ r. decoded b (o + r.start) r.layout)) f in absurd (cc)
    by (Some r) f at =
        let some = item-decoded i b o ps ∙ ap (option_map (λ r. decoded b (o + r.start) r.layout)) f in
        let is : x ≡ decoded b (o + r.start) r.layout = cc in
        record { range = r; found = f; is = is }

-- a part of what was read was read, by the layout of its type
pub read-part : (i n : ℕ) (t u : Ty) (v x : Val) → WasRead n t v → item i (parts v) ≡ Some x → ((r : Range) → part_at i (parts_in (layout n t)) ≡ Some r → r.layout ≡ layout n u) → WasRead n u x
read-part i n t u v x w e layouts =
    let p = part-read i w.bytes w.at (layout n t) x (subst (λ (y : Val). item i (parts y) ≡ Some x) w.is e) in
    record { bytes = w.bytes; at = w.at + p.range.start; is = p.is ∙ ap (decoded w.bytes (w.at + p.range.start)) (layouts p.range p.found) }

-- ---- the layouts of parts

repeated-layout : (l : Layout) (far from i n : ℕ) (r : Range) → part_at i (repeated l far from n) ≡ Some r → r.layout ≡ l
repeated-layout l far from i zero r e = absurd (cc)
repeated-layout l far from zero (suc n) r e = let same : record { start = from; layout = l } ≡ r = cc in sym (ap (λ (q : Range). q.layout) same)
repeated-layout l far from (suc i) (suc n) r e = repeated-layout l far (from + far) i n r e

pub element-layout : (i n : ℕ) (t : Ty) (m : Option ℕ) (r : Range) → part_at i (parts_in (layout n (array t m))) ≡ Some r → r.layout ≡ layout n t
element-layout i n t None r e = repeated-layout (layout n t) _ 0 i n r e
element-layout i n t (Some k) r e = repeated-layout (layout n t) _ 0 i k r e

pub member-layout : (ms : List StructMemberType) (i n : ℕ) (from : Option ℕ) (m : StructMemberType) (r : Range) → i < length ms → m ≡ get_or ms i m
    → part_at i (member_parts n from (members_view ms)) ≡ Some r → r.layout ≡ layout n (type_view m.ty)
member-layout [] i n from m r h d e = absurd (omega arith)
member-layout (x ∷ ms) zero n from m r h d e =
    let at : Range = record { start = amount (offset_after from (extent_in (member_view x).ty (member_view x).size (member_view x).align)); layout = layout n (member_view x).ty } in
    let same : at ≡ r = cc in
    sym (ap (λ (q : Range). q.layout) same) ∙ ap (λ (y : StructMemberType). layout n (member_view y).ty) (sym d) ∙ ap (layout n) (sym (type-is m))
member-layout (x ∷ ms) (suc i) n from m r h d e =
    member-layout ms i n (end_after from (extent_in (member_view x).ty (member_view x).size (member_view x).align)) m r (omega arith) d e

-- ---- the first of a row

pub first-read : (xs : List Instance) (rest : Vals) (b : List ℕ) (o far m n : ℕ) (t : Ty) → join (vals_view xs) rest ≡ decoded_parts b o (repeated (layout n t) far 0 m) → IsFirstRead xs n t
first-read [] rest b o far m n t e = tt
first-read (x ∷ xs) rest b o far zero n t e = absurd (cc)
first-read (x ∷ xs) rest b o far (suc m) n t e = record { bytes = b; at = o + 0; is = cc }

-- ---- the type of a structure

pub read-struct : (n : ℕ) (t : Ty) (name : List ℕ) (fs : Fields) (v : Val) → t ≡ struct name fs → WasRead n t v → type_of v ≡ t
read-struct n t name fs v e w = let here = subst (λ (u : Ty). WasRead n u v) e w in ap type_of here.is ∙ sym e
