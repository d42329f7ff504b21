-- What bytes lay out in a range is what the bytes of the range lay out.
use Rattle.std.proofs.Common.{◌≡◌, ℕ, zero, suc, ◌+◌, ◌<◌, ◌≤◌, List, length, drop, take, Option, Some, None, option_map, Bool, if◌then◌else◌, refl, sym, ap, ◌∙◌, arith, length-drop, pos}
use Rattle.std.specs.Prelude.{slice_index}
use Rattle.std.proofs.lemmas.List.{length-take-le, get_or-take, get_or-drop}
use Rattle.wgsl_rules.specs.Kinds.{bytes_of, wrap}
use Rattle.wgsl_rules.specs.Types.{Ty}
use Rattle.wgsl_rules.specs.Values.{type_of}
use Rattle.wgsl_rules.specs.Layout.{Layout, scalar, composite, Parts, no_parts, part, length_in, layout, runtime_count, count_in}
use Rattle.wgsl_layout.specs.Buffers.{number_from, made_of_number, made_of_parts, decoded, decoded_parts, decode}
use Rattle.wgsl_layout.specs.Plan.{Plan}
use Rattle.wgsl_layout.specs.Ranges.{Range, bytes_in}
use Rattle.wgsl_layout.specs.Reading.{IsThere}
use Rattle.wgsl_layout.proofs.lemmas.Counts.{counted-in}
use Rattle.wgsl_layout.proofs.lemmas.Flat.{IsLaid, there-laid}
use Rattle.wgsl_layout.proofs.lemmas.Positive.{tail-stride}
use Rattle.wgsl_layout.proofs.lemmas.Ranges.{IsTidy, AreTidy, tidy-length}
use Rattle.wgsl_layout.proofs.lemmas.Tidy.{tidy}

-- ---- bytes that are alike

-- n bytes, those of b from o on and those of c from p on
pub record AreAlike (b c : List ℕ) (o p n : ℕ) : Type 0 where
  pub same : (j : ℕ) → j < n → slice_index b (o + j) ≡ slice_index c (p + j)

alike-in : (b c : List ℕ) (o p n k m : ℕ) → k + m ≤ n → AreAlike b c o p n → AreAlike b c (o + k) (p + k) m
alike-in b c o p n k m le h = record {
  same = λ j lt.
      let eo : o + k + j ≡ o + (k + j) = omega arith in
      let ep : p + (k + j) ≡ p + k + j = omega arith in
      ap (slice_index b) eo ∙ h.same (k + j) (omega arith) ∙ ap (slice_index c) ep;
}

numbers-alike : (b c : List ℕ) (o p n : ℕ) → AreAlike b c o p n → number_from b o n ≡ number_from c p n
numbers-alike b c o p zero h = refl
numbers-alike b c o p (suc n) h =
    let zo : o ≡ o + 0 = omega arith in
    let zp : p + 0 ≡ p = omega arith in
    let first : slice_index b o ≡ slice_index c p = ap (slice_index b) zo ∙ h.same 0 (omega arith) ∙ ap (slice_index c) zp in
    let rest : number_from b (o + 1) n ≡ number_from c (p + 1) n = numbers-alike b c (o + 1) (p + 1) n (alike-in b c o p (suc n) 1 n (omega arith) h) in
    cc

mutual
  decoded-alike : (l : Layout) (b c : List ℕ) (o p : ℕ) → IsTidy l → AreAlike b c o p (length_in l) → decoded b o l ≡ decoded c p l
  decoded-alike (scalar t k) b c o p d h = ap (λ (n : ℕ). made_of_number t k (wrap k (pos n))) (numbers-alike b c o p (bytes_of k) h)
  decoded-alike (composite t len ps) b c o p d h = ap (made_of_parts t) (parts-alike ps b c o p 0 len d h)

  parts-alike : (ps : Parts) (b c : List ℕ) (o p from to : ℕ) → AreTidy from ps to → AreAlike b c o p to → decoded_parts b o ps ≡ decoded_parts c p ps
  parts-alike no_parts b c o p from to d h = refl
  parts-alike (part at l ps) b c o p from to d h =
      let ends = tidy-length (at + length_in l) to ps d.2 in
      let first = decoded-alike l b c (o + at) (p + at) d.1 (alike-in b c o p to at (length_in l) (omega arith) h) in
      let rest = parts-alike ps b c o p (at + length_in l) to d.2 h in
      cc (first, rest)

-- ---- the bytes of a range

length-in-range : (b : List ℕ) (o n : ℕ) → o + n ≤ length b → length (take n (drop o b)) ≡ n
length-in-range b o n le = let rest = length-drop o b in length-take-le n (drop o b) (omega arith)

in-range-alike : (b : List ℕ) (o n : ℕ) → AreAlike b (take n (drop o b)) o 0 n
in-range-alike b o n = record {
  same = λ j lt.
      let z : 0 + j ≡ j = omega arith in
      sym (ap (slice_index (take n (drop o b))) z ∙ get_or-take n (drop o b) j 0 lt ∙ get_or-drop o b j 0);
}

abbrev pub range_of : ℕ → ℕ → Ty → Range
range_of at n t = record { start = at; layout = layout n t }

-- a value that stands in bytes is what the bytes of its range lay out
pub there-decodes : (n : ℕ) (t : Ty) (p : Plan) (at : ℕ) (b : List ℕ) → IsThere n t p at (length b) → decode (bytes_in b (range_of at n t)) t ≡ Some (decoded b at (layout n t))
there-decodes n t p at b h =
    let v = decoded b at (layout n t) in
    let c = bytes_in b (range_of at n t) in
    let own : IsLaid n t v = there-laid n t p at (length b) b h in
    let long : length c ≡ length_in (layout n t) = length-in-range b at (length_in (layout n t)) h.inside in
    let same_length = ap length_in own.alike in
    let its_length = (tidy (type_of v) (runtime_count v) own.laid).1 in
    let few = tail-stride (type_of v) own.laid in
    let counted : count_in (length c) t ≡ Some (runtime_count v) =
    ap (count_in (length c)) (sym own.typed) ∙ counted-in v 0 (length c) own.storable own.laid (omega (arith, long, same_length, its_length)) few in
    let its_layout : layout (runtime_count v) t ≡ layout n t = ap (layout (runtime_count v)) (sym own.typed) ∙ own.alike in
    ap (λ (x : Bool). if x then option_map (λ m. decoded c 0 (layout m t)) (count_in (length c) t) else None) h.laid
    ∙ ap (λ (o : Option ℕ). option_map (λ m. decoded c 0 (layout m t)) o) counted
    ∙ ap (λ (l : Layout). Some (decoded c 0 l)) its_layout
    ∙ ap Some (sym (decoded-alike (layout n t) b c at 0 (tidy t n h.laid).0 (in-range-alike b at (length_in (layout n t)))))
