-- The walk over the members of a structure: one step, and what ends it.
use Rattle.std.proofs.Common.{◌≡◌, ℕ, zero, suc, ◌+◌, ◌<◌, ◌≤◌, max, List, [], ◌∷◌, length, drop, get_or, slice_set, Option, Some, None, is_some, is_none, Bool, true, false, IsTrue, refl, sym, ap, ◌∙◌, subst, arith, string_bytes}
use Rattle.std.specs.Prelude.{◌&&◌, ◌||◌, ◌==◌, nat_eq, nat_lt, if◌then◌else◌, MatchOption}
use Rattle.std.specs.Option.{option_or}
use Rattle.std.proofs.Math.ListN.{length-set}
use Rattle.std.proofs.Math.Bool.{and-false, or-true}
use Rattle.std.proofs.lemmas.Bool.{false≢true}
use Rattle.std.proofs.lemmas.Bool.Decides.{nat_tests}
use Rattle.wgsl_rules.specs.Types.{Ty, struct, array, Fields, no_fields, field}
use Rattle.wgsl_rules.specs.Size.{size_of, align_of, with_both, round_up, sum_of, extent_in, offset_after, end_after}
use Rattle.wgsl_rules.specs.Layout.{amount, size, align, is_align_valid, is_size_valid, are_attributes_valid, have_none, Tail, tail_of, known_stride}
use Rattle.wgsl_rules.specs.View.{Field, type_view, members_view}
use Rattle.wgsl_rules.specs.declared.ty.StructMemberType.{StructMemberType}
use Rattle.wgsl_rules.proofs.lemmas.Views.{member_view-is}
use Rattle.wgsl_rules.proofs.lemmas.Known.{and-both}
use Rattle.wgsl_rules.proofs.lemmas.Members.{first, fields-from}
use Rattle.wgsl_nodes.specs.HostTypes.{has_nodes, has_fixed_nodes, is_runtime_array, has_runtime_nodes, end_in_runtime_array}
use Rattle.wgsl_nodes.specs.Nodes as tables
use Rattle.wgsl_nodes.specs.Nodes.{Says, Stands, LeadsTo, MembersStand, members_in, sort_of, start_of, bytes_before}
use Rattle.wgsl_nodes.specs.Making.{Keeps, IsAdded, IsSpot, has_spot, structure_node}
use Rattle.wgsl_nodes.specs.declared.nodes.Node.{Node}
use Rattle.wgsl_nodes.specs.declared.make.Spot.{Spot}
use Rattle.wgsl_nodes.specs.declared.make.Members.{«Members» as SoFar}
use Rattle.wgsl_nodes.proofs.Fixed.{fixed-sized, fixed-tail}
use Rattle.wgsl_nodes.proofs.Arrays.{IsFixedPart, fixed-part, tail-not-fixed}
use Rattle.wgsl_nodes.proofs.Added.{keeps-set, keeps-through}
use Rattle.wgsl_nodes.proofs.Exact.{node-is, AreExact, next-exact, all-exact}
use Rattle.wgsl_nodes.proofs.Typed.{AreFilled, filled-each}
use Rattle.wgsl_nodes.proofs.Filled.{filled-next}
use Rattle.wgsl_nodes.proofs.Members.{fields-past, members-counted, AgreesBut, AreMade, IsRefused, refused, other-refused, fixed-refused, runtime-refused, offset-of, end-of, member-made, member-stands, agrees-before, SaysStructure, structure-made}

-- the members from one on
pub member-from : (ms : List StructMemberType) (i : ℕ) (m : StructMemberType) → i < length ms → m ≡ get_or ms i m
    → members_view (drop i ms) ≡ field (string_bytes m.name) (type_view m.ty) m.size m.align (members_view (drop (i + 1) ms))
member-from ms i m h e = fields-from ms i m h e ∙ ap (λ (f : Field). first f (members_view (drop (i + 1) ms))) (member_view-is m)

abbrev pub AreMadeTo : List StructMemberType → ℕ → List Node → ℕ → ℕ → ℕ → Type 0
AreMadeTo ms i nodes child end all = AreMade (members_view ms) (members_view (drop i ms)) nodes child (child + length ms) i end all

abbrev pub AreMadeWith : List StructMemberType → ℕ → StructMemberType → List Node → ℕ → ℕ → ℕ → Type 0
AreMadeWith ms i m nodes child end all = AreMade (members_view ms) (field (string_bytes m.name) (type_view m.ty) m.size m.align (members_view (drop (i + 1) ms))) nodes child (child + length ms) i end all

with-member : (ms : List StructMemberType) (i : ℕ) (m : StructMemberType) (nodes : List Node) (child end all : ℕ) → i < length ms → m ≡ get_or ms i m → AreMadeTo ms i nodes child end all → AreMadeWith ms i m nodes child end all
with-member ms i m nodes child end all h e made = subst (λ (fs : Fields). AreMade (members_view ms) fs nodes child (child + length ms) i end all) (member-from ms i m h e) made

abbrev pub AreExactTo : List StructMemberType → ℕ → List Node → List Node → ℕ → Type 0
AreExactTo ms i before nodes end = AreExact before nodes (members_view ms) (members_view (drop i ms)) (Some end) i (length ms)

exact-with : (ms : List StructMemberType) (i : ℕ) (m : StructMemberType) (before nodes : List Node) (end : ℕ) → i < length ms → m ≡ get_or ms i m → AreExactTo ms i before nodes end
    → AreExact before nodes (members_view ms) (field (string_bytes m.name) (type_view m.ty) m.size m.align (members_view (drop (i + 1) ms))) (Some end) i (length ms)
exact-with ms i m before nodes end h e exact = subst (λ (fs : Fields). AreExact before nodes (members_view ms) fs (Some end) i (length ms)) (member-from ms i m h e) exact

-- ---- a member more

pub record AreNext (ms : List StructMemberType) (i : ℕ) (first_nodes nodes : List Node) (child end all : ℕ) : Type 0 where
  pub made : AreMadeTo ms i nodes child end all
  pub longer : child + length ms ≤ length nodes
  pub kept : Keeps first_nodes nodes
  pub filled : AreFilled first_nodes nodes child (child + length ms) i
  pub exact : AreExactTo ms i first_nodes nodes end

pub member-next : (ms : List StructMemberType) (i : ℕ) (m : StructMemberType) (before old grown now : List Node) (child end all : ℕ) (part : Node) (spot : Spot) (next : SoFar)
    → i < length ms → m ≡ get_or ms i m → AreMadeTo ms i old child end all → child + length ms ≤ length old → Keeps before old → AreFilled before old child (child + length ms) i → AreExactTo ms i before old end → child ≡ length before
    → IsAdded old grown part (type_view m.ty) → part.tail_stride ≡ 0 → IsSpot (Some end) m.align (Some part.align) spot
    → IsTrue (is_size_valid m.size (Some part.size)) × (with_both sum_of (Some spot.offset) (option_or m.size (Some part.size)) ≡ Some next.end) × (next.align ≡ max all spot.align)
    → now ≡ slice_set grown (child + i) (record part { offset = spot.offset })
    → AreNext ms (i + 1) before now child next.end next.align
member-next ms i m before old grown now child end all part spot next h e made longer kept filled exact at added no_tail is with set =
    let placed = record part { offset = spot.offset } in
    let fixed = fixed-part (type_view m.ty) part added.host added.describes.says no_tail in
    let here = with-member ms i m old child end all h e made in
    let behind = member-made (members_view ms) (string_bytes m.name) (type_view m.ty) m.size m.align (members_view (drop (i + 1) ms)) old grown child (child + length ms) i end all spot.offset next.end spot.align part
    here longer (omega arith) added fixed is.valid is.align_is is.offset_is with.0 with.1 in
    let more = added.longer in
    let offset_is = offset-of (type_view m.ty) m.size m.align end spot.offset part fixed is.offset_is in
    let end_is : end_after (Some end) (extent_in (type_view m.ty) m.size m.align) ≡ Some next.end = end-of (type_view m.ty) m.size m.align end spot.offset part fixed offset_is ∙ with.1 in
    let exactly = next-exact before old grown (members_view ms) (string_bytes m.name) (type_view m.ty) m.size m.align (members_view (drop (i + 1) ms)) (Some end) child i (length ms) spot.offset part
    (exact-with ms i m before old end h e exact) h at added.exact added.grown offset_is in
    record {
      made = rw (set, with.2) behind;
      longer = rw set (omega (arith, length-set grown (child + i) placed));
      kept = rw set (keeps-set before grown (child + i) placed (omega arith) (keeps-through before old grown kept added.kept));
      filled = rw set (filled-next before old grown child (child + length ms) i spot.offset part (type_view m.ty) filled (omega arith) longer added);
      exact = rw (set, ← end_is) exactly;
    }

-- ---- no member more

or-both : (a b : Bool) → (a || b) ≡ false → (a ≡ false) × (b ≡ false)
or-both true b h = absurd (false≢true (sym h))
or-both false b h = (refl, h)

not-runtime-array : (t : Ty) → has_runtime_nodes t ≡ false → is_runtime_array t ≡ false
not-runtime-array (struct name fs) h = refl
not-runtime-array t h = h

-- the type of the member has no table
pub no-part : (ms : List StructMemberType) (i : ℕ) (m : StructMemberType) (old : List Node) (child end all : ℕ) → i < length ms → m ≡ get_or ms i m → AreMadeTo ms i old child end all
    → has_nodes (type_view m.ty) ≡ false → (name : List ℕ) → has_nodes (struct name (members_view ms)) ≡ false
no-part ms i m old child end all h e made none name =
    let rest = members_view (drop (i + 1) ms) in
    let both = or-both (has_fixed_nodes (type_view m.ty)) (has_runtime_nodes (type_view m.ty)) none in
    let runtime : (is_runtime_array (type_view m.ty) && (is_none m.size && have_none rest)) ≡ false = rw (not-runtime-array (type_view m.ty) both.1) refl in
    refused name (members_view ms) _ old child (child + length ms) i end all (with-member ms i m old child end all h e made)
    (other-refused (string_bytes m.name) (type_view m.ty) m.size m.align rest end both.0 runtime)

no-end : (a b o : Option ℕ) → o ≡ None → with_both sum_of o b ≡ None
no-end a b o e = rw e refl

attributes-refused : (t : Ty) (s a : Option ℕ) (end : ℕ) → (is_align_valid a (align_of t) && is_some (offset_after (Some end) (extent_in t s a))) ≡ false
    → (are_attributes_valid t s a && is_some (end_after (Some end) (extent_in t s a))) ≡ false
attributes-refused t s a end h = by (is_size_valid s (size_of t)) (is_align_valid a (align_of t)) (offset_after (Some end) (extent_in t s a)) refl h
  where
    by : (b c : Bool) (o : Option ℕ) → offset_after (Some end) (extent_in t s a) ≡ o → (c && is_some o) ≡ false → ((b && c) && is_some (with_both sum_of o (extent_in t s a).size)) ≡ false
    by false c o e k = refl
    by true false o e k = refl
    by true true None e k = refl
    by true true (Some x) e k = absurd (false≢true (sym k))

pub fixed-part-of : (t : Ty) (part : Node) → has_nodes t ≡ true → Says part t → has_fixed_nodes t ≡ true → IsFixedPart t part
fixed-part-of t part host says fixed = fixed-part t part host says (says.tail_stride ∙ ap tables.stride_of (fixed-tail t fixed))

-- of a runtime-sized array its alignment is known
pub runtime-aligned : (t : Ty) (part : Node) → Says part t → is_runtime_array t ≡ true → align_of t ≡ Some part.align
runtime-aligned (array u None) part says h =
    let own = fixed-sized u (and-both (has_fixed_nodes u) (is_some (known_stride u)) h).0 in
    let same : part.align ≡ own.align = says.align ∙ ap amount own.align_is in
    own.align_is ∙ ap (λ (n : ℕ). Some n) (sym same)
runtime-aligned t part says h = absurd (false≢true h)

-- its align attribute is not valid, or it has no place
pub no-spot : (ms : List StructMemberType) (i : ℕ) (m : StructMemberType) (old grown : List Node) (child end all : ℕ) (part : Node) → i < length ms → m ≡ get_or ms i m → AreMadeTo ms i old child end all
    → IsAdded old grown part (type_view m.ty) → has_spot (Some end) m.align (Some part.align) ≡ false → (name : List ℕ) → has_nodes (struct name (members_view ms)) ≡ false
no-spot ms i m old grown child end all part h e made added none name =
    let t = type_view m.ty in
    refused name (members_view ms) _ old child (child + length ms) i end all (with-member ms i m old child end all h e made) (by (has_fixed_nodes t) (is_runtime_array t) refl refl)
  where
    aligned : (o : Option ℕ) → o ≡ Some part.align → (is_align_valid m.align o && is_some (with_both round_up (option_or m.align o) (Some end))) ≡ false
    aligned o is = rw is none

    by : (b c : Bool) → has_fixed_nodes (type_view m.ty) ≡ b → is_runtime_array (type_view m.ty) ≡ c → IsRefused end (field (string_bytes m.name) (type_view m.ty) m.size m.align (members_view (drop (i + 1) ms)))
    by true c fixed runtime =
        let is = fixed-part-of (type_view m.ty) part added.host added.describes.says fixed in
        fixed-refused (string_bytes m.name) (type_view m.ty) m.size m.align (members_view (drop (i + 1) ms)) end fixed
        (attributes-refused (type_view m.ty) m.size m.align end (aligned (align_of (type_view m.ty)) is.align_is))
    by false true fixed runtime =
        runtime-refused (string_bytes m.name) (type_view m.ty) m.size m.align (members_view (drop (i + 1) ms)) end fixed
        (aligned (align_of (type_view m.ty)) (runtime-aligned (type_view m.ty) part added.describes.says runtime))
    by false false fixed runtime =
        other-refused (string_bytes m.name) (type_view m.ty) m.size m.align (members_view (drop (i + 1) ms)) end fixed (rw runtime refl)

-- its size attribute is not valid, or it has no end
pub no-next : (ms : List StructMemberType) (i : ℕ) (m : StructMemberType) (old grown : List Node) (child end all : ℕ) (part : Node) (spot : Spot) → i < length ms → m ≡ get_or ms i m → AreMadeTo ms i old child end all
    → IsAdded old grown part (type_view m.ty) → part.tail_stride ≡ 0 → IsSpot (Some end) m.align (Some part.align) spot
    → (is_size_valid m.size (Some part.size) && is_some (with_both sum_of (Some spot.offset) (option_or m.size (Some part.size)))) ≡ false
    → (name : List ℕ) → has_nodes (struct name (members_view ms)) ≡ false
no-next ms i m old grown child end all part spot h e made added no_tail is none name =
    let t = type_view m.ty in
    let part_is = fixed-part t part added.host added.describes.says no_tail in
    let offset_is : offset_after (Some end) (extent_in t m.size m.align) ≡ Some spot.offset = offset-of t m.size m.align end spot.offset part part_is is.offset_is in
    let end_is : end_after (Some end) (extent_in t m.size m.align) ≡ with_both sum_of (Some spot.offset) (option_or m.size (Some part.size)) = end-of t m.size m.align end spot.offset part part_is offset_is in
    let never : (are_attributes_valid t m.size m.align && is_some (end_after (Some end) (extent_in t m.size m.align))) ≡ false =
    ap (λ (o : Option ℕ). are_attributes_valid t m.size m.align && is_some o) end_is
    ∙ ap (λ (o : Option ℕ). (is_size_valid m.size o && is_align_valid m.align (align_of t)) && is_some (with_both sum_of (Some spot.offset) (option_or m.size (Some part.size)))) part_is.size_is
    ∙ apart (is_size_valid m.size (Some part.size)) (is_align_valid m.align (align_of t)) (is_some (with_both sum_of (Some spot.offset) (option_or m.size (Some part.size)))) none in
    refused name (members_view ms) _ old child (child + length ms) i end all (with-member ms i m old child end all h e made)
    (fixed-refused (string_bytes m.name) t m.size m.align (members_view (drop (i + 1) ms)) end part_is.fixed never)
  where
    apart : (b c d : Bool) → (b && d) ≡ false → ((b && c) && d) ≡ false
    apart false c d k = refl
    apart true false d k = refl
    apart true true d k = k

-- ---- a runtime-sized array

-- a last member that is one
pub ended : (fs : Fields) (n : List ℕ) (u : Ty) (a : Option ℕ) (before old grown now : List Node) (child count low i end all o far : ℕ) (part : Node) (name : List ℕ)
    → AreMade fs (field n (array u None) None a no_fields) old child low i end all
    → low ≤ length old → child + i < low → low ≡ child + count → count ≡ members_in fs → child ≡ length before → Keeps before old → AreFilled before old child low i → AreExact before old fs (field n (array u None) None a no_fields) (Some end) i count → low ≤ child + (i + 1) → IsAdded old grown part (array u None)
    → is_runtime_array (array u None) ≡ true → is_align_valid a (Some part.align) ≡ true → option_or a (Some part.align) ≡ Some far → with_both round_up (option_or a (Some part.align)) (Some end) ≡ Some o
    → now ≡ slice_set grown (child + i) (record part { offset = o })
    → IsAdded before now (structure_node o (max all far) count child o part.tail_stride) (struct name fs)
ended fs n u a before old grown now child count low i end all o far part name made le lt low_is counted at kept filled exact all_filled added runtime valid far_is offset set =
    let t = array u None in
    let extent = extent_in t None a in
    let aligned = runtime-aligned t part added.describes.says runtime in
    let offset_is : offset_after (Some end) extent ≡ Some o = ap (λ (x : Option ℕ). with_both round_up (option_or a x) (Some end)) aligned ∙ offset in
    let align_in : extent.align ≡ Some far = ap (option_or a) aligned ∙ far_is in
    let align_is : align (struct name fs) ≡ max all far = ap amount (sym made.align_is ∙ ap (λ (x : Option ℕ). with_both (λ p q. Some (max p q)) (Some all) x) align_in) in
    let tail_is : tail_of (struct name fs) ≡ Some (record { start = o; element = u }) =
    sym made.tail ∙ ap (λ (x : Option ℕ). Some (record { start = amount x; element = u })) offset_is in
    let placed = record part { offset = o } in
    let longer = added.longer in
    let refl_agrees : AgreesBut ((child + i) + 1) low (slice_set grown (child + i) placed) (slice_set grown (child + i) placed) = record { below = λ k x h e. e; behind = λ k x h e. e } in
    let stands = member-stands old grown (slice_set grown (child + i) placed) (child + i) low o t part le lt added refl_agrees in
    let all_of = made.stand (slice_set grown (child + i) placed) (agrees-before old grown (slice_set grown (child + i) placed) (child + i) low placed lt added.kept refl_agrees)
    (subst (λ (x : ℕ). Stands (slice_set grown (child + i) placed) (child + i) x t (λ c. LeadsTo (slice_set grown (child + i) placed) low c t)) (sym (ap amount offset_is)) stands, tt) in
    let behind = filled-next before old grown child low i o part t filled lt le added in
    let host : end_in_runtime_array (Some 0) fs ≡ true = sym made.runtime ∙ rw (runtime, aligned, valid, offset) refl in
    let made_node = structure_node o (max all far) count child o part.tail_stride in
    let says : Says made_node (struct name fs) = record {
      sort = refl;
      kind = refl;
      size = sym (ap (λ (x : Option Tail). bytes_before x (size (struct name fs))) tail_is);
      align = sym align_is;
      count = counted;
      stride = refl;
      tail_start = sym (ap start_of tail_is);
      tail_stride = added.describes.says.tail_stride ∙ sym (ap tables.stride_of tail_is);
    } in
    let exactly = next-exact before old grown fs n t None a no_fields (Some end) child i count o part exact (omega arith) at added.exact added.grown offset_is in
    rw set (record {
      host = rw host (or-true (has_fixed_nodes (struct name fs)));
      place = refl;
      describes = record {
        says = says;
        leads = (omega arith, subst (λ (k : ℕ). MembersStand (slice_set grown (child + i) placed) k child (Some 0) fs) (low_is ∙ ap (λ (k : ℕ). child + k) counted) all_of);
      };
      longer = omega (arith, length-set grown (child + i) placed);
      kept = keeps-set before grown (child + i) placed (omega arith) (keeps-through before old grown kept added.kept);
      each = filled-each before (slice_set grown (child + i) placed) child low (i + 1) behind at all_filled;
      children = let counted_so = behind.children in omega arith;
      exact = node-is made_node (struct name fs) (length before) says refl at refl refl;
      grown = all-exact before (slice_set grown (child + i) placed) name fs (end_after (Some end) extent) (i + 1) count exactly (omega arith) counted;
    })

abbrev Ends : Fields → List Node → List Node → List ℕ → Option Node → Type 0
Ends fs before now name o = MatchOption o (has_nodes (struct name fs) ≡ false) (λ r. IsAdded before now r (struct name fs))

-- what is answered where a member has no fixed size: a structure, if it is the last and a runtime-sized array
ended-says : (fs : Fields) (n : List ℕ) (t : Ty) (s a : Option ℕ) (rest : Fields) (before old grown now : List Node) (child count low i end all : ℕ) (part : Node) (spot : Spot) (last : Bool) (o : Option Node) (name : List ℕ)
    → AreMade fs (field n t s a rest) old child low i end all
    → low ≤ length old → child + i < low → low ≡ child + count → count ≡ members_in fs → child ≡ length before → Keeps before old → AreFilled before old child low i → AreExact before old fs (field n t s a rest) (Some end) i count → (last ≡ true → low ≤ child + (i + 1)) → IsAdded old grown part t → has_fixed_nodes t ≡ false
    → IsSpot (Some end) a (Some part.align) spot → now ≡ slice_set grown (child + i) (record part { offset = spot.offset }) → last ≡ have_none rest
    → o ≡ (if (last && is_none s) && part.sort == 3 then Some (structure_node spot.offset (max all spot.align) count child spot.offset part.tail_stride) else None)
    → Ends fs before now name o
ended-says fs n (array u None) None a no_fields before old grown now child count low i end all part spot last o name made le lt low_is counted at kept filled exact all_filled added fixed is set last_is answer =
    let node = structure_node spot.offset (max all spot.align) count child spot.offset part.tail_stride in
    let some : o ≡ Some node = answer ∙ rw (last_is, added.describes.says.sort) refl in
    subst (λ (x : Option Node). Ends fs before now name x) (sym some)
    (ended fs n u a before old grown now child count low i end all spot.offset spot.align part name made le lt low_is counted at kept filled exact (all_filled last_is) added added.host is.valid is.align_is is.offset_is set)
ended-says fs n (array u None) None a (field m w y k gs) before old grown now child count low i end all part spot last o name made le lt low_is counted at kept filled exact all_filled added fixed is set last_is answer =
    let none : o ≡ None = answer ∙ rw last_is refl in
    subst (λ (x : Option Node). Ends fs before now name x) (sym none)
    (refused name fs _ old child low i end all made (other-refused n (array u None) None a (field m w y k gs) end fixed (and-false (is_runtime_array (array u None)))))
ended-says fs n (array u None) (Some z) a rest before old grown now child count low i end all part spot last o name made le lt low_is counted at kept filled exact all_filled added fixed is set last_is answer =
    let none : o ≡ None = answer ∙ rw (and-false last) refl in
    subst (λ (x : Option Node). Ends fs before now name x) (sym none)
    (refused name fs _ old child low i end all made (other-refused n (array u None) (Some z) a rest end fixed (and-false (is_runtime_array (array u None)))))
ended-says fs n (array u (Some k)) s a rest before old grown now child count low i end all part spot last o name made le lt low_is counted at kept filled exact all_filled added fixed is set last_is answer =
    let host : (has_fixed_nodes (array u (Some k)) || false) ≡ true = added.host in
    absurd (false≢true (sym (ap (λ (b : Bool). b || false) fixed) ∙ host))
ended-says fs n t s a rest before old grown now child count low i end all part spot last o name made le lt low_is counted at kept filled exact all_filled added fixed is set last_is answer =
    let none : o ≡ None = answer ∙ rw (added.describes.says.sort, and-false (last && is_none s)) refl in
    subst (λ (x : Option Node). Ends fs before now name x) (sym none) (refused name fs _ old child low i end all made (other-refused n t s a rest end fixed refl))

some-left : (ms : List StructMemberType) (i : ℕ) → i < length ms → have_none (members_view (drop i ms)) ≡ false
some-left [] i h = absurd (omega arith)
some-left (m ∷ ms) zero h = refl
some-left (m ∷ ms) (suc i) h = some-left ms i (omega arith)

last-is : (ms : List StructMemberType) (i : ℕ) → i < length ms → nat_eq (i + 1) (length ms) ≡ have_none (members_view (drop (i + 1) ms))
last-is ms i h = by (nat_lt (i + 1) (length ms)) refl
  where
    is-other : (a b : ℕ) → a < b → nat_eq a b ≡ false
    is-other a b lt = grind (arith, nat_tests)

    is-same : (a b : ℕ) → a ≡ b → nat_eq a b ≡ true
    is-same a b e = grind (arith, nat_tests)

    by : (b : Bool) → nat_lt (i + 1) (length ms) ≡ b → nat_eq (i + 1) (length ms) ≡ have_none (members_view (drop (i + 1) ms))
    by true e = let lt : i + 1 < length ms = grind (arith, nat_tests) in is-other (i + 1) (length ms) lt ∙ sym (some-left ms (i + 1) lt)
    by false e =
        let le : length ms ≤ i + 1 = grind (arith, nat_tests) in
        is-same (i + 1) (length ms) (omega arith) ∙ sym (ap have_none (fields-past ms (i + 1) le))

pub tail-says : (ms : List StructMemberType) (i : ℕ) (m : StructMemberType) (before old grown now : List Node) (child first_child count end all : ℕ) (part : Node) (spot : Spot) (tail : Bool) (o : Option Node)
    → i < length ms → m ≡ get_or ms i m → AreMadeTo ms i old child end all → child + length ms ≤ length old → Keeps before old → AreFilled before old child (child + length ms) i → AreExactTo ms i before old end → child ≡ length before → first_child ≡ child → count ≡ length ms
    → IsAdded old grown part (type_view m.ty) → (part.tail_stride ≡ 0 → ⊥) → IsSpot (Some end) m.align (Some part.align) spot
    → now ≡ slice_set grown (child + i) (record part { offset = spot.offset }) → tail ≡ (nat_eq (i + 1) (length ms) && is_none m.size)
    → o ≡ (if tail && part.sort == 3 then Some (structure_node spot.offset (max all spot.align) count first_child spot.offset part.tail_stride) else None)
    → SaysStructure (members_view ms) before now o
tail-says ms i m before old grown now child first_child count end all part spot tail o h e made longer kept filled exact at first_is counted added some is set tail_is answer = λ name.
    let last = nat_eq (i + 1) (length ms) in
    let fixed = tail-not-fixed (type_view m.ty) part added.describes.says some in
    let answers : o ≡ (if (last && is_none m.size) && part.sort == 3 then Some (structure_node spot.offset (max all spot.align) count child spot.offset part.tail_stride) else None) =
    answer ∙ ap (λ (b : Bool). if b && part.sort == 3 then Some (structure_node spot.offset (max all spot.align) count first_child spot.offset part.tail_stride) else None) tail_is
    ∙ ap (λ (k : ℕ). if (last && is_none m.size) && part.sort == 3 then Some (structure_node spot.offset (max all spot.align) count k spot.offset part.tail_stride) else None) first_is in
    ended-says (members_view ms) (string_bytes m.name) (type_view m.ty) m.size m.align (members_view (drop (i + 1) ms)) before old grown now child count (child + length ms) i end all part spot last o name
    (with-member ms i m old child end all h e made) longer (omega arith) (ap (λ (k : ℕ). child + k) (sym counted)) (counted ∙ sym (members-counted ms)) at kept filled (subst (λ (k : ℕ). AreExact before old (members_view ms) (field (string_bytes m.name) (type_view m.ty) m.size m.align (members_view (drop (i + 1) ms))) (Some end) i k) (sym counted) (exact-with ms i m before old end h e exact)) (λ (is_last : last ≡ true). let end_is : i + 1 ≡ length ms = grind (arith, nat_tests) in omega arith) added fixed is set (last-is ms i h) answers

pub structure-says : (ms : List StructMemberType) (i : ℕ) (before old : List Node) (child first_child count end all : ℕ) (o : Option Node)
    → length ms ≤ i → AreMadeTo ms i old child end all → child + length ms ≤ length old → Keeps before old → AreFilled before old child (child + length ms) i → AreExactTo ms i before old end → child ≡ length before → first_child ≡ child → count ≡ length ms
    → MatchOption o (with_both round_up (Some all) (Some end) ≡ None) (λ r. (with_both round_up (Some all) (Some end) ≡ Some r.size) × (r ≡ structure_node r.size all count first_child 0 0))
    → SaysStructure (members_view ms) before old o
structure-says ms i before old child first_child count end all o past made longer kept filled exact at first_is counted answer =
    let none = fields-past ms i past in
    let all_made = subst (λ (fs : Fields). AreMade (members_view ms) fs old child (child + length ms) i end all) none made in
    let by_count = subst (λ (k : ℕ). AreMade (members_view ms) no_fields old child (child + k) i end all) (sym counted) all_made in
    let filled_count = subst (λ (k : ℕ). AreFilled before old child (child + k) i) (sym counted) filled in
    let exact_count = subst (λ (k : ℕ). AreExact before old (members_view ms) no_fields (Some end) i k) (sym counted) (subst (λ (fs : Fields). AreExact before old (members_view ms) fs (Some end) i (length ms)) none exact) in
    let by_child = subst (λ (k : ℕ). MatchOption o (with_both round_up (Some all) (Some end) ≡ None) (λ r. (with_both round_up (Some all) (Some end) ≡ Some r.size) × (r ≡ structure_node r.size all count k 0 0))) first_is answer in
    structure-made (members_view ms) old before child count i end all o by_count at (counted ∙ sym (members-counted ms)) (omega arith) kept filled_count exact_count (omega arith) by_child
