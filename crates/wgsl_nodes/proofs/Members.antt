-- The records of a structure's members, one after another.
use Rattle.std.proofs.Common.{◌≡◌, ℕ, suc, ◌+◌, ◌<◌, ◌≤◌, max, List, [], ◌∷◌, length, drop, slice_get, slice_set, Option, Some, None, is_some, is_none, Bool, true, false, refl, sym, ap, ◌∙◌, subst, arith}
use Rattle.std.specs.Prelude.{◌&&◌, ◌||◌, MatchOption}
use Rattle.std.specs.Option.{option_or}
use Rattle.std.proofs.Math.ListN.{drop_of_length-le}
use Rattle.std.proofs.Math.Bool.{and-false}
use Rattle.std.proofs.lemmas.Bool.{false≢true}
use Rattle.wgsl_rules.specs.Types.{Ty, struct, array, Fields, no_fields, field}
use Rattle.wgsl_rules.specs.Size.{Extent, size_of, align_of, with_both, round_up, sum_of, extent_in, extents, offset_after, end_after, end_of_members, greatest_align, struct_align}
use Rattle.wgsl_rules.specs.Layout.{amount, size, is_align_valid, is_size_valid, are_attributes_valid, have_none, Tail, last_tail, tail_of}
use Rattle.wgsl_rules.specs.View.{members_view}
use Rattle.wgsl_rules.specs.declared.ty.StructMemberType.{StructMemberType}
use Rattle.wgsl_rules.proofs.lemmas.Known.{end_after-none, offset_after-none}
use Rattle.wgsl_rules.proofs.lemmas.Slices.{slice_get-set_same, slice_get-set_other}
use Rattle.wgsl_nodes.specs.HostTypes.{has_nodes, has_fixed_nodes, have_fixed_nodes, is_runtime_array, end_in_runtime_array}
use Rattle.wgsl_nodes.specs.Nodes as tables
use Rattle.wgsl_nodes.specs.Nodes.{Says, Stands, LeadsTo, MembersStand, Describes, members_in, sort_of, start_of, bytes_before}
use Rattle.wgsl_nodes.specs.Making.{Keeps, IsAdded, structure_node}
use Rattle.wgsl_nodes.specs.declared.nodes.Node.{Node}
use Rattle.wgsl_nodes.proofs.Fixed.{fixed-tail_at}
use Rattle.wgsl_nodes.proofs.Arrays.{IsFixedPart}
use Rattle.wgsl_nodes.proofs.Exact.{node-is, AreExact, all-exact}
use Rattle.wgsl_nodes.proofs.Growing.{KeepsFrom, leads-kept, leads-lower}
use Rattle.wgsl_nodes.proofs.Typed.{AreFilled, filled-each}

-- ---- members

pub fields-past : (ms : List StructMemberType) (i : ℕ) → length ms ≤ i → members_view (drop i ms) ≡ no_fields
fields-past ms i h = ap members_view (drop_of_length-le ms {i = i} h)

pub members-counted : (ms : List StructMemberType) → members_in (members_view ms) ≡ length ms
members-counted [] = refl
members-counted (m ∷ ms) = ap (λ (n : ℕ). suc n) (members-counted ms)

-- ---- what the loop keeps

-- the records below one number, and from another on, stand where they stood
pub record AgreesBut (from to : ℕ) (old now : List Node) : Type 0 where
  pub below : (k : ℕ) (r : Node) → k < from → slice_get old k ≡ Some r → slice_get now k ≡ Some r
  pub behind : (k : ℕ) (r : Node) → to ≤ k → slice_get old k ≡ Some r → slice_get now k ≡ Some r

-- of the members so far and the rest together it is known what is known of all
pub record AreMade (fs rest : Fields) (nodes : List Node) (child low i end align : ℕ) : Type 0 where
  pub fixed : have_fixed_nodes rest ≡ have_fixed_nodes fs
  pub runtime : end_in_runtime_array (Some end) rest ≡ end_in_runtime_array (Some 0) fs
  pub end_is : end_of_members (Some end) (extents rest) ≡ end_of_members (Some 0) (extents fs)
  pub align_is : greatest_align (Some align) (extents rest) ≡ greatest_align (Some 0) (extents fs)
  pub tail : last_tail None (Some end) rest ≡ last_tail None (Some 0) fs
  pub stand : (now : List Node) → AgreesBut (child + i) low nodes now → MembersStand now low (child + i) (Some end) rest → MembersStand now low child (Some 0) fs

pub none-made : (fs : Fields) (nodes : List Node) (child low : ℕ) → AreMade fs fs nodes child low 0 0 0
none-made fs nodes child low = record {
  fixed = refl;
  runtime = refl;
  end_is = refl;
  align_is = refl;
  tail = refl;
  stand = λ now agrees h. subst (λ (k : ℕ). MembersStand now low k (Some 0) fs) (omega arith) h;
}

fixed-not-runtime : (t : Ty) → has_fixed_nodes t ≡ true → is_runtime_array t ≡ false
fixed-not-runtime (array t None) h = absurd (false≢true h)
fixed-not-runtime t h = refl

runtime-next : (t : Ty) (s a : Option ℕ) (fs : Fields) (end next : ℕ) → has_fixed_nodes t ≡ true → are_attributes_valid t s a ≡ true → end_after (Some end) (extent_in t s a) ≡ Some next
    → (n : List ℕ) → end_in_runtime_array (Some next) fs ≡ end_in_runtime_array (Some end) (field n t s a fs)
runtime-next t s a no_fields end next fixed valid e n = rw (fixed-not-runtime t fixed) refl
runtime-next t s a (field m u y k fs) end next fixed valid e n = rw (fixed, valid, e) refl

-- the record of a member stands in its place
record-placed : Node → ℕ → Node
record-placed r o = record r { offset = o }

-- the record in its place says the same
pub says-placed : (r : Node) (t : Ty) (o : ℕ) → Says r t → Says (record r { offset = o }) t
says-placed r t o s = record {
  sort = s.sort;
  kind = s.kind;
  size = s.size;
  align = s.align;
  count = s.count;
  stride = s.stride;
  tail_start = s.tail_start;
  tail_stride = s.tail_stride;
}

-- what stands once the record of the member `number` is set, in a table that agrees with that one
pub member-stands : (old grown now : List Node) (number low o : ℕ) (t : Ty) (part : Node) → low ≤ length old → number < low → IsAdded old grown part t
    → AgreesBut (number + 1) low (slice_set grown number (record part { offset = o })) now
    → Stands now number o t (λ c. LeadsTo now low c t)
member-stands old grown now number low o t part le lt made agrees =
    let longer = made.longer in
    let placed = record part { offset = o } in
    let kept : KeepsFrom low grown now =
    record { get = λ k r h e. agrees.behind k r h (slice_get-set_other grown number k placed (λ same. omega arith) ∙ e) } in
    record {
      node = placed;
      there = agrees.below number placed (omega arith) (slice_get-set_same grown number placed (omega arith));
      offset_is = refl;
      says = says-placed part t o made.describes.says;
      leads = leads-kept grown now low part.child t kept (leads-lower grown (length old) low part.child t le made.describes.leads);
    }

-- a table that agrees with the later one agrees with the earlier one
pub agrees-before : (old grown now : List Node) (number low : ℕ) (x : Node) → number < low → Keeps old grown → AgreesBut (number + 1) low (slice_set grown number x) now → AgreesBut number low old now
agrees-before old grown now number low x lt keeps agrees = record {
  below = λ k r h e. agrees.below k r (omega arith) (slice_get-set_other grown number k x (λ same. omega arith) ∙ keeps k r e);
  behind = λ k r h e. agrees.behind k r h (slice_get-set_other grown number k x (λ same. omega arith) ∙ keeps k r e);
}

-- where a member of a fixed size stands, and where it ends
pub offset-of : (t : Ty) (s a : Option ℕ) (end o : ℕ) (part : Node) → IsFixedPart t part → with_both round_up (option_or a (Some part.align)) (Some end) ≡ Some o → offset_after (Some end) (extent_in t s a) ≡ Some o
offset-of t s a end o part is offset = ap (λ (x : Option ℕ). with_both round_up (option_or a x) (Some end)) is.align_is ∙ offset

pub end-of : (t : Ty) (s a : Option ℕ) (end o : ℕ) (part : Node) → IsFixedPart t part → offset_after (Some end) (extent_in t s a) ≡ Some o
    → end_after (Some end) (extent_in t s a) ≡ with_both sum_of (Some o) (option_or s (Some part.size))
end-of t s a end o part is offset = ap (λ (x : Option ℕ). with_both sum_of x (extent_in t s a).size) offset ∙ ap (λ (x : Option ℕ). with_both sum_of (Some o) (option_or s x)) is.size_is

-- a member more, of a fixed size
pub member-made : (fs : Fields) (n : List ℕ) (t : Ty) (s a : Option ℕ) (rest : Fields) (old grown : List Node) (child low i end all o next far : ℕ) (part : Node)
    → AreMade fs (field n t s a rest) old child low i end all
    → low ≤ length old → child + i < low → IsAdded old grown part t → IsFixedPart t part
    → is_align_valid a (Some part.align) ≡ true → option_or a (Some part.align) ≡ Some far → with_both round_up (option_or a (Some part.align)) (Some end) ≡ Some o
    → is_size_valid s (Some part.size) ≡ true → with_both sum_of (Some o) (option_or s (Some part.size)) ≡ Some next
    → AreMade fs rest (slice_set grown (child + i) (record part { offset = o })) child low (i + 1) next (max all far)
member-made fs n t s a rest old grown child low i end all o next far part made le lt added is align_valid far_is offset size_valid sum =
    let extent = extent_in t s a in
    let align_in : extent.align ≡ Some far = ap (option_or a) is.align_is ∙ far_is in
    let offset_is : offset_after (Some end) extent ≡ Some o = offset-of t s a end o part is offset in
    let end_is : end_after (Some end) extent ≡ Some next = end-of t s a end o part is offset_is ∙ sum in
    let valid : are_attributes_valid t s a ≡ true =
    rw (is.size_is, is.align_is, size_valid, align_valid) refl in
    let placed = record part { offset = o } in
    record {
      fixed = sym (ap (λ (b : Bool). (b && are_attributes_valid t s a) && have_fixed_nodes rest) is.fixed ∙ ap (λ (b : Bool). b && have_fixed_nodes rest) valid) ∙ made.fixed;
      runtime = runtime-next t s a rest end next is.fixed valid end_is n ∙ made.runtime;
      end_is = ap (λ (x : Option ℕ). end_of_members x (extents rest)) (sym end_is) ∙ made.end_is;
      align_is = ap (λ (x : Option ℕ). greatest_align (with_both (λ p q. Some (max p q)) (Some all) x) (extents rest)) (sym align_in) ∙ made.align_is;
      tail =
          ap (λ (x : Option ℕ). last_tail None x rest) (sym end_is)
          ∙ ap (λ (x : Option Tail). last_tail x (end_after (Some end) extent) rest) (sym (fixed-tail_at t (amount (offset_after (Some end) extent)) is.fixed)) ∙ made.tail;
      stand = λ now agrees h.
          let here : AgreesBut ((child + i) + 1) low (slice_set grown (child + i) placed) now = subst (λ (k : ℕ). AgreesBut k low (slice_set grown (child + i) placed) now) (omega arith) agrees in
          let stands = member-stands old grown now (child + i) low o t part le lt added here in
          made.stand now (agrees-before old grown now (child + i) low placed lt added.kept here) (
            subst (λ (x : ℕ). Stands now (child + i) x t (λ c. LeadsTo now low c t)) (sym (ap amount offset_is)) stands,
            subst (λ (x : Option ℕ). MembersStand now low ((child + i) + 1) x rest) (sym end_is) (subst (λ (k : ℕ). MembersStand now low k (Some next) rest) (omega arith) h),
          );
    }

-- ---- refused members

-- no structure ends so, whose members so far end there
pub record IsRefused (end : ℕ) (rest : Fields) : Type 0 where
  pub fixed : (have_fixed_nodes rest && is_some (end_of_members (Some end) (extents rest))) ≡ false
  pub runtime : end_in_runtime_array (Some end) rest ≡ false

no-size : (b : Bool) (a e : Option ℕ) → (b && is_some e) ≡ false → (b && is_some (with_both round_up a e)) ≡ false
no-size false a e h = refl
no-size true None None h = refl
no-size true (Some a) None h = refl
no-size true a (Some e) h = absurd (false≢true (sym h))

pub refused : (name : List ℕ) (fs rest : Fields) (nodes : List Node) (child low i end all : ℕ) → AreMade fs rest nodes child low i end all → IsRefused end rest → has_nodes (struct name fs) ≡ false
refused name fs rest nodes child low i end all made never =
    let fixed : (have_fixed_nodes fs && is_some (end_of_members (Some 0) (extents fs))) ≡ false =
    ap (λ (b : Bool). b && is_some (end_of_members (Some 0) (extents fs))) (sym made.fixed)
    ∙ ap (λ (o : Option ℕ). have_fixed_nodes rest && is_some o) (sym made.end_is) ∙ never.fixed in
    let sized : has_fixed_nodes (struct name fs) ≡ false = no-size (have_fixed_nodes fs) (struct_align (extents fs)) (end_of_members (Some 0) (extents fs)) fixed in
    rw sized (sym made.runtime ∙ never.runtime)

end-none : (ms : List Extent) → end_of_members None ms ≡ None
end-none [] = refl
end-none (m ∷ ms) = ap (λ (o : Option ℕ). end_of_members o ms) (end_after-none m) ∙ end-none ms

pub runtime-none : (fs : Fields) → end_in_runtime_array None fs ≡ false
runtime-none no_fields = refl
runtime-none (field n t s a no_fields) = rw (offset_after-none (extent_in t s a)) (and-false (is_runtime_array t && (is_none s && is_align_valid a (align_of t))))
runtime-none (field n t s a (field m u y k fs)) =
    rw (end_after-none (extent_in t s a), runtime-none (field m u y k fs)) (and-false (has_fixed_nodes t && are_attributes_valid t s a))

-- the type has no fixed size, and is no runtime-sized array that stands last and has no size attribute
pub other-refused : (n : List ℕ) (t : Ty) (s a : Option ℕ) (rest : Fields) (end : ℕ) → has_fixed_nodes t ≡ false → (is_runtime_array t && (is_none s && have_none rest)) ≡ false → IsRefused end (field n t s a rest)
other-refused n t s a rest end fixed runtime = record {
  fixed = rw fixed refl;
  runtime = last rest runtime;
}
  where
    three : (b c d e : Bool) → (b && (c && true)) ≡ false → ((b && (c && d)) && e) ≡ false
    three false c d e h = refl
    three true false d e h = refl
    three true true d e h = absurd (false≢true (sym h))

    last : (rest : Fields) → (is_runtime_array t && (is_none s && have_none rest)) ≡ false → end_in_runtime_array (Some end) (field n t s a rest) ≡ false
    last no_fields h = three (is_runtime_array t) (is_none s) (is_align_valid a (align_of t)) (is_some (offset_after (Some end) (extent_in t s a))) h
    last (field m u y k fs) h = rw fixed refl

-- a type of a fixed size whose attributes are not valid, or whose member has no end
pub fixed-refused : (n : List ℕ) (t : Ty) (s a : Option ℕ) (rest : Fields) (end : ℕ) → has_fixed_nodes t ≡ true → (are_attributes_valid t s a && is_some (end_after (Some end) (extent_in t s a))) ≡ false
    → IsRefused end (field n t s a rest)
fixed-refused n t s a rest end fixed h = by (are_attributes_valid t s a) (end_after (Some end) (extent_in t s a)) refl refl h
  where
    last : (rest : Fields) → (are_attributes_valid t s a && end_in_runtime_array (end_after (Some end) (extent_in t s a)) rest) ≡ false → end_in_runtime_array (Some end) (field n t s a rest) ≡ false
    last no_fields e = rw (fixed-not-runtime t fixed) refl
    last (field m u y k fs) e = rw fixed e

    by : (b : Bool) (o : Option ℕ) → are_attributes_valid t s a ≡ b → end_after (Some end) (extent_in t s a) ≡ o → (b && is_some o) ≡ false → IsRefused end (field n t s a rest)
    by false o valid e h = record {
      fixed = ap (λ (b : Bool). ((has_fixed_nodes t && b) && have_fixed_nodes rest) && is_some (end_of_members (Some end) (extents (field n t s a rest)))) valid
          ∙ ap (λ (b : Bool). (b && have_fixed_nodes rest) && is_some (end_of_members (Some end) (extents (field n t s a rest)))) (and-false (has_fixed_nodes t));
      runtime = last rest (ap (λ (b : Bool). b && end_in_runtime_array (end_after (Some end) (extent_in t s a)) rest) valid);
    }
    by true None valid e h = record {
      fixed = ap (λ (x : Option ℕ). have_fixed_nodes (field n t s a rest) && is_some (end_of_members x (extents rest))) e
          ∙ ap (λ (x : Option ℕ). have_fixed_nodes (field n t s a rest) && is_some x) (end-none (extents rest)) ∙ and-false (have_fixed_nodes (field n t s a rest));
      runtime = last rest (ap (λ (x : Option ℕ). are_attributes_valid t s a && end_in_runtime_array x rest) e ∙ ap (λ (b : Bool). are_attributes_valid t s a && b) (runtime-none rest) ∙ and-false (are_attributes_valid t s a));
    }
    by true (Some x) valid e h = absurd (false≢true (sym h))

-- a runtime-sized array whose align attribute is not valid, or which has no place
pub runtime-refused : (n : List ℕ) (t : Ty) (s a : Option ℕ) (rest : Fields) (end : ℕ) → has_fixed_nodes t ≡ false
    → (is_align_valid a (align_of t) && is_some (offset_after (Some end) (extent_in t s a))) ≡ false → IsRefused end (field n t s a rest)
runtime-refused n t s a rest end fixed h = record {
  fixed = rw fixed refl;
  runtime = last rest;
}
  where
    four : (b c d e : Bool) → (d && e) ≡ false → ((b && (c && d)) && e) ≡ false
    four false c d e h = refl
    four true false d e h = refl
    four true true d e h = h

    last : (rest : Fields) → end_in_runtime_array (Some end) (field n t s a rest) ≡ false
    last no_fields = four (is_runtime_array t) (is_none s) (is_align_valid a (align_of t)) (is_some (offset_after (Some end) (extent_in t s a))) h
    last (field m u y k fs) = rw fixed refl

-- ---- structures

count-is : (ms : List StructMemberType) (count : ℕ) → count ≡ length ms → count ≡ members_in (members_view ms)
count-is ms count e = e ∙ sym (members-counted ms)

abbrev pub SaysStructure : Fields → List Node → List Node → Option Node → Type 0
SaysStructure fs old now o = (name : List ℕ) → MatchOption o (has_nodes (struct name fs) ≡ false) (λ r. IsAdded old now r (struct name fs))

-- the structure of all members, each of a fixed size
pub structure-made : (fs : Fields) (nodes old : List Node) (child count i end all : ℕ) (o : Option Node)
    → AreMade fs no_fields nodes child (child + count) i end all → child ≡ length old → count ≡ members_in fs → length old ≤ length nodes → Keeps old nodes → AreFilled old nodes child (child + count) i → AreExact old nodes fs no_fields (Some end) i count → count ≤ i
    → MatchOption o (with_both round_up (Some all) (Some end) ≡ None) (λ r. (with_both round_up (Some all) (Some end) ≡ Some r.size) × (r ≡ structure_node r.size all count child 0 0))
    → SaysStructure fs old nodes o
structure-made fs nodes old child count i end all None made at counted longer kept filled exact past h = λ name.
    let size_is : size_of (struct name fs) ≡ None =
    ap (λ (a : Option ℕ). with_both round_up a (end_of_members (Some 0) (extents fs))) (sym made.align_is) ∙ ap (with_both round_up (Some all)) (sym made.end_is) ∙ h in
    rw (size_is, ← made.runtime) (ap (λ (b : Bool). b || false) (and-false (have_fixed_nodes fs)))
structure-made fs nodes old child count i end all (Some r) made at counted longer kept filled exact past h = λ name.
    let t = struct name fs in
    let size_is : size_of t ≡ Some r.size =
    ap (λ (a : Option ℕ). with_both round_up a (end_of_members (Some 0) (extents fs))) (sym made.align_is) ∙ ap (with_both round_up (Some all)) (sym made.end_is) ∙ h.0 in
    let no_tail : tail_of t ≡ None = sym made.tail in
    let all_of = made.stand nodes (record { below = λ k x lt e. e; behind = λ k x le e. e }) tt in
    let made_node = structure_node r.size all count child 0 0 in
    let says : Says made_node t = record {
      sort = refl;
      kind = refl;
      size = sym (ap (λ (x : Option Tail). bytes_before x (size t)) no_tail ∙ ap amount size_is);
      align = ap amount made.align_is;
      count = counted;
      stride = refl;
      tail_start = sym (ap start_of no_tail);
      tail_stride = sym (ap tables.stride_of no_tail);
    } in
    let node : IsAdded old nodes made_node t = record {
      host = rw (size_is, ← made.fixed) refl;
      place = refl;
      describes = record { says = says; leads = (omega arith, subst (λ (k : ℕ). MembersStand nodes (child + k) child (Some 0) fs) counted all_of) };
      longer = longer;
      kept = kept;
      each = filled-each old nodes child (child + count) i filled at (omega arith);
      children = let counted_so = filled.children in omega arith;
      exact = node-is made_node t (length old) says refl at refl refl;
      grown = all-exact old nodes name fs (Some end) i count exact past counted;
    } in
    subst (λ (x : Node). IsAdded old nodes x t) (sym h.1) node
