-- The bytes and the elements that the record of a type tells.
use Rattle.std.proofs.Common.{◌≡◌, ℕ, ◌+◌, ◌*◌, ◌^◌, ◌<◌, ◌≤◌, Option, Some, None, Bool, true, false, refl, sym, ap, ◌∙◌, arith}
use Rattle.std.specs.Prelude.{◌||◌, nat_lt, nat_le, ◌==◌, if◌then◌else◌, MatchOption}
use Rattle.std.proofs.lemmas.Bool.Decides.{nat_tests}
use Rattle.wgsl_rules.specs.Types.{Ty}
use Rattle.wgsl_rules.specs.Layout.{size, stride, Tail, tail_of, length_with, layout_len, count_with, count_in}
use Rattle.wgsl_nodes.specs.HostTypes.{has_nodes, has_fixed_nodes, has_runtime_nodes}
use Rattle.wgsl_nodes.specs.Lengths.{length_of_node, count_of_node}
use Rattle.wgsl_nodes.specs.Nodes.{Says, bytes_before, start_of, stride_of}
use Rattle.wgsl_nodes.specs.declared.nodes.Node.{Node}
use Rattle.wgsl_nodes.proofs.Fixed.{fixed-tail, runtime-tail}

zero-is : (n : ℕ) → (n == 0) ≡ true → n ≡ 0
zero-is n h = grind (arith, nat_tests)

not-zero : (n : ℕ) → 0 < n → (n == 0) ≡ false
not-zero n h = grind (arith, nat_tests)

none-more : (count far start : ℕ) → far ≡ 0 → start ≡ start + count * far
none-more count far start e = rw e (omega arith)

pub length-is : (count : ℕ) (r : Node) (t : Ty) → Says r t → MatchOption (length_of_node count r) (2 ^ 64 ≤ layout_len count t) (λ n. n ≡ layout_len count t)
length-is count r t says = by (tail_of t) says.size says.tail_start says.tail_stride
  where
    long : (n : ℕ) (b : Bool) (o : Option Tail) → nat_lt n (2 ^ 64) ≡ b → n ≡ length_with count (size t) o
        → MatchOption (if b then Some n else None) (2 ^ 64 ≤ length_with count (size t) o) (λ m. m ≡ length_with count (size t) o)
    long n true o e is = is
    long n false o e is = let le : 2 ^ 64 ≤ n = grind (arith, nat_tests) in omega arith

    tailed : (b : Bool) (q : Tail) → (r.tail_stride == 0) ≡ b → r.size ≡ q.start → r.tail_start ≡ q.start → r.tail_stride ≡ stride q.element
        → MatchOption (if b then Some r.size else (if nat_lt (count * r.tail_stride + r.tail_start) (2 ^ 64) then Some (count * r.tail_stride + r.tail_start) else None)) (2 ^ 64 ≤ q.start + count * stride q.element) (λ n. n ≡ q.start + count * stride q.element)
    tailed true q e s a far = s ∙ none-more count (stride q.element) q.start (sym far ∙ zero-is r.tail_stride e)
    tailed false q e s a far =
        let same : count * r.tail_stride + r.tail_start ≡ q.start + count * stride q.element = rw (far, a) (omega arith) in
        long (count * r.tail_stride + r.tail_start) (nat_lt (count * r.tail_stride + r.tail_start) (2 ^ 64)) (Some q) refl same

    by : (o : Option Tail) → r.size ≡ bytes_before o (size t) → r.tail_start ≡ start_of o → r.tail_stride ≡ stride_of o
        → MatchOption (length_of_node count r) (2 ^ 64 ≤ length_with count (size t) o) (λ n. n ≡ length_with count (size t) o)
    by None s a far = rw far s
    by (Some q) s a far = tailed (r.tail_stride == 0) q refl s a far

pub count-is : (len : ℕ) (r : Node) (t : Ty) → has_nodes t ≡ true → Says r t → count_of_node len r ≡ count_in len t
count-is len r t host says = by (has_fixed_nodes t) refl host
  where
    some : (o : Option Tail) → 0 < stride_of o → r.size ≡ bytes_before o (size t) → r.tail_start ≡ start_of o → r.tail_stride ≡ stride_of o → count_of_node len r ≡ count_with len (size t) o
    some None h s a far = absurd (omega arith)
    some (Some q) h s a far =
        rw (far, not-zero (stride q.element) h, a) refl

    by : (b : Bool) → has_fixed_nodes t ≡ b → (b || has_runtime_nodes t) ≡ true → count_of_node len r ≡ count_in len t
    by true e h =
        let none = fixed-tail t e in
        let far : r.tail_stride ≡ 0 = says.tail_stride ∙ ap stride_of none in
        let s : r.size ≡ size t = says.size ∙ ap (λ (o : Option Tail). bytes_before o (size t)) none in
        let own : count_of_node len r ≡ (if nat_le (size t) len then Some 0 else None) = rw (far, s) refl in
        own ∙ sym (ap (count_with len (size t)) none)
    by false e h = some (tail_of t) (runtime-tail t h) says.size says.tail_start says.tail_stride
