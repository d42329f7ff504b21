-- Records of arrays, and of what has a fixed size.
use Rattle.std.proofs.Common.{◌≡◌, ℕ, ◌*◌, ◌^◌, ◌≤◌, Option, Some, None, is_some, Bool, true, false, IsTrue, refl, sym, ap, ◌∙◌, subst, arith}
use Rattle.std.specs.Prelude.{◌&&◌, ◌||◌, nat_le, nat_lt, MatchOption}
use Rattle.std.proofs.lemmas.Bool.{false≢true}
use Rattle.std.proofs.lemmas.Bool.Decides.{nat_tests}
use Rattle.std.proofs.Math.Bool.{and-false}
use Rattle.wgsl_rules.specs.Types.{Ty, array}
use Rattle.wgsl_rules.specs.Size.{size_of, align_of, fitting, round_up, times}
use Rattle.wgsl_rules.specs.Layout.{amount, size, align, stride, known_stride, Tail}
use Rattle.wgsl_rules.proofs.lemmas.Known.{fitting-is, rounded-known}
use Rattle.wgsl_nodes.specs.HostTypes.{has_nodes, has_fixed_nodes, has_runtime_nodes}
use Rattle.wgsl_nodes.specs.Nodes as nodes
use Rattle.wgsl_nodes.specs.Nodes.{Says, bytes_before}
use Rattle.wgsl_nodes.specs.Making.{IsArrayOf, array_node}
use Rattle.wgsl_nodes.specs.declared.nodes.Node.{Node}
use Rattle.wgsl_nodes.proofs.Exact.{node-is}
use Rattle.wgsl_nodes.proofs.Fixed.{fixed-sized, fixed-tail, no-tail-fixed}

-- ---- parts of a fixed size

pub record IsFixedPart (t : Ty) (r : Node) : Type 0 where
  pub fixed : has_fixed_nodes t ≡ true
  pub size_is : size_of t ≡ Some r.size
  pub align_is : align_of t ≡ Some r.align
  pub some : 1 ≤ r.size
  pub aligned : 1 ≤ r.align

pub fixed-part : (t : Ty) (r : Node) → has_nodes t ≡ true → Says r t → r.tail_stride ≡ 0 → IsFixedPart t r
fixed-part t r host says e =
    let fixed = no-tail-fixed t host (sym says.tail_stride ∙ e) in
    let own = fixed-sized t fixed in
    let s : r.size ≡ own.size = says.size ∙ ap (λ (o : Option Tail). bytes_before o (size t)) (fixed-tail t fixed) ∙ ap amount own.size_is in
    let a : r.align ≡ own.align = says.align ∙ ap amount own.align_is in
    let some = own.some in
    let aligned = own.aligned in
    record {
      fixed = fixed;
      size_is = own.size_is ∙ ap (λ (n : ℕ). Some n) (sym s);
      align_is = own.align_is ∙ ap (λ (n : ℕ). Some n) (sym a);
      some = omega arith;
      aligned = omega arith;
    }

pub tail-not-fixed : (t : Ty) (r : Node) → Says r t → (r.tail_stride ≡ 0 → ⊥) → has_fixed_nodes t ≡ false
tail-not-fixed t r says some = by (has_fixed_nodes t) refl
  where
    by : (b : Bool) → has_fixed_nodes t ≡ b → b ≡ false
    by true h = absurd (some (says.tail_stride ∙ ap nodes.stride_of (fixed-tail t h)))
    by false h = refl

-- ---- arrays

pub not-fixed-array : (t : Ty) (n : Option ℕ) → has_fixed_nodes t ≡ false → has_nodes (array t n) ≡ false
not-fixed-array t None h = rw h refl
not-fixed-array t (Some k) h = rw h (rw (and-false (nat_le 1 k)) refl)

pub no-element : (t : Ty) (n : Option ℕ) → has_nodes t ≡ false → has_nodes (array t n) ≡ false
no-element t n h = not-fixed-array t n (left (has_fixed_nodes t) h)
  where
    left : (b : Bool) → (b || has_runtime_nodes t) ≡ false → b ≡ false
    left true k = absurd (false≢true (sym k))
    left false k = refl

-- what is said of the array whose element's record this is, by a call that answers so
abbrev pub SaysArray : Ty → Option ℕ → ℕ → Option Node → Type 0
SaysArray t n child o = MatchOption o (has_nodes (array t n) ≡ false) (IsArrayOf t n child)

stride-is : (t : Ty) (r : Node) → IsFixedPart t r → known_stride t ≡ round_up r.align r.size
stride-is t r part = rw (part.align_is, part.size_is) refl

pub no-stride : (t : Ty) (r : Node) (n : Option ℕ) → IsFixedPart t r → round_up r.align r.size ≡ None → has_nodes (array t n) ≡ false
no-stride t r None part e = rw (part.fixed, stride-is t r part, e) refl
no-stride t r (Some k) part e =
    let none : size_of (array t (Some k)) ≡ None = ap (times k) (stride-is t r part ∙ e) in
    rw (part.fixed, none) (rw (and-false (nat_le 1 k)) refl)

pub open-array : (t : Ty) (r : Node) (far child : ℕ) → IsFixedPart t r → round_up r.align r.size ≡ Some far → IsTrue (has_nodes (array t None)) × Says (array_node 0 r.align 0 far child far) (array t None)
open-array t r far child part e =
    let known : known_stride t ≡ Some far = stride-is t r part ∙ e in
    let far_is : stride t ≡ far = ap amount known in
    let align_is : align t ≡ r.align = ap amount part.align_is in (
      rw (part.fixed, known) refl,
      record {
        sort = refl;
        kind = refl;
        size = refl;
        align = sym align_is;
        count = refl;
        stride = sym far_is;
        tail_start = refl;
        tail_stride = sym far_is;
      },
    )

-- what makes an array of n elements so far apart
abbrev pub can_have : ℕ → ℕ → Bool
can_have n far = nat_le 1 n && (nat_lt n (2 ^ 32) && is_some (fitting (n * far)))

pub no-sized-array : (t : Ty) (r : Node) (far n : ℕ) → IsFixedPart t r → round_up r.align r.size ≡ Some far → can_have n far ≡ false → has_nodes (array t (Some n)) ≡ false
no-sized-array t r far n part e none =
    let known : known_stride t ≡ Some far = stride-is t r part ∙ e in
    let sized : size_of (array t (Some n)) ≡ fitting (n * far) = ap (times n) known in
    rw (part.fixed, sized) (by (nat_le 1 n) (nat_lt n (2 ^ 32)) (fitting (n * far)) refl refl none)
  where
    long : (far m : ℕ) → 1 ≤ far → 2 ^ 32 ≤ n → fitting (n * far) ≡ Some m → ⊥
    long far m one le f = let below = (fitting-is (n * far) m f).1 in grind arith

    by : (b c : Bool) (o : Option ℕ) → nat_lt n (2 ^ 32) ≡ c → fitting (n * far) ≡ o → (b && (c && is_some o)) ≡ false → ((b && (true && is_some o)) || false) ≡ false
    by false c o lt f h = refl
    by true true o lt f h = rw h refl
    by true false None lt f h = refl
    by true false (Some m) lt f h =
        let le : 2 ^ 32 ≤ n = grind (arith, nat_tests) in
        let k = rounded-known r.align r.size far e in
        let later = k.later in
        let some = part.some in
        absurd (long far m (omega arith) le f)

pub sized-array : (t : Ty) (r : Node) (far n m child : ℕ) → IsFixedPart t r → round_up r.align r.size ≡ Some far → nat_le 1 n ≡ true → fitting (n * far) ≡ Some m
    → IsTrue (has_nodes (array t (Some n))) × Says (array_node m r.align n far child 0) (array t (Some n))
sized-array t r far n m child part e count f =
    let known : known_stride t ≡ Some far = stride-is t r part ∙ e in
    let sized : size_of (array t (Some n)) ≡ Some m = ap (times n) known ∙ f in
    let size_is : size (array t (Some n)) ≡ m = ap amount sized in
    let far_is : stride t ≡ far = ap amount known in
    let align_is : align t ≡ r.align = ap amount part.align_is in (
      rw (part.fixed, sized, count) refl,
      record {
        sort = refl;
        kind = refl;
        size = sym size_is;
        align = sym align_is;
        count = refl;
        stride = sym far_is;
        tail_start = refl;
        tail_stride = refl;
      },
    )

-- ---- what calls answer

no-stride-answers : (t : Ty) (r : Node) (n : Option ℕ) (far : Option ℕ) → has_nodes t ≡ true → Says r t → r.tail_stride ≡ 0 → far ≡ round_up r.align r.size → far ≡ None → has_nodes (array t n) ≡ false
no-stride-answers t r n far host says e is none = no-stride t r n (fixed-part t r host says e) (sym is ∙ none)

pub no-stride-says : (t : Ty) (r : Node) (n : Option ℕ) (child : ℕ) (far : Option ℕ) → has_nodes t ≡ true → Says r t → r.tail_stride ≡ 0 → far ≡ round_up r.align r.size → far ≡ None → SaysArray t n child None
no-stride-says t r n child far host says e is none = no-stride-answers t r n far host says e is none

pub sized-says : (t : Ty) (r : Node) (n far child : ℕ) (o : Option Node) → has_nodes t ≡ true → Says r t → r.tail_stride ≡ 0 → Some far ≡ round_up r.align r.size
    → MatchOption o (can_have n far ≡ false) (λ x. IsTrue (nat_le 1 n) × (fitting (n * far) ≡ Some x.size) × (x ≡ array_node x.size r.align n far child 0))
    → SaysArray t (Some n) child o
sized-says t r n far child None host says e is h = no-sized-array t r far n (fixed-part t r host says e) (sym is) h
sized-says t r n far child (Some x) host says e is h =
    let made = sized-array t r far n x.size child (fixed-part t r host says e) (sym is) h.0 h.1 in
    record {
      host = made.0;
      says = subst (λ (y : Node). Says y (array t (Some n))) (sym h.2) made.1;
      place = ap (λ (y : Node). y.offset) h.2;
      child_is = ap (λ (y : Node). y.child) h.2;
      exact = h.2 ∙ node-is (array_node x.size r.align n far child 0) (array t (Some n)) child made.1 refl refl refl refl;
    }

pub open-says : (t : Ty) (r : Node) (n : Option ℕ) (far child : ℕ) → n ≡ None → has_nodes t ≡ true → Says r t → r.tail_stride ≡ 0 → Some far ≡ round_up r.align r.size
    → IsArrayOf t n child (array_node 0 r.align 0 far child far)
open-says t r n far child none host says e is =
    let made = open-array t r far child (fixed-part t r host says e) (sym is) in
    rw none (record {
      host = made.0;
      says = made.1;
      place = refl;
      child_is = refl;
      exact = node-is (array_node 0 r.align 0 far child far) (array t None) child made.1 refl refl refl refl;
    })
