-- To wrap a part of a sum or of a product first changes nothing.
use Rattle.std.proofs.Common.{◌≡◌, ◌≢◌, ℕ, ◌*◌, ◌^◌, ◌<◌, ℤ, pos, negsuc, ◌+ℤ◌, ◌*ℤ◌, arith, refl, sym, ap, ◌∙◌}
use Rattle.std.specs.Int.{Width, w32, w64, cast_signed, cast_unsigned, int_wrap}
use lib.IntN.{+ℤ_assoc, +ℤ_comm, *ℤ_comm}
use mir.Val.{bits}
use borrow.Author.Differences.{up, down, same_in, product_is, sum_is_lem}
use Rattle.std.proofs.Math.Nat.{mod-eq_of_lt}
use Rattle.std.proofs.lemmas.Int.{ints, of_z-to_z, int_wrap_fits, SFits-int_wrap, int_wrap-add_left, int_wrap-mul_left}
use Rattle.wgsl_rules.specs.Kinds as kinds
use Rattle.wgsl_rules.specs.Kinds.{Kind, width, is_signed, as_signed, modulo, wrap}
use Rattle.wgsl_scalar.specs.Laws.{GivesWrapped}
use Rattle.wgsl_scalar.proofs.lemmas.BitLaws.{modulo_lt}

-- ---- products of whole numbers

*ℤ_assoc : (a b c : ℤ) → (a *ℤ b) *ℤ c ≡ a *ℤ (b *ℤ c)
*ℤ_assoc a b c =
    let ab = product_is a b in
    let bc = product_is b c in
    let l = product_is (a *ℤ b) c in
    let r = product_is a (b *ℤ c) in
    let l0 = ap (λ x. x * up c) ab.0 in
    let l1 = ap (λ x. x * down c) ab.1 in
    let l2 = ap (λ x. x * down c) ab.0 in
    let l3 = ap (λ x. x * up c) ab.1 in
    let r0 = ap (λ x. up a * x) bc.0 in
    let r1 = ap (λ x. down a * x) bc.1 in
    let r2 = ap (λ x. up a * x) bc.1 in
    let r3 = ap (λ x. down a * x) bc.0 in
    same_in _ _ (omega arith)

*ℤ-+ℤ : (a b c : ℤ) → a *ℤ (b +ℤ c) ≡ a *ℤ b +ℤ a *ℤ c
*ℤ-+ℤ a b c =
    let s = sum_is_lem b c in
    let l = product_is a (b +ℤ c) in
    let ab = product_is a b in
    let ac = product_is a c in
    let r = sum_is_lem (a *ℤ b) (a *ℤ c) in
    let s0 = ap (λ x. up a * x) s in
    let s1 = ap (λ x. down a * x) s in
    same_in _ _ (omega arith)

-- ---- words

int_wrap-is : (w : Width) (z : ℤ) → int_wrap w z ≡ cast_signed w (modulo z (2 ^ bits w))
unfolding int_wrap
int_wrap-is w (pos a) = refl
int_wrap-is w (negsuc a) = refl

-- numbers that wrap to the same have the same word
same_word : (w : Width) (x y : ℤ) → int_wrap w x ≡ int_wrap w y → modulo x (2 ^ bits w) ≡ modulo y (2 ^ bits w)
same_word w x y e =
    sym (of_z-to_z w (modulo x (2 ^ bits w)) (modulo_lt w x))
    ∙ ap (cast_unsigned w) (sym (int_wrap-is w x) ∙ e ∙ int_wrap-is w y)
    ∙ of_z-to_z w (modulo y (2 ^ bits w)) (modulo_lt w y)

word_of : Kind → Width
word_of kinds.abstract_int = w64
word_of kinds.i32 = w32
word_of kinds.u32 = w32
word_of kinds.i64 = w64
word_of kinds.u64 = w64

same_wrap : (k : Kind) (x y : ℤ) → int_wrap (word_of k) x ≡ int_wrap (word_of k) y → wrap k x ≡ wrap k y
unfolding word_of
same_wrap kinds.abstract_int x y e = ap (as_signed 64) (same_word w64 x y e)
same_wrap kinds.i32 x y e = ap (as_signed 32) (same_word w32 x y e)
same_wrap kinds.u32 x y e = ap pos (same_word w32 x y e)
same_wrap kinds.i64 x y e = ap (as_signed 64) (same_word w64 x y e)
same_wrap kinds.u64 x y e = ap pos (same_word w64 x y e)

signed_32 : (n : ℕ) → n < 2 ^ 32 → as_signed 32 n ≡ cast_signed w32 n
signed_32 n h = grind (arith, ints)

signed_64 : (n : ℕ) → n < 2 ^ 64 → as_signed 64 n ≡ cast_signed w64 n
signed_64 n h = grind (arith, ints)

again-signed : (w : Width) (x z : ℤ) → x ≡ cast_signed w (modulo z (2 ^ bits w)) → int_wrap w x ≡ int_wrap w z
again-signed w x z e =
    ap (int_wrap w) (e ∙ sym (int_wrap-is w z)) ∙ int_wrap_fits w (int_wrap w z) (SFits-int_wrap w z)

again-unsigned : (w : Width) (z : ℤ) → int_wrap w (pos (modulo z (2 ^ bits w))) ≡ int_wrap w z
again-unsigned w z =
    int_wrap-is w (pos (modulo z (2 ^ bits w)))
    ∙ ap (cast_signed w) (mod-eq_of_lt (modulo_lt w z))
    ∙ sym (int_wrap-is w z)

-- what a number wraps to has its word
again : (k : Kind) (z : ℤ) → int_wrap (word_of k) (wrap k z) ≡ int_wrap (word_of k) z
unfolding word_of
again kinds.abstract_int z = again-signed w64 _ z (signed_64 _ (modulo_lt w64 z))
again kinds.i32 z = again-signed w32 _ z (signed_32 _ (modulo_lt w32 z))
again kinds.u32 z = again-unsigned w32 z
again kinds.i64 z = again-signed w64 _ z (signed_64 _ (modulo_lt w64 z))
again kinds.u64 z = again-unsigned w64 z

-- ---- parts that are wrapped first

wrap-add_left : (k : Kind) (a b : ℤ) → wrap k (wrap k a +ℤ b) ≡ wrap k (a +ℤ b)
wrap-add_left k a b =
    let w = word_of k in
    same_wrap k _ _ (sym (int_wrap-add_left w (wrap k a) b)
    ∙ ap (λ x. int_wrap w (x +ℤ b)) (again k a)
    ∙ int_wrap-add_left w a b)

wrap-mul_left : (k : Kind) (a b : ℤ) → wrap k (wrap k a *ℤ b) ≡ wrap k (a *ℤ b)
wrap-mul_left k a b =
    let w = word_of k in
    same_wrap k _ _ (sym (int_wrap-mul_left w (wrap k a) b)
    ∙ ap (λ x. int_wrap w (x *ℤ b)) (again k a)
    ∙ int_wrap-mul_left w a b)

wrap-add_right : (k : Kind) (a b : ℤ) → wrap k (a +ℤ wrap k b) ≡ wrap k (a +ℤ b)
wrap-add_right k a b = ap (wrap k) (+ℤ_comm a (wrap k b)) ∙ wrap-add_left k b a ∙ ap (wrap k) (+ℤ_comm b a)

wrap-mul_right : (k : Kind) (a b : ℤ) → wrap k (a *ℤ wrap k b) ≡ wrap k (a *ℤ b)
wrap-mul_right k a b = ap (wrap k) (*ℤ_comm a (wrap k b)) ∙ wrap-mul_left k b a ∙ ap (wrap k) (*ℤ_comm b a)

-- ---- the laws of a ring

pub sums_commute : (k : Kind) (a b : ℤ) → wrap k (a +ℤ b) ≡ wrap k (b +ℤ a)
sums_commute k a b = ap (wrap k) (+ℤ_comm a b)

pub products_commute : (k : Kind) (a b : ℤ) → wrap k (a *ℤ b) ≡ wrap k (b *ℤ a)
products_commute k a b = ap (wrap k) (*ℤ_comm a b)

pub sums_associate : (k : Kind) (a b c : ℤ) → wrap k (wrap k (a +ℤ b) +ℤ c) ≡ wrap k (a +ℤ wrap k (b +ℤ c))
sums_associate k a b c =
    wrap-add_left k (a +ℤ b) c ∙ ap (wrap k) (+ℤ_assoc a b c) ∙ sym (wrap-add_right k a (b +ℤ c))

pub products_associate : (k : Kind) (a b c : ℤ) → wrap k (wrap k (a *ℤ b) *ℤ c) ≡ wrap k (a *ℤ wrap k (b *ℤ c))
products_associate k a b c =
    wrap-mul_left k (a *ℤ b) c ∙ ap (wrap k) (*ℤ_assoc a b c) ∙ sym (wrap-mul_right k a (b *ℤ c))

pub products_distribute : (k : Kind) (a b c : ℤ) → wrap k (a *ℤ wrap k (b +ℤ c)) ≡ wrap k (wrap k (a *ℤ b) +ℤ wrap k (a *ℤ c))
products_distribute k a b c =
    wrap-mul_right k a (b +ℤ c)
    ∙ ap (wrap k) (*ℤ-+ℤ a b c)
    ∙ sym (wrap-add_left k (a *ℤ b) (a *ℤ c))
    ∙ sym (wrap-add_right k (wrap k (a *ℤ b)) (a *ℤ c))

pub gives_wrapped : (k : Kind) → k ≢ kinds.abstract_int → GivesWrapped k
gives_wrapped kinds.abstract_int h = absurd (h refl)
gives_wrapped kinds.i32 h = record { sums = λ a b. refl; products = λ a b. refl }
gives_wrapped kinds.u32 h = record { sums = λ a b. refl; products = λ a b. refl }
gives_wrapped kinds.i64 h = record { sums = λ a b. refl; products = λ a b. refl }
gives_wrapped kinds.u64 h = record { sums = λ a b. refl; products = λ a b. refl }
