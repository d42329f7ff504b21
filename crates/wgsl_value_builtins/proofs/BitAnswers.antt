-- What builtin functions on bits answer may be stored.
use Rattle.std.proofs.Common.{◌≡◌, ℕ, ℤ, pos, unsigned_abs, ◌-◌, Ok, subst}
use Rattle.wgsl_rules.specs.Kinds as kinds
use Rattle.wgsl_rules.specs.Kinds.{Kind, InKind, width, wrap}
use Rattle.wgsl_rules.specs.Refusals.{and_then, builtin}
use Rattle.wgsl_rules.specs.Types.{Ty}
use Rattle.wgsl_rules.specs.Values.{Val, number, type_of, type_of_kind, IsStorable, IsWellFormed}
use Rattle.wgsl_scalar.specs.Bits.{bit, from_bits, with_bits}
use Rattle.wgsl_scalar.specs.Operands.{ok_or, common_operands}
use Rattle.wgsl_scalar.proofs.lemmas.InKind.{wrap-in}
use Rattle.wgsl_value_builtins.proofs.Lifted.{IsLiteralOf, GivesLiteral2, number-literal, components-storable, common-storable}
use Rattle.wgsl_value_builtins.proofs.NumericAnswers.{operands-of}
use Rattle.wgsl_value_ops.proofs.Outcomes.{then-is, some-of}
use Rattle.wgsl_scalar.specs.BitFields.{on_word, reversed_in, first_leading_in, first_trailing_in, extracted_in, extracted, inserted_in, inserted}
use Rattle.wgsl_value_builtins.specs.BitFunctions.{reversed_bits, first_leading_bits, first_trailing_bits, extracted_bits, inserted_bits}
use Rattle.wgsl_value_builtins.specs.Laws.{Answers1, Answers3}
use Rattle.wgsl_value_builtins.specs.Lifts.{on_components, on_both, in_common_type}
use Rattle.wgsl_value_builtins.specs.Packing.{word_in}

abbrev pub StaysOf : (Kind → ℤ → Val) → Type 0
StaysOf f = (k : Kind) (z : ℤ) → IsLiteralOf (type_of_kind k) (f k z)

pub on_word-literal : (f : Kind → ℤ → Val) → StaysOf f → (t : Ty) (v x : Val) → type_of v ≡ t → on_word f v ≡ Ok x → IsLiteralOf t x
on_word-literal f g t (number kinds.i32 z) x h e = let same : f kinds.i32 z ≡ x = cc in subst (λ (u : Ty). IsLiteralOf u x) h (subst (IsLiteralOf (type_of_kind kinds.i32)) same (g kinds.i32 z))
on_word-literal f g t (number kinds.u32 z) x h e = let same : f kinds.u32 z ≡ x = cc in subst (λ (u : Ty). IsLiteralOf u x) h (subst (IsLiteralOf (type_of_kind kinds.u32)) same (g kinds.u32 z))
on_word-literal f g t v x h e = absurd (cc)

word-storable : (f : Kind → ℤ → Val) → StaysOf f → Answers1 (on_components (on_word f))
word-storable f g = components-storable (on_word f) (λ t. t) (λ t v x h e. on_word-literal f g t v x h.typed e)

-- a number that wraps to its kind
pub wrapped-literal : (k : Kind) (z : ℤ) → IsLiteralOf (type_of_kind k) (number k (wrap k z))
wrapped-literal k z = number-literal k (wrap k z) (wrap-in k z)

pub bits-literal : (k : Kind) (f : ℕ → ℕ) → IsLiteralOf (type_of_kind k) (with_bits k f)
bits-literal k f = wrapped-literal k (pos (from_bits (width k) f))

pub reversed-storable : Answers1 reversed_bits
reversed-storable = word-storable reversed_in (λ k z. bits-literal k (λ i. bit z (31 - i)))

pub first_leading-storable : Answers1 first_leading_bits
first_leading-storable = word-storable first_leading_in (λ k z. wrapped-literal k _)

pub first_trailing-storable : Answers1 first_trailing_bits
first_trailing-storable = word-storable first_trailing_in (λ k z. wrapped-literal k _)

pub extracted-storable : Answers3 extracted_bits
extracted-storable v offset count x h k l e =
    let a = then-is (word_in offset) (λ o. and_then (word_in count) (λ c. on_components (extracted (unsigned_abs o) (unsigned_abs c)) v)) x e in
    let b = then-is (word_in count) (λ c. on_components (extracted (unsigned_abs a.first) (unsigned_abs c)) v) x a.rest in
    word-storable (extracted_in (unsigned_abs a.first) (unsigned_abs b.first)) (λ k z. bits-literal k _) v x h b.rest

pub inserted-literal : (o c : ℕ) (t : Ty) → GivesLiteral2 (inserted o c) t
inserted-literal o c t v w x g h e =
    let a = then-is (ok_or builtin (common_operands v w)) (λ p. on_word (λ k z. inserted_in o c k z p.right) (number p.kind p.left)) x e in
    let p = a.first in
    let d = operands-of t v w p g h (some-of builtin (common_operands v w) p a.is) in
    on_word-literal (λ k z. inserted_in o c k z p.right) (λ k z. bits-literal k _) t (number p.kind p.left) x d.typed a.rest

pub inserted-storable : (u v w o x : Val) → IsWellFormed u → IsWellFormed v → IsWellFormed w → IsWellFormed o → inserted_bits u v w o ≡ Ok x → IsStorable x
inserted-storable u v offset count x h k l m e =
    let a = then-is (word_in offset) (λ o. and_then (word_in count) (λ c. and_then (in_common_type u v) (λ p. on_both (inserted (unsigned_abs o) (unsigned_abs c)) p.0 p.1))) x e in
    let b = then-is (word_in count) (λ c. and_then (in_common_type u v) (λ p. on_both (inserted (unsigned_abs a.first) (unsigned_abs c)) p.0 p.1)) x a.rest in
    common-storable (inserted (unsigned_abs a.first) (unsigned_abs b.first)) (inserted-literal (unsigned_abs a.first) (unsigned_abs b.first)) u v x h k b.rest
