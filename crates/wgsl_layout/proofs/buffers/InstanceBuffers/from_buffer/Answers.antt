use Rattle.std.proofs.Common.{◌≡◌, ℕ, suc, ◌<◌, List, [], ◌∷◌, get_or, Option, Some, None, arith, sym, subst}
use Rattle.std.specs.Prelude.{option_map, IfSome}
use Rattle.wgsl_rules.specs.Types.{Ty}
use Rattle.wgsl_rules.specs.Layout.{layout_of}
use Rattle.wgsl_rules.specs.View.{type_view}
use Rattle.wgsl_values.specs.View.{value_of}
use Rattle.wgsl_values.specs.declared.instance.Instance.{Instance}
use Rattle.wgsl_layout.specs.Buffers.{buffer, without_padding, IsReadOf, decode}
use Rattle.wgsl_layout.specs.Laws.{AreBytes}
use Rattle.wgsl_layout.proofs.lemmas.Decoded.{decoding-is-reading}
use Rattle.wgsl_layout.proofs.lemmas.Padding.{has-the-bytes}
use Rattle.wgsl_layout.proofs.buffers.InstanceBuffers.from_buffer.Goals as goal

are-bytes : (b : List ℕ) → ((i : ℕ) → get_or b i 0 < 256) → AreBytes b
are-bytes [] small = tt
are-bytes (x ∷ b) small = (small 0, are-bytes b (λ i. small (suc i)))

written-again : (b : List ℕ) (t : Ty) (o : Option Instance) → AreBytes b → option_map value_of o ≡ decode b t → IfSome o (λ x. buffer (value_of x) ≡ without_padding b (layout_of (value_of x)))
written-again b t None bytes is = tt
written-again b t (Some x) bytes is = has-the-bytes b t (value_of x) bytes (sym is)

pub returns-clause-value : goal.returns-clause-value
returns-clause-value c =
    let t = type_view c.args.ty.now in
    subst (λ o. IsReadOf c.args.bytes.now t o) (sym c.in_ok-read_buffer.ensures) (decoding-is-reading c.args.bytes.now t)

pub returns-clause-again : goal.returns-clause-again
returns-clause-again c =
    written-again c.args.bytes.now (type_view c.args.ty.now) c.in_ok-read_buffer.field-0 (are-bytes c.args.bytes.now (λ i. omega (arith, c.type_inv.bytes i))) c.in_ok-read_buffer.ensures
