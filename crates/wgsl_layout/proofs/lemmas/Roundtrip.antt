-- A buffer lays out its value, and values of one type are told apart by their buffers.
use Rattle.std.proofs.Common.{◌≡◌, ℕ, ◌+◌, List, [], ◌++◌, length, true, refl, ap, ◌∙◌, subst, length-append, append-nil}
use Rattle.wgsl_rules.specs.Values.{Val, type_of, IsStorable}
use Rattle.wgsl_rules.specs.Layout.{has_layout, layout_of, runtime_count, layout_len}
use Rattle.wgsl_layout.specs.Buffers.{number_at, buffer, decode, Lays}
use Rattle.wgsl_layout.specs.Laws.{AreTooFew, ABufferReadsBack, BuffersTellValuesApart}
use Rattle.wgsl_layout.proofs.lemmas.Ranges.{length-bytes}
use Rattle.wgsl_layout.proofs.lemmas.Tidy.{tidy}
use Rattle.wgsl_layout.proofs.lemmas.Follows.{follows}
use Rattle.wgsl_layout.proofs.lemmas.Compose.{laid-decodes}
use Rattle.wgsl_layout.proofs.lemmas.Back.{reads-back}
use Rattle.wgsl_layout.proofs.lemmas.Counts.{counted-in}
use Rattle.wgsl_layout.proofs.lemmas.Positive.{tail-stride}

pub length-buffer : (v : Val) → has_layout (type_of v) ≡ true → length (buffer v) ≡ layout_len (runtime_count v) (type_of v)
length-buffer v h = length-bytes (number_at v) (layout_of v) ∙ (tidy (type_of v) (runtime_count v) h).1

pub buffer-lays : (v : Val) (more : List ℕ) → IsStorable v → has_layout (type_of v) ≡ true → AreTooFew (type_of v) more → Lays (buffer v ++ more) (type_of v) v
buffer-lays v more s h few =
    let len : length (buffer v ++ more) ≡ layout_len (runtime_count v) (type_of v) + length more = length-append (buffer v) more ∙ ap (λ (n : ℕ). n + length more) (length-buffer v h) in
    record {
      layout = h;
      storable = s;
      typed = refl;
      counted = counted-in v (length more) (length (buffer v ++ more)) s h len few;
      reads = reads-back v more (tidy (type_of v) (runtime_count v) h).0 (follows v s h);
    }

pub reads-back-as : ABufferReadsBack
reads-back-as v more s h few = laid-decodes (buffer v ++ more) (type_of v) v (buffer-lays v more s h few)

pub lays-itself : (v : Val) → IsStorable v → has_layout (type_of v) ≡ true → Lays (buffer v) (type_of v) v
lays-itself v s h = subst (λ (b : List ℕ). Lays b (type_of v) v) (append-nil (buffer v)) (buffer-lays v [] s h (tail-stride (type_of v) h))

pub told-apart : BuffersTellValuesApart
told-apart v w s t h e b =
    let own : has_layout (type_of w) ≡ true = ap has_layout e ∙ h in
    let one = laid-decodes (buffer v) (type_of v) v (lays-itself v s h) in
    let two = laid-decodes (buffer w) (type_of w) w (lays-itself w t own) in
    let same : decode (buffer w) (type_of w) ≡ decode (buffer v) (type_of v) = ap (decode (buffer w)) e ∙ ap (λ (c : List ℕ). decode c (type_of v)) b in
    cc (one, two, same)
