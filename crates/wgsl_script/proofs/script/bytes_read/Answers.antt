use Rattle.std.proofs.Common.{◌≡◌, List, ℕ, Some, None, Bool, true, false, Ok, Err, option_map, if◌then◌else◌, ap, subst, sym, ◌∙◌}
use Rattle.std.specs.Prelude.{IsOkAnd}
use Rattle.wgsl_rules.specs.Layout.{has_layout}
use Rattle.wgsl_rules.specs.Refusals.{Outcome}
use Rattle.wgsl_rules.specs.Values.{Val, deferred, type_of}
use Rattle.wgsl_layout.specs.Buffers.{buffer, buffer_of}
use Rattle.wgsl_store.specs.Memory.{held}
use Rattle.wgsl_store.specs.ReferenceCalls.{read}
use Rattle.wgsl_values.specs.View.{reference_of, value_of}
use Rattle.wgsl_script.specs.Hexadecimal.{hexadecimal}
use Rattle.wgsl_script.proofs.script.bytes_read.Goals as goal

-- a value that has bytes has its buffer
buffer-is : (v : Val) (b : List ℕ) → Some b ≡ buffer_of v → b ≡ buffer v
buffer-is (deferred t) b e = absurd (cc)
buffer-is v b e = by (has_layout (type_of v)) e
  where
    by : (c : Bool) → Some b ≡ (if c then Some (buffer v) else None) → b ≡ buffer v
    by true e = cc
    by false e = absurd (cc)

dumped : (o : Outcome Val) (v : Val) (b : List ℕ) → o ≡ Ok v → Some b ≡ buffer_of v → IsOkAnd o (λ w. hexadecimal b ≡ hexadecimal (buffer w))
dumped o v b is e = subst (λ (p : Outcome Val). IsOkAnd p (λ w. hexadecimal b ≡ hexadecimal (buffer w))) (sym is) (ap hexadecimal (buffer-is v b e))

pub returns : goal.returns
returns c =
    let v = value_of c.in_ok-value.value in
    let b = c.in_ok-ok_or.field-0.items in
    let made : Some b ≡ buffer_of v = ap (option_map (λ x. x.items)) (sym c.in_ok-ok_or.ensures.ok_part) ∙ c.in_ok-bytes-2.ensures.bytes in
    dumped (read (held c.args.store.now) (reference_of c.args.reference.now)) v b c.in_ok-value.ensures.outcome made
