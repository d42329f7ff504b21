use Rattle.std.proofs.Common.{◌≡◌, ◌∙◌, ◌++◌, ◌∷◌, [], ℕ, List, eqb, true, false, sym, refl, map, drop, ap, arith}
use Rattle.std.proofs.lemmas.List.{take_rest}
use Rattle.wgsl_script.specs.Hexadecimal.{hexadecimal}
use Rattle.std.specs.Char.{to_ascii_lowercase}
use Rattle.wgsl_script.proofs.Hexadecimals.{left, bad_pair, bad_single, one_more}
use Rattle.wgsl_script.proofs.hexadecimal.bytes_of.Goals as goal

pub returns-in_default-byte_of-clause-none : goal.returns-in_default-byte_of-clause-none
returns-in_default-byte_of-clause-none c =
    λ _ bytes all e. let rest = left bytes c.loop-digits.bytes.items (map to_ascii_lowercase c.loop-digits.digits.now) all (sym e ∙ c.loop-digits.invariant) in
    bad_pair c.loop-digits.digits.now rest.0 c.in-len2-up.len_at_least rest.1 (c.in_default-byte_of.ensures.none refl) rest.2

pub returns-else-is_empty-clause-none : goal.returns-else-is_empty-clause-none
returns-else-is_empty-clause-none c =
    λ _ bytes all e. let rest = left bytes c.loop-digits.bytes.items (map to_ascii_lowercase c.loop-digits.digits.now) all (sym e ∙ c.loop-digits.invariant) in
    bad_single c.loop-digits.digits.now rest.0 (omega arith) (λ z. let not_so : false ≡ true = c.if-is_empty.ensures ∙ ap (λ (n : ℕ). eqb n 0) z in cc) rest.2

pub loop-digits-preserved : goal.loop-digits-preserved
loop-digits-preserved c =
    let items : c.push.new.self.items ≡ c.loop-digits.bytes.items ++ c.in-Some.byte ∷ [] = c.in_ok-push.ensures.items in
    let behind = take_rest c.loop-digits.digits.now 2 in
    c.loop-digits.invariant
    ∙ one_more c.loop-digits.digits.now c.loop-digits.bytes.items c.in-Some.byte c.in-len2-up.len_at_least c.in-Some.ensures.some
    ∙ ap (λ (v : List ℕ). hexadecimal v ++ map to_ascii_lowercase (drop 2 c.loop-digits.digits.now)) (sym items)
    ∙ ap (λ (v : List ℕ). hexadecimal c.push.new.self.items ++ map to_ascii_lowercase v) (sym behind)
