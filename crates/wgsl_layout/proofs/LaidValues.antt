-- What bytes lay out in a type: which value it is.
use Rattle.std.proofs.Common.{◌≡◌, ℕ, List, length, Option, Some, None, option_map, Bool, true, false, if◌then◌else◌, refl, sym, ap, ◌∙◌, subst}
use Rattle.std.specs.Prelude.{not}
use Rattle.wgsl_rules.specs.Layout.{count_in, has_layout, layout, runtime_count}
use Rattle.wgsl_rules.specs.Types.{Ty}
use Rattle.wgsl_rules.specs.Values.{Val}
use Rattle.wgsl_layout.specs.Buffers.{IsReadOf, Lays, decode, decoded}
use Rattle.wgsl_layout.proofs.lemmas.Decoded.{decoded-lays, decoding-is-reading}

-- a test that did not fail
pub not-false : (b : Bool) → not b ≡ false → b ≡ true
not-false true h = refl
not-false false h = sym h

-- ---- the value

-- of bytes that tell this count
pub decode-told : (b : List ℕ) (t : Ty) (o : Option ℕ) → has_layout t ≡ true → count_in (length b) t ≡ o → decode b t ≡ option_map (λ n. decoded b 0 (layout n t)) o
decode-told b t o h e =
    ap (λ (c : Bool). if c then option_map (λ n. decoded b 0 (layout n t)) (count_in (length b) t) else None) h
    ∙ ap (option_map (λ n. decoded b 0 (layout n t))) e

-- a type without a layout lays out none
pub decode-without : (b : List ℕ) (t : Ty) → has_layout t ≡ false → decode b t ≡ None
decode-without b t h = ap (λ (c : Bool). if c then option_map (λ n. decoded b 0 (layout n t)) (count_in (length b) t) else None) h

-- of bytes that tell no count
pub decode-uncounted : (b : List ℕ) (t : Ty) → count_in (length b) t ≡ None → decode b t ≡ None
decode-uncounted b t e = by (has_layout t) refl
  where
    by : (c : Bool) → has_layout t ≡ c → decode b t ≡ None
    by true h = decode-told b t None h e
    by false h = decode-without b t h

pub decode-lays : (b : List ℕ) (t : Ty) (v : Val) → decode b t ≡ Some v → Lays b t v
decode-lays b t v e = (subst (IsReadOf b t) e (decoding-is-reading b t)).0

-- the count that bytes tell is that of the value
pub told-count : (b : List ℕ) (t : Ty) (n : ℕ) → has_layout t ≡ true → count_in (length b) t ≡ Some n → n ≡ runtime_count (decoded b 0 (layout n t))
told-count b t n h e =
    let own : Some n ≡ Some (runtime_count (decoded b 0 (layout n t))) = sym e ∙ (decoded-lays b t n h e).counted in
    cc
