-- Tables of names: none in it, and one more.
use lib.Pointwise.{bytes_decides}
use Rattle.std.proofs.Common.{◌≡◌, ◌≢◌, ◌<◌, ◌⊎◌, ℕ, Bool, true, false, cond, Option, Some, None, List, [], ◌∷◌, ◌++◌, length, zero, suc, refl, sym, ap, ◌∙◌, inl, inr, arith}
use Rattle.std.proofs.Math.ListN.{set}
use Rattle.std.proofs.Math.Dec.{eqb}
use Rattle.std.proofs.lemmas.Bool.Decides.{eqb_tells}
use Rattle.std.proofs.lemmas.List.{length-set}
use Rattle.std.specs.Prelude.{option_and_then, slice_get}
use Rattle.std.specs.Str.{bytes_eq}
use Rattle.std.specs.BTreeMap.{get_by_text}
use Rattle.wgsl_source.specs.NameTables.{map_of, named_in}
use Rattle.wgsl_source.specs.declared.name_table.NameTable.{NameTable}
use Rattle.wgsl_rules.proofs.lemmas.Slices.{slice_get-set_same, slice_get-set_other}

slice_get-none : {X : Type 0} (xs : List X) (i : ℕ) → length xs ≡ 0 → slice_get xs i ≡ None
slice_get-none [] i e = refl
slice_get-none (x ∷ xs) i e = absurd (omega arith)

-- without maps no name is known
pub named-none : (t : NameTable) → length t.maps.items ≡ 0 → (name : List ℕ) → named_in t name ≡ None
named-none t e name = ap (option_and_then (λ m. get_by_text m name)) (slice_get-none t.maps.items (map_of name (length t.maps.items)) e)

module _ {M : Type 0} (get : M → List ℕ → Option ℕ) where
  -- what the map of a number has
  abbrev pub found_at : List M → List ℕ → ℕ → Option ℕ
  found_at ms name at = option_and_then (λ m. get m name) (slice_get ms at)

  -- one more map without a name
  pub none-added : (ms : List M) (m : M) → ((name : List ℕ) → get m name ≡ None) → ((name : List ℕ) (at : ℕ) → found_at ms name at ≡ None) → (name : List ℕ) (at : ℕ) → found_at (ms ++ m ∷ []) name at ≡ None
  none-added [] m none before name zero = none name
  none-added [] m none before name (suc at) = refl
  none-added (x ∷ xs) m none before name zero = before name zero
  none-added (x ∷ xs) m none before name (suc at) = none-added xs m none (λ n k. before n (suc k)) name at

  -- one more name, in its map
  pub name-added : (ms : List M) (old new : M) (name : List ℕ) (number at : ℕ) → at ≡ map_of name (length ms) → at < length ms → slice_get ms at ≡ Some old
      → ((q : List ℕ) → get new q ≡ cond (bytes_eq name q) (Some number) (get old q))
      → (q : List ℕ) → found_at (set ms at new) q (map_of q (length (set ms at new))) ≡ cond (bytes_eq name q) (Some number) (found_at ms q (map_of q (length ms)))
  name-added ms old new name number at is within here updates q = start ∙ from (eqb_tells k at)
    where
      k : ℕ
      k = map_of q (length ms)

      start : found_at (set ms at new) q (map_of q (length (set ms at new))) ≡ found_at (set ms at new) q k
      start = ap (λ n. found_at (set ms at new) q (map_of q n)) (length-set ms at new)

      apart : k ≢ at → (b : Bool) → bytes_eq name q ≡ b → found_at ms q k ≡ cond b (Some number) (found_at ms q k)
      apart other false e = refl
      apart other true e = absurd (other (ap (λ n. map_of n (length ms)) (sym ((bytes_decides name q).0 e)) ∙ sym is))

      from : ((eqb k at ≡ true) × (k ≡ at)) ⊎ ((eqb k at ≡ false) × (k ≢ at)) → found_at (set ms at new) q k ≡ cond (bytes_eq name q) (Some number) (found_at ms q k)
      from (inl h) =
          ap (found_at (set ms at new) q) h.1
          ∙ ap (option_and_then (λ m. get m q)) (slice_get-set_same ms at new within)
          ∙ updates q
          ∙ ap (cond (bytes_eq name q) (Some number)) (sym (ap (found_at ms q) h.1 ∙ ap (option_and_then (λ m. get m q)) here))
      from (inr h) =
          ap (option_and_then (λ m. get m q)) (slice_get-set_other ms at k new h.1)
          ∙ apart h.1 (bytes_eq name q) refl
