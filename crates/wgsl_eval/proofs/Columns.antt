-- The columns of a matrix.
use Rattle.std.proofs.Common.{◌≡◌, ◌∙◌, ℕ, zero, suc, ◌+◌, ◌-◌, ◌<◌, List, [], ◌∷◌, ◌++◌, take, drop, map, sym, ap, arith, append_assoc}
use Rattle.std.proofs.lemmas.List.{append-nil, map-append, take-map, drop-map}
use Rattle.wgsl_rules.specs.Values.{Val}
use Rattle.wgsl_scalar.specs.Literals.{literal_of}
use Rattle.wgsl_scalar.specs.declared.literal.LiteralInstance.{LiteralInstance}
use Rattle.wgsl_values.specs.View.{value_of}
use Rattle.wgsl_values.specs.declared.instance.Instance.{Instance}
use Rattle.wgsl_eval.specs.Constructors.{columns_of, vector_of}

columns-step : (m rows : ℕ) (vs : List Val) → 0 < m → columns_of m rows vs ≡ vector_of (take rows vs) ∷ columns_of (m - 1) rows (drop rows vs)
columns-step zero rows vs h = absurd (omega arith)
columns-step (suc m) rows vs h =
    let e : m ≡ suc m - 1 = omega arith in ap (λ k. vector_of (take rows vs) ∷ columns_of k rows (drop rows vs)) e

-- a column more behind those that are made, before those of the rest
pub columns-more : (n i rows : ℕ) (all : List Val) (made : List Instance) (y : Instance) (rest column behind : List LiteralInstance) → i < n
    → map value_of made ++ columns_of (n - i) rows (map literal_of rest) ≡ all
    → column ≡ take rows rest → behind ≡ drop rows rest → value_of y ≡ vector_of (map literal_of column)
    → map value_of (made ++ y ∷ []) ++ columns_of (n - (i + 1)) rows (map literal_of behind) ≡ all
columns-more n i rows all made y rest column behind h k front back is =
    let first : value_of y ≡ vector_of (take rows (map literal_of rest)) = is ∙ ap (λ ls. vector_of (map literal_of ls)) front ∙ ap vector_of (sym (take-map literal_of rows rest)) in
    let left : n - i - 1 ≡ n - (i + 1) = omega arith in
    let more : map literal_of behind ≡ drop rows (map literal_of rest) = ap (map literal_of) back ∙ sym (drop-map literal_of rows rest) in
    let step : value_of y ∷ columns_of (n - (i + 1)) rows (map literal_of behind) ≡ columns_of (n - i) rows (map literal_of rest) =
    ap (λ w. w ∷ columns_of (n - (i + 1)) rows (map literal_of behind)) first
    ∙ ap (λ ws. vector_of (take rows (map literal_of rest)) ∷ columns_of (n - (i + 1)) rows ws) more
    ∙ ap (λ j. vector_of (take rows (map literal_of rest)) ∷ columns_of j rows (drop rows (map literal_of rest))) (sym left)
    ∙ sym (columns-step (n - i) rows (map literal_of rest) (omega arith)) in
    ap (λ ws. ws ++ columns_of (n - (i + 1)) rows (map literal_of behind)) (map-append value_of made (y ∷ []))
    ∙ append_assoc (map value_of made) (value_of y ∷ []) (columns_of (n - (i + 1)) rows (map literal_of behind))
    ∙ ap (λ ws. map value_of made ++ ws) step ∙ k

pub columns-done : (n rows : ℕ) (all : List Val) (made : List Instance) (rest : List LiteralInstance)
    → map value_of made ++ columns_of (n - n) rows (map literal_of rest) ≡ all → map value_of made ≡ all
columns-done n rows all made rest k =
    let none : 0 ≡ n - n = omega arith in
    sym (append-nil (map value_of made)) ∙ ap (λ m. map value_of made ++ columns_of m rows (map literal_of rest)) none ∙ k

pub ruleset column_steps = (columns-more, columns-done)
