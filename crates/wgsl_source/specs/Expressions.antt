-- Where the reading of an expression stands.
use Rattle.std.specs.Prelude.{◌≡◌, ℕ, ◌+◌, ◌-◌, ◌^◌, min, ◌⊎◌, Bool, not, Option, Some, None, IsSomeAnd, List, [], ◌∷◌, length, slice_get}
use Rattle.std.specs.List.{list_any}
use Rattle.wgsl_rules.specs.declared.syntax.BinaryOperator.{BinaryOperator}
use Rattle.wgsl_source.specs.Cursors.{token_of, next_token}
use Rattle.wgsl_source.specs.Mixes.{may_stand_beside}
use Rattle.wgsl_source.specs.declared.cursor.Cursor.{Cursor}
use Rattle.wgsl_source.specs.declared.expression.Open.{Open}
use Rattle.wgsl_source.specs.declared.expression.Open.TheVariants as opens
use Rattle.wgsl_source.specs.declared.token.TokenKind.TheVariants as kinds

-- the operators that wait in the innermost bracket, of what is open, the last first
abbrev pub waiting_in : List Open → List BinaryOperator
waiting_in [] = []
waiting_in (opens.Binary operator token ∷ rest) = operator ∷ waiting_in rest
waiting_in (opens.Unary operator token ∷ rest) = waiting_in rest
waiting_in (opens.Group ∷ rest) = []
waiting_in (opens.Index token ∷ rest) = []
waiting_in (opens.Template name count ∷ rest) = []
waiting_in (opens.Call name callee count ∷ rest) = []

-- whether one of them needs brackets beside this one
abbrev pub is_mixed_in : List Open → BinaryOperator → Bool
is_mixed_in last_first operator = list_any (λ waiting. not (may_stand_beside waiting operator)) (waiting_in last_first)

-- the token of the operator that is open last
abbrev pub operator_in : Option Open → Option ℕ
operator_in None = None
operator_in (Some (opens.Binary operator token)) = Some token
operator_in (Some (opens.Unary operator token)) = Some token
operator_in (Some opens.Group) = None
operator_in (Some (opens.Index token)) = None
operator_in (Some (opens.Template name count)) = None
operator_in (Some (opens.Call name callee count)) = None

-- a character that makes one token with the same one behind it
abbrev pub MayDouble : ℕ → Type 0
MayDouble symbol = (symbol ≡ 45) ⊎ (symbol ≡ 38)

-- the token of this number is the character, and the next one is it too, right behind
abbrev pub StandsBefore : Cursor → ℕ → ℕ → Type 0
StandsBefore c token symbol =
    (min (token + 1) (2 ^ 64 - 1) ≡ c.at) × ((token_of c token).kind ≡ kinds.Symbol symbol)
    × ((next_token c).kind ≡ kinds.Symbol symbol) × ((token_of c token).end ≡ (next_token c).start)

-- the next character makes `--` or `&&` with the operator that is open last
abbrev pub IsDouble : List Open → Cursor → ℕ → Type 0
IsDouble waiting c symbol =
    IsSomeAnd (operator_in (slice_get waiting (length waiting - 1))) (λ token. MayDouble symbol × StandsBefore c token symbol)
