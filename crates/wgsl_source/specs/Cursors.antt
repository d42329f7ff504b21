-- A place among the tokens of a source.
use Rattle.std.specs.Prelude.{◌≡◌, ℕ, ◌+◌, ◌-◌, ◌^◌, min, List, length, slice_get, unwrap_or}
use Rattle.wgsl_source.specs.Cuts.{cut_of}
use Rattle.wgsl_source.specs.declared.cursor.Cursor.{Cursor}
use Rattle.wgsl_source.specs.declared.fault.Fault.{Fault}
use Rattle.wgsl_source.specs.declared.fault.Reason.{Reason}
use Rattle.wgsl_source.specs.declared.token.Token.{Token}
use Rattle.wgsl_source.specs.declared.token.TokenKind.TheVariants as kinds

-- the token of this number; behind the last one the end of the text
abbrev pub token_of : Cursor → ℕ → Token
token_of c at =
    unwrap_or (slice_get c.tokens.now at) (record { kind = kinds.End; start = length c.text.now; end = length c.text.now })

-- the text of the token of this number
abbrev pub text_of : Cursor → ℕ → List ℕ
text_of c at = cut_of c.text.now (token_of c at).start (token_of c at).end

-- the token that is read next
abbrev pub next_token : Cursor → Token
next_token c = token_of c c.at

-- one token further
abbrev pub advanced : Cursor → Cursor
advanced c = record c { at = min (c.at + 1) (2 ^ 64 - 1) }

-- a fault at the token of this number
abbrev pub fault_of : Cursor → ℕ → Reason → Fault
fault_of c at reason = record { start = (token_of c at).start; end = (token_of c at).end; reason = reason }

-- `==` is next, which is one token (WGSL: syntactic tokens)
abbrev pub IsEquality : Cursor → Type 0
IsEquality c =
    ((next_token c).kind ≡ kinds.Symbol 61) × ((next_token (advanced c)).kind ≡ kinds.Symbol 61)
    × ((next_token c).end ≡ (next_token (advanced c)).start)
