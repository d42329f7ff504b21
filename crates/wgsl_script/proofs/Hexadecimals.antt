-- Bytes as hexadecimal digits: those that are left behind a first part, and single digits.
use Rattle.std.proofs.Common.{◌≡◌, ◌≢◌, ◌<◌, ◌≤◌, ℕ, suc, List, [], ◌∷◌, ◌++◌, length, get_or, drop, map, All, refl, sym, append_assoc, arith}
use Rattle.std.specs.Char.{to_ascii_lowercase}
use Rattle.wgsl_script.specs.Hexadecimal.{digits_of, hexadecimal}

all_tail : (b : ℕ) (bs : List ℕ) → All (λ b. b < 256) (b ∷ bs) → All (λ b. b < 256) bs
all_tail b bs all k d h = all (suc k) d (omega arith)

-- what is left behind the digits of some bytes is that of the bytes left
pub left : (bytes some rest : List ℕ) → All (λ b. b < 256) bytes → hexadecimal bytes ≡ hexadecimal some ++ rest → (more : List ℕ) × All (λ b. b < 256) more × (rest ≡ hexadecimal more)
left bytes [] rest all e = (bytes, all, sym e)
left [] (b ∷ some) rest all e = let h : [] ≡ hexadecimal (b ∷ some) ++ rest = e in cc
left (c ∷ bytes) (b ∷ some) rest all e =
    let behind : hexadecimal bytes ≡ hexadecimal some ++ rest = cc in
    left bytes some rest (all_tail c bytes all) behind

-- two digits that write no byte
pub no_pair : (high low : ℕ) (rest more : List ℕ) → All (λ b. b < 256) more → ((b : ℕ) → b < 256 → high ∷ low ∷ [] ≢ digits_of b) → high ∷ low ∷ rest ≢ hexadecimal more
no_pair high low rest [] all none e = cc
no_pair high low rest (b ∷ more) all none e = none b (all 0 0 (omega arith)) (cc)

-- a digit alone
pub no_single : (digit : ℕ) (more : List ℕ) → digit ∷ [] ≢ hexadecimal more
no_single digit [] e = cc
no_single digit (b ∷ more) e = cc

-- two digits in either case that write no byte
pub bad_pair : (digits more : List ℕ) → 2 ≤ length digits → All (λ b. b < 256) more → ((b : ℕ) → b < 256 → to_ascii_lowercase (get_or digits 0 0) ∷ to_ascii_lowercase (get_or digits 1 0) ∷ [] ≢ digits_of b) → map to_ascii_lowercase digits ≢ hexadecimal more
bad_pair [] more long all none e = absurd (omega arith)
bad_pair (high ∷ []) more long all none e = absurd (omega arith)
bad_pair (high ∷ low ∷ rest) more long all none e = no_pair (to_ascii_lowercase high) (to_ascii_lowercase low) (map to_ascii_lowercase rest) more all none e

pub bad_single : (digits more : List ℕ) → length digits < 2 → length digits ≢ 0 → map to_ascii_lowercase digits ≢ hexadecimal more
bad_single [] more short some e = absurd (some refl)
bad_single (digit ∷ []) more short some e = no_single (to_ascii_lowercase digit) more e
bad_single (high ∷ low ∷ rest) more short some e = absurd (omega arith)

-- one byte more
pub hexadecimal-push : (bytes : List ℕ) (byte : ℕ) → hexadecimal (bytes ++ byte ∷ []) ≡ hexadecimal bytes ++ digits_of byte
hexadecimal-push [] byte = refl
hexadecimal-push (b ∷ bytes) byte = rw (hexadecimal-push bytes byte)

pub one_more : (digits bytes : List ℕ) (byte : ℕ) → 2 ≤ length digits → to_ascii_lowercase (get_or digits 0 0) ∷ to_ascii_lowercase (get_or digits 1 0) ∷ [] ≡ digits_of byte → hexadecimal bytes ++ map to_ascii_lowercase digits ≡ hexadecimal (bytes ++ byte ∷ []) ++ map to_ascii_lowercase (drop 2 digits)
one_more [] bytes byte long is = absurd (omega arith)
one_more (high ∷ []) bytes byte long is = absurd (omega arith)
one_more (high ∷ low ∷ rest) bytes byte long is =
    rw hexadecimal-push (rw (← is) (sym (append_assoc (hexadecimal bytes) (to_ascii_lowercase high ∷ to_ascii_lowercase low ∷ []) (map to_ascii_lowercase rest))))
