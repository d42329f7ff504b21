-- Where a word stands, and what is read up to a `;`.
use Rattle.std.proofs.Common.{◌≡◌, ℕ, ◌+◌, ◌-◌, ◌<◌, ◌≤◌, max, min, subst, sym, List, [], Contains, codes, length, map, ◌⊎◌, inl, inr, ◌∙◌, ap, unwrap_or, arith}
use Rattle.std.proofs.lemmas.Bool.{cases_lt}
use Rattle.std.proofs.lemmas.Grind.{common_steps}
use Rattle.std.proofs.lemmas.Option.{slice_get_past}
use Rattle.wgsl_source.specs.Cursors.{text_of}
use Rattle.wgsl_source.specs.Cuts.{cut_of}
use Rattle.wgsl_source.specs.Identifiers.{is_one_of}
use Rattle.wgsl_source.specs.Pieces.{IsParted, directives, no_parts}
use Rattle.wgsl_source.specs.Readings.{extent_in, word_of}
use Rattle.wgsl_source.specs.declared.cursor.Cursor.{Cursor}
use Rattle.wgsl_source.specs.declared.token.Token.{Token}
use Rattle.wgsl_source.specs.declared.token.TokenKind.TheVariants as kinds
use Rattle.wgsl_source.proofs.ReadingLemmas.{word_of-token}

nothing_at_end : (text : List ℕ) → cut_of text (length text) (length text) ≡ []
nothing_at_end text = grind (arith, common_steps)

no_word_behind : (c : Cursor) (at : ℕ) → length c.tokens.now ≤ at → text_of c at ≡ []
no_word_behind c at past =
    let end : Token = record { kind = kinds.End; start = length c.text.now; end = length c.text.now } in
    ap (λ o. cut_of c.text.now (unwrap_or o end).start (unwrap_or o end).end) (slice_get_past c.tokens.now at past) ∙ nothing_at_end c.text.now

within_or : (c : Cursor) (at : ℕ) → 0 < length (text_of c at) → (at < length c.tokens.now) ⊎ (length c.tokens.now ≤ at) → at < length c.tokens.now
within_or c at some (inl less) = less
within_or c at some (inr past) = omega (arith, some, ap (λ (w : List ℕ). length w) (no_word_behind c at past))

-- a word that is not empty is that of a token
pub word_within : (c : Cursor) (at : ℕ) → 0 < length (text_of c at) → at < length c.tokens.now
word_within c at some = within_or c at some (cases_lt at (length c.tokens.now))

-- ---- what holds between two places

one_of_them : (P : ℕ → Type 0) (low at : ℕ) → ((t : ℕ) → low < t → t < at → P t) → P at → (t : ℕ) → low < t → t < at + 1 → (t < at) ⊎ (at ≤ t) → P t
one_of_them P low at before here t above below (inl less) = before t above less
one_of_them P low at before here t above below (inr past) =
    let same : at ≡ t = omega (arith, past, below) in subst P same here

pub one_more : (P : ℕ → Type 0) (low at : ℕ) → ((t : ℕ) → low < t → t < at → P t) → P at → (t : ℕ) → low < t → t < at + 1 → P t
one_more P low at before here t above below = one_of_them P low at before here t above below (cases_lt t at)

-- ---- a directive that is read is a piece

pub directive_piece : (c : Cursor) (start read end : ℕ) → Contains directives (text_of c start) → IsParted (text_of c) start read → read ≤ length c.tokens.now → end ≡ max (min read (length c.tokens.now)) (start + 1) → Contains directives (word_of c.text.now (map extent_in c.tokens.now) start) × IsParted (word_of c.text.now (map extent_in c.tokens.now)) start end
directive_piece c start read end begins parted within is =
    let same : end ≡ read = omega (arith, is, parted.long, within) in
    let last : end - 1 ≡ read - 1 = omega (arith, same) in (
      subst (λ w. Contains directives w) (sym (word_of-token c start)) begins,
      record {
        long = omega (arith, same, parted.long);
        parts = λ token above below. ap (is_one_of no_parts) (word_of-token c token) ∙ parted.parts token above (omega (arith, below, same));
        ends = word_of-token c (end - 1) ∙ ap (text_of c) last ∙ parted.ends;
      },
    )

pub directive_word : (w v : List ℕ) → w ≡ v → (w ≡ codes "enable") ⊎ ((w ≡ codes "requires") ⊎ (w ≡ codes "diagnostic")) → Contains directives v
directive_word w v same (inl e) = (0, omega arith, sym e ∙ same)
directive_word w v same (inr (inl e)) = (1, omega arith, sym e ∙ same)
directive_word w v same (inr (inr e)) = (2, omega arith, sym e ∙ same)
