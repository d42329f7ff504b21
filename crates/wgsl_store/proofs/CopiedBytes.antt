-- The bytes of cells after a copy: those in one range, written over those in another.
use Rattle.std.proofs.Common.{◌≡◌, List, slice_get, Option, Some, None, Ok, Err, refl, sym, ap, ◌∙◌, subst}
use Rattle.std.specs.Prelude.{IsSomeAnd}
use Rattle.wgsl_rules.specs.Paths.{put_viewed, viewed}
use Rattle.wgsl_rules.specs.Refusals.{Outcome, and_then}
use Rattle.wgsl_rules.specs.Values.{Val}
use Rattle.wgsl_layout.specs.Buffers.{buffer}
use Rattle.wgsl_store.specs.Memory.{held, at_position}
use Rattle.wgsl_store.specs.MemoryLaws.{ACopyOverwritesItsRange, HasNewBytes}
use Rattle.wgsl_layout.specs.Ranges.{bytes_in, overwritten}
use Rattle.wgsl_store.specs.ReferenceCalls.{read, written}
use Rattle.wgsl_store.proofs.CopiedCells.{held-is}
use Rattle.wgsl_layout.proofs.Copies.{copied-in-place}
use Rattle.wgsl_layout.proofs.HeldBytes.{part-bytes}
use Rattle.wgsl_store.proofs.lemmas.Held.{held-value, sound-at}
use Rattle.wgsl_store.proofs.lemmas.Writes.{at-own, read-holds, write-is}
use Rattle.wgsl_store.proofs.lemmas.WritesApart.{at-other}

some-and : (P : Val → Type 0) (o : Option Val) (x : Val) → o ≡ Some x → P x → IsSomeAnd o P
some-and P None x e p = absurd (cc)
some-and P (Some y) x e p = let same : x ≡ y = cc in subst P same p

pub copy-overwrites : ACopyOverwritesItsRange
copy-overwrites cells after q r u v from to s e a b = by (read (held cells) q) refl e
  where
    made : (w : Val) → read (held cells) q ≡ Ok w → written cells r w ≡ Ok after → HasNewBytes cells after r.cell (overwritten (buffer v) to.start (bytes_in (buffer u) from))
    made w is put =
        let has = read-holds cells q w is in
        let write = write-is cells after r w put in
        let source : viewed q.view u ≡ Ok w = sym (held-is cells q u a.there) ∙ has in
        let target : viewed r.view v ≡ Ok write.old = sym (held-is cells r v b.there) ∙ write.is.holds in
        let storable = held-value cells q w s has in
        let own = sound-at cells cells q.cell u s a.there in
        let other = sound-at cells cells r.cell v s b.there in
        let bytes = part-bytes u w q.view from own.0 a.laid source a.leads in
        let done = copied-in-place v w write.old r.view to other.0 b.laid storable.0 target write.is.fit b.leads in
        subst (λ (cs : List Val). HasNewBytes cells cs r.cell (overwritten (buffer v) to.start (bytes_in (buffer u) from))) write.put (record {
          here = some-and (λ x. buffer x ≡ overwritten (buffer v) to.start (bytes_in (buffer u) from)) (slice_get (at_position r.cell (put_viewed r.view w) cells) r.cell) (put_viewed r.view w v) (at-own cells r.cell (put_viewed r.view w) v b.there)
              (sym done.its_bytes ∙ ap (overwritten (buffer v) to.start) (sym bytes));
          elsewhere = λ k n. at-other cells r.cell k (put_viewed r.view w) n;
        })

    by : (o : Outcome Val) → read (held cells) q ≡ o → and_then o (written cells r) ≡ Ok after → HasNewBytes cells after r.cell (overwritten (buffer v) to.start (bytes_in (buffer u) from))
    by (Ok w) is e = made w is e
    by (Err f) is e = absurd (cc)
