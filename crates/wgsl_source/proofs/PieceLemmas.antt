-- One piece more.
use Rattle.std.proofs.Common.{◌≡◌, ℕ, ◌+◌, ◌<◌, ◌≤◌, All, None, List, [], ◌∷◌, ◌++◌, length, slice_index, map, refl, subst, sym, ◌∙◌, ap, add-one, append-nil, Result, IfOk, arith}
use Rattle.std.proofs.lemmas.Grind.{common_steps}
use Rattle.std.proofs.lemmas.List.Elements.{All-weaker, All-push, filter_map-append}
use Rattle.std.proofs.lemmas.List.{map-append, length-map}
use Rattle.std.proofs.lemmas.Result.{IfOk-weaker}
use Rattle.std.specs.List.{cons_option}
use Rattle.wgsl_source.specs.Declarations.{IsRead}
use Rattle.wgsl_source.specs.Faults.{KeepsFaults}
use Rattle.wgsl_source.specs.Pieces.{Reach, Has, IsPiece, declaration_in, assertion_in, declarations_in, assertions_in, numbers}
use Rattle.wgsl_source.specs.Readings.{extent_in, fault_at}
use Rattle.wgsl_source.specs.declared.cursor.Cursor.{Cursor}
use Rattle.wgsl_source.specs.declared.declaration.Declaration.{Declaration as Declared}
use Rattle.wgsl_source.specs.declared.expression.Span.{Span}
use Rattle.wgsl_source.specs.declared.fault.Fault.{Fault}
use Rattle.wgsl_source.specs.declared.module.Extent.{Extent}
use Rattle.wgsl_source.specs.declared.piece.Piece.{Piece}
use Rattle.wgsl_source.specs.declared.piece.PieceKind.{PieceKind}
use Rattle.wgsl_source.specs.declared.piece.PieceKind.TheVariants.{Declaration, Assertion, Directive, Semicolon, Fault as Faulty}
use Rattle.wgsl_source.specs.declared.token.Token.{Token}
use Rattle.wgsl_source.proofs.FaultLemmas.{told_then}

reach-push : (from : ℕ) (ps : List Piece) (start end : ℕ) (kind : PieceKind) → Reach from ps start → start < end → Reach from (ps ++ record { start = start; end = end; kind = kind } ∷ []) end
reach-push from [] start end kind h more = (sym h, more, refl)
reach-push from (p ∷ ps) start end kind h more = (h.0, h.1, reach-push p.end ps start end kind h.2 more)

-- ---- what a piece has, it has with more names and faults

has-later : (text : List ℕ) (tokens : List Extent) (names more : List ℕ) (xs ys : List Fault) → KeepsFaults xs ys → (start end : ℕ) (kind : PieceKind) → Has text tokens names xs start end kind → Has text tokens (names ++ more) ys start end kind
has-later text tokens names more xs ys kept start end (Declaration number) h =
    let same : slice_index (names ++ more) number ≡ slice_index names number = grind (arith, common_steps, h.0) in
    (grind (arith, common_steps, h.0), subst (λ n. start ≤ n) (sym same) h.1, subst (λ n. n < end) (sym same) h.2)
has-later text tokens names more xs ys kept start end (Assertion number) h = h
has-later text tokens names more xs ys kept start end Directive h = h
has-later text tokens names more xs ys kept start end Semicolon h = h
has-later text tokens names more xs ys kept start end (Faulty token reason) h =
    (h.0, h.1, told_then xs ys (fault_at text tokens token reason) kept h.2)

pieces-later : (text : List ℕ) (tokens : List Extent) (names more : List ℕ) (xs ys : List Fault) → KeepsFaults xs ys → (ps : List Piece) → All (IsPiece text tokens names xs) ps → All (IsPiece text tokens (names ++ more) ys) ps
pieces-later text tokens names more xs ys kept ps h =
    All-weaker (IsPiece text tokens names xs) (IsPiece text tokens (names ++ more) ys) (λ p. has-later text tokens names more xs ys kept p.start p.end p.kind) ps h

pub no_less : (xs : List Fault) → KeepsFaults xs xs
no_less xs = (omega arith, λ fault h. h)

pub read-later : (c : Cursor) (ps : List Piece) (names : List ℕ) (n : ℕ) (xs ys : List Fault) (at : ℕ) → KeepsFaults xs ys → IsRead c ps names n xs at → IsRead c ps names n ys at
read-later c ps names n xs ys at kept read = record {
  reach = read.reach;
  declared = read.declared;
  asserted = read.asserted;
  told =
      subst (λ ns. All (IsPiece c.text.now (map extent_in c.tokens.now) ns ys) ps) (append-nil names)
      (pieces-later c.text.now (map extent_in c.tokens.now) names [] xs ys kept ps read.told);
}

-- ---- one more

pub read-declaration : (c : Cursor) (ps : List Piece) (names : List ℕ) (n : ℕ) (xs : List Fault) (start end name : ℕ) → IsRead c ps names n xs start → start ≤ name → name < end → IsRead c (ps ++ record { start = start; end = end; kind = Declaration (length names) } ∷ []) (names ++ name ∷ []) n xs end
read-declaration c ps names n xs start end name read low high =
    let p : Piece = record { start = start; end = end; kind = Declaration (length names) } in
    let text = c.text.now in
    let tokens = map extent_in c.tokens.now in
    let here : slice_index (names ++ name ∷ []) (length names) ≡ name = grind (arith, common_steps) in
    let longer : length (names ++ name ∷ []) ≡ length names + 1 = grind (arith, common_steps) in
    let within : length names < length (names ++ name ∷ []) = omega (arith, longer) in
    record {
      reach = reach-push 0 ps start end (Declaration (length names)) read.reach (omega arith);
      declared =
          filter_map-append (λ (q : Piece). declaration_in q.kind) ps (p ∷ [])
          ∙ ap (λ ns. ns ++ length names ∷ []) read.declared
          ∙ sym (ap numbers (longer ∙ add-one (length names)));
      asserted = filter_map-append (λ (q : Piece). assertion_in q.kind) ps (p ∷ []) ∙ append-nil (assertions_in ps) ∙ read.asserted;
      told =
          All-push (IsPiece text tokens (names ++ name ∷ []) xs) ps p (pieces-later text tokens names (name ∷ []) xs xs (no_less xs) ps read.told)
          (within, subst (λ n. start ≤ n) (sym here) low, subst (λ n. n < end) (sym here) high);
    }

pub read-assertion : (c : Cursor) (ps : List Piece) (names : List ℕ) (n : ℕ) (xs : List Fault) (start end : ℕ) → IsRead c ps names n xs start → start < end → IsRead c (ps ++ record { start = start; end = end; kind = Assertion n } ∷ []) names (n + 1) xs end
read-assertion c ps names n xs start end read more =
    let p : Piece = record { start = start; end = end; kind = Assertion n } in
    let text = c.text.now in
    let tokens = map extent_in c.tokens.now in
    record {
      reach = reach-push 0 ps start end (Assertion n) read.reach more;
      declared = filter_map-append (λ (q : Piece). declaration_in q.kind) ps (p ∷ []) ∙ append-nil (declarations_in ps) ∙ read.declared;
      asserted =
          filter_map-append (λ (q : Piece). assertion_in q.kind) ps (p ∷ [])
          ∙ ap (λ ns. ns ++ n ∷ []) read.asserted
          ∙ sym (ap numbers (add-one n));
      told = All-push (IsPiece text tokens names xs) ps p read.told tt;
    }

pub read-other : (c : Cursor) (ps : List Piece) (names : List ℕ) (n : ℕ) (xs : List Fault) (start end : ℕ) (kind : PieceKind) → IsRead c ps names n xs start → start < end → declaration_in kind ≡ None → assertion_in kind ≡ None → Has c.text.now (map extent_in c.tokens.now) names xs start end kind → IsRead c (ps ++ record { start = start; end = end; kind = kind } ∷ []) names n xs end
read-other c ps names n xs start end kind read more no_declaration no_assertion has =
    let p : Piece = record { start = start; end = end; kind = kind } in
    let text = c.text.now in
    let tokens = map extent_in c.tokens.now in
    record {
      reach = reach-push 0 ps start end kind read.reach more;
      declared =
          filter_map-append (λ (q : Piece). declaration_in q.kind) ps (p ∷ [])
          ∙ ap (λ o. declarations_in ps ++ cons_option o []) no_declaration
          ∙ append-nil (declarations_in ps) ∙ read.declared;
      asserted =
          filter_map-append (λ (q : Piece). assertion_in q.kind) ps (p ∷ [])
          ∙ ap (λ o. assertions_in ps ++ cons_option o []) no_assertion
          ∙ append-nil (assertions_in ps) ∙ read.asserted;
      told = All-push (IsPiece text tokens names xs) ps p read.told has;
    }

if_ok_then : {X Y : Type 0} {P Q : X → Type 0} (r : Result X Y) → IfOk r P → ((x : X) → P x → Q x) → IfOk r Q
if_ok_then {P = P} {Q = Q} r h f = IfOk-weaker r P Q f h

-- ---- what was read, with what was added to it

pub added-declaration : {E : Type 0} (r : Result ℕ E) (c : Cursor) (ps qs : List Piece) (ds es : List Declared) (us vs : List Span) (xs : List Fault) (start end : ℕ) (d : Declared) → IfOk r (λ e. (e ≡ end) × (es ≡ ds ++ d ∷ []) × (vs ≡ us) × (qs ≡ ps ++ record { start = start; end = end; kind = Declaration (length ds) } ∷ [])) → start ≤ d.name → d.name < end → IsRead c ps (map (λ (d : Declared). d.name) ds) (length us) xs start → IfOk r (λ e. IsRead c qs (map (λ (d : Declared). d.name) es) (length vs) xs e)
added-declaration r c ps qs ds es us vs xs start end d added low high read =
    if_ok_then r added (λ e h.
    let names = map (λ (d : Declared). d.name) ds in
    let P : ℕ → Type 0 = λ n. IsRead c (ps ++ record { start = start; end = end; kind = Declaration n } ∷ []) (names ++ d.name ∷ []) (length us) xs end in
    let more : P (length ds) = subst P (length-map ds (λ (d : Declared). d.name)) (read-declaration c ps names (length us) xs start end d.name read low high) in
    let Q : List ℕ → Type 0 = λ ns. IsRead c (ps ++ record { start = start; end = end; kind = Declaration (length ds) } ∷ []) ns (length us) xs end in
    let named : Q (map (λ (d : Declared). d.name) (ds ++ d ∷ [])) = subst Q (sym (map-append (λ (d : Declared). d.name) ds (d ∷ []))) more in
    rw (h.0, h.1, h.2, h.3) named)

pub added-assertion : {E : Type 0} (r : Result ℕ E) (c : Cursor) (ps qs : List Piece) (ds es : List Declared) (us vs : List Span) (xs : List Fault) (start end : ℕ) (a : Span) → IfOk r (λ e. (e ≡ end) × (es ≡ ds) × (vs ≡ us ++ a ∷ []) × (qs ≡ ps ++ record { start = start; end = end; kind = Assertion (length us) } ∷ [])) → start < end → IsRead c ps (map (λ (d : Declared). d.name) ds) (length us) xs start → IfOk r (λ e. IsRead c qs (map (λ (d : Declared). d.name) es) (length vs) xs e)
added-assertion r c ps qs ds es us vs xs start end a added more read =
    if_ok_then r added (λ e h.
    let longer : length (us ++ a ∷ []) ≡ length us + 1 = grind (arith, common_steps) in
    rw (h.0, h.1, h.2, h.3, longer) (read-assertion c ps (map (λ (d : Declared). d.name) ds) (length us) xs start end read more))

pub added-other : {E : Type 0} (r : Result ℕ E) (c : Cursor) (ps qs : List Piece) (ds es : List Declared) (us vs : List Span) (xs : List Fault) (start end : ℕ) (kind : PieceKind) → IfOk r (λ e. (e ≡ end) × (es ≡ ds) × (vs ≡ us) × (qs ≡ ps ++ record { start = start; end = end; kind = kind } ∷ [])) → start < end → declaration_in kind ≡ None → assertion_in kind ≡ None → Has c.text.now (map extent_in c.tokens.now) (map (λ (d : Declared). d.name) ds) xs start end kind → IsRead c ps (map (λ (d : Declared). d.name) ds) (length us) xs start → IfOk r (λ e. IsRead c qs (map (λ (d : Declared). d.name) es) (length vs) xs e)
added-other r c ps qs ds es us vs xs start end kind added more no_declaration no_assertion has read =
    if_ok_then r added (λ e h.
    rw (h.0, h.1, h.2, h.3) (read-other c ps (map (λ (d : Declared). d.name) ds) (length us) xs start end kind read more no_declaration no_assertion has))

-- ---- what is shown

pub shown_pieces : (c : Cursor) (text : List ℕ) (tokens : List Token) (ps : List Piece) (names : List ℕ) (n : ℕ) (xs ys : List Fault) (at : ℕ) → c.text.now ≡ text → c.tokens.now ≡ tokens → KeepsFaults xs ys → IsRead c ps names n xs at → All (IsPiece text (map extent_in tokens) names ys) ps
shown_pieces c text tokens ps names n xs ys at same alike kept read =
    let P : List ℕ → Type 0 = λ t. All (IsPiece t (map extent_in c.tokens.now) names ys) ps in
    let Q : List Token → Type 0 = λ ts. All (IsPiece text (map extent_in ts) names ys) ps in
    let later = read-later c ps names n xs ys at kept read in
    subst Q alike (subst P same later.told)
