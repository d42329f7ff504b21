-- The declarations among pieces, one piece more.
use Rattle.std.proofs.Common.{◌≡◌, ℕ, ◌+◌, ◌<◌, Option, Some, None, List, [], ◌∷◌, ◌++◌, length, map, take, get_or, refl, ◌∙◌, ap, subst, sym}
use Rattle.std.proofs.lemmas.List.{append-nil, map-append, take_more}
use Rattle.std.proofs.lemmas.List.Elements.{filter_map-append}
use Rattle.std.proofs.lemmas.Slice.Zip.{all_zipped_more}
use Rattle.std.specs.List.{AllZip, cons_option}
use Rattle.std.specs.Option.{option_map}
use Rattle.wgsl_source.specs.Pieces.{declaration_in}
use Rattle.wgsl_source.specs.Readings.{Outline}
use Rattle.wgsl_source.specs.Uses.{AreUses, AreUsesOf, ending_in, endings}
use Rattle.wgsl_source.specs.declared.piece.Piece.{Piece}
use Rattle.wgsl_source.specs.declared.piece.PieceKind.{PieceKind}
use Rattle.wgsl_source.specs.declared.piece.PieceKind.TheVariants.{Declaration, Assertion, Directive, Semicolon, Fault as Faulty}

abbrev ending_of : ℕ → PieceKind → Option (ℕ × ℕ)
ending_of end kind = option_map (λ (number : ℕ). (number, end)) (declaration_in kind)

none_declared : (end : ℕ) (k : PieceKind) → ((n : ℕ) → k ≡ Declaration n → ⊥) → ending_of end k ≡ None
none_declared end (Declaration n) not = absurd (not n refl)
none_declared end (Assertion n) not = refl
none_declared end Directive not = refl
none_declared end Semicolon not = refl
none_declared end (Faulty token reason) not = refl

abbrev added : Option (ℕ × ℕ) → List (ℕ × ℕ)
added e = cons_option e []

-- a declaration more
pub ending_declared : (ps : List Piece) (p : Piece) (n : ℕ) → p.kind ≡ Declaration n → endings (ps ++ p ∷ []) ≡ endings ps ++ (n, p.end) ∷ []
ending_declared ps p n is =
    filter_map-append ending_in ps (p ∷ []) ∙ ap (λ (k : PieceKind). endings ps ++ added (ending_of p.end k)) is

-- another piece more
pub ending_other : (ps : List Piece) (p : Piece) → ((n : ℕ) → p.kind ≡ Declaration n → ⊥) → endings (ps ++ p ∷ []) ≡ endings ps
ending_other ps p not =
    filter_map-append ending_in ps (p ∷ [])
    ∙ (ap (λ (e : Option (ℕ × ℕ)). endings ps ++ added e) (none_declared p.end p.kind not) ∙ append-nil (endings ps))

-- the uses of a declaration more
pub uses_more : {L : Type 0} (items : L → List ℕ) (o : Outline) (all : List Piece) (i : ℕ) (d : Piece) (n : ℕ) (lists more : List L) (list : L) → i < length all
    → (get_or all i d).kind ≡ Declaration n → more ≡ lists ++ list ∷ [] → AreUses o n (get_or all i d).end (items list) → AreUsesOf o (endings (take i all)) (map items lists)
    → AreUsesOf o (endings (take (i + 1) all)) (map items more)
uses_more items o all i d n lists more list within kind pushed uses before =
    let p : Piece = get_or all i d in
    let R : ℕ × ℕ → List ℕ → Type 0 = λ d us. AreUses o d.0 d.1 us in
    let P : List (ℕ × ℕ) → Type 0 = λ ds. AllZip R ds (map items lists ++ items list ∷ []) in
    let Q : List (List ℕ) → Type 0 = λ xs. AllZip R (endings (take (i + 1) all)) xs in
    let longer : take (i + 1) all ≡ take i all ++ p ∷ [] = take_more all i d within in
    let ends : endings (take (i + 1) all) ≡ endings (take i all) ++ (n, p.end) ∷ [] = ap endings longer ∙ ending_declared (take i all) p n kind in
    let mapped : map items more ≡ map items lists ++ items list ∷ [] = ap (map items) pushed ∙ map-append items lists (list ∷ []) in
    subst Q (sym mapped) (subst P (sym ends) (all_zipped_more R (endings (take i all)) (map items lists) (n, p.end) (items list) before uses))

-- another piece more
pub uses_same : (o : Outline) (all : List Piece) (i : ℕ) (d : Piece) (lists : List (List ℕ)) → i < length all → ((n : ℕ) → (get_or all i d).kind ≡ Declaration n → ⊥)
    → AreUsesOf o (endings (take i all)) lists → AreUsesOf o (endings (take (i + 1) all)) lists
uses_same o all i d lists within not before =
    let p : Piece = get_or all i d in
    let P : List (ℕ × ℕ) → Type 0 = λ ds. AreUsesOf o ds lists in
    let longer : take (i + 1) all ≡ take i all ++ p ∷ [] = take_more all i d within in
    let ends : endings (take (i + 1) all) ≡ endings (take i all) = ap endings longer ∙ ending_other (take i all) p not in
    subst P (sym ends) before
