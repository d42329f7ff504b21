-- What is no name is told.
use Rattle.std.proofs.Common.{◌≡◌, ℕ, ◌+◌, ◌<◌, All, IfSome, Option, Some, None, List, length, map, take, get_or, subst, sym, ◌∙◌, ap}
use Rattle.std.proofs.lemmas.List.Elements.{All-weaker, All-more}
use Rattle.std.proofs.lemmas.Option.{IfSome_then}
use Rattle.wgsl_source.specs.Cursors.{text_of, fault_of}
use Rattle.wgsl_source.specs.Faults.{IsTold, KeepsFaults}
use Rattle.wgsl_source.specs.Identifiers.{IsNameOrTold, why_no_name}
use Rattle.wgsl_source.specs.Readings.{extent_in, word_of, fault_at}
use Rattle.wgsl_source.specs.declared.cursor.Cursor.{Cursor}
use Rattle.wgsl_source.specs.declared.fault.Fault.{Fault}
use Rattle.wgsl_source.specs.declared.fault.Reason.{Reason}
use Rattle.wgsl_source.specs.declared.module.Extent.{Extent}
use Rattle.wgsl_source.specs.declared.token.Token.{Token}
use Rattle.wgsl_source.proofs.FaultLemmas.{told_then}
use Rattle.wgsl_source.proofs.ReadingLemmas.{word_of-token, extent_of-token}

pub fault_at-token : (c : Cursor) (at : ℕ) (reason : Reason) → fault_at c.text.now (map extent_in c.tokens.now) at reason ≡ fault_of c at reason
fault_at-token c at reason = ap (λ (e : Extent). let f : Fault = record { start = e.start; end = e.end; reason = reason } in f) (extent_of-token c at)

pub told_name : (c : Cursor) (name : ℕ) (faults : List Fault) (word : List ℕ) (found : Option Reason) (reason : Reason) → word ≡ text_of c name → found ≡ why_no_name word → found ≡ Some reason → IsTold faults (fault_of c name reason) → IsNameOrTold c.text.now (map extent_in c.tokens.now) faults name
told_name c name faults word found reason same is some told =
    let P : Option Reason → Type 0 = λ o. IfSome o (λ r. IsTold faults (fault_at c.text.now (map extent_in c.tokens.now) name r)) in
    let e : why_no_name (word_of c.text.now (map extent_in c.tokens.now) name) ≡ Some reason = ap why_no_name (word_of-token c name ∙ sym same) ∙ sym is ∙ some in
    subst P (sym e) (subst (IsTold faults) (sym (fault_at-token c name reason)) told)

pub right_name : (c : Cursor) (name : ℕ) (faults : List Fault) (word : List ℕ) (found : Option Reason) → word ≡ text_of c name → found ≡ why_no_name word → found ≡ None → IsNameOrTold c.text.now (map extent_in c.tokens.now) faults name
right_name c name faults word found same is none =
    let P : Option Reason → Type 0 = λ o. IfSome o (λ r. IsTold faults (fault_at c.text.now (map extent_in c.tokens.now) name r)) in
    let e : why_no_name (word_of c.text.now (map extent_in c.tokens.now) name) ≡ None = ap why_no_name (word_of-token c name ∙ sym same) ∙ sym is ∙ none in
    subst P (sym e) tt

pub names_then : {X : Type 0} (name : X → ℕ) (text : List ℕ) (tokens : List Extent) (xs ys : List Fault) → KeepsFaults xs ys → (all : List X) → All (λ x. IsNameOrTold text tokens xs (name x)) all → All (λ x. IsNameOrTold text tokens ys (name x)) all
names_then name text tokens xs ys kept all told =
    All-weaker (λ x. IsNameOrTold text tokens xs (name x)) (λ x. IsNameOrTold text tokens ys (name x))
    (λ x h. IfSome_then (why_no_name (word_of text tokens (name x))) h (λ reason. told_then xs ys (fault_at text tokens (name x) reason) kept)) all told

pub one_name_more : {X : Type 0} (name : X → ℕ) (text : List ℕ) (tokens : List Extent) (xs ys : List Fault) (all : List X) (i : ℕ) (d : X) → KeepsFaults xs ys → i < length all → All (λ x. IsNameOrTold text tokens xs (name x)) (take i all) → IsNameOrTold text tokens ys (name (get_or all i d)) → All (λ x. IsNameOrTold text tokens ys (name x)) (take (i + 1) all)
one_name_more name text tokens xs ys all i d kept within told here =
    All-more (λ x. IsNameOrTold text tokens ys (name x)) all i d within (names_then name text tokens xs ys kept (take i all) told) here

pub shown_names : {X : Type 0} (name : X → ℕ) (c : Cursor) (text : List ℕ) (tokens : List Token) (xs ys : List Fault) (all : List X) → c.text.now ≡ text → c.tokens.now ≡ tokens → KeepsFaults xs ys → All (λ x. IsNameOrTold c.text.now (map extent_in c.tokens.now) xs (name x)) all → All (λ x. IsNameOrTold text (map extent_in tokens) ys (name x)) all
shown_names {X} name c text tokens xs ys all same alike kept told =
    let P : List ℕ → Type 0 = λ t. All (λ (x : X). IsNameOrTold t (map extent_in c.tokens.now) ys (name x)) all in
    let Q : List Token → Type 0 = λ ts. All (λ (x : X). IsNameOrTold text (map extent_in ts) ys (name x)) all in
    subst Q alike (subst P same (names_then name c.text.now (map extent_in c.tokens.now) xs ys kept all told))
