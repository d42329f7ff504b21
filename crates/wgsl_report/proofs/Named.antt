-- Declarations of a name that are of a type.
use Rattle.std.proofs.Common.{◌≡◌, ◌⊎◌, ◌-◌, ℕ, List, [], ◌∷◌, ◌++◌, Option, Some, None, Result, Ok, Err, IfOk, IfSome, MatchOption, Bool, true, length, slice_get, string_bytes, unwrap_or, inl, inr, refl, ap, sym, ◌∙◌, arith}
use Rattle.std.proofs.lemmas.List.{length_push}
use Rattle.std.specs.Prelude.{⊤}
use Rattle.wgsl_rules.specs.Types.{Ty}
use Rattle.wgsl_rules.specs.View.{type_view}
use Rattle.wgsl_nodes.specs.declared.nodes.Node.{Node}
use Rattle.std.proofs.lemmas.Slice.Eq.{bytes_eq-Decides}
use Rattle.std.specs.Str.{bytes_eq}
use Rattle.wgsl_source.specs.Readings.{Outline}
use Rattle.wgsl_eval.specs.Evaluated.{IsEvaluatedWith}
use Rattle.wgsl_eval.specs.declared.declarations.Item.{Item}
use Rattle.wgsl_eval.specs.declared.evaluation.Evaluated.{Evaluated}
use Rattle.wgsl_eval.specs.declared.evaluation.Evaluation.{Evaluation}
use Rattle.wgsl_eval.specs.declared.evaluation.Outcome.{Outcome}
use Rattle.wgsl_eval.specs.declared.given.Given.{Given}
use Rattle.wgsl_eval.specs.declared.settings.Settings.{Settings}
use Rattle.wgsl_report.specs.Records.{AreNodesOf, IfType, IsLast, IsLayoutOf, IsOfName}
use Rattle.wgsl_report.specs.Scopes.{IsLastValue, IsOutcomeOf, IsReadingOf, with_constant}
use Rattle.wgsl_report.specs.declared.records.Found.{Found}
use Rattle.wgsl_report.specs.declared.records.Found.TheVariants as founds
use Rattle.wgsl_report.specs.declared.records.Records.{Records}

-- the text of a name is compared with another
pub name-is : (text word name : List ℕ) (found : Bool) → found ≡ bytes_eq text name → found ≡ true → text ≡ word → word ≡ name
name-is text word name found is equal same = sym same ∙ (bytes_eq-Decides text name).0 (sym is ∙ equal)

pub last-of : (f : Found) (name : List ℕ) (items : List Item) (item : Item) → slice_get items (length items - 1) ≡ Some item → string_bytes item.name ≡ name
    → IfType f (λ t. IsOfName t item.kind) → IfType f (λ t. IsLast name t items)
last-of (founds.Type ty) name items item there named typed = record { item = item; there = there; named = named; typed = typed }
last-of founds.Faulty name items item there named typed = tt
last-of founds.Skipped name items item there named typed = tt

-- one of two
pub either-of : (P Q : Ty → Type 0) (first : Option Found) (last found : Found) → found ≡ unwrap_or first last → IfSome first (λ f. IfType f P) → IfType last Q
    → IfType found (λ t. P t ⊎ Q t)
either-of P Q (Some (founds.Type ty)) last found is h l = rw is (inl h)
either-of P Q (Some founds.Faulty) last found is h l = rw is tt
either-of P Q (Some founds.Skipped) last found is h l = rw is tt
either-of P Q None (founds.Type ty) found is h l = rw is (inr l)
either-of P Q None founds.Faulty found is h l = rw is tt
either-of P Q None founds.Skipped found is h l = rw is tt

-- records that are there are those of the type that was found
pub laid-out : (P : Ty → Type 0) (found : Found) (nodes : List Node) → IfType found P → AreNodesOf found nodes → (t : Ty) × P t × IsLayoutOf t nodes
laid-out P (founds.Type ty) nodes typed is = (type_view ty.now, typed, is)
laid-out P founds.Faulty nodes typed is = absurd is
laid-out P founds.Skipped nodes typed is = absurd is

pub if-type : (P Q : Ty → Type 0) (found : Found) → ((t : Ty) → P t → Q t) → IfType found P → IfType found Q
if-type P Q (founds.Type ty) f h = f (type_view ty.now) h
if-type P Q founds.Faulty f h = tt
if-type P Q founds.Skipped f h = tt

pub records-of : {E : Type 0} (P : Ty → Type 0) (found : Found) (result : Result Records E) → IfType found P → IfOk result (λ r. MatchOption r.nodes ⊤ (λ nodes. AreNodesOf found nodes.items))
    → IfOk result (λ r. MatchOption r.nodes ⊤ (λ nodes. (t : Ty) × P t × IsLayoutOf t nodes.items))
records-of P found (Ok r) typed h = of-nodes (λ nodes. nodes.items) r.nodes h
  where
    of-nodes : {A : Type 0} (items : A → List Node) (o : Option A) → MatchOption o ⊤ (λ n. AreNodesOf found (items n))
        → MatchOption o ⊤ (λ n. (t : Ty) × P t × IsLayoutOf t (items n))
    of-nodes items (Some n) h = laid-out P found (items n) typed h
    of-nodes items None h = tt
records-of P found (Err e) typed h = tt

-- ---- values

at-end : (front : List Evaluated) (v : Evaluated) → slice_get (front ++ v ∷ []) (length front) ≡ Some v
at-end [] v = refl
at-end (x ∷ xs) v = at-end xs v

pub end-of : (front all : List Evaluated) (v : Evaluated) → all ≡ front ++ v ∷ [] → slice_get all (length all - 1) ≡ Some v
end-of front all v is =
    let long : length all - 1 ≡ length front = omega (arith, ap length is, length_push front v) in
    ap (slice_get all) long ∙ ap (λ (vs : List Evaluated). slice_get vs (length front)) is ∙ at-end front v

pub outcome-of : (source text name : List ℕ) (settings : Settings) (outline : Outline) (given : List Given) (found : Evaluation) (o : Option Outcome)
    → IsReadingOf (with_constant source name text) outline → IsEvaluatedWith outline given settings found → IfSome o (IsLastValue outline name found.values.items)
    → IfSome o (IsOutcomeOf source text settings)
outcome-of source text name settings outline given found (Some o) reads evaluated last = record {
  name = name;
  outline = outline;
  reads = reads;
  given = given;
  found = found;
  evaluated = evaluated;
  last = last;
}
outcome-of source text name settings outline given found None reads evaluated last = tt
