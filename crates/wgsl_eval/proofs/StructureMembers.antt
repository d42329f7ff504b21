-- The members of a structure, each in its type.
use Rattle.std.proofs.Common.{◌≡◌, ℕ, zero, suc, ◌+◌, ◌<◌, List, [], ◌∷◌, ◌++◌, length, get_or, take, map, Some, refl, arith, add-one}
use Rattle.std.proofs.lemmas.List.{map-append}
use Rattle.wgsl_rules.specs.Converted.{converted}
use Rattle.wgsl_rules.specs.Values.{Val}
use Rattle.wgsl_rules.specs.View.{member_view, members_view, type_view}
use Rattle.wgsl_rules.specs.declared.ty.StructMemberType.{StructMemberType}
use Rattle.wgsl_rules.proofs.Lists.{prepended-step}
use Rattle.wgsl_rules.proofs.lemmas.Views.{member-type}
use Rattle.wgsl_values.specs.View.{value_of}
use Rattle.wgsl_values.specs.declared.instance.Instance.{Instance}
use Rattle.wgsl_eval.specs.Constructors.{members_made}

members-step : (ms : List StructMemberType) (vs : List Instance) (i : ℕ) (m : StructMemberType) (d : Instance) (ws : List Val) (w : Val)
    → i < length vs → length vs ≡ length ms → members_made (members_view (take i ms)) (map value_of (take i vs)) ≡ Some ws
    → converted (value_of (get_or vs i d)) (type_view (get_or ms i m).ty) ≡ Some w
    → members_made (members_view (take (i + 1) ms)) (map value_of (take (i + 1) vs)) ≡ Some (ws ++ (w ∷ []))
members-step ms [] i m d ws w l e h k = absurd (omega arith)
members-step [] (v ∷ vs) i m d ws w l e h k = absurd (omega arith)
members-step (n ∷ ms) (v ∷ vs) zero m d ws w l e h k = let none : ws ≡ [] = cc in rw (member-type n, k, none) refl
members-step (n ∷ ms) (v ∷ vs) (suc i) m d ws w l e h k =
    rw add-one (prepended-step (converted (value_of v) (member_view n).ty)
    (members_made (members_view (take i ms)) (map value_of (take i vs)))
    (members_made (members_view (take (suc i) ms)) (map value_of (take (suc i) vs))) ws w h
    (λ rest p. let more = members-step ms vs i m d rest w (omega arith) (omega arith) p k in rw add-one at more))

pub members-push : (ms : List StructMemberType) (vs : List Instance) (i : ℕ) (m : StructMemberType) (d : Instance) (out : List Instance) (y : Instance)
    → i < length vs → length vs ≡ length ms → members_made (members_view (take i ms)) (map value_of (take i vs)) ≡ Some (map value_of out)
    → converted (value_of (get_or vs i d)) (type_view (get_or ms i m).ty) ≡ Some (value_of y)
    → members_made (members_view (take (i + 1) ms)) (map value_of (take (i + 1) vs)) ≡ Some (map value_of (out ++ (y ∷ [])))
members-push ms vs i m d out y l e h k =
    rw (map-append value_of out (y ∷ [])) (members-step ms vs i m d (map value_of out) (value_of y) l e h k)
