-- Names are no part of a layout.
use Rattle.std.proofs.Common.{◌≡◌, ℕ, zero, suc, ◌+◌, ◌≤◌, List, [], ◌∷◌, slice_get, slice_set, Option, Some, None, option_map, refl, sym, ap, ◌∙◌, subst}
use Rattle.std.proofs.lemmas.Option.{same_Some}
use Rattle.wgsl_rules.specs.Types.{Ty, struct, array, vec, mat, Fields, no_fields, field}
use Rattle.wgsl_rules.specs.Size.{extent_in, offset_after, end_after}
use Rattle.wgsl_rules.specs.Layout.{amount}
use Rattle.wgsl_nodes.specs.Names.{AreRenamed, unnamed}
use Rattle.wgsl_nodes.specs.Nodes.{Says, Stands, LeadsTo, MembersStand, IsNodeOf, members_in}
use Rattle.wgsl_nodes.specs.declared.nodes.Node.{Node}

-- the record that stands there now
record Renamed (now : List Node) (k : ℕ) (r : Node) : Type 0 where
  pub node : Node
  pub there : slice_get now k ≡ Some node
  pub same : unnamed node ≡ unnamed r

of-option : (o : Option Node) (now : List Node) (k : ℕ) (r : Node) → slice_get now k ≡ o → option_map unnamed o ≡ Some (unnamed r) → Renamed now k r
of-option None now k r e h = absurd (cc)
of-option (Some n) now k r e h = record { node = n; there = e; same = same_Some (unnamed n) (unnamed r) h }

renamed-at : (nodes now : List Node) (k : ℕ) (r : Node) → AreRenamed nodes now → slice_get nodes k ≡ Some r → Renamed now k r
renamed-at nodes now k r h there =
    of-option (slice_get now k) now k r refl (h k ∙ ap (λ (o : Option Node). option_map unnamed o) there)

says-renamed : (n r : Node) (t : Ty) → unnamed n ≡ unnamed r → Says r t → Says n t
says-renamed n r t e s = record {
  sort = ap (λ (x : Node). x.sort) e ∙ s.sort;
  kind = ap (λ (x : Node). x.kind) e ∙ s.kind;
  size = ap (λ (x : Node). x.size) e ∙ s.size;
  align = ap (λ (x : Node). x.align) e ∙ s.align;
  count = ap (λ (x : Node). x.count) e ∙ s.count;
  stride = ap (λ (x : Node). x.stride) e ∙ s.stride;
  tail_start = ap (λ (x : Node). x.tail_start) e ∙ s.tail_start;
  tail_stride = ap (λ (x : Node). x.tail_stride) e ∙ s.tail_stride;
}

stands-renamed : (nodes now : List Node) (number offset : ℕ) (t : Ty) (P Q : ℕ → Type 0) → AreRenamed nodes now → ((c : ℕ) → P c → Q c)
    → Stands nodes number offset t P → Stands now number offset t Q
stands-renamed nodes now number offset t P Q h f s =
    let new = renamed-at nodes now number s.node h s.there in
    record {
      node = new.node;
      there = new.there;
      offset_is = ap (λ (x : Node). x.offset) new.same ∙ s.offset_is;
      says = says-renamed new.node s.node t new.same s.says;
      leads = subst Q (sym (ap (λ (x : Node). x.child) new.same)) (f s.node.child s.leads);
    }

mutual
  pub leads-renamed : (nodes now : List Node) (low child : ℕ) (t : Ty) → AreRenamed nodes now → LeadsTo nodes low child t → LeadsTo now low child t
  leads-renamed nodes now low child (vec n t) h l = (
    l.0,
    stands-renamed nodes now child 0 t (λ c. LeadsTo nodes (child + 1) c t) (λ c. LeadsTo now (child + 1) c t) h
        (λ c m. leads-renamed nodes now (child + 1) c t h m) l.1,
  )
  leads-renamed nodes now low child (mat c r t) h l = (
    l.0,
    stands-renamed nodes now child 0 (vec r t)
        (λ k. (child + 1 ≤ k) × Stands nodes k 0 t (λ i. LeadsTo nodes (k + 1) i t)) (λ k. (child + 1 ≤ k) × Stands now k 0 t (λ i. LeadsTo now (k + 1) i t)) h
        (λ k m. (
          m.0,
          stands-renamed nodes now k 0 t (λ i. LeadsTo nodes (k + 1) i t) (λ i. LeadsTo now (k + 1) i t) h
              (λ i d. leads-renamed nodes now (k + 1) i t h d) m.1,
        )) l.1,
  )
  leads-renamed nodes now low child (array t n) h l = (
    l.0,
    stands-renamed nodes now child 0 t (λ c. LeadsTo nodes (child + 1) c t) (λ c. LeadsTo now (child + 1) c t) h
        (λ c m. leads-renamed nodes now (child + 1) c t h m) l.1,
  )
  leads-renamed nodes now low child (struct name fs) h l =
      (l.0, members-renamed nodes now (child + members_in fs) child (Some 0) fs h l.1)
  leads-renamed nodes now low child t h l = l

  members-renamed : (nodes now : List Node) (low number : ℕ) (from : Option ℕ) (fs : Fields) → AreRenamed nodes now
      → MembersStand nodes low number from fs → MembersStand now low number from fs
  members-renamed nodes now low number from no_fields h l = l
  members-renamed nodes now low number from (field name t s a fs) h l = (
    stands-renamed nodes now number (amount (offset_after from (extent_in t s a))) t (λ c. LeadsTo nodes low c t) (λ c. LeadsTo now low c t) h
        (λ c m. leads-renamed nodes now low c t h m) l.0,
    members-renamed nodes now low (number + 1) (end_after from (extent_in t s a)) fs h l.1,
  )

-- a layout of a type is one with other names too
pub renamed-is : (nodes now : List Node) (number : ℕ) (t : Ty) → AreRenamed nodes now → IsNodeOf nodes number t → IsNodeOf now number t
renamed-is nodes now number t h is =
    let new = renamed-at nodes now number is.node h is.there in
    record {
      node = new.node;
      there = new.there;
      describes = record {
        says = says-renamed new.node is.node t new.same is.describes.says;
        leads = subst (λ c. LeadsTo now (number + 1) c t) (sym (ap (λ (x : Node). x.child) new.same))
            (leads-renamed nodes now (number + 1) is.node.child t h is.describes.leads);
      };
    }

-- ---- one name

get-renamed : (nodes : List Node) (i k start end : ℕ) (r : Node) → slice_get nodes i ≡ Some r
    → option_map unnamed (slice_get (slice_set nodes i (record r { name_start = start; name_end = end })) k) ≡ option_map unnamed (slice_get nodes k)
get-renamed [] i k start end r h = refl
get-renamed (x ∷ xs) zero zero start end r h = ap (λ (o : Option Node). option_map unnamed o) (sym h)
get-renamed (x ∷ xs) zero (suc k) start end r h = refl
get-renamed (x ∷ xs) (suc i) zero start end r h = refl
get-renamed (x ∷ xs) (suc i) (suc k) start end r h = get-renamed xs i k start end r h

pub set-renames : (nodes : List Node) (i start end : ℕ) (r : Node) → slice_get nodes i ≡ Some r
    → AreRenamed nodes (slice_set nodes i (record r { name_start = start; name_end = end }))
set-renames nodes i start end r h k = get-renamed nodes i k start end r h

pub renames-through : (nodes middle now : List Node) → AreRenamed nodes middle → AreRenamed middle now → AreRenamed nodes now
renames-through nodes middle now h g k = g k ∙ h k
