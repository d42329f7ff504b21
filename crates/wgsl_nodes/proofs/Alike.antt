-- Tables that are the same but for names hold the same types.
use Rattle.std.proofs.Common.{◌≡◌, ℕ, zero, suc, ◌+◌, ◌<◌, ◌≤◌, List, [], ◌∷◌, length, slice_get, Option, Some, None, Bool, true, false, refl, sym, ◌∙◌, subst, arith}
use Rattle.std.specs.Prelude.{◌==◌, if◌then◌else◌}
use Rattle.std.proofs.lemmas.Bool.{eqb-true}
use Rattle.std.proofs.lemmas.Option.{slice_get_within}
use Rattle.wgsl_rules.specs.Types.{Ty, struct, array, vec, mat, Fields, no_fields, field}
use Rattle.wgsl_rules.specs.Size.{extent_in, offset_after, end_after}
use Rattle.wgsl_rules.specs.Layout.{amount}
use Rattle.wgsl_nodes.specs.Compare.{unlike, differs, child_differs, AreSame}
use Rattle.wgsl_nodes.specs.Nodes.{Says, Stands, LeadsTo, MembersStand, IsNodeOf, members_in}
use Rattle.wgsl_nodes.specs.declared.nodes.Node.{Node}

-- ---- records

pub record IsAlike (x y : Node) : Type 0 where
  pub sort : x.sort ≡ y.sort
  pub kind : x.kind ≡ y.kind
  pub offset : x.offset ≡ y.offset
  pub size : x.size ≡ y.size
  pub align : x.align ≡ y.align
  pub count : x.count ≡ y.count
  pub stride : x.stride ≡ y.stride
  pub child : x.child ≡ y.child
  pub tail_start : x.tail_start ≡ y.tail_start
  pub tail_stride : x.tail_stride ≡ y.tail_stride

like : (what x y : ℕ) (behind : Option ℕ) → unlike what x y behind ≡ None → (x ≡ y) × (behind ≡ None)
like what x y behind h = by (x == y) refl h
  where
    by : (b : Bool) → (x == y) ≡ b → (if b then behind else Some what) ≡ None → (x ≡ y) × (behind ≡ None)
    by true e k = (eqb-true x y e, k)
    by false e k = absurd (cc (k))

alike : (x y : Node) → differs x y ≡ None → child_differs x y ≡ None → IsAlike x y
alike x y h k =
    let sort = like 0 x.sort y.sort _ h in
    let kind = like 1 x.kind y.kind _ sort.1 in
    let count = like 5 x.count y.count _ kind.1 in
    let offset = like 2 x.offset y.offset _ count.1 in
    let stride = like 6 x.stride y.stride _ offset.1 in
    let size = like 3 x.size y.size _ stride.1 in
    let align = like 4 x.align y.align _ size.1 in
    let tail_start = like 8 x.tail_start y.tail_start _ align.1 in
    let tail_stride = like 9 x.tail_stride y.tail_stride None tail_start.1 in
    record {
      sort = sort.0;
      kind = kind.0;
      offset = offset.0;
      size = size.0;
      align = align.0;
      count = count.0;
      stride = stride.0;
      child = (like 7 x.child y.child None k).0;
      tail_start = tail_start.0;
      tail_stride = tail_stride.0;
    }

says-alike : (x y : Node) (t : Ty) → IsAlike x y → Says x t → Says y t
says-alike x y t a s = record {
  sort = sym a.sort ∙ s.sort;
  kind = sym a.kind ∙ s.kind;
  size = sym a.size ∙ s.size;
  align = sym a.align ∙ s.align;
  count = sym a.count ∙ s.count;
  stride = sym a.stride ∙ s.stride;
  tail_start = sym a.tail_start ∙ s.tail_start;
  tail_stride = sym a.tail_stride ∙ s.tail_stride;
}

-- ---- tables

pub record HasAlike (b : List Node) (k : ℕ) (x : Node) : Type 0 where
  pub node : Node
  pub there : slice_get b k ≡ Some node
  pub alike_is : IsAlike x node

get-there : (b : List Node) (k : ℕ) → k < length b → (y : Node) × (slice_get b k ≡ Some y)
get-there [] k h = absurd (omega arith)
get-there (y ∷ b) zero h = (y, refl)
get-there (y ∷ b) (suc k) h = get-there b k (omega arith)

pub record AreAlike (a b : List Node) : Type 0 where
  pub get : (k : ℕ) (x : Node) → slice_get a k ≡ Some x → HasAlike b k x

same-alike : (a b : List Node) → AreSame a b → AreAlike a b
same-alike a b same = record {
  get = λ k x e.
      let lt = slice_get_within a k x e in
      let lengths = same.lengths in
      let y = get-there b k (omega arith) in
      record { node = y.0; there = y.1; alike_is = alike x y.0 (same.fields k x y.0 lt e y.1) (same.children k x y.0 lt e y.1) };
}

stands-alike : (a b : List Node) (number offset : ℕ) (t : Ty) (P Q : ℕ → Type 0) → AreAlike a b → ((c : ℕ) → P c → Q c) → Stands a number offset t P → Stands b number offset t Q
stands-alike a b number offset t P Q all f s =
    let h = all.get number s.node s.there in
    record {
      node = h.node;
      there = h.there;
      offset_is = sym h.alike_is.offset ∙ s.offset_is;
      says = says-alike s.node h.node t h.alike_is s.says;
      leads = subst Q h.alike_is.child (f s.node.child s.leads);
    }

mutual
  leads-alike : (a b : List Node) (low child : ℕ) (t : Ty) → AreAlike a b → LeadsTo a low child t → LeadsTo b low child t
  leads-alike a b low child (vec n t) all h =
      (h.0, stands-alike a b child 0 t (λ c. LeadsTo a (child + 1) c t) (λ c. LeadsTo b (child + 1) c t) all (λ c l. leads-alike a b (child + 1) c t all l) h.1)
  leads-alike a b low child (mat c r t) all h = (
    h.0,
    stands-alike a b child 0 (vec r t)
        (λ k. (child + 1 ≤ k) × Stands a k 0 t (λ i. LeadsTo a (k + 1) i t)) (λ k. (child + 1 ≤ k) × Stands b k 0 t (λ i. LeadsTo b (k + 1) i t)) all
        (λ k l. (l.0, stands-alike a b k 0 t (λ i. LeadsTo a (k + 1) i t) (λ i. LeadsTo b (k + 1) i t) all (λ i m. leads-alike a b (k + 1) i t all m) l.1)) h.1,
  )
  leads-alike a b low child (array t n) all h =
      (h.0, stands-alike a b child 0 t (λ c. LeadsTo a (child + 1) c t) (λ c. LeadsTo b (child + 1) c t) all (λ c l. leads-alike a b (child + 1) c t all l) h.1)
  leads-alike a b low child (struct name fs) all h = (h.0, members-alike a b (child + members_in fs) child (Some 0) fs all h.1)
  leads-alike a b low child t all h = h

  members-alike : (a b : List Node) (low number : ℕ) (from : Option ℕ) (fs : Fields) → AreAlike a b → MembersStand a low number from fs → MembersStand b low number from fs
  members-alike a b low number from no_fields all h = h
  members-alike a b low number from (field name t s g fs) all h = (
    stands-alike a b number (amount (offset_after from (extent_in t s g))) t (λ c. LeadsTo a low c t) (λ c. LeadsTo b low c t) all (λ c l. leads-alike a b low c t all l) h.0,
    members-alike a b low (number + 1) (end_after from (extent_in t s g)) fs all h.1,
  )

pub node-alike : (a b : List Node) (number : ℕ) (t : Ty) → AreSame a b → IsNodeOf a number t → IsNodeOf b number t
node-alike a b number t same is =
    let all = same-alike a b same in
    let h = all.get number is.node is.there in
    let leads = leads-alike a b (number + 1) is.node.child t all is.describes.leads in
    record {
      node = h.node;
      there = h.there;
      describes = record { says = says-alike is.node h.node t h.alike_is is.describes.says; leads = subst (λ (c : ℕ). LeadsTo b (number + 1) c t) h.alike_is.child leads };
    }
