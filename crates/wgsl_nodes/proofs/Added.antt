-- What a record more adds to a table.
use Rattle.std.proofs.Common.{◌≡◌, ℕ, ◌+◌, ◌*◌, ◌<◌, ◌≤◌, ◌^◌, List, [], ◌∷◌, ◌++◌, length, slice_get, slice_set, Option, Some, None, true, false, IsTrue, refl, sym, ap, ◌∙◌, subst, arith, append_assoc, length-append, sum_by}
use Rattle.std.specs.Prelude.{IsSomeAnd, MatchOption}
use Rattle.std.proofs.Math.ListN.{length-set}
use Rattle.std.proofs.lemmas.Bool.{false≢true}
use Rattle.std.proofs.lemmas.List.Sums.{sum_by-cons, sum_by_push}
use Rattle.std.proofs.lemmas.Option.{slice_get_within}
use Rattle.wgsl_rules.specs.Types as types
use Rattle.wgsl_rules.specs.Types.{Ty, array, vec, mat}
use Rattle.wgsl_rules.specs.Size.{size_of, align_of}
use Rattle.wgsl_rules.specs.Layout.{amount, size, align, Tail, is_from_2_to_4}
use Rattle.wgsl_rules.proofs.lemmas.Slices.{slice_get-append, slice_get-pushed, slice_get-set_same, slice_get-set_other}
use Rattle.wgsl_nodes.specs.Canonical.{node_of, below, table}
use Rattle.wgsl_nodes.specs.HostTypes.{has_nodes, is_scalar, is_number}
use Rattle.wgsl_nodes.specs.Nodes.{Says, Stands, LeadsTo, IsNodeOf, sort_of, bytes_before}
use Rattle.wgsl_nodes.specs.Tables.{IsTable, children_counted, is_sound_at, is_sound_if}
use Rattle.wgsl_nodes.specs.Making.{Keeps, IsAdded, IsTyped, IsNumberOf, IsArrayOf, vector_node, plain_node}
use Rattle.wgsl_nodes.specs.declared.nodes.Node.{Node}
use Rattle.wgsl_nodes.proofs.Fixed.{scalar-is, vector-sized, vector-size, vector-fits}
use Rattle.wgsl_nodes.proofs.Exact.{node-is, element-grown}
use Rattle.wgsl_nodes.proofs.Growing.{KeepsFrom, keeps-later, leads-kept}
use Rattle.wgsl_nodes.proofs.Sound.{scalar-sort, described-sound}
use Rattle.wgsl_nodes.proofs.Typed.{typed-either, stands-typed, typed-kept, children-set, no-children, one-child}

pub keeps-append : (xs ys : List Node) → Keeps xs (xs ++ ys)
keeps-append xs ys k r h = slice_get-append xs ys k r h

pub keeps-through : (a b c : List Node) → Keeps a b → Keeps b c → Keeps a c
keeps-through a b c h g k r e = g k r (h k r e)

pub keeps-set : (old now : List Node) (i : ℕ) (x : Node) → length old ≤ i → Keeps old now → Keeps old (slice_set now i x)
keeps-set old now i x le keeps k r e =
    let lt = slice_get_within old k r e in
    slice_get-set_other now i k x (λ same. omega arith) ∙ keeps k r e

pub keeps-behind-set : (now : List Node) (i : ℕ) (x : Node) → KeepsFrom (i + 1) now (slice_set now i x)
keeps-behind-set now i x = record { get = λ k r le e. slice_get-set_other now i k x (λ same. omega arith) ∙ e }

-- ---- numbers

pub scalar-leads : (nodes : List Node) (low child : ℕ) (t : Ty) → is_scalar t ≡ true → child ≡ 0 → LeadsTo nodes low child t
scalar-leads nodes low child types.i32 h e = e
scalar-leads nodes low child types.u32 h e = e
scalar-leads nodes low child types.f32 h e = e
scalar-leads nodes low child types.f16 h e = e
scalar-leads nodes low child types.i64 h e = e
scalar-leads nodes low child types.u64 h e = e
scalar-leads nodes low child types.f64 h e = e
scalar-leads nodes low child t h e = absurd (false≢true h)

scalar-host : (t : Ty) → is_scalar t ≡ true → has_nodes t ≡ true
scalar-host types.i32 h = refl
scalar-host types.u32 h = refl
scalar-host types.f32 h = refl
scalar-host types.f16 h = refl
scalar-host types.i64 h = refl
scalar-host types.u64 h = refl
scalar-host types.f64 h = refl
scalar-host t h = absurd (false≢true h)

-- the record of a component stands there
component-stands : (nodes : List Node) (number : ℕ) (t : Ty) (part : Node) → is_scalar t ≡ true → IsNumberOf part t → slice_get nodes number ≡ Some part
    → Stands nodes number 0 t (λ c. LeadsTo nodes (number + 1) c t)
component-stands nodes number t part scalar is there = record {
  node = part;
  there = there;
  offset_is = is.place;
  says = is.says;
  leads = scalar-leads nodes (number + 1) part.child t scalar is.last;
}

-- ---- vectors

part-size : (t : Ty) (part : Node) (s : ℕ) → size_of t ≡ Some s → is_scalar t ≡ true → Says part t → part.size ≡ s
part-size t part s is scalar says =
    let k = scalar-is t scalar in
    says.size ∙ ap (λ (o : Option Tail). bytes_before o (size t)) k.no_tail ∙ ap amount is

pub vector-says : (n : ℕ) (t : Ty) (part : Node) (a child : ℕ) → is_from_2_to_4 n ≡ true → is_scalar t ≡ true → Says part t → align_of (vec n t) ≡ Some a
    → Says (vector_node n part.size a child) (vec n t)
vector-says n t part a child count scalar says aligned =
    let k = scalar-is t scalar in
    let v = vector-sized n t a count scalar aligned in
    let own = part-size t part k.size k.size_is scalar says in
    let whole : size (vec n t) ≡ n * k.size = ap amount (vector-size n t count scalar) in
    record {
      sort = refl;
      kind = refl;
      size = ap (λ (s : ℕ). n * s) own ∙ sym whole;
      align = sym (ap amount aligned);
      count = refl;
      stride = own ∙ sym (ap amount k.size_is);
      tail_start = refl;
      tail_stride = refl;
    }

pub small : (n : ℕ) (t : Ty) (part : Node) → is_from_2_to_4 n ≡ true → is_scalar t ≡ true → Says part t → n * part.size < 2 ^ 32
small n t part count scalar says =
    let k = scalar-is t scalar in
    let own = part-size t part k.size k.size_is scalar says in
    let b = vector-fits n t count scalar in
    rw own b

component-typed : (nodes : List Node) (number : ℕ) (t : Ty) (part : Node) → is_scalar t ≡ true → IsNumberOf part t → slice_get nodes number ≡ Some part → IsTyped nodes number
component-typed nodes number t part scalar is there = stands-typed nodes number 0 t (scalar-host t scalar) (component-stands nodes number t part scalar is there)

component-children : (t : Ty) (part : Node) → is_scalar t ≡ true → IsNumberOf part t → children_counted part ≡ 0
component-children t part scalar is = no-children part (is.says.sort ∙ (scalar-sort t scalar).0)

-- a number leads to nothing
number-sort : (t : Ty) → is_number t ≡ true → sort_of t ≡ 0
number-sort types.i32 h = refl
number-sort types.u32 h = refl
number-sort types.f32 h = refl
number-sort types.f16 h = refl
number-sort types.i64 h = refl
number-sort types.u64 h = refl
number-sort types.f64 h = refl
number-sort (types.atomic t) h = refl
number-sort t h = absurd (false≢true h)

pub component-added : (old : List Node) (n : ℕ) (t : Ty) (part : Node) (a : ℕ) → is_from_2_to_4 n ≡ true → is_scalar t ≡ true → IsNumberOf part t → align_of (vec n t) ≡ Some a
    → IsAdded old (old ++ (part ∷ [])) (vector_node n part.size a (length old)) (vec n t)
component-added old n t part a count scalar is aligned = record {
  host = rw (count, scalar, aligned) refl;
  place = refl;
  describes = record {
    says = vector-says n t part a (length old) count scalar is.says aligned;
    leads = (omega arith, component-stands (old ++ (part ∷ [])) (length old) t part scalar is (slice_get-pushed old part));
  };
  longer = omega (arith, length-append {A = Node});
  kept = keeps-append old (part ∷ []);
  each = λ k le lt.
      let is_last : length old ≡ k = omega (arith, length-append old (part ∷ [])) in
      component-typed (old ++ (part ∷ [])) k t part scalar is (subst (λ (m : ℕ). slice_get (old ++ (part ∷ [])) m ≡ Some part) is_last (slice_get-pushed old part));
  children = omega (arith, length-append old (part ∷ []), sum_by_push children_counted old part, component-children t part scalar is);
  exact = node-is (vector_node n part.size a (length old)) (vec n t) (length old) (vector-says n t part a (length old) count scalar is.says aligned) refl refl refl refl;
  grown = ap (λ (x : Node). old ++ (x ∷ [])) is.exact;
}

-- ---- matrices

pub column-added : (old : List Node) (c r : ℕ) (t : Ty) (part : Node) (a s : ℕ) → is_from_2_to_4 c ≡ true → is_from_2_to_4 r ≡ true → is_scalar t ≡ true → IsNumberOf part t
    → align_of (mat c r t) ≡ Some a → size_of (mat c r t) ≡ Some s
    → IsAdded old ((old ++ (vector_node r part.size a (length old + 1) ∷ [])) ++ (part ∷ [])) (plain_node 2 0 s a c a (length old) 0 0) (mat c r t)
column-added old c r t part a s columns rows scalar is aligned sized =
    let column = vector_node r part.size a (length old + 1) in
    let one = old ++ (column ∷ []) in
    let two = one ++ (part ∷ []) in
    let len : length one ≡ length old + 1 = omega (arith, length-append {A = Node}) in
    let far : align (vec r t) ≡ a = ap amount aligned in
    let number : slice_get two (length old + 1) ≡ Some part = subst (λ (k : ℕ). slice_get two k ≡ Some part) len (slice_get-pushed one part) in
    let vector : Stands two (length old) 0 (vec r t) (λ c. LeadsTo two (length old + 1) c (vec r t)) =
    record {
      node = column;
      there = slice_get-append one (part ∷ []) (length old) column (slice_get-pushed old column);
      offset_is = refl;
      says = vector-says r t part a (length old + 1) rows scalar is.says aligned;
      leads = (omega arith, component-stands two (length old + 1) t part scalar is number);
    } in
    let says : Says (plain_node 2 0 s a c a (length old) 0 0) (mat c r t) =
    record {
      sort = refl;
      kind = refl;
      size = sym (ap amount sized);
      align = sym (ap amount aligned);
      count = refl;
      stride = sym far;
      tail_start = refl;
      tail_stride = refl;
    } in
    record {
      host = rw (columns, rows, scalar, sized) refl;
      place = refl;
      describes = record { says = says; leads = (omega arith, vector) };
      longer = omega (arith, length-append {A = Node});
      kept = keeps-through old one two (keeps-append old (column ∷ [])) (keeps-append one (part ∷ []));
      each = λ k le lt. typed-either two k (length old + 1) (λ h. let e : length old ≡ k = omega arith in subst (IsTyped two) e (stands-typed two (length old) 0 (vec r t) (rw (rows, scalar, aligned) refl) vector))
          (λ h. let e : length old + 1 ≡ k = omega (arith, length-append one (part ∷ [])) in subst (IsTyped two) e (component-typed two (length old + 1) t part scalar is number));
      children = omega (arith, length-append one (part ∷ []), sum_by_push children_counted one part, sum_by_push children_counted old column, component-children t part scalar is);
      exact = node-is (plain_node 2 0 s a c a (length old) 0 0) (mat c r t) (length old) says refl refl refl refl;
      grown =
          let column_is = node-is column (vec r t) (length old + 1) vector.says refl refl refl refl in
          append_assoc old (column ∷ []) (part ∷ []) ∙ ap (λ (x : Node). old ++ (x ∷ (part ∷ []))) column_is ∙ ap (λ (x : Node). old ++ (node_of (vec r t) (length old + 1) ∷ (x ∷ []))) is.exact;
    }

-- ---- arrays

pub element-added : (old pushed grown : List Node) (x : Node) (t : Ty) (n : Option ℕ) (part r : Node) → children_counted x ≡ 0 → pushed ≡ old ++ (x ∷ []) → IsAdded pushed grown part t → IsArrayOf t n (length old) r
    → IsAdded old (slice_set grown (length old) part) r (array t n)
element-added old pushed grown x t n part r none is made has =
    let now = slice_set grown (length old) part in
    let len : length pushed ≡ length old + 1 = ap length is ∙ omega (arith, length-append old (x ∷ [])) in
    let longer = made.longer in
    let own : LeadsTo grown (length old + 1) part.child t = subst (λ (k : ℕ). LeadsTo grown k part.child t) len made.describes.leads in
    let stands : Stands now (length old) 0 t (λ c. LeadsTo now (length old + 1) c t) =
    record {
      node = part;
      there = slice_get-set_same grown (length old) part (omega arith);
      offset_is = made.place;
      says = made.describes.says;
      leads = leads-kept grown now (length old + 1) part.child t (keeps-behind-set grown (length old) part) own;
    } in
    record {
      host = has.host;
      place = has.place;
      describes = record {
        says = has.says;
        leads = subst (λ (k : ℕ). LeadsTo now (length old) k (array t n)) (sym has.child_is) (omega arith, stands);
      };
      longer = omega (arith, length-set grown (length old) part);
      kept = keeps-set old grown (length old) part (omega arith) (keeps-through old pushed grown (subst (λ (xs : List Node). Keeps old xs) (sym is) (keeps-append old (x ∷ []))) made.kept);
      each = λ k le lt. typed-either now k (length old + 1) (λ h. let e : length old ≡ k = omega arith in subst (IsTyped now) e (stands-typed now (length old) 0 t made.host stands))
          (λ h. typed-kept grown now k (keeps-later (length old + 1) k grown now h (keeps-behind-set grown (length old) part)) (made.each k (omega arith) (omega (arith, length-set grown (length old) part))));
      children =
          let pushed_there = subst (λ (xs : List Node). slice_get xs (length old) ≡ Some x) (sym is) (slice_get-pushed old x) in
          let counted = made.children in
          omega (arith, length-set grown (length old) part, children-set grown (length old) x part (made.kept (length old) x pushed_there), ap (sum_by children_counted) is, sum_by_push children_counted old x, one-child r 3 has.says.sort refl refl);
      exact = has.exact;
      grown = element-grown old pushed grown x part t is made.exact made.grown;
    }

-- ---- roots

-- what stands in a table of a type that has one is sound
typed-sound : (nodes : List Node) (number : ℕ) → IsTyped nodes number → is_sound_at nodes number ≡ true
typed-sound nodes number typed =
    let own = typed.is in
    ap (is_sound_if nodes number) own.there ∙ described-sound nodes (number + 1) number own.node typed.ty typed.host own.describes (omega arith)

pub root-made : (x : Node) (t : Ty) (grown : List Node) (root : Node) → IsAdded (x ∷ []) grown root t → IsNodeOf (slice_set grown 0 root) 0 t
root-made x t grown root made =
    let longer = made.longer in
    record {
      node = root;
      there = slice_get-set_same grown 0 root (omega arith);
      describes = record {
        says = made.describes.says;
        leads = leads-kept grown (slice_set grown 0 root) 1 root.child t (keeps-behind-set grown 0 root) made.describes.leads;
      };
    }

-- the answer of an array's record
pub element-says : (old pushed grown : List Node) (x : Node) (t : Ty) (n : Option ℕ) (part : Node) (child at : ℕ) (now : List Node) (o : Option Node)
    → children_counted x ≡ 0 → pushed ≡ old ++ (x ∷ []) → IsAdded pushed grown part t → at ≡ length old → child ≡ length old → now ≡ slice_set grown at part
    → MatchOption o (has_nodes (array t n) ≡ false) (IsArrayOf t n child) → MatchOption o (has_nodes (array t n) ≡ false) (λ r. IsAdded old now r (array t n))
element-says old pushed grown x t n part child at now None none is made at_is child_is set h = h
element-says old pushed grown x t n part child at now (Some r) none is made at_is child_is set h =
    subst (λ (xs : List Node). IsAdded old xs r (array t n)) (sym (set ∙ ap (λ (k : ℕ). slice_set grown k part) at_is))
    (element-added old pushed grown x t n part r none is made (subst (λ (k : ℕ). IsArrayOf t n k r) child_is h))

pub column-answers : (old one two : List Node) (c r : ℕ) (t : Ty) (part column : Node) (a s count child inner : ℕ) → is_from_2_to_4 c ≡ true → is_from_2_to_4 r ≡ true → is_scalar t ≡ true → IsNumberOf part t
    → align_of (mat c r t) ≡ Some a → size_of (mat c r t) ≡ Some s → child ≡ length old → inner ≡ child + 1 → column ≡ vector_node r part.size a inner
    → one ≡ old ++ (column ∷ []) → two ≡ one ++ (part ∷ []) → count ≡ c → IsAdded old two (plain_node 2 0 s a count a child 0 0) (mat c r t)
column-answers old one two c r t part column a s count child inner columns rows scalar is aligned sized at behind column_is first second count_is =
    let inner_is : inner ≡ length old + 1 = omega arith in
    let whole : two ≡ (old ++ (vector_node r part.size a (length old + 1) ∷ [])) ++ (part ∷ []) =
    second ∙ ap (λ (xs : List Node). xs ++ (part ∷ [])) (first ∙ ap (λ (x : Node). old ++ (x ∷ [])) (column_is ∙ ap (vector_node r part.size a) inner_is)) in
    rw (whole, count_is, at) (column-added old c r t part a s columns rows scalar is aligned sized)

pub root-table : (x : Node) (t : Ty) (grown : List Node) (root : Node) → children_counted x ≡ 0 → IsAdded (x ∷ []) grown root t → IsTable (slice_set grown 0 root)
root-table x t grown root none made =
    let longer = made.longer in
    let counted = made.children in
    let now = slice_set grown 0 root in
    let own = root-made x t grown root made in
    record {
      root = subst (λ (o : Option Node). IsSomeAnd o (λ r. r.offset ≡ 0)) (sym (slice_get-set_same grown 0 root (omega arith))) made.place;
      children = omega (arith, length-set grown 0 root, children-set grown 0 x root (made.kept 0 x refl), sum_by-cons children_counted x []);
      each = λ k lt. typed-sound now k (typed-either now k 1 (λ h. let e : 0 ≡ k = omega arith in subst (IsTyped now) e (record { ty = t; host = made.host; is = own }))
          (λ h. typed-kept grown now k (keeps-later 1 k grown now h (keeps-behind-set grown 0 root)) (made.each k h (omega (arith, length-set grown 0 root)))));
    }

pub root-exact : (x : Node) (t : Ty) (grown : List Node) (root : Node) → IsAdded (x ∷ []) grown root t → slice_set grown 0 root ≡ table t
root-exact x t grown root made = ap (λ (xs : List Node). slice_set xs 0 root) made.grown ∙ ap (λ (r : Node). r ∷ below 1 t) made.exact

pub root-answers : (empty pushed grown now : List Node) (x : Node) (t : Ty) (root : Node) → children_counted x ≡ 0 → empty ≡ [] → pushed ≡ empty ++ (x ∷ []) → IsAdded pushed grown root t → now ≡ slice_set grown 0 root → length grown < 2 ^ 32
    → IsTrue (has_nodes t) × IsNodeOf now 0 t × (length now < 2 ^ 32) × IsTable now × (now ≡ table t)
root-answers empty pushed grown now x t root bare none is made set few =
    let one : pushed ≡ x ∷ [] = is ∙ ap (λ (xs : List Node). xs ++ (x ∷ [])) none in
    let here = subst (λ (xs : List Node). IsAdded xs grown root t) one made in
    rw set (made.host, root-made x t grown root here, omega (arith, length-set grown 0 root), root-table x t grown root bare here, root-exact x t grown root here)
