-- Of each type that has a table the records, one by one, are a table and the layout of the type.
use Rattle.std.proofs.Common.{◌≡◌, ℕ, ◌+◌, ◌≤◌, max, List, [], ◌∷◌, ◌++◌, length, replicate, slice_set, Option, Some, None, is_some, is_none, Bool, true, false, refl, sym, ap, ◌∙◌, subst, arith}
use Rattle.std.specs.Prelude.{◌||◌}
use Rattle.std.specs.Option.{option_or}
use Rattle.std.proofs.Math.ListN.{length-set}
use Rattle.std.proofs.lemmas.Bool.{false≢true}
use Rattle.std.proofs.lemmas.List.{append-nil}
use Rattle.wgsl_rules.specs.Types as types
use Rattle.wgsl_rules.specs.Types.{Ty, struct, array, vec, mat, Fields, no_fields, field}
use Rattle.wgsl_rules.specs.Size.{size_of, align_of, with_both, round_up, sum_of, extent_in, extents, offset_after, end_after, end_of_members, struct_align, vec_align}
use Rattle.wgsl_rules.specs.Layout.{is_align_valid, is_size_valid}
use Rattle.wgsl_rules.proofs.lemmas.Known.{and-both, some-of, both-known, times-known, end-known, ends-known}
use Rattle.wgsl_rules.proofs.lemmas.Tests.{or-false}
use Rattle.wgsl_nodes.specs.Canonical.{node_of, below, table}
use Rattle.wgsl_nodes.specs.HostTypes.{has_nodes, has_fixed_nodes, have_fixed_nodes, end_in_runtime_array, is_runtime_array, is_number, is_scalar}
use Rattle.wgsl_nodes.specs.Making.{Keeps, IsAdded, IsNumberOf, empty_node, structure_node}
use Rattle.wgsl_nodes.specs.Nodes.{Says, LeadsTo, IsNodeOf, members_in, sort_of}
use Rattle.wgsl_nodes.specs.Tables.{IsTable}
use Rattle.wgsl_nodes.specs.declared.nodes.Node.{Node}
use Rattle.wgsl_nodes.proofs.Added.{keeps-set, keeps-through, component-added, column-added, element-added, root-made, root-table, root-exact}
use Rattle.wgsl_nodes.proofs.Arrays.{not-fixed-array}
use Rattle.wgsl_nodes.proofs.Exact.{AreExact, none-exact, next-exact}
use Rattle.wgsl_nodes.proofs.Filled.{none-filled, filled-next}
use Rattle.wgsl_nodes.proofs.Fixed.{vector-is, matrix-is, first-is, last-runtime}
use Rattle.wgsl_nodes.proofs.Members.{AreMade, none-made, member-made, end-of, structure-made}
use Rattle.wgsl_nodes.proofs.Sound.{scalar-sort, known-from}
use Rattle.wgsl_nodes.proofs.Typed.{AreFilled, no-children}
use Rattle.wgsl_nodes.proofs.Walk.{fixed-part-of, runtime-aligned, ended}

-- a table has grown by the records that a record of the type leads to
abbrev Grows : List Node → Ty → Type 0
Grows old t = IsAdded old (old ++ below (length old) t) (node_of t (length old)) t

canonical : (old now : List Node) (r : Node) (t : Ty) → IsAdded old now r t → Grows old t
canonical old now r t added =
    subst (λ (x : Node). IsAdded old (old ++ below (length old) t) x t) added.exact (subst (λ (xs : List Node). IsAdded old xs r t) added.grown added)

says-own : (t : Ty) (child : ℕ) → Says (node_of t child) t
says-own t child = record { sort = refl; kind = refl; size = refl; align = refl; count = refl; stride = refl; tail_start = refl; tail_stride = refl }

-- ---- numbers

leaf : (t : Ty) (old : List Node) → has_nodes t ≡ true → sort_of t ≡ 0 → below (length old) t ≡ [] → LeadsTo old (length old) (node_of t (length old)).child t → Grows old t
leaf t old host sort none leads = canonical old old (node_of t (length old)) t (record {
  host = host;
  place = refl;
  describes = record { says = says-own t (length old); leads = leads };
  longer = omega arith;
  kept = λ k r e. e;
  each = λ k le lt. absurd (omega arith);
  children = omega (arith, no-children (node_of t (length old)) sort);
  exact = refl;
  grown = sym (append-nil old) ∙ ap (λ (xs : List Node). old ++ xs) (sym none);
})

number-added : (t : Ty) (old : List Node) → is_number t ≡ true → Grows old t
number-added types.i32 old h = leaf types.i32 old refl refl refl refl
number-added types.u32 old h = leaf types.u32 old refl refl refl refl
number-added types.f32 old h = leaf types.f32 old refl refl refl refl
number-added types.f16 old h = leaf types.f16 old refl refl refl refl
number-added types.i64 old h = leaf types.i64 old refl refl refl refl
number-added types.u64 old h = leaf types.u64 old refl refl refl refl
number-added types.f64 old h = leaf types.f64 old refl refl refl refl
number-added (types.atomic t) old h = leaf (types.atomic t) old (rw h refl) refl refl refl
number-added t old h = absurd (false≢true h)

-- ---- vectors, matrices, arrays

number-of : (t : Ty) → is_scalar t ≡ true → IsNumberOf (node_of t 0) t
number-of t scalar = record { says = says-own t 0; place = refl; last = rw (scalar-sort t scalar).0 refl; exact = refl }

vector-added : (n : ℕ) (t : Ty) (old : List Node) → has_fixed_nodes (vec n t) ≡ true → Grows old (vec n t)
vector-added n t old h =
    let v = vector-is n t h in
    let a = some-of (align_of (vec n t)) v.aligned in
    canonical old _ _ (vec n t) (component-added old n t (node_of t 0) a.0 v.count v.scalar (number-of t v.scalar) a.1)

matrix-added : (c r : ℕ) (t : Ty) (old : List Node) → has_fixed_nodes (mat c r t) ≡ true → Grows old (mat c r t)
matrix-added c r t old h =
    let m = matrix-is c r t h in
    let s = some-of (size_of (mat c r t)) m.sized in
    let a = times-known c (vec_align r t (size_of t)) s.0 s.1 in
    canonical old _ _ (mat c r t) (column-added old c r t (node_of t 0) a.0 s.0 m.columns m.rows m.scalar (number-of t m.scalar) a.1 s.1)

element-fixed : (t : Ty) (n : Option ℕ) → has_nodes (array t n) ≡ true → has_fixed_nodes t ≡ true
element-fixed t n host = by (has_fixed_nodes t) refl
  where
    by : (b : Bool) → has_fixed_nodes t ≡ b → b ≡ true
    by true e = refl
    by false e = sym (not-fixed-array t n e) ∙ host

fixed-host : (t : Ty) → has_fixed_nodes t ≡ true → has_nodes t ≡ true
fixed-host t h = rw h refl

runtime-host : (t : Ty) → is_runtime_array t ≡ true → has_nodes t ≡ true
runtime-host (array u None) h = h
runtime-host t h = absurd (false≢true h)

array-added : (t : Ty) (n : Option ℕ) (old : List Node) → has_nodes (array t n) ≡ true → Grows (old ++ (empty_node ∷ [])) t → Grows old (array t n)
array-added t n old host element =
    canonical old _ _ (array t n) (element-added old (old ++ (empty_node ∷ [])) _ empty_node t n _ (node_of (array t n) (length old)) refl refl element
    (record { host = host; says = says-own (array t n) (length old); place = refl; child_is = refl; exact = refl }))

-- ---- members

-- the members so far stand there
record AreSo (fs rest : Fields) (i : ℕ) (before nodes : List Node) (end all : ℕ) : Type 0 where
  pub made : AreMade fs rest nodes (length before) (length before + members_in fs) i end all
  pub longer : length before + members_in fs ≤ length nodes
  pub kept : Keeps before nodes
  pub filled : AreFilled before nodes (length before) (length before + members_in fs) i
  pub exact : AreExact before nodes fs rest (Some end) i (members_in fs)
  pub left : i + members_in rest ≡ members_in fs

none-so : (before : List Node) (fs : Fields) → AreSo fs fs 0 before (before ++ replicate (members_in fs) empty_node) 0 0
none-so before fs =
    let n = none-filled before (before ++ replicate (members_in fs) empty_node) (length before) (members_in fs) refl refl in
    record {
      made = none-made fs (before ++ replicate (members_in fs) empty_node) (length before) (length before + members_in fs);
      longer = n.longer;
      kept = n.kept;
      filled = n.filled;
      exact = none-exact before (before ++ replicate (members_in fs) empty_node) fs (members_in fs) refl;
      left = omega arith;
    }

record AreOn (fs rest : Fields) (i : ℕ) (before : List Node) (end : ℕ) : Type 0 where
  pub nodes : List Node
  pub all : ℕ
  pub so : AreSo fs rest i before nodes end all

-- a member more, of a fixed size
step : (fs : Fields) (name : List ℕ) (t : Ty) (s a : Option ℕ) (rest : Fields) (i : ℕ) (before nodes : List Node) (end all next : ℕ) → AreSo fs (field name t s a rest) i before nodes end all
    → has_fixed_nodes t ≡ true → is_size_valid s (size_of t) ≡ true → is_align_valid a (align_of t) ≡ true → end_after (Some end) (extent_in t s a) ≡ Some next → Grows nodes t
    → AreOn fs rest (i + 1) before next
step fs name t s a rest i before nodes end all next so fixed size_valid align_valid ends added =
    let child = length before in
    let low = length before + members_in fs in
    let part = node_of t (length nodes) in
    let grown = nodes ++ below (length nodes) t in
    let left = so.left in
    let longer = so.longer in
    let more = added.longer in
    let is = fixed-part-of t part added.host (says-own t (length nodes)) fixed in
    let known = end-known end (extent_in t s a) next ends in
    let o = known.0 in
    let placed = record part { offset = o } in
    let offset : with_both round_up (option_or a (Some part.align)) (Some end) ≡ Some o = ap (λ (x : Option ℕ). with_both round_up (option_or a x) (Some end)) (sym is.align_is) ∙ known.2 in
    let far = both-known round_up (option_or a (Some part.align)) (Some end) o offset in
    let sum : with_both sum_of (Some o) (option_or s (Some part.size)) ≡ Some next = sym (end-of t s a end o part is known.2) ∙ ends in
    record {
      nodes = slice_set grown (child + i) placed;
      all = max all far.0;
      so = record {
        made = member-made fs name t s a rest nodes grown child low i end all o next far.0 part so.made longer (omega arith) added is
            (ap (is_align_valid a) (sym is.align_is) ∙ align_valid) far.2 offset (ap (is_size_valid s) (sym is.size_is) ∙ size_valid) sum;
        longer = omega (arith, length-set grown (child + i) placed);
        kept = keeps-set before grown (child + i) placed (omega arith) (keeps-through before nodes grown so.kept added.kept);
        filled = filled-next before nodes grown child low i o part t so.filled (omega arith) longer added;
        exact = subst (λ (x : Option ℕ). AreExact before (slice_set grown (child + i) placed) fs rest x (i + 1) (members_in fs)) ends
            (next-exact before nodes grown fs name t s a rest (Some end) child i (members_in fs) o part so.exact (omega arith) refl refl refl known.2);
        left = omega arith;
      };
    }

-- a last member that is a runtime-sized array
last-added : (fs : Fields) (n : List ℕ) (t : Ty) (s a : Option ℕ) (i : ℕ) (before nodes : List Node) (end all : ℕ) (name : List ℕ) → AreSo fs (field n t s a no_fields) i before nodes end all
    → is_runtime_array t ≡ true → is_none s ≡ true → is_align_valid a (align_of t) ≡ true → is_some (offset_after (Some end) (extent_in t s a)) ≡ true → Grows nodes t
    → Grows before (struct name fs)
last-added fs n (array u None) None a i before nodes end all name so runtime unsized align_valid placed added =
    let t = array u None in
    let part = node_of t (length nodes) in
    let left = so.left in
    let aligned = runtime-aligned t part (says-own t (length nodes)) runtime in
    let o = some-of (offset_after (Some end) (extent_in t None a)) placed in
    let offset : with_both round_up (option_or a (Some part.align)) (Some end) ≡ Some o.0 = ap (λ (x : Option ℕ). with_both round_up (option_or a x) (Some end)) (sym aligned) ∙ o.1 in
    let far = both-known round_up (option_or a (Some part.align)) (Some end) o.0 offset in
    canonical before _ _ (struct name fs) (ended fs n u a before nodes (nodes ++ below (length nodes) t) (slice_set (nodes ++ below (length nodes) t) (length before + i) (record part { offset = o.0 }))
    (length before) (members_in fs) (length before + members_in fs) i end all o.0 far.0 part name so.made so.longer (omega arith) refl refl refl so.kept so.filled so.exact (omega arith) added
    runtime (ap (is_align_valid a) (sym aligned) ∙ align_valid) far.2 offset refl)
last-added fs n (array u None) (Some z) a i before nodes end all name so runtime unsized align_valid placed added = absurd (false≢true unsized)
last-added fs n t s a i before nodes end all name so runtime unsized align_valid placed added = absurd (false≢true runtime)

-- ---- any type

either : (a b : Bool) (P : Type 0) → (a || b) ≡ true → (a ≡ true → P) → (b ≡ true → P) → P
either true b P h f g = f refl
either false b P h f g = g h

mutual
  pub added : (t : Ty) (old : List Node) → has_nodes t ≡ true → Grows old t
  added (vec n t) old h = vector-added n t old (or-false (has_fixed_nodes (vec n t)) h)
  added (mat c r t) old h = matrix-added c r t old (or-false (has_fixed_nodes (mat c r t)) h)
  added (array t n) old h = array-added t n old h (added t (old ++ (empty_node ∷ [])) (fixed-host t (element-fixed t n h)))
  added (struct name fs) old h =
      either (has_fixed_nodes (struct name fs)) (end_in_runtime_array (Some 0) fs) (Grows old (struct name fs)) h
      (λ fixed.
      let both = and-both (have_fixed_nodes fs) (is_some (size_of (struct name fs))) fixed in
      let s = some-of (size_of (struct name fs)) both.1 in
      fixed-added fs name fs 0 old (old ++ replicate (members_in fs) empty_node) 0 0 s.0 (none-so old fs) both.0 s.1)
      (λ runtime. runtime-added fs name fs 0 old (old ++ replicate (members_in fs) empty_node) 0 0 (none-so old fs) runtime)
  added t old h = number-added t old (or-false (is_number t) h)

  fixed-added : (rest : Fields) (name : List ℕ) (fs : Fields) (i : ℕ) (before nodes : List Node) (end all size : ℕ) → AreSo fs rest i before nodes end all → have_fixed_nodes rest ≡ true → size_of (struct name fs) ≡ Some size
      → Grows before (struct name fs)
  fixed-added no_fields name fs i before nodes end all size so fixed sized =
      let left = so.left in
      let made = so.made in
      let sum : with_both round_up (Some all) (Some end) ≡ Some size =
      ap (λ (a : Option ℕ). with_both round_up a (Some end)) made.align_is ∙ ap (with_both round_up (struct_align (extents fs))) made.end_is ∙ sized in
      canonical before nodes _ (struct name fs)
      (structure-made fs nodes before (length before) (members_in fs) i end all (Some (structure_node size all (members_in fs) (length before) 0 0)) made refl refl (let long = so.longer in omega arith) so.kept so.filled so.exact (omega arith) (sum, refl) name)
  fixed-added (field n t s a rest) name fs i before nodes end all size so fixed sized =
      let first = first-is t s a (have_fixed_nodes rest) fixed in
      let whole = both-known round_up (struct_align (extents fs)) (end_of_members (Some 0) (extents fs)) size sized in
      let ends = ends-known (end_after (Some end) (extent_in t s a)) (extents rest) whole.1 (so.made.end_is ∙ whole.3) in
      let next = step fs n t s a rest i before nodes end all ends.0 so first.fixed first.size_valid first.align_valid ends.1 (added t nodes (fixed-host t first.fixed)) in
      fixed-added rest name fs (i + 1) before next.nodes ends.0 next.all size next.so first.rest sized

  runtime-added : (rest : Fields) (name : List ℕ) (fs : Fields) (i : ℕ) (before nodes : List Node) (end all : ℕ) → AreSo fs rest i before nodes end all → end_in_runtime_array (Some end) rest ≡ true
      → Grows before (struct name fs)
  runtime-added no_fields name fs i before nodes end all so h = absurd (false≢true h)
  runtime-added (field n t s a no_fields) name fs i before nodes end all so h =
      let last = last-runtime t s a (Some end) h in
      last-added fs n t s a i before nodes end all name so last.runtime last.unsized last.align_valid last.placed (added t nodes (runtime-host t last.runtime))
  runtime-added (field n t s a (field m u y k rest)) name fs i before nodes end all so h =
      let first = first-is t s a (end_in_runtime_array (end_after (Some end) (extent_in t s a)) (field m u y k rest)) h in
      let ends = known-from (end_after (Some end) (extent_in t s a)) (field m u y k rest) first.rest in
      let next = step fs n t s a (field m u y k rest) i before nodes end all ends.0 so first.fixed first.size_valid first.align_valid ends.1 (added t nodes (fixed-host t first.fixed)) in
      runtime-added (field m u y k rest) name fs (i + 1) before next.nodes ends.0 next.all next.so (subst (λ (o : Option ℕ). end_in_runtime_array o (field m u y k rest) ≡ true) ends.1 first.rest)

-- the table of a type is its layout, and a table
pub table-is : (t : Ty) → has_nodes t ≡ true → IsNodeOf (table t) 0 t × IsTable (table t)
table-is t host =
    let made = added t (empty_node ∷ []) host in
    let is = root-exact empty_node t ((empty_node ∷ []) ++ below 1 t) (node_of t 1) made in
    (rw (← is) (root-made empty_node t ((empty_node ∷ []) ++ below 1 t) (node_of t 1) made), rw (← is) (root-table empty_node t ((empty_node ∷ []) ++ below 1 t) (node_of t 1) refl made))
