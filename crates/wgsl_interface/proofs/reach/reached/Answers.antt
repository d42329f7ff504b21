use Rattle.std.proofs.Common.{◌≡◌, ◌<◌, ◌∷◌, [], ◌++◌, ℕ, List, Bool, length, length-append, get_or, take, ◌-◌, ◌↔◌, Vec, Global, ◌∙◌, ap, sym, subst, arith}
use Rattle.std.specs.Prelude.{map}
use Rattle.std.specs.List.{Contains}
use Rattle.std.specs.Vec.{vec_items}
use Rattle.std.proofs.lemmas.Result.{IfOk-weaker}
use Rattle.std.proofs.lemmas.List.{get_or-map, length-map}
use Rattle.wgsl_interface.specs.Marks.{IsMarked}
use Rattle.wgsl_interface.specs.Reach.{Reaches}
use Rattle.wgsl_interface.proofs.Searches.{Searches, searches_first, searches_on, start_first, start_kept, last_within, all_left, numbers-reached}
use Rattle.wgsl_interface.proofs.reach.reached.Goals as goal

pub loop-declaration-init : goal.loop-declaration-init
loop-declaration-init c =
    let uses : List (List ℕ) = map (vec_items {X = ℕ} {Z = Global}) c.args.uses.now in
    let count : length uses ≡ length c.args.uses.now = length-map c.args.uses.now vec_items in
    rw (c.in_ok-reach.ensures.marks, c.in_ok-reach.ensures.pending, c.in_ok-search.ensures.marks, c.in_ok-search.ensures.pending) (record {
      searches = searches_first uses c.args.from (length c.args.uses.now) (sym count);
      start = start_first (length c.args.uses.now) c.args.from;
    })

pub bounds-uses-declaration : goal.bounds-uses-declaration
bounds-uses-declaration c = last_within (map (vec_items {X = ℕ} {Z = Global}) c.args.uses.now) c.args.from (length c.args.uses.now) c.loop-declaration.search.marks.items c.loop-declaration.search.pending.items c.pop.new.self.items c.in-Some.declaration (length-map c.args.uses.now vec_items) c.in-Some.ensures.items c.loop-declaration.invariant.searches

pub offset_bounds-uses-declaration : goal.offset_bounds-uses-declaration
offset_bounds-uses-declaration c =
    let below : c.in-Some.declaration < length c.args.uses.now = last_within (map (vec_items {X = ℕ} {Z = Global}) c.args.uses.now) c.args.from (length c.args.uses.now) c.loop-declaration.search.marks.items c.loop-declaration.search.pending.items c.pop.new.self.items c.in-Some.declaration (length-map c.args.uses.now vec_items) c.in-Some.ensures.items c.loop-declaration.invariant.searches in
    omega arith

pub loop-declaration-smaller : goal.loop-declaration-smaller
loop-declaration-smaller c =
    let marks : List Bool = c.loop-declaration.search.marks.items in
    let pending : List ℕ = c.pop.new.self.items in
    let ns : List ℕ = c.as_slice.result.now in
    let before : length c.loop-declaration.search.pending.items ≡ length (pending ++ c.in-Some.declaration ∷ []) = ap length c.in-Some.ensures.items in
    rw (c.in_ok-reach_all.ensures.marks, c.in_ok-reach_all.ensures.pending) (omega (arith, before, length-append pending (c.in-Some.declaration ∷ []), all_left marks pending ns))

pub loop-declaration-preserved : goal.loop-declaration-preserved
loop-declaration-preserved c =
    let uses : List (List ℕ) = map (vec_items {X = ℕ} {Z = Global}) c.args.uses.now in
    let count : ℕ = length c.args.uses.now in
    let marks : List Bool = c.loop-declaration.search.marks.items in
    let all : List ℕ = c.loop-declaration.search.pending.items in
    let pending : List ℕ = c.pop.new.self.items in
    let d : ℕ = c.in-Some.declaration in
    let below : d < count = last_within uses c.args.from count marks all pending d (length-map c.args.uses.now vec_items) c.in-Some.ensures.items c.loop-declaration.invariant.searches in
    let named : c.as_slice.result.now ≡ get_or uses d [] =
    c.as_slice.ensures.value
    ∙ ap (vec_items {X = ℕ} {Z = Global}) c.index-uses-declaration.is
    ∙ sym (get_or-map vec_items c.args.uses.now d c.index-uses-declaration.result [] below) in
    rw (c.in_ok-reach_all.ensures.marks, c.in_ok-reach_all.ensures.pending, named) (record {
      searches = searches_on uses c.args.from marks all pending d c.in-Some.ensures.items c.loop-declaration.invariant.searches;
      start = start_kept marks (get_or uses d []) count c.args.from c.loop-declaration.invariant.start;
    })

pub returns-clause-reached : goal.returns-clause-reached
returns-clause-reached c =
    let uses : List (List ℕ) = map (vec_items {X = ℕ} {Z = Global}) c.args.uses.now in
    let count : ℕ = length c.args.uses.now in
    let marks : List Bool = c.loop-declaration.search.marks.items in
    let pending : List ℕ = c.loop-declaration.search.pending.items in
    let end = c.in_default.ensures in
    let none : pending ≡ [] = end.items ∙ ap (λ (ps : List ℕ). ps ++ []) (end.rest ∙ ap (λ (k : ℕ). take (k - 1) pending) end.cases.0) in
    let P = λ (ps : List ℕ). Searches uses c.args.from marks ps in
    let searches = subst P none c.loop-declaration.invariant.searches in
    IfOk-weaker c.marked_numbers.result (λ (numbers : Vec ℕ Global). (n : ℕ) → Contains numbers.items n ↔ IsMarked c.as_slice-2.result.now n) (λ (numbers : Vec ℕ Global). (n : ℕ) → Contains numbers.items n ↔ ((n < count) × Reaches uses c.args.from n))
    (λ numbers known. numbers-reached uses c.args.from count marks numbers.items (sym (length-map c.args.uses.now vec_items)) searches c.loop-declaration.invariant.start (rw (← c.as_slice-2.ensures.value) known)) c.marked_numbers.ensures.marked
