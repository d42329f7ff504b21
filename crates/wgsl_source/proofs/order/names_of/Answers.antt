use Rattle.std.proofs.Common.{◌≡◌, ◌<◌, ℕ, List, Option, Some, is_some, cond, length, ◌∙◌, ap, sym, subst}
use Rattle.std.specs.Str.{bytes_eq}
use Rattle.wgsl_source.specs.NameTables.{named_in}
use Rattle.wgsl_source.specs.declared.declaration.Declaration.{Declaration}
use Rattle.wgsl_source.specs.declared.declaration.Kind.TheVariants as kinds
use Rattle.wgsl_source.specs.declared.name_table.NameTable.{NameTable}
use Rattle.wgsl_source.specs.Faults.{KeepsFaults}
use Rattle.wgsl_source.specs.declared.fault.Faults.{Faults}
use Rattle.wgsl_source.proofs.FaultLemmas.{kept_then}
use Rattle.wgsl_source.proofs.NamedLemmas.{none_of, names-kept, names-added}
use Rattle.wgsl_source.proofs.order.names_of.Goals as goal
use Rattle.wgsl_source.proofs.order.names_of.Goals.{then-is_some+in_ok-add, else-is_some+in_ok-from_str+in_ok-insert}

pub loop-number-preserved : goal.loop-number-preserved
loop-number-preserved c =
    let d : Declaration = record { name = 0; kind = kinds.Struct 0 0; steps = record { token = 0; start = 0; end = 0 } } in
    let ds : List Declaration = c.args.module.now.declarations.items in
    let items : List Declaration = c.deref-declaration-items.result.now in
    let k : ℕ = c.loop-number.number in
    let get : List ℕ → Option ℕ = named_in c.loop-number.names in
    let text : List ℕ = c.text_at-name.result.now in
    let tested : c.is_some.result ≡ is_some (get text) = c.is_some.ensures ∙ ap is_some c.get.ensures in
    elim c.if-is_some.branch [
      | then-is_some+in_ok-add w ↦ (
        λ name.
            ap (λ m. named_in m name) w.names-is
            ∙ names-kept c.args.cursor ds items k d get text c.deref-declaration-items.ensures.value c.text_at-name.ensures c.loop-number-test.true c.loop-number.invariant.0 (sym tested ∙ w.if-is_some.true) name,
        λ some. subst (λ (m : NameTable). 0 < length m.maps.items) (sym w.names-is) (c.loop-number.invariant.1 some),
        subst (λ (f : Faults). KeepsFaults c.args.faults.now.faults.items f.faults.items) (sym w.faults-is) (kept_then c.args.faults.now.faults.items c.loop-number.faults.faults.items w.add.new.self.faults.items c.loop-number.invariant.2 w.add.ensures.kept),
      )
      | else-is_some+in_ok-from_str+in_ok-insert w ↦
          let after : (q : List ℕ) → named_in w.insert.new.self q ≡ cond (bytes_eq text q) (Some k) (get q) = λ q.
          w.in_ok-insert.ensures.1 q
          ∙ ap (λ t. cond (bytes_eq t q) (Some k) (get q)) w.in_ok-from_str.ensures.ok in (
            λ name.
                ap (λ m. named_in m name) w.names-is
                ∙ names-added c.args.cursor ds items k d get (named_in w.insert.new.self) text c.deref-declaration-items.ensures.value c.text_at-name.ensures c.loop-number-test.true c.loop-number.invariant.0 (none_of _ (sym tested ∙ w.if-is_some.false)) after name,
            λ _. subst (λ (m : NameTable). 0 < length m.maps.items) (sym w.names-is) w.in_ok-insert.ensures.0,
            subst (λ (f : Faults). KeepsFaults c.args.faults.now.faults.items f.faults.items) (sym w.faults-is) c.loop-number.invariant.2,
          )
    ]
