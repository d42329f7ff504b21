use Rattle.std.proofs.Common.{◌≡◌, ◌<◌, ℕ, Some, length, ◌∙◌, ap, sym, subst}
use Rattle.std.proofs.lemmas.List.{length-set}
use Rattle.std.proofs.lemmas.Map.Text.{btree_map_updates_text}
use Rattle.std.proofs.lemmas.Option.{slice_get_read}
use Rattle.std.specs.BTreeMap.{get_by_text}
use Rattle.std.specs.String.{string_bytes}
use Rattle.wgsl_source.specs.NameTables.{map_of}
use Rattle.wgsl_source.proofs.NameTableLemmas.{name-added}
use Rattle.wgsl_source.proofs.name_table.NameTable.insert.Goals as goal

pub returns : goal.returns
returns c =
    let maps = c.args.self.now.maps.items in
    let name = string_bytes c.args.name in
    let at : ℕ = c.map_of-at.result in
    let old = c.index_mut.result.now in
    let new = c.insert.new.self in
    let counted : c.len.result ≡ length maps = c.len.ensures ∙ c.args.self.now.maps.ok.0 in
    let is : at ≡ map_of name (length maps) = c.map_of-at.ensures.map ∙ ap (λ t. map_of t c.len.result) c.as_str.ensures.value ∙ ap (map_of name) counted in
    let within : at < length maps = subst (λ (n : ℕ). at < n) counted c.map_of-at.ensures.within in (
      subst (λ (n : ℕ). 0 < n) (sym (length-set maps at new)) c.requires,
      name-added get_by_text maps old new name c.args.number at is within
          (slice_get_read maps c.len.result at old counted c.map_of-at.ensures.within c.index_mut.ensures.value)
          (btree_map_updates_text name old new (Some c.args.number) c.in_ok-insert.ensures.updates),
    )
