use Rattle.std.proofs.Common.{◌≡◌, ◌∙◌, ap, List, ℕ, string_bytes}
use Rattle.wgsl_rules.specs.View.{struct_view, members_view}
use Rattle.wgsl_rules.specs.declared.ty.StructType.{out-StructType}
use Rattle.wgsl_rules.proofs.lemmas.Views.{struct_view-is}
use Rattle.wgsl_interface.specs.Faults.{faults_view, first_100, with_more, declaration_faults, struct_faults, asked_of_declarations}
use Rattle.wgsl_interface.specs.Shared.{is_storable}
use Rattle.wgsl_interface.specs.declared.faults.ShareFault.{ShareFault}
use Rattle.wgsl_interface.proofs.SharedTypes.{none-told, nil-declaration}
use Rattle.wgsl_interface.proofs.faults.struct_faults.Goals as goal

pub returns-clause-none : goal.returns-clause-none
returns-clause-none c = λ h.
    let t = struct_view c.args.ty.now in
    let is = struct_view-is c.args.ty.now in
    let walk = c.new-walk.result in
    let told : faults_view c.tell_struct.new.self.faults.items ≡ first_100 (declaration_faults t) =
    c.in_ok-tell_struct.ensures.faults
    ∙ ap (λ (items : List ShareFault). with_more (faults_view items) (struct_faults asked_of_declarations (string_bytes walk.path) t)) c.new-walk.ensures.faults
    ∙ ap (λ (p : List ℕ). first_100 (struct_faults asked_of_declarations p t)) c.new-walk.ensures.path in
    none-told c.tell_struct.new.self.faults.items (declaration_faults t) (is_storable t) told (rw is (nil-declaration (string_bytes (out-StructType c.args.ty.now).name) (members_view (out-StructType c.args.ty.now).members.items) (rw is at h)))
