use Rattle.std.proofs.Common.{◌≡◌, ◌∙◌, ap, [], ⊎_elim}
use Rattle.std.proofs.lemmas.Bool.{true≢false}
use Rattle.std.proofs.lemmas.Result.{IfOk-weaker}
use Rattle.wgsl_interface.specs.Faults.{first_100, asked_by, faults}
use Rattle.wgsl_interface.specs.Shared.{may_be_of}
use Rattle.wgsl_interface.specs.declared.faults.Asked.{Asked}
use Rattle.wgsl_interface.proofs.NoFaults.{sound, nil-faults}
use Rattle.wgsl_interface.proofs.SharedTypes.{none-told, sound-storage, sound-uniform, sound-workgroup, sound-private, sound-function}
use Rattle.wgsl_rules.specs.View.{type_view}
use Rattle.wgsl_interface.proofs.faults.share_faults.Goals as goal

pub returns-in-Storage-clause-none : goal.returns-in-Storage-clause-none
returns-in-Storage-clause-none c =
    let t = type_view c.args.ty.now in
    let access = c.args.access in
    let asked = asked_by c.args.space access in
    let is : sound asked t ≡ may_be_of c.args.space access t =
    ⊎_elim (λ e. rw e (sound-storage access t)) (λ o. ⊎_elim (λ e. rw e (sound-uniform access t)) (λ e. rw e (sound-workgroup access t)) o) c.in-Storage.is in
    IfOk-weaker c.type_faults.result _ _
    (λ found h. none-told found.items (faults asked [] t) (may_be_of c.args.space access t) (h ∙ ap (λ (a : Asked). first_100 (faults a [] t)) c.by.ensures)
    (nil-faults asked [] t (λ e. absurd (true≢false e)) ∙ is))
    c.type_faults.ensures

pub returns-in-Private-clause-none : goal.returns-in-Private-clause-none
returns-in-Private-clause-none c =
    let t = type_view c.args.ty.now in
    let access = c.args.access in
    let asked = asked_by c.args.space access in
    let is : sound asked t ≡ may_be_of c.args.space access t =
    ⊎_elim (λ e. rw e (sound-private access t)) (λ e. rw e (sound-function access t)) c.in-Private.is in
    IfOk-weaker c.type_faults-in-Private.result _ _
    (λ found h. none-told found.items (faults asked [] t) (may_be_of c.args.space access t) (h ∙ ap (λ (a : Asked). first_100 (faults a [] t)) c.by-in-Private.ensures)
    (nil-faults asked [] t (λ e. absurd (true≢false e)) ∙ is))
    c.type_faults-in-Private.ensures
