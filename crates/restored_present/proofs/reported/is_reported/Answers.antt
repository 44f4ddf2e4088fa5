use Rattle.std.proofs.Common.{map, subst}
use Rattle.std.specs.Prelude.{◌↔◌, IsTrue}
use Rattle.restored_left.specs.Facts.{AreAccepted, AreConflicts, AreOwn, ArePerceived, as_setting, own_delivered}
use Rattle.snapshot_rp.specs.Views.{delivered, perceived, image as image_as}
use Rattle.restored_present.proofs.Judged.{reported-is}
use Rattle.restored_present.proofs.reported.is_reported.Goals as goal

pub returns : goal.returns
returns g c s shares =
    let i = c.args.image.now in
    let t = as_setting (g.V.Scheme.valid c.args.judge.now.scheme.now) c.args.judge.now.group.now c.args.judge.now.roster.now in
    let accepted = subst (λ ds. IsTrue c.are_accepted-accepted.result
    ↔ AreAccepted i.accepted.items (own_delivered i.me (map (λ es. map delivered es.items) ds))) c.deref-2.ensures.value
    (subst (λ ps. IsTrue c.are_accepted-accepted.result
    ↔ AreAccepted ps (own_delivered i.me (map (λ es. map delivered es.items) c.deref-2.result.now))) c.deref.ensures.value
    c.are_accepted-accepted.ensures) in
    let asked = subst (λ es. IsTrue c.are_perceived-perceived.result
    ↔ ArePerceived c.processes-keyed.result c.args.view.now (map perceived es)) c.deref-3.ensures.value c.are_perceived-perceived.ensures in
    let conflicts = subst (λ es. IsTrue c.are_conflicts-conflicts.result ↔ AreConflicts t es) c.deref-4.ensures.value
    c.are_conflicts-conflicts.ensures in
    let own = subst (λ cs. IsTrue c.are_own-own.result ↔ AreOwn t i.me c.args.view.now cs) c.deref-5.ensures.value c.are_own-own.ensures in
    reported-is s _ _ _ shares c.args.view.now (image_as i) c.processes-keyed.result c.hold.result c.are_accepted-accepted.result
    c.are_perceived-perceived.result c.are_conflicts-conflicts.result c.are_own-own.result c.processes-keyed.ensures.value c.hold.ensures
    accepted asked conflicts own
