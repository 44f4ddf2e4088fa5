use Rattle.std.proofs.Common.{◌∷◌, [], subst, sym}
use Rattle.trace_defs.specs.Outcomes.{Seen}
use Rattle.trace_defs.specs.Happenings.{Takes}
use Rattle.happenings.specs.Reported.{handed, WasReported}
use Rattle.happenings.proofs.Sightings.{outcome_is_seen}
use Rattle.replay_world.proofs.world.tell.Goals as goal

pub returns-clause-tells : goal.returns-clause-tells
returns-clause-tells c = λ o is.
    let P : Seen → Type 0 = λ x. WasReported c.args.reported.now (Takes c.args.at (handed c.args.handed) c.args.first x ∷ []) c.add.new.self in
    subst P (sym (outcome_is_seen o c.args.outcome c.in_ok-seen.seen is c.in_ok-seen.ensures.seen)) c.in_ok-add.ensures
