use Rattle.std.proofs.Common.{[], ◌∷◌, ap, map}
use Rattle.node_defs.specs.Casts.{cast_of}
use Rattle.node_defs.specs.Nodes.{Asks}
use Rattle.node_service.specs.Answers.{named_by}
use Rattle.node_service.specs.Words.{event, note}
use Rattle.guard_service.proofs.Heard.{one_more}
use Rattle.guard_service.proofs.guard.GuardService.suspects.Goals as goal

pub returns-clause-names : goal.returns-clause-names
returns-clause-names c = λ version p now h are is.
    one_more h (cast_of c.args.kit.now version) (now ∷ [])
    (Asks p (event c.args.event.now) (map note c.args.notes.now) c.args.above) (named_by c.next_suspect.result) are
    (ap named_by (c.next_suspect.ensures.names (cast_of c.args.kit.now version) p now is))
