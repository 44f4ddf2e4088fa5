use Rattle.std.proofs.Common.{[], ◌∷◌, map, refl}
use Rattle.node_defs.specs.Casts.{cast_of}
use Rattle.node_defs.specs.Nodes.{Asks, Done}
use Rattle.node_service.specs.Words.{event, note}
use Rattle.node_service.proofs.Nothing.{one_more}
use Rattle.node_service.proofs.silent.NoServiceService.suspects.Goals as goal

pub returns-clause-names : goal.returns-clause-names
returns-clause-names c = λ version p now h are is.
    one_more h (cast_of c.args._kit.now version) (now ∷ [])
    (Asks p (event c.args._event.now) (map note c.args._notes.now) c.args._above) Done are refl
