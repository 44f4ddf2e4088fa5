use Rattle.std.proofs.Common.{[], ◌∷◌, map, refl}
use Rattle.node_service.specs.Histories.{cast_of}
use Rattle.node_service.specs.Words.{event, note}
use Rattle.store_service.proofs.Histories.{nobody}
use Rattle.store_service.proofs.servers.ServersService.suspects.Goals as goal

pub returns-clause-names : goal.returns-clause-names
returns-clause-names c = λ version p now h has is.
    nobody h c.args.self.now has (cast_of c.args._kit.now version) c.args.self.now (now ∷ []) p (event c.args._event.now)
    (map note c.args._notes.now) c.args._above refl refl
