use Rattle.std.proofs.Common.{map, refl}
use Rattle.node_defs.specs.Casts.{cast_of}
use Rattle.node_defs.specs.Nodes.{Serves}
use Rattle.guard_service.proofs.Heard.{adds_nothing, tells_nothing}
use Rattle.guard_service.proofs.guard.GuardService.start.Goals as goal

pub returns-clause-tells : goal.returns-clause-tells
returns-clause-tells c = λ version now h are hosts.
    tells_nothing c.args.self.now h (cast_of c.args._kit.now version) are (map now (cast_of c.args._kit.now version).hosted) Serves
    c.args._lines.now.items refl

pub returns-clause-more : goal.returns-clause-more
returns-clause-more c = adds_nothing c.args._lines.now.items
