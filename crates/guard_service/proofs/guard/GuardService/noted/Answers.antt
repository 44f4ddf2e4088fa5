use Rattle.std.proofs.Common.{[], ◌∷◌, refl}
use Rattle.node_defs.specs.Nodes.{NotesOf}
use Rattle.node_service.specs.Words.{note}
use Rattle.guard_service.proofs.Heard.{adds_nothing, tells_nothing}
use Rattle.guard_service.proofs.guard.GuardService.noted.Goals as goal

pub returns-clause-tells : goal.returns-clause-tells
returns-clause-tells c = λ cast p now h are is.
    tells_nothing c.args.self.now h cast are (now ∷ []) (NotesOf p (note c.args._note.now)) c.args._lines.now.items refl

pub returns-clause-more : goal.returns-clause-more
returns-clause-more c = adds_nothing c.args._lines.now.items
