use Rattle.node_defs.specs.Casts.{cast_of}
use Rattle.node_service.proofs.Nothing.{has_none}
use Rattle.node_service.proofs.silent.NoServiceService.word.Goals as goal

pub returns-clause-answers : goal.returns-clause-answers
returns-clause-answers c = λ version p now h are is.
    has_none c.args.self.now h (cast_of c.args._kit.now version) are p now c.args._line.now c.args._lines.now.items c.args._sends.now.items
