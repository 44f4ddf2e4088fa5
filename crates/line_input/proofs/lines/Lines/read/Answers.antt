use Rattle.line_input.proofs.Taken.{answered}
use Rattle.line_input.proofs.lines.Lines.read.Goals as goal

pub returns-clause-answers : goal.returns-clause-answers
returns-clause-answers g c =
    answered c.args.most (g.S.Source.left c.args.input.now) (g.S.Source.left c.read_on.new.input) c.args.self.now.ahead
    c.read_on.new.self.ahead c.take.new.self c.take.result c.in_ok-read_on.ensures.read c.in_ok-read_on.ensures.enough c.take.ensures
