use Rattle.std.proofs.Common.{refl, ◌∙◌}
use Rattle.line_input.proofs.BytesTaken.{piece_or_end}
use Rattle.line_input.proofs.lines.Lines.has_more.Goals as goal

pub returns-then-is_empty-clause-more : goal.returns-then-is_empty-clause-more
returns-then-is_empty-clause-more g c =
    piece_or_end c.args.self.now.ahead c.read_piece.new.self.ahead (g.S.Source.left c.read_piece.new.input) c.is_empty.result c.read_piece.result
    (c.is_empty.ensures ∙ rw c.ahead.ensures refl) c.if-is_empty.true c.read_piece.ensures.more
