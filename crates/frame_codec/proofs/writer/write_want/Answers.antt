use Rattle.std.proofs.Common.{arith}
use Rattle.message_defs.specs.Frames.{Want}
use Rattle.frame_codec.proofs.Grammar.{frame_again}
use Rattle.frame_codec.proofs.writer.write_want.Goals as goal

pub returns-clause-again : goal.returns-clause-again
returns-clause-again c = rw (c.to_be_bytes.ensures, c.to_be_bytes-2.ensures)
    (frame_again (Want c.args.view c.args.place) (record { parts = (c.ranges.view.fits, c.ranges.place.fits); size = omega arith }))
