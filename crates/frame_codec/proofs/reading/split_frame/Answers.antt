use Rattle.std.proofs.Common.{ap, subst, ◌∙◌, arith}
use Rattle.message_defs.specs.Frames.{frame_of}
use Rattle.byte_defs.specs.Reads.{Gives}
use Rattle.frame_codec.specs.Views.{frame_view}
use Rattle.frame_codec.proofs.Grammar.{is_found, frame_again}
use Rattle.frame_codec.proofs.reading.split_frame.Goals as goal

pub returns-clause-found : goal.returns-clause-found
returns-clause-found c = is_found c.args.bytes.now c.split.result (λ i. omega (arith, c.type_inv.bytes i)) c.split.ensures

pub returns-clause-only : goal.returns-clause-only
returns-clause-only c = λ f fits e. subst (λ r. Gives frame_view c.split.result r) (ap frame_of e ∙ frame_again f fits) c.split.ensures
