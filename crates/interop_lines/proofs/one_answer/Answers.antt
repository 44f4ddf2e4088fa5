use Rattle.interop_lines.proofs.KindLaws.{one_answer, run_alone}
use Rattle.interop_lines.proofs.one_answer.Goals as goal

pub returns : goal.returns
returns c = record { one = one_answer; apart = run_alone }
