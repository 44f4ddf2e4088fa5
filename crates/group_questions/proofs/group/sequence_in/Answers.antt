use Rattle.std.proofs.Common.{sym, ap, ◌∙◌}
use Rattle.group_defs.specs.Process.{without_places}
use Rattle.group_questions.proofs.Longest.{sequence-of_group}
use Rattle.group_questions.proofs.group.sequence_in.Goals as goal

pub returns : goal.returns
returns c = ap without_places c.longest_in.ensures ∙ sym (sequence-of_group c.args.accounts.now c.args.x)
