use Rattle.std.proofs.Common.{List, ap, ◌∙◌}
use Rattle.std.specs.List.{list_all}
use Rattle.group_defs.specs.Process.{Letter}
use Rattle.group_defs.specs.Accounts.{is_in_order}
use Rattle.sound_question.proofs.order.is_sound_in.Goals as goal

pub returns : goal.returns
returns c = c.is_in_order.ensures ∙ ap (λ (ds : List Letter). list_all (λ d. is_in_order ds d.message.sender) ds) c.sequence_in.ensures
