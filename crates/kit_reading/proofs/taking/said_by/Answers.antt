use Rattle.std.proofs.Common.{ap, ◌∙◌}
use Rattle.text_codec.specs.Views.{parts_left}
use Rattle.kit_defs.specs.KitReading.{line_by}
use Rattle.kit_reading.proofs.taking.said_by.Goals as goal

pub returns-clause-said : goal.returns-clause-said
returns-clause-said c = c.line_by.ensures ∙ ap (λ m. line_by m (parts_left c.args.words)) c.reported.ensures.value
