use Rattle.std.proofs.Common.{◌==◌, ◌&&◌, sym, ◌∙◌}
use Rattle.replay_defs.specs.Schedules as plain
use Rattle.schedule_file.specs.Views.{listed}
use Rattle.picture_labels.proofs.Mapped.{any-map}
use Rattle.story_picture.proofs.arrows.is_corrupt.Goals as goal

pub returns : goal.returns
returns c =
    c.has_corrupt.ensures ∙ sym (any-map listed (λ (l : plain.Listed). (l.process == c.args.p) && l.corrupt) c.args.processes.now)
