use Rattle.schedule_file.specs.Views.{schedule}
use Rattle.story_cli.specs.Top.{trace_text}
use Rattle.story_cli.proofs.Given.{shown_so}
use Rattle.story_cli.proofs.giving.trace_of.Goals as goal

pub returns-clause-made : goal.returns-clause-made
returns-clause-made c =
    shown_so trace_text c.args.input.now c.in_ok-text.text.items (schedule c.in_ok-schedule.schedule) c.in_ok-schedule.ensures.fits
    c.in_ok-schedule.ensures.given c.in_ok-text.ensures
