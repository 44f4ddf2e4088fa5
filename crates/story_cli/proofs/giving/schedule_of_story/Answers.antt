use Rattle.std.proofs.Common.{inl}
use Rattle.story_cli.proofs.Given.{kept_by_memory, no_story_fault}
use Rattle.story_cli.proofs.giving.schedule_of_story.Goals as goal

pub returns-clause-refused : goal.returns-clause-refused
returns-clause-refused c = λ fault is.
    absurd (no_story_fault _ fault (kept_by_memory c.args.text.now c.in_ok-bytes.bytes.items _ c.in-Err.fault c.stop_of.result
    c.in_ok-bytes.ensures.made c.deref.ensures.value c.in-Err.ensures.only c.stop_of.ensures) is)

pub returns-clause-only : goal.returns-clause-only
returns-clause-only c =
    inl (kept_by_memory c.args.text.now c.in_ok-bytes.bytes.items _ c.in-Err.fault c.stop_of.result
    c.in_ok-bytes.ensures.made c.deref.ensures.value c.in-Err.ensures.only c.stop_of.ensures)
