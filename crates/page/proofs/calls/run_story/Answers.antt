use Rattle.std.proofs.Common.{sym, subst, arith}
use Rattle.rp_base.specs.Mem.{sink_bytes}
use Rattle.rp_base.specs.declared.mem_sink.MemSink.{MemSink}
use Rattle.page.specs.Answers.{IsNoSchedule, IsNoStory}
use Rattle.page.proofs.Whole.{no_schedule, no_story, read_so, taken_so}
use Rattle.page.proofs.calls.run_story.Goals as goal

pub returns-clause-story : goal.returns-clause-story
returns-clause-story c = λ five.
    subst (λ (s : MemSink). IsNoStory c.args.input.items (sink_bytes s))
    (sym (c.reported_at-reported.ensures.reported (λ zero. omega (arith, five, zero))))
    (no_story _ _ _ _ _ _ _ _ c.new-input.ensures.left c.new-errors.ensures.bytes (c.story-status.ensures.story five).2)

pub returns-clause-assembles : goal.returns-clause-assembles
returns-clause-assembles c = λ five.
    let none = c.story-status.ensures.story five in
    (none.0, none.1, taken_so _ _ _ _ _ _ _ _ c.new-input.ensures.left none.2)

pub returns-clause-schedule : goal.returns-clause-schedule
returns-clause-schedule c = λ seven.
    subst (λ (s : MemSink). IsNoSchedule c.args.input.items (sink_bytes s))
    (sym (c.reported_at-reported.ensures.reported (λ zero. omega (arith, seven, zero))))
    (no_schedule _ _ _ _ _ _ _ _ c.new-input.ensures.left c.new-errors.ensures.bytes (c.story-status.ensures.schedule seven).2)

pub returns-clause-reads : goal.returns-clause-reads
returns-clause-reads c = λ seven.
    let none = c.story-status.ensures.schedule seven in
    (none.0, none.1, read_so _ _ _ _ _ _ _ _ c.new-input.ensures.left none.2)
