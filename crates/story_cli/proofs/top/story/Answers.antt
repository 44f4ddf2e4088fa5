use Rattle.std.proofs.Common.{◌≡◌, ℕ, List, sym, subst}
use Rattle.story_cli.specs.declared.commands.Command.{Command}
use Rattle.std.specs.Prelude.{IsSomeAnd}
use Rattle.story_cli.specs.Top.{Has, MadeInPart}
use Rattle.story_cli.proofs.Stopped.{at_write, at_story, at_schedule, has_schedule, has_story, no_memory, no_story, no_schedule, at_read, said, same_command, stopped_so, touched, unread_fault}
use Rattle.rp_base.specs.Streams.{WritesLine}
use Rattle.story_cli.proofs.top.story.Goals as goal

pub returns-in-Err-clause-part : goal.returns-in-Err-clause-part
returns-in-Err-clause-part g c = λ command asks four.
    let reported = said _ _ 4 (omega Rattle.std.proofs.Common.arith) four c.tell.ensures.reported in
    let is = at_write c.in-Err.stop reported.0 in
    subst (λ (x : Command). MadeInPart x (g.S.Source.left c.args.input.now) (g.S.Source.left c.run.new.input)
    (g.K.Sink.written c.args.output.now) (g.K.Sink.written c.run.new.output))
    (same_command _ command (c.in-Some.ensures.only command asks))
    (c.in-Err.ensures.part (stopped_so _ _ is))

pub returns-in-Err-clause-story : goal.returns-in-Err-clause-story
returns-in-Err-clause-story g c = λ five.
    let reported = said _ _ 5 (omega Rattle.std.proofs.Common.arith) five c.tell.ensures.reported in
    let at = at_story c.in-Err.stop reported.0 in
    let none = c.in-Err.ensures.story at.0 (stopped_so _ _ at.1) in
    (c.in-Some.command, c.in-Some.ensures.found, no_story _ _ _ _ _ _ _ c.in-Err.stop at.0 at.1 none reported.1)

pub returns-in-Err-clause-schedule : goal.returns-in-Err-clause-schedule
returns-in-Err-clause-schedule g c = λ seven.
    let reported = said _ _ 7 (omega Rattle.std.proofs.Common.arith) seven c.tell.ensures.reported in
    let at = at_schedule c.in-Err.stop reported.0 in
    let none = c.in-Err.ensures.schedule at.0 (stopped_so _ _ at.1) in
    (c.in-Some.command, c.in-Some.ensures.found, no_schedule _ _ _ _ _ _ _ c.in-Err.stop at.0 at.1 none reported.1)

pub returns-in-Err-clause-untouched : goal.returns-in-Err-clause-untouched
returns-in-Err-clause-untouched g c = touched _ c.in-Err.stop c.tell.ensures.write c.in-Err.ensures.untouched

pub returns-in-Err-clause-completes : goal.returns-in-Err-clause-completes
returns-in-Err-clause-completes g c = λ command asks has calm calm_sink.
    let same = same_command _ command (c.in-Some.ensures.only command asks) in
    let needs = subst (λ (x : Command). IsSomeAnd (g.S.Source.left c.args.input.now) (Has x)) (sym same) has in
    no_memory _ c.in-Err.stop c.tell.ensures.reported
    (λ is. calm (c.in-Err.ensures.read (stopped_so _ _ is)))
    (λ is. calm_sink (c.in-Err.ensures.write (stopped_so _ _ is)))
    (λ fault is. has_story _ _ _ fault (c.in-Err.ensures.story fault (stopped_so _ _ is)) needs)
    (λ fault is. has_schedule _ _ _ fault (c.in-Err.ensures.schedule fault (stopped_so _ _ is)) needs)

pub returns-in-Err-clause-read_line : goal.returns-in-Err-clause-read_line
returns-in-Err-clause-read_line g c = λ three.
    let reported = said _ _ 3 (omega Rattle.std.proofs.Common.arith) three c.tell.ensures.reported in
    subst (λ (line : List ℕ). WritesLine line (g.E.Sink.written c.args.errors.now) (g.E.Sink.written c.tell.new.errors)
    (g.E.Sink.faults c.args.errors.now) (g.E.Sink.faults c.tell.new.errors)) (at_read c.in-Err.stop reported.0) reported.1

pub returns-in-Err-clause-whole : goal.returns-in-Err-clause-whole
returns-in-Err-clause-whole g c = unread_fault _ c.in-Err.stop c.tell.ensures.reported c.in-Err.ensures.whole
