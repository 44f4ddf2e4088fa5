use Rattle.std.proofs.Common.{◌≡◌, ℕ, ◌+◌, ap, ◌∙◌, ◌++◌, rules}
use Rattle.text_defs.specs.Words.{line_text}
use Rattle.trace_defs.specs.Outcomes.{frame_line, sent_line}
use Rattle.story_trace.proofs.Behind.{numbered_more}
use Rattle.story_trace.proofs.steps.push_sends.Goals as goal

pub loop-i-preserved : goal.loop-i-preserved
loop-i-preserved c =
    let is : c.in_ok-frame.frame ≡ c.args.first + c.loop-i.i = search rules in
    numbered_more (λ e. line_text (sent_line c.args.at e)) c.args.first c.args.sends.now c.loop-i.i c.index-sends-i.result
    c.args.out.now.items c.loop-i.out.items
    c.push_sent.new.out.items c.loop-i-test.true c.index-sends-i.is c.loop-i.invariant
    (c.in_ok-push_sent.ensures ∙ ap (λ (n : ℕ). c.loop-i.out.items ++ line_text (frame_line c.args.at n c.index-sends-i.result)) is)
