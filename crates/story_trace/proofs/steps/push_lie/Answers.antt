use Rattle.std.proofs.Common.{◌∷◌, codes}
use Rattle.text_defs.specs.Words.{line_text}
use Rattle.trace_defs.specs.Phrases.{spelled_words}
use Rattle.trace_defs.specs.Outcomes.{of_process, frame_line}
use Rattle.story_trace.proofs.Behind.{pair_of}
use Rattle.story_trace.proofs.steps.push_lie.Goals as goal

pub returns : goal.returns
returns c =
    pair_of line_text (of_process c.args.signer (codes "signs" ∷ spelled_words c.args.statement.now))
    (frame_line c.args.signer c.args.frame c.args.to)
    c.args.out.now.items c.push_signed.new.out.items c.push_sent.new.out.items c.in_ok-push_signed.ensures c.in_ok-push_sent.ensures
