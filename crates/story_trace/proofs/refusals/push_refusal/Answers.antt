use Rattle.std.proofs.Common.{◌∷◌, ◌++◌, [], List, ℕ, codes}
use Rattle.std.specs.Fmt.{decimal}
use Rattle.text_defs.specs.Words.{line_text}
use Rattle.replay_defs.specs.Reports.{refusal_word}
use Rattle.happenings.specs.Events.{fault}
use Rattle.trace_defs.specs.Happenings.{handed_words}
use Rattle.trace_defs.specs.Outcomes.{refusal_reason, refusal_line}
use Rattle.happenings.specs.Reported.{handed}
use Rattle.story_words.proofs.Parts.{more_words, with_tail}
use Rattle.story_trace.proofs.Behind.{single}
use Rattle.story_trace.proofs.refusals.push_refusal.Goals as goal

pub returns : goal.returns
returns c =
    let head : List (List ℕ) = decimal c.args.at ∷ codes "refuses" ∷ [] in
    let what : List (List ℕ) = handed_words (handed c.args.handed) in
    let reason : List (List ℕ) = codes "as" ∷ refusal_word (fault c.args.fault) ∷ codes "since" ∷ refusal_reason (fault c.args.fault)
    ∷ [] in
    single line_text (refusal_line c.args.at what (fault c.args.fault)) c.args.out.now.items c.end_line.new.out.items
    (with_tail (codes " ") (head ++ what) reason c.args.out.now.items c.push_handed.new.out.items c.push_reason.new.out.items
    c.end_line.new.out.items
    (more_words (codes " ") head what c.args.out.now.items c.begin_said.new.out.items c.push_handed.new.out.items c.in_ok-begin_said.ensures
    c.in_ok-push_handed.ensures)
    c.in_ok-push_reason.ensures c.in_ok-end_line.ensures)
