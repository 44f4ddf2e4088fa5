use Rattle.std.proofs.Common.{◌∷◌, [], List, ℕ, codes}
use Rattle.std.specs.Fmt.{decimal}
use Rattle.text_defs.specs.Words.{line_text}
use Rattle.trace_defs.specs.Happenings.{handed_words}
use Rattle.trace_defs.specs.Outcomes.{claims_word, heard_line}
use Rattle.happenings.specs.Reported.{handed}
use Rattle.story_words.proofs.Parts.{with_tail}
use Rattle.story_trace.proofs.Behind.{single}
use Rattle.story_trace.proofs.steps.push_claims.Goals as goal

pub returns : goal.returns
returns c =
    let head : List (List ℕ) = decimal c.args.at ∷ codes "hears" ∷ decimal c.args.heard ∷ claims_word c.args.heard ∷ codes "in" ∷ [] in
    let what : List (List ℕ) = handed_words (handed c.args.handed) in
    single line_text (heard_line c.args.at what c.args.heard) c.args.out.now.items c.end_line.new.out.items
    (with_tail (codes " ") head what c.args.out.now.items c.begin_claims.new.out.items c.push_handed.new.out.items c.end_line.new.out.items
    c.in_ok-begin_claims.ensures c.in_ok-push_handed.ensures c.in_ok-end_line.ensures)
