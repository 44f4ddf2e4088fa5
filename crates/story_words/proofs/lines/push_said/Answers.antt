use Rattle.std.proofs.Common.{◌∷◌, codes, map}
use Rattle.std.specs.Fmt.{decimal}
use Rattle.story_words.specs.Words.{spelled}
use Rattle.story_words.proofs.Parts.{ended}
use Rattle.story_words.proofs.lines.push_said.Goals as goal

pub returns : goal.returns
returns c =
    ended (codes " " ∷ decimal c.args.at
    ∷ map spelled c.args.words.now) c.args.out.now.items c.begin_said.new.out.items c.end_line.new.out.items c.in_ok-begin_said.ensures
    c.in_ok-end_line.ensures
