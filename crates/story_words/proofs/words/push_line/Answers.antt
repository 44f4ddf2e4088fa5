use Rattle.story_words.specs.Words.{spelled}
use Rattle.story_words.proofs.Parts.{one_and_more}
use Rattle.story_words.proofs.words.push_line.Goals as goal

pub returns : goal.returns
returns c =
    one_and_more (spelled c.args.first) c.args.words.now c.args.out.now.items c.push_word.new.out.items c.push_more.new.out.items
    c.end_line.new.out.items
    c.in_ok-push_word.ensures c.in_ok-push_more.ensures c.in_ok-end_line.ensures
