use Rattle.replay_questions.proofs.ReportedWords.{groups_words, no_groups_words}
use Rattle.replay_questions.proofs.groups.are_groups_of_words.Goals as goal

pub groups-preserved : goal.groups-preserved
groups-preserved c = λ carries rest.
    c.groups.invariant carries (groups_words c.args.players.now carries _ _ _ c.in-Some.ensures.steps
    (c.is_group_of_words.ensures c.if-not-is_group_of_words.false carries) rest)

pub returns : goal.returns
returns c = λ is carries. c.groups.invariant carries (no_groups_words c.args.players.now carries _ c.in_default.ensures.steps.0)
