use Rattle.interop_signatures.specs.Views.{level_signing}
use Rattle.interop_signatures.proofs.LevelLaws.{not_made, sign_reported}
use Rattle.interop_signatures.proofs.levels.answer_levels.Goals as goal

pub returns-clause-answers : goal.returns-clause-answers
returns-clause-answers c =
    sign_reported c.make_and_sign.result c.args.levels.now c.args.typecode.now c.args.ots.now c.args.id.now c.args.seed.now c.args.number.now
    c.args.body.now
    (level_signing c.in_ok-asked.asked) c.in_ok-asked.ensures.read c.make_and_sign.ensures.made

pub returns-clause-no_question : goal.returns-clause-no_question
returns-clause-no_question c = λ e reported a.
    not_made c.args.levels.now c.args.typecode.now c.args.ots.now c.args.id.now c.args.seed.now c.args.number.now c.args.body.now reported
    (level_signing c.in_ok-asked.asked) c.in_ok-asked.ensures.read (c.make_and_sign.ensures.none e) a
