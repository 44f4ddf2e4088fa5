use Rattle.interop_signatures.proofs.TreeLaws.{sign_answers}
use Rattle.interop_signatures.proofs.trees.answer_tree.Goals as goal

pub returns-clause-answers : goal.returns-clause-answers
returns-clause-answers c = sign_answers _ _ _ _ _ _ _ _ c.in_ok-asked.ensures.read c.in_ok-make_and_sign.ensures
