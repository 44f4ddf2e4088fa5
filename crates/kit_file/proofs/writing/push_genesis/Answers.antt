use Rattle.std.proofs.Common.{◌∷◌, ◌++◌, codes, get_or, ap, ◌∙◌}
use Rattle.std.specs.Fmt.{decimal}
use Rattle.text_defs.specs.Words.{space}
use Rattle.kit_file.proofs.Texts.{word_more}
use Rattle.kit_file.proofs.writing.push_genesis.Goals as goal

pub loop-member-preserved : goal.loop-member-preserved
loop-member-preserved c =
    c.in_ok-push_number_word.ensures
    ∙ ap (λ n. c.loop-member.out.items ++ space ∷ decimal n) (c.into.ensures ∙ c.get.ensures.value ∙ c.member-item.is)
    ∙ ap (λ t. t ++ space ∷ decimal (get_or c.args.members.now c.loop-member.member-index c.member-item.result)) c.loop-member.invariant
    ∙ word_more space c.args.out.now.items
    (codes "genesis") decimal c.args.members.now c.loop-member.member-index c.member-item.result c.loop-member-test.true
