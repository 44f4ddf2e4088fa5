use Rattle.member_signing.proofs.signing.is_due.Goals as goal

pub is_due-requires : goal.is_due-requires
is_due-requires c = c.rule_inputs.ensures.seated c.requires

pub returns : goal.returns
returns c s p is = c.is_due.ensures s p (c.rule_inputs.ensures.stands s p is)
