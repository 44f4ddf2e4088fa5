use Rattle.std.proofs.Common.{subst, sym}
use Rattle.conviction.proofs.Few.{HasFew, few-claims}
use Rattle.conviction.proofs.reading.own_are_few.Goals as goal

pub returns-in-Bundle : goal.returns-in-Bundle
returns-in-Bundle c = few-claims c.args.frame.now (subst HasFew (sym c.in-Bundle.is) c.are_few.ensures)

pub returns-in-Proof : goal.returns-in-Proof
returns-in-Proof c = few-claims c.args.frame.now (subst HasFew (sym c.in-Proof.is) c.are_few-in-Proof.ensures)

pub returns-in-Want : goal.returns-in-Want
returns-in-Want c = few-claims c.args.frame.now (subst HasFew (sym c.in-Want.is) tt)
