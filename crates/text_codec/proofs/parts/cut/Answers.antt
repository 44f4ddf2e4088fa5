use Rattle.text_codec.proofs.Cuts.{cut_there, not_cut}
use Rattle.text_codec.proofs.parts.cut.Goals as goal

pub returns-in-Some-clause-split : goal.returns-in-Some-clause-split
returns-in-Some-clause-split c = cut_there c.args.at c.args.text.now c.in-Some.place c.in-Some.ensures

pub returns-in-None-clause-split : goal.returns-in-None-clause-split
returns-in-None-clause-split c = not_cut c.args.at c.args.text.now c.in-None.ensures
