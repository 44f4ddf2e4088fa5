use Rattle.text_codec.proofs.Cuts.{no_rest}
use Rattle.text_codec.proofs.parts.Parts.is_done.Goals as goal

pub returns : goal.returns
returns c = no_rest c.args.self.now.at c.args.self.now.rest c.is_none.result c.is_none.ensures
