use Rattle.node_snapping.proofs.parts.image_of.Goals as goal

pub returns : goal.returns
returns c = λ k kit p now is. c.image_in.ensures k.setting now (c.state.ensures.state k.setting now (rw c.core-core.ensures is.process.core))
