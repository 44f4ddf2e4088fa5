use Rattle.proof_lines.proofs.lines.push_player.Goals as goal

pub returns : goal.returns
returns c = λ s d is. c.push_views.ensures s d.now (c.state.ensures.state s d.now (c.core.ensures s d is))
