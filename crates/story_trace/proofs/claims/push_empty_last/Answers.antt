use Rattle.story_trace.proofs.claims.push_empty_last.Goals as goal

pub returns : goal.returns
returns c = rw (c.into.ensures, c.into-2.ensures) at c.push_said.ensures
