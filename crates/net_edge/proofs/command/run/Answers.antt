use Rattle.net_edge.proofs.command.run.Goals as goal

pub returns : goal.returns
returns g c = (c.in_ok-words.words, rw c.from.ensures c.program.ensures)
