use Rattle.std.proofs.Common.{◌∙◌}
use Rattle.node_traces.specs.Seen.{link_seen}
use Rattle.node_receiving.proofs.Links.{receives-so}
use Rattle.node_receiving.proofs.fetching.fetch.Goals as goal

pub returns-clause-step : goal.returns-clause-step
returns-clause-step g c = receives-so c.recv.result (link_seen g.L.Link.sent g.L.Link.coming g.L.Link.faults c.args.link.now)
    (link_seen g.L.Link.sent g.L.Link.coming g.L.Link.faults c.recv.new.self) c.args.port c.recv.new.into (c.recv.auto.into ∙ c.requires.room)
    c.recv.ensures.got c.recv.ensures.sent c.recv.ensures.err c.recv.ensures.cause
