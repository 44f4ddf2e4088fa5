use Rattle.member_events.specs.Kept.{signatures_left}
use Rattle.member_core.specs.Events.{event}
use Rattle.member_core.specs.Cores.{left_of}
use Rattle.hosted_core.specs.Hosts.{core_of}
use Rattle.hosted_core.proofs.Absorbed.{absorbed-real}
use Rattle.hosted_core.proofs.hosted.Hosted.absorb.Goals as goal

pub returns-clause-real : goal.returns-clause-real
returns-clause-real g c = absorbed-real g.G.Tally.used (g.V.Scheme.valid c.args.scheme.now) c.args.self.now (record { core = c.absorb.new.self })
    (left_of g.G.Tally.used g.G.Tally.total (core_of c.args.self.now)) (event c.args.entry.now.event) (signatures_left c.args.entry.now.signatures)
    c.args.entry.now.spent c.absorb.result c.absorb.ensures.absorbs c.absorb.ensures.lost
