use Rattle.std.proofs.Common.{◌≡◌, ◌++◌, map}
use Rattle.std.specs.Prelude.{filter_map}
use Rattle.std.specs.List.{AllByRecursion}
use Rattle.rp_base.specs.PidsLeft.{pids_left}
use Rattle.claim_firsts.specs.Reported.{AreSpelled, conviction, conviction_by}
use Rattle.claim_firsts.proofs.firsts.Firsts.convictions_of.Given as goal

abbrev pub invariant-loop-q : goal.invariant-loop-q
invariant-loop-q l = (map conviction l.all.items ++ filter_map (conviction_by l.self) (pids_left l.q-iterator)
    ≡ filter_map (conviction_by l.self) l.fn.of) × AllByRecursion AreSpelled l.all.items
