use Rattle.std.proofs.Common.{◌≡◌, ◌++◌, drop, map}
use Rattle.std.specs.List.{flat_map}
use Rattle.rp_devices.specs.Links.{ported}
use Rattle.interop_runs.specs.Telling.{further_word}
use Rattle.interop_runs.proofs.telling.push_further.Given as goal

-- with those that are left, all are told
abbrev pub invariant-loop-datagram : goal.invariant-loop-datagram
invariant-loop-datagram l = l.out.items ++ flat_map further_word (map ported (drop l.datagram-index l.datagrams))
    ≡ l.fn.out.items ++ flat_map further_word (map ported l.fn.datagrams)
