use Rattle.rp_base.specs.PidsLeft.{pids_left}
use Rattle.auth_link.specs.Keys.{known}
use Rattle.node_defs.specs.Casts.{known_of}
use Rattle.node_keys.proofs.Sharing.{Shares}
use Rattle.node_keys.proofs.link.link_keys.Given as goal

abbrev pub invariant-loop-peer : goal.invariant-loop-peer
invariant-loop-peer l = Shares (known_of l.kit l.me) (known l.keys) (pids_left l.peer-iterator)
