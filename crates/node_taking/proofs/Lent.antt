-- The host of a hosted process, as it is lent.
use Rattle.std.proofs.Common.{◌≡◌, ℕ, List, true≢false, Option, None, Some, sym, ap, ◌∙◌}
use Rattle.std.specs.Prelude.{◌≢◌, IsTrue}
use Rattle.byte_defs.specs.Members.{has}
use Rattle.kit_defs.specs.Kits.{Kit}
use Rattle.group_defs.specs.Process.{Process}
use Rattle.node_defs.specs.Casts.{Cast, cast_of}
use Rattle.sealing_laws.specs.Running.{AreHosts, Host, Hosts, IsHost, IsPlace, numbers_of}
use Rattle.node_taking.specs.Turns.{HasHosts}

nobody : (p : ℕ) → (let o : Option ℕ = None in o) ≢ Some p
nobody p same = cc

-- what `host` says
abbrev pub Lends : Hosts → ℕ → Option Host → Type 0
Lends hosts p o = (c : Cast) (kit : Kit) (now : ℕ → Process) (out : Option ℕ) → AreHosts c kit now out hosts → out ≢ Some p
    → IsPlace c kit p (now p) o

-- a hosted process has its host
pub not-missing : (kit : Kit) (hosts : Hosts) (p : ℕ) → HasHosts kit hosts → IsTrue (has (numbers_of hosts) p) → Lends hosts p None → ⊥
not-missing kit hosts p some hosted lends =
    let c : Cast = cast_of kit some.version in
    true≢false (sym hosted ∙ ap (λ ps. has ps p) some.are.numbers ∙ lends c kit some.now None some.are (nobody p))

-- it is that of the cast
pub host-is : (c : Cast) (kit : Kit) (now : ℕ → Process) (hosts : Hosts) (p : ℕ) (h : Host) → AreHosts c kit now None hosts
    → Lends hosts p (Some h) → IsHost c kit p (now p) h
host-is c kit now hosts p h are lends = (lends c kit now None are (nobody p)).1
