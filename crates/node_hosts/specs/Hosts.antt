-- Which processes the hosts of a node are.
use Rattle.std.specs.Prelude.{◌≡◌, ◌≢◌, ℕ, ◌<◌, false, List, Option, None, Some, slice_index_or, IsTrue}
use Rattle.byte_defs.specs.Members.{has}
use Rattle.group_defs.specs.Process.{Process}
use Rattle.kit_defs.specs.Kits.{Kit}
use Rattle.node_defs.specs.Casts.{Cast}
use Rattle.node_hosts.specs.declared.host.Host.{Host}
use Rattle.node_hosts.specs.declared.hosts.Hosts.{Hosts}
use Rattle.node_hosts.specs.Places.{IsPlace}

-- the numbers of the hosted processes, rising
abbrev pub numbers_of : Hosts → List ℕ
numbers_of hosts = hosts.hosted

-- what is in the place of p
abbrev pub place_of : Hosts → ℕ → Option Host
place_of hosts p = slice_index_or hosts.places.items p None

-- These are the hosted processes of the cast, each as it is now. All are there but for the one that is handed out, if one is.
pub record AreHosts (c : Cast) (kit : Kit) (now : ℕ → Process) (out : Option ℕ) (hosts : Hosts) : Type 0 where
  pub numbers : numbers_of hosts ≡ c.hosted
  pub each : (p : ℕ) → p < 64 → out ≢ Some p → IsPlace c kit p (now p) (place_of hosts p)

-- Of the hosted processes of the cast these are here, each as it is now, and no other process is.
pub record HasHosts (c : Cast) (kit : Kit) (now : ℕ → Process) (here : List ℕ) (hosts : Hosts) : Type 0 where
  pub numbers : numbers_of hosts ≡ c.hosted
  pub each : (p : ℕ) → p < 64 → IsTrue (has here p) → IsPlace c kit p (now p) (place_of hosts p)
  pub others : (p : ℕ) → p < 64 → has here p ≡ false → place_of hosts p ≡ None
