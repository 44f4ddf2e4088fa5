-- Ports that are open.
use Rattle.std.specs.Prelude.{◌≡◌, ℕ, ◌==◌, List, map, find, Vec, None}
use Rattle.std.specs.declared.alloc.Global.{Global}
use Rattle.udp_link.specs.declared.link.OpenPort.{OpenPort}

-- their numbers, in the order in which they were opened
abbrev pub ports_of : Vec OpenPort Global → List ℕ
ports_of v = map (λ o. o.port) v.items

-- none of these is on the port
abbrev pub IsClosed : List OpenPort → ℕ → Type 0
IsClosed ports port = find (λ o. o.port == port) ports ≡ None
