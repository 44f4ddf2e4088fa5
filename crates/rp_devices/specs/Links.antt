-- A link in memory.
use Rattle.std.specs.Prelude.{◌≡◌, ◌≢◌, ℕ, List, ◌∷◌, map, filter, ◌==◌, Vec}
use Rattle.std.specs.declared.alloc.Global.{Global}
use Rattle.rp_devices.specs.declared.calls.Calls.{Calls}
use Rattle.rp_devices.specs.declared.mem_link.Datagram.{Datagram}
use Rattle.rp_devices.specs.declared.mem_link.MemLink.{MemLink}

abbrev pub link_calls : MemLink → Calls
link_calls l = l.calls

-- a datagram with its port
abbrev pub ported : Datagram → ℕ × List ℕ
ported d = (d.port, d.bytes.items)

abbrev pub all_of : Vec Datagram Global → List (ℕ × List ℕ)
all_of v = map ported v.items

-- what was sent
abbrev pub link_sent : MemLink → List (ℕ × List ℕ)
link_sent l = all_of l.sent

-- those of a port, in order
abbrev pub on_port : List (ℕ × List ℕ) → ℕ → List (List ℕ)
on_port all port = map (λ d. d.1) (filter (λ d. d.0 == port) all)

-- what is coming on each port
abbrev pub link_coming : MemLink → ℕ → List (List ℕ)
link_coming l port = on_port (all_of l.coming) port

-- the first one of a port is taken, and those of other ports stay
pub record TakesFirst (old new : List (ℕ × List ℕ)) (port : ℕ) (bytes : List ℕ) : Type 0 where
  pub first : on_port old port ≡ bytes ∷ on_port new port
  pub others : (q : ℕ) → q ≢ port → on_port new q ≡ on_port old q
