-- A link over sockets: how often it failed, and which ports are open.
use Rattle.std.specs.Prelude.{ℕ, List, None}
use Rattle.std.specs.declared.option.Option.{Option}
use Rattle.udp_link.specs.declared.link.UdpLink.{UdpLink}
use Rattle.udp_link.specs.Ports.{ports_of}

abbrev pub link_faults : {R S L : Type 0} → UdpLink R S L → ℕ
link_faults l = l.faults

-- the ports that `bind` opened, in order
abbrev pub open_ports : {R S L : Type 0} → UdpLink R S L → List ℕ
open_ports l = ports_of l.ports

-- it doesn't say what was sent, nor what is coming on each port
abbrev pub untold_sent : Option (List (ℕ × List ℕ))
untold_sent = None

abbrev pub untold_coming : Option (ℕ → List (List ℕ))
untold_coming = None
