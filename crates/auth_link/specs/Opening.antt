-- What was opened, as plain data.
use Rattle.std.specs.Prelude.{ℕ, List}
use Rattle.auth_link.specs.declared.datagram.Opened.{Opened}
use Rattle.auth_link.specs.declared.keys.LinkKeys.{LinkKeys}
use Rattle.auth_link.specs.Keys.{own_number, group_of}
use Rattle.link_defs.specs.Datagrams.{Datagram}

abbrev pub parts : Opened → ℕ × List ℕ
parts o = (o.from, o.frame.now)

-- the datagram in which a process sends a frame to another
abbrev pub sent_by : LinkKeys → ℕ → List ℕ → Datagram
sent_by keys to frame = record { group = group_of keys; from = own_number keys; to = to; frame = frame }
