-- How much a process delivers, and how far what it accepted is ahead of that.
use Rattle.std.specs.Prelude.{ℕ, ◌+◌, ◌*◌, ◌≤◌, List, length, All}
use Rattle.message_defs.specs.Limits.{most_messages, most_places}
use Rattle.group_defs.specs.Process.{Process, Left, Delivered, delivered_from, places_in, earlier}

-- at most 1,024 places, and at most 16 messages for each of them
pub record AreFew (ds : List Delivered) : Type 0 where
  pub places : places_in ds ≤ most_places
  pub messages : length ds ≤ most_messages * places_in ds

-- in each view so few were delivered, and at most 256 accepted payloads are not delivered yet
pub record IsBounded (p : Process) : Type 0 where
  pub now : AreFew p.delivered
  pub before : All (λ (v : Left). AreFew v.delivered) p.left
  pub backlog : length p.accepted ≤ earlier p + delivered_from p.me p.delivered + 256
