-- The three parts in which an image is read, as plain data.
use Rattle.std.specs.Prelude.{ℕ, Bool, List, map, Option}
use Rattle.message_defs.specs.Updates.{Update, Value}
use Rattle.message_defs.specs.Statements.{Claim}
use Rattle.group_defs.specs.Process as plain
use Rattle.image_defs.specs.Images as images
use Rattle.member_events.specs.Below.{report}
use Rattle.snapshot_rp.specs.declared.reading.Reported.{Reported}
use Rattle.snapshot_rp.specs.declared.reading.Claimed.{Claimed}
use Rattle.snapshot_rp.specs.declared.reading.Settled.{Settled}
use Rattle.snapshot_rp.specs.Views.{left_view, perceived, delivered}

abbrev pub reported : Reported → ℕ × (List images.LeftView × (List (ℕ × Update) × List (List ℕ)))
reported t = (t.me, (map left_view t.left.items, (map perceived t.perceived.items, t.accepted.items)))

abbrev pub claimed : Claimed → List Claim × (List Claim × (List Claim × List (Claim × Claim)))
claimed c = (c.signed.items, (c.previous.items, (c.heard.items, c.conflicts.items)))

abbrev pub settled : Settled → List (List plain.Delivered) × (Option (ℕ × Value) × Bool)
settled s = (map (λ ds. map delivered ds.items) s.delivered.items, (report s.decision, s.halted))
