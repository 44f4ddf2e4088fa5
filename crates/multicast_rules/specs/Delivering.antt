-- What a place delivers, without its payloads.
use Rattle.std.specs.Prelude.{List, map}
use Rattle.message_defs.specs.Statements.{Batch}
use Rattle.group_defs.specs.Process.{Delivered}

-- the messages of these deliveries, in order
abbrev pub batch_in : List Delivered → Batch
batch_in ds = map (λ d. d.message) ds
