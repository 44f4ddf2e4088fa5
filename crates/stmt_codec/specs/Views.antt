-- What the code holds, as plain data.
use Rattle.message_defs.specs.Packing.{Signed}
pub use Rattle.statements.specs.Views.{message, report, stmt, slot, claim, carried}
use Rattle.stmt_codec.specs.declared.own.OwnClaim.{OwnClaim}

-- a claim whose statement and signature are bytes of its own, as it is in a frame
abbrev pub signed : OwnClaim → Signed
signed c = record { statement = c.statement; signer = c.signer; signature = c.signature }
