use Rattle.std.proofs.Common.{◌≡◌, length}
use Rattle.frame_codec.specs.Views as frames
use Rattle.message_defs.specs.Statements.{Statement}
use Rattle.message_defs.specs.Claims.{claims_on}
use Rattle.stmt_codec.specs.Looks.{looked}
use Rattle.stmt_codec.proofs.claims.check_signers.Given as goal

abbrev pub invariant-signatures : goal.invariant-signatures
invariant-signatures l = (st : Statement)
    → looked (claims_on st (frames.signatures_left l.fn.signatures)) ≡ looked (claims_on st (frames.signatures_left l.left))

abbrev pub decreases-signatures : goal.decreases-signatures
decreases-signatures l = length (frames.signatures_left l.left)
