use Rattle.std.proofs.Common.{◌≡◌, List, All, IsTrue, length, map}
use Rattle.std.specs.List.{list_all}
use Rattle.std.specs.Vec.Iter.{into_iter_items}
use Rattle.message_defs.specs.Packing.{signed_of}
use Rattle.message_defs.specs.Spelling.{IsStatement}
use Rattle.message_defs.specs.Statements as plain
use Rattle.group_defs.specs.Process.{Setting}
use Rattle.group_defs.specs.Hearing.{is_valid}
use Rattle.stmt_codec.specs.Views.{signed}
use Rattle.claim_firsts.specs.Seen.{Saw}
use Rattle.audit_claims.proofs.OwnWords.{Underway}
use Rattle.audit_claims.proofs.signing.see_signed.Given as goal

abbrev pub invariant-claims : goal.invariant-claims
invariant-claims l =
    (s : Setting) (before own said : List plain.Claim) → map signed_of said ≡ map signed l.fn.claims.items
    → All (λ c. IsStatement c.statement) said → IsTrue (list_all (is_valid s) said) → Saw s before own l.fn.all
    → Underway s before own said (into_iter_items l.left) l.all

abbrev pub decreases-claims : goal.decreases-claims
decreases-claims l = length (into_iter_items l.left)
