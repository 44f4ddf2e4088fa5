use Rattle.std.proofs.Common.{◌≡◌, ◌-◌, ◌≤◌, false, length, map, drop}
use Rattle.group_defs.specs.Process.{Setting, Process}
use Rattle.group_defs.specs.Signing.{sign_kinds}
use Rattle.stmt_codec.specs.Views.{signed}
use Rattle.due_statements.specs.AskedOf.{kind_of}
use Rattle.member_state.specs.declared.marks.Before.{Before}
use Rattle.member_state.specs.declared.state.ProcessState.{ProcessState}
use Rattle.member_state.specs.Marks.{Stays}
use Rattle.member_state.specs.States.{IsStateOf, IsReal}
use Rattle.member_signing.specs.Signed.{IsSigned, IsUndecided}
use Rattle.member_signing.proofs.ByKind.{still}
use Rattle.member_signing.proofs.signing.sign_kinds.Given as goal

abbrev pub invariant-kinds : goal.invariant-kinds
invariant-kinds g l =
    ((s : Setting) (p : Process) → s.group ≡ l.group → length p.signed ≡ g.G.Tally.used l.fn.signer → IsStateOf s p l.fn.state
    → (q : Process) × IsSigned s p (still (g.G.Tally.total l.fn.signer - g.G.Tally.used l.signer) false q) l.state
    (g.G.Tally.total l.fn.signer) (g.G.Tally.used l.signer) (map signed l.fn.signed.items) (map signed l.signed.items) false
    × (sign_kinds s (g.G.Signer.signature l.fn.signer) (map kind_of (drop l.kind-index l.kinds))
    (g.G.Tally.total l.fn.signer - g.G.Tally.used l.signer) q
    ≡ sign_kinds s (g.G.Signer.signature l.fn.signer) (map kind_of l.kinds) (g.G.Tally.total l.fn.signer - g.G.Tally.used l.fn.signer) p))
    × IsReal l.state × IsUndecided l.state.phase × (g.G.Tally.total l.signer ≡ g.G.Tally.total l.fn.signer)
    × (g.G.Signer.signature l.signer ≡ g.G.Signer.signature l.fn.signer)
    × (g.G.Tally.used l.fn.signer ≤ g.G.Tally.used l.signer)
    × ((b : Before) (was : ProcessState) → Stays b was l.fn.state → Stays b was l.state) × (l.state.left ≡ l.fn.state.left)
    × (g.G.Signer.public l.signer ≡ g.G.Signer.public l.fn.signer)
