use Rattle.std.proofs.Common.{◌≡◌, ℕ, true, Some, ap, subst, sym}
use Rattle.std.specs.Prelude.{◌↔◌, IsTrue, Option}
use Rattle.message_defs.specs.Updates.{Value}
use Rattle.message_defs.specs.Statements.{Ready}
use Rattle.group_defs.specs.Process.{Pool}
use Rattle.group_defs.specs.Certified.{is_certified}
use Rattle.rp_base.specs.Views.{value}
use Rattle.member_events.specs.Below.{report}
use Rattle.heard_images.proofs.Ranks.{decided-none, decided-some}
use Rattle.heard_images.proofs.decided.is_decided.Goals as goal

-- what is certified of a rank and a value
abbrev Certifies : Pool → ℕ × Value → Type 0
Certifies h d = IsTrue (is_certified h (Ready h.view.number d.0 d.1))

pub returns-in-Some : goal.returns-in-Some
returns-in-Some c =
    subst (λ (o : Option (ℕ × Value)). IsTrue c.is_certified.result ↔ ((d : ℕ × Value) → o ≡ Some d → Certifies c.args.pool.now.pool d))
    (sym (ap report c.in-Some.is))
    (decided-some (Certifies c.args.pool.now.pool) (c.in-Some.rank, value c.in-Some.value) c.is_certified.result c.is_certified.ensures)

pub returns-in-None : goal.returns-in-None
returns-in-None c =
    subst (λ (o : Option (ℕ × Value)). IsTrue true ↔ ((d : ℕ × Value) → o ≡ Some d → Certifies c.args.pool.now.pool d))
    (sym (ap report c.in-None.is)) (decided-none (Certifies c.args.pool.now.pool))
