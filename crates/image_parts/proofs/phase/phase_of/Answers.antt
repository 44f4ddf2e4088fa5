use Rattle.std.proofs.Common.{◌∙◌, ℕ, List, sym, ap}
use Rattle.std.specs.Prelude.{IsTrue}
use Rattle.message_defs.specs.Updates.{Value}
use Rattle.message_defs.specs.Statements.{Ready}
use Rattle.group_defs.specs.Process.{Pool}
use Rattle.group_defs.specs.Certified.{is_certified}
use Rattle.rp_base.specs.Views.{value}
use Rattle.stmt_codec.specs.Views.{report}
use Rattle.image_parts.specs.InView.{EndsView}
use Rattle.image_parts.proofs.Phases.{decided-some}
use Rattle.image_parts.proofs.phase.phase_of.Goals as goal

-- what is decided is certified, and ends the view
abbrev Decides : Pool → List ℕ → ℕ → ℕ → ℕ × Value → Type 0
Decides h keyed me places d = IsTrue (is_certified h (Ready h.view.number d.0 d.1)) × EndsView h.view keyed me places d

pub returns-then-is_certified-clause-exact : goal.returns-then-is_certified-clause-exact
returns-then-is_certified-clause-exact c =
    let certified = c.is_certified.ensures.0 c.if-is_certified.true in
    let exact = c.decided_so.ensures.exact (value c.in-Some.value) certified in
    decided-some (Decides c.args.pool.now.pool c.args.keyed c.args.me c.args.places) (c.in-Some.rank, value c.in-Some.value) (report c.args.decision)
    _ (ap report c.in-Some.is) (λ ok. (certified, exact.0 ok), λ it. exact.1 it.1)

pub returns-else-is_certified-clause-exact : goal.returns-else-is_certified-clause-exact
returns-else-is_certified-clause-exact c =
    decided-some (Decides c.args.pool.now.pool c.args.keyed c.args.me c.args.places) (c.in-Some.rank, value c.in-Some.value) (report c.args.decision)
    _ (ap report c.in-Some.is) (λ no_way. absurd cc, λ it. sym c.if-is_certified.false ∙ c.is_certified.ensures.1 it.0)
