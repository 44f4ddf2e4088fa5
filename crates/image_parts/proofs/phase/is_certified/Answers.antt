use Rattle.std.proofs.Common.{ℕ}
use Rattle.std.specs.Prelude.{IsTrue}
use Rattle.message_defs.specs.Updates.{Value}
use Rattle.message_defs.specs.Statements.{Ready}
use Rattle.group_defs.specs.Process.{Pool}
use Rattle.group_defs.specs.Certified.{is_certified}
use Rattle.rp_base.specs.Views.{value}
use Rattle.image_parts.proofs.Phases.{of-one}
use Rattle.image_parts.proofs.phase.is_certified.Goals as goal

-- what is certified of a rank and a value
abbrev Certifies : Pool → ℕ × Value → Type 0
Certifies h d = IsTrue (is_certified h (Ready h.view.number d.0 d.1))

pub returns : goal.returns
returns c = of-one (Certifies c.args.pool.now.pool) (c.args.rank, value c.args.value) c.is_decided.result c.is_decided.ensures
