use Rattle.std.proofs.Common.{ap, subst, ◌∙◌, arith}
use Rattle.std.specs.Prelude.{Result}
use Rattle.byte_defs.specs.Reads.{Gives}
use Rattle.message_defs.specs.declared.FrameFault.{FrameFault}
use Rattle.message_defs.specs.Statements as plain
use Rattle.message_defs.specs.Reading.{statement_of}
use Rattle.statements.specs.Views.{stmt}
use Rattle.statements.proofs.Grammar.{is_found, spelling_again}
use Rattle.statements.proofs.reading.read_statement.Goals as goal

pub returns-clause-found : goal.returns-clause-found
returns-clause-found c = is_found c.args.bytes.now c.read_any.result (λ i. omega (arith, c.type_inv.bytes i)) c.read_any.ensures

pub returns-clause-only : goal.returns-clause-only
returns-clause-only c = λ st fits e. subst (λ (read : Result plain.Statement FrameFault). Gives stmt c.read_any.result read)
    (ap statement_of e ∙ spelling_again st fits) c.read_any.ensures
