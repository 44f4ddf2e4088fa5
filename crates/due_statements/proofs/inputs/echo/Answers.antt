use Rattle.due_statements.proofs.Payloads.{heard-payload}
use Rattle.stmt_codec.specs.Views.{stmt}
use Rattle.due_statements.proofs.inputs.echo.Goals as goal

pub returns-in_default-payload_of : goal.returns-in_default-payload_of
returns-in_default-payload_of c s p st = absurd
    (heard-payload c.args.of.now.pool.now.pool c.in_ok-sender.sender c.view_of-view.result c.in_ok-sender.number
    (stmt c.in-Some.init) c.in-Some.ensures c.in_default-payload_of.ensures)
