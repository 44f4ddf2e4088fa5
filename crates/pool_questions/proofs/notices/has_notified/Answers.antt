use Rattle.std.proofs.Common.{◌≡◌, ◌∙◌, sym, ap}
use Rattle.rp_base.specs.Views.{update}
use Rattle.pool_questions.proofs.Removals.{some-notified, none-notified}
use Rattle.pool_questions.proofs.notices.has_notified.Goals as goal

pub returns-in-Some : goal.returns-in-Some
returns-in-Some c = some-notified c.args.pool.now.pool c.notified.result.now (update c.in-Some.field-0) c.notified.ensures c.in-Some.ensures

pub returns-in-None : goal.returns-in-None
returns-in-None c = none-notified c.args.pool.now.pool c.notified.result.now c.notified.ensures c.in-None.ensures
