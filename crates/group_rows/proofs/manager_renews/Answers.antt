use Rattle.group_rows.proofs.ManagerRenews.{manager_renews}
use Rattle.group_rows.proofs.manager_renews.Goals as goal

pub returns : goal.returns
returns c = manager_renews
