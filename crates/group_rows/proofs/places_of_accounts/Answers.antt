use Rattle.group_rows.proofs.PlacesOfAccounts.{places_of_accounts}
use Rattle.group_rows.proofs.places_of_accounts.Goals as goal

pub returns : goal.returns
returns c = places_of_accounts
