use Rattle.chain_laws.proofs.Commits.{commit_shows}
use Rattle.chain_laws.proofs.commit_shows.Goals as goal

pub returns : goal.returns
returns c = commit_shows
