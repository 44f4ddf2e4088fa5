use Rattle.letting_laws.proofs.Posting.{each_posts as proved}
use Rattle.letting_laws.proofs.each_posts.Goals as goal

pub returns : goal.returns
returns c = proved
