use Rattle.resume_laws.proofs.Resuming.{resumes_as_node_by as proved}
use Rattle.resume_laws.proofs.resumes_as_node_by.Goals as goal

pub returns : goal.returns
returns c = proved
