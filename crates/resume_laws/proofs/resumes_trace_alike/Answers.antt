use Rattle.resume_laws.proofs.Traces.{resumes_trace_alike as proved}
use Rattle.resume_laws.proofs.resumes_trace_alike.Goals as goal

pub returns : goal.returns
returns c = proved
