use Rattle.resume_laws.proofs.Traces.{resumes_trace_alike_by as proved}
use Rattle.resume_laws.proofs.resumes_trace_alike_by.Goals as goal

pub returns : goal.returns
returns c = proved
