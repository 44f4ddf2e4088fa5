use Rattle.audit_laws.proofs.Spared.{honest_by_firsts}
use Rattle.audit_laws.proofs.honest_by_firsts.Goals as goal

pub returns : goal.returns
returns c = honest_by_firsts
