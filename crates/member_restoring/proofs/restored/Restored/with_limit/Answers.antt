use Rattle.image_defs.specs.Images.{process_of}
use Rattle.member_restoring.proofs.restored.Restored.with_limit.Goals as goal

pub returns-clause-is : goal.returns-clause-is
returns-clause-is g c s before i is = record {
  state = c.limited-state.ensures.is s (process_of s before i) is.state;
  group = is.group;
  roster = is.roster;
  kinds = is.kinds;
  signed = is.signed;
}
