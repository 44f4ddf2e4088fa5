use Rattle.rule_laws.proofs.Once.{each_has_its_place}
use Rattle.rule_laws.proofs.each_has_its_place.Goals as goal

pub returns : goal.returns
returns c = each_has_its_place
