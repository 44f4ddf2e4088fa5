use Rattle.std.proofs.Common.{map, subst, sym}
use Rattle.snapshot_rp.specs.Views.{perceived}
use Rattle.ending_rules.specs.Perceiving.{IsPerceivedOf}
use Rattle.image_parts.proofs.Entries.{all-reported}
use Rattle.image_parts.proofs.asked.asked_in.Goals as goal

pub returns : goal.returns
returns c = λ p at is. subst (λ set. IsPerceivedOf set p) (sym c.put_each.ensures)
    (all-reported c.args.number c.new-set.result (map perceived c.args.perceived.now) c.new-set.ensures p at is)
