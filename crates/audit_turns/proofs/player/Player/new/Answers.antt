use Rattle.std.proofs.Common.{◌≡◌, refl, ap, ◌∙◌}
use Rattle.rp_base.specs.Signer.{count_total}
use Rattle.audit_defs.specs.Players.{most_signatures}
use Rattle.audit_turns.proofs.player.Player.new.Goals as goal

most-are : 4294967295 ≡ most_signatures
unfolding most_signatures
most-are = refl

pub returns : goal.returns
returns c = record {
  starts = λ s shares. record {
    core = c.in_ok-core.ensures.starts s shares;
    number = refl;
    total = ap count_total c.in_ok-core.ensures.signer ∙ c.new-signer.ensures.total ∙ most-are;
    journal = refl;
    handed = c.new-2.ensures s;
  };
}
