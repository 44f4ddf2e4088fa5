use Rattle.std.proofs.Common.{ap, ◌∙◌}
use Rattle.std.specs.Prelude.{◌==◌}
use Rattle.std.specs.List.{list_any}
use Rattle.claim_firsts.specs.Tables.{Table}
use Rattle.claim_firsts.specs.Seeing.{has_second}
use Rattle.claim_firsts.specs.Entries.{kept_claim}
use Rattle.claim_firsts.proofs.Entries.{any-second}
use Rattle.claim_firsts.proofs.firsts.Firsts.has_second.Goals as goal

pub returns : goal.returns
returns c =
    c.is_signer.ensures ∙ ap (list_any (λ x. (kept_claim x).signer == c.args.q)) c.deref.ensures.value
    ∙ any-second c.args.q c.self.inside.seconds.items ∙ ap (λ (t : Table). has_second t c.args.q) c.self.view_is
