use Rattle.std.proofs.Common.{◌≡◌, List, map, ap, ◌∙◌}
use Rattle.std.specs.Prelude.{filter_map}
use Rattle.message_defs.specs.Statements as plain
use Rattle.rp_base.specs.Rosters.{IsRising}
use Rattle.group_defs.specs.Process.{Setting}
use Rattle.conviction_defs.specs.Convictions.{convictions}
use Rattle.claim_firsts.specs.Seen.{Saw}
use Rattle.claim_firsts.specs.Reported.{conviction, conviction_by}
use Rattle.claim_firsts.proofs.Results.{if-ok}
use Rattle.claim_firsts.proofs.Reported.{all-reported}
use Rattle.claim_firsts.proofs.firsts.Firsts.convictions.Goals as goal

pub returns-clause-reported : goal.returns-clause-reported
returns-clause-reported c =
    if-ok (λ all. map conviction all.items ≡ filter_map (conviction_by c.args.self.now) c.convicted.result)
    (λ all. (s : Setting) (claims own : List plain.Claim) → IsRising s.roster → Saw s claims own c.args.self.now
    → map conviction all.items ≡ convictions s claims) c.convictions_of.result
    (λ all e s claims own rising saw. e ∙ ap (filter_map (conviction_by c.args.self.now)) (c.convicted.ensures s claims own rising saw)
    ∙ all-reported s claims own c.args.self.now saw) c.convictions_of.ensures.reported
