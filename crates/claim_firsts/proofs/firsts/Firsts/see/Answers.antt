use Rattle.std.proofs.Common.{◌≡◌, List, [], ◌∷◌, ◌++◌, sym, ap, ◌∙◌, subst}
use Rattle.std.specs.Prelude.{IsTrue}
use Rattle.message_defs.specs.Statements as plain
use Rattle.group_defs.specs.Process.{Setting}
use Rattle.group_defs.specs.Hearing.{is_valid}
use Rattle.stmt_codec.specs.Views.{claim}
use Rattle.claim_firsts.specs.Seen.{Saw}
use Rattle.claim_firsts.specs.Seeing.{seeing}
use Rattle.claim_firsts.proofs.Results.{on-ok}
use Rattle.claim_firsts.proofs.Seeing.{saw-more}
use Rattle.claim_firsts.proofs.firsts.Firsts.see.Goals as goal

pub returns-clause-seen : goal.returns-clause-seen
returns-clause-seen c =
    on-ok (c.take.new.self ≡ seeing c.args.self.now (claim c.claim_again.result))
    ((s : Setting) (claims own : List plain.Claim) → Saw s claims own c.args.self.now → IsTrue (is_valid s (claim c.args.claim.now))
    → Saw s (claims ++ claim c.args.claim.now ∷ []) own c.take.new.self) c.take.result
    (λ e s claims own saw valid. subst (Saw s (claims ++ claim c.args.claim.now ∷ []) own)
    (sym (e ∙ ap (seeing c.args.self.now) c.claim_again.ensures))
    (saw-more s claims own c.args.self.now saw (claim c.args.claim.now) valid)) c.take.ensures.seen
