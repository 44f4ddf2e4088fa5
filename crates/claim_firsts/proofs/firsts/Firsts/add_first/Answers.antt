use Rattle.std.proofs.Common.{◌≡◌, List, map, refl, ap, ◌∙◌}
use Rattle.message_defs.specs.Statements as plain
use Rattle.claim_index.specs.declared.key.Key.{Key}
use Rattle.claim_firsts.specs.Tables.{Table, key}
use Rattle.claim_firsts.specs.Seeing.{contradicted, with_first}
use Rattle.claim_firsts.specs.Entries.{kept_claim}
use Rattle.claim_firsts.proofs.Entries.{added-claims, added-entries}
use Rattle.claim_firsts.proofs.firsts.Firsts.add_first.Goals as goal

abbrev with : List plain.Claim → List plain.Claim → List Key → Table
with firsts seconds answered = record { firsts = firsts; seconds = seconds; answered = answered }

pub invariant_of-self-2 : goal.invariant_of-self-2
invariant_of-self-2 c =
    let one : c.key_of-key.result ≡ key (kept_claim c.args.kept) = c.key_of-key.ensures ∙ ap key c.claim.ensures in
    record {
      firsts = added-entries (kept_claim c.args.kept) c.self.inside.firsts.entries c.reserve.new.self c.key_of-key.result c.args.kept
          c.insert.new.self.entries c.in_ok-reserve.ensures.entries one refl c.in-Ok.ensures.entries c.self.invariant.firsts
          (ap (λ (t : Table). contradicted t (kept_claim c.args.kept)) c.self.view_is ∙ c.requires.fresh) c.requires.range;
      seconds = c.self.invariant.seconds;
    }

pub returns-clause-added : goal.returns-clause-added
returns-clause-added c =
    let one : c.key_of-key.result ≡ key (kept_claim c.args.kept) = c.key_of-key.ensures ∙ ap key c.claim.ensures in
    ap (λ fs. with fs (map kept_claim c.self.inside.seconds.items) c.self.inside.answered.keys)
    (added-claims (kept_claim c.args.kept) c.self.inside.firsts.entries c.reserve.new.self c.key_of-key.result c.args.kept
    c.insert.new.self.entries c.in_ok-reserve.ensures.entries one refl c.in-Ok.ensures.entries c.self.invariant.firsts
    (ap (λ (t : Table). contradicted t (kept_claim c.args.kept)) c.self.view_is ∙ c.requires.fresh))
    ∙ ap (λ (t : Table). with_first t (kept_claim c.args.kept)) c.self.view_is
