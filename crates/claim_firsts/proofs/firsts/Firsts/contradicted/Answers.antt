use Rattle.std.proofs.Common.{Some, ap, ◌∙◌}
use Rattle.std.specs.Prelude.{option_map}
use Rattle.std.specs.Map.{lookup}
use Rattle.stmt_codec.specs.Views.{claim}
use Rattle.conviction_defs.specs.Convictions.{is_conflict}
use Rattle.claim_index.specs.declared.key.Key.{Key}
use Rattle.claim_index.specs.Keys.{same_key}
use Rattle.claim_firsts.specs.Tables.{Table}
use Rattle.claim_firsts.specs.Seeing.{contradicted}
use Rattle.claim_firsts.specs.Entries.{kept_claim}
use Rattle.claim_firsts.proofs.Entries.{looked-up}
use Rattle.claim_firsts.proofs.firsts.Firsts.contradicted.Goals as goal

pub returns-in-Some : goal.returns-in-Some
returns-in-Some c =
    ap Some (c.is_conflict.ensures ∙ ap (is_conflict (claim c.args.claim.now)) c.claim.ensures)
    ∙ ap (option_map (is_conflict (claim c.args.claim.now)))
    (ap (option_map kept_claim) c.in-Some.ensures
    ∙ ap (λ (k : Key). option_map kept_claim (lookup (same_key k) c.self.inside.firsts.entries)) c.key_of.ensures
    ∙ looked-up (claim c.args.claim.now) c.self.inside.firsts.entries c.self.invariant.firsts)
    ∙ ap (λ (t : Table). contradicted t (claim c.args.claim.now)) c.self.view_is

pub returns-in-None : goal.returns-in-None
returns-in-None c =
    ap (option_map (is_conflict (claim c.args.claim.now)))
    (ap (option_map kept_claim) c.in-None.ensures
    ∙ ap (λ (k : Key). option_map kept_claim (lookup (same_key k) c.self.inside.firsts.entries)) c.key_of.ensures
    ∙ looked-up (claim c.args.claim.now) c.self.inside.firsts.entries c.self.invariant.firsts)
    ∙ ap (λ (t : Table). contradicted t (claim c.args.claim.now)) c.self.view_is
