use Rattle.std.proofs.Common.{◌≡◌, false, true, ap, ◌∙◌, sym}
use Rattle.std.specs.Prelude.{option_map}
use Rattle.std.specs.Map.{lookup}
use Rattle.byte_defs.specs.Choices.{is_some_and}
use Rattle.stmt_codec.specs.Views.{claim}
use Rattle.claim_index.specs.declared.key.Key.{Key}
use Rattle.claim_index.specs.Keys.{same_key}
use Rattle.claim_firsts.specs.Tables.{Table}
use Rattle.claim_firsts.specs.Entries.{kept_claim}
use Rattle.claim_firsts.specs.First.{is_again, is_first}
use Rattle.claim_firsts.proofs.Entries.{looked-up}
use Rattle.claim_firsts.proofs.First.{first-again, first-valid}
use Rattle.claim_firsts.proofs.firsts.Firsts.knows.Goals as goal

pub returns-in-Some : goal.returns-in-Some
returns-in-Some c =
    let d = claim c.args.claim.now in
    let first : c.is_same.result ≡ is_first c.args.self.now d =
    c.is_same.ensures ∙ ap (is_again d) c.claim.ensures
    ∙ ap (λ o. is_some_and o (is_again d))
    (ap (option_map kept_claim) c.in-Some.ensures
    ∙ ap (λ (k : Key). option_map kept_claim (lookup (same_key k) c.self.inside.firsts.entries)) c.key_of.ensures
    ∙ looked-up d c.self.inside.firsts.entries c.self.invariant.firsts)
    ∙ ap (λ (t : Table). is_first t d) c.self.view_is in
    record {
      first = first;
      valid = λ s claims own saw known. first-valid c.args.self.now d (sym first ∙ known) s claims own saw;
      again = λ s claims own saw known. first-again c.args.self.now d (sym first ∙ known) s claims own saw;
    }

pub returns-in-None : goal.returns-in-None
returns-in-None c =
    let d = claim c.args.claim.now in
    record {
      first = ap (λ o. is_some_and o (is_again d))
          (ap (option_map kept_claim) c.in-None.ensures
          ∙ ap (λ (k : Key). option_map kept_claim (lookup (same_key k) c.self.inside.firsts.entries)) c.key_of.ensures
          ∙ looked-up d c.self.inside.firsts.entries c.self.invariant.firsts)
          ∙ ap (λ (t : Table). is_first t d) c.self.view_is;
      valid = λ s claims own saw known. absurd (let e : false ≡ true = known in cc);
      again = λ s claims own saw known. absurd (let e : false ≡ true = known in cc);
    }
