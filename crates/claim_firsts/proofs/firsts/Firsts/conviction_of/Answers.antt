use Rattle.std.proofs.Common.{◌≡◌, ℕ, Some, sym, ap, subst, ◌∙◌}
use Rattle.std.specs.Prelude.{◌==◌, find, option_and_then, option_map}
use Rattle.std.specs.Map.{lookup}
use Rattle.message_defs.specs.Statements.{Claim}
use Rattle.message_defs.specs.Spelling.{IsStatement}
use Rattle.conviction_defs.specs.Convictions.{Conviction}
use Rattle.claim_index.specs.declared.key.Key.{Key}
use Rattle.claim_index.specs.Keys.{same_key}
use Rattle.claim_firsts.specs.Tables.{Table}
use Rattle.claim_firsts.specs.Reported.{conviction_by, conviction_with}
use Rattle.claim_firsts.specs.Entries.{kept_claim, table_of}
use Rattle.claim_firsts.specs.Tables.{key}
use Rattle.claim_firsts.proofs.Entries.{find-second, first-kept, looked-up, second-kept}
use Rattle.claim_firsts.proofs.firsts.Firsts.conviction_of.Goals as goal

abbrev reported : ℕ → Claim → Claim → Conviction
reported q second first = record { process = q; first = first; second = second }

pub returns-in-Some-find_under-clause-reported : goal.returns-in-Some-find_under-clause-reported
returns-in-Some-find_under-clause-reported c =
    let one : c.key_of.result ≡ key (kept_claim c.in-Some.second.now) = c.key_of.ensures ∙ ap key c.claim-second.ensures in
    let t : Table = table_of c.self.inside.firsts.entries c.self.inside.seconds.items c.self.inside.answered.keys in
    (λ i. Some (reported c.args.q (c.claim-second.ensures i) (c.claim.ensures i)))
    ∙ ap (option_map (reported c.args.q (kept_claim c.in-Some.second.now)))
    (ap (option_map kept_claim) c.in-Some-find_under.ensures
    ∙ ap (λ (k : Key). option_map kept_claim (lookup (same_key k) c.self.inside.firsts.entries)) one
    ∙ looked-up (kept_claim c.in-Some.second.now) c.self.inside.firsts.entries c.self.invariant.firsts)
    ∙ ap (option_and_then (conviction_with t c.args.q))
    (ap (option_map kept_claim) (c.in-Some.ensures ∙ ap (find (λ x. (kept_claim x).signer == c.args.q)) c.deref.ensures.value)
    ∙ find-second c.args.q c.self.inside.seconds.items)
    ∙ ap (λ (t : Table). conviction_by t c.args.q) c.self.view_is

pub returns-in-Some-find_under-clause-range : goal.returns-in-Some-find_under-clause-range
returns-in-Some-find_under-clause-range c = (
  subst (λ (d : Claim). IsStatement d.statement) (sym c.claim.ensures)
      (first-kept (same_key c.key_of.result) c.self.inside.firsts.entries c.in-Some-find_under.first.now c.self.invariant.firsts
      c.in-Some-find_under.ensures),
  subst (λ (d : Claim). IsStatement d.statement) (sym c.claim-second.ensures)
      (second-kept c.args.q c.self.inside.seconds.items c.in-Some.second.now c.self.invariant.seconds
      (c.in-Some.ensures ∙ ap (find (λ x. (kept_claim x).signer == c.args.q)) c.deref.ensures.value)),
)

pub returns-in-None-find_under-clause-reported : goal.returns-in-None-find_under-clause-reported
returns-in-None-find_under-clause-reported c =
    let one : c.key_of.result ≡ key (kept_claim c.in-Some.second.now) = c.key_of.ensures ∙ ap key c.claim-second.ensures in
    let t : Table = table_of c.self.inside.firsts.entries c.self.inside.seconds.items c.self.inside.answered.keys in
    ap (option_map (reported c.args.q (kept_claim c.in-Some.second.now)))
    (ap (option_map kept_claim) c.in-None-find_under.ensures
    ∙ ap (λ (k : Key). option_map kept_claim (lookup (same_key k) c.self.inside.firsts.entries)) one
    ∙ looked-up (kept_claim c.in-Some.second.now) c.self.inside.firsts.entries c.self.invariant.firsts)
    ∙ ap (option_and_then (conviction_with t c.args.q))
    (ap (option_map kept_claim) (c.in-Some.ensures ∙ ap (find (λ x. (kept_claim x).signer == c.args.q)) c.deref.ensures.value)
    ∙ find-second c.args.q c.self.inside.seconds.items)
    ∙ ap (λ (t : Table). conviction_by t c.args.q) c.self.view_is

pub returns-in-None-clause-reported : goal.returns-in-None-clause-reported
returns-in-None-clause-reported c =
    let t : Table = table_of c.self.inside.firsts.entries c.self.inside.seconds.items c.self.inside.answered.keys in
    ap (option_and_then (conviction_with t c.args.q))
    (ap (option_map kept_claim) (c.in-None.ensures ∙ ap (find (λ x. (kept_claim x).signer == c.args.q)) c.deref.ensures.value)
    ∙ find-second c.args.q c.self.inside.seconds.items)
    ∙ ap (λ (t : Table). conviction_by t c.args.q) c.self.view_is
