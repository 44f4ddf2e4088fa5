use Rattle.std.proofs.Common.{◌≡◌, ℕ, List, Bool, map, sym, ap, subst, ◌∙◌}
use Rattle.std.specs.List.{AllZip}
use Rattle.std.specs.List.Sorted.{IsStrictlyIncreasing}
use Rattle.group_defs.specs.Process.{Setting}
use Rattle.group_defs.specs.Accounts as questions
use Rattle.group_defs.specs.Accounts.{Account}
use Rattle.group_defs.specs.Family.{accounts, numbers, honest}
use Rattle.rp_base.specs.Rosters.{IsRising}
use Rattle.conviction_defs.specs.Convictions.{convictions}
use Rattle.audit_defs.specs.Players.{family_of, setting_of}
use Rattle.audit_defs.specs.Audits.{Known}
use Rattle.accounts.specs.Views.{account}
use Rattle.claim_firsts.specs.Seen.{Saw}
use Rattle.audit_laws.proofs.OfListed.{of-listed}
use Rattle.audit_cast.specs.Turns.{Player}
use Rattle.audit_cast.specs.Turns.{IsPlayer}
use Rattle.audit_core.specs.Ends.{audited_by}
use Rattle.audit_core.proofs.Answered.{honest-is}
use Rattle.audit_core.proofs.Ending.{ended, holds-at, of-sources}
use Rattle.audit_core.proofs.Rising.{members-rise}
use Rattle.audit_core.proofs.Reported.{accounts-are, evidence-is, reported-are}
use Rattle.audit_core.proofs.answers.reported_of.Goals as goal

pub returns-clause-reported : goal.returns-clause-reported
returns-clause-reported c = λ journals sources is e.
    let kit = c.args.kit.now in
    let s = setting_of kit in
    let k : Known = e.known in
    let listed = c.args.correct in
    let h = holds-at s sources listed c.args.walk.now e in
    let rising : IsStrictlyIncreasing listed = subst IsStrictlyIncreasing c.mask.ensures (members-rise c.mask.result) in
    let audited = of-sources kit listed journals sources is ∙ ended s sources listed e.players k e.cast e.ends in
    let players : List Player → Type 0 = λ ps. AllZip (IsPlayer s) k.players ps in
    let reported : map account c.as_slice-reported.result.now ≡ accounts (family_of s k.players) =
    ap (map account) c.as_slice-reported.ensures.value
    ∙ (c.in_ok-accounts.ensures s k.players (subst players (sym c.players.ensures) e.walk.players) ∙ accounts-are s k.players h.runs) in
    let seen = subst (Saw s k.claims e.own) (sym c.claims.ensures) e.walk.claims in
    let also = subst (Saw s k.claims e.own) (sym c.claims-2.ensures) e.walk.claims in
    let keys : IsRising s.roster = subst IsRising c.roster.ensures c.processes-keyed.ensures.rising in
    let named = (of-listed kit listed k h).listed_are in
    λ i. record {
      agree = (c.agree.ensures ∙ ap questions.agree reported) i;
      bounded = (c.bounded.ensures ∙ (λ j. questions.bounded (reported j) (sym named j))) i;
      convicted = reported-are c.in_ok-convicted.convicted.items (convictions s k.claims) (c.in_ok-convicted.ensures s k.claims e.own keys seen) i;
      honest = honest-is kit listed journals k e.own h rising e.walk.said audited c.is_answered.result (c.is_answered.ensures s k.claims e.own also) i;
      accounts = (ap (map account) (sym c.as_slice-reported.ensures.value) ∙ reported) i;
      sound = (c.sound.ensures ∙ (λ j. questions.sound (reported j)
          ((c.processes-keyed.ensures.value ∙ ap (map (λ (key : ℕ × List ℕ). key.0)) c.roster.ensures) j))) i;
    }

pub returns-clause-evidence : goal.returns-clause-evidence
returns-clause-evidence c = λ journals sources is e.
    let s = setting_of c.args.kit.now in
    let k : Known = e.known in
    let seen = subst (Saw s k.claims e.own) (sym c.claims.ensures) e.walk.claims in
    let keys : IsRising s.roster = subst IsRising c.roster.ensures c.processes-keyed.ensures.rising in
    evidence-is c.in_ok-convicted.convicted.items (convictions s k.claims) (c.in_ok-convicted.ensures s k.claims e.own keys seen)
