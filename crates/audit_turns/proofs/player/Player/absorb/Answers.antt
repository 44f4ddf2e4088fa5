use Rattle.std.proofs.Common.{◌++◌, map, refl, sym, ap, subst, ◌∙◌}
use Rattle.std.proofs.lemmas.List.{append_assoc}
use Rattle.group_defs.specs.Events.{outcome}
use Rattle.group_defs.specs.Family.{claims_in, handed_to}
use Rattle.rp_base.specs.Signer.{count_total, count_used}
use Rattle.journal_entries.specs.Views.{entry as entry_of, event as plain_event}
use Rattle.member_events.specs.Below.{signed}
use Rattle.audit_claims.proofs.Asked.{known-shares}
use Rattle.claim_firsts.specs.Seen.{Saw}
use Rattle.member_core.specs.Cores.{left_of, signer_of}
use Rattle.audit_defs.specs.Players.{event_of, turn_of}
use Rattle.audit_turns.proofs.Absorbing.{agrees-so, core-is, outcome-after, player-after, said-after, valid-after, written-so}
use Rattle.audit_turns.proofs.player.Player.absorb.Goals as goal

pub returns-in-Err-clause-only : goal.returns-in-Err-clause-only
returns-in-Err-clause-only g c = λ s d before own is shares saw written.
    let over = c.in-Ok.ensures.seen s before own (handed_to d.turns) shares saw is.handed in
    let rule = (known-shares s (g.V.Scheme.valid c.args.judge.now.scheme.now) c.args.judge.now.group.now c.args.judge.now.roster.now shares
    (before ++ claims_in (event_of (plain_event c.args.entry.now.event))) own c.hand_over.new.all over.0).rule in
    c.in-Err.ensures.only s d.now (core-is s d c.args.self.now c.args.entry.now is c.hand_over.new.self.core c.hand_over.ensures.core) rule
    (agrees-so s d c.args.self.now c.args.entry.now is c.hand_over.new.self.core c.hand_over.ensures.core written)

pub returns-in-Ok-see_signed-clause-taken : goal.returns-in-Ok-see_signed-clause-taken
returns-in-Ok-see_signed-clause-taken g c = λ s d before own is shares saw.
    let p = c.args.self.now in
    let e = c.args.entry.now in
    let q = c.hand_over.new.self in
    let r = c.in-Ok-absorb.outcome in
    let left = left_of count_used count_total q.core in
    let over = c.in-Ok.ensures.seen s before own (handed_to d.turns) shares saw is.handed in
    let rule = (known-shares s (g.V.Scheme.valid c.args.judge.now.scheme.now) c.args.judge.now.group.now c.args.judge.now.roster.now shares
    (before ++ claims_in (event_of (plain_event e.event))) own c.hand_over.new.all over.0).rule in
    let absorbs = c.in-Ok-absorb.ensures.absorbs s d.now (core-is s d p e is q.core c.hand_over.ensures.core) rule in
    let came = outcome-after s d e left c.absorb.new.self r absorbs in
    let said = (outcome s d.now (turn_of d.now (entry_of e))).signed in
    let seen = c.in-Ok-see_signed.ensures.seen s (before ++ claims_in (event_of (plain_event e.event))) own said
    (came.signed_now ∙ ap (λ v. map signed v.items) (sym c.into_parts-signed.ensures.signed))
    (said-after s d p e is left c.absorb.new.self r absorbs) (valid-after s d e left c.absorb.new.self r absorbs) over.0 in (
      written-so s d p e is q.core c.hand_over.ensures.core absorbs.agrees,
      player-after s d p e is left c.absorb.new.self r absorbs
          (record { core = c.absorb.new.self; journal = q.journal; handed = q.handed }) refl c.hand_over.ensures.journal over.1
          (c.in-Ok-absorb.ensures.total ∙ ap (λ x. count_total (signer_of x)) c.hand_over.ensures.core),
      subst (λ cs. Saw s cs (own ++ said) c.see_signed.new.all) (append_assoc before (claims_in (event_of (plain_event e.event))) said) seen,
    )
