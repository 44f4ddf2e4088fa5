use Rattle.std.proofs.Common.{◌≡◌, ◌∙◌, ◌≤◌, None, length, refl, ap, sym, subst}
use Rattle.message_defs.specs.Statements as plain
use Rattle.group_defs.specs.Views.{View}
use Rattle.group_defs.specs.Process.{Pool}
use Rattle.group_defs.specs.Certified as defs
use Rattle.slot_quorums.specs.Statements.{stmt, claim}
use Rattle.slot_quorums.specs.Claims.{Holding, with_heard}
use Rattle.placed_batches.specs.Rows.{Prefix}
use Rattle.pool_values.specs.Ends.{AreInitsEnds}
use Rattle.pool_values.specs.Places.{ArePlaced, after_one}
use Rattle.pool_values.proofs.PlacedLength.{more-placed, more-fixed}
use Rattle.pool_values.proofs.Marked.{still-marked}
use Rattle.pool_values.proofs.places.Places.add.Goals as goal

pub follow_claim-requires-clause-view : goal.follow_claim-requires-clause-view
follow_claim-requires-clause-view c = ap (λ (p : Prefix). p.view) c.self.invariant.here.places ∙ ap (λ (h : Pool). h.view)
    (sym c.add.ensures.heard)

pub follow_claim-requires-clause-placed : goal.follow_claim-requires-clause-placed
follow_claim-requires-clause-placed c =
    let fresh : defs.claim_on c.self.inside.quorums.pool.heard c.args.claim.now.signer (plain.slot_of (stmt c.args.claim.now.statement))
    ≡ None = ap (λ (r : Holding). defs.claim_on r.pool.heard c.args.claim.now.signer
    (plain.slot_of (stmt c.args.claim.now.statement))) c.self.view_is ∙ c.requires.fresh in
    let some : 1 ≤ defs.number_of_members c.self.inside.quorums.pool = subst (λ (v : View). 1 ≤ length v.members)
    (c.view.ensures ∙ ap (λ (h : Pool). h.view) c.claims.ensures) c.number-view.ensures.within.1.some in
    subst (λ (h : Pool). ArePlaced h c.self.inside.prefix.batches) (sym c.add.ensures.heard)
    (subst (λ (p : Prefix). ArePlaced (with_heard c.self.inside.quorums.pool (claim c.args.claim.now)) p.batches)
    (sym c.self.invariant.here.places) (more-placed c.self.inside.quorums.pool (claim c.args.claim.now) fresh some))

pub invariant_of-self : goal.invariant_of-self
invariant_of-self c =
    let fresh : defs.claim_on c.self.inside.quorums.pool.heard c.args.claim.now.signer (plain.slot_of (stmt c.args.claim.now.statement))
    ≡ None = ap (λ (r : Holding). defs.claim_on r.pool.heard c.args.claim.now.signer
    (plain.slot_of (stmt c.args.claim.now.statement))) c.self.view_is ∙ c.requires.fresh in
    let some : 1 ≤ defs.number_of_members c.self.inside.quorums.pool = subst (λ (v : View). 1 ≤ length v.members)
    (c.view.ensures ∙ ap (λ (h : Pool). h.view) c.claims.ensures) c.number-view.ensures.within.1.some in
    rw c.add.ensures.marked (still-marked c.self.inside.quorums.pool (claim c.args.claim.now) fresh some _ _ _ _ _ _ _ _ _ _ _
    c.add.ensures.heard c.self.invariant
    (record {
      places = c.follow_claim.ensures c.self.inside.quorums.pool
          (claim c.args.claim.now) c.add.ensures.heard refl fresh some c.self.invariant.here.places;
      fixed = c.fixed_with-fixed.ensures ∙ ap
          (λ (h : Pool). after_one c.self.inside.fixed (defs.place_kept h (stmt c.args.claim.now.statement))) c.add.ensures.heard
          ∙ more-fixed c.self.inside.quorums.pool
          (claim c.args.claim.now) c.self.inside.fixed fresh c.self.invariant.here.fixed ∙ ap defs.fixed_length (sym c.add.ensures.heard);
      updates = c.note_update.ensures c.self.inside.quorums.pool
          (claim c.args.claim.now) c.add.ensures.heard refl fresh c.self.invariant.here.updates;
      inits = subst (λ (h : Pool). AreInitsEnds h c.note_init.new.ends) (sym c.add.ensures.heard)
          (c.note_init.ensures c.self.inside.quorums.pool
          (sym (c.number-view.ensures.value ∙ ap (λ (v : View). v.number)
          (c.view.ensures ∙ ap (λ (h : Pool). h.view) c.claims.ensures))) fresh c.self.invariant.here.inits);
    }))
