use Rattle.std.proofs.Common.{◌≡◌, ◌∙◌, Some, sym, ap}
use Rattle.message_defs.specs.Statements as plain
use Rattle.claim_index.specs.Kept.{Holding, heard_in, claim_with}
use Rattle.claim_index.proofs.Found.{what_there, nothing_there}
use Rattle.claim_index.proofs.index.ClaimIndex.said_at.Goals as goal

pub returns-in-Some-clause-value : goal.returns-in-Some-clause-value
returns-in-Some-clause-value c =
    let heard : c.args.self.now.pool.heard
    ≡ heard_in c.self.inside.bytes.items c.self.inside.kept.entries = sym (ap (λ (r : Holding). r.pool.heard) c.self.view_is) in
    ap (λ (d : plain.Claim). Some d.statement) c.lent.ensures.value
    ∙ ap (λ b. Some (claim_with b c.signer.result c.in-Some.kept.now).statement) c.deref.ensures.value
    ∙ what_there c.args.self.now.pool c.self.inside.bytes.items c.self.inside.kept.entries heard c.self.invariant.now.kept c.args.place
    (c.in-Some.key.now, c.in-Some.kept.now) c.in-Some.ensures.entry

pub returns-in-None-clause-value : goal.returns-in-None-clause-value
returns-in-None-clause-value c =
    let heard : c.args.self.now.pool.heard
    ≡ heard_in c.self.inside.bytes.items c.self.inside.kept.entries = sym (ap (λ (r : Holding). r.pool.heard) c.self.view_is) in
    nothing_there c.args.self.now.pool c.self.inside.bytes.items c.self.inside.kept.entries heard c.self.invariant.now.kept c.args.place
    c.in-None.ensures.entry
