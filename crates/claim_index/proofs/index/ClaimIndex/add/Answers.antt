use Rattle.std.proofs.Common.{◌≡◌, List, [], ◌∷◌, ◌++◌, ◌∙◌, ap, length, None}
use Rattle.message_defs.specs.Statements as plain
use Rattle.group_defs.specs.Views.{View}
use Rattle.group_defs.specs.Process.{Pool}
use Rattle.group_defs.specs.Certified as defs
use Rattle.stmt_codec.specs.Views.{stmt, claim}
use Rattle.claim_index.specs.Kept.{Holding, heard_in, with_heard}
use Rattle.claim_index.proofs.Adding.{all_kept, all_heard, all_filled, all_noted, all_marked, same_marked}
use Rattle.claim_index.proofs.index.ClaimIndex.add.Goals as goal

abbrev pooled : View → List plain.Claim → Pool
pooled v hs = record { view = v; heard = hs }

pub invariant_of-self : goal.invariant_of-self
invariant_of-self c =
    let fresh : defs.claim_on (heard_in c.self.inside.bytes.items c.self.inside.kept.entries) c.args.claim.now.signer
    (plain.slot_of (stmt c.args.claim.now.statement))
    ≡ None = ap (λ (r : Holding). defs.claim_on r.pool.heard c.args.claim.now.signer
    (plain.slot_of (stmt c.args.claim.now.statement))) c.self.view_is ∙ c.requires.fresh in
    rw (c.store_spelled-kept.ensures.items, c.in-Ok.ensures.entries, c.new-key.ensures, c.requires.slot, c.requires.spelled.0)
    (all_marked c.self.inside.bytes.items (claim c.args.claim.now) c.store_spelled-kept.result c.store_spelled-kept.ensures.start
    (c.store_spelled-kept.ensures.said ∙ ap length c.requires.spelled.0) c.store_spelled-kept.ensures.signed c.self.inside.kept
    c.self.invariant.now.kept c.requires.range fresh c.self.inside.kinds _ c.self.inside.marked c.self.invariant
    (record {
      kept = all_kept c.self.inside.bytes.items
          (claim c.args.claim.now) c.store_spelled-kept.result c.store_spelled-kept.ensures.start
          (c.store_spelled-kept.ensures.said ∙ ap length c.requires.spelled.0) c.store_spelled-kept.ensures.signed c.self.inside.kept
          c.self.invariant.now.kept c.requires.range fresh;
      filled = all_filled c.self.inside.bytes.items (claim c.args.claim.now) c.store_spelled-kept.result c.store_spelled-kept.ensures.start
          (c.store_spelled-kept.ensures.said ∙ ap length c.requires.spelled.0) c.store_spelled-kept.ensures.signed c.self.inside.kept
          c.self.invariant.now.kept c.requires.range fresh c.self.invariant.now.filled;
      noted = all_noted c.self.inside.bytes.items (claim c.args.claim.now) c.store_spelled-kept.result c.store_spelled-kept.ensures.start
          (c.store_spelled-kept.ensures.said ∙ ap length c.requires.spelled.0) c.store_spelled-kept.ensures.signed c.self.inside.kept
          c.self.invariant.now.kept c.requires.range fresh c.self.inside.kinds c.kind.result c.kind.ensures c.self.told
          c.self.invariant.now.noted;
    }))

pub returns-clause-heard : goal.returns-clause-heard
returns-clause-heard c =
    let fresh : defs.claim_on (heard_in c.self.inside.bytes.items c.self.inside.kept.entries) c.args.claim.now.signer
    (plain.slot_of (stmt c.args.claim.now.statement))
    ≡ None = ap (λ (r : Holding). defs.claim_on r.pool.heard c.args.claim.now.signer
    (plain.slot_of (stmt c.args.claim.now.statement))) c.self.view_is ∙ c.requires.fresh in
    let heard : heard_in c.store_spelled-kept.new.bytes.items c.insert.new.self.entries
    ≡ heard_in c.self.inside.bytes.items c.self.inside.kept.entries ++ claim c.args.claim.now ∷ [] =
    rw (c.store_spelled-kept.ensures.items, c.in-Ok.ensures.entries, c.new-key.ensures, c.requires.slot, c.requires.spelled.0)
    (all_heard c.self.inside.bytes.items (claim c.args.claim.now) c.store_spelled-kept.result c.store_spelled-kept.ensures.start
    (c.store_spelled-kept.ensures.said ∙ ap length c.requires.spelled.0) c.store_spelled-kept.ensures.signed c.self.inside.kept
    c.self.invariant.now.kept c.requires.range fresh) in
    ap (λ (hs : List plain.Claim). pooled c.self.inside.view hs) heard ∙ ap
    (λ (r : Holding). with_heard r.pool (claim c.args.claim.now)) c.self.view_is

pub returns-clause-marked : goal.returns-clause-marked
returns-clause-marked c =
    let fresh : defs.claim_on (heard_in c.self.inside.bytes.items c.self.inside.kept.entries) c.args.claim.now.signer
    (plain.slot_of (stmt c.args.claim.now.statement))
    ≡ None = ap (λ (r : Holding). defs.claim_on r.pool.heard c.args.claim.now.signer
    (plain.slot_of (stmt c.args.claim.now.statement))) c.self.view_is ∙ c.requires.fresh in
    rw (c.store_spelled-kept.ensures.items, c.in-Ok.ensures.entries, c.new-key.ensures, c.requires.slot, c.requires.spelled.0)
    (same_marked c.self.inside.bytes.items (claim c.args.claim.now) c.store_spelled-kept.result c.store_spelled-kept.ensures.start
    (c.store_spelled-kept.ensures.said ∙ ap length c.requires.spelled.0) c.store_spelled-kept.ensures.signed c.self.inside.kept
    c.self.invariant.now.kept c.requires.range fresh c.self.inside.view c.self.inside.marked c.self.invariant.few_bytes
    c.self.invariant.few ∙ ap (λ (r : Holding). r.marked) c.self.view_is)
