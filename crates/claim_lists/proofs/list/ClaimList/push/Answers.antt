use Rattle.std.proofs.Common.{◌∷◌, [], ◌++◌, ◌∙◌, ap}
use Rattle.stmt_codec.specs.Views.{claim}
use Rattle.claim_index.proofs.Adding.{pushed_kept, pushed_heard}
use Rattle.claim_lists.specs.Lists.{Listing}
use Rattle.claim_lists.proofs.Marked.{marked-push, marked-same}
use Rattle.claim_lists.proofs.list.ClaimList.push.Goals as goal

pub invariant_of-self : goal.invariant_of-self
invariant_of-self c =
    rw (c.store-kept.ensures.items, c.in-Ok.ensures.items, c.new-key.ensures, c.slot_key_of.ensures)
    (marked-push c.self.inside.bytes.items _ c.self.inside.kept.items _ c.self.inside.marked c.self.invariant
    (pushed_kept c.self.inside.bytes.items
    (claim c.args.claim.now) c.store-kept.result c.store-kept.ensures.start c.store-kept.ensures.said c.store-kept.ensures.signed
    c.self.inside.kept.items c.self.invariant.here c.requires.range))

pub returns-clause-claims : goal.returns-clause-claims
returns-clause-claims c =
    rw (c.store-kept.ensures.items, c.in-Ok.ensures.items, c.new-key.ensures, c.slot_key_of.ensures)
    (pushed_heard c.self.inside.bytes.items
    (claim c.args.claim.now) c.store-kept.result c.store-kept.ensures.start c.store-kept.ensures.said c.store-kept.ensures.signed
    c.self.inside.kept.items c.self.invariant.here c.requires.range)
    ∙ ap (λ (r : Listing). r.claims ++ claim c.args.claim.now ∷ []) c.self.view_is

pub returns-clause-marked : goal.returns-clause-marked
returns-clause-marked c =
    rw (c.store-kept.ensures.items, c.in-Ok.ensures.items)
    (marked-same c.self.inside.bytes.items _ c.self.inside.kept.items _ c.self.inside.marked c.self.invariant)
    ∙ ap (λ (r : Listing). r.marked) c.self.view_is
