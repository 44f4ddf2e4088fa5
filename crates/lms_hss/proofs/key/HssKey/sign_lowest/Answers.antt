use Rattle.std.proofs.Common.{◌≡◌, ◌∙◌, ◌-◌, ℕ, refl, arith}
use Rattle.signature_defs.specs.Hss.{leaf_number, tree_number}
use Rattle.lms_hss.specs.Plans.{secret}
use Rattle.lms_hss.proofs.TreeFacts.{tree_at, tree_signature}
use Rattle.lms_hss.proofs.key.HssKey.sign_lowest.Goals as goal

pub sign_into-requires-clause-leaf : goal.sign_into-requires-clause-leaf
sign_into-requires-clause-leaf c =
    let self = c.args.self.now in
    let is = tree_at (secret self.plan) self.ready (c.levels-lowest.result - 1) self.trees.items c.index.result.now self.stand
    (omega arith) c.index.ensures in
    rw is.has_height c.leaf_number-leaf.ensures.within

pub sign_into-requires-clause-room : goal.sign_into-requires-clause-room
sign_into-requires-clause-room c =
    let self = c.args.self.now in
    let is = tree_at (secret self.plan) self.ready (c.levels-lowest.result - 1) self.trees.items c.index.result.now self.stand
    (omega arith) c.index.ensures in
    c.requires ∙ rw (is.has_ots, is.has_height) refl

pub returns : goal.returns
returns c =
    let self = c.args.self.now in
    let key = secret self.plan in
    let lowest : ℕ = key.levels - 1 in
    let at = rw c.levels-lowest.ensures.value at c.index.ensures in
    let is = tree_at key self.ready lowest self.trees.items c.index.result.now self.stand (omega (arith, self.plan.some)) at in
    let leaf : c.leaf_number-leaf.result
    ≡ leaf_number key lowest self.ready = rw c.levels-lowest.ensures.value at c.leaf_number-leaf.ensures.value in
    c.sign_into.ensures ∙ tree_signature key lowest
    (tree_number key lowest self.ready) c.index.result.now c.leaf_number-leaf.result c.args.body.now is ∙ rw leaf refl
