use Rattle.std.proofs.Common.{◌≡◌, ◌∙◌, length, refl}
use Rattle.std.proofs.lemmas.List.{take_at}
use Rattle.signature_defs.specs.Hss.{tree_key, tree_number}
use Rattle.lms_hss.specs.Plans.{secret}
use Rattle.lms_hss.proofs.TreeFacts.{tree_at, tree_public}
use Rattle.lms_hss.proofs.key.HssKey.make.Goals as goal

pub invariant_of-result-clause-signed : goal.invariant_of-result-clause-signed
invariant_of-result-clause-signed c =
    let whole : length c.write_signed_keys.new.out ≡ c.in_ok-front.front.len = c.write_signed_keys.auto.out ∙ c.deref_mut.ensures.len in
    rw (take_at c.write_signed_keys.new.out _ c.in_ok-front.front.len whole) c.write_signed_keys.ensures

pub invariant_of-result-clause-key : goal.invariant_of-result-clause-key
invariant_of-result-clause-key c =
    let key = secret c.in_ok-plan.plan in
    let top = tree_at key 0 0 c.in_ok-trees.trees.items c.index.result.now c.in_ok-trees.ensures c.in_ok-plan.plan.some c.index.ensures in
    let public : c.public.result.now
    ≡ tree_key key 0 0 = c.public.ensures ∙ tree_public key 0 (tree_number key 0 0) c.index.result.now top in
    let levels : key.levels ≡ c.args.levels = c.in_ok-plan.ensures.made.has_levels in
    c.public_of-public.ensures ∙ rw (public, levels) refl
