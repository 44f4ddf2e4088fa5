use Rattle.std.proofs.Common.{◌≡◌, ◌∙◌, ◌-◌, ℕ, length, sym, ap, subst, arith}
use Rattle.std.proofs.lemmas.Option.{slice_get_within}
use Rattle.signature_defs.specs.Hss.{tree_number}
use Rattle.lms_hss.specs.Plans.{secret}
use Rattle.lms_hss.specs.Trees.{IsTreeOf}
use Rattle.signature_defs.proofs.HssLaws.{length-signed_keys, same_signed_keys, same_trees}
use Rattle.lms_hss.proofs.key.HssKey.make_ready.Goals as goal

-- the lowest level's tree is the same
lowest_same : (c : goal.Then-tree_number)
    → let key = secret c.args.self.now.plan in tree_number key (key.levels - 1) c.args.self.now.ready
    ≡ tree_number key (key.levels - 1) c.args.number
lowest_same c =
    sym (rw c.levels-lowest.ensures.value at c.tree_number-2.ensures) ∙ sym c.if-tree_number.true ∙
    (rw c.levels-lowest.ensures.value at c.tree_number.ensures)

pub invariant_of-self-clause-stand : goal.invariant_of-self-clause-stand
invariant_of-self-clause-stand c =
    let self = c.args.self.now in
    let key = secret self.plan in
    record {
      count = self.stand.count;
      each = λ d tree is.
          let same = same_trees key self.ready c.args.number d
          (omega (arith, slice_get_within self.trees.items d tree is, self.stand.count)) (lowest_same c) in
          let P : ℕ → Type 0 = λ t. IsTreeOf key d t tree in
          subst P same (self.stand.each d tree is);
    }

pub invariant_of-self-clause-signed : goal.invariant_of-self-clause-signed
invariant_of-self-clause-signed c =
    let self = c.args.self.now in
    self.signed ∙ same_signed_keys (secret self.plan) self.ready c.args.number (lowest_same c)

pub write_signed_keys-requires-clause-room : goal.write_signed_keys-requires-clause-room
write_signed_keys-requires-clause-room c =
    let self = c.args.self.now in
    ap length (c.deref_mut-2.ensures.value ∙ self.signed) ∙ length-signed_keys (secret self.plan) self.ready self.plan.sized
