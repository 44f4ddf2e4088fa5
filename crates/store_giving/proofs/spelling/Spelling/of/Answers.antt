use Rattle.std.proofs.Common.{ℕ, List, ◌++◌, ap, ◌∙◌}
use Rattle.store_defs.specs.Stores.{store_bytes}
use Rattle.store_giving.proofs.Spelled.{spelling-read}
use Rattle.store_giving.proofs.spelling.Spelling.of.Goals as goal

pub invariant_of-result : goal.invariant_of-result
invariant_of-result c = record {
  spelled = spelling-read c.state_into.new.out.items c.args.store.now c.in_ok-state_into.ensures.within
      (c.in_ok-state_into.ensures.pushed ∙ ap (λ (b : List ℕ). b ++ store_bytes c.args.store.now) c.new-bytes.ensures.items);
}
