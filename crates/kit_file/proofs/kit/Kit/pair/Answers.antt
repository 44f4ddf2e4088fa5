use Rattle.std.proofs.Common.{◌≡◌, Option, Some, None, refl, sym, ◌∙◌}
use Rattle.std.specs.Prelude.{is_some, option_map}
use Rattle.std.specs.Option.{option_copied}
use Rattle.kit_file.proofs.Readers.{pair_is}
use Rattle.kit_file.proofs.kit.Kit.pair.Goals as goal

some_still : {A B : Type 0} (f : A → B) (o : Option A) → is_some (option_map f o) ≡ is_some o
some_still f None = refl
some_still f (Some x) = refl

pub returns-clause-shared : goal.returns-clause-shared
returns-clause-shared c =
    let kit = c.args.self.now in
    let found = pair_is kit.scheme kit.keys kit.hosts (rw c.self.view_is at c.self.invariant.0.hosts) c.args.p c.args.q
    (option_copied c.find_pair.result) c.find_pair.ensures in
    let still = some_still (λ k. k.now) c.find_pair.result in
    (λ t. found.0 (still ∙ t), λ both. sym still ∙ found.1 both)
