use Rattle.std.proofs.Common.{◌≡◌, Option, Some, None, refl, sym, ap, ◌∙◌}
use Rattle.std.specs.Prelude.{is_some, option_map}
use Rattle.std.specs.Option.{option_copied}
use Rattle.sig_scheme.specs.Views.{secret}
use Rattle.kit_file.proofs.Readers.{found_is, same_truth}
use Rattle.kit_file.proofs.kit.Kit.secret.Goals as goal

some_still : {A B : Type 0} (f : A → B) (o : Option A) → is_some (option_map f o) ≡ is_some o
some_still f None = refl
some_still f (Some x) = refl

pub returns-clause-hosted : goal.returns-clause-hosted
returns-clause-hosted c = same_truth
    (sym (some_still (λ s. s.now) c.find_secret.result) ∙ sym
    (some_still secret (option_copied c.find_secret.result)) ∙ ap is_some c.find_secret.ensures ∙ found_is (λ host. host.process)
    (λ host. host.secret) c.args.p c.args.self.now.hosts)
