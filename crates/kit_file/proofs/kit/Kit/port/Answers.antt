use Rattle.std.proofs.Common.{ap, ◌∙◌}
use Rattle.std.specs.Prelude.{is_some}
use Rattle.byte_defs.specs.Members.{has}
use Rattle.kit_file.proofs.Readers.{found_is, same_truth}
use Rattle.kit_file.proofs.kit.Kit.port.Goals as goal

pub returns-clause-listed : goal.returns-clause-listed
returns-clause-listed c = same_truth
    (ap is_some c.find_port.ensures ∙ found_is (λ port. port.0) (λ port. port.1) c.args.p c.args.self.now.ports ∙ ap (λ ps. has ps c.args.p)
    (rw c.self.view_is at c.self.invariant.0.ported))
