use Rattle.std.proofs.Common.{◌≡◌, ◌-◌, ℕ}
use Rattle.std.specs.Prelude.{find}
use Rattle.std.specs.List.{range_with_len}
use Rattle.group_defs.specs.Process.{Process}
use Rattle.node_defs.specs.Casts.{Cast, setting_of}
use Rattle.node_service.specs.Words.{IsHosted}
use Rattle.guard_service.specs.Evidence.{is_named}
use Rattle.guard_service.proofs.evidence.least_named.Given as goal

abbrev pub invariant-numbers : goal.invariant-numbers
invariant-numbers l = (c : Cast) (p : ℕ) (now : Process) → IsHosted c p now l.process
    → find (is_named (setting_of l.kit) l.frame l.notes now) (range_with_len l.number (64 - l.number))
    ≡ find (is_named (setting_of l.kit) l.frame l.notes now) (range_with_len l.first (64 - l.first))
