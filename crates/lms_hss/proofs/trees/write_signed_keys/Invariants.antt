use Rattle.std.proofs.Common.{◌≡◌, ◌+◌, ◌-◌, ◌*◌, ◌++◌, take}
use Rattle.signature_defs.specs.Strings.{u32str, strings}
use Rattle.signature_defs.specs.Hss.{signed_key}
use Rattle.lms_hss.specs.Plans.{secret}
use Rattle.lms_hss.proofs.trees.write_signed_keys.Given as goal

abbrev pub invariant-loop-level : goal.invariant-loop-level
invariant-loop-level l =
    take (4 + l.level * l.length) l.out ≡ u32str (l.plan.levels - 1) ++ strings (signed_key (secret l.plan) l.number) l.level
