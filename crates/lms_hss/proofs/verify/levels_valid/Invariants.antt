use Rattle.std.proofs.Common.{◌≡◌, ◌-◌, length}
use Rattle.signature_defs.specs.Hss.{levels_valid}
use Rattle.lms_hss.proofs.verify.levels_valid.Given as goal

abbrev pub invariant-loop : goal.invariant-loop
invariant-loop l = record {
  whole : length l.key ≡ 56;
  same : levels_valid l.fn.signed_keys l.fn.key l.fn.message l.fn.sig ≡ levels_valid (l.signed_keys - l.counter) l.key l.message l.rest;
}
