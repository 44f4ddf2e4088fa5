use Rattle.std.proofs.Common.{◌≡◌, ◌++◌, drop}
use Rattle.interop_runs.specs.Calls.{numbers_of}
use Rattle.interop_runs.proofs.numbers.numbers_of.Given as goal

-- with those of the calls that are left, all are there
abbrev pub invariant-loop-nth : goal.invariant-loop-nth
invariant-loop-nth l = l.numbers.items ++ numbers_of l.kind (drop l.nth-index l.calls) ≡ numbers_of l.kind l.calls
