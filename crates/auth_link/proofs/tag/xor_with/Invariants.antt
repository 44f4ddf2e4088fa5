use Rattle.std.proofs.Common.{◌≡◌, ◌++◌, take, drop, map}
use Rattle.std.specs.Prelude.{bit_xor}
use Rattle.auth_link.proofs.tag.xor_with.Given as goal

abbrev pub invariant-loop-b : goal.invariant-loop-b
invariant-loop-b l = l.block ≡ map (λ x. bit_xor x l.pad) (take l.b-index l.fn.block) ++ drop l.b-index l.fn.block
