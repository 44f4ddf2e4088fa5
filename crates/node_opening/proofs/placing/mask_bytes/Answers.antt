use Rattle.std.proofs.Common.{ℕ, ap, sym, ◌∙◌, arith}
use Rattle.std.specs.Int.{w64, to_be_bytes}
use Rattle.rp_base.specs.Pids.{mask_of}
use Rattle.rp_base.specs.Masks.{mask_of-members}
use Rattle.node_opening.proofs.placing.mask_bytes.Goals as goal

pub returns : goal.returns
returns c = c.to_be_bytes.ensures ∙ ap (λ (m : ℕ). to_be_bytes w64 m)
    (sym (mask_of-members c.mask.result (omega (arith, c.mask.type_inv))) ∙ ap mask_of c.mask.ensures)
