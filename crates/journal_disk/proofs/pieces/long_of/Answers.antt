use Rattle.std.proofs.Common.{◌≡◌, ℕ, subst, sym, arith}
use Rattle.byte_defs.specs.Fields.{four_bytes}
use Rattle.byte_defs.proofs.Fields.{wide32}
use Rattle.journal_disk.proofs.pieces.long_of.Goals as goal

pub returns : goal.returns
returns c = subst (λ (n : ℕ). four_bytes n ≡ c.args.found.now) (sym c.from_be_bytes.ensures)
    (wide32.back c.args.found.now c.requires (λ i. omega (arith, c.type_inv.found i)))
