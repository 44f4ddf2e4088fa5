-- Which keys are not made.
use Rattle.std.specs.Prelude.{ℕ, [], ◌∷◌, Option, not}
use Rattle.byte_defs.specs.Choices.{first_that_holds}
use Rattle.signature_defs.specs.declared.OtsType.{OtsType}
use Rattle.signature_defs.specs.Hss.{height_in_range, length_in_range, levels_in_range}
use Rattle.lms_hss.specs.declared.faults.KeyFault.{KeyFault}
use Rattle.lms_hss.specs.declared.faults.KeyFault.TheVariants.{Levels, TooTall, TooLong}

-- the first reason not to make a key in `levels` levels, with trees of this typecode and one-time type
abbrev pub refusal : ℕ → ℕ → OtsType → Option KeyFault
refusal levels code kind =
    first_that_holds
    ((not (levels_in_range levels), Levels) ∷ (not (height_in_range levels code), TooTall) ∷ (not (length_in_range levels kind), TooLong)
    ∷ [])
