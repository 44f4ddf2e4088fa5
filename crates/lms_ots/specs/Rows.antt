-- Rows of the parameter sets, one for each.
use Rattle.std.specs.Prelude.{ℕ, ◌-◌, ◌/◌, List, [], ◌∷◌, map}
use Rattle.std.specs.List.{range_with_len}
use Rattle.signature_defs.specs.declared.OtsType.{OtsType}
use Rattle.signature_defs.specs.declared.OtsType.TheVariants.{W1, W2, W4, W8}
use Rattle.signature_defs.specs.LmOts.{digit, ots_chains, ots_width}

abbrev pub sets : List OtsType
sets = W1 ∷ W2 ∷ W4 ∷ W8 ∷ []

-- the digits of the checksum, which follow those of the hash
abbrev pub checksum_digits : List ℕ → OtsType → List ℕ
checksum_digits hash kind = map (digit kind hash) (range_with_len (256 / ots_width kind) (ots_chains kind - 256 / ots_width kind))
