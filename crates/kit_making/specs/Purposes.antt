-- The numbers of what a value is derived for.
use Rattle.std.specs.Prelude.{ℕ}
use Rattle.kit_making.specs.declared.making.Purpose.{Purpose}
use Rattle.kit_making.specs.declared.making.Purpose.TheVariants.{Group, TreeId, TreeSeed, PairKey, PlainKey}

abbrev pub label : Purpose → ℕ
label Group = 0
label TreeId = 1
label TreeSeed = 2
label PairKey = 3
label PlainKey = 4
