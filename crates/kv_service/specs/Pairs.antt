-- The map that holds a store, as the list of its pairs.
use Rattle.std.specs.Prelude.{ℕ, map, Vec}
use Rattle.std.specs.declared.alloc.Global.{Global}
use Rattle.std.specs.BTreeMap.{BTreeMap}
use Rattle.store_defs.specs.Stores.{Pair, Store}

-- the bytes of a key and of its value
abbrev pub pair_of : Vec ℕ Global × Vec ℕ Global → Pair
pair_of e = (e.0.items, e.1.items)

-- the pairs in the map's order, which is that of the keys
abbrev pub pairs_of : BTreeMap (Vec ℕ Global) (Vec ℕ Global) → Store
pairs_of m = map pair_of m.entries
