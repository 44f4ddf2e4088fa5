-- The spelling of a store.
use Rattle.std.specs.Prelude.{ℕ, List}
use Rattle.store_giving.specs.declared.spelling.Spelling.{Spelling}

abbrev pub bytes_in : Spelling → List ℕ
bytes_in b = b.bytes.items
