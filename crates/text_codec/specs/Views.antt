-- What a cursor over the parts of a text has left, as plain data.
use Rattle.std.specs.Prelude.{ℕ, ◌==◌, List, []}
use Rattle.std.specs.Borrow.{Bor}
use Rattle.std.specs.List.{slice_split}
use Rattle.std.specs.Option.{option_map_or}
use Rattle.text_codec.specs.declared.parts.Parts.{Parts}

abbrev pub part_view : Bor (List ℕ) → List ℕ
part_view part = part.now

-- the parts that are not yet taken
abbrev pub parts_left : Parts → List (List ℕ)
parts_left p = option_map_or (λ rest. slice_split (λ c. c == p.at) rest.now) p.rest []
