-- What was gathered, on plain data.
use Rattle.std.specs.Prelude.{ℕ, List, map, option_map}
use Rattle.store_questions.specs.declared.gathered.KeyLine.{KeyLine}
use Rattle.store_questions.specs.declared.gathered.Gathered.{Gathered}
use Rattle.store_questions.specs.Gathering.{PlainGathered}

abbrev pub key_line : KeyLine → ℕ × List ℕ
key_line k = (k.process, k.line.items)

abbrev pub gathered : Gathered → PlainGathered
gathered g = record { keys = map key_line g.keys.items; view = option_map (λ line. line.items) g.view; replies = g.replies.items; left = g.left }
