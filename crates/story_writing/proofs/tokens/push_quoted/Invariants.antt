use Rattle.std.proofs.Common.{◌≡◌, ◌++◌, take}
use Rattle.std.specs.List.{flat_map}
use Rattle.story_defs.specs.Texts.{quoted_byte}
use Rattle.story_writing.proofs.tokens.push_quoted.Given as goal

abbrev pub invariant-bytes : goal.invariant-bytes
invariant-bytes l = l.out.items ≡ l.initial.out.items ++ flat_map quoted_byte (take l.c-index l.bytes)
