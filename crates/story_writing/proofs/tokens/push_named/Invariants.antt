use Rattle.std.proofs.Common.{◌≡◌, ◌++◌}
use Rattle.story_defs.specs.Texts.{numbers}
use Rattle.story_writing.specs.Tokens.{behind}
use Rattle.story_writing.proofs.tokens.push_named.Given as goal

abbrev pub invariant-named : goal.invariant-named
invariant-named l = l.out.items ≡ l.initial.out.items ++ behind (numbers l.yielded)
