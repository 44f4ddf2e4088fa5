use Rattle.std.proofs.Common.{◌≡◌, ◌++◌, take, map}
use Rattle.story_writing.specs.Tokens.{behind, token}
use Rattle.story_writing.proofs.tokens.push_behind.Given as goal

abbrev pub invariant-tokens : goal.invariant-tokens
invariant-tokens l = l.out.items ≡ l.initial.out.items ++ behind (map token (take l.token-index l.tokens))
