use Rattle.std.proofs.Common.{◌≡◌, ◌++◌, take}
use Rattle.story_defs.specs.Texts.{numbers}
use Rattle.story_writing.specs.Tokens.{behind}
use Rattle.story_writing.proofs.headers.push_members.Given as goal

abbrev pub invariant-members : goal.invariant-members
invariant-members l = l.out.items ≡ l.initial.out.items ++ behind (numbers (take l.member-index l.members))
