use Rattle.std.proofs.Common.{◌≡◌, [], ◌∷◌, length}
use Rattle.story_defs.specs.Words.{named}
use Rattle.story_lines.specs.Cursors.{left}
use Rattle.story_lines.proofs.words.Words.more_named.Given as goal

abbrev pub invariant-named : goal.invariant-named
invariant-named l = named l.set (left l.self) ≡ named (l.fn.first ∷ []) (left l.fn.self)

abbrev pub decreases-named : goal.decreases-named
decreases-named l = length (left l.self)
