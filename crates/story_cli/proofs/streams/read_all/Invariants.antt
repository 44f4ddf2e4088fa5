use Rattle.std.proofs.Common.{◌≡◌}
use Rattle.std.specs.Io.KnownBytes.{Consumes}
use Rattle.story_cli.proofs.streams.read_all.Given as goal

-- what was taken so far is kept, and no call has failed
abbrev pub invariant-pieces : goal.invariant-pieces
invariant-pieces g l = record {
  taken : Consumes (g.S.Source.left l.fn.input) (g.S.Source.left l.input) l.all.items;
  steady : g.S.Source.faults l.input ≡ g.S.Source.faults l.fn.input;
}
