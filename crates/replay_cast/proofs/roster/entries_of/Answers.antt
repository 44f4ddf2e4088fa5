use Rattle.std.proofs.Common.{ap, ◌∙◌}
use Rattle.std.proofs.lemmas.List.{take_all}
use Rattle.std.specs.Prelude.{map}
use Rattle.replay_cast.specs.Keyed.{key_of}
use Rattle.replay_cast.proofs.roster.entries_of.Goals as goal

pub returns : goal.returns
returns c = c.loop-one.invariant ∙ ap (map key_of) (take_all c.loop-one.one-index c.args.all.now c.loop-one-test.false)
