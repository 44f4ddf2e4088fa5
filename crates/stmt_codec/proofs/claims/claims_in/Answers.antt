use Rattle.std.proofs.Common.{refl}
use Rattle.frame_codec.specs.Views.{groups_left}
use Rattle.statements.specs.Views.{carried}
use Rattle.stmt_codec.proofs.Fits.{are_given, groups_have_short}
use Rattle.stmt_codec.proofs.claims.claims_in.Goals as goal

pub returns-clause-range : goal.returns-clause-range
returns-clause-range c = are_given (carried c.args.carrier)
    (groups_left c.args.groups) _ (groups_have_short c.args.groups.left c.args.groups.bytes.now) refl
