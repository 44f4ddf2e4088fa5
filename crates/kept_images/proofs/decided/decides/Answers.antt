use Rattle.member_events.specs.Below.{report}
use Rattle.kept_images.proofs.Ending.{ends-so}
use Rattle.kept_images.proofs.decided.decides.Goals as goal

pub returns : goal.returns
returns c = ends-so c.args.keyed c.args.view.now c.args.me c.args.places (report c.args.decision) c.ends.result c.ends.ensures
