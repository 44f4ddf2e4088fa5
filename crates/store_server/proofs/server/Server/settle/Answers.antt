use Rattle.std.proofs.Common.{◌≡◌, map}
use Rattle.accounts.specs.Views.{delivery}
use Rattle.store_defs.specs.Holding.{payloads_of}
use Rattle.store_defs.specs.declared.Taken.TheVariants as taken
use Rattle.store_giving.specs.Given.{transfer_in}
use Rattle.store_server.specs.declared.server.Server.{Server}
use Rattle.store_server.proofs.Settled.{taken-over}
use Rattle.store_server.proofs.server.Server.settle.Goals as goal

pub returns-in_ok-store-clause-settled : goal.returns-in_ok-store-clause-settled
returns-in_ok-store-clause-settled c = λ q s is.
    let ready : c.in-Offered-Ready.field-0 ≡ taken.Ready =
    rw c.in-Offered-Ready.is at c.in-Offered-Ready.field-0-is in
    let x : Server = record { replies = c.take_over.new.self; giving = c.args.self.now.giving } in
    taken-over q s (payloads_of (map delivery c.args.here.now)) c.args.offered c.in-Offered-Ready.field-0
    (transfer_in c.args.self.now.giving) c.in_ok-store.store x c.in-Offered-Ready.is ready c.in_ok-store.ensures
    (c.take_over.ensures q s is.replies) is.gives
