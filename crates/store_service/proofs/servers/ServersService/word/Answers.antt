use Rattle.std.proofs.Common.{refl}
use Rattle.store_service.proofs.Histories.{lost-so}
use Rattle.store_service.proofs.servers.ServersService.word.Goals as goal

pub returns-in-Ok-clause-answers : goal.returns-in-Ok-clause-answers
returns-in-Ok-clause-answers c = λ version p now h has is.
    c.in-Ok.ensures version p now h c.args._sends.now.items has is

pub returns-in-Err-clause-lost : goal.returns-in-Err-clause-lost
returns-in-Err-clause-lost c = λ h has. lost-so h c.args.self.now has _ refl
