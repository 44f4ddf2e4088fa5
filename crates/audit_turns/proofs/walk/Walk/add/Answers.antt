use Rattle.std.proofs.Common.{refl}
use Rattle.audit_turns.specs.declared.walk.Walk.{Walk}
use Rattle.audit_turns.proofs.Beginning.{more-walk}
use Rattle.audit_turns.proofs.walk.Walk.add.Goals as goal

pub returns : goal.returns
returns c = λ s k own me limit journal walk is.
    let w : Walk = record { players = c.push.new.self; claims = c.args.self.now.claims } in
    more-walk s k own me limit journal c.args.self.now w c.args.player walk is c.in_ok-push.ensures.items refl
