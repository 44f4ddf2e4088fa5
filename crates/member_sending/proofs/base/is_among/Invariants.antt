use Rattle.std.proofs.Common.{◌≡◌, drop, map}
use Rattle.std.specs.List.{list_any}
use Rattle.group_defs.specs.Due.{same_message}
use Rattle.member_events.specs.Below.{message}
use Rattle.accounts.specs.Views.{delivery}
use Rattle.member_sending.proofs.base.is_among.Given as goal

abbrev pub invariant-delivered : goal.invariant-delivered
invariant-delivered l = list_any (λ d. same_message d.message (message l.sender l.number)) (map delivery l.delivered)
    ≡ list_any (λ d. same_message d.message (message l.sender l.number)) (map delivery (drop l.one-index l.delivered))
