-- What an account of the code is in the definitions.
use Rattle.std.specs.Prelude.{ℕ, map}
use Rattle.message_defs.specs.Updates as plain
use Rattle.group_defs.specs.Process as defs
use Rattle.group_defs.specs.Accounts as reported
use Rattle.rp_base.specs.declared.updates.Update.{Update}
use Rattle.rp_base.specs.Views.{update}
use Rattle.member_events.specs.declared.events.Delivered.{Delivered}
use Rattle.accounts.specs.declared.account.Account.{Account}

-- a message that was delivered, with its place and its payload
abbrev pub delivery : Delivered → defs.Delivered
delivery d = record { place = d.place; message = record { sender = d.sender; number = d.number }; payload = d.payload }

-- an update, with the number of the view in which it was perceived
abbrev pub perceived : ℕ × Update → ℕ × plain.Update
perceived e = (e.0, update e.1)

-- the account
abbrev pub account : Account → reported.Account
account a = record {
  me = a.me;
  views = a.views.items;
  delivered = map (λ ds. map delivery ds.items) a.delivered.items;
  accepted = a.accepted.items;
  perceived = map perceived a.perceived.items;
}
