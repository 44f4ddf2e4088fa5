-- Notes, and which of them a server can take.
use Rattle.std.specs.Prelude.{ℕ, ◌<◌, List}
use Rattle.group_defs.specs.Events as defs
pub use Rattle.member_events.specs.declared.events.Note.{Note}
pub use Rattle.member_events.specs.declared.events.Note.TheVariants.{Delivered, Installed, Liar, Spent, Halted}
use Rattle.store_giving.specs.Given.{view_in}
use Rattle.store_replies.specs.Replying.{Fits}
use Rattle.store_server.specs.declared.server.Server.{Server}
use Rattle.view_table.specs.Views.{as_view, IsNumberedView}

-- the note in the definitions
abbrev pub note_of : Note → defs.Note
note_of (Delivered view place sender number payload) = defs.Delivers view
    (record { place = place; message = record { sender = sender; number = number }; payload = payload })
note_of (Installed view members) = defs.Installs (as_view view members.items)
note_of (Liar p) = defs.Liar p
note_of Spent = defs.Spent
note_of (Halted delivered cut) = defs.Halts delivered cut

-- the view of this number with these members is one, and comes after the one before it
abbrev pub CanInstall : Server → ℕ → List ℕ → Type 0
CanInstall x number members = IsNumberedView (as_view number members) × ((view_in x.giving).number < number)

-- the reply to a message that is delivered is in its ranges; a view that is installed comes after the one before it
abbrev pub CanTake : Server → Note → Type 0
CanTake x (Delivered view place sender number payload) = Fits x.replies view place payload
CanTake x (Installed view members) = CanInstall x view members.items
CanTake x (Liar p) = Unit {0}
CanTake x Spent = Unit {0}
CanTake x (Halted delivered cut) = Unit {0}
