use Rattle.std.proofs.Common.{◌≡◌, refl}
use Rattle.std.specs.Prelude.{None}
use Rattle.schedule_file.specs.Views.{header}
use Rattle.schedule_events.specs.Seen.{roles}
use Rattle.schedule_pieces.specs.Insides.{reading}
use Rattle.schedule_pieces.proofs.AtEnd.{sees_end, ends_in_header}
use Rattle.schedule_pieces.proofs.reader.ScheduleReader.last_fault.Goals as goal

pub returns-then-self-clause-sees : goal.returns-then-self-clause-sees
returns-then-self-clause-sees c =
    let r = c.self.inside in
    let at = rw c.bytes-waiting.ensures at c.fault_at_end.ensures in
    rw (← c.self.view_is) (sees_end (reading r) (header r.header) (roles r.roles) c.fault_at_end.result (rw c.if-self.true refl)
    (c.self.invariant.known c.if-self.true) at)

pub returns-clause-sees : goal.returns-clause-sees
returns-clause-sees c =
    let r = c.self.inside in
    let none : (reading r).header ≡ None = rw c.if-self.false refl in
    let read = rw c.bytes-waiting.ensures at c.header_found.ensures.found in
    rw (← c.self.view_is, c.placed.ensures, c.bytes-waiting.ensures)
    (ends_in_header (reading r) c.header_found.result none c.self.invariant.few read)
