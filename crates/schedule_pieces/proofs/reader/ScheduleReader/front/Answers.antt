use Rattle.std.proofs.Common.{◌≡◌, refl}
use Rattle.std.specs.Prelude.{None}
use Rattle.schedule_file.specs.Views.{header}
use Rattle.schedule_events.specs.Seen.{roles}
use Rattle.schedule_pieces.specs.Insides.{reading}
use Rattle.schedule_pieces.proofs.Giving.{sees_event, header_stops, no_header}
use Rattle.schedule_pieces.proofs.reader.ScheduleReader.front.Goals as goal

pub returns-then-self-clause-sees : goal.returns-then-self-clause-sees
returns-then-self-clause-sees c =
    let r = c.self.inside in
    let begins = rw c.bytes-waiting.ensures at c.event_front.ensures in
    rw (← c.self.view_is) (sees_event (reading r) (header r.header) (roles r.roles) (rw c.if-self.true refl)
    (c.self.invariant.known c.if-self.true) c.event_front.result begins)

pub returns-in-Some-decide-clause-sees : goal.returns-in-Some-decide-clause-sees
returns-in-Some-decide-clause-sees c =
    let r = c.self.inside in
    let none : (reading r).header ≡ None = rw c.if-self.false refl in
    let read = rw c.bytes-waiting.ensures at c.header_found.ensures.found in
    let decided = rw c.bytes-waiting.ensures at c.in-Some-decide.ensures in
    rw (← c.self.view_is) (header_stops (reading r) c.header_found.result c.in-Some-decide.fault none c.self.invariant.few read decided)

pub returns-in-None-clause-sees : goal.returns-in-None-clause-sees
returns-in-None-clause-sees c =
    let r = c.self.inside in
    let none : (reading r).header ≡ None = rw c.if-self.false refl in
    let read = rw c.bytes-waiting.ensures at c.header_found.ensures.found in
    let less = rw c.bytes-waiting.ensures at c.header_found.ensures.few in
    rw (← c.self.view_is) (no_header (reading r) c.header_found.result none
    (c.self.invariant.room c.if-self.false).2 c.self.invariant.few read c.in-None.ensures.0 (less c.in-None.ensures.0))
