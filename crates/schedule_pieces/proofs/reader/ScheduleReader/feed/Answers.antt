use Rattle.std.proofs.Common.{◌≡◌, ◌≤◌, ◌+◌, ℕ, List, length, refl, arith, length-append}
use Rattle.std.proofs.lemmas.List.{length-drop}
use Rattle.replay_defs.specs.Pieces.{most_waiting}
use Rattle.schedule_file.specs.Views.{header}
use Rattle.schedule_pieces.proofs.Feeding.{window_is_less, feeds_events, feeds_header}
use Rattle.schedule_pieces.proofs.reader.ScheduleReader.feed.Goals as goal

pub returns-then-self-clause-stands : goal.returns-then-self-clause-stands
returns-then-self-clause-stands c fed es stands =
    feeds_events c.self.inside c.push.new.self c.args.piece.now c.if-self.true c.push.ensures fed es (rw (← c.self.view_is) at stands)

pub invariant_of-self-in-Some : goal.invariant_of-self-in-Some
invariant_of-self-in-Some c =
    let first = rw c.bytes.ensures at c.in-Some.ensures in
    let room = rw (← c.self.view_is) at c.requires in
    let sizes : length c.push.new.self
    ≡ length c.self.inside.window + length c.args.piece.now = rw c.push.ensures (length-append c.self.inside.window c.args.piece.now) in
    record {
      room = λ no. absurd cc;
      partial = λ no going. absurd cc;
      known = λ yes. rw c.deref.ensures.value at c.roles_of-self-inside.ensures;
      below = omega (arith, first.1, room, sizes, window_is_less);
      few = rw c.skip.ensures (omega (arith, length-drop c.in-Some.field-0.size c.push.new.self, room, sizes));
      stopped = λ some. absurd cc;
    }

pub returns-in-Some-clause-stands : goal.returns-in-Some-clause-stands
returns-in-Some-clause-stands c fed es stands =
    let r = c.self.inside in
    let first = rw c.bytes.ensures at c.in-Some.ensures in
    let room = rw (← c.self.view_is) at c.requires in
    let few : length c.push.new.self ≤ most_waiting = rw c.push.ensures (omega (arith, length-append r.window c.args.piece.now, room)) in
    feeds_header r _ (header c.fill.new.header) c.push.new.self c.args.piece.now c.in-Some.field-0.size c.if-self.false c.push.ensures few
    (rw c.fill.ensures first.0) first.1 refl refl refl refl c.skip.ensures fed es (rw (← c.self.view_is) at stands)
