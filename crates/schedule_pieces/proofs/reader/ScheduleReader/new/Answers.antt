use Rattle.std.proofs.Common.{refl, sym, subst, ◌≡◌, ◌≤◌, List, ℕ, length, arith}
use Rattle.std.specs.Prelude.{IsErr}
use Rattle.replay_defs.specs.Schedules.{most_steps}
use Rattle.replay_defs.specs.Reading.{header_at}
use Rattle.schedule_pieces.proofs.Feeding.{nothing_read, begins}
use Rattle.schedule_pieces.proofs.reader.ScheduleReader.new.Goals as goal

pub invariant_of-result : goal.invariant_of-result
invariant_of-result c = record {
  room = λ no. (c.in_ok-header.ensures.0, c.in_ok-header.ensures.1, refl);
  partial = λ no going. subst (λ (t : List ℕ). IsErr (header_at t)) (sym c.in_ok-window.ensures) nothing_read;
  known = λ e. absurd cc;
  below = omega arith;
  few = rw c.in_ok-window.ensures (omega arith);
  stopped = λ some. absurd cc;
}

pub returns : goal.returns
unfolding most_steps
returns c = begins _ refl refl refl refl c.in_ok-window.ensures
