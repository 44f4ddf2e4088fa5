-- A state whose batch limit is another: it is that of the same process with that limit.
use Rattle.std.proofs.Common.{ℕ, ◌≤◌, refl}
use Rattle.std.proofs.Math.Logic.{∥∥₁_map}
use Rattle.group_defs.specs.Process.{Setting, Process}
use Rattle.restored_present.specs.Phases.{Phase}
use Rattle.restored_present.specs.Phases.{Observing, OpenView, ClosingView, DecidedView, HaltedView}
use Rattle.restored_present.specs.Members.{IsIn}
use Rattle.member_restoring.specs.States.{HasProcess, IsReal, IsStateOf, ProcessState}

module _ (limit : ℕ) where
  abbrev of : Process → Process
  of p = record p { batch_limit = limit }

  abbrev kept : ProcessState → ProcessState
  kept st = record st { batch_limit = limit }

  phase-so : (phase : Phase) (p : Process) → IsIn phase p → IsIn phase (of p)
  phase-so (Observing o) p is = is
  phase-so (OpenView o) p is = is
  phase-so (ClosingView k) p is = record { phase = is.phase; length = is.length }
  phase-so (DecidedView d) p is = record { phase = is.phase; decision = is.decision }
  phase-so (HaltedView h) p is = record { phase = is.phase; decision = is.decision; delivered = is.delivered }

  pub limited-so : 1 ≤ limit → limit ≤ 16 → (s : Setting) (p : Process) (st : ProcessState) → IsStateOf s p st → IsStateOf s (of p) (kept st)
  limited-so some few s p st is = record {
    lawful = record {
      number = is.lawful.number;
      pool = is.lawful.pool;
      own = is.lawful.own;
      past = is.lawful.past;
      said = is.lawful.said;
      short = is.lawful.short;
      batches = few;
      asked = is.lawful.asked;
    };
    bounded = record { now = is.bounded.now; before = is.bounded.before; backlog = is.bounded.backlog };
    number = is.number;
    some = some;
    decided = λ d e. record { certified = (is.decided d e).certified; possible = (is.decided d e).possible };
    each = is.each;
    asked_for = is.asked_for;
    halted_member = is.halted_member;
    halted_beyond = is.halted_beyond;
    ranged = is.ranged;
    limit = refl;
    place = record {
      pool = is.place.pool;
      number = is.place.number;
      position = is.place.position;
      keys = is.place.keys;
      signed = record {
        slots = is.place.signed.slots;
        end = is.place.signed.end;
        greatest = is.place.signed.greatest;
        last_ready = is.place.signed.last_ready;
        how_many = is.place.signed.how_many;
        names = is.place.signed.names;
      };
      delivered = record { places = is.place.delivered.places; counts = is.place.delivered.counts };
      before = is.place.before;
    };
    phase = phase-so st.phase p is.phase;
    asked = is.asked;
    said = is.said;
    signed = is.signed;
    pairs = is.pairs;
    kept = record { numbers = is.kept.numbers; previous = is.kept.previous; commits = is.kept.commits };
    account = is.account;
  }

  pub real-limited : 1 ≤ limit → limit ≤ 16 → (st : ProcessState) → IsReal st → IsReal (kept st)
  real-limited some few st real = ∥∥₁_map real (λ (has : HasProcess st). record {
    setting = has.setting;
    process = of has.process;
    state = limited-so some few has.setting has.process st has.state;
  })
