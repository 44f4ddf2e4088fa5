-- A step of a core, by its key.
use Rattle.std.proofs.Common.{◌≡◌, ℕ, List, Bool}
use Rattle.group_defs.specs.Process.{Setting, Process}
use Rattle.group_defs.specs.Events.{Event}
use Rattle.member_events.specs.declared.events.Outcome.{Outcome as Came}
use Rattle.member_core.specs.declared.member.Core.{Core}
use Rattle.member_signing.specs.States.{ProcessState, IsStateOf}
use Rattle.member_core.specs.Cores.{IsCore, Steps, Takes, me_of, turn_of}

pub steps-so : {G : Type 0} (used total : G → ℕ) (signature : G → ℕ → List ℕ → List ℕ) (s : Setting) (p : Process) (old new : Core G)
    (e : Event) (r : Came) → Takes s p (turn_of used total signature old e) new.keyless (used new.signer) r
    → Steps used total signature s p old new e r
unfolding IsCore
steps-so used total signature s p old new e r takes = record {
  core = record { keyless = takes.keyless; signed = takes.used };
  outcome = takes.outcome;
}

-- ---- which process a core is

pub me-so : {G : Type 0} (used : G → ℕ) (s : Setting) (p : Process) (c : Core G) → IsCore used s p c → p.me ≡ me_of c
unfolding IsCore
me-so used s p c is = is.keyless.state.place.number

-- a state tells nothing of how signatures are checked
state-with-rule : (s : Setting) (p : Process) (st : ProcessState) (rule : List ℕ → List ℕ → List ℕ → Bool) → IsStateOf s p st
    → IsStateOf (record s { valid = rule }) p st
state-with-rule s p st rule is = record {
  lawful = is.lawful;
  bounded = is.bounded;
  number = is.number;
  some = is.some;
  decided = λ d e. let at = is.decided d e in record { certified = at.certified; possible = at.possible };
  each = is.each;
  asked_for = is.asked_for;
  halted_member = is.halted_member;
  halted_beyond = is.halted_beyond;
  ranged = is.ranged;
  limit = is.limit;
  place = record {
    pool = is.place.pool;
    number = is.place.number;
    position = is.place.position;
    keys = is.place.keys;
    signed = is.place.signed;
    delivered = is.place.delivered;
    before = is.place.before;
  };
  phase = is.phase;
  asked = is.asked;
  said = is.said;
  signed = is.signed;
  pairs = is.pairs;
  kept = is.kept;
  account = is.account;
}

-- so the core is the process by any rule of signatures
pub with-rule : {G : Type 0} (used : G → ℕ) (s : Setting) (p : Process) (c : Core G) (rule : List ℕ → List ℕ → List ℕ → Bool)
    → IsCore used s p c → IsCore used (record s { valid = rule }) p c
unfolding IsCore
with-rule used s p c rule is = record {
  keyless = record {
    state = state-with-rule s p c.keyless.state.value rule is.keyless.state;
    group = is.keyless.group;
    roster = is.keyless.roster;
    kinds = is.keyless.kinds;
  };
  signed = is.signed;
}
