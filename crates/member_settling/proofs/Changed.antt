-- A process with another decision, or that has halted, and its state in another phase.
use Rattle.std.proofs.Common.{◌≡◌, inl, inr, ℕ, ◌<◌, Option, Some, None, Bool, true, false, refl, sym, ap, ◌∙◌}
use Rattle.std.specs.Option.{option_or}
use Rattle.message_defs.specs.Updates.{Value}
use Rattle.group_defs.specs.Views.{is_member}
use Rattle.group_defs.specs.Process.{Setting, Pool, Process, places_in}
use Rattle.group_defs.specs.Settle.{decide, decided_by, Observing, OpenView, ClosingView}
use Rattle.pool_laws.proofs.Tests.{option_or-is}
use Rattle.own_place.specs.declared.own.Own.{Own}
use Rattle.own_place.specs.Owns.{IsOwnOf}
use Rattle.member_state.specs.Parts.{Archived, Keeps}
use Rattle.member_state.specs.Below.{Phase, IsIn, decided, decision_of, IsLawful}
use Rattle.member_state.specs.Phases as phases
use Rattle.member_state.specs.declared.state.ProcessState.{ProcessState}
use Rattle.member_state.specs.Bounds.{IsBounded}
use Rattle.member_state.specs.States.{IsStateOf, IsDecision}
use Rattle.member_settling.specs.Steps.{in_phase}
use Rattle.member_settling.proofs.Decisions.{decided-is}
use Rattle.member_settling.proofs.Phases.{observing, open_, closing, undecided}

clash : {A : Type 0} (b : Bool) → b ≡ false → b ≡ true → A
clash b e f = absurd (let no : false ≡ true = sym e ∙ f in cc)

-- who has halted has decided
pub halted-decided : (phase : Phase) (p : Process) → IsIn phase p → p.halted ≡ true → (d : ℕ × Value) × (p.decision ≡ Some d)
halted-decided (phases.Observing o) p is e = clash p.halted (undecided p Observing observing is).0 e
halted-decided (phases.OpenView o) p is e = clash p.halted (undecided p OpenView open_ is).0 e
halted-decided (phases.ClosingView c) p is e = clash p.halted (undecided p ClosingView closing is.phase).0 e
halted-decided (phases.DecidedView d) p is e = (decided d, is.decision)
halted-decided (phases.HaltedView h) p is e = (decision_of h.decision, is.decision)

module _ (p : Process) (decision : Option (ℕ × Value)) (stops : Bool) where
  abbrev pub changed : Process
  changed = record p { decision = decision; halted = stops }

  lawful-so : IsLawful p → IsLawful changed
  lawful-so ok = record {
    number = ok.number;
    pool = ok.pool;
    own = ok.own;
    past = ok.past;
    said = ok.said;
    short = ok.short;
    batches = ok.batches;
    asked = ok.asked;
  }

  bounded-so : IsBounded p → IsBounded changed
  bounded-so ok = record { now = ok.now; before = ok.before; backlog = ok.backlog }

  tells-so : (s : Setting) (h : Pool) (own : Own) → IsOwnOf s p h own → IsOwnOf s changed h own
  tells-so s h own is = record {
    pool = is.pool;
    number = is.number;
    position = is.position;
    keys = is.keys;
    signed = record {
      slots = is.signed.slots;
      end = is.signed.end;
      greatest = is.signed.greatest;
      last_ready = is.signed.last_ready;
      how_many = is.signed.how_many;
      names = is.signed.names;
    };
    delivered = record { places = is.delivered.places; counts = is.delivered.counts };
    before = is.before;
  }

  keeps-so : (a : Archived) → Keeps a p → Keeps a changed
  keeps-so a is = record { numbers = is.numbers; previous = is.previous; commits = is.commits }

  -- where what is decided is certified, and who has halted is a member beyond the cut
  pub state-so : (s : Setting) (st : ProcessState) (phase : Phase)
      → ((d : ℕ × Value) → decision ≡ Some d → IsDecision s p d)
      → (stops ≡ true → is_member p.pool.view p.me ≡ true)
      → (stops ≡ true → (d : ℕ × Value) → decision ≡ Some d → d.1.cut < places_in p.delivered)
      → IsIn phase changed → IsStateOf s p st → IsStateOf s changed (in_phase phase st)
  state-so s st phase decides member beyond is ok = record {
    lawful = lawful-so ok.lawful;
    bounded = bounded-so ok.bounded;
    number = ok.number;
    some = ok.some;
    decided = λ d e. let by = decides d e in record { certified = by.certified; possible = by.possible };
    each = ok.each;
    asked_for = ok.asked_for;
    halted_member = member;
    halted_beyond = beyond;
    ranged = ok.ranged;
    limit = ok.limit;
    place = tells-so s st.pool.pool st.own ok.place;
    phase = is;
    asked = ok.asked;
    said = ok.said;
    signed = ok.signed;
    pairs = ok.pairs;
    kept = keeps-so st.archive ok.kept;
    account = ok.account;
  }

-- the state of a process that decides
pub decides-state : (s : Setting) (p : Process) (st : ProcessState) (phase : Phase) → IsIn phase (decide s p) → IsStateOf s p st
    → IsStateOf s (decide s p) (in_phase phase st)
decides-state s p st phase is ok = state-so p (option_or p.decision (decided_by s p.pool)) p.halted s st phase
    (λ d e. elim (option_or-is p.decision (decided_by s p.pool) d e) [
      | inl was ↦ ok.decided d was
      | inr now ↦
          (let by = decided-is s p.pool d now in record { certified = by.certified; possible = by.possible })
    ])
    ok.halted_member
    (λ stops d e. elim (option_or-is p.decision
    (decided_by s p.pool) d e) [ inl was ↦ ok.halted_beyond stops d was | inr now ↦ earlier stops d e ])
    is ok
  where
    -- it had decided before
    earlier : p.halted ≡ true → (d : ℕ × Value) → option_or p.decision (decided_by s p.pool) ≡ Some d → d.1.cut < places_in p.delivered
    earlier stops d e =
        let was = halted-decided st.phase p ok.phase stops in
        let same : p.decision ≡ Some d = was.1 ∙ sym (ap (λ (o : Option (ℕ × Value)). option_or o (decided_by s p.pool)) was.1) ∙ e in
        ok.halted_beyond stops d same

-- who has decided, or where no rank decides, stays as it is
pub stays-decided : (s : Setting) (p : Process) (d : ℕ × Value) → p.decision ≡ Some d → decide s p ≡ p
stays-decided s p d e = ap (λ (o : Option (ℕ × Value)). record p { decision = o })
    (ap (λ (o : Option (ℕ × Value)). option_or o (decided_by s p.pool)) e ∙ sym e)

pub stays-undecided : (s : Setting) (p : Process) → decided_by s p.pool ≡ None → decide s p ≡ p
stays-undecided s p e = ap (λ (o : Option (ℕ × Value)). record p { decision = o }) (ap (option_or p.decision) e ∙ go p.decision)
  where
    go : (o : Option (ℕ × Value)) → option_or o None ≡ o
    go None = refl
    go (Some d) = refl
