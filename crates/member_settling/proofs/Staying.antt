-- A process that leaves its view, or stays in it.
use Rattle.std.proofs.Common.{◌≡◌, ℕ, ◌<◌, List, ◌++◌, map, length, drop, Option, Some, None, Bool, true, false, refl, sym, ap, ◌∙◌, subst, arith}
use Rattle.std.specs.Prelude.{if◌then◌else◌, ◌==◌, nat_lt}
use Rattle.std.proofs.lemmas.Bool.{lt-ltb, ltb-true, ne_eqb}
use Rattle.std.proofs.lemmas.List.{append-nil}
use Rattle.message_defs.specs.Updates.{Value}
use Rattle.group_defs.specs.Views.{is_member}
use Rattle.group_defs.specs.Process.{Setting, Process, places_in}
use Rattle.group_defs.specs.Events.{Note, Delivers, Installs, note_if}
use Rattle.group_defs.specs.Settle.{install, leave, leave_by, Observing, OpenView, ClosingView}
use Rattle.member_events.specs.declared.events.Note as code
use Rattle.member_state.specs.Below.{DecidedView, HaltedView, Phase, IsIn, IsHalted, counts, decided}
use Rattle.member_state.specs.Phases as phases
use Rattle.member_state.specs.declared.state.ProcessState.{ProcessState}
use Rattle.member_state.specs.Events.{note}
use Rattle.member_state.specs.States.{IsStateOf}
use Rattle.member_settling.specs.Reported.{ReportsDelivered, ReportsInstalled}
use Rattle.member_settling.specs.Steps as steps
use Rattle.member_settling.specs.Steps.{in_phase}
use Rattle.member_settling.proofs.Changed.{state-so}
use Rattle.member_settling.proofs.Loop.{reported-behind}
use Rattle.member_settling.proofs.Phases.{observing, open_, closing, undecided, halted}

-- ---- who stays

pub leave-none : (p : Process) → p.decision ≡ None → leave p ≡ p
leave-none p e = ap (λ (o : Option (ℕ × Value)). let it : Process = elim o [ None ↦ p | Some d ↦ leave_by d p ] in it) e

leave-some : (p : Process) (d : ℕ × Value) → p.decision ≡ Some d → leave p ≡ leave_by d p
leave-some p d e = ap (λ (o : Option (ℕ × Value)). let it : Process = elim o [ None ↦ p | Some d ↦ leave_by d p ] in it) e

-- a member beyond the cut has halted
beyond-halts : (p : Process) (d : ℕ × Value) → is_member p.pool.view p.me ≡ true → d.1.cut < places_in p.delivered
    → leave_by d p ≡ record p { halted = true }
beyond-halts p d member beyond =
    let apart : (places_in p.delivered == d.1.cut)
    ≡ false = ne_eqb (places_in p.delivered) d.1.cut (λ same. absurd (omega (arith, same, beyond))) in
    ap (λ b. if b then (if places_in p.delivered == d.1.cut then install d p
    else record p { halted = nat_lt d.1.cut (places_in p.delivered) }) else install d p) member
    ∙ ap (λ b. if b then install d p else record p { halted = nat_lt d.1.cut (places_in p.delivered) }) apart
    ∙ ap (λ (b : Bool). record p { halted = b }) (lt-ltb d.1.cut (places_in p.delivered) beyond)

halted-stays : (s : Setting) (p : Process) (st : ProcessState) (d : ℕ × Value) → IsStateOf s p st → p.halted ≡ true → p.decision ≡ Some d
    → leave p ≡ p
halted-stays s p st d ok stops e =
    leave-some p d e ∙ beyond-halts p d (ok.halted_member stops) (ok.halted_beyond stops d e) ∙ ap (λ (b : Bool). record p { halted = b })
    (sym stops)

pub stays : (s : Setting) (p : Process) (st : ProcessState) (phase : Phase) → IsStateOf s p st → IsIn phase p
    → ((d : DecidedView) → phase ≡ phases.DecidedView d → ⊥) → leave p ≡ p
stays s p st (phases.Observing o) ok is not = leave-none p (undecided p Observing observing is).1
stays s p st (phases.OpenView o) ok is not = leave-none p (undecided p OpenView open_ is).1
stays s p st (phases.ClosingView c) ok is not = leave-none p (undecided p ClosingView closing is.phase).1
stays s p st (phases.DecidedView d) ok is not = absurd (not d refl)
stays s p st (phases.HaltedView h) ok is not = halted-stays s p st _ ok (halted p is.phase) is.decision

-- ---- what is told

none-installed : (p : Process) (was : List code.Note) → ReportsInstalled p p was was
none-installed p was = sym (append-nil (map note was)) ∙ ap (λ b. map note was ++ note_if b (Installs p.pool.view))
    (sym (go (nat_lt (length p.left) (length p.left)) refl))
  where
    go : (b : Bool) → nat_lt (length p.left) (length p.left) ≡ b → nat_lt (length p.left) (length p.left) ≡ false
    go true e = absurd (let lt = ltb-true (length p.left) (length p.left) e in omega (arith, lt))
    go false e = e

pub stays-so : (s : Setting) (p q : Process) (st : ProcessState) (was : List code.Note) → q ≡ p → IsStateOf s p st
    → steps.Leaves s p q st was was
stays-so s p q st was same ok = subst (λ q. steps.Leaves s p q st was was) (sym same) (record { state = ok; reported = none-installed p was })

-- ---- who halts

member-beyond : (p : Process) (d : DecidedView) → (decided d).1.cut < counts p d
    → (is_member p.pool.view p.me ≡ true) × ((decided d).1.cut < places_in p.delivered)
member-beyond p d beyond = go (is_member p.pool.view p.me) refl beyond
  where
    go : (b : Bool) → is_member p.pool.view p.me ≡ b → (decided d).1.cut < (if b then places_in p.delivered else (decided d).1.cut)
        → (is_member p.pool.view p.me ≡ true) × ((decided d).1.cut < places_in p.delivered)
    go true e lt = (e, lt)
    go false e lt = absurd (omega (arith, lt))

pub halts-so : (s : Setting) (p q : Process) (st : ProcessState) (was : List code.Note) (d : DecidedView) (h : HaltedView)
    → IsStateOf s p (in_phase (phases.DecidedView d) st) → q ≡ record p { halted = true } → IsHalted h q → (decided d).1.cut < counts p d
    → steps.Leaves s p q (in_phase (phases.HaltedView h) st) was was
halts-so s p q st was d h ok same is beyond =
    let there = member-beyond p d beyond in
    let now : IsHalted h (record p { halted = true }) = subst (IsHalted h) same is in
    subst (λ q. steps.Leaves s p q (in_phase (phases.HaltedView h) st) was was) (sym same) (record {
      state = state-so p p.decision true s (in_phase (phases.DecidedView d) st) (phases.HaltedView h) ok.decided (λ e. there.0)
          (λ e d' e'. cut-beyond d' e' there.1) now ok;
      reported = none-installed p was;
    })
  where
    cut-beyond : (d' : ℕ × Value) → p.decision ≡ Some d' → (decided d).1.cut < places_in p.delivered → d'.1.cut < places_in p.delivered
    cut-beyond d' e lt = let same : decided d
        ≡ d' = (let a = sym ok.phase.decision ∙ e in cc) in subst (λ (d : ℕ × Value). d.1.cut < places_in p.delivered) same lt

-- ---- all that is told of settling

pub all-reported : (p q r : Process) (was then_ now : List code.Note) → ReportsDelivered p q was then_ → q.left ≡ p.left
    → ReportsInstalled q r then_ now
    → map note now ≡ map note was ++ map (Delivers p.pool.view.number) (drop (length p.delivered) q.delivered)
    ++ note_if (nat_lt (length p.left) (length r.left)) (Installs r.pool.view)
all-reported p q r was then_ now delivered same installed =
    installed
    ∙ ap (λ ls. map note then_ ++ note_if (nat_lt (length ls) (length r.left)) (Installs r.pool.view)) same
    ∙ ap (λ (ns : List Note). ns ++ note_if (nat_lt (length p.left) (length r.left)) (Installs r.pool.view))
    (reported-behind p q was then_ delivered)

-- the state, put back into its phase
pub same-phase : (st : ProcessState) (begun phase : Phase) → st.phase ≡ phase → in_phase phase (in_phase begun st) ≡ st
same-phase st begun phase e = ap (λ (phase : Phase). record st { phase = phase }) (sym e)
