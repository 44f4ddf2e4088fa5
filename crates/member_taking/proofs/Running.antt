-- What is answered to an event of a process of which no halt is told.
use Rattle.std.proofs.Common.{◌≡◌, ℕ, [], ◌∷◌, Bool, true, false, Option, Some, None, refl, sym, ap, ◌∙◌}
use Rattle.std.specs.Prelude.{Result, Ok, Err, IfOk, IfErr, is_some, not, if◌then◌else◌, option_and_then, option_map, unwrap_or}
use Rattle.std.specs.Result.{result_err}
use Rattle.byte_defs.specs.Choices.{first_that_holds}
use Rattle.message_defs.specs.Updates.{Value}
use Rattle.group_defs.specs.Process.{Setting, Process, places_in}
use Rattle.group_defs.specs.Views.{is_member}
use Rattle.group_defs.specs.Certified.{is_ended}
use Rattle.group_defs.specs.Settle as defs
use Rattle.member_state.specs.Phases.{Phase, Observing, OpenView, ClosingView, DecidedView, HaltedView, IsIn}
use Rattle.member_state.specs.declared.state.ProcessState.{ProcessState}
use Rattle.member_state.specs.States.{IsStateOf, halted_at}

halted-phase : (p : Process) → p.halted ≡ true → defs.phase_of p ≡ defs.HaltedView
halted-phase p e = ap (λ halted. unwrap_or
    (first_that_holds ((halted, defs.HaltedView) ∷ (is_some p.decision, defs.DecidedView)
    ∷ (not (is_member p.pool.view p.me), defs.Observing)
    ∷ (is_ended p, defs.ClosingView) ∷ [])) defs.OpenView) e

-- a process that has halted has decided
has-decided : (phase : Phase) (p : Process) → IsIn phase p → defs.phase_of p ≡ defs.HaltedView → is_some p.decision ≡ true
has-decided (Observing o) p at e = (let clash : defs.Observing ≡ defs.HaltedView = sym at ∙ e in absurd cc)
has-decided (OpenView o) p at e = (let clash : defs.OpenView ≡ defs.HaltedView = sym at ∙ e in absurd cc)
has-decided (ClosingView k) p at e = (let clash : defs.ClosingView ≡ defs.HaltedView = sym at.phase ∙ e in absurd cc)
has-decided (DecidedView d) p at e = ap is_some at.decision
has-decided (HaltedView h) p at e = ap is_some at.decision

reported : (halted : Bool) (o : Option (ℕ × Value)) (places : ℕ) → halted ≡ true → is_some o ≡ true
    → option_and_then {U = ℕ × ℕ} (λ d. if halted then Some (places, d.1.cut) else None) o ≡ None → ⊥
reported true (Some d) places e some none = cc
reported true None places e some none = cc
reported false o places e some none = cc

-- where no halt is told, the process has not halted
pub running : (s : Setting) (p : Process) (st : ProcessState) → IsStateOf s p st → halted_at p ≡ None → p.halted ≡ false
running s p st is none = go p.halted refl
  where
    go : (halted : Bool) → p.halted ≡ halted → halted ≡ false
    go false e = refl
    go true e = absurd (reported p.halted p.decision (places_in p.delivered) e (has-decided st.phase p is.phase (halted-phase p e)) none)

module _ {A F G : Type 0} (fault : F → G) (refused : Setting → Process → Option G) (st : ProcessState) where
  -- what is admitted is refused by no process with the state
  pub admits : (r : Result A F) → ((s : Setting) (p : Process) → IsStateOf s p st → refused s p ≡ option_map fault (result_err r))
      → IfOk r (λ a. (s : Setting) (p : Process) → IsStateOf s p st → refused s p ≡ None)
  admits (Ok a) so = so
  admits (Err f) so = tt

  -- and the fault is that by which each refuses
  pub refuses : (r : Result A F) → ((s : Setting) (p : Process) → IsStateOf s p st → refused s p ≡ option_map fault (result_err r))
      → IfErr r (λ f. (s : Setting) (p : Process) → IsStateOf s p st → refused s p ≡ Some (fault f))
  refuses (Ok a) so = tt
  refuses (Err f) so = so
