-- Which phases go before the decision, and which statement changes them.
use Rattle.std.proofs.Common.{◌≡◌, ℕ, true, false, Some, None, refl, sym, ◌∙◌, ap, subst}
use Rattle.message_defs.specs.Statements.{Statement, End, view_of}
use Rattle.group_defs.specs.Process.{Setting, Process}
use Rattle.group_defs.specs.Due.{may_sign}
use Rattle.group_defs.specs.Signing.{Signer, signs}
use Rattle.group_defs.specs.Values.{length_said}
use Rattle.rule_laws.proofs.Signable.{may-parts}
use Rattle.own_place.specs.Noting.{is_end}
use Rattle.member_state.specs.Below.{IsIn, IsClosing, Phase, ClosingView as Closing}
use Rattle.member_state.specs.Phases.{Observing, OpenView, ClosingView, DecidedView, HaltedView}
use Rattle.member_signing.specs.Signed.{IsUndecided}
use Rattle.member_signing.proofs.Ending.{Precedes, end-kept, observer-signs-none, one-end, phase-kept, undecided}

-- before the decision nothing is decided
pub none-decided : (phase : Phase) (p : Process) → IsUndecided phase → IsIn phase p → p.decision ≡ None
none-decided (Observing o) p before is = undecided p (subst Precedes (sym is) tt)
none-decided (OpenView o) p before is = undecided p (subst Precedes (sym is) tt)
none-decided (ClosingView c) p before is = undecided p (subst Precedes (sym is.phase) tt)
none-decided (DecidedView d) p before is = absurd before
none-decided (HaltedView h) p before is = absurd before

-- what a process signs that is not an End leaves its phase as it is
pub other-stays : (phase : Phase) (s : Setting) (signer : Signer) (p : Process) (st : Statement) → IsUndecided phase → is_end st ≡ false
    → IsIn phase p → IsIn phase (signs s signer p st)
other-stays (Observing o) s signer p st before other is = phase-kept s signer p st other ∙ is
other-stays (OpenView o) s signer p st before other is = phase-kept s signer p st other ∙ is
other-stays (ClosingView c) s signer p st before other is = record {
  phase = phase-kept s signer p st other ∙ is.phase;
  length = end-kept s signer p st other ∙ is.length;
}
other-stays (DecidedView d) s signer p st before other is = absurd before
other-stays (HaltedView h) s signer p st before other is = absurd before

-- an End is signed in an open view alone
pub end-where-open : (phase : Phase) (s : Setting) (p : Process) (x k : ℕ) → IsUndecided phase → may_sign s p (End x k) ≡ true
    → IsIn phase p → ((o : _) → phase ≡ OpenView o → ⊥) → ⊥
end-where-open (Observing o) s p x k before may is other = observer-signs-none s p (End x k) is may
end-where-open (OpenView o) s p x k before may is other = other o refl
end-where-open (ClosingView c) s p x k before may is other = one-end s p x k is.phase may
end-where-open (DecidedView d) s p x k before may is other = before
end-where-open (HaltedView h) s p x k before may is other = before

-- it is of the process's view
pub end-of-view : (s : Setting) (signer : Signer) (p : Process) (x k : ℕ) (c : Closing) → may_sign s p (End x k) ≡ true
    → IsClosing c (signs s signer p (End p.pool.view.number k)) → IsClosing c (signs s signer p (End x k))
end-of-view s signer p x k c may = subst (λ x. IsClosing c (signs s signer p (End x k))) (sym (may-parts s p (End x k) may).current)

-- a statement that tells a length is an End of its view
pub end-reported : (st : Statement) (k : ℕ) → Some k ≡ length_said st → st ≡ End (view_of st) k
end-reported (End x n) k e = let same : k ≡ n = cc in ap (End x) (sym same)
end-reported _ k e = absurd cc

-- one that tells none is no End
pub not-end : (st : Statement) → None ≡ length_said st → is_end st ≡ false
not-end (End x n) e = absurd cc
not-end _ e = refl
