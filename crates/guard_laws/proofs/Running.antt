-- What a guard makes of events is a run of a guard.
use Rattle.std.proofs.Common.{◌≡◌, inl, inr, ℕ, List, [], ◌∷◌, ◌++◌, Bool, true, false, refl}
use Rattle.std.specs.Prelude.{if◌then◌else◌}
use Rattle.group_defs.specs.Process.{Setting, Process}
use Rattle.group_defs.specs.Events.{Event, Suspect, after}
use Rattle.guard_defs.specs.Guarding.{Key, live, Given, GuardRun, shown, may_expel, suspected, expelled, guarded, given_run, guarded_all}
use Rattle.guard_laws.specs.Guards.{GuardsAreRuns}
use Rattle.pool_laws.proofs.Members.{Mem, mem-Contains}

-- whatever was shown last
RunsOn : Setting → Process → List Given → Type 0
RunsOn s p gs = (named : List ℕ) → GuardRun s p named gs

module _ (s : Setting) (key : Key) where
  expelled-run : (qs named : List ℕ) → ((q : ℕ) → Mem q qs → Mem q named) → (p : Process) (more : List Given)
      → RunsOn s (given_run s p (expelled s key p qs)) more → GuardRun s p named (expelled s key p qs ++ more)
  unfolding expelled RunsOn
  expelled-run [] named are p more run = run named
  expelled-run (q ∷ qs) named are p more run = go (may_expel p q) refl run (λ p'. expelled-run qs named (λ r m. are r (inr m)) p' more)
    where
      go : (b : Bool) → may_expel p q ≡ b
          → RunsOn s (given_run s p
          (if b then suspected key p q ∷ expelled s key (after s p (live key p (Suspect q))) qs else expelled s key p qs)) more
          → ((p' : Process) → RunsOn s (given_run s p' (expelled s key p' qs)) more → GuardRun s p' named (expelled s key p' qs ++ more))
          → GuardRun s p named
          ((if b then suspected key p q ∷ expelled s key (after s p (live key p (Suspect q))) qs else expelled s key p qs) ++ more)
      go true e run rest = (λ added. (q, refl, mem-Contains named q (are q (inl refl)), e), rest (after s p (live key p (Suspect q))) run)
      go false e run rest = rest p run

  all-run : (es : List Event) (p : Process) → RunsOn s p (guarded_all s key p es)
  unfolding guarded_all RunsOn
  all-run [] p named = tt
  all-run (e ∷ es) p named = (
    λ added. absurd cc,
    expelled-run (shown s p (live key p e)) (shown s p (live key p e)) (λ q m. m) (after s p (live key p e)) _
        (all-run es (given_run s p (guarded s key p e))),
  )

pub guards_are_runs : GuardsAreRuns
unfolding RunsOn
guards_are_runs s key p es = all-run s key es p []
