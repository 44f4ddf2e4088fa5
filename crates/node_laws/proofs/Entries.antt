-- The entries of a process, one more behind others.
use Rattle.std.proofs.Common.{◌≡◌, ◌≢◌, ℕ, List, [], ◌∷◌, ◌++◌, map, Bool, true, false, refl, sym, ap, ◌∙◌, subst}
use Rattle.std.specs.Prelude.{filter, ◌==◌, if◌then◌else◌}
use Rattle.std.proofs.lemmas.List.Elements.{filter-append}
use Rattle.std.proofs.lemmas.List.{append-nil, append_assoc}
use Rattle.std.proofs.lemmas.Bool.{eqb-true, eq-eqb}
use Rattle.group_defs.specs.Process.{Setting, Process}
use Rattle.group_defs.specs.Events.{Turn, after, run, outcome, read_again}
use Rattle.group_defs.specs.Accounts.{IsPrefixOf}
use Rattle.group_defs.specs.Laws.{HasGrown}
use Rattle.group_defs.specs.Family.{handed_to}
use Rattle.journal_defs.specs.Entries.{Event, Entry}
use Rattle.safety_laws.proofs.Induction.{run-keeps}
use Rattle.safety_laws.proofs.History.{grows}
use Rattle.safety_laws.proofs.EachWasDue.{grown-self}
use Rattle.safety_laws.proofs.Journalled.{journal_gives_the_turn}
use Rattle.node_defs.specs.Casts.{Cast, live, outcome_of, entry_for, kept_turn, turns_from, entries_of, taken_up}

pub entries-append : (q : ℕ) (es fs : List Entry) → entries_of q (es ++ fs) ≡ entries_of q es ++ entries_of q fs
entries-append q es fs = filter-append (λ (e : Entry). e.process == q) es fs

-- the only entry of a list is the process's own
pub own-entry : (q : ℕ) (e : Entry) → e.process ≡ q → entries_of q (e ∷ []) ≡ e ∷ []
own-entry q e own = ap (λ b. if b then e ∷ [] else []) (eq-eqb e.process q own)

pub other-entry : (q : ℕ) (e : Entry) → (e.process == q) ≡ false → entries_of q (e ∷ []) ≡ []
other-entry q e not = ap (λ b. if b then e ∷ [] else []) not

pub taken-append : (s : Setting) (p : Process) (es fs : List Entry) → taken_up s p (es ++ fs) ≡ taken_up s (taken_up s p es) fs
unfolding turns_from run
taken-append s p [] fs = refl
taken-append s p (e ∷ es) fs = taken-append s (after s p (kept_turn p e)) es fs

pub taken-one : (s : Setting) (p : Process) (e : Entry) → taken_up s p (e ∷ []) ≡ after s p (kept_turn p e)
unfolding turns_from run
taken-one s p e = refl

pub taken-snoc : (s : Setting) (p : Process) (es : List Entry) (e : Entry)
    → taken_up s p (es ++ e ∷ []) ≡ after s (taken_up s p es) (kept_turn (taken_up s p es) e)
taken-snoc s p es e = taken-append s p es (e ∷ []) ∙ taken-one s (taken_up s p es) e

-- what a process keeps as it takes entries up
pub taken-grows : (s : Setting) (p : Process) (es : List Entry) → HasGrown p (taken_up s p es)
taken-grows s p es = run-keeps s (HasGrown p) (turns_from s p es) (grows s (handed_to (turns_from s p es)) p) p (grown-self p)

pub taken-me : (s : Setting) (p : Process) (es : List Entry) → (taken_up s p es).me ≡ p.me
taken-me s p es = (taken-grows s p es).me

-- a live turn gives the process that its entry gives
pub live-is-kept : (c : Cast) (p : Process) (e : Event) → after c.setting p (kept_turn p (entry_for c p e)) ≡ after c.setting p (live c p e)
live-is-kept c p e = (journal_gives_the_turn c.setting p (live c p e)).0
