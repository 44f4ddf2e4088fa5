-- One turn that is read from its entry, as a guard's turn.
use Rattle.std.proofs.Common.{◌≡◌, ℕ, List, [], ◌∷◌, Bool, false, refl, sym, ap, ◌∙◌, subst, Option, Some, None}
use Rattle.std.specs.Prelude.{◌==◌, if◌then◌else◌, IsTrue}
use Rattle.std.proofs.lemmas.Bool.{eq-eqb}
use Rattle.group_defs.specs.Process.{Setting, Process}
use Rattle.group_defs.specs.Events.{Turn, EventFault, Outcome, after, answered, outcome, refusal, signing}
use Rattle.journal_defs.specs.Entries.{Event}
use Rattle.safety_laws.proofs.Journalled.{journal_gives_the_turn}
use Rattle.guard_defs.specs.Guarding.{GuardRun, MayAdd, shown, shown_by, shown_behind}
use Rattle.node_defs.specs.Casts.{Cast, handed, live, outcome_of, entry_for, kept_turn}
use Rattle.node_laws.proofs.Entries.{live-is-kept, taken-one, taken-me}
use Rattle.guarding_laws.specs.Marks.{Marked, given_from, marks_of}

-- a turn leaves a process its number
pub me-after : (c : Cast) (x : Process) (e : Event) → (after c.setting x (live c x e)).me ≡ x.me
me-after c x e = ap (λ (q : Process). q.me) (sym (live-is-kept c x e) ∙ sym (taken-one c.setting x (entry_for c x e)))
    ∙ taken-me c.setting x (entry_for c x e ∷ [])

-- an event that an outcome takes is not refused
taken-in : (s : Setting) (x : Process) (t : Turn) → (outcome s x t).verdict ≡ None → refusal s x t.event ≡ None
taken-in s x t none = go (refusal s x t.event) refl
  where
    go : (o : Option EventFault) → refusal s x t.event ≡ o → o ≡ None
    go None e = refl
    go (Some fault) e =
        let verdict : Option EventFault → Outcome = λ r. elim r [
          | None ↦ answered s x t (signing s x t)
          | Some f ↦ record { verdict = Some f; heard = 0; signed = []; spent = false; sends = []; notes = [] }
        ] in
        sym (ap (λ r. (verdict r).verdict) e) ∙ none

-- what the turn of an entry shows: what its event shows, with the notes of the live turn
pub shows : (c : Cast) (x : Process) (e : Event) → (outcome_of c x e).verdict ≡ None
    → shown c.setting x (kept_turn x (entry_for c x e)) ≡ shown_by c.setting (handed e) (outcome_of c x e).notes
shows c x e none =
    ap (λ (r : Option EventFault). elim r [ None ↦ shown_by c.setting (handed e) (outcome c.setting x (kept_turn x (entry_for c x e))).notes | Some fault ↦ [] ])
    (taken-in c.setting x (live c x e) none)
    ∙ ap (λ (o : Outcome). shown_by c.setting (handed e) o.notes) (journal_gives_the_turn c.setting x (live c x e)).1

-- A process goes on as a guard by a turn that it may take, where what is shown then is this.
pub own-turn : (c : Cast) (x : Process) (e : Event) (by : Bool) (named named_now : List ℕ) (more : List Marked)
    → (IsTrue by → MayAdd x named (kept_turn x (entry_for c x e)))
    → shown_behind c.setting x named (record { turn = kept_turn x (entry_for c x e); added = by }) ≡ named_now
    → GuardRun c.setting (after c.setting x (live c x e)) named_now (given_from c.setting (after c.setting x (live c x e)) more)
    → GuardRun c.setting x named (given_from c.setting x (record { entry = entry_for c x e; added = by } ∷ more))
unfolding given_from
own-turn c x e by named named_now more may shown run = (
  may,
  subst (λ (ns : List ℕ). GuardRun c.setting (after c.setting x (kept_turn x (entry_for c x e))) ns
      (given_from c.setting (after c.setting x (kept_turn x (entry_for c x e))) more)) (sym shown)
      (subst (λ (q : Process). GuardRun c.setting q named_now (given_from c.setting q more)) (sym (live-is-kept c x e)) run),
)

-- the first of these is the process's own, or another's
pub own-mark : (p : ℕ) (m : Marked) (more : List Marked) → m.entry.process ≡ p → marks_of p (m ∷ more) ≡ m ∷ marks_of p more
own-mark p m more own = ap (λ b. if b then m ∷ marks_of p more else marks_of p more) (eq-eqb m.entry.process p own)

pub other-mark : (p : ℕ) (m : Marked) (more : List Marked) → (m.entry.process == p) ≡ false → marks_of p (m ∷ more) ≡ marks_of p more
other-mark p m more not = ap (λ b. if b then m ∷ marks_of p more else marks_of p more) not
