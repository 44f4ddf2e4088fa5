-- What a step makes of a walk that is on its way.
use Rattle.std.proofs.Common.{◌≡◌, ℕ, ◌+◌, ◌<◌, ◌≤◌, List, [], ◌∷◌, ◌++◌, length, map, get_or, drop, Option, Some, None, Result, Ok, Err, refl, sym, ap, ◌∙◌}
use Rattle.std.specs.Prelude.{IfSome}
use Rattle.std.specs.List.{enumerate_from, flat_map}
use Rattle.std.proofs.lemmas.List.{drop_all, drop_more}
use Rattle.byte_defs.specs.Fields.{◌>>=◌}
use Rattle.group_defs.specs.Process.{Setting}
use Rattle.journal_defs.specs.Entries.{Entry}
use Rattle.audit_defs.specs.Sources.{Step, Takes, Breaks, steps_in}
use Rattle.journal_steps.specs.declared.source.Source.{Source}
use Rattle.journal_steps.specs.Views.{source}
use Rattle.audit_defs.specs.Players.{Taken, taking}
use Rattle.audit_defs.specs.Audits as audits
use Rattle.audit_defs.specs.Audits.{AuditFault, Known, goes, goes_through, knows}
use Rattle.audit_turns.specs.declared.walk.Walk.{Walk}
use Rattle.audit_turns.specs.Walks.{GoesOn}
use Rattle.audit_sources.specs.declared.fault.AuditFault as faults
use Rattle.audit_sources.specs.Faults.{IsFaultOf, fault_of}
use Rattle.audit_walk.specs.Ways.{IsOnWay, Walked}

-- ---- the first step

module _ (s : Setting) (k : Known) (left : List Step) where
  -- what an entry gives, and the steps after it
  abbrev after-it : ℕ → ℕ → Option Taken → Result Known AuditFault
  after-it j place o = knows k j place o >>= λ next. goes_through s next left

  taken : (j place : ℕ) (e : Entry) (t : Taken) → taking s j e k.players ≡ Some t
      → goes_through s k (Takes j place e ∷ left) ≡ goes_through s (record { players = t.players; claims = k.claims ++ t.claims }) left
  unfolding goes_through
  taken j place e t is = ap (after-it j place) is

  refused : (j place : ℕ) (e : Entry) → taking s j e k.players ≡ None → goes_through s k (Takes j place e ∷ left) ≡ Err (audits.Entry j place)
  unfolding goes_through
  refused j place e is = ap (after-it j place) is

  broken : (j place : ℕ) → goes_through s k (Breaks j place ∷ left) ≡ Err (audits.Entry j place)
  unfolding goes_through
  broken j place = refl

ended : (s : Setting) (k : Known) → goes_through s k [] ≡ Ok k
unfolding goes_through
ended s k = refl

-- ---- all of them

more-behind : (s : Setting) (more steps : List Step) (r : Result Known AuditFault)
    → ((k : Known) → goes_through s k (more ++ steps) ≡ (goes_through s k more >>= λ next. goes_through s next steps))
    → (r >>= λ next. goes_through s next (more ++ steps)) ≡ ((r >>= λ next. goes_through s next more) >>= λ next. goes_through s next steps)
more-behind s more steps (Ok k) so = so k
more-behind s more steps (Err f) so = refl

-- steps after steps
goes-after : (s : Setting) (first steps : List Step) (k : Known)
    → goes_through s k (first ++ steps) ≡ (goes_through s k first >>= λ next. goes_through s next steps)
unfolding goes_through
goes-after s [] steps k = refl
goes-after s (step ∷ first) steps k = more-behind s first steps (goes s k step) (goes-after s first steps)

-- ---- on the way

module _ (s : Setting) (end : Result Known AuditFault) (left : List Step) (old new : Walk) where
  pub entry-taken : (j place : ℕ) (e : Entry) (way : IsOnWay s end (Takes j place e ∷ left) old)
      → GoesOn s way.known way.own (taking s j e way.known.players) new → IsOnWay s end left new
  entry-taken j place e way on = record {
    known = record { players = on.0.players; claims = way.known.claims ++ on.0.claims };
    own = way.own ++ on.2.more;
    walk = on.2.walk;
    ends = way.ends ∙ taken s way.known left j place e on.0 on.1;
  }

  pub entry-refused : (j place : ℕ) (e : Entry) (way : IsOnWay s end (Takes j place e ∷ left) old)
      → taking s j e way.known.players ≡ None → end ≡ Err (audits.Entry j place)
  entry-refused j place e way none = way.ends ∙ refused s way.known left j place e none

  pub gate-broken : (j place : ℕ) → IsOnWay s end (Breaks j place ∷ left) old → end ≡ Err (audits.Entry j place)
  gate-broken j place way = way.ends ∙ broken s way.known left j place

  -- a whole journal was walked
  pub journal-taken : (first : List Step) (way : IsOnWay s end (first ++ left) old) → Walked s (goes_through s way.known first) new
      → IsOnWay s end left new
  journal-taken first way walked = record {
    known = walked.known;
    own = walked.own;
    walk = walked.walk;
    ends = way.ends ∙ goes-after s first left way.known ∙ ap (λ r. r >>= λ next. goes_through s next left) walked.ends;
  }

  -- or refused
  pub journal-refused : (first : List Step) (way : IsOnWay s end (first ++ left) old) (fault : faults.AuditFault)
      → IsFaultOf fault (goes_through s way.known first) → IsFaultOf fault end
  journal-refused first way fault tells = go (fault_of fault) tells
    where
      go : (o : Option AuditFault) → IfSome o (λ f. goes_through s way.known first ≡ Err f) → IfSome o (λ f. end ≡ Err f)
      go None none = none
      go (Some f) is = way.ends ∙ goes-after s first left way.known ∙ ap (λ r. r >>= λ next. goes_through s next left) is

-- no step is left
pub all-taken : (s : Setting) (end : Result Known AuditFault) (w : Walk) → IsOnWay s end [] w → Walked s end w
all-taken s end w way = record { known = way.known; own = way.own; ends = way.ends ∙ ended s way.known; walk = way.walk }

-- ---- the journals that are left

module _ (j : ℕ) (xs : List Source) where
  -- the steps of those from this index on
  abbrev pub steps-left : List Step
  steps-left = flat_map steps_in (enumerate_from j (map source (drop j xs)))

  pub journal-left : (x : Source) → j < length xs → x ≡ get_or xs j x
      → steps-left ≡ steps_in (j, source x) ++ flat_map steps_in (enumerate_from (j + 1) (map source (drop (j + 1) xs)))
  journal-left x low is = ap (λ ys. flat_map steps_in (enumerate_from j (map source ys)))
      (drop_more xs j x low ∙ ap (λ y. y ∷ drop (j + 1) xs) (sym is))

  pub none-left : length xs ≤ j → steps-left ≡ []
  none-left past = ap (λ ys. flat_map steps_in (enumerate_from j (map source ys))) (drop_all j xs past)
