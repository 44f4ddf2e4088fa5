-- Hearing, claim by claim.
use Rattle.std.proofs.Common.{◌≡◌, ℕ, ◌≤◌, List, [], ◌∷◌, ◌++◌, Bool, true, false, Option, None, Some, refl, sym, subst, ap, ◌∙◌, length}
use Rattle.std.specs.Prelude.{if◌then◌else◌, ◌==◌}
use Rattle.std.specs.List.{list_any}
use Rattle.std.proofs.lemmas.List.{append-nil}
use Rattle.message_defs.specs.Spelling.{IsClaim}
use Rattle.message_defs.specs.Statements.{Claim, slot_of}
use Rattle.group_defs.specs.Process.{Setting, Pool, Process}
use Rattle.group_defs.specs.Certified.{claim_on}
use Rattle.group_defs.specs.Hearing.{Verdict, Old, Early, Stranger, OutOfWindow, Known, Unsigned, Conflict, Heard, verdict, kept_conflicts, with_verdict, hear, hear_all}
use Rattle.rule_laws.specs.Heard.{IsPool}
use Rattle.pool_laws.proofs.Members.{All-mem, each-snoc, find-is, mem-All}
use Rattle.group_defs.specs.Laws.{IsOfView}
use Rattle.safety_laws.proofs.OfTheView.{verdict-of-view}
use Rattle.claim_pool.specs.Kept.{Own}
use Rattle.claim_pool.specs.Kept.{HasDelivered}
use Rattle.claim_pool.specs.Settings.{as_setting}
use Rattle.claim_pool.specs.Verdicts.{after, verdict as verdict_of}
use Rattle.claim_pool.specs.declared.verdict.Verdict as code
use Rattle.claim_pool.specs.declared.verdict.Verdict.TheVariants as codes
use Rattle.claim_hearing.specs.Hearing.{Shares, IsHeard}

-- where nothing is heard on its slot, a claim adds no conflict
pub none-kept : (p : Process) (c : Claim) → claim_on p.pool.heard c.signer (slot_of c.statement) ≡ None → p.conflicts ≡ kept_conflicts p c
none-kept p c none = sym (ap (λ o. if list_any (λ pair. pair.1.signer == c.signer) p.conflicts then p.conflicts
    else p.conflicts ++ elim o [ None ↦ [] | Some first ↦ (first, c) ∷ [] ]) none ∙ either
    (list_any (λ pair. pair.1.signer == c.signer) p.conflicts))
  where
    either : (b : Bool) → (if b then p.conflicts else p.conflicts ++ []) ≡ p.conflicts
    either true = refl
    either false = append-nil p.conflicts

-- a heard claim's signature is short
pub heard-short : (h : Pool) → IsPool h → (a : ℕ) (c d : Claim) → claim_on h.heard a (slot_of c.statement) ≡ Some d
    → length d.signature ≤ 16384
heard-short h pool a c d e = (All-mem IsClaim h.heard d pool.in_range (find-is _ h.heard d e).0).2

-- claims are judged by the rule, the group and the keys alone
pub same-verdict : (s : Setting) (valid : List ℕ → List ℕ → List ℕ → Bool) (group : List ℕ) (roster : List (ℕ × List ℕ))
    → Shares s valid group roster → (p : Process) (c : Claim) → verdict (as_setting valid group roster) p c ≡ verdict s p c
same-verdict s valid group roster shares p c =
    let bound = sym shares.bound in
    let keys = sym shares.keys in
    let rule = sym shares.rule in
    λ i. verdict (record { group = bound i; roster = keys i; genesis = s.genesis; valid = rule i; signs = s.signs }) p c

-- a verdict that is no conflict changes the pool alone
pub heard-by : (v : Verdict) (p : Process) (c : Claim) → (v ≡ Conflict → ⊥) → IsHeard (with_verdict v p c) (after v p.pool c) p.conflicts
heard-by Heard p c not' = record { pool = refl; pairs = refl }
heard-by Conflict p c not' = absurd (not' refl)
heard-by Old p c not' = record { pool = refl; pairs = refl }
heard-by Early p c not' = record { pool = refl; pairs = refl }
heard-by Stranger p c not' = record { pool = refl; pairs = refl }
heard-by OutOfWindow p c not' = record { pool = refl; pairs = refl }
heard-by Known p c not' = record { pool = refl; pairs = refl }
heard-by Unsigned p c not' = record { pool = refl; pairs = refl }

-- the view stays
pub after-view : (v : Verdict) (h : Pool) (c : Claim) → (after v h c).view ≡ h.view
after-view Heard h c = refl
after-view Conflict h c = refl
after-view Old h c = refl
after-view Early h c = refl
after-view Stranger h c = refl
after-view OutOfWindow h c = refl
after-view Known h c = refl
after-view Unsigned h c = refl

-- the code's verdict is a conflict where it is one of the definitions
pub no-conflict : (v : code.Verdict) → (v ≡ codes.Conflict → ⊥) → verdict_of v ≡ Conflict → ⊥
no-conflict codes.Conflict not' e = not' refl
no-conflict codes.Old not' e = absurd cc
no-conflict codes.Early not' e = absurd cc
no-conflict codes.Stranger not' e = absurd cc
no-conflict codes.OutOfWindow not' e = absurd cc
no-conflict codes.Known not' e = absurd cc
no-conflict codes.Unsigned not' e = absurd cc
no-conflict codes.Heard not' e = absurd cc

module _ (s : Setting) (valid : List ℕ → List ℕ → List ℕ → Bool) (group : List ℕ) (roster : List (ℕ × List ℕ))
    (shares : Shares s valid group roster) (p : Process) (c : Claim) where
  -- a conflict keeps the pair
  pub conflict-kept : Conflict ≡ verdict (as_setting valid group roster) p c → (h : Pool) (cs : List (Claim × Claim)) → p.pool ≡ h
      → cs ≡ kept_conflicts p c → IsHeard (hear s p c) h cs
  conflict-kept e h cs pool kept = subst (λ v. IsHeard (with_verdict v p c) h cs) (e ∙ same-verdict s valid group roster shares p c)
      (record { pool = pool; pairs = sym kept })

  -- another verdict changes the pool alone
  pub heard-as : (v : Verdict) → (v ≡ Conflict → ⊥) → v ≡ verdict (as_setting valid group roster) p c
      → (h h' : Pool) (cs : List (Claim × Claim)) → p.pool ≡ h → h' ≡ after v h c → p.conflicts ≡ cs → IsHeard (hear s p c) h' cs
  heard-as v not' e h h' cs pool now pairs =
      let is = heard-by v p c not' in
      subst (λ v. IsHeard (with_verdict v p c) h' cs) (e ∙ same-verdict s valid group roster shares p c)
      (record { pool = is.pool ∙ ap (λ h. after v h c) pool ∙ sym now; pairs = is.pairs ∙ pairs })

-- what is heard stays of the view and in range
pub pool-kept : (s : Setting) (p : Process) (c : Claim) → IsClaim c → IsPool p.pool → IsPool (hear s p c).pool
pool-kept s p c range pool = go (verdict s p c) refl
  where
    go : (v : Verdict) → verdict s p c ≡ v → IsPool (with_verdict v p c).pool
    go Heard e = record {
      view = pool.view;
      of_view = mem-All (IsOfView p.pool.view) (p.pool.heard ++ c ∷ [])
          (each-snoc (IsOfView p.pool.view) p.pool.heard c (λ d m. All-mem (IsOfView p.pool.view) p.pool.heard d pool.of_view m)
          (verdict-of-view s p c e));
      in_range = mem-All IsClaim (p.pool.heard ++ c ∷ [])
          (each-snoc IsClaim p.pool.heard c (λ d m. All-mem IsClaim p.pool.heard d pool.in_range m) range);
    }
    go Conflict e = pool
    go Old e = pool
    go Early e = pool
    go Stranger e = pool
    go OutOfWindow e = pool
    go Known e = pool
    go Unsigned e = pool

-- and what is delivered stays
pub delivered-kept : (s : Setting) (p : Process) (c : Claim) (own : Own) → HasDelivered own p → HasDelivered own (hear s p c)
delivered-kept s p c own is = go (verdict s p c)
  where
    go : (v : Verdict) → HasDelivered own (with_verdict v p c)
    go Heard = record { places = is.places; counts = is.counts }
    go Conflict = record { places = is.places; counts = is.counts }
    go Old = is
    go Early = is
    go Stranger = is
    go OutOfWindow = is
    go Known = is
    go Unsigned = is

-- where claims are left to be heard, one at a time leads to the same end
pub one-heard : (s : Setting) (p : Process) (c : Claim) (old left : List Claim) → old ≡ c ∷ left
    → hear_all s (hear s p c) left ≡ hear_all s p old
unfolding hear_all
one-heard s p c old left steps = sym (ap (hear_all s p) steps)

pub none-left : (s : Setting) (p : Process) (left : List Claim) → left ≡ [] → hear_all s p left ≡ p
unfolding hear_all
none-left s p left none = ap (hear_all s p) none
