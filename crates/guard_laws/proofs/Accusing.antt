-- What a process keeps of conflicts was handed to it or signed by it, and each member of its view has a key.
use Rattle.std.proofs.Common.{◌≡◌, ◌⊎◌, inl, inr, ℕ, List, [], ◌∷◌, ◌++◌, Option, Some, None, Bool, true, false, refl, sym, ap, subst}
use Rattle.std.specs.Prelude.{◌&&◌, ◌==◌, if◌then◌else◌, not, is_none, is_some}
use Rattle.std.specs.List.{list_any}
use Rattle.byte_defs.specs.Members.{has}
use Rattle.byte_defs.specs.Orders.{put}
use Rattle.message_defs.specs.Updates.{Update, Remove, Add, Renew, Value}
use Rattle.message_defs.specs.Statements.{Statement, Claim, slot_of, same_slot}
use Rattle.message_defs.specs.Spelling.{IsClaim}
use Rattle.message_defs.specs.Claims.{Claims, Wants, Faulty}
use Rattle.group_defs.specs.Views.{has_keys, is_possible, members_after, next_fault}
use Rattle.group_defs.specs.Process.{Setting, Process, keyed, start}
use Rattle.group_defs.specs.Certified.{claim_on, heard_on}
use Rattle.group_defs.specs.Due.{is_perceived}
use Rattle.group_defs.specs.Hearing.{Verdict, Old, Early, Stranger, OutOfWindow, Known, Unsigned, Conflict, Heard, verdict, with_verdict, kept_conflicts, hear, hear_all}
use Rattle.group_defs.specs.Signing.{Signer, own_claim, signs}
use Rattle.group_defs.specs.Settle.{decided_by, settle}
use Rattle.group_defs.specs.Events.{Event, Submit, Hand, Suspect, Join, RenewView, Tick, Turn, EventFault, perceived_numbers, perceives, refusal, take_in, signing, after, run}
use Rattle.group_defs.specs.Family.{claims_in, handed_to}
use Rattle.event_laws.proofs.Settled.{settling_leaves}
use Rattle.event_laws.proofs.Signed.{signing_leaves}
use Rattle.guard_laws.specs.Guards.{CanAccuse, RunsCanAccuse}
use Rattle.guard_laws.proofs.Evidence.{after-some}
use Rattle.pool_laws.proofs.Members.{All-mem, Mem, append-mem, filter-mem, find-is, mem-All, mem-append, mem-behind, snoc-mem}
use Rattle.pool_laws.proofs.Tests.{and-second, option_or-is}
use Rattle.safety_laws.proofs.Induction.{AreFrom, Keeps, after-keeps}
use Rattle.safety_laws.proofs.Installed.{decided_by-is}
use Rattle.safety_laws.proofs.Settlings.{after-none}

-- a frame can carry the claim, or it is one of these, which the process has signed
abbrev pub Carried : List Claim → Claim → Type 0
Carried signed c = IsClaim c ⊎ Mem c signed

carried-more : (signed more : List Claim) (c : Claim) → Carried signed c → Carried (signed ++ more) c
carried-more signed more c (inl is) = inl is
carried-more signed more c (inr m) = inr (mem-append signed more c m)

-- so are both claims of each pair; the second one was handed over
abbrev AreCarried : List Claim → List (Claim × Claim) → Type 0
AreCarried signed pairs = (pair : Claim × Claim) → Mem pair pairs → Carried signed pair.0 × IsClaim pair.1

-- who is a member behind an update has a key, where each member before had one, and the process that is added
keyed-after : (keys ms : List ℕ) (u : Update) → has_keys keys u ≡ true → ((m : ℕ) → Mem m ms → has keys m ≡ true) → (m : ℕ)
    → Mem m (members_after ms u) → has keys m ≡ true
keyed-after keys ms (Remove q) e before m there = before m (filter-mem (λ m. not (m == q)) ms m there).0
keyed-after keys ms (Add q) e before m there = go (snoc-mem ms q m there)
  where
    go : Mem m ms ⊎ (q ≡ m) → has keys m ≡ true
    go (inl was) = before m was
    go (inr is) = subst (λ m. has keys m ≡ true) is e
keyed-after keys ms Renew e before m there = before m there

module _ (s : Setting) (from : List Claim) (each : (c : Claim) → Mem c from → IsClaim c) where
  -- what is heard can be carried, each member has a key, and what is decided is possible
  record Holds (p : Process) : Type 0 where
    pub heard : (c : Claim) → Mem c p.pool.heard → Carried p.signed c
    pub listed : (m : ℕ) → Mem m p.pool.view.members → has (keyed s) m ≡ true
    pub possible : (d : ℕ × Value) → p.decision ≡ Some d → is_possible (keyed s) p.pool.view d.1.update ≡ true

  holds-signed : (p : Process) (signer : Signer) (st : Statement) → Holds p → Holds (signs s signer p st)
  holds-signed p signer st ok = record {
    heard = λ d there. go d (is_some (heard_on p.pool p.me (slot_of st))) there;
    listed = ok.listed;
    possible = ok.possible;
  }
    where
      own : Claim
      own = own_claim s signer p st

      one : (d : Claim) → Mem d p.pool.heard ⊎ (own ≡ d) → Carried (p.signed ++ own ∷ []) d
      one d (inl before) = carried-more p.signed (own ∷ []) d (ok.heard d before)
      one d (inr is) = inr (mem-behind p.signed (own ∷ []) d (inl is))

      go : (d : Claim) (b : Bool) → Mem d (if b then p.pool.heard else p.pool.heard ++ own ∷ []) → Carried (p.signed ++ own ∷ []) d
      go d true m = carried-more p.signed (own ∷ []) d (ok.heard d m)
      go d false m = one d (snoc-mem p.pool.heard own d m)

  holds-heard : (p : Process) (c : Claim) → Mem c from → Holds p → Holds (with_verdict Heard p c)
  holds-heard p c m ok = record {
    heard = λ d there. go d (snoc-mem p.pool.heard c d there);
    listed = ok.listed;
    possible = ok.possible;
  }
    where
      go : (d : Claim) → Mem d p.pool.heard ⊎ (c ≡ d) → Carried p.signed d
      go d (inl before) = ok.heard d before
      go d (inr is) = inl (subst IsClaim is (each c m))

  holds-keeps : Keeps s from Holds
  holds-keeps = record {
    accepts = λ p payload ok. record { heard = ok.heard; listed = ok.listed; possible = ok.possible };
    perceives = λ p e ok. record { heard = ok.heard; listed = ok.listed; possible = ok.possible };
    hears = λ p c m e ok. holds-heard p c m ok;
    doubts = λ p conflicts ok. record { heard = ok.heard; listed = ok.listed; possible = ok.possible };
    signs = λ p signer st next none ok. holds-signed p signer st ok;
    decides = λ p ok. record {
      heard = ok.heard;
      listed = ok.listed;
      possible = λ d e. elim (option_or-is p.decision (decided_by s p.pool) d e) [
        | inl was ↦ ok.possible d was
        | inr now ↦
            (decided_by-is s p.pool d now).0
      ];
    };
    delivers = λ p ds member room e ok. record { heard = ok.heard; listed = ok.listed; possible = ok.possible };
    installs = λ p d decided whole ok. record {
      heard = λ c m. absurd m;
      listed = keyed-after (keyed s) p.pool.view.members d.1.update
          (and-second (is_none (next_fault p.pool.view d.1.update)) (has_keys (keyed s) d.1.update) (ok.possible d decided)) ok.listed;
      possible = λ d e. absurd cc;
    };
    halts = λ p d decided member ok. record { heard = ok.heard; listed = ok.listed; possible = ok.possible };
  }

  -- ---- the conflicts that are kept

  conflict-carried : (p : Process) (c : Claim) → Holds p → Mem c from → AreCarried p.signed p.conflicts
      → AreCarried p.signed (kept_conflicts p c)
  conflict-carried p c ok m kept pair there = go (list_any (λ pair. pair.1.signer == c.signer) p.conflicts) there
    where
      new : (o : Option Claim) → claim_on p.pool.heard c.signer (slot_of c.statement) ≡ o
          → Mem pair (elim o [ None ↦ [] | Some first ↦ (first, c) ∷ [] ]) → Carried p.signed pair.0 × IsClaim pair.1
      new None at there = absurd there
      new (Some first) at (inl is) = subst (λ (pair : Claim × Claim). Carried p.signed pair.0 × IsClaim pair.1) is (
        ok.heard first (find-is (λ d. (d.signer == c.signer) && same_slot (slot_of d.statement) (slot_of c.statement))
            p.pool.heard first at).0,
        each c m,
      )
      new (Some first) at (inr there) = absurd there

      either : Mem pair p.conflicts ⊎ Mem pair (elim (claim_on p.pool.heard c.signer (slot_of c.statement)) [
        | None ↦ []
        | Some first ↦ (first, c) ∷ []
      ]) → Carried p.signed pair.0 × IsClaim pair.1
      either (inl before) = kept pair before
      either (inr there) = new (claim_on p.pool.heard c.signer (slot_of c.statement)) refl there

      go : (b : Bool) → Mem pair (if b then p.conflicts else p.conflicts
          ++ elim (claim_on p.pool.heard c.signer (slot_of c.statement)) [ None ↦ [] | Some first ↦ (first, c) ∷ [] ])
          → Carried p.signed pair.0 × IsClaim pair.1
      go true there = kept pair there
      go false there = either (append-mem p.conflicts _ pair there)

  hear-carried : (p : Process) (c : Claim) → Holds p → Mem c from → AreCarried p.signed p.conflicts → (v : Verdict)
      → AreCarried (with_verdict v p c).signed (with_verdict v p c).conflicts
  hear-carried p c ok m kept Conflict = conflict-carried p c ok m kept
  hear-carried p c ok m kept Heard = kept
  hear-carried p c ok m kept Old = kept
  hear-carried p c ok m kept Early = kept
  hear-carried p c ok m kept Stranger = kept
  hear-carried p c ok m kept OutOfWindow = kept
  hear-carried p c ok m kept Known = kept
  hear-carried p c ok m kept Unsigned = kept

  hear-holds : (p : Process) (c : Claim) → Holds p → Mem c from → (v : Verdict) → Holds (with_verdict v p c)
  hear-holds p c ok m Heard = holds-heard p c m ok
  hear-holds p c ok m Conflict = record { heard = ok.heard; listed = ok.listed; possible = ok.possible }
  hear-holds p c ok m Old = ok
  hear-holds p c ok m Early = ok
  hear-holds p c ok m Stranger = ok
  hear-holds p c ok m OutOfWindow = ok
  hear-holds p c ok m Known = ok
  hear-holds p c ok m Unsigned = ok

  all-carried : (cs : List Claim) → ((c : Claim) → Mem c cs → Mem c from) → (p : Process) → Holds p → AreCarried p.signed p.conflicts
      → AreCarried (hear_all s p cs).signed (hear_all s p cs).conflicts
  unfolding hear_all
  all-carried [] are p ok kept = kept
  all-carried (c ∷ cs) are p ok kept = all-carried cs (λ d m. are d (inr m)) (hear s p c)
      (hear-holds p c ok (are c (inl refl)) (verdict s p c)) (hear-carried p c ok (are c (inl refl)) kept (verdict s p c))

  asked-carried : (p : Process) (u : Update) → AreCarried p.signed p.conflicts
      → AreCarried (perceives p u).signed (perceives p u).conflicts
  asked-carried p u kept = go (is_perceived p (p.pool.view.number, u))
    where
      go : (b : Bool) → let it : Process = if b then p else record p {
        perceived = put perceived_numbers (p.pool.view.number, u) p.perceived;
      } in AreCarried it.signed it.conflicts
      go true = kept
      go false = kept

  taken-carried : (e : Event) → ((c : Claim) → Mem c (claims_in e) → Mem c from) → (p : Process) → Holds p
      → AreCarried p.signed p.conflicts → AreCarried (take_in s p e).signed (take_in s p e).conflicts
  taken-carried (Submit payload) are p ok kept = kept
  taken-carried (Hand at (Claims claims)) are p ok kept = all-carried claims are p ok kept
  taken-carried (Hand at (Wants x k)) are p ok kept = kept
  taken-carried (Hand at (Faulty fault)) are p ok kept = kept
  taken-carried (Suspect q) are p ok kept = asked-carried p (Remove q) kept
  taken-carried (Join q) are p ok kept = asked-carried p (Add q) kept
  taken-carried RenewView are p ok kept = asked-carried p Renew kept
  taken-carried Tick are p ok kept = kept

  -- ---- along a run

  record Sound (p : Process) : Type 0 where
    pub holds : Holds p
    pub kept : AreCarried p.signed p.conflicts

  more-carried : (signed more : List Claim) (pairs : List (Claim × Claim)) → AreCarried signed pairs → AreCarried (signed ++ more) pairs
  more-carried signed more pairs kept pair m = (carried-more signed more pair.0 (kept pair m).0, (kept pair m).1)

  after-sound : (p : Process) (t : Turn) → ((c : Claim) → Mem c (claims_in t.event) → Mem c from) → Sound p → Sound (after s p t)
  after-sound p t are ok = record {
    holds = after-keeps s from Holds holds-keeps t (unfold AreFrom in are) p ok.holds;
    kept = go (refusal s p t.event) refl;
  }
    where
      signed-kept : AreCarried (signing s p t).now.signed (signing s p t).now.conflicts
      signed-kept =
          let leaves = signing_leaves s t.signer t.allowance (take_in s p t.event) in
          subst (λ (cs : List Claim). AreCarried cs (signing s p t).now.conflicts) (sym leaves.signed)
          (subst (AreCarried ((take_in s p t.event).signed ++ leaves.more)) (sym (ap (λ (q : Process). q.conflicts) leaves.rest))
          (more-carried (take_in s p t.event).signed leaves.more (take_in s p t.event).conflicts
          (taken-carried t.event are p ok.holds ok.kept)))

      go : (o : Option EventFault) → refusal s p t.event ≡ o → AreCarried (after s p t).signed (after s p t).conflicts
      go (Some fault) e = subst (λ (q : Process). AreCarried q.signed q.conflicts) (sym (after-some s p t fault e)) ok.kept
      go None e = subst (λ (q : Process). AreCarried q.signed q.conflicts) (sym (after-none s p t e))
          (subst (λ (cs : List Claim). AreCarried cs (settle s (signing s p t).now).conflicts)
          (sym (settling_leaves s (signing s p t).now).signed)
          (subst (AreCarried (signing s p t).now.signed) (sym (settling_leaves s (signing s p t).now).conflicts) signed-kept))

  run-sound : (ts : List Turn) → ((c : Claim) → Mem c (handed_to ts) → Mem c from) → (p : Process) → Sound p → Sound (run s p ts)
  unfolding run
  run-sound [] are p ok = ok
  run-sound (t ∷ ts) are p ok = run-sound ts (λ c m. are c (mem-behind (claims_in t.event) (handed_to ts) c m)) (after s p t)
      (after-sound p t (λ c m. are c (mem-append (claims_in t.event) (handed_to ts) c m)) ok)

  -- where a frame can carry what is signed, too
  can-accuse : (p : Process) → Sound p → ((c : Claim) → Mem c p.signed → IsClaim c) → CanAccuse s p
  can-accuse p ok own = record {
    carried = mem-All (λ (pair : Claim × Claim). IsClaim pair.0 × IsClaim pair.1) p.conflicts
        (λ pair m. (either pair.0 (ok.kept pair m).0, (ok.kept pair m).1));
    listed = mem-All (λ m. has (keyed s) m ≡ true) p.pool.view.members ok.holds.listed;
  }
    where
      either : (c : Claim) → Carried p.signed c → IsClaim c
      either c (inl is) = is
      either c (inr m) = own c m

pub runs_can_accuse : RunsCanAccuse
runs_can_accuse s me limit ts keys handed own =
    can-accuse s (handed_to ts) (λ c m. All-mem IsClaim (handed_to ts) c handed m) (run s (start s me limit) ts)
    (run-sound s (handed_to ts) (λ c m. All-mem IsClaim (handed_to ts) c handed m) ts (λ c m. m) (start s me limit) (record {
      holds = record {
        heard = λ c m. absurd m;
        listed = λ m there. All-mem (λ m. has (keyed s) m ≡ true) s.genesis.members m keys there;
        possible = λ d e. absurd cc;
      };
      kept = λ pair m. absurd m;
    }))
    (λ c m. All-mem IsClaim (run s (start s me limit) ts).signed c own m)
