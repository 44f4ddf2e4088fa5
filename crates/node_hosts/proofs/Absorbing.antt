-- An entry that a hosted process takes up.
use Rattle.std.proofs.Common.{◌≡◌, ℕ, ◌-◌, ◌<◌, get_or, set, Bool, true, false, true≢false, List, length, Option, None, Some, Result, Ok, Err, refl, sym, ap, subst, ◌∙◌}
use Rattle.std.specs.Prelude.{◌≢◌, ◌==◌, if◌then◌else◌, IfOk, IsTrue, OnErr}
use Rattle.std.proofs.Math.Logic.{∥∥₁_elim}
use Rattle.std.proofs.Math.Nat.{ℕ_set}
use Rattle.std.proofs.lemmas.Bool.{eq-eqb, eqb-true}
use Rattle.std.proofs.lemmas.List.{get_or_default}
use Rattle.byte_defs.specs.Members.{has}
use Rattle.kit_defs.specs.Kits.{Kit}
use Rattle.group_defs.specs.Process.{Setting, Process}
use Rattle.group_defs.specs.Events as defs
use Rattle.group_defs.specs.Events.{after, journalled}
use Rattle.journal_defs.specs.Entries as entries
use Rattle.journal_entries.specs.Views.{entry as entry_of}
use Rattle.member_events.specs.declared.entry.Entry.{Entry}
use Rattle.member_events.specs.declared.events.Outcome.{Outcome}
use Rattle.member_events.specs.Kept.{signatures_left}
use Rattle.sig_scheme.specs.declared.any_signer.AnySigner.{AnySigner}
use Rattle.sig_scheme.specs.Signers.{used, total, signature, SameKey, any_keeps}
use Rattle.hosted_core.specs.Cores.{IsCore, left_of, me_of, signer_of}
use Rattle.hosted_core.specs.Cores.{Agrees, Absorbs}
use Rattle.hosted_core.specs.Cores.{event as event_of}
use Rattle.hosted_core.proofs.Cores.{after-me}
use Rattle.hosted_core.proofs.Cores.{me-so, with-rule}
use Rattle.hosted_core.specs.declared.hosted.Hosted.{Hosted}
use Rattle.hosted_core.specs.Hosts.{core_of, IsReal}
use Rattle.node_defs.specs.Casts.{Cast, kept_turn, may_have_written}
use Rattle.node_defs.specs.Nodes.{Node, reads_one, takes_up}
use Rattle.node_hosts.specs.declared.host.Host.{Host}
use Rattle.node_hosts.specs.Places.{IsHost, IsHosted, IsPlace}
use Rattle.node_hosts.proofs.Standing.{Stand, all-stand, none-some}
use Rattle.node_hosts.proofs.Turning.{event-is, left-is}
use Rattle.node_hosts.proofs.Written.{agrees-so, written-so}

module _ (c : Cast) (q : ℕ) (p : Process) (h : Hosted AnySigner) (e : Entry) (is : IsHosted c q p h) where
  -- an entry that the process may have written agrees with its core
  pub agrees-with : IsTrue (may_have_written c p (entry_of e))
      → Agrees c.setting p (left_of used total (core_of h)) (event_of e.event) (signatures_left e.signatures) e.spent
  agrees-with written =
      subst (λ n. Agrees c.setting p n (event_of e.event) (signatures_left e.signatures) e.spent) (sym (left-is c q p h is))
      (subst (λ x. Agrees c.setting p (c.total p.me - length p.signed) x (signatures_left e.signatures) e.spent) (sym (event-is e.event))
      (agrees-so c p (entry_of e) written))

  -- and one that its core has absorbed it may have written
  pub written-by : (g : Hosted AnySigner) (r : Outcome) → Absorbs used c.setting p (left_of used total (core_of h)) (core_of g)
      (event_of e.event) (signatures_left e.signatures) e.spent r → IsTrue (may_have_written c p (entry_of e))
  written-by g r absorbs = written-so c p (entry_of e)
      (subst (λ x. Agrees c.setting p (c.total p.me - length p.signed) x (signatures_left e.signatures) e.spent) (event-is e.event)
      (subst (λ n. Agrees c.setting p n (event_of e.event) (signatures_left e.signatures) e.spent) (left-is c q p h is) absorbs.agrees))

  -- it is the process after the turn that the entry keeps
  pub absorbed : (g : Hosted AnySigner) (r : Outcome) → Absorbs used c.setting p (left_of used total (core_of h)) (core_of g)
      (event_of e.event) (signatures_left e.signatures) e.spent r
      → total (signer_of (core_of g)) ≡ total (signer_of (core_of h)) → SameKey (signer_of (core_of h)) (signer_of (core_of g))
      → IsHosted c q (after c.setting p (kept_turn p (entry_of e))) g
  absorbed g r absorbs sum key = record {
    core = subst (λ x. IsCore used c.setting (after c.setting p (journalled p x (signatures_left e.signatures))) (core_of g))
        (event-is e.event) absorbs.core;
    number = after-me c.setting p (kept_turn p (entry_of e)) ∙ is.number;
    total = sum ∙ is.total;
    signs = (any_keeps (signer_of (core_of h)) (signer_of (core_of g)) key).signatures ∙ is.signs;
  }

  -- one that absorbed nothing is as it was
  pub unabsorbed : (g : Hosted AnySigner) → IsCore used c.setting p (core_of g) → signer_of (core_of g) ≡ signer_of (core_of h)
      → IsHosted c q p g
  unabsorbed g core same = record {
    core = core;
    number = is.number;
    total = ap total same ∙ is.total;
    signs = ap signature same ∙ is.signs;
  }

-- a process keeps its number
pub number-stays : {F : Type 0} (rule : List ℕ → List ℕ → List ℕ → Bool) (old new : Hosted AnySigner) (left : ℕ) (e : defs.Event)
    (signatures : List (List ℕ)) (spent : Bool) (result : Result Outcome F)
    → ((s : Setting) (p : Process) → IsCore used s p (core_of old) → s.valid ≡ rule
    → IfOk result (Absorbs used s p left (core_of new) e signatures spent))
    → ((s : Setting) (p : Process) → IsCore used s p (core_of old) → OnErr result (IsCore used s p (core_of new)))
    → IsReal used old → me_of (core_of new) ≡ me_of (core_of old)
number-stays rule old new left e signatures spent (Ok r) absorbs lost real = ∥∥₁_elim real (ℕ_set _ _) (λ has.
    let s : Setting = record has.setting { valid = rule } in
    let p = has.process in
    let is = with-rule used has.setting p (core_of old) rule has.core in
    sym (me-so used s (after s p (journalled p e signatures)) (core_of new) (absorbs s p is refl).core)
    ∙ after-me s p (journalled p e signatures) ∙ me-so used s p (core_of old) is)
number-stays rule old new left e signatures spent (Err f) absorbs lost real = ∥∥₁_elim real (ℕ_set _ _) (λ has.
    sym (me-so used has.setting has.process (core_of new) (lost has.setting has.process has.core))
    ∙ me-so used has.setting has.process (core_of old) has.core)

-- ---- the node

-- the process whose entry is read
pub reads-here : (c : Cast) (n : Node) (e : entries.Entry)
    → (reads_one c n e).now e.process ≡ after c.setting (n.now e.process) (kept_turn (n.now e.process) e)
reads-here c n e = ap (λ (b : Bool). if b then after c.setting (n.now e.process) (kept_turn (n.now e.process) e) else n.now e.process)
    (eq-eqb e.process e.process refl)

-- the others stay
pub reads-other : (c : Cast) (n : Node) (e : entries.Entry) (p : ℕ) → p ≢ e.process → (reads_one c n e).now p ≡ n.now p
reads-other c n e p other = go (p == e.process) refl
  where
    go : (b : Bool) → (p == e.process) ≡ b → (reads_one c n e).now p ≡ n.now p
    go true same = absurd (other (eqb-true p e.process same))
    go false differ = ap (λ (b : Bool). if b then after c.setting (n.now p) (kept_turn (n.now p) e) else n.now p) differ

pub takes-hosted : (c : Cast) (n : Node) (e : entries.Entry) → has c.hosted e.process ≡ true
    → takes_up c n e ≡ may_have_written c (n.now e.process) e
takes-hosted c n e among = ap (λ (b : Bool). if b then may_have_written c (n.now e.process) e else false) among

pub takes-no-other : (c : Cast) (n : Node) (e : entries.Entry) → has c.hosted e.process ≡ false → IsTrue (takes_up c n e) → ⊥
takes-no-other c n e strange takes = true≢false
    (sym takes ∙ ap (λ (b : Bool). if b then may_have_written c (n.now e.process) e else false) strange)

-- ---- the places

module _ (c : Cast) (kit : Kit) (places : List (Option Host)) (q : ℕ) (below : q < 64) (now : ℕ → Process) (stand : Stand c kit now None places) where
  -- of a process without a host
  pub stranger : get_or places q None ≡ None → has c.hosted q ≡ false
  stranger e = subst (IsPlace c kit q (now q)) e (stand q below (none-some q))

  -- of one with a host
  pub here : (h : Host) → get_or places q None ≡ Some h → IsTrue (has c.hosted q) × IsHost c kit q (now q) h
  here h e = subst (IsPlace c kit q (now q)) e (stand q below (none-some q))

  -- the host of q has become another process
  pub becomes : (new : ℕ → Process) (g : Host) → q < length places → IsTrue (has c.hosted q) → IsHost c kit q (new q) g
      → ((p : ℕ) → p ≢ q → new p ≡ now p) → Stand c kit new None (set places q (Some g))
  becomes new g within among is others =
      all-stand c kit now new places q g within (λ p under out. stand p under (none-some p)) among is others

-- it has taken up an entry
pub reads-stand : (c : Cast) (kit : Kit) (n : Node) (e : entries.Entry) (places : List (Option Host)) (g : Host) → e.process < 64
    → e.process < length places → Stand c kit n.now None places → IsTrue (has c.hosted e.process)
    → IsHost c kit e.process (after c.setting (n.now e.process) (kept_turn (n.now e.process) e)) g
    → Stand c kit (reads_one c n e).now None (set places e.process (Some g))
reads-stand c kit n e places g below within stand among is =
    becomes c kit places e.process below n.now stand (reads_one c n e).now g within among
    (subst (λ (p : Process). IsHost c kit e.process p g) (sym (reads-here c n e)) is) (reads-other c n e)

-- its place has another name
pub written : (c : Cast) (kit : Kit) (places : List (Option Host)) (q r : ℕ) → q ≡ r → (g : Host) (now : ℕ → Process)
    → Stand c kit now None (set places q (Some g)) → Stand c kit now None (set places r (Some g))
written c kit places q r same g now stand = subst (λ k. Stand c kit now None (set places k (Some g))) same stand

-- what is found there
pub found : (places : List (Option Host)) (q r : ℕ) (o : Option Host) (h : Host) → q ≡ r → q < length places → o ≡ get_or places r o
    → o ≡ Some h → get_or places q None ≡ Some h
found places q r o h same within there is = get_or_default places q None o within ∙ ap (λ k. get_or places k o) same ∙ sym there ∙ is
