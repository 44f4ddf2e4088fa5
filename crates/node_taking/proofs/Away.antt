-- A turn that is away with its process: what its journal, what lets it out, and its place ask of it.
use Rattle.std.proofs.Common.{◌≡◌, ℕ, List, ◌++◌, Option, None, Some, refl, sym, ap, subst, ◌∙◌}
use Rattle.std.specs.Prelude.{◌≢◌, if◌then◌else◌, map, All, IfSome, IsTrue}
use Rattle.std.proofs.lemmas.Bool.{eq-eqb, ne_eqb}
use Rattle.std.proofs.Math.Logic.{∥∥₁_elim}
use Rattle.std.proofs.Props.{props}
use Rattle.std.proofs.lemmas.Grind.{merely}
use Rattle.byte_defs.specs.Members.{has}
use Rattle.sealing_laws.specs.Letters.{AreInRange, IsFromOther, IsLast, IsSealable, letters_in}
use Rattle.kit_defs.specs.Kits.{IsKit, Kit}
use Rattle.group_defs.specs.Process.{Process}
use Rattle.group_defs.specs.Events.{Note, Outcome as PlainOutcome, after}
use Rattle.journal_defs.specs.Entries.{Event}
use Rattle.journal_rp.specs.declared.journal.Journal.{Journal}
use Rattle.journal_rp.specs.declared.journal.Writing.{Writing}
use Rattle.journal_rp.specs.declared.turn.Synced.{Synced}
use Rattle.journal_rp.specs.declared.turn.Unsynced.{Unsynced}
use Rattle.journal_rp.specs.Stages.{version_of}
use Rattle.journal_rp.specs.Turns.{outcome_of, process_of, staged_of}
use Rattle.auth_link.specs.Keys.{known}
use Rattle.member_events.specs.declared.events.Outcome.{Outcome}
use Rattle.sealing_laws.specs.Running.{AnySigner, used, Hosted, IsCore, IsOutcome, IsReal, Running, Host, Hosts, AreHosts, numbers_of, IsHost, IsHosted, IsJournalOf, IsNode, cast_in}
use Rattle.node_defs.specs.Casts.{Cast, entries_of, entry_for, handed, live}
use Rattle.node_defs.specs.Nodes.{Node, Task, asks, with_turn}
use Rattle.node_traces.specs.Stops.{Outset}
use Rattle.sealing_laws.specs.Service.{note}
use Rattle.sealing_laws.proofs.Sealed.{keyed_turns_can_be_sealed}
use Rattle.node_taking.specs.declared.stepping.Away.{Away}
use Rattle.node_taking.specs.Asking.{left_to_ask}
use Rattle.node_taking.specs.Turns.{IsAway, IsTurnOf}
use Rattle.node_taking.specs.Keeping.{grown, IsSameTurn}
use Rattle.node_taking.proofs.Still.{if-reported, reported}

pub turn-of : (c : Cast) (kit : Kit) (p : ℕ) (now : Process) (e : Event) (away : Away Unsynced) → IsAway c kit p now e away
    → IsTurnOf c now e (staged_of away.turn)
turn-of c kit p now e away is = record { taken = is.takes.1; staged = is.takes.3; entry = is.takes.4 }

-- ---- letting it out

-- its entry is the last of the journal
pub last-so : (head : List ℕ) (c : Cast) (kit : Kit) (n : Node) (p : ℕ) (e : Event) (was : Away Unsynced) (now : Away Synced) (j : Journal Writing)
    (seen : Option (List ℕ)) (may_leave : List ℕ → Type 0) → IsAway c kit p (n.now p) e was → IsSameTurn was now
    → IsJournalOf head (grown c n p e) j seen may_leave → IfSome seen (λ file. IsLast seen may_leave (staged_of now.turn))
last-so head c kit n p e was now j seen may_leave is same journal = if-reported seen (λ some. record {
  head = head;
  before = n.kept;
  entry = entry_for c (n.now p) e;
  gate = (grown c n p e).gate;
  spells = is.takes.4;
  staged_as = same.entry ∙ is.takes.3;
  rest = reported seen journal.rest some;
})

-- what a core's process keeps is in range
all-in-range : (c : Cast) (p : ℕ) (now : Process) (h : Hosted AnySigner) → IsHosted c p now h → AreInRange now
unfolding IsCore
all-in-range c p now h is =
    let state = is.core.keyless.state in
    record {
      signed = state.lawful.said;
      heard = state.lawful.pool.in_range;
      previous = state.ranged.previous_ranged;
      commits = state.ranged.commits_ranged;
    }

pub among : (c : Cast) (kit : Kit) (now : ℕ → Process) (out : Option ℕ) (hosts : Hosts) (p : ℕ) → AreHosts c kit now out hosts
    → IsTrue (has (numbers_of hosts) p) → IsTrue (has c.hosted p)
among c kit now out hosts p are there = subst (λ (ps : List ℕ). IsTrue (has ps p)) are.numbers there

-- its letters can be sealed
pub sealable-so : (f : Outset) (r : Running) (n : Node) (ts : List Task) (p : ℕ) (e : Event) (was : Away Unsynced) (now : Away Synced)
    (seen : Option (List ℕ)) (may_leave : List ℕ → Type 0) → ∥ IsKit r.kit.now ∥₁ → IsTrue (has (numbers_of r.hosts) p) → IsFromOther p (handed e)
    → IsNode f seen may_leave r n ts → IsAway (cast_in r) r.kit.now p (n.now p) e was → IsSameTurn was now
    → All (IsSealable r.kit.now p) (letters_in (outcome_of now.turn).sends.items)
sealable-so f r n ts p e was now seen may_leave real hosted other node is same =
    ∥∥₁_elim real (hlevel props) (λ kit.
    let c : Cast = cast_in r in
    subst (λ o. All (IsSealable r.kit.now p) (letters_in o.sends.items)) (sym same.outcome)
    (keyed_turns_can_be_sealed r.kit.now (version_of r.journal) p (f.begins.from p) (n.now p) (entries_of p n.kept) e (outcome_of was.turn) kit
    (among c r.kit.now n.now None r.hosts p node.hosts hosted) (node.keyed p) (node.sound.processes p) other
    (all-in-range c p (after c.setting (n.now p) (live c (n.now p) e)) (process_of was.turn) is.takes.0) is.takes.2))

-- ---- back in its place

turned-here : (c : Cast) (n : Node) (p : ℕ) (e : Event) → with_turn c n (Some (p, e)) p ≡ after c.setting (n.now p) (live c (n.now p) e)
turned-here c n p e = ap (λ b. if b then after c.setting (n.now p) (live c (n.now p) e) else n.now p) (eq-eqb p p refl)

turned-others : (c : Cast) (n : Node) (p : ℕ) (e : Event) (q : ℕ) → q ≢ p → with_turn c n (Some (p, e)) q ≡ n.now q
turned-others c n p e q other = ap (λ b. if b then after c.setting (n.now q) (live c (n.now q) e) else n.now q) (ne_eqb q p other)

-- the process as it is then, with which the turn is let out
pub grown-so : (c : Cast) (kit : Kit) (n : Node) (p : ℕ) (e : Event) (was : Away Unsynced) (now : Away Synced) (h : Hosted AnySigner)
    → IsAway c kit p (n.now p) e was → IsSameTurn was now → h ≡ process_of now.turn → IsHosted c p ((grown c n p e).now p) h
grown-so c kit n p e was now h is same process = subst (λ (r : Process). IsHosted c p r h) (sym (turned-here c n p e))
    (subst (λ (g : Hosted AnySigner). IsHosted c p (after c.setting (n.now p) (live c (n.now p) e)) g) (sym (process ∙ same.process))
    is.takes.0)

-- the host that is put back
pub back-so : (c : Cast) (kit : Kit) (n : Node) (p : ℕ) (e : Event) (was : Away Unsynced) (now : Away Synced) (h : Host)
    → IsAway c kit p (n.now p) e was → IsSameTurn was now → h.process ≡ process_of now.turn → h.keys ≡ now.keys → h.port ≡ now.port
    → IsHost c kit p ((grown c n p e).now p) h
back-so c kit n p e was now h is same process keys port = record {
  process = grown-so c kit n p e was now h.process is same process;
  keys = ap known (keys ∙ same.keys) ∙ is.keys;
  port = is.port ∙ sym (port ∙ same.port);
}

pub all-back : (c : Cast) (kit : Kit) (n : Node) (p : ℕ) (e : Event) (old new : Hosts) (h : Host)
    → ((now after : ℕ → Process) (q : ℕ) → AreHosts c kit now (Some q) old → IsTrue (has c.hosted q) → IsHost c kit q (after q) h
    → ((u : ℕ) → u ≢ q → after u ≡ now u) → AreHosts c kit after None new)
    → AreHosts c kit n.now (Some p) old → IsTrue (has c.hosted p) → IsHost c kit p ((grown c n p e).now p) h
    → AreHosts c kit (grown c n p e).now None new
all-back c kit n p e old new h put are there is = put n.now (grown c n p e).now p are there is (turned-others c n p e)

-- what the service is asked of it then
pub asked-so : (p : ℕ) (e : Event) (ts : List Task) (o : PlainOutcome) (r came : Outcome) → came ≡ r → IsOutcome o r
    → left_to_ask p e (Some came) ++ ts ≡ asks p e o.notes ++ ts
asked-so p e ts o r came same is = ap (λ (w : Outcome). asks p e (map note w.notes.items) ++ ts) same
    ∙ ap (λ (notes : List Note). asks p e notes ++ ts) (sym is.reported)

-- some process is it
pub real-so : (c : Cast) (p : ℕ) (now : Process) (h : Hosted AnySigner) → IsHosted c p now h → IsReal used h
real-so c p now h is = merely (record { setting = c.setting; process = now; core = is.core })
