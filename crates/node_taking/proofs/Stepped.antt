-- What becomes of an event at its host.
use Rattle.std.proofs.Common.{◌≡◌, ℕ, List, Bool, true≢false, Option, None, sym, ap, ◌∙◌}
use Rattle.std.specs.Prelude.{IsTrue}
use Rattle.byte_defs.specs.Members.{has}
use Rattle.kit_defs.specs.Kits.{Kit}
use Rattle.group_defs.specs.Process.{Process}
use Rattle.sealing_laws.specs.Events.{event as plain_event, Event}
use Rattle.sealing_laws.specs.Running.{AnySigner, used, total, signature, Taken, IsCore, event as event_of, signer_of, turn_of, core_of, TakesTurn, hosted_in, Host, Hosts, AreHosts, numbers_of, IsHost, IsPlace, TakesLive}
use Rattle.node_defs.specs.Casts.{Cast, cast_of}
use Rattle.sealing_laws.proofs.Passed.{takes-live}
use Rattle.node_taking.specs.Turns.{HasHosts}

-- what `take_out` says
abbrev Lends : Hosts → ℕ → Option Host → Type 0
Lends hosts p o = (c : Cast) (kit : Kit) (now : ℕ → Process) → AreHosts c kit now None hosts → IsPlace c kit p (now p) o

-- a hosted process has its host
pub not-missing : (kit : Kit) (hosts : Hosts) (p : ℕ) → HasHosts kit hosts → IsTrue (has (numbers_of hosts) p) → Lends hosts p None → ⊥
not-missing kit hosts p some hosted lends =
    let c : Cast = cast_of kit some.version in
    true≢false (sym hosted ∙ ap (λ ps. has ps p) some.are.numbers ∙ lends c kit some.now some.are)

-- what `Hosted::take` says of this host
pub taken-so : (c : Cast) (kit : Kit) (p : ℕ) (now : ℕ → Process) (h : Host) (e : Event) (t : Taken AnySigner)
    (rule : List ℕ → List ℕ → List ℕ → Bool) → IsHost c kit p (now p) h → c.setting.valid ≡ rule
    → (IsCore used c.setting (now p) (core_of h.process) → c.setting.valid ≡ rule
    → TakesTurn used c.setting (now p) (turn_of used total signature (core_of h.process) (event_of e)) (plain_event e) t)
    → total (signer_of (core_of (hosted_in t))) ≡ total (signer_of (core_of h.process))
    → signature (signer_of (core_of (hosted_in t))) ≡ signature (signer_of (core_of h.process)) → TakesLive c p (now p) (plain_event e) t
taken-so c kit p now h e t rule is same takes sum signs =
    takes-live c p (now p) h.process e t is.process (takes is.process.core same) sum signs
