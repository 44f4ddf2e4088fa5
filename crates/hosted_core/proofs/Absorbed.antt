-- A hosted process that absorbed an entry, or did not, is some process still.
use Rattle.std.proofs.Common.{◌≡◌, ℕ, List, Bool, Result, Ok, Err, refl}
use Rattle.std.specs.Prelude.{IfOk, OnErr}
use Rattle.std.proofs.Math.Logic.{∥∥₁_map}
use Rattle.group_defs.specs.Process.{Setting, Process}
use Rattle.group_defs.specs.Events as defs
use Rattle.member_events.specs.declared.events.Outcome.{Outcome}
use Rattle.member_core.specs.Cores.{IsCore}
use Rattle.member_core.specs.Entries.{Absorbs}
use Rattle.member_core.proofs.Stepped.{with-rule}
use Rattle.hosted_core.specs.declared.hosted.Hosted.{Hosted}
use Rattle.hosted_core.specs.Hosts.{IsReal, core_of}

pub absorbed-real : {G F : Type 0} (used : G → ℕ) (rule : List ℕ → List ℕ → List ℕ → Bool) (old new : Hosted G) (left : ℕ) (e : defs.Event)
    (signatures : List (List ℕ)) (spent : Bool) (result : Result Outcome F)
    → ((s : Setting) (p : Process) → IsCore used s p (core_of old) → s.valid ≡ rule
    → IfOk result (Absorbs used s p left (core_of new) e signatures spent))
    → ((s : Setting) (p : Process) → IsCore used s p (core_of old) → OnErr result (IsCore used s p (core_of new)))
    → IsReal used old → IsReal used new
absorbed-real used rule old new left e signatures spent (Ok r) absorbs lost real = ∥∥₁_map real (λ has.
    let s : Setting = record has.setting { valid = rule } in
    let is = with-rule used has.setting has.process (core_of old) rule has.core in
    record { setting = s; process = _; core = (absorbs s has.process is refl).core })
absorbed-real used rule old new left e signatures spent (Err f) absorbs lost real = ∥∥₁_map real (λ has.
    record { setting = has.setting; process = has.process; core = lost has.setting has.process has.core })
