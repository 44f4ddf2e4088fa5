-- A kit that is read is spelled so, and what is spelled so is read.
use Rattle.std.proofs.Common.{◌≡◌, ℕ, List, Result, Ok, Err, ap, subst, ◌∙◌}
use Rattle.std.specs.Prelude.{IfOk}
use Rattle.byte_defs.specs.Reads.{Makes}
use Rattle.kit_defs.specs.Kits.{IsKit, Kit, kit_text}
use Rattle.kit_defs.specs.KitReading.{kit_of}
use Rattle.kit_defs.proofs.ReadKits.{read_is_spelled}
use Rattle.kit_defs.proofs.SpelledKits.{spelled_is_read}
use Rattle.kit_reading.specs.declared.faults.KitFault.{KitFault}
use Rattle.kit_reading.specs.Faults.{fault_of}

-- what a reader answers, beside what reading gives
abbrev Exactly : List ℕ → Result Kit KitFault → Type 0
Exactly bytes r = Makes fault_of (λ kit. kit) r (kit_of bytes)

pub is_found : (bytes : List ℕ) (r : Result Kit KitFault) → Exactly bytes r → IfOk r (λ kit. IsKit kit)
is_found bytes (Ok kit) made = (read_is_spelled bytes kit made).1
is_found bytes (Err e) made = tt

pub is_spelled : (bytes : List ℕ) (r : Result Kit KitFault) → Exactly bytes r → IfOk r (λ kit. bytes ≡ kit_text kit)
is_spelled bytes (Ok kit) made = (read_is_spelled bytes kit made).0
is_spelled bytes (Err e) made = tt

pub is_read : (bytes : List ℕ) (r : Result Kit KitFault) (kit : Kit) → IsKit kit → bytes ≡ kit_text kit → Exactly bytes r
    → Makes fault_of (λ k. k) r (Ok kit)
is_read bytes r kit fits e made = subst (Makes fault_of (λ k. k) r) (ap kit_of e ∙ spelled_is_read kit fits) made
