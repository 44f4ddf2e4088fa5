-- The kit at the front of a node's input.
use Rattle.std.specs.Prelude.{◌≡◌, ℕ, ◌+◌, ◌-◌, ◌==◌, if◌then◌else◌, List, length, Option, Some, None, Result, Ok, Err, IfSome}
use Rattle.rp_base.specs.Causes.{Rose}
use Rattle.byte_defs.specs.Fields.{◌>>=◌}
use Rattle.kit_defs.specs.Kits as kits
use Rattle.kit_defs.specs.KitReading.{KitFault, Missing}
use Rattle.input_defs.specs.Fronts.{Front, front_of}
use Rattle.kit_reading.specs.declared.fronts.FrontFault.{FrontFault}
use Rattle.kit_reading.specs.declared.fronts.FrontFault.TheVariants.{Read, Kit}
use Rattle.kit_reading.specs.Faults.{fault_of}
use Rattle.node_text.specs.Views.{kit_stop}
use Rattle.node_defs.specs.Lines.{Stop, NoMemory, ReadFailed, BadKit}
use Rattle.node_traces.specs.Outside.{SourceSeen}

-- a kit that hosts a process; where it hosts none, a line is missing before the line `go`
abbrev pub if_hosting : Front → Result Front KitFault
if_hosting front = if length front.kit.hosts == 0 then Err (Missing (front.line - 1)) else Ok front

-- the kit of a node that the bytes begin with, up to the line `go`
unfoldable pub node_front : List ℕ → Result Front KitFault
node_front bytes = front_of bytes >>= if_hosting

-- the bytes begin with this kit, its line `go` has this number, and after it these are left
abbrev pub BeginsWith : Option (List ℕ) → kits.Kit → ℕ → Option (List ℕ) → Type 0
BeginsWith None kit go left = Unit {0}
BeginsWith (Some bytes) kit go None = ⊥
BeginsWith (Some bytes) kit go (Some left) = node_front bytes ≡ Ok (record { kit = kit; line = go + 1; rest = left })

-- the kit was read from the input, and no read failed
pub record HasKit (k : SourceSeen) (kit : kits.Kit) (go : ℕ) (l : SourceSeen) : Type 0 where
  pub begins : BeginsWith k.left kit go l.left
  pub steady : l.faults ≡ k.faults

-- Why no kit was read, by the count of faults now: memory ran out, a read failed, or the input begins with none, for its first fault.
abbrev pub HasNoKit : SourceSeen → ℕ → Stop → Type 0
HasNoKit k faults NoMemory = faults ≡ k.faults
HasNoKit k faults ReadFailed = Rose k.faults faults
HasNoKit k faults (BadKit fault) = IfSome k.left (λ bytes. node_front bytes ≡ Err fault) × (faults ≡ k.faults)
HasNoKit k faults _ = ⊥

-- how a node stops that has no kit
abbrev pub front_stop : FrontFault → Stop
front_stop Read = ReadFailed
front_stop (Kit fault) = kit_stop (fault_of fault)
