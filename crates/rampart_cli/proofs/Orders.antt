-- Which command was read.
use Rattle.std.proofs.Common.{◌≡◌, ℕ, Bool, Option, None, Some}
use Rattle.command_line.specs.Commands.{KitOrder, Command, Replay, Gen, Keygen}

pub same_order : (a b : KitOrder) → (let read : Option Command = Some (Keygen a) in read) ≡ Some (Keygen b) → a ≡ b
same_order a b e = cc

pub same_short : (a b : Bool) → (let read : Option Command = Some (Replay a) in read) ≡ Some (Replay b) → a ≡ b
same_short a b e = cc

pub same_number : (a b : ℕ) → (let read : Option Command = Some (Gen a) in read) ≡ Some (Gen b) → a ≡ b
same_number a b e = cc

pub no_command : (c : Command) → (let read : Option Command = None in read) ≡ Some c → ⊥
no_command c e = cc
