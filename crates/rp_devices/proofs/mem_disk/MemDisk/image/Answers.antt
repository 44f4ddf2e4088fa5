use Rattle.std.proofs.Common.{◌≡◌, List, ℕ, Result, Ok, Err, Vec, sym, subst}
use Rattle.std.specs.Prelude.{IfOk}
use Rattle.std.specs.declared.alloc.Global.{Global}
use Rattle.rp_base.specs.declared.memory.NoMemory.{NoMemory}
use Rattle.rp_devices.specs.Disks.{held}
use Rattle.rp_devices.specs.declared.change.Left.{Left}
use Rattle.rp_devices.specs.Held.{Held, IsImage, left_of}
use Rattle.rp_devices.proofs.Changes.{left_is_image}
use Rattle.rp_devices.proofs.mem_disk.MemDisk.image.Goals as goal

is_image : (left : Left) (h : Held) (r : Result (Vec ℕ Global) NoMemory) → IfOk r (λ image. image.items ≡ left_of left h)
    → IfOk r (λ image. IsImage h image.items)
is_image left h (Ok v) is = subst (λ (c : List ℕ). IsImage h c) (sym is) (left_is_image left h)
is_image left h (Err e) is = tt

pub returns-clause-image : goal.returns-clause-image
returns-clause-image c = is_image c.args.left (held c.args.self.now) c.left.result c.left.ensures
