-- Of a disk that doesn't tell, any bytes may be left at any moment.
use Rattle.std.proofs.Common.{refl, arith, ℕ, inl}
use Rattle.rp_base.specs.Disks.{Torn, Follows, SameImages, NoNewImage, Elapses}
use Rattle.file_disk.specs.Disks.{any_bytes, any_since}

pub same_images : SameImages any_bytes any_bytes
same_images c = (λ x. x, λ x. x)

pub no_new_image : NoNewImage any_bytes any_bytes
no_new_image c x = x

pub torn_from_any : (at n : ℕ) → Follows (Torn at n) any_bytes any_bytes
torn_from_any at n c x = (c, x, record { before = refl; after = refl; no_shorter = omega arith; no_longer = omega arith })

pub elapses : Elapses 0 0 any_since any_since any_bytes
elapses = record { later = omega arith; nothing_else = λ t c le x. inl x; keeps = λ t c le x. x }
