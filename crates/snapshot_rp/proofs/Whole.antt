-- What was read of all of the bytes.
use Rattle.std.proofs.Common.{◌≡◌, List, ℕ, Result, Ok, Err, sym, ap, ◌∙◌}
use Rattle.std.specs.Prelude.{IfOk}
use Rattle.byte_defs.specs.Reads.{Makes}
use Rattle.byte_defs.proofs.Fields.{IsBytes}
use Rattle.image_defs.specs.Images as plain
use Rattle.snapshot_defs.specs.declared.Version.{Version}
use Rattle.snapshot_defs.specs.declared.Version.TheVariants.{One, Two}
use Rattle.snapshot_defs.specs.Reading.{image_in}
use Rattle.snapshot_defs.specs.Spelling.{spelled}
use Rattle.snapshot_defs.specs.Ranges.{IsImage}
use Rattle.snapshot_laws.proofs.Images.{read_is_spelled, spelled_is_read}
use Rattle.snapshot_laws.proofs.Versions.{old_is_written}
use Rattle.snapshot_rp.specs.declared.fault.SnapshotFault.{SnapshotFault}
use Rattle.snapshot_rp.specs.declared.fault.SnapshotFault.TheVariants as faults
use Rattle.snapshot_rp.specs.declared.image.Image.{Image}
use Rattle.snapshot_rp.specs.Faults.{fault_of}
use Rattle.snapshot_rp.specs.Views.{image}

is_written : (v : Version) (i : plain.Image) → IsImage v i → IsImage Two i
is_written One i is = old_is_written i is
is_written Two i is = is

module _ (v : Version) (bytes : List ℕ) where
  pub found_is_spelled : (r : Result Image SnapshotFault) → IsBytes bytes → Makes fault_of image r (image_in v bytes)
      → IfOk r (λ i. IsImage v (image i) × (bytes ≡ spelled v (image i)))
  found_is_spelled (Ok i) fits is = read_is_spelled v bytes (image i) fits is
  found_is_spelled (Err e) fits is = tt

  pub found_is_writable : (r : Result Image SnapshotFault) → IfOk r (λ i. IsImage v (image i) × (bytes ≡ spelled v (image i)))
      → IfOk r (λ i. IsImage Two (image i))
  found_is_writable (Ok i) found = is_written v (image i) found.0
  found_is_writable (Err e) found = tt

  pub spelled_is_found : (r : Result Image SnapshotFault) (i : plain.Image) → Makes fault_of image r (image_in v bytes) → IsImage v i
      → bytes ≡ spelled v i → Makes fault_of image r (Ok i)
  spelled_is_found (Ok j) i is fits same = sym (ap (image_in v) same ∙ spelled_is_read v i fits) ∙ is
  spelled_is_found (Err faults.NoMemory) i is fits same = tt
  spelled_is_found (Err (faults.Image place)) i is fits same = sym (ap (image_in v) same ∙ spelled_is_read v i fits) ∙ is
