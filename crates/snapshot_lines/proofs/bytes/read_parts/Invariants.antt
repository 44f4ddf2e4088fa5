use Rattle.std.proofs.Common.{◌≡◌, ◌++◌, map}
use Rattle.std.specs.Prelude.{All}
use Rattle.rp_base.specs.PidsLeft.{pids_left}
use Rattle.snapshot_defs.specs.Ranges.{IsImage}
use Rattle.snapshot_defs.specs.declared.Version.TheVariants.{Two}
use Rattle.resume_laws.specs.Said.{parts_at}
use Rattle.snapshot_lines.specs.Views.{part_as}
use Rattle.snapshot_lines.proofs.Parts.{after}
use Rattle.snapshot_lines.proofs.bytes.read_parts.Given as goal

-- what was read, and the reading of the others, are the reading of all
abbrev pub invariant-hosted : goal.invariant-hosted
invariant-hosted l = record {
  read : after (map part_as l.all.items) (parts_at l.version (pids_left l.process-iterator) l.cursor.rest.now)
      ≡ parts_at l.version l.fn.hosted l.fn.cursor.rest.now;
  numbers : map (λ part. part.0) (map part_as l.all.items) ++ pids_left l.process-iterator ≡ l.fn.hosted;
  writable : All (λ part. IsImage Two part.2) (map part_as l.all.items);
}
