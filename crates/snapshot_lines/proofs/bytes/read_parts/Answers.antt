use Rattle.std.proofs.Common.{map, [], ◌∷◌}
use Rattle.std.proofs.lemmas.List.{map-append}
use Rattle.rp_base.specs.PidsLeft.{pids_left}
use Rattle.resume_laws.specs.Said.{parts_at}
use Rattle.snapshot_lines.specs.Views.{part_as}
use Rattle.snapshot_lines.proofs.Parts.{ends, goes-on, one-number, one-writable, stops}
use Rattle.snapshot_lines.proofs.bytes.read_parts.Goals as goal

pub hosted-preserved : goal.hosted-preserved
hosted-preserved c =
    let old = pids_left c.hosted.process-iterator in
    let left = pids_left c.next.new.self in
    let done = map part_as c.hosted.all.items in
    rw (c.in_ok-push-in-Ok.ensures.items, map-append part_as c.hosted.all.items (c.in-Ok.part ∷ [])) (record {
      read = goes-on c.args.version c.in-Some.process old left c.hosted.cursor.rest.now done
          (parts_at c.args.version c.args.hosted c.args.cursor.now.rest.now) c.in-Some.ensures.steps c.hosted.invariant.read
          (part_as c.in-Ok.part) c.read_part.new.cursor.rest.now c.in-Ok.ensures.read;
      numbers = one-number done (part_as c.in-Ok.part) c.in-Some.process old left c.args.hosted c.in-Some.ensures.steps c.in-Ok.ensures.process
          c.hosted.invariant.numbers;
      writable = one-writable done (part_as c.in-Ok.part) c.hosted.invariant.writable c.in-Ok.ensures.writable;
    })

pub returns-in-Err-clause-read : goal.returns-in-Err-clause-read
returns-in-Err-clause-read c =
    stops c.args.version c.in-Some.process (pids_left c.hosted.process-iterator) (pids_left c.next.new.self) c.hosted.cursor.rest.now
    (map part_as c.hosted.all.items) (parts_at c.args.version c.args.hosted c.args.cursor.now.rest.now) c.in-Some.ensures.steps
    c.hosted.invariant.read c.in-Err.fault c.in-Err.ensures.read

pub returns-clause-read : goal.returns-clause-read
returns-clause-read c =
    ends c.args.version (pids_left c.hosted.process-iterator) c.hosted.cursor.rest.now (map part_as c.hosted.all.items)
    (parts_at c.args.version c.args.hosted c.args.cursor.now.rest.now) c.in-None.ensures.steps.0 c.hosted.invariant.read
