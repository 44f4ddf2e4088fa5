use Rattle.std.proofs.Common.{leb, length, map, arith}
use Rattle.std.proofs.lemmas.Bool.{leb-true, and_parts}
use Rattle.std.proofs.lemmas.List.{length-map}
use Rattle.schedule_file.specs.Views.{listed}
use Rattle.schedule_file.proofs.writing.write_schedule.Goals as goal

pub push_header-requires : goal.push_header-requires
push_header-requires c =
    let processes = c.args.schedule.now.header.processes.items in
    let count = length (map listed processes) in
    let range = and_parts (leb 1 count) (leb count 64) c.requires.header.some in
    omega (arith, leb-true count 64 range.1, length-map processes listed)
