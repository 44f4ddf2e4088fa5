use Rattle.std.proofs.Common.{arith, map, ◌∷◌, [], length-append}
use Rattle.std.proofs.lemmas.List.{map_push}
use Rattle.std.proofs.lemmas.Result.{err_from_is_err_and}
use Rattle.schedule_file.specs.Views.{listed}
use Rattle.schedule_header.proofs.Processes.{one_more, fails, is_done}
use Rattle.schedule_header.proofs.head.read_all_listed.Goals as goal

pub returns-in_err-listed : goal.returns-in_err-listed
returns-in_err-listed c =
    let p = err_from_is_err_and c.from_residual.result c.from_residual.ensures.1 in
    rw (p.1, p.2) (fails c.args.count c.processes.counter c.args.scheme c.processes.least c.processes.reader.rest.now
    c.in_err-listed.field-0.0 (map listed c.processes.processes.items) _ c.processes-test.true c.in_err-listed.ensures
    c.processes.invariant.so_far)

pub processes-preserved : goal.processes-preserved
processes-preserved c = record {
  so_far = rw (c.push.ensures.items, map_push listed c.processes.processes.items c.in_ok-listed.listed, c.get-least.ensures.value)
      (one_more c.args.count c.processes.counter c.args.scheme c.processes.least c.processes.reader.rest.now
      (listed c.in_ok-listed.listed) _
      (map listed c.processes.processes.items) _ c.processes-test.true c.in_ok-listed.ensures c.processes.invariant.so_far);
  size = rw c.push.ensures.items (omega (arith, length-append c.processes.processes.items (c.in_ok-listed.listed ∷ [])));
}

pub returns : goal.returns
returns c = is_done c.args.count c.processes.counter c.args.scheme c.processes.least c.processes.reader.rest.now
    (map listed c.processes.processes.items) _ c.processes-test.false c.processes.invariant.so_far
