use Rattle.std.proofs.Common.{Some, arith, refl}
use Rattle.node_script.specs.Words.{stop as stop_of}
use Rattle.node_loop.specs.Resumed.{no_snap, node_ended}
use Rattle.node_loop.proofs.Snaps.{no-disk-by-snap, untold, untold-is}
use Rattle.node_loop.proofs.resuming.resume_node.Goals as goal

pub read_snap-requires : goal.read_snap-requires
read_snap-requires g c = c.requires

pub run_node-requires : goal.run_node-requires
run_node-requires g c =
    let is = c.in-Ok.ensures.is (untold (g.S.Source.faults c.args.input.now)) (untold-is _ _ _) in
    record { kit = c.requires; begins = (Some is.0, is.1) }

pub returns-in-Ok-clause-stops : goal.returns-in-Ok-clause-stops
returns-in-Ok-clause-stops g c = λ f k l h has kit seen.
    let is = c.in-Ok.ensures.is l seen in
    let ends = c.run_node.ensures.stops (Some is.0) f is.2.source h is.1 has is.2.seen in
    record {
      history = ends.history;
      has = ends.has;
      holds = node_ended (stop_of c.run_node.result) (record {
        kit = c.args.kit.now;
        go = c.args.go;
        source = l;
        has = kit;
        holds = (is.0, is.2.source, is.2.holds, ends.holds);
      });
    }

pub returns-in-Ok-clause-cause : goal.returns-in-Ok-clause-cause
returns-in-Ok-clause-cause g c = c.run_node.ensures.cause

pub returns-in-Err-clause-stops : goal.returns-in-Err-clause-stops
returns-in-Err-clause-stops g c = λ f k l h has kit seen.
    let none = c.in-Err.ensures.none l seen in
    record {
      history = h;
      has = has;
      holds = no_snap (stop_of c.in-Err.stop) none.0 (record {
        kit = c.args.kit.now;
        go = c.args.go;
        source = l;
        has = kit;
        holds = none.1;
      }) refl refl refl refl;
    }

pub returns-in-Err-clause-cause : goal.returns-in-Err-clause-cause
returns-in-Err-clause-cause g c =
    let none = c.in-Err.ensures.none (untold (g.S.Source.faults c.args.input.now)) (untold-is _ _ _) in
    no-disk-by-snap c.args.kit.now c.args.go _ none.1.source _ (stop_of c.in-Err.stop) none.1.holds

pub overflow_add-go : goal.overflow_add-go
overflow_add-go g c = omega (arith, c.in-Ok.ensures.few)
