use Rattle.std.proofs.Common.{refl, subst, sym}
use Rattle.std.proofs.lemmas.Result.{IfErr-weaker, IfOk-weaker, err_from_is_err_and}
use Rattle.node_script.specs.Words.{stop as stop_of}
use Rattle.node_loop.specs.Resumed.{IsNoSnap, lacks_memory, most_snap_bytes}
use Rattle.node_loop.proofs.Snaps.{judged-none, line-says, none-taken}
use Rattle.node_loop.proofs.resuming.read_snap.Goals as goal

pub returns-in_err-number-clause-none : goal.returns-in_err-number-clause-none
returns-in_err-number-clause-none g c = λ k seen.
    let out = err_from_is_err_and c.from_residual.result c.from_residual.ensures.1 in
    rw (out.1, out.2) (c.args.lines.now.ahead, record { source = k; seen = seen; holds = lacks_memory refl })

pub returns-in-Ok-clause-is : goal.returns-in-Ok-clause-is
unfolding most_snap_bytes
returns-in-Ok-clause-is g c = λ k seen.
    let took = c.in-Ok.ensures.took k seen in
    IfOk-weaker c.judge.result _ _ (λ snap is. (
      is.0,
      is.2,
      record {
        source = took.source;
        seen = took.seen;
        holds = line-says c.args.kit.now k took.source _ _ is.0 snap c.line.ensures took.holds is.1 is.2;
      },
    )) c.judge.ensures.is

pub returns-in-Ok-clause-none : goal.returns-in-Ok-clause-none
unfolding most_snap_bytes
returns-in-Ok-clause-none g c = λ k seen.
    let took = c.in-Ok.ensures.took k seen in
    IfErr-weaker c.judge.result _ _ (λ why none. (
      c.take_line.new.lines.ahead,
      record {
        source = took.source;
        seen = took.seen;
        holds = judged-none c.args.kit.now c.args.go c.in_ok-number.number k took.source _ _ (stop_of why) c.in_ok-number.ensures.is c.line.ensures
            took.holds none;
      },
    )) c.judge.ensures.none

pub returns-in-Err-clause-none : goal.returns-in-Err-clause-none
unfolding most_snap_bytes
returns-in-Err-clause-none g c = λ k seen.
    let none = c.in-Err.ensures.none k seen in (
      c.take_line.new.lines.ahead,
      record {
        source = none.source;
        seen = none.seen;
        holds = subst (IsNoSnap c.args.kit.now c.args.go k none.source) (sym c.no_snap.ensures)
            (none-taken c.args.kit.now c.args.go c.in_ok-number.number k none.source (stop_of c.in-Err.stop) c.in_ok-number.ensures.is none.holds);
      },
    )
