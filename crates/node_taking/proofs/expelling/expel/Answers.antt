use Rattle.std.proofs.Common.{[], ◌∷◌}
use Rattle.std.proofs.lemmas.Result.{err_from_is_err_and}
use Rattle.journal_defs.specs.Entries.{Suspect}
use Rattle.node_defs.specs.Lines.{expel_line}
use Rattle.node_defs.specs.Nodes.{Take}
use Rattle.node_traces.specs.Seen.{link_seen, sink_seen}
use Rattle.sealing_laws.specs.Running.{stop as stop_of}
use Rattle.node_taking.proofs.Expelled.{expel-stops, expels, says-to-stop}
use Rattle.node_taking.proofs.Leads.{around}
use Rattle.node_taking.proofs.expelling.expel.Goals as goal

pub returns-in_err-say_expel-clause-stops : goal.returns-in_err-say_expel-clause-stops
returns-in_err-say_expel-clause-stops g c =
    let seen = g.D.Disk.seen in
    let may_leave = g.D.Disk.may_leave in
    let moment = g.D.Disk.moment in
    let since = g.D.Disk.left_since in
    let heard = g.V.Service.heard in
    let p = c.args.me in
    let x = around c.args.disk.now c.args.service.now (link_seen g.L.Link.sent g.L.Link.coming g.L.Link.faults c.args.link.now)
    (sink_seen g.K.Sink.written g.K.Sink.faults c.args.output.now) in
    let t = sink_seen g.K.Sink.written g.K.Sink.faults c.say_expel.new.output in
    let why = c.in_err-say_expel.field-0.0 in
    let from = err_from_is_err_and c.from_residual.result c.from_residual.ensures.1 in
    rw (from.1, from.2) (says-to-stop seen may_leave moment since heard (λ d image left. g.D.Disk.only_now d image left) (Unit {0}) why
    c.args.running x (expel_line p c.args.other) (Take p (Suspect c.args.other) ∷ []) t c.in_err-say_expel.ensures)

pub returns-in_err-running-clause-stops : goal.returns-in_err-running-clause-stops
returns-in_err-running-clause-stops g c =
    let seen = g.D.Disk.seen in
    let may_leave = g.D.Disk.may_leave in
    let moment = g.D.Disk.moment in
    let since = g.D.Disk.left_since in
    let heard = g.V.Service.heard in
    let p = c.args.me in
    let x = around c.args.disk.now c.args.service.now (link_seen g.L.Link.sent g.L.Link.coming g.L.Link.faults c.args.link.now)
    (sink_seen g.K.Sink.written g.K.Sink.faults c.args.output.now) in
    let y = around c.take_turn.new.disk c.take_turn.new.service (link_seen g.L.Link.sent g.L.Link.coming g.L.Link.faults c.take_turn.new.link)
    (sink_seen g.K.Sink.written g.K.Sink.faults c.take_turn.new.output) in
    let t = sink_seen g.K.Sink.written g.K.Sink.faults c.say_expel.new.output in
    let why = c.in_err-running.field-0.0 in
    let from = err_from_is_err_and c.from_residual-in_err-running.result c.from_residual-in_err-running.ensures.1 in
    rw (from.1, from.2) (expel-stops seen may_leave moment since heard (λ d image left. g.D.Disk.only_now d image left) c.args.running x y p
    c.args.other t (stop_of why) c.in_ok-say_expel.ensures
    (λ snap most f source h n ts has is. c.in_err-running.ensures.stops snap most f source h n ts has is))

pub returns-clause-goes_on : goal.returns-clause-goes_on
returns-clause-goes_on g c =
    let seen = g.D.Disk.seen in
    let may_leave = g.D.Disk.may_leave in
    let moment = g.D.Disk.moment in
    let since = g.D.Disk.left_since in
    let heard = g.V.Service.heard in
    let p = c.args.me in
    let x = around c.args.disk.now c.args.service.now (link_seen g.L.Link.sent g.L.Link.coming g.L.Link.faults c.args.link.now)
    (sink_seen g.K.Sink.written g.K.Sink.faults c.args.output.now) in
    let y = around c.take_turn.new.disk c.take_turn.new.service (link_seen g.L.Link.sent g.L.Link.coming g.L.Link.faults c.take_turn.new.link)
    (sink_seen g.K.Sink.written g.K.Sink.faults c.take_turn.new.output) in
    let t = sink_seen g.K.Sink.written g.K.Sink.faults c.say_expel.new.output in
    expels seen may_leave moment since heard (λ d image left. g.D.Disk.only_now d image left) c.args.running c.in_ok-running.field-0.running x y p
    c.args.other t _ c.in_ok-say_expel.ensures (λ snap most f source h n ts has is. c.in_ok-running.ensures.goes_on snap most f source h n ts has is)
