use Rattle.std.proofs.Common.{[], ◌∷◌}
use Rattle.std.proofs.lemmas.Result.{err_from_is_err_and}
use Rattle.node_defs.specs.Nodes.{Get, Say}
use Rattle.node_traces.specs.Seen.{link_seen, sink_seen}
use Rattle.node_taking.specs.Stops.{stop as stop_of}
use Rattle.node_taking.proofs.Expelled.{says-leads, says-to-stop}
use Rattle.node_taking.proofs.Leads.{around, leads-and-stops, leads-on}
use Rattle.node_receiving.specs.Receiving.{end_text}
use Rattle.node_receiving.proofs.receiving.receive.Goals as goal

pub returns-in_ok-say_end-in-Ok-clause-goes_on : goal.returns-in_ok-say_end-in-Ok-clause-goes_on
returns-in_ok-say_end-in-Ok-clause-goes_on g c =
    let seen = g.D.Disk.seen in
    let may_leave = g.D.Disk.may_leave in
    let moment = g.D.Disk.moment in
    let since = g.D.Disk.left_since in
    let heard = g.V.Service.heard in
    let x = around c.args.disk.now c.args.service.now (link_seen g.L.Link.sent g.L.Link.coming g.L.Link.faults c.args.link.now)
    (sink_seen g.K.Sink.written g.K.Sink.faults c.args.output.now) in
    let y = around c.receive_each.new.disk c.receive_each.new.service
    (link_seen g.L.Link.sent g.L.Link.coming g.L.Link.faults c.receive_each.new.link)
    (sink_seen g.K.Sink.written g.K.Sink.faults c.receive_each.new.output) in
    let u = sink_seen g.K.Sink.written g.K.Sink.faults c.say_end.new.output in
    let z = around c.receive_each.new.disk c.receive_each.new.service
    (link_seen g.L.Link.sent g.L.Link.coming g.L.Link.faults c.receive_each.new.link) u in
    let r = c.in-Ok.received in
    let text = end_text c.args.me r.failed r.count in
    let gets = c.in-Ok.ensures.goes_on in
    leads-on seen may_leave moment since heard (λ d image left. g.D.Disk.only_now d image left) c.args.running r.running r.running x y z
    (Get c.args.me c.args.most 0 ∷ []) (Say text ∷ []) [] (λ snap line f source h n ts has is. gets snap line f source h n ts has is)
    (says-leads seen may_leave moment since heard (λ d image left. g.D.Disk.only_now d image left) r.running y text [] u
    c.in_ok-say_end-in-Ok.ensures)

pub returns-in_err-say_end-in-Ok-clause-stops : goal.returns-in_err-say_end-in-Ok-clause-stops
returns-in_err-say_end-in-Ok-clause-stops g c =
    let seen = g.D.Disk.seen in
    let may_leave = g.D.Disk.may_leave in
    let moment = g.D.Disk.moment in
    let since = g.D.Disk.left_since in
    let heard = g.V.Service.heard in
    let x = around c.args.disk.now c.args.service.now (link_seen g.L.Link.sent g.L.Link.coming g.L.Link.faults c.args.link.now)
    (sink_seen g.K.Sink.written g.K.Sink.faults c.args.output.now) in
    let y = around c.receive_each.new.disk c.receive_each.new.service
    (link_seen g.L.Link.sent g.L.Link.coming g.L.Link.faults c.receive_each.new.link)
    (sink_seen g.K.Sink.written g.K.Sink.faults c.receive_each.new.output) in
    let u = sink_seen g.K.Sink.written g.K.Sink.faults c.say_end.new.output in
    let z = around c.receive_each.new.disk c.receive_each.new.service
    (link_seen g.L.Link.sent g.L.Link.coming g.L.Link.faults c.receive_each.new.link) u in
    let r = c.in-Ok.received in
    let text = end_text c.args.me r.failed r.count in
    let gets = c.in-Ok.ensures.goes_on in
    let why = c.in_err-say_end-in-Ok.field-0.0 in
    let p = err_from_is_err_and c.from_residual.result c.from_residual.ensures.1 in
    rw (p.1, p.2) (leads-and-stops seen may_leave moment since heard (λ d image left. g.D.Disk.only_now d image left) c.args.running r.running x y
    z (Get c.args.me c.args.most 0 ∷ []) (Say text ∷ []) (stop_of why)
    (λ snap line f source h n ts has is. gets snap line f source h n ts has is)
    (says-to-stop seen may_leave moment since heard (λ d image left. g.D.Disk.only_now d image left) (Unit {0}) why r.running y text [] u
    c.in_err-say_end-in-Ok.ensures))
