use Rattle.std.proofs.Common.{ℕ, ◌+◌, ◌-◌, ◌≤◌, false, true, [], ◌∷◌, refl, sym, subst, ◌∙◌, arith}
use Rattle.node_defs.specs.Nodes.{Get, Say, more_gets}
use Rattle.node_traces.specs.Seen.{link_seen, sink_seen}
use Rattle.node_taking.specs.Stops.{StopsByDisk, stop as stop_of}
use Rattle.node_taking.proofs.Leads.{around, hosted-led, node-led}
use Rattle.node_receiving.specs.Receiving.{end_text}
use Rattle.node_receiving.proofs.Loop.{gets-all, gets-more, gets-to-stop, so-far-first}
use Rattle.node_receiving.proofs.receiving.receive_each.Goals as goal

pub receives-init : goal.receives-init
receives-init g c = record {
  node = c.requires.node;
  hosted = c.requires.hosted;
  came = so-far-first g.D.Disk.seen g.D.Disk.may_leave g.D.Disk.moment g.D.Disk.left_since g.V.Service.heard
      (λ d image left. g.D.Disk.only_now d image left) c.args.me c.args.most c.args.running
      (around c.args.disk.now c.args.service.now (link_seen g.L.Link.sent g.L.Link.coming g.L.Link.faults c.args.link.now)
      (sink_seen g.K.Sink.written g.K.Sink.faults c.args.output.now)) c.requires.some;
  steady = refl;
  coming = c.requires.coming;
  sealed = c.requires.sealed;
}

pub receives-preserved : goal.receives-preserved
receives-preserved g c =
    let seen = g.D.Disk.seen in
    let may_leave = g.D.Disk.may_leave in
    let moment = g.D.Disk.moment in
    let since = g.D.Disk.left_since in
    let heard = g.V.Service.heard in
    let p = c.args.me in
    let x = around c.args.disk.now c.args.service.now (link_seen g.L.Link.sent g.L.Link.coming g.L.Link.faults c.args.link.now)
    (sink_seen g.K.Sink.written g.K.Sink.faults c.args.output.now) in
    let y = around c.receives.disk c.receives.service (link_seen g.L.Link.sent g.L.Link.coming g.L.Link.faults c.receives.link)
    (sink_seen g.K.Sink.written g.K.Sink.faults c.receives.output) in
    let z = around c.receive_one.new.disk c.receive_one.new.service
    (link_seen g.L.Link.sent g.L.Link.coming g.L.Link.faults c.receive_one.new.link)
    (sink_seen g.K.Sink.written g.K.Sink.faults c.receive_one.new.output) in
    let most = c.args.most in
    let r = c.args.running in
    let now = c.in-Ok-One.next in
    let count = c.receives.count in
    let one = rw c.in-Ok-One.field-0-is at c.in-Ok-One.ensures.goes_on in
    let came = gets-more seen may_leave moment since heard (λ d image left. g.D.Disk.only_now d image left) p most r x count c.receives.last y now
    z (λ left. more_gets p left (count + 1)) c.receives-test.true c.receives.invariant.came
    (λ left snap line f source h n ts has is. one snap line f source h n left count ts has is) in
    let begun = g.V.Service.begun c.args.service.now in
    record {
      node = node-led seen may_leave moment since heard r now x z (Get p most 0 ∷ []) (more_gets p (most - (count + 1)) (count + 1)) came begun
          c.requires.node;
      hosted = hosted-led seen may_leave moment since heard r now x z (Get p most 0 ∷ []) (more_gets p (most - (count + 1)) (count + 1)) p came
          begun c.requires.node c.requires.hosted;
      came = came;
      steady = c.in-Ok-One.ensures.cause ∙ c.receives.invariant.steady;
      coming = c.receive_one.auto.coming ∙ c.receives.invariant.coming;
      sealed = subst (λ (k : ℕ). 61054 ≤ k) (sym c.receive_one.auto.sealed) c.receives.invariant.sealed;
    }

pub returns-in-Ok-Nothing-clause-goes_on : goal.returns-in-Ok-Nothing-clause-goes_on
returns-in-Ok-Nothing-clause-goes_on g c =
    let seen = g.D.Disk.seen in
    let may_leave = g.D.Disk.may_leave in
    let moment = g.D.Disk.moment in
    let since = g.D.Disk.left_since in
    let heard = g.V.Service.heard in
    let p = c.args.me in
    let x = around c.args.disk.now c.args.service.now (link_seen g.L.Link.sent g.L.Link.coming g.L.Link.faults c.args.link.now)
    (sink_seen g.K.Sink.written g.K.Sink.faults c.args.output.now) in
    let y = around c.receives.disk c.receives.service (link_seen g.L.Link.sent g.L.Link.coming g.L.Link.faults c.receives.link)
    (sink_seen g.K.Sink.written g.K.Sink.faults c.receives.output) in
    let z = around c.receive_one.new.disk c.receive_one.new.service
    (link_seen g.L.Link.sent g.L.Link.coming g.L.Link.faults c.receive_one.new.link)
    (sink_seen g.K.Sink.written g.K.Sink.faults c.receive_one.new.output) in
    let one = rw c.in-Ok-Nothing.field-0-is at c.in-Ok-Nothing.ensures.goes_on in
    gets-more seen may_leave moment since heard (λ d image left. g.D.Disk.only_now d image left) p c.args.most c.args.running x c.receives.count
    c.receives.last y c.in-Ok-Nothing.running z (λ left. Say (end_text p false c.receives.count) ∷ []) c.receives-test.true
    c.receives.invariant.came (λ left snap line f source h n ts has is. one snap line f source h n left c.receives.count ts has is)

pub returns-in-Ok-Fault-clause-goes_on : goal.returns-in-Ok-Fault-clause-goes_on
returns-in-Ok-Fault-clause-goes_on g c =
    let seen = g.D.Disk.seen in
    let may_leave = g.D.Disk.may_leave in
    let moment = g.D.Disk.moment in
    let since = g.D.Disk.left_since in
    let heard = g.V.Service.heard in
    let p = c.args.me in
    let x = around c.args.disk.now c.args.service.now (link_seen g.L.Link.sent g.L.Link.coming g.L.Link.faults c.args.link.now)
    (sink_seen g.K.Sink.written g.K.Sink.faults c.args.output.now) in
    let y = around c.receives.disk c.receives.service (link_seen g.L.Link.sent g.L.Link.coming g.L.Link.faults c.receives.link)
    (sink_seen g.K.Sink.written g.K.Sink.faults c.receives.output) in
    let z = around c.receive_one.new.disk c.receive_one.new.service
    (link_seen g.L.Link.sent g.L.Link.coming g.L.Link.faults c.receive_one.new.link)
    (sink_seen g.K.Sink.written g.K.Sink.faults c.receive_one.new.output) in
    let one = rw c.in-Ok-Fault.field-0-is at c.in-Ok-Fault.ensures.goes_on in
    gets-more seen may_leave moment since heard (λ d image left. g.D.Disk.only_now d image left) p c.args.most c.args.running x c.receives.count
    c.receives.last y c.in-Ok-Fault.running z (λ left. Say (end_text p true c.receives.count) ∷ []) c.receives-test.true
    c.receives.invariant.came (λ left snap line f source h n ts has is. one snap line f source h n left c.receives.count ts has is)

pub returns-in-Err-clause-stops : goal.returns-in-Err-clause-stops
returns-in-Err-clause-stops g c =
    let seen = g.D.Disk.seen in
    let may_leave = g.D.Disk.may_leave in
    let moment = g.D.Disk.moment in
    let since = g.D.Disk.left_since in
    let heard = g.V.Service.heard in
    let p = c.args.me in
    let x = around c.args.disk.now c.args.service.now (link_seen g.L.Link.sent g.L.Link.coming g.L.Link.faults c.args.link.now)
    (sink_seen g.K.Sink.written g.K.Sink.faults c.args.output.now) in
    let y = around c.receives.disk c.receives.service (link_seen g.L.Link.sent g.L.Link.coming g.L.Link.faults c.receives.link)
    (sink_seen g.K.Sink.written g.K.Sink.faults c.receives.output) in
    let z = around c.receive_one.new.disk c.receive_one.new.service
    (link_seen g.L.Link.sent g.L.Link.coming g.L.Link.faults c.receive_one.new.link)
    (sink_seen g.K.Sink.written g.K.Sink.faults c.receive_one.new.output) in
    gets-to-stop seen may_leave moment since heard (λ d image left. g.D.Disk.only_now d image left) p c.args.most c.args.running x
    c.receives.count c.receives.last y z (stop_of c.in-Err.why) c.receives-test.true c.receives.invariant.came
    (λ left snap line f source h n ts has is. c.in-Err.ensures.stops snap line f source h n left c.receives.count ts has is)

pub returns-in-Err-clause-cause : goal.returns-in-Err-clause-cause
returns-in-Err-clause-cause g c = subst (λ n. StopsByDisk n (g.D.Disk.faults c.receive_one.new.disk) (stop_of c.in-Err.why))
    c.receives.invariant.steady c.in-Err.ensures.cause

pub returns-clause-goes_on : goal.returns-clause-goes_on
returns-clause-goes_on g c =
    let seen = g.D.Disk.seen in
    let may_leave = g.D.Disk.may_leave in
    let moment = g.D.Disk.moment in
    let since = g.D.Disk.left_since in
    let heard = g.V.Service.heard in
    let p = c.args.me in
    let x = around c.args.disk.now c.args.service.now (link_seen g.L.Link.sent g.L.Link.coming g.L.Link.faults c.args.link.now)
    (sink_seen g.K.Sink.written g.K.Sink.faults c.args.output.now) in
    let y = around c.receives.disk c.receives.service (link_seen g.L.Link.sent g.L.Link.coming g.L.Link.faults c.receives.link)
    (sink_seen g.K.Sink.written g.K.Sink.faults c.receives.output) in
    gets-all seen may_leave moment since heard (λ d image left. g.D.Disk.only_now d image left) p c.args.most c.args.running x c.receives.count
    c.receives.last y (omega (arith, c.receives.auto.count-end, c.receives-test.false)) c.receives.invariant.came
