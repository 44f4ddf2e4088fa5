use Rattle.std.proofs.Common.{ℕ, ◌≤◌, [], ◌∷◌, None, Some, map, refl, sym, subst, ◌∙◌}
use Rattle.node_defs.specs.Nodes.{Ask}
use Rattle.node_traces.specs.Seen.{link_seen, sink_seen}
use Rattle.sealing_laws.specs.Events.{event as event_of}
use Rattle.sealing_laws.specs.Running.{stop as stop_of}
use Rattle.sealing_laws.specs.Service.{note as note_of}
use Rattle.node_taking.specs.Stops.{StopsByDisk}
use Rattle.node_taking.proofs.Expelled.{all-named, fewer-left, has-hosts, named-more, named-to-stop}
use Rattle.node_taking.proofs.Leads.{around, hosted-led, leads-nowhere, node-led}
use Rattle.node_taking.proofs.expelling.expel_each.Goals as goal

pub suspects-init : goal.suspects-init
suspects-init g c = record {
  node = c.requires.node;
  hosted = c.requires.hosted;
  named = leads-nowhere g.D.Disk.seen g.D.Disk.may_leave g.D.Disk.moment g.D.Disk.left_since g.V.Service.heard
      (λ d image left. g.D.Disk.only_now d image left) c.args.running
      (around c.args.disk.now c.args.service.now (link_seen g.L.Link.sent g.L.Link.coming g.L.Link.faults c.args.link.now)
      (sink_seen g.K.Sink.written g.K.Sink.faults c.args.output.now))
      (Ask c.args.me (event_of c.args.event.now) (map note_of c.args.notes.now) None ∷ []);
  steady = refl;
  room = c.requires.room;
}

pub next_suspect-requires-clause-hosts : goal.next_suspect-requires-clause-hosts
next_suspect-requires-clause-hosts g c =
    has-hosts (g.D.Disk.seen c.suspects.disk) (g.D.Disk.may_leave c.suspects.disk) c.suspects.running c.suspects.invariant.node

pub suspects-preserved : goal.suspects-preserved
suspects-preserved g c =
    let seen = g.D.Disk.seen in
    let may_leave = g.D.Disk.may_leave in
    let moment = g.D.Disk.moment in
    let since = g.D.Disk.left_since in
    let heard = g.V.Service.heard in
    let p = c.args.me in
    let e = event_of c.args.event.now in
    let notes = map note_of c.args.notes.now in
    let x = around c.args.disk.now c.args.service.now (link_seen g.L.Link.sent g.L.Link.coming g.L.Link.faults c.args.link.now)
    (sink_seen g.K.Sink.written g.K.Sink.faults c.args.output.now) in
    let y = around c.suspects.disk c.suspects.service (link_seen g.L.Link.sent g.L.Link.coming g.L.Link.faults c.suspects.link)
    (sink_seen g.K.Sink.written g.K.Sink.faults c.suspects.output) in
    let asked = c.next_suspect.new.service in
    let z = around c.expel.new.disk c.expel.new.service (link_seen g.L.Link.sent g.L.Link.coming g.L.Link.faults c.expel.new.link)
    (sink_seen g.K.Sink.written g.K.Sink.faults c.expel.new.output) in
    let r = c.args.running in
    let next = c.in-Ok.next in
    let other = c.in-Some.other in
    let named = named-more seen may_leave moment since heard (λ d image left. g.D.Disk.only_now d image left) r c.suspects.running x y p e notes
    c.suspects.above asked c.suspects.invariant.named other (λ version now h has are. c.in-Some.ensures.names version now h has are) next z
    (λ snap most f source h n ts has is. c.in-Ok.ensures.goes_on snap most f source h n ts has is) in
    let begun = g.V.Service.begun c.args.service.now in
    record {
      node = node-led seen may_leave moment since heard r next x z (Ask p e notes None ∷ []) (Ask p e notes (Some other) ∷ []) named begun
          c.requires.node;
      hosted = hosted-led seen may_leave moment since heard r next x z (Ask p e notes None ∷ []) (Ask p e notes (Some other) ∷ []) p named begun
          c.requires.node c.requires.hosted;
      named = named;
      steady = c.in-Ok.ensures.cause ∙ c.suspects.invariant.steady;
      room = subst (λ (k : ℕ). 61054 ≤ k) (sym c.expel.auto.room) c.suspects.invariant.room;
    }

pub returns-in-Err-clause-stops : goal.returns-in-Err-clause-stops
returns-in-Err-clause-stops g c =
    let seen = g.D.Disk.seen in
    let may_leave = g.D.Disk.may_leave in
    let moment = g.D.Disk.moment in
    let since = g.D.Disk.left_since in
    let heard = g.V.Service.heard in
    let p = c.args.me in
    let e = event_of c.args.event.now in
    let notes = map note_of c.args.notes.now in
    let x = around c.args.disk.now c.args.service.now (link_seen g.L.Link.sent g.L.Link.coming g.L.Link.faults c.args.link.now)
    (sink_seen g.K.Sink.written g.K.Sink.faults c.args.output.now) in
    let y = around c.suspects.disk c.suspects.service (link_seen g.L.Link.sent g.L.Link.coming g.L.Link.faults c.suspects.link)
    (sink_seen g.K.Sink.written g.K.Sink.faults c.suspects.output) in
    let asked = c.next_suspect.new.service in
    let z = around c.expel.new.disk c.expel.new.service (link_seen g.L.Link.sent g.L.Link.coming g.L.Link.faults c.expel.new.link)
    (sink_seen g.K.Sink.written g.K.Sink.faults c.expel.new.output) in
    named-to-stop seen may_leave moment since heard (λ d image left. g.D.Disk.only_now d image left) c.args.running c.suspects.running x y p e
    notes c.suspects.above asked c.suspects.invariant.named c.in-Some.other
    (λ version now h has are. c.in-Some.ensures.names version now h has are) z (stop_of c.in-Err.why)
    (λ snap most f source h n ts has is. c.in-Err.ensures.stops snap most f source h n ts has is)

pub returns-in-Err-clause-cause : goal.returns-in-Err-clause-cause
returns-in-Err-clause-cause g c = subst (λ n. StopsByDisk n (g.D.Disk.faults c.expel.new.disk) (stop_of c.in-Err.why))
    c.suspects.invariant.steady c.in-Err.ensures.cause

pub returns-clause-goes_on : goal.returns-clause-goes_on
returns-clause-goes_on g c =
    let seen = g.D.Disk.seen in
    let may_leave = g.D.Disk.may_leave in
    let moment = g.D.Disk.moment in
    let since = g.D.Disk.left_since in
    let heard = g.V.Service.heard in
    let p = c.args.me in
    let e = event_of c.args.event.now in
    let notes = map note_of c.args.notes.now in
    let x = around c.args.disk.now c.args.service.now (link_seen g.L.Link.sent g.L.Link.coming g.L.Link.faults c.args.link.now)
    (sink_seen g.K.Sink.written g.K.Sink.faults c.args.output.now) in
    let y = around c.suspects.disk c.suspects.service (link_seen g.L.Link.sent g.L.Link.coming g.L.Link.faults c.suspects.link)
    (sink_seen g.K.Sink.written g.K.Sink.faults c.suspects.output) in
    let asked = c.next_suspect.new.service in
    all-named seen may_leave moment since heard (λ d image left. g.D.Disk.only_now d image left) c.args.running c.suspects.running x y p e notes
    c.suspects.above asked c.suspects.invariant.named (λ version now h has are. c.in_default.ensures.names version now h has are)
