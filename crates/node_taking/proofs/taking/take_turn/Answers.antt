use Rattle.std.proofs.Common.{ℕ, [], ◌∷◌, None, refl, sym, ap, subst, ◌∙◌}
use Rattle.std.proofs.lemmas.Result.{err_from_is_err_and}
use Rattle.sealing_laws.specs.Events.{event as event_of}
use Rattle.journal_rp.specs.Stages.{gate_of, version_of}
use Rattle.auth_link.specs.Keys.{known}
use Rattle.sealing_laws.specs.Running.{AnySigner, used, Hosted, IsOutcome, fault as fault_of, IsReal, cast_in, stop as stop_of}
use Rattle.node_defs.specs.Casts.{cast_of, outcome_of}
use Rattle.node_defs.specs.Lines.{refused_line}
use Rattle.node_defs.specs.Nodes.{Node, Snapper, Take}
use Rattle.node_traces.specs.Outside.{SourceSeen}
use Rattle.node_traces.specs.Seen.{link_seen, sink_seen}
use Rattle.node_taking.specs.Stops.{StopsByDisk}
use Rattle.node_taking.specs.declared.stepping.Fate.{Fate}
use Rattle.node_taking.specs.Taking.{outside}
use Rattle.node_taking.specs.Turns.{StepsTo}
use Rattle.node_taking.specs.Keeping.{at, grown}
use Rattle.node_taking.proofs.Away.{all-back, among, asked-so, back-so, grown-so, last-so, real-so, sealable-so, turn-of}
use Rattle.node_taking.proofs.Counted.{counts-grown, room-to-count}
use Rattle.node_taking.proofs.Ends.{says-stops}
use Rattle.node_taking.proofs.Reported.{tells-stops}
use Rattle.node_taking.proofs.Whole.{refused-on, refused-stops, step-forgets, taken-on, taken-stops}
use Rattle.node_taking.proofs.taking.take_turn.Goals as goal

pub returns-in_err-fault-clause-stops : goal.returns-in_err-fault-clause-stops
returns-in_err-fault-clause-stops g c = λ snap most f source h n ts has is.
    let p = err_from_is_err_and c.from_residual.result c.from_residual.ensures.1 in
    rw (p.1, p.2) (record {
      history = h;
      has = has;
      holds = step-forgets g.D.Disk.seen g.D.Disk.may_leave g.D.Disk.moment g.D.Disk.left_since
          (λ d image left. g.D.Disk.only_now d image left) snap most f c.args.running n c.args.me (event_of c.args.event.now) ts c.args.disk.now
          (outside (link_seen g.L.Link.sent g.L.Link.coming g.L.Link.faults c.args.link.now)
          (sink_seen g.K.Sink.written g.K.Sink.faults c.args.output.now) source h) is;
    })

pub returns-in_err-say_refused-in-Refused-clause-stops : goal.returns-in_err-say_refused-in-Refused-clause-stops
returns-in_err-say_refused-in-Refused-clause-stops g c = λ snap most f source h n ts has is.
    let k = cast_in c.args.running in
    let e = event_of c.args.event.now in
    let l = link_seen g.L.Link.sent g.L.Link.coming g.L.Link.faults c.args.link.now in
    let s = sink_seen g.K.Sink.written g.K.Sink.faults c.args.output.now in
    let t = sink_seen g.K.Sink.written g.K.Sink.faults c.say_refused.new.output in
    let fault = fault_of c.in-Refused.fault in
    let why = c.in_err-say_refused-in-Refused.field-0.0 in
    let steps = subst (λ (w : Fate). StepsTo k c.args.running.kit.now n.now c.args.me e c.step.new.hosts w) c.in-Refused.is
    (c.in_ok-fault.ensures (version_of c.args.running.journal) n.now is.hosts) in
    let p = err_from_is_err_and c.from_residual-in_err-say_refused-in-Refused.result
    c.from_residual-in_err-say_refused-in-Refused.ensures.1 in
    rw (p.1, p.2) (record {
      history = h;
      has = has;
      holds = refused-stops g.D.Disk.seen g.D.Disk.may_leave g.D.Disk.moment g.D.Disk.left_since
          (λ d image left. g.D.Disk.only_now d image left) snap most f c.args.running n c.args.me e ts fault l s t source h c.args.disk.now is
          steps.1 (stop_of why) (says-stops (Unit {0}) why k snap most n (refused_line c.args.me fault) ts l s t source h
          c.in_err-say_refused-in-Refused.ensures);
    })

pub returns-in_err-journal-in-Taken-clause-stops : goal.returns-in_err-journal-in-Taken-clause-stops
returns-in_err-journal-in-Taken-clause-stops g c = λ snap most f source h n ts has is.
    let k = cast_in c.args.running in
    let e = event_of c.args.event.now in
    let x = outside (link_seen g.L.Link.sent g.L.Link.coming g.L.Link.faults c.args.link.now)
    (sink_seen g.K.Sink.written g.K.Sink.faults c.args.output.now) source h in
    let steps = subst (λ (w : Fate). StepsTo k c.args.running.kit.now n.now c.args.me e c.step.new.hosts w) c.in-Taken.is
    (c.in_ok-fault.ensures (version_of c.args.running.journal) n.now is.hosts) in
    let p = err_from_is_err_and c.from_residual-in_err-journal-in-Taken.result c.from_residual-in_err-journal-in-Taken.ensures.1 in
    rw (p.1, p.2) (record {
      history = h;
      has = has;
      holds = c.in_err-journal-in-Taken.ensures.stops k snap most f n c.args.me e ts x is.at is.journal
          (turn-of k c.args.running.kit.now c.args.me (n.now c.args.me) e c.in-Taken.away steps.1);
    })

pub tell-requires-clause-keys : goal.tell-requires-clause-keys
tell-requires-clause-keys g c =
    let k = cast_in c.args.running in
    let n = c.requires.node.node in
    let steps = subst (λ (w : Fate). StepsTo k c.args.running.kit.now n.now c.args.me (event_of c.args.event.now) c.step.new.hosts w)
    c.in-Taken.is (c.in_ok-fault.ensures (version_of c.args.running.journal) n.now c.requires.node.is.hosts) in
    ap known c.in_ok-journal-in-Taken.ensures.same.keys ∙ steps.1.keys

pub tell-requires-clause-kept : goal.tell-requires-clause-kept
tell-requires-clause-kept g c =
    let k = cast_in c.args.running in
    let e = event_of c.args.event.now in
    let n : Node = at c.requires.node.node (Take c.args.me e ∷ []) in
    let nobody : Snapper = λ m digest. [] in
    let source : SourceSeen = record { left = None; faults = 0 } in
    let x = outside (link_seen g.L.Link.sent g.L.Link.coming g.L.Link.faults c.args.link.now)
    (sink_seen g.K.Sink.written g.K.Sink.faults c.args.output.now) source [] in
    let was = c.requires.node.is in
    let steps = subst (λ (w : Fate). StepsTo k c.args.running.kit.now n.now c.args.me e c.step.new.hosts w) c.in-Taken.is
    (c.in_ok-fault.ensures (version_of c.args.running.journal) n.now was.hosts) in
    let keeps = c.in_ok-journal-in-Taken.ensures.keeps k nobody 0 c.requires.node.from n c.args.me e [] x
    (record { runs = refl; opened = refl; leaving = refl; tasks = refl; text = refl; late = refl })
    (record { gate = was.journal.gate; length = was.journal.length; rest = was.journal.rest })
    (turn-of k c.args.running.kit.now c.args.me (n.now c.args.me) e c.in-Taken.away steps.1) in
    last-so c.requires.node.from.head k c.args.running.kit.now n c.args.me e c.in-Taken.away c.in_ok-journal-in-Taken.away c.in_ok-journal-in-Taken.journal
    (g.D.Disk.seen c.keep.new.disk) (g.D.Disk.may_leave c.keep.new.disk) steps.1 c.in_ok-journal-in-Taken.ensures.same keeps.journal

pub tell-requires-clause-sealable : goal.tell-requires-clause-sealable
tell-requires-clause-sealable g c =
    let k = cast_in c.args.running in
    let e = event_of c.args.event.now in
    let n = c.requires.node.node in
    let steps = subst (λ (w : Fate). StepsTo k c.args.running.kit.now n.now c.args.me e c.step.new.hosts w) c.in-Taken.is
    (c.in_ok-fault.ensures (version_of c.args.running.journal) n.now c.requires.node.is.hosts) in
    sealable-so c.requires.node.from c.args.running n c.requires.node.tasks c.args.me e c.in-Taken.away c.in_ok-journal-in-Taken.away
    (g.D.Disk.seen c.args.disk.now) (g.D.Disk.may_leave c.args.disk.now) c.args.running.valid c.requires.hosted c.requires.other
    c.requires.node.is steps.1 c.in_ok-journal-in-Taken.ensures.same

pub returns-in_err-tell-in-Taken-clause-stops : goal.returns-in_err-tell-in-Taken-clause-stops
returns-in_err-tell-in-Taken-clause-stops g c = λ snap most f source h n ts has is.
    let k = cast_in c.args.running in
    let e = event_of c.args.event.now in
    let before = link_seen g.L.Link.sent g.L.Link.coming g.L.Link.faults c.args.link.now in
    let l = link_seen g.L.Link.sent g.L.Link.coming g.L.Link.faults c.tell.new.link in
    let s = sink_seen g.K.Sink.written g.K.Sink.faults c.args.output.now in
    let t = sink_seen g.K.Sink.written g.K.Sink.faults c.tell.new.output in
    let why = c.in_err-tell-in-Taken.field-0.0 in
    let steps = subst (λ (w : Fate). StepsTo k c.args.running.kit.now n.now c.args.me e c.step.new.hosts w) c.in-Taken.is
    (c.in_ok-fault.ensures (version_of c.args.running.journal) n.now is.hosts) in
    let keeps = c.in_ok-journal-in-Taken.ensures.keeps k snap most f n c.args.me e ts (outside before s source h) is.at is.journal
    (turn-of k c.args.running.kit.now c.args.me (n.now c.args.me) e c.in-Taken.away steps.1) in
    let o = outcome_of k (n.now c.args.me) e in
    let came = subst (λ r. IsOutcome o r) (sym c.in_ok-journal-in-Taken.ensures.same.outcome) steps.1.takes.2 in
    let reported = c.in_err-tell-in-Taken.ensures.reported (version_of c.args.running.journal) o (grown k n c.args.me e).now h came has
    (grown-so k c.args.running.kit.now n c.args.me e c.in-Taken.away c.in_ok-journal-in-Taken.away _ steps.1
    c.in_ok-journal-in-Taken.ensures.same refl) in
    let p = err_from_is_err_and c.from_residual-in_err-tell-in-Taken.result c.from_residual-in_err-tell-in-Taken.ensures.1 in
    rw (p.1, p.2) (record {
      history = reported.history;
      has = reported.has;
      holds = taken-stops g.D.Disk.seen g.D.Disk.may_leave g.D.Disk.moment g.D.Disk.left_since
          (λ d image left. g.D.Disk.only_now d image left) snap most f c.args.running n c.args.me e ts before l s t source h reported.history
          c.args.disk.now c.keep.new.disk is c.in_ok-journal-in-Taken.journal (stop_of why) keeps
          (tells-stops k snap most n c.args.me e ts before l s t source h reported.history (Unit {0}) why reported.holds);
    })

pub returns-in_err-tell-in-Taken-clause-cause : goal.returns-in_err-tell-in-Taken-clause-cause
returns-in_err-tell-in-Taken-clause-cause g c =
    let p = err_from_is_err_and c.from_residual-in_err-tell-in-Taken.result c.from_residual-in_err-tell-in-Taken.ensures.1 in
    rw (p.1, p.2) (subst (λ (before : ℕ). StopsByDisk before (g.D.Disk.faults c.keep.new.disk) (stop_of c.in_err-tell-in-Taken.field-0.0))
    c.in_ok-journal-in-Taken.ensures.cause c.in_err-tell-in-Taken.ensures.cause)

pub invariant_of-put_back : goal.invariant_of-put_back
invariant_of-put_back g c =
    let k = cast_in c.args.running in
    let n = c.requires.node.node in
    let steps = subst (λ (w : Fate). StepsTo k c.args.running.kit.now n.now c.args.me (event_of c.args.event.now) c.step.new.hosts w)
    c.in-Taken.is (c.in_ok-fault.ensures (version_of c.args.running.journal) n.now c.requires.node.is.hosts) in
    record {
      real = subst (λ (h : Hosted AnySigner). IsReal used h)
          (sym (c.into_parts-process.ensures.process ∙ c.in_ok-journal-in-Taken.ensures.same.process)) (real-so k c.args.me _ _ steps.1.takes.0);
    }

pub count-requires : goal.count-requires
count-requires g c =
    let was = c.requires.node.is in
    room-to-count c.requires.node.from.begins c.requires.node.node c.args.running.counts c.args.me (gate_of c.args.running.journal) was.counts was.journal.gate
    c.in_ok-journal-in-Taken.ensures.room

pub returns-in_ok-say_refused-in-Refused-clause-goes_on : goal.returns-in_ok-say_refused-in-Refused-clause-goes_on
returns-in_ok-say_refused-in-Refused-clause-goes_on g c = λ snap most f source h n ts has is.
    let k = cast_in c.args.running in
    let e = event_of c.args.event.now in
    let steps = subst (λ (w : Fate). StepsTo k c.args.running.kit.now n.now c.args.me e c.step.new.hosts w) c.in-Refused.is
    (c.in_ok-fault.ensures (version_of c.args.running.journal) n.now is.hosts) in
    record {
      history = h;
      has = has;
      holds = refused-on g.D.Disk.seen g.D.Disk.may_leave g.D.Disk.moment g.D.Disk.left_since
          (λ d image left. g.D.Disk.only_now d image left) snap most f c.args.running n c.args.me e ts (fault_of c.in-Refused.fault)
          (link_seen g.L.Link.sent g.L.Link.coming g.L.Link.faults c.args.link.now)
          (sink_seen g.K.Sink.written g.K.Sink.faults c.args.output.now)
          (sink_seen g.K.Sink.written g.K.Sink.faults c.say_refused.new.output) source h c.args.disk.now is steps.1 _ refl steps.0 is.journal is.counts
          c.in_ok-say_refused-in-Refused.ensures;
    }

pub returns-in_ok-tell-in-Taken-clause-goes_on : goal.returns-in_ok-tell-in-Taken-clause-goes_on
returns-in_ok-tell-in-Taken-clause-goes_on g c = λ snap most f source h n ts has is.
    let kit = c.args.running.kit.now in
    let k = cast_in c.args.running in
    let e = event_of c.args.event.now in
    let before = link_seen g.L.Link.sent g.L.Link.coming g.L.Link.faults c.args.link.now in
    let l = link_seen g.L.Link.sent g.L.Link.coming g.L.Link.faults c.tell.new.link in
    let s = sink_seen g.K.Sink.written g.K.Sink.faults c.args.output.now in
    let t = sink_seen g.K.Sink.written g.K.Sink.faults c.tell.new.output in
    let same = c.in_ok-journal-in-Taken.ensures.same in
    let steps = subst (λ (w : Fate). StepsTo k kit n.now c.args.me e c.step.new.hosts w) c.in-Taken.is
    (c.in_ok-fault.ensures (version_of c.args.running.journal) n.now is.hosts) in
    let keeps = c.in_ok-journal-in-Taken.ensures.keeps k snap most f n c.args.me e ts (outside before s source h) is.at is.journal
    (turn-of k kit c.args.me (n.now c.args.me) e c.in-Taken.away steps.1) in
    let o = outcome_of k (n.now c.args.me) e in
    let came = subst (λ r. IsOutcome o r) (sym same.outcome) steps.1.takes.2 in
    let reported = c.in_ok-tell-in-Taken.ensures.reported (version_of c.args.running.journal) o (grown k n c.args.me e).now h came has
    (grown-so k kit n c.args.me e c.in-Taken.away c.in_ok-journal-in-Taken.away _ steps.1 same refl) in
    record {
      history = reported.history;
      has = reported.has;
      holds = taken-on g.D.Disk.seen g.D.Disk.may_leave g.D.Disk.moment g.D.Disk.left_since (λ d image left. g.D.Disk.only_now d image left)
          snap most f c.args.running n c.args.me e ts before l s t source h reported.history c.args.disk.now c.keep.new.disk is _ _
          (asked-so c.args.me e ts o _ _ c.into_parts-process.ensures.outcome came) (ap (cast_of kit) c.in_ok-journal-in-Taken.ensures.kind)
          (all-back k kit n c.args.me e c.step.new.hosts c.put_back.new.self _ (λ now after q. c.put_back.ensures k kit now after q) steps.0
          (among k kit n.now None c.args.running.hosts c.args.me is.hosts c.requires.hosted)
          (back-so k kit n c.args.me e c.in-Taken.away c.in_ok-journal-in-Taken.away _ steps.1 same c.into_parts-process.ensures.process refl refl))
          keeps
          (counts-grown f k n c.args.me e c.args.running.counts _ is.keyed is.sound is.counts c.count.ensures) reported.holds;
    }
