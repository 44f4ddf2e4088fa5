use Rattle.node_defs.specs.Lives.{fresh}
use Rattle.node_traces.specs.Seen.{link_seen, sink_seen, source_seen}
use Rattle.node_script.specs.Words.{stop as stop_of}
use Rattle.node_loop.proofs.Causes.{counted-resuming}
use Rattle.node_loop.proofs.Complete.{each-status}
use Rattle.node_loop.proofs.Ending.{ends-bound, ends-fine, ends-read, ends-steady, ends-unread, ends-untold, ends-written, reported-in-order-resuming}
use Rattle.node_loop.proofs.Statuses.{disk-by, no-disk-by, rose-by-disk, still-by-disk}
use Rattle.node_loop.proofs.resuming.resume_host.Goals as goal

pub returns-clause-ended : goal.returns-clause-ended
returns-clause-ended g c = λ f h has.
    let run = c.resume-stop.ensures.stops f h has in
    record {
      history = run.history;
      has = run.has;
      holds = record {
        why = stop_of c.resume-stop.result;
        before = sink_seen g.K.Sink.written g.K.Sink.faults c.resume-stop.new.output;
        run = run.holds;
        ends = c.tell.ensures;
      };
    }

pub returns-clause-steady : goal.returns-clause-steady
returns-clause-steady g c =
    let why = stop_of c.resume-stop.result in
    let k = source_seen g.S.Source.left g.S.Source.faults c.args.input.now in
    let l = link_seen g.L.Link.sent g.L.Link.coming g.L.Link.faults c.args.link.now in
    let m = link_seen g.L.Link.sent g.L.Link.coming g.L.Link.faults c.resume-stop.new.link in
    let s = sink_seen g.K.Sink.written g.K.Sink.faults c.args.output.now in
    let t = sink_seen g.K.Sink.written g.K.Sink.faults c.resume-stop.new.output in
    let u = sink_seen g.K.Sink.written g.K.Sink.faults c.tell.new.output in
    let left = g.S.Source.left c.resume-stop.new.input in
    let faults = g.S.Source.faults c.resume-stop.new.input in
    let begun = g.V.Service.begun c.args.service.now in
    let run = c.resume-stop.ensures.stops fresh begun.history begun.has in
    let counts = counted-resuming g.D.Disk.seen g.D.Disk.may_leave g.D.Disk.moment g.D.Disk.left_since _ fresh k l s c.args.disk.now left faults m t
    c.resume-stop.new.disk begun.history run.history why run.holds in
    ends-steady why c.tell.result k.faults faults s t u l m counts c.tell.ensures

pub returns-clause-read : goal.returns-clause-read
returns-clause-read g c =
    let why = stop_of c.resume-stop.result in
    let k = source_seen g.S.Source.left g.S.Source.faults c.args.input.now in
    let l = link_seen g.L.Link.sent g.L.Link.coming g.L.Link.faults c.args.link.now in
    let m = link_seen g.L.Link.sent g.L.Link.coming g.L.Link.faults c.resume-stop.new.link in
    let s = sink_seen g.K.Sink.written g.K.Sink.faults c.args.output.now in
    let t = sink_seen g.K.Sink.written g.K.Sink.faults c.resume-stop.new.output in
    let u = sink_seen g.K.Sink.written g.K.Sink.faults c.tell.new.output in
    let left = g.S.Source.left c.resume-stop.new.input in
    let faults = g.S.Source.faults c.resume-stop.new.input in
    let begun = g.V.Service.begun c.args.service.now in
    let run = c.resume-stop.ensures.stops fresh begun.history begun.has in
    let counts = counted-resuming g.D.Disk.seen g.D.Disk.may_leave g.D.Disk.moment g.D.Disk.left_since _ fresh k l s c.args.disk.now left faults m t
    c.resume-stop.new.disk begun.history run.history why run.holds in
    ends-read why c.tell.result k.faults faults s t u l m counts c.tell.ensures

pub returns-clause-written : goal.returns-clause-written
returns-clause-written g c =
    let why = stop_of c.resume-stop.result in
    let k = source_seen g.S.Source.left g.S.Source.faults c.args.input.now in
    let l = link_seen g.L.Link.sent g.L.Link.coming g.L.Link.faults c.args.link.now in
    let m = link_seen g.L.Link.sent g.L.Link.coming g.L.Link.faults c.resume-stop.new.link in
    let s = sink_seen g.K.Sink.written g.K.Sink.faults c.args.output.now in
    let t = sink_seen g.K.Sink.written g.K.Sink.faults c.resume-stop.new.output in
    let u = sink_seen g.K.Sink.written g.K.Sink.faults c.tell.new.output in
    let left = g.S.Source.left c.resume-stop.new.input in
    let faults = g.S.Source.faults c.resume-stop.new.input in
    let begun = g.V.Service.begun c.args.service.now in
    let run = c.resume-stop.ensures.stops fresh begun.history begun.has in
    let counts = counted-resuming g.D.Disk.seen g.D.Disk.may_leave g.D.Disk.moment g.D.Disk.left_since _ fresh k l s c.args.disk.now left faults m t
    c.resume-stop.new.disk begun.history run.history why run.holds in
    ends-written why c.tell.result k.faults faults s t u l m counts c.tell.ensures

pub returns-clause-bound : goal.returns-clause-bound
returns-clause-bound g c =
    let why = stop_of c.resume-stop.result in
    let k = source_seen g.S.Source.left g.S.Source.faults c.args.input.now in
    let l = link_seen g.L.Link.sent g.L.Link.coming g.L.Link.faults c.args.link.now in
    let m = link_seen g.L.Link.sent g.L.Link.coming g.L.Link.faults c.resume-stop.new.link in
    let s = sink_seen g.K.Sink.written g.K.Sink.faults c.args.output.now in
    let t = sink_seen g.K.Sink.written g.K.Sink.faults c.resume-stop.new.output in
    let u = sink_seen g.K.Sink.written g.K.Sink.faults c.tell.new.output in
    let left = g.S.Source.left c.resume-stop.new.input in
    let faults = g.S.Source.faults c.resume-stop.new.input in
    let begun = g.V.Service.begun c.args.service.now in
    let run = c.resume-stop.ensures.stops fresh begun.history begun.has in
    let counts = counted-resuming g.D.Disk.seen g.D.Disk.may_leave g.D.Disk.moment g.D.Disk.left_since _ fresh k l s c.args.disk.now left faults m t
    c.resume-stop.new.disk begun.history run.history why run.holds in
    ends-bound why c.tell.result k.faults faults s t u l m counts c.tell.ensures

pub returns-clause-untold : goal.returns-clause-untold
returns-clause-untold g c =
    let why = stop_of c.resume-stop.result in
    let k = source_seen g.S.Source.left g.S.Source.faults c.args.input.now in
    let l = link_seen g.L.Link.sent g.L.Link.coming g.L.Link.faults c.args.link.now in
    let m = link_seen g.L.Link.sent g.L.Link.coming g.L.Link.faults c.resume-stop.new.link in
    let s = sink_seen g.K.Sink.written g.K.Sink.faults c.args.output.now in
    let t = sink_seen g.K.Sink.written g.K.Sink.faults c.resume-stop.new.output in
    let u = sink_seen g.K.Sink.written g.K.Sink.faults c.tell.new.output in
    let left = g.S.Source.left c.resume-stop.new.input in
    let faults = g.S.Source.faults c.resume-stop.new.input in
    let begun = g.V.Service.begun c.args.service.now in
    let run = c.resume-stop.ensures.stops fresh begun.history begun.has in
    let counts = counted-resuming g.D.Disk.seen g.D.Disk.may_leave g.D.Disk.moment g.D.Disk.left_since _ fresh k l s c.args.disk.now left faults m t
    c.resume-stop.new.disk begun.history run.history why run.holds in
    ends-untold why c.tell.result k.faults faults s t u l m counts c.tell.ensures

pub returns-clause-no_read : goal.returns-clause-no_read
returns-clause-no_read g c =
    let why = stop_of c.resume-stop.result in
    let k = source_seen g.S.Source.left g.S.Source.faults c.args.input.now in
    let l = link_seen g.L.Link.sent g.L.Link.coming g.L.Link.faults c.args.link.now in
    let m = link_seen g.L.Link.sent g.L.Link.coming g.L.Link.faults c.resume-stop.new.link in
    let s = sink_seen g.K.Sink.written g.K.Sink.faults c.args.output.now in
    let t = sink_seen g.K.Sink.written g.K.Sink.faults c.resume-stop.new.output in
    let u = sink_seen g.K.Sink.written g.K.Sink.faults c.tell.new.output in
    let left = g.S.Source.left c.resume-stop.new.input in
    let faults = g.S.Source.faults c.resume-stop.new.input in
    let begun = g.V.Service.begun c.args.service.now in
    let run = c.resume-stop.ensures.stops fresh begun.history begun.has in
    let counts = counted-resuming g.D.Disk.seen g.D.Disk.may_leave g.D.Disk.moment g.D.Disk.left_since _ fresh k l s c.args.disk.now left faults m t
    c.resume-stop.new.disk begun.history run.history why run.holds in
    ends-unread why c.tell.result k.faults faults s t u l m counts c.tell.ensures

pub returns-clause-completes : goal.returns-clause-completes
returns-clause-completes g c =
    let why = stop_of c.resume-stop.result in
    let k = source_seen g.S.Source.left g.S.Source.faults c.args.input.now in
    let l = link_seen g.L.Link.sent g.L.Link.coming g.L.Link.faults c.args.link.now in
    let m = link_seen g.L.Link.sent g.L.Link.coming g.L.Link.faults c.resume-stop.new.link in
    let s = sink_seen g.K.Sink.written g.K.Sink.faults c.args.output.now in
    let t = sink_seen g.K.Sink.written g.K.Sink.faults c.resume-stop.new.output in
    let u = sink_seen g.K.Sink.written g.K.Sink.faults c.tell.new.output in
    let left = g.S.Source.left c.resume-stop.new.input in
    let faults = g.S.Source.faults c.resume-stop.new.input in
    let begun = g.V.Service.begun c.args.service.now in
    let run = c.resume-stop.ensures.stops fresh begun.history begun.has in
    let counts = counted-resuming g.D.Disk.seen g.D.Disk.may_leave g.D.Disk.moment g.D.Disk.left_since _ fresh k l s c.args.disk.now left faults m t
    c.resume-stop.new.disk begun.history run.history why run.holds in
    λ order. ends-fine why c.tell.result k.faults faults s t u l m counts c.tell.ensures
    (g.D.Disk.faults c.args.disk.now) (g.D.Disk.faults c.resume-stop.new.disk) c.resume-stop.ensures.cause
    (reported-in-order-resuming g.D.Disk.seen g.D.Disk.may_leave g.D.Disk.moment g.D.Disk.left_since _ fresh k l s c.args.disk.now left faults m t
    c.resume-stop.new.disk begun.history run.history why run.holds order)

pub returns-clause-kept : goal.returns-clause-kept
returns-clause-kept g c =
    let why = stop_of c.resume-stop.result in
    let t = sink_seen g.K.Sink.written g.K.Sink.faults c.resume-stop.new.output in
    let u = sink_seen g.K.Sink.written g.K.Sink.faults c.tell.new.output in
    λ five. rose-by-disk (g.D.Disk.faults c.args.disk.now) (g.D.Disk.faults c.resume-stop.new.disk) why c.resume-stop.ensures.cause
    (disk-by why c.tell.result t u c.tell.ensures five)

pub returns-clause-no_disk : goal.returns-clause-no_disk
returns-clause-no_disk g c =
    let why = stop_of c.resume-stop.result in
    let t = sink_seen g.K.Sink.written g.K.Sink.faults c.resume-stop.new.output in
    let u = sink_seen g.K.Sink.written g.K.Sink.faults c.tell.new.output in
    λ one five. still-by-disk (g.D.Disk.faults c.args.disk.now) (g.D.Disk.faults c.resume-stop.new.disk) why c.resume-stop.ensures.cause
    (no-disk-by why c.tell.result t u c.tell.ensures one five)

pub returns-clause-only : goal.returns-clause-only
returns-clause-only g c =
    let why = stop_of c.resume-stop.result in
    let t = sink_seen g.K.Sink.written g.K.Sink.faults c.resume-stop.new.output in
    let u = sink_seen g.K.Sink.written g.K.Sink.faults c.tell.new.output in
    each-status why c.tell.result t u c.tell.ensures
