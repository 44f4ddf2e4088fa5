use Rattle.std.proofs.Common.{[], ◌∷◌, refl}
use Rattle.std.proofs.lemmas.Result.{IfErr-weaker, on_ok_weaker}
use Rattle.node_defs.specs.Casts.{cast_of}
use Rattle.node_defs.specs.Nodes.{Serve, Finish}
use Rattle.node_traces.specs.Seen.{link_seen, sink_seen}
use Rattle.opening_laws.specs.Opening.{left_to_open}
use Rattle.restored_hosts.specs.Below.{numbers_of, stop}
use Rattle.node_opening.proofs.Presented.{not-bound, not-reported, presents, presents-part}
use Rattle.node_opening.proofs.presenting.present.Goals as goal

pub returns-in-Ok-write_all-clause-presents : goal.returns-in-Ok-write_all-clause-presents
returns-in-Ok-write_all-clause-presents g c = λ v snap most n source h are has ready. on_ok_weaker c.serve.result
    (presents (cast_of c.args.kit.now v) snap most n source h (numbers_of c.args.hosts.now) c.args.greeting.now are.numbers ready
    g.V.Service.heard c.serve.new.service
    (link_seen g.L.Link.sent g.L.Link.coming g.L.Link.faults c.args.link.now)
    (link_seen g.L.Link.sent g.L.Link.coming g.L.Link.faults c.bind_all.new.link)
    (sink_seen g.K.Sink.written g.K.Sink.faults c.args.output.now) (sink_seen g.K.Sink.written g.K.Sink.faults c.write_all.new.output)
    (sink_seen g.K.Sink.written g.K.Sink.faults c.serve.new.output)
    c.in-Ok.ensures.bound (record { appended = c.in-Ok-write_all.ensures.bytes; steady = c.in-Ok-write_all.ensures.steady }))
    (c.serve.ensures.serves v snap most (left_to_open n (Serve ∷ Finish ∷ []))
    (link_seen g.L.Link.sent g.L.Link.coming g.L.Link.faults c.bind_all.new.link) source h are has
    (record { runs = ready.runs; opening = refl }))

pub returns-in-Ok-write_all-clause-stops : goal.returns-in-Ok-write_all-clause-stops
returns-in-Ok-write_all-clause-stops g c = λ v snap most n source h are has ready. IfErr-weaker c.serve.result _ _ (λ why.
    presents-part (cast_of c.args.kit.now v) snap most n source h (numbers_of c.args.hosts.now) c.args.greeting.now are.numbers ready
    g.V.Service.heard c.serve.new.service (stop why)
    (link_seen g.L.Link.sent g.L.Link.coming g.L.Link.faults c.args.link.now)
    (link_seen g.L.Link.sent g.L.Link.coming g.L.Link.faults c.bind_all.new.link)
    (sink_seen g.K.Sink.written g.K.Sink.faults c.args.output.now) (sink_seen g.K.Sink.written g.K.Sink.faults c.write_all.new.output)
    (sink_seen g.K.Sink.written g.K.Sink.faults c.serve.new.output)
    c.in-Ok.ensures.bound (record { appended = c.in-Ok-write_all.ensures.bytes; steady = c.in-Ok-write_all.ensures.steady }))
    (c.serve.ensures.stops v snap most (left_to_open n (Serve ∷ Finish ∷ []))
    (link_seen g.L.Link.sent g.L.Link.coming g.L.Link.faults c.bind_all.new.link) source h are has
    (record { runs = ready.runs; opening = refl }))

pub returns-in-Err-write_all-clause-stops : goal.returns-in-Err-write_all-clause-stops
returns-in-Err-write_all-clause-stops g c = λ v snap most n source h are has ready. record {
  history = h;
  has = has;
  holds = not-reported (cast_of c.args.kit.now v) snap most n source h (numbers_of c.args.hosts.now) c.args.greeting.now are.numbers ready
      (link_seen g.L.Link.sent g.L.Link.coming g.L.Link.faults c.args.link.now)
      (link_seen g.L.Link.sent g.L.Link.coming g.L.Link.faults c.bind_all.new.link)
      (sink_seen g.K.Sink.written g.K.Sink.faults c.args.output.now) (sink_seen g.K.Sink.written g.K.Sink.faults c.write_all.new.output)
      c.in-Ok.ensures.bound (record { front = c.in-Err-write_all.ensures.part; rose = c.in-Err-write_all.ensures.failed });
}

pub returns-in-Err-clause-stops : goal.returns-in-Err-clause-stops
returns-in-Err-clause-stops g c = λ v snap most n source h are has ready. record {
  history = h;
  has = has;
  holds = not-bound (cast_of c.args.kit.now v) snap most n source h (numbers_of c.args.hosts.now) c.args.greeting.now are.numbers ready
      (link_seen g.L.Link.sent g.L.Link.coming g.L.Link.faults c.args.link.now)
      (link_seen g.L.Link.sent g.L.Link.coming g.L.Link.faults c.bind_all.new.link)
      (sink_seen g.K.Sink.written g.K.Sink.faults c.args.output.now) c.in-Err.ensures.failed;
}
