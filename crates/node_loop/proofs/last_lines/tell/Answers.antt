use Rattle.std.proofs.Common.{ℕ, List, ◌++◌, inl, inr, refl, ap, subst, ◌∙◌}
use Rattle.node_defs.specs.Lines.{stop_line}
use Rattle.node_traces.specs.Seen.{sink_seen}
use Rattle.node_script.specs.Words.{stop as stop_of}
use Rattle.node_loop.specs.Ended.{SaysLast}
use Rattle.node_loop.proofs.last_lines.tell.Goals as goal

pub returns-in-Ok : goal.returns-in-Ok
returns-in-Ok g c = inl (
  c.status.ensures,
  subst (λ (line : List ℕ). SaysLast line (sink_seen g.K.Sink.written g.K.Sink.faults c.args.output.now)
      (sink_seen g.K.Sink.written g.K.Sink.faults c.say.new.output))
      (c.deref.ensures.value ∙ c.in-Ok.ensures.pushed ∙ ap (λ (l : List ℕ). l ++ stop_line (stop_of c.args.stop)) c.new-line.ensures.items)
      c.say.ensures,
)

pub returns : goal.returns
returns g c = inr (c.status-in-Err.ensures, refl)
