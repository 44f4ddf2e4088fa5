use Rattle.std.proofs.Common.{ℕ, List, inl, refl, subst, ◌∙◌}
use Rattle.rp_base.specs.Streams.{WritesLine}
use Rattle.store_cli.proofs.top.tell_fault.Goals as goal

pub returns : goal.returns
returns g c = inl (
  refl,
  subst (λ (line : List ℕ). WritesLine line (g.E.Sink.written c.args.errors.now) (g.E.Sink.written c.say.new.errors)
      (g.E.Sink.faults c.args.errors.now) (g.E.Sink.faults c.say.new.errors)) (c.deref.ensures.value ∙ c.in-Ok.ensures) c.say.ensures,
)
