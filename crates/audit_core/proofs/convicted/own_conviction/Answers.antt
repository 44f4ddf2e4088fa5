use Rattle.audit_core.proofs.convicted.own_conviction.Goals as goal

pub returns : goal.returns
returns c = λ i. record {
  reported = record {
    process = c.args.lent.now.process;
    kind = c.kind.ensures i;
    first = (c.in_ok-first.ensures i).statement;
    second = (c.in_ok-second.ensures i).statement;
  };
  evidence = record { first = c.in_ok-first.ensures i; second = c.in_ok-second.ensures i };
}
