use Rattle.std.proofs.Common.{refl, subst, sym, Option, List, ℕ}
use Rattle.std.specs.Prelude.{IfSome}
use Rattle.std.proofs.lemmas.Result.{err_from_is_err_and}
use Rattle.journal_rp.specs.Stages.{gate_of, version_of}
use Rattle.restored_hosts.specs.Below.{stop}
use Rattle.node_opening.specs.Holding.{IsPlaceOf}
use Rattle.node_opening.specs.Reading.{not_there, too_little}
use Rattle.node_opening.proofs.Begun.{snap-set-out}
use Rattle.node_opening.proofs.setting_out.at_place.Goals as goal

pub returns-in_err-go_to-clause-other : goal.returns-in_err-go_to-clause-other
returns-in_err-go_to-clause-other g c = λ t is.
    let out = err_from_is_err_and c.from_residual.result c.from_residual.ensures.1 in
    rw (out.1, out.2) (not_there t (stop c.in_err-go_to.field-0.0) refl (c.in_err-go_to.ensures.other t is))

pub returns-in_err-begun-clause-other : goal.returns-in_err-begun-clause-other
returns-in_err-begun-clause-other g c = λ t is.
    let out = err_from_is_err_and c.from_residual-in_err-begun.result c.from_residual-in_err-begun.ensures.1 in
    rw (out.1, out.2) too_little

pub hosts_of-requires-clause-judged : goal.hosts_of-requires-clause-judged
hosts_of-requires-clause-judged g c =
    let by = c.requires.begins in
    (by.0, by.1.parts, by.1.is.processes)

pub returns-clause-sets : goal.returns-clause-sets
returns-clause-sets g c = λ t is.
    let v = version_of c.go_to.new.journal in
    let kit = c.args.kit.now in
    snap-set-out kit v t (g.D.Disk.seen c.go_to.new.disk) (gate_of c.go_to.new.journal) c.in_ok-begun.begun
    (c.in_ok-begun.ensures v t (sym c.batch.ensures) is.parts is.is.processes (is.is_for v))
    (subst (λ (o : Option (List ℕ)). IfSome o (IsPlaceOf kit t)) (sym c.go_to.ensures.disk.reads) (c.in_ok-go_to.ensures.there t is))
    (c.in_ok-go_to.ensures.gate t is)
