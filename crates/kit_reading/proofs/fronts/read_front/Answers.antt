use Rattle.std.proofs.Common.{◌≡◌, List, ℕ, inl, inr, true, false, refl, subst, ◌∙◌}
use Rattle.std.proofs.lemmas.Result.{err_from_is_err_and}
use Rattle.byte_defs.specs.Reads.{Fails}
use Rattle.kit_defs.specs.KitReading.{take_line}
use Rattle.kit_defs.specs.KitReading as plain
use Rattle.std.specs.Prelude.{Ok}
use Rattle.kit_reading.specs.Faults.{fault_of}
use Rattle.kit_reading.proofs.FrontLines.{begins, begun, fails, is_go, is_kit, line_more, no_line_fault, not_ended}
use Rattle.kit_reading.proofs.fronts.read_front.Goals as goal

pub lines-init : goal.lines-init
lines-init g c = record {
  going = begun (g.S.Source.left c.args.input.now) c.args.lines.now.ahead c.in_ok-draft.draft c.in_ok-draft.ensures;
  steady = refl;
}

pub returns-in_err-next_line-clause-fault : goal.returns-in_err-next_line-clause-fault
returns-in_err-next_line-clause-fault g c =
    let p = err_from_is_err_and c.from_residual-in_err-next_line.result c.from_residual-in_err-next_line.ensures.1 in
    rw (p.1, p.2) (no_line_fault (g.S.Source.left c.args.input.now) (g.S.Source.left c.lines.input) (g.S.Source.left c.next_line.new.input)
    c.args.lines.now.ahead c.lines.number c.lines.draft c.lines.lines.ahead c.lines.invariant.going _ c.in_err-next_line.ensures.none)

pub end-requires : goal.end-requires
end-requires g c = λ kit e.
    is_kit (g.S.Source.left c.args.input.now) (g.S.Source.left c.lines.input) (g.S.Source.left c.next_line.new.input)
    c.args.lines.now.ahead c.lines.number c.lines.draft c.lines.lines.ahead c.lines.invariant.going kit e

pub returns-in_err-kit-clause-fault : goal.returns-in_err-kit-clause-fault
returns-in_err-kit-clause-fault g c =
    let same = is_go c.eq.result true c.line.result.now c.as_slice.result.now c.next_line.new.lines.line c.eq.ensures c.line.ensures
    c.as_slice.ensures c.if-eq.true in
    let p = err_from_is_err_and c.from_residual-in_err-kit.result c.from_residual-in_err-kit.ensures.1 in
    rw (p.1, p.2) (not_ended (g.S.Source.left c.args.input.now) (g.S.Source.left c.lines.input) (g.S.Source.left c.next_line.new.input)
    c.args.lines.now.ahead c.lines.number c.lines.draft c.lines.lines.ahead c.lines.invariant.going c.next_line.new.lines
    c.in_ok-next_line.ensures.taken same c.in_err-kit.field-0.0 c.in_err-kit.ensures)

pub returns-then-eq-clause-found : goal.returns-then-eq-clause-found
returns-then-eq-clause-found g c =
    let same = is_go c.eq.result true c.line.result.now c.as_slice.result.now c.next_line.new.lines.line c.eq.ensures c.line.ensures
    c.as_slice.ensures c.if-eq.true in
    begins (g.S.Source.left c.args.input.now) (g.S.Source.left c.lines.input) (g.S.Source.left c.next_line.new.input)
    c.args.lines.now.ahead c.lines.number c.lines.draft c.lines.lines.ahead c.lines.invariant.going c.next_line.new.lines
    c.in_ok-next_line.ensures.taken same c.in_ok-kit.kit c.in_ok-kit.ensures

pub returns-then-eq-clause-kit : goal.returns-then-eq-clause-kit
returns-then-eq-clause-kit g c =
    is_kit (g.S.Source.left c.args.input.now) (g.S.Source.left c.lines.input) (g.S.Source.left c.next_line.new.input)
    c.args.lines.now.ahead c.lines.number c.lines.draft c.lines.lines.ahead c.lines.invariant.going c.in_ok-kit.kit c.in_ok-kit.ensures

pub returns-in_err-take_line-clause-fault : goal.returns-in_err-take_line-clause-fault
returns-in_err-take_line-clause-fault g c =
    let other = is_go c.eq.result false c.line.result.now c.as_slice.result.now c.next_line.new.lines.line c.eq.ensures c.line.ensures
    c.as_slice.ensures c.if-eq.false in
    let e = c.in_err-take_line.field-0.0 in
    let took = subst (λ (t : List ℕ). Fails fault_of e (take_line c.lines.number c.lines.draft t)) c.line-in-lines.ensures
    c.in_err-take_line.ensures.taken in
    let p = err_from_is_err_and c.from_residual-in_err-take_line.result c.from_residual-in_err-take_line.ensures.1 in
    rw (p.1, p.2) (fails (g.S.Source.left c.args.input.now) (g.S.Source.left c.lines.input) (g.S.Source.left c.next_line.new.input)
    c.args.lines.now.ahead c.lines.number c.lines.draft c.lines.lines.ahead c.lines.invariant.going c.next_line.new.lines
    c.in_ok-next_line.ensures.taken other e took)

pub lines-preserved : goal.lines-preserved
lines-preserved g c =
    let other = is_go c.eq.result false c.line.result.now c.as_slice.result.now c.next_line.new.lines.line c.eq.ensures c.line.ensures
    c.as_slice.ensures c.if-eq.false in
    let took = subst (λ (t : List ℕ). take_line c.lines.number c.lines.draft t ≡ Ok c.take_line.new.draft) c.line-in-lines.ensures
    c.in_ok-take_line.ensures.taken in
    record {
      going = line_more (g.S.Source.left c.args.input.now) (g.S.Source.left c.lines.input) (g.S.Source.left c.next_line.new.input)
          c.args.lines.now.ahead c.lines.number c.lines.draft c.lines.lines.ahead c.lines.invariant.going c.next_line.new.lines
          c.in_ok-next_line.ensures.taken other c.take_line.new.draft took;
      steady = elim c.in_ok-next_line.ensures.steady [ inl bad ↦ absurd cc | inr same ↦ same ∙ c.lines.invariant.steady ];
    }
