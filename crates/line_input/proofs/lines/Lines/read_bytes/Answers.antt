use Rattle.std.proofs.Common.{◌≡◌, ℕ, ◌-◌, ◌++◌, length, take, arith, ap, ◌∙◌, inl, inr, length-append, length-take, List, subst, sym}
use Rattle.line_input.specs.Taking.{ReadOn}
use Rattle.std.proofs.lemmas.Result.{err_from_is_err_and}
use Rattle.line_input.proofs.BytesTaken.{reads_further, takes_more}
use Rattle.line_input.proofs.lines.Lines.read_bytes.Goals as goal

pub returns-in_err-has_more-clause-some : goal.returns-in_err-has_more-clause-some
returns-in_err-has_more-clause-some g c =
    let p = err_from_is_err_and c.from_residual.result c.from_residual.ensures.1 in
    rw p.1 (
      c.pieces.bytes.items,
      reads_further _ _ _ c.args.self.now.ahead c.pieces.bytes.items c.pieces.self.ahead
          c.has_more.new.self.ahead c.pieces.invariant.read c.has_more.ensures.read,
    )

pub pieces-preserved : goal.pieces-preserved
pieces-preserved g c =
    let steady : g.S.Source.faults c.has_more.new.input ≡ g.S.Source.faults c.pieces.input =
    elim c.in_ok-has_more.ensures.steady [ inl bad ↦ absurd cc | inr same ↦ same ] in
    let read = reads_further _ _ _ c.args.self.now.ahead c.pieces.bytes.items c.pieces.self.ahead
    c.has_more.new.self.ahead c.pieces.invariant.read c.has_more.ensures.read in
    let took = c.in_ok-take_into.ensures.took in
    record {
      read = takes_more _ _ c.args.self.now.ahead c.pieces.bytes.items c.has_more.new.self.ahead c.take_into.new.bytes.items
          c.take_into.new.self.ahead _ read took.0 took.1;
      few = omega (
        arith,
        c.pieces.invariant.few,
        ap length took.0,
        length-append c.pieces.bytes.items (take (c.args.count - c.len-in-pieces.result) c.has_more.new.self.ahead),
        length-take (c.args.count - c.len-in-pieces.result) c.has_more.new.self.ahead,
        c.len.ensures,
        c.len-in-pieces.ensures,
      );
      steady = steady ∙ c.pieces.invariant.steady;
    }

pub returns-in_err-take_into-clause-some : goal.returns-in_err-take_into-clause-some
returns-in_err-take_into-clause-some g c =
    let p = err_from_is_err_and c.from_residual-in_err-take_into.result c.from_residual-in_err-take_into.ensures.1 in
    let read = reads_further _ _ _ c.args.self.now.ahead c.pieces.bytes.items c.pieces.self.ahead
    c.has_more.new.self.ahead c.pieces.invariant.read c.has_more.ensures.read in
    rw p.1 (
      c.pieces.bytes.items,
      subst (λ (t : List ℕ). ReadOn (g.S.Source.left c.args.input.now) (g.S.Source.left c.has_more.new.input)
          c.args.self.now.ahead (c.pieces.bytes.items ++ t)) (sym c.in_err-take_into.ensures.kept) read,
    )
