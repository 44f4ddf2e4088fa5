use Rattle.std.proofs.Common.{◌≡◌, ◌+◌, ◌++◌, ℕ, Ok, true, inl, inr, [], ap, sym, subst, refl, ◌∙◌}
use Rattle.std.proofs.lemmas.Grind.{common_steps}
use Rattle.std.proofs.Common.{arith, rules}
use Rattle.std.proofs.lemmas.Result.{err_from_is_err_and}
use Rattle.std.proofs.KnownBytes.{Appends-nil}
use Rattle.chain_text_defs.specs.Chains.{view_line}
use Rattle.chain_words.specs.declared.stops.Stop.TheVariants.{Input}
use Rattle.chain_words.specs.Places.{Place, answer_at, place}
use Rattle.chain_words.specs.Running.{ReachesBy}
use Rattle.chain_words.specs.Stops.{words_of}
use Rattle.chain_words.proofs.Runs.{next_faulty, next_in_part, next_shown, shown_there, stands_then, stands_there}
use Rattle.std.proofs.KnownBytes.{Appends-trans}
use Rattle.chain_words.proofs.chaining.answer_rest.Goals as goal

pub proofs-init : goal.proofs-init
proofs-init g c = record {
  shown = (
    [],
    subst (λ (n : ℕ). ReachesBy (answer_at (place c.args.kit.now (c.args.last + 1) c.args.chain c.args.lines.now.ahead))
        (g.S.Source.left c.args.input.now) (g.S.Source.left c.args.input.now) [] (place c.args.kit.now n c.args.chain c.args.lines.now.ahead))
        (sym c.in_ok-first.ensures.next)
        (stands_there (g.S.Source.left c.args.input.now) (place c.args.kit.now (c.args.last + 1) c.args.chain c.args.lines.now.ahead)),
    Appends-nil (g.K.Sink.written c.args.output.now),
  );
  read = refl;
  wrote = refl;
}

pub returns-in_err-first-clause-some : goal.returns-in_err-first-clause-some
returns-in_err-first-clause-some g c =
    let p = err_from_is_err_and c.from_residual.result c.from_residual.ensures.1 in
    rw p.1 (inr (shown_there (g.S.Source.left c.args.input.now) (g.K.Sink.written c.args.output.now)
    (place c.args.kit.now (c.args.last + 1) c.args.chain c.args.lines.now.ahead)))

pub returns-in_err-step-clause-part : goal.returns-in_err-step-clause-part
returns-in_err-step-clause-part g c = λ e.
    let p = err_from_is_err_and c.from_residual-in_err-step.result c.from_residual-in_err-step.ensures.1 in
    let s = c.proofs.invariant.shown in
    let first : Place = place c.args.kit.now (c.args.last + 1) c.args.chain c.args.lines.now.ahead in
    let at : Place = place c.args.kit.now c.proofs.number c.proofs.chain c.proofs.lines.ahead in
    let next : Place = place c.args.kit.now (c.proofs.number + 1) c.step.new.chain c.step.new.lines.ahead in
    next_in_part (answer_at first) (answer_at at) _ _ _ s.0 s.1 _ _ s.2 _ next
    (c.in_err-step.ensures.last (cc (p.1, p.2, e))) (c.in_err-step.ensures.part (cc (p.1, p.2, e)))

pub returns-in_err-step-clause-some : goal.returns-in_err-step-clause-some
returns-in_err-step-clause-some g c =
    let p = err_from_is_err_and c.from_residual-in_err-step.result c.from_residual-in_err-step.ensures.1 in
    let s = c.proofs.invariant.shown in
    let first : Place = place c.args.kit.now (c.args.last + 1) c.args.chain c.args.lines.now.ahead in
    let at : Place = place c.args.kit.now c.proofs.number c.proofs.chain c.proofs.lines.ahead in
    rw p.1 (elim c.in_err-step.ensures.untouched [
      | inl write ↦ inl (cc (p.2, write))
      | inr same ↦ inr (next_shown (answer_at first) _ _ _ s.0 at s.1 _ _ s.2 _ c.in_err-step.ensures.reads (ap g.K.Sink.written same))
    ])

pub returns-in_err-step-clause-refused : goal.returns-in_err-step-clause-refused
returns-in_err-step-clause-refused g c = λ fault e.
    let p = err_from_is_err_and c.from_residual-in_err-step.result c.from_residual-in_err-step.ensures.1 in
    let s = c.proofs.invariant.shown in
    let first : Place = place c.args.kit.now (c.args.last + 1) c.args.chain c.args.lines.now.ahead in
    let at : Place = place c.args.kit.now c.proofs.number c.proofs.chain c.proofs.lines.ahead in
    let is : c.in_err-step.field-0.0 ≡ Input fault = cc (p.1, p.2, e) in
    elim c.in_err-step.ensures.untouched [
      | inl write ↦ absurd (cc (is, write))
      | inr same ↦ next_faulty (answer_at first) (answer_at at) _ _ _ s.0 s.1 _ _ s.2 _ (words_of fault)
          (c.in_err-step.ensures.refused fault (cc (p.1, p.2, e))) (ap g.K.Sink.written same)
    ]

pub proofs-preserved : goal.proofs-preserved
proofs-preserved g c =
    let s = c.proofs.invariant.shown in
    let first : Place = place c.args.kit.now (c.args.last + 1) c.args.chain c.args.lines.now.ahead in
    let at : Place = place c.args.kit.now c.proofs.number c.proofs.chain c.proofs.lines.ahead in
    let next : Place = place c.args.kit.now (c.proofs.number + 1) c.step.new.chain c.step.new.lines.ahead in
    let yes : c.in_ok-step.field-0 ≡ true = first_of (cc, search rules, grind (arith, common_steps)) in
    let reported = c.in_ok-step.ensures.shown (ap (λ b. Ok b) yes) in
    let wrote = c.in_ok-step.ensures.wrote (ap (λ b. Ok b) yes) in
    record {
      shown = (
        s.0 ++ view_line c.step.new.chain,
        stands_then (answer_at first) (answer_at at) _ _ _ s.0 s.1 (view_line c.step.new.chain) next reported,
        Appends-trans _ _ _ s.0 (view_line c.step.new.chain) s.2 wrote,
      );
      read = c.in_ok-step.ensures.steady.0 ∙ c.proofs.invariant.read;
      wrote = c.in_ok-step.ensures.steady.1 ∙ c.proofs.invariant.wrote;
    }
