use Rattle.std.proofs.Common.{◌≡◌, ◌+◌, inl, inr, ap, refl}
use Rattle.std.proofs.lemmas.Result.{err_from_is_err_and, on_ok_weaker, IfErr-weaker}
use Rattle.line_input.specs.Taking.{Taken}
use Rattle.chain_words.specs.declared.stops.Stop.TheVariants.{Input}
use Rattle.chain_words.specs.Stops.{of_front}
use Rattle.chain_words.proofs.Kits.{no_front}
use Rattle.chain_words.proofs.Runs.{answered_then, faulty_then, first_in_part, first_stands, in_part_then, none_shown, opened, shown_then, some_of}
use Rattle.chain_text_defs.specs.Chains.{chain_from, chain_of}
use Rattle.chain_words.specs.Places.{Place, answer_at, place}
use Rattle.chain_words.specs.Stops.{words_of}
use Rattle.chain_words.proofs.chaining.answer_input.Goals as goal

pub returns-in_err-front-clause-refused : goal.returns-in_err-front-clause-refused
returns-in_err-front-clause-refused g c = λ fault e.
    let p = err_from_is_err_and c.from_residual.result c.from_residual.ensures.1 in
    let same : of_front c.in_err-front.field-0.0 ≡ Input fault = cc (p.1, p.2, e) in
    no_front chain_of chain_from opened _ _ _ c.new-lines.result.ahead c.in_err-front.field-0.0 fault (ap (λ (t : Taken). t.ahead) c.new-lines.ensures) same
    c.in_err-front.ensures.fault

pub returns-in_err-write_view-clause-part : goal.returns-in_err-write_view-clause-part
returns-in_err-write_view-clause-part g c = λ e.
    let p = err_from_is_err_and c.from_residual-in_err-write_view.result c.from_residual-in_err-write_view.ensures.1 in
    first_in_part _ _ c.in_ok-front.front.kit c.in_ok-front.front.go _ c.new-lines.result.ahead
    (ap (λ (t : Taken). t.ahead) c.new-lines.ensures) c.in_ok-front.ensures.found c.genesis_of-genesis.result c.genesis_of-genesis.ensures _ _
    (c.in_err-write_view.ensures.part (cc (p.1, p.2, e)))

pub returns-in_err-write_view-clause-some : goal.returns-in_err-write_view-clause-some
returns-in_err-write_view-clause-some g c =
    let p = err_from_is_err_and c.from_residual-in_err-write_view.result c.from_residual-in_err-write_view.ensures.1 in
    rw p.1 (elim c.in_err-write_view.ensures.untouched [
      | inl write ↦ inl (cc (p.2, write))
      | inr same ↦ inr (none_shown chain_of _ _ _ _ (ap g.K.Sink.written same.1))
    ])

pub returns-clause-done : goal.returns-clause-done
returns-clause-done g c =
    let there = first_stands _ _ c.in_ok-front.front.kit c.in_ok-front.front.go _ c.new-lines.result.ahead
    (ap (λ (t : Taken). t.ahead) c.new-lines.ensures) c.in_ok-front.ensures.found c.genesis_of-genesis.result c.genesis_of-genesis.ensures
    (c.in_ok-front.front.go + 1) c.new-chain.result refl c.new-chain.ensures in
    let at : Place = place c.in_ok-front.front.kit (c.in_ok-front.front.go + 1) c.new-chain.result c.read_front.new.lines.ahead in
    on_ok_weaker c.answer_rest.result
    (λ done. answered_then chain_of (answer_at at) _ _ _ _ there _ _ c.in_ok-write_view.ensures.wrote _ done) c.answer_rest.ensures.done

pub returns-clause-part : goal.returns-clause-part
returns-clause-part g c = λ e.
    let there = first_stands _ _ c.in_ok-front.front.kit c.in_ok-front.front.go _ c.new-lines.result.ahead
    (ap (λ (t : Taken). t.ahead) c.new-lines.ensures) c.in_ok-front.ensures.found c.genesis_of-genesis.result c.genesis_of-genesis.ensures
    (c.in_ok-front.front.go + 1) c.new-chain.result refl c.new-chain.ensures in
    let at : Place = place c.in_ok-front.front.kit (c.in_ok-front.front.go + 1) c.new-chain.result c.read_front.new.lines.ahead in
    in_part_then chain_of (answer_at at) _ _ _ _ there _ _ c.in_ok-write_view.ensures.wrote _ (c.answer_rest.ensures.part e)

pub returns-clause-some : goal.returns-clause-some
returns-clause-some g c =
    let there = first_stands _ _ c.in_ok-front.front.kit c.in_ok-front.front.go _ c.new-lines.result.ahead
    (ap (λ (t : Taken). t.ahead) c.new-lines.ensures) c.in_ok-front.ensures.found c.genesis_of-genesis.result c.genesis_of-genesis.ensures
    (c.in_ok-front.front.go + 1) c.new-chain.result refl c.new-chain.ensures in
    let at : Place = place c.in_ok-front.front.kit (c.in_ok-front.front.go + 1) c.new-chain.result c.read_front.new.lines.ahead in
    IfErr-weaker c.answer_rest.result _ _ (λ stop either. elim either [
      | inl write ↦ inl write
      | inr shown ↦ inr (some_of chain_of _ _ _ _ (shown_then chain_of (answer_at at) _ _ _ _ there _ _ c.in_ok-write_view.ensures.wrote _ shown))
    ]) c.answer_rest.ensures.some

pub returns-clause-refused : goal.returns-clause-refused
returns-clause-refused g c = λ fault e.
    let there = first_stands _ _ c.in_ok-front.front.kit c.in_ok-front.front.go _ c.new-lines.result.ahead
    (ap (λ (t : Taken). t.ahead) c.new-lines.ensures) c.in_ok-front.ensures.found c.genesis_of-genesis.result c.genesis_of-genesis.ensures
    (c.in_ok-front.front.go + 1) c.new-chain.result refl c.new-chain.ensures in
    let at : Place = place c.in_ok-front.front.kit (c.in_ok-front.front.go + 1) c.new-chain.result c.read_front.new.lines.ahead in
    faulty_then chain_of (answer_at at) _ _ _ _ there _ _ c.in_ok-write_view.ensures.wrote _ (words_of fault) (c.answer_rest.ensures.refused fault e)
