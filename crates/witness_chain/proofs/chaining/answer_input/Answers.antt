use Rattle.std.proofs.Common.{◌≡◌, ◌+◌, ℕ, List, [], Ok, inl, inr, ap}
use Rattle.std.proofs.KnownBytes.{Appends-nil}
use Rattle.std.proofs.lemmas.Result.{err_from_is_err_and, on_ok_weaker, IfErr-weaker}
use Rattle.line_input.specs.Taking.{Taken}
use Rattle.chain_text_defs.specs.Chains.{Answer}
use Rattle.chain_words.specs.declared.stops.Stop.TheVariants.{Input}
use Rattle.chain_words.specs.Places.{Place, answer_at, place}
use Rattle.chain_words.specs.Stops.{of_front, words_of}
use Rattle.chain_words.proofs.Kits.{kit_leads, no_front}
use Rattle.chain_words.proofs.Runs.{answered_then, faulty_then, in_part_then, shown_then, some_of, stands_then}
use Rattle.proof_defs.specs.Starts.{started_chain_of, started_from}
use Rattle.witness_chain.specs.Starting.{starts_at}
use Rattle.witness_chain.proofs.Statuses.{in_part_before, opened, renumbered, some_before}
use Rattle.witness_chain.proofs.chaining.answer_input.Goals as goal

pub returns-in_err-front-clause-refused : goal.returns-in_err-front-clause-refused
returns-in_err-front-clause-refused g c = λ fault e.
    let p = err_from_is_err_and c.from_residual.result c.from_residual.ensures.1 in
    let same : of_front c.in_err-front.field-0.0 ≡ Input fault = cc (p.1, p.2, e) in
    no_front started_chain_of started_from opened _ _ _ c.new-lines.result.ahead c.in_err-front.field-0.0 fault
    (ap (λ (t : Taken). t.ahead) c.new-lines.ensures) same c.in_err-front.ensures.fault

pub returns-in_err-chain-clause-part : goal.returns-in_err-chain-clause-part
returns-in_err-chain-clause-part g c = λ e.
    let p = err_from_is_err_and c.from_residual-in_err-chain.result c.from_residual-in_err-chain.ensures.1 in
    let leads = renumbered _ _ c.in_ok-front.front.kit c.in_ok-front.front.go c.in_ok-first.first c.read_front.new.lines.ahead
    c.in_ok-first.ensures.next (kit_leads started_chain_of started_from opened _ _ c.in_ok-front.front.kit c.in_ok-front.front.go
    c.read_front.new.lines.ahead c.new-lines.result.ahead (ap (λ (t : Taken). t.ahead) c.new-lines.ensures) c.in_ok-front.ensures.found) in
    let starts : List ℕ → Answer = starts_at c.in_ok-front.front.kit c.in_ok-first.first c.read_front.new.lines.ahead in
    in_part_before started_chain_of starts _ _ _ leads _ _ (c.in_err-chain.ensures.part (cc (p.1, p.2, e)))

pub returns-in_err-chain-clause-some : goal.returns-in_err-chain-clause-some
returns-in_err-chain-clause-some g c =
    let p = err_from_is_err_and c.from_residual-in_err-chain.result c.from_residual-in_err-chain.ensures.1 in
    let leads = renumbered _ _ c.in_ok-front.front.kit c.in_ok-front.front.go c.in_ok-first.first c.read_front.new.lines.ahead
    c.in_ok-first.ensures.next (kit_leads started_chain_of started_from opened _ _ c.in_ok-front.front.kit c.in_ok-front.front.go
    c.read_front.new.lines.ahead c.new-lines.result.ahead (ap (λ (t : Taken). t.ahead) c.new-lines.ensures) c.in_ok-front.ensures.found) in
    let starts : List ℕ → Answer = starts_at c.in_ok-front.front.kit c.in_ok-first.first c.read_front.new.lines.ahead in
    rw p.1 (some_before started_chain_of starts _ _ _ leads _ _ _ _ (cc (p.1, p.2)) c.in_err-chain.ensures.some)

pub returns-in_err-chain-clause-refused : goal.returns-in_err-chain-clause-refused
returns-in_err-chain-clause-refused g c = λ fault e.
    let p = err_from_is_err_and c.from_residual-in_err-chain.result c.from_residual-in_err-chain.ensures.1 in
    let leads = renumbered _ _ c.in_ok-front.front.kit c.in_ok-front.front.go c.in_ok-first.first c.read_front.new.lines.ahead
    c.in_ok-first.ensures.next (kit_leads started_chain_of started_from opened _ _ c.in_ok-front.front.kit c.in_ok-front.front.go
    c.read_front.new.lines.ahead c.new-lines.result.ahead (ap (λ (t : Taken). t.ahead) c.new-lines.ensures) c.in_ok-front.ensures.found) in
    let starts : List ℕ → Answer = starts_at c.in_ok-front.front.kit c.in_ok-first.first c.read_front.new.lines.ahead in
    faulty_then started_chain_of starts _ _ _ [] leads _ _ (Appends-nil _) _ (words_of fault) (c.in_err-chain.ensures.refused fault (cc (p.1, p.2, e)))

pub returns-clause-done : goal.returns-clause-done
returns-clause-done g c =
    let leads = renumbered _ _ c.in_ok-front.front.kit c.in_ok-front.front.go c.in_ok-first.first c.read_front.new.lines.ahead
    c.in_ok-first.ensures.next (kit_leads started_chain_of started_from opened _ _ c.in_ok-front.front.kit c.in_ok-front.front.go
    c.read_front.new.lines.ahead c.new-lines.result.ahead (ap (λ (t : Taken). t.ahead) c.new-lines.ensures) c.in_ok-front.ensures.found) in
    let starts : List ℕ → Answer = starts_at c.in_ok-front.front.kit c.in_ok-first.first c.read_front.new.lines.ahead in
    answered_then started_chain_of starts _ _ _ [] leads _ _ (Appends-nil _) _ (c.in_ok-chain.ensures.ended (ap (λ o. Ok o) c.in-None.is))

pub returns-in-Some-clause-done : goal.returns-in-Some-clause-done
returns-in-Some-clause-done g c =
    let leads = renumbered _ _ c.in_ok-front.front.kit c.in_ok-front.front.go c.in_ok-first.first c.read_front.new.lines.ahead
    c.in_ok-first.ensures.next (kit_leads started_chain_of started_from opened _ _ c.in_ok-front.front.kit c.in_ok-front.front.go
    c.read_front.new.lines.ahead c.new-lines.result.ahead (ap (λ (t : Taken). t.ahead) c.new-lines.ensures) c.in_ok-front.ensures.found) in
    let starts : List ℕ → Answer = starts_at c.in_ok-front.front.kit c.in_ok-first.first c.read_front.new.lines.ahead in
    let b = rw c.in-Some.is at c.in_ok-chain.ensures.begun in
    let at : Place = place c.in_ok-front.front.kit (c.in_ok-first.first + 1) c.in-Some.chain c.begin.new.lines.ahead in
    let there = stands_then started_chain_of starts _ _ _ [] leads b.lines at b.stands in
    on_ok_weaker c.answer_rest.result (λ done. answered_then started_chain_of (answer_at at) _ _ _ b.lines there _ _ b.wrote _ done)
    c.answer_rest.ensures.done

pub returns-in-Some-clause-part : goal.returns-in-Some-clause-part
returns-in-Some-clause-part g c = λ e.
    let leads = renumbered _ _ c.in_ok-front.front.kit c.in_ok-front.front.go c.in_ok-first.first c.read_front.new.lines.ahead
    c.in_ok-first.ensures.next (kit_leads started_chain_of started_from opened _ _ c.in_ok-front.front.kit c.in_ok-front.front.go
    c.read_front.new.lines.ahead c.new-lines.result.ahead (ap (λ (t : Taken). t.ahead) c.new-lines.ensures) c.in_ok-front.ensures.found) in
    let starts : List ℕ → Answer = starts_at c.in_ok-front.front.kit c.in_ok-first.first c.read_front.new.lines.ahead in
    let b = rw c.in-Some.is at c.in_ok-chain.ensures.begun in
    let at : Place = place c.in_ok-front.front.kit (c.in_ok-first.first + 1) c.in-Some.chain c.begin.new.lines.ahead in
    let there = stands_then started_chain_of starts _ _ _ [] leads b.lines at b.stands in
    inl (in_part_then started_chain_of (answer_at at) _ _ _ b.lines there _ _ b.wrote _ (c.answer_rest.ensures.part e))

pub returns-in-Some-clause-some : goal.returns-in-Some-clause-some
returns-in-Some-clause-some g c =
    let leads = renumbered _ _ c.in_ok-front.front.kit c.in_ok-front.front.go c.in_ok-first.first c.read_front.new.lines.ahead
    c.in_ok-first.ensures.next (kit_leads started_chain_of started_from opened _ _ c.in_ok-front.front.kit c.in_ok-front.front.go
    c.read_front.new.lines.ahead c.new-lines.result.ahead (ap (λ (t : Taken). t.ahead) c.new-lines.ensures) c.in_ok-front.ensures.found) in
    let starts : List ℕ → Answer = starts_at c.in_ok-front.front.kit c.in_ok-first.first c.read_front.new.lines.ahead in
    let b = rw c.in-Some.is at c.in_ok-chain.ensures.begun in
    let at : Place = place c.in_ok-front.front.kit (c.in_ok-first.first + 1) c.in-Some.chain c.begin.new.lines.ahead in
    let there = stands_then started_chain_of starts _ _ _ [] leads b.lines at b.stands in
    IfErr-weaker c.answer_rest.result _ _ (λ stop either. elim either [
      | inl write ↦ inl write
      | inr shown ↦ inr (inr (some_of started_chain_of _ _ _ _ (shown_then started_chain_of (answer_at at) _ _ _ b.lines there _ _ b.wrote _ shown)))
    ]) c.answer_rest.ensures.some

pub returns-in-Some-clause-refused : goal.returns-in-Some-clause-refused
returns-in-Some-clause-refused g c = λ fault e.
    let leads = renumbered _ _ c.in_ok-front.front.kit c.in_ok-front.front.go c.in_ok-first.first c.read_front.new.lines.ahead
    c.in_ok-first.ensures.next (kit_leads started_chain_of started_from opened _ _ c.in_ok-front.front.kit c.in_ok-front.front.go
    c.read_front.new.lines.ahead c.new-lines.result.ahead (ap (λ (t : Taken). t.ahead) c.new-lines.ensures) c.in_ok-front.ensures.found) in
    let starts : List ℕ → Answer = starts_at c.in_ok-front.front.kit c.in_ok-first.first c.read_front.new.lines.ahead in
    let b = rw c.in-Some.is at c.in_ok-chain.ensures.begun in
    let at : Place = place c.in_ok-front.front.kit (c.in_ok-first.first + 1) c.in-Some.chain c.begin.new.lines.ahead in
    let there = stands_then started_chain_of starts _ _ _ [] leads b.lines at b.stands in
    faulty_then started_chain_of (answer_at at) _ _ _ b.lines there _ _ b.wrote _ (words_of fault) (c.answer_rest.ensures.refused fault e)
