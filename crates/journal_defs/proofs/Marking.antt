-- A journal that is read on from a mark.
use Rattle.std.proofs.Common.{◌≡◌, ℕ, ◌+◌, ◌<◌, ◌≤◌, List, ◌++◌, length, take, drop, sym, ap, ◌∙◌, arith, length-drop}
use Rattle.std.proofs.lemmas.List.{take_at, take-append-drop}
use Rattle.journal_defs.specs.Journals.{up_to_gate, MarkedAgain}

pub marked_again : MarkedAgain
marked_again head marked bytes es place stands same goes_on =
    let front : take place bytes ≡ up_to_gate head es = same ∙ ap (take place) stands.parts
    ∙ take_at (up_to_gate head es) stands.rest place (sym stands.where_it_is) in
    record {
      rest = drop place bytes;
      parts = sym (take-append-drop place bytes) ∙ ap (λ (l : List ℕ). l ++ drop place bytes) front;
      goes_on = omega (arith, goes_on, length-drop place bytes);
      where_it_is = stands.where_it_is;
      each = stands.each;
    }
