use Rattle.std.proofs.Common.{◌≡◌, ◌==◌, ◌∙◌, List, ℕ, length, sym, ap, subst, rules}
use Rattle.text_defs.specs.Words.{words_of}
use Rattle.text_codec.proofs.Spelled.{spelled_once}
use Rattle.interop_runs.specs.Questions.{Each, IsWord, words_in}
use Rattle.interop_runs.proofs.Asked.{words_in-some}
use Rattle.interop_runs.proofs.fields.read_words.Goals as goal

pub returns-clause-none : goal.returns-clause-none
returns-clause-none c = λ e words is.
    let text = spelled_once c.args.word.now is.text c.in_ok-text.text.items is.spells c.in_ok-text.ensures.read in
    let empty : c.is_empty.result ≡ (length c.in_ok-text.text.items == 0) = search rules in
    let some = words_in-some c.is_empty.result c.in_ok-text.text.items empty c.if-is_empty.false in
    let said = ap words_in text ∙ some ∙ ap words_of (sym c.deref.ensures.value) in
    c.words_in.ensures.none e words (subst (λ (l : List (List ℕ)). Each IsWord l words) said is.each)
