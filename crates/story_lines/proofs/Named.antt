-- Processes that are named one after another.
use Rattle.std.proofs.Common.{◌≡◌, ℕ, List, [], ◌∷◌, Option, Some, None, refl, sym, ap, ◌∙◌}
use Rattle.std.specs.Prelude.{MatchOption}
use Rattle.rp_base.specs.Pids.{put_once}
use Rattle.text_defs.specs.Words.{process_of}
use Rattle.story_defs.specs.Words.{Words, named}

abbrev pub Named : Type 0
Named = List ℕ × Words

-- the words begin with one that names this process, or no process
abbrev Begins : Option ℕ → Words → Words → Type 0
Begins None words words' = (set : List ℕ) → named set words ≡ (set, words')
Begins (Some p) words words' = (set : List ℕ) → named set words ≡ named (put_once p set) words'

-- the processes that are named, by what the first word says
abbrev by_first : List ℕ → List ℕ → Words → Option ℕ → Named
by_first set word more o = elim o [ None ↦ (set, word ∷ more) | Some p ↦ named (put_once p set) more ]

first_is : (set word : List ℕ) (more words : Words) (o : Option ℕ) → words ≡ word ∷ more → process_of word ≡ o
    → named set words ≡ by_first set word more o
unfolding named
first_is set word more words o is says = ap (named set) is ∙ ap (by_first set word more) says

abbrev with_words : List ℕ → Words → Named
with_words set words = (set, words)

module _ (words : Words) (r : Option ℕ) where
  abbrev pub Reported : Words → Type 0
  Reported words' = MatchOption r ((set : List ℕ) → named set words ≡ (set, words'))
      (λ p. (set : List ℕ) → named set words ≡ named (put_once p set) words')

reported_none : (words words' : Words) (r : Option ℕ) → r ≡ None → ((set : List ℕ) → named set words ≡ (set, words')) → Reported words r words'
reported_none words words' None e h = h
reported_none words words' (Some p) e h = absurd cc

pub none_left : (words : Words) (r : Option ℕ) → r ≡ None → words ≡ [] → Reported words r words
unfolding named
none_left words r e is = reported_none words words r e (λ set. ap (named set) is ∙ ap (with_words set) (sym is))

pub none_named : (words : Words) (word : List ℕ) (more : Words) (r : Option ℕ) → r ≡ None → words ≡ word ∷ more → process_of word ≡ None
    → Reported words r words
none_named words word more r e is says = reported_none words words r e
    (λ set. first_is set word more words None is says ∙ ap (with_words set) (sym is))

pub one_named : (words : Words) (word : List ℕ) (more : Words) (p : ℕ) → words ≡ word ∷ more → process_of word ≡ Some p → (set : List ℕ)
    → named set words ≡ named (put_once p set) more
one_named words word more p is says set = first_is set word more words (Some p) is says
