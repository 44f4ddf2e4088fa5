-- Whom a line of the script asks.
use Rattle.std.proofs.Common.{◌≡◌, ◌⊎◌, inl, inr, ℕ, ◌≤◌, Bool, true, false, List, [], ◌∷◌, length, Option, Some, None, refl, sym, ap, subst, ◌∙◌}
use Rattle.std.specs.Prelude.{if◌then◌else◌, nat_le, option_map, codes, IsTrue}
use Rattle.std.specs.Str.{is_utf8}
use Rattle.byte_defs.specs.Choices.{first_that_holds}
use Rattle.byte_defs.specs.Equality.{same_bytes}
use Rattle.byte_defs.specs.Members.{has}
use Rattle.text_defs.specs.Words.{words_of, number_within, process_of}
use Rattle.text_defs.proofs.Choosing.{if_some, map_some, or_some, then_some}
use Rattle.text_defs.proofs.Numbers.{number_within_found}
use Rattle.journal_defs.specs.Entries.{Submit, Suspect, Join, Renew, Tick}
use Rattle.node_defs.specs.Scripts.{Line, Of, Snap, Said, Hand, Receive, Other, payload_of, said_by, other_said, said_or_other, line_if_hosted, line_of_words, line_said, most_own_bytes}
use Rattle.script_laws.specs.Script.{AsksHosted, LinesAskHosted}

abbrev IsSome-receive : ℕ → Type 0
IsSome-receive most = (1 ≤ most) × (most ≤ 1000)

-- ---- a word alone asks for no datagrams, and of two words only `recv` does

of-one : (renew tick : Bool) (most : ℕ) → first_that_holds ((renew, Hand Renew) ∷ (tick, Hand Tick) ∷ []) ≡ Some (Receive most)
    → IsSome-receive most
of-one true tick most e = absurd cc
of-one false true most e = absurd cc
of-one false false most e = absurd cc

of-two : (submit suspect join recv : Bool) (arg : List ℕ) (most : ℕ)
    → (if submit then option_map (λ payload. Hand (Submit payload)) (payload_of arg)
    else if suspect then option_map (λ q. Hand (Suspect q)) (process_of arg)
    else if join then option_map (λ q. Hand (Join q)) (process_of arg)
    else if recv then option_map Receive (number_within 1 1000 arg)
    else None) ≡ Some (Receive most) → IsSome-receive most
of-two true suspect join recv arg most e =
    let found = map_some (λ payload. Hand (Submit payload)) (payload_of arg) (Receive most) e in
    let other : Hand (Submit found.0) ≡ Receive most = found.2 in
    absurd cc
of-two false true join recv arg most e =
    let found = map_some (λ q. Hand (Suspect q)) (process_of arg) (Receive most) e in
    let other : Hand (Suspect found.0) ≡ Receive most = found.2 in
    absurd cc
of-two false false true recv arg most e =
    let found = map_some (λ q. Hand (Join q)) (process_of arg) (Receive most) e in
    let other : Hand (Join found.0) ≡ Receive most = found.2 in
    absurd cc
of-two false false false true arg most e =
    let found = map_some Receive (number_within 1 1000 arg) (Receive most) e in
    let same : found.0 ≡ most = cc found.2 in
    let within = number_within_found 1 1000 arg found.0 found.1 in
    subst IsSome-receive same (within.1, within.2)
of-two false false false false arg most e = absurd cc

in-own-words : (words : List (List ℕ)) (most : ℕ) → said_by words ≡ Some (Receive most) → IsSome-receive most
unfolding said_by
in-own-words [] most e = absurd cc
in-own-words (word ∷ []) most e = of-one (same_bytes word (codes "renew")) (same_bytes word (codes "tick")) most e
in-own-words (word ∷ arg ∷ []) most e =
    of-two (same_bytes word (codes "submit")) (same_bytes word (codes "suspect")) (same_bytes word (codes "join")) (same_bytes word (codes "recv"))
    arg most e
in-own-words (word ∷ arg ∷ more ∷ words) most e = absurd cc

-- ---- nor are they for the service

one-not-other : (renew tick : Bool) → first_that_holds ((renew, Hand Renew) ∷ (tick, Hand Tick) ∷ []) ≡ Some Other → ⊥
one-not-other true tick e = cc
one-not-other false true e = cc
one-not-other false false e = cc

two-not-other : (submit suspect join recv : Bool) (arg : List ℕ)
    → (if submit then option_map (λ payload. Hand (Submit payload)) (payload_of arg)
    else if suspect then option_map (λ q. Hand (Suspect q)) (process_of arg)
    else if join then option_map (λ q. Hand (Join q)) (process_of arg)
    else if recv then option_map Receive (number_within 1 1000 arg)
    else None) ≡ Some Other → ⊥
two-not-other true suspect join recv arg e =
    let found = map_some (λ payload. Hand (Submit payload)) (payload_of arg) Other e in
    let other : Hand (Submit found.0) ≡ Other = found.2 in
    cc
two-not-other false true join recv arg e =
    let found = map_some (λ q. Hand (Suspect q)) (process_of arg) Other e in
    let other : Hand (Suspect found.0) ≡ Other = found.2 in
    cc
two-not-other false false true recv arg e =
    let found = map_some (λ q. Hand (Join q)) (process_of arg) Other e in
    let other : Hand (Join found.0) ≡ Other = found.2 in
    cc
two-not-other false false false true arg e =
    let found = map_some Receive (number_within 1 1000 arg) Other e in
    let other : Receive found.0 ≡ Other = found.2 in
    cc
two-not-other false false false false arg e = cc

own-not-other : (words : List (List ℕ)) → said_by words ≡ Some Other → ⊥
unfolding said_by
own-not-other [] e = cc
own-not-other (word ∷ []) e = one-not-other (same_bytes word (codes "renew")) (same_bytes word (codes "tick")) e
own-not-other (word ∷ arg ∷ []) e =
    two-not-other (same_bytes word (codes "submit")) (same_bytes word (codes "suspect")) (same_bytes word (codes "join"))
    (same_bytes word (codes "recv")) arg e
own-not-other (word ∷ arg ∷ more ∷ words) e = cc

-- ---- and the service's lines do not, and are text

not-for-the-service : (line : List ℕ) (most : ℕ) → other_said line ≡ Some (Receive most) → IsSome-receive most
not-for-the-service line most e =
    let found = if_some (is_utf8 line) (Some Other) (Receive most) e in
    let other : Some Other ≡ Some (Receive most) = found.1 in
    absurd cc

some-datagrams : (line : List ℕ) (words : List (List ℕ)) (most : ℕ) → said_or_other line words ≡ Some (Receive most) → IsSome-receive most
some-datagrams line words most e =
    elim (or_some (if nat_le (length line) most_own_bytes then said_by words else None) (other_said line) (Receive most) e) [
      | inl own ↦ in-own-words words most (if_some (nat_le (length line) most_own_bytes) (said_by words) (Receive most) own).1
      | inr other ↦ not-for-the-service line most other
    ]

is-text : (line : List ℕ) (words : List (List ℕ)) → said_or_other line words ≡ Some Other → IsTrue (is_utf8 line)
is-text line words e =
    elim (or_some (if nat_le (length line) most_own_bytes then said_by words else None) (other_said line) Other e) [
      | inl own ↦ absurd (own-not-other words (if_some (nat_le (length line) most_own_bytes) (said_by words) Other own).1)
      | inr other ↦ (if_some (is_utf8 line) (Some Other) Other other).0
    ]

-- ---- the law

asked-of : (hosted line : List ℕ) (words : List (List ℕ)) (q p : ℕ) (said : Said) → line_if_hosted hosted line words q ≡ Some (Of p said)
    → AsksHosted hosted line p said
asked-of hosted line words q p said e =
    let here = if_some (has hosted q) (option_map (Of q) (said_or_other line words)) (Of p said) e in
    let found = map_some (Of q) (said_or_other line words) (Of p said) here.1 in
    let who : q ≡ p = cc found.2 in
    let what : found.0 ≡ said = cc found.2 in
    record {
      is_hosted = subst (λ (r : ℕ). IsTrue (has hosted r)) who here.0;
      some = λ most is. some-datagrams line words most (found.1 ∙ ap (λ (s : Said). Some s) (what ∙ is));
      text = λ is. is-text line words (found.1 ∙ ap (λ (s : Said). Some s) (what ∙ is));
    }

by-words : (hosted line : List ℕ) (words : List (List ℕ)) (p : ℕ) (said : Said) → line_of_words hosted line words ≡ Some (Of p said)
    → AsksHosted hosted line p said
by-words hosted line [] p said e = absurd cc
by-words hosted line (first ∷ words) p said e =
    let found = then_some (line_if_hosted hosted line words) (process_of first) (Of p said) e in
    asked-of hosted line words found.0 p said found.2

pub lines_ask_hosted : LinesAskHosted
unfolding line_said
lines_ask_hosted hosted line p said e = of (same_bytes line (codes "snap")) e
  where
    of : (snap : Bool) → (if snap then Some Snap else line_of_words hosted line (words_of line)) ≡ Some (Of p said)
        → AsksHosted hosted line p said
    of true e = absurd cc
    of false e = by-words hosted line (words_of line) p said e
