-- What a line adds has its room.
use Rattle.std.proofs.Common.{◌≡◌, ℕ, ◌<◌, ◌==◌, Bool, true, false, List, [], ◌∷◌, length, Result, Ok, Err, refl, sym, ap, subst, ◌∙◌, arith}
use Rattle.std.specs.Prelude.{if◌then◌else◌, nat_le, codes}
use Rattle.std.specs.Option.{ok_or}
use Rattle.byte_defs.specs.Equality.{same_bytes}
use Rattle.byte_defs.specs.Fields.{◌>>=◌}
use Rattle.byte_defs.proofs.Fields.{bind_ok, ok_is}
use Rattle.text_defs.specs.Words.{words_of}
use Rattle.story_defs.specs.declared.Expected.{Expected}
use Rattle.story_defs.specs.declared.Expected.TheVariants as expected
use Rattle.story_defs.specs.declared.Stage.{Stage}
use Rattle.story_defs.specs.declared.Stage.TheVariants.{Opening, Listing, Running}
use Rattle.story_defs.specs.PlainLines.{plain_line}
use Rattle.story_defs.specs.Words.{Words, next_at}
use Rattle.story_defs.specs.Lines.{group_at, listed_at, genesis_at, kind_of_word, event_by}
use Rattle.story_defs.specs.Stories.{Draft, Addition, Nothing, Group, Process, Genesis, Event, CanAdd, wanted, listed_by, genesis_by, event_of_word, listing_of_word, said_by_word, said_by_plain, said_by}

abbrev Answer : Type 0
Answer = Result Addition Expected

abbrev Gives : Answer → Addition → Type 0
Gives r a = r ≡ Ok a

by_test : (P : Type 0) (b : Bool) (r q : Answer) (a : Addition) → (if b then r else q) ≡ Ok a → (b ≡ true → r ≡ Ok a → P)
    → (b ≡ false → q ≡ Ok a → P) → P
by_test P true r q a e f g = f refl e
by_test P false r q a e f g = g refl e

module _ (d : Draft) (a : Addition) where
  is_added : (made : Addition) → CanAdd d made → Gives (Ok made) a → CanAdd d a
  is_added made can e = subst (CanAdd d) (ok_is made a e) can

  no_addition : (x : Expected) → Gives (Err x) a → CanAdd d a
  no_addition x e = absurd cc

  listed_can : (words : Words) → listed_by d words ≡ Ok a → CanAdd d a
  listed_can words e = by_test (CanAdd d a) (nat_le 64 d.count) _ _ a e
      (λ full bad. no_addition expected.Genesis bad)
      (λ room read. let bytes = bind_ok (listed_at d.scheme words) _ a read in is_added (Process bytes.0) (grind (arith, room)) bytes.2)

  genesis_can : (words : Words) → genesis_by d words ≡ Ok a → CanAdd d a
  genesis_can words e = by_test (CanAdd d a) (d.count == 0) _ _ a e
      (λ none bad. no_addition expected.Process bad)
      (λ some read. let bytes = bind_ok (genesis_at words) _ a read in is_added (Genesis bytes.0) tt bytes.2)

  word_can : (word : List ℕ) (words : Words) (stage : Stage) → said_by_word d word words stage ≡ Ok a → CanAdd d a
  word_can word words Opening e = by_test (CanAdd d a) (same_bytes word (codes "group")) _ _ a e
      (λ is read. let group = bind_ok (group_at words) _ a read in is_added (Group group.0.0 group.0.1) tt group.2)
      (λ other bad. no_addition expected.Group bad)
  word_can word words Listing e = by_test (CanAdd d a) (same_bytes word (codes "process")) _ _ a e
      (λ is read. listed_can words read)
      (λ other more. by_test (CanAdd d a) (same_bytes word (codes "genesis")) _ _ a more (λ is read. genesis_can words read)
      (λ none bad. no_addition expected.Genesis bad))
  word_can word words Running e =
      let kind = bind_ok (ok_or (kind_of_word word) expected.Event) _ a e in
      let bytes = bind_ok (event_by kind.0 words) _ a kind.2 in
      is_added (Event kind.0 bytes.0) tt bytes.2

  plain_can : (line : List ℕ) → said_by_plain d line ≡ Ok a → CanAdd d a
  unfolding said_by_plain
  plain_can line e = by_test (CanAdd d a) (length line == 0) _ _ a e
      (λ blank read. is_added Nothing tt read)
      (λ some read. let next = bind_ok (next_at (wanted d.stage) (words_of line)) _ a read in word_can next.0.0 next.0.1 d.stage next.2)

  pub can_add : (line : List ℕ) → said_by d line ≡ Ok a → CanAdd d a
  unfolding said_by
  can_add line e = let reported = bind_ok (plain_line line) _ a e in plain_can reported.0 reported.2
