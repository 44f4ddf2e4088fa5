-- Lines that are taken in one after another.
use Rattle.std.proofs.Common.{◌≡◌, ℕ, ◌+◌, nat_lt, ◌||◌, Bool, false, List, [], ◌∷◌, ◌++◌, length, map, ok_or, Option, Some, Result, Ok, refl, sym, ap, subst, ◌∙◌}
use Rattle.std.specs.List.{list_any}
use Rattle.std.proofs.lemmas.Bool.{or_from}
use Rattle.byte_defs.specs.Fields.{◌>>=◌, refuse_if}
use Rattle.text_defs.specs.Words.{line_feed, parts_of, words_of}
use Rattle.kit_defs.specs.Kits.{Kit, KitLine, line_words, text_of_lines}
use Rattle.kit_defs.specs.KitReading.{Draft, Line, Missing, Repeated, finish, is_early, is_late, is_of_strangers, is_outside, is_repeated, line_by, lines_at, may_of, most_line_bytes, take_line}
use Rattle.kit_defs.proofs.Fresh.{fresh}
use Rattle.kit_defs.proofs.LineTexts.{line_fits, line_of, line_words_of, no_line_feed}
use Rattle.text_defs.proofs.Lines.{has_byte, lines_text, parts_of_lines}
use Rattle.kit_defs.proofs.Taken.{IsTaken}

-- a test that does not refuse, and a value that is there
pub passes : {A E : Type 0} (b : Bool) (fault : E) (f : Unit {0} → Result A E) → b ≡ false → (refuse_if b fault >>= f) ≡ f tt
passes b fault f e = ap (λ t. refuse_if t fault >>= f) e

has_value : {A B E : Type 0} (o : Option A) (fault : E) (a : A) (f : A → Result B E) → o ≡ Some a → (ok_or o fault >>= f) ≡ f a
has_value o fault a f e = ap (λ v. ok_or v fault >>= f) e

-- the line is in its ranges and is taken in at this draft, whatever its number
pub record Goes (d : Draft) (said : KitLine) (e : Draft) : Type 0 where
  pub read : line_by (may_of d) (line_words said) ≡ Some said
  pub taken : (n : ℕ) → IsTaken n d said e

pub goes_on : (n : ℕ) (d : Draft) (said : KitLine) (e : Draft) → Goes d said e → take_line n d (line_of said) ≡ Ok e
unfolding take_line
goes_on n d said e g =
    let t = g.taken n in
    let words : words_of (line_of said) ≡ line_words said = line_words_of (may_of d) said t.ranges in
    let line = line_of said in
    passes (nat_lt most_line_bytes (length line)) (Line n) _ (line_fits (may_of d) said t.ranges)
    ∙ passes (is_repeated d (words_of line)) (Repeated n) _ (ap (is_repeated d) words ∙ fresh d (line_words said) t.new)
    ∙ has_value (line_by (may_of d) (words_of line)) (Line n) said _ (ap (line_by (may_of d)) words ∙ g.read)
    ∙ passes (is_outside d said || is_late d said) (Line n) _ (or_from (is_outside d said) (is_late d said) t.inside t.in_time)
    ∙ passes (is_early d said) (Missing n) _ t.due
    ∙ passes (is_of_strangers d said) (Line n) _ t.of_roster
    ∙ t.taken

-- ---- lines

abbrev pub Run : Draft → List KitLine → Draft → Type 0
Run d [] e = d ≡ e
Run d (said ∷ lines) e = (f : Draft) × Goes d said f × Run f lines e

pub run_append : (d e f : Draft) (lines more : List KitLine) → Run d lines e → Run e more f → Run d (lines ++ more) f
run_append d e f [] more first second = subst (λ g. Run g more f) (sym first) second
run_append d e f (said ∷ lines) more first second = (first.0, first.1, run_append first.0 e f lines more first.2 second)

-- the end of a text, behind its lines
lines_more : (n : ℕ) (d e : Draft) (line : List ℕ) (lines : List (List ℕ)) → take_line n d line ≡ Ok e
    → lines_at n d (line ∷ (lines ++ [] ∷ [])) ≡ lines_at (n + 1) e (lines ++ [] ∷ [])
unfolding lines_at
lines_more n d e line [] taken = ap (λ r. r >>= λ f. lines_at (n + 1) f ([] ∷ [])) taken
lines_more n d e line (next ∷ lines) taken = ap (λ r. r >>= λ f. lines_at (n + 1) f (next ∷ (lines ++ [] ∷ []))) taken

pub run_reads : (n : ℕ) (d e : Draft) (lines : List KitLine) (kit : Kit) → Run d lines e → ((m : ℕ) → finish m e ≡ Ok kit)
    → lines_at n d (map line_of lines ++ [] ∷ []) ≡ Ok kit
unfolding lines_at
run_reads n d e [] kit run ends = ap (finish n) run ∙ ends n
run_reads n d e (said ∷ lines) kit run ends =
    lines_more n d run.0 (line_of said) (map line_of lines) (goes_on n d said run.0 run.1) ∙ run_reads (n + 1) run.0 e lines kit run.2 ends

-- ---- the text of lines

text_is : (lines : List KitLine) → text_of_lines lines ≡ lines_text (map line_of lines)
text_is [] = refl
text_is (said ∷ lines) = ap (λ t. (line_of said ++ line_feed ∷ []) ++ t) (text_is lines)

feeds : (d e : Draft) (lines : List KitLine) → Run d lines e → list_any (has_byte line_feed) (map line_of lines) ≡ false
feeds d e [] run = refl
feeds d e (said ∷ lines) run = or_from (has_byte line_feed (line_of said)) (list_any (has_byte line_feed) (map line_of lines))
    (no_line_feed (may_of d) said (run.1.taken 0).ranges) (feeds run.0 e lines run.2)

pub parts_spelled : (d e : Draft) (lines : List KitLine) → Run d lines e → parts_of (text_of_lines lines) ≡ map line_of lines ++ [] ∷ []
parts_spelled d e lines run = ap parts_of (text_is lines) ∙ parts_of_lines (map line_of lines) (feeds d e lines run)
