-- A line that is taken passes each test.
use Rattle.std.proofs.Common.{◌≡◌, ℕ, false, ◌||◌, List, [], ◌∷◌, ◌++◌, length, nat_lt, ok_or, Option, Some, None, Ok, subst}
use Rattle.std.proofs.lemmas.Bool.{or_parts}
use Rattle.byte_defs.proofs.Fields.{bind_ok, refuse_ok}
use Rattle.text_defs.specs.Words.{words_of}
use Rattle.kit_defs.specs.Kits.{KitLine, line_words}
use Rattle.kit_defs.specs.KitReading.{Draft, Line, Missing, Repeated, is_early, is_late, is_of_strangers, is_outside, is_repeated, line_by, may_of, most_line_bytes, take_line, with_line}
use Rattle.kit_defs.proofs.Fresh.{IsFresh, fresh_found}
use Rattle.kit_defs.proofs.LineShapes.{IsLine}
use Rattle.kit_defs.proofs.LineFound.{line_found}
use Rattle.kit_defs.proofs.Stages.{IsStage, Stage, draft_of, stage_lines}

-- the line may be taken in, and gives this draft
pub record IsTaken (n : ℕ) (d : Draft) (said : KitLine) (e : Draft) : Type 0 where
  pub ranges : IsLine (may_of d) said
  pub new : IsFresh d (line_words said)
  pub inside : is_outside d said ≡ false
  pub in_time : is_late d said ≡ false
  pub due : is_early d said ≡ false
  pub of_roster : is_of_strangers d said ≡ false
  pub taken : with_line n d said ≡ Ok e

-- the stage behind a line
pub record Next (s : Stage) (said : KitLine) (e : Draft) : Type 0 where
  pub stage : Stage
  pub draft : draft_of stage ≡ e
  pub holds : IsStage stage
  pub lines : stage_lines stage ≡ stage_lines s ++ said ∷ []

value_ok : {A E : Type 0} (o : Option A) (fault : E) (x : A) → ok_or o fault ≡ Ok x → o ≡ Some x
value_ok None fault x e = absurd cc
value_ok (Some a) fault x e = cc

pub taken_of : (n : ℕ) (d : Draft) (line : List ℕ) (e : Draft) → take_line n d line ≡ Ok e
    → (said : KitLine) × (words_of line ≡ line_words said) × IsTaken n d said e
unfolding take_line
taken_of n d line e t =
    let fits = refuse_ok (nat_lt most_line_bytes (length line)) (Line n) _ e t in
    let new = refuse_ok (is_repeated d (words_of line)) (Repeated n) _ e fits.1 in
    let read = bind_ok (ok_or (line_by (may_of d) (words_of line)) (Line n)) _ e new.1 in
    let said : KitLine = read.0 in
    let is : line_by (may_of d) (words_of line) ≡ Some said = value_ok _ (Line n) said read.1 in
    let found = line_found (may_of d) (words_of line) said is in
    let placed = refuse_ok (is_outside d said || is_late d said) (Line n) _ e read.2 in
    let both = or_parts (is_outside d said) (is_late d said) placed.0 in
    let due = refuse_ok (is_early d said) (Missing n) _ e placed.1 in
    let roster = refuse_ok (is_of_strangers d said) (Line n) _ e due.1 in (
      said,
      found.0,
      record {
        ranges = found.1;
        new = subst (IsFresh d) found.0 (fresh_found d (words_of line) new.0);
        inside = both.0;
        in_time = both.1;
        due = due.0;
        of_roster = roster.0;
        taken = roster.1;
      },
    )
