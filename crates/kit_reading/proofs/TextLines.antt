-- The lines of a text, taken one after another.
use Rattle.std.proofs.Common.{◌≡◌, ℕ, ◌+◌, ◌≤◌, ◌==◌, true, false, true≢false, List, [], ◌∷◌, length, Result, Ok, Err, refl, sym, ap, subst, ◌∙◌, arith}
use Rattle.std.proofs.lemmas.Bool.{eqb-true}
use Rattle.std.proofs.lemmas.List.Sums.{count_by-le-length}
use Rattle.std.proofs.lemmas.List.Splits.{length-slice_split}
use Rattle.byte_defs.specs.Fields.{◌>>=◌}
use Rattle.byte_defs.specs.Reads.{Fails, Makes}
use Rattle.sig_scheme.specs.Keys.{key_bytes}
use Rattle.text_defs.specs.Words.{parts_of, line_feed}
use Rattle.kit_defs.specs.Kits.{Kit}
use Rattle.kit_defs.specs.KitReading as plain
use Rattle.kit_defs.specs.KitReading.{Draft, finish, kit_of, lines_at, take_line}
use Rattle.kit_reading.specs.declared.faults.KitFault.{KitFault}
use Rattle.kit_reading.specs.declared.faults.KitFault.TheVariants as faults
use Rattle.kit_reading.specs.Faults.{fault_of}

abbrev pub Answer : Type 0
Answer = Result Kit plain.KitFault

-- there are at most as many parts as bytes, and one more
pub parts_most : (bytes : List ℕ) → length (parts_of bytes) ≤ length bytes + 1
parts_most bytes = omega (arith, length-slice_split (λ c. c == line_feed) bytes, count_by-le-length (λ c. c == line_feed) bytes)

-- the next part is the last one
module _ (n : ℕ) (d : Draft) (line : List ℕ) where
  last_line : (more : List (List ℕ)) → (length more == 0) ≡ true → length line ≡ 0 → lines_at n d (line ∷ more) ≡ finish n d
  unfolding lines_at
  last_line [] done empty = rw empty refl
  last_line (next ∷ more) done empty = absurd (omega (arith, eqb-true _ _ done))

  bad_end : (more : List (List ℕ)) → (length more == 0) ≡ true → (length line == 0) ≡ false
      → lines_at n d (line ∷ more) ≡ Err (plain.Line n)
  unfolding lines_at
  bad_end [] done some = rw some refl
  bad_end (next ∷ more) done some = absurd (omega (arith, eqb-true _ _ done))

  one_line : (more : List (List ℕ)) → (length more == 0) ≡ false
      → lines_at n d (line ∷ more) ≡ (take_line n d line >>= λ taken. lines_at (n + 1) taken more)
  unfolding lines_at
  one_line [] going = absurd (true≢false going)
  one_line (next ∷ more) going = refl

module _ (n : ℕ) (d : Draft) (line : List ℕ) (left more : List (List ℕ)) (all : Answer) (parts : left ≡ line ∷ more)
    (so_far : lines_at n d left ≡ all) where
  from_here : lines_at n d (line ∷ more) ≡ all
  from_here = sym (ap (lines_at n d) parts) ∙ so_far

  pub is_whole : (length more == 0) ≡ true → length line ≡ 0 → finish n d ≡ all
  is_whole done empty = sym (last_line n d line more done empty) ∙ from_here

  pub has_more : (length more == 0) ≡ true → (length line == 0) ≡ false → all ≡ Err (plain.Line n)
  has_more done some = sym from_here ∙ bad_end n d line more done some

  pub goes_on : (length more == 0) ≡ false → (taken : Draft) → take_line n d line ≡ Ok taken → lines_at (n + 1) taken more ≡ all
  goes_on going taken is = sym (one_line n d line more going ∙ ap (λ r. r >>= λ t. lines_at (n + 1) t more) is) ∙ from_here

  failed : (length more == 0) ≡ false → (f : plain.KitFault) → take_line n d line ≡ Err f → all ≡ Err f
  failed going f is = sym from_here ∙ one_line n d line more going ∙ ap (λ r. r >>= λ t. lines_at (n + 1) t more) is

  pub fails : (length more == 0) ≡ false → (e : KitFault) → Fails fault_of e (take_line n d line) → Fails fault_of e all
  fails going faults.NoMemory bad = tt
  fails going (faults.Line l) bad = failed going (plain.Line l) bad
  fails going (faults.Repeated l) bad = failed going (plain.Repeated l) bad
  fails going (faults.Missing l) bad = failed going (plain.Missing l) bad
  fails going (faults.KeyMismatch l made listed) bad = failed going (plain.KeyMismatch l (key_bytes made) (key_bytes listed)) bad

pub no_part : (n : ℕ) (d : Draft) (left : List (List ℕ)) (all : Answer) → left ≡ [] → lines_at n d left ≡ all → all ≡ Err (plain.Line n)
unfolding lines_at
no_part n d left all none so_far = sym so_far ∙ ap (lines_at n d) none

-- what is made of the last part is what is made of all
pub made_of_all : {X : Type 0} (view : X → Kit) (r : Result X KitFault) (last all : Answer) → last ≡ all → Makes fault_of view r last
    → Makes fault_of view r all
made_of_all view r last all same made = subst (Makes fault_of view r) same made

pub begun : (bytes : List ℕ) (d : Draft) (left : List (List ℕ)) → d ≡ plain.nothing → left ≡ parts_of bytes
    → lines_at 1 d left ≡ plain.kit_of bytes
unfolding kit_of
begun bytes d left none parts = ap (λ (e : Draft). lines_at 1 e left) none ∙ ap (lines_at 1 plain.nothing) parts
