-- Files that begin with a header, on a disk that may not tell its bytes.
use Rattle.std.proofs.Common.{◌≡◌, ◌≢◌, ℕ, ◌<◌, ◌≤◌, List, [], ◌++◌, length, take, Option, Some, None, sym, ap, ◌∙◌, arith, length-append}
use Rattle.std.specs.Option.{IfSome, IsSomeAnd}
use Rattle.std.proofs.lemmas.List.{take_at, append-nil}
use Rattle.journal_defs.specs.declared.Version.{Version}
use Rattle.journal_defs.specs.declared.Version.TheVariants.{One, Two}
use Rattle.journal_defs.specs.Journals.{Header, header_bytes, LieBefore}
use Rattle.journal_disk.specs.Disks.{BeginsAt, HasLength}
use Rattle.journal_rp.specs.Headers.{IsJournal, of_kind}

pub is_empty : (o : Option (List ℕ)) → IsSomeAnd o (λ file. file ≡ []) → o ≡ Some []
is_empty None e = absurd e
is_empty (Some file) e = ap (λ (l : List ℕ). Some l) e

-- ---- headers

module _ (h : Header) (one two : List ℕ) (one_is : one ≡ header_bytes One h) (two_is : two ≡ header_bytes Two h) (one_len : length one ≡ 60)
    (two_len : length two ≡ 60) where
  kind_is : (v : Version) → of_kind v one two ≡ header_bytes v h
  kind_is One = one_is
  kind_is Two = two_is

  header_len : (v : Version) → length (header_bytes v h) ≡ 60
  header_len One = ap length (sym one_is) ∙ one_len
  header_len Two = ap length (sym two_is) ∙ two_len

  pub short_none : (seen : Option (List ℕ)) (len : ℕ) → len ≤ 60 → HasLength seen len
      → IfSome seen (λ file. (v : Version) → ¬ IsJournal v h file)
  short_none None len short has = tt
  short_none (Some file) len short has = λ v j. absurd
      (omega (arith, has, j.goes_on, ap length j.parts, length-append (header_bytes v h) j.rest, header_len v))

  pub journal_there : (seen : Option (List ℕ)) (found : List ℕ) (len : ℕ) (v : Version) → 60 < len → HasLength seen len → length found ≡ 60
      → IfSome seen (λ file. BeginsAt file 0 found) → found ≡ of_kind v one two → IfSome seen (IsJournal v h)
  journal_there None found len v long has size there is = tt
  journal_there (Some file) found len v long has size there is = record {
    rest = there.0;
    parts = there.1 ∙ ap (λ (l : List ℕ). l ++ there.0) (is ∙ kind_is v);
    goes_on = omega (arith, has, ap length there.1, length-append found there.0);
  }

  -- no entry stands before its first gate
  pub first_there : (seen : Option (List ℕ)) (v : Version) → IfSome seen (IsJournal v h)
      → IfSome seen (λ file. LieBefore (header_bytes v h) file [] 60)
  first_there None v j = tt
  first_there (Some file) v j = record {
    rest = j.rest;
    parts = j.parts ∙ ap (λ (l : List ℕ). l ++ j.rest) (sym (append-nil (header_bytes v h)));
    goes_on = j.goes_on;
    where_it_is = sym (ap length (append-nil (header_bytes v h)) ∙ header_len v);
    each = tt;
  }

  pub other_none : (seen : Option (List ℕ)) (found : List ℕ) → length found ≡ 60 → IfSome seen (λ file. BeginsAt file 0 found)
      → (found ≢ one) × (found ≢ two) → IfSome seen (λ file. (v : Version) → ¬ IsJournal v h file)
  other_none None found size there other = tt
  other_none (Some file) found size there other = λ v j. neither v (same v j)
    where
      same : (v : Version) → IsJournal v h file → found ≡ header_bytes v h
      same v j = sym (take_at found there.0 60 size) ∙ ap (λ (l : List ℕ). take 60 l)
          (sym there.1 ∙ j.parts) ∙ take_at (header_bytes v h) j.rest 60 (header_len v)

      neither : (v : Version) → found ≡ header_bytes v h → ⊥
      neither One e = other.0 (e ∙ sym one_is)
      neither Two e = other.1 (e ∙ sym two_is)
