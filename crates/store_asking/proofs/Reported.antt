-- The words of a line with a reply, and what its bytes are.
use Rattle.std.proofs.Common.{◌≡◌, ℕ, Bool, true, false, List, [], ◌∷◌, Option, None, Some, option_map, Result, Ok, Err, refl, sym, ap, ◌∙◌}
use Rattle.std.specs.Prelude.{codes, if◌then◌else◌}
use Rattle.byte_defs.specs.Choices.{and_then}
use Rattle.byte_defs.specs.Equality.{same_bytes}
use Rattle.text_defs.specs.Words.{process_of}
use Rattle.store_defs.specs.Records.{Reply}
use Rattle.store_defs.specs.Words.{some_bytes_of}
use Rattle.store_defs.specs.Asking.{record_by, reply_by}
use Rattle.store_asking.specs.Lines.{reply_in, reported_behind, reported_by}

-- what was told, read as a reply
abbrev pub reply_reported : Option (ℕ × List ℕ) → Option Reply
reply_reported o = and_then o (λ t. reply_in t.0 t.1)

by_bytes : (p : ℕ) (o : Option (List ℕ)) → and_then o (λ bytes. reply_in p bytes) ≡ reply_reported (option_map (λ bytes. (p, bytes)) o)
by_bytes p None = refl
by_bytes p (Some bytes) = refl

by_process : (o : Option ℕ) (word : List ℕ)
    → and_then o (λ p. record_by p word) ≡ reply_reported (and_then o (λ p. option_map (λ bytes. (p, bytes)) (some_bytes_of word)))
by_process None word = refl
by_process (Some p) word = by_bytes p (some_bytes_of word)

pub reply_is_reported : (words : List (List ℕ)) → reply_by words ≡ reply_reported (reported_by words)
reply_is_reported [] = refl
reply_is_reported (word ∷ []) = of (same_bytes word (codes "reply"))
  where
    of : (b : Bool) → (let none : Option Reply = None in none) ≡ reply_reported (if b then reported_behind [] else None)
    of true = refl
    of false = refl
reply_is_reported (word ∷ process ∷ []) = of (same_bytes word (codes "reply"))
  where
    of : (b : Bool) → (let none : Option Reply = None in none) ≡ reply_reported (if b then reported_behind (process ∷ []) else None)
    of true = refl
    of false = refl
reply_is_reported (word ∷ process ∷ bytes ∷ []) = of (same_bytes word (codes "reply"))
  where
    of : (b : Bool) → (if b then and_then (process_of process) (λ p. record_by p bytes) else None)
        ≡ reply_reported (if b then reported_behind (process ∷ bytes ∷ []) else None)
    of true = by_process (process_of process) bytes
    of false = refl
reply_is_reported (word ∷ process ∷ bytes ∷ more ∷ words) = of (same_bytes word (codes "reply"))
  where
    of : (b : Bool) → (let none : Option Reply = None in none) ≡ reply_reported (if b then reported_behind (process ∷ bytes ∷ more ∷ words) else None)
    of true = refl
    of false = refl
