-- Entries that are read one after another: those that were read, and the reading of the others.
use Rattle.std.proofs.Common.{◌≡◌, ℕ, suc, ◌+◌, ◌-◌, ◌<◌, ◌≤◌, List, [], ◌∷◌, ◌++◌, Ok, Err, refl, sym, ap, ◌∙◌, append_assoc, arith}
use Rattle.std.proofs.lemmas.List.{append-nil}
use Rattle.byte_defs.specs.Fields.{◌>>=◌}
use Rattle.byte_defs.specs.Reads.{Fails}
use Rattle.snapshot_defs.specs.Steps.{Step, times_at}
use Rattle.snapshot_rp.specs.declared.fault.ReadError.{ReadError}
use Rattle.snapshot_rp.specs.declared.fault.ReadError.TheVariants as reads
use Rattle.snapshot_rp.specs.Faults.{left_of}

-- what is read, with these before it
abbrev pub after : {A : Type 0} → List A → Step (List A) → Step (List A)
after xs others = others >>= λ x. Ok (xs ++ x.0, x.1)

one_more : {A : Type 0} (xs : List A) (x : A) (others : Step (List A))
    → after xs (others >>= λ y. Ok (x ∷ y.0, y.1)) ≡ after (xs ++ x ∷ []) others
one_more xs x (Ok y) = ap (λ (l : List _). Ok (l, y.1)) (sym (append_assoc xs (x ∷ []) y.0))
one_more xs x (Err e) = refl

module _ {A : Type 0} (entry : ℕ → List ℕ → Step A) (count k : ℕ) (bytes : List ℕ) (xs : List A) (total : Step (List A)) where
  pub goes_on : (x : A) (rest : List ℕ) → k < count → entry k bytes ≡ Ok (x, rest) → after xs (times_at entry k (count - k) bytes) ≡ total
      → after (xs ++ x ∷ []) (times_at entry (k + 1) (count - (k + 1)) rest) ≡ total
  unfolding times_at
  goes_on x rest lt e so_far =
      let n : count - k ≡ suc (count - (k + 1)) = omega arith in
      let one : after xs (times_at entry k (count - k) bytes)
      ≡ after (xs ++ x ∷ []) (times_at entry (k + 1) (count - (k + 1)) rest) =
      rw (n, e) (one_more xs x (times_at entry (k + 1) (count - (k + 1)) rest)) in
      sym one ∙ so_far

  fails : (left : ℕ) → k < count → entry k bytes ≡ Err left → after xs (times_at entry k (count - k) bytes) ≡ total → total ≡ Err left
  unfolding times_at
  fails left lt e so_far =
      let n : count - k ≡ suc (count - (k + 1)) = omega arith in
      let one : after xs (times_at entry k (count - k) bytes) ≡ Err left = rw (n, e) refl in
      sym so_far ∙ one

  -- the fault of the next entry is that of all; want of memory is none
  pub stops : (e : ReadError) → k < count → Fails left_of e (entry k bytes) → after xs (times_at entry k (count - k) bytes) ≡ total
      → Fails left_of e total
  stops reads.NoMemory lt e so_far = tt
  stops (reads.Fault left) lt e so_far = fails left lt e so_far

  pub ends : count ≤ k → after xs (times_at entry k (count - k) bytes) ≡ total → total ≡ Ok (xs, bytes)
  unfolding times_at
  ends le so_far =
      let n : count - k ≡ 0 = omega arith in
      let one : after xs (times_at entry k (count - k) bytes) ≡ Ok (xs, bytes) = rw (n, append-nil xs) refl in
      sym so_far ∙ one
