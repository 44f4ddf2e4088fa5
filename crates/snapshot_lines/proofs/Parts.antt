-- Parts that are read one after another: those that were read, and the reading of the others.
use Rattle.std.proofs.Common.{◌≡◌, ℕ, List, [], ◌∷◌, ◌++◌, map, Ok, Err, refl, sym, ap, ◌∙◌, append_assoc}
use Rattle.std.specs.Prelude.{All}
use Rattle.std.proofs.lemmas.List.{append-nil, map-append}
use Rattle.std.proofs.lemmas.List.Elements.{All-nil, All-cons, All-append}
use Rattle.byte_defs.specs.Fields.{◌>>=◌}
use Rattle.byte_defs.specs.Reads.{Fails}
use Rattle.snapshot_defs.specs.declared.Version.{Version}
use Rattle.snapshot_defs.specs.declared.Version.TheVariants.{Two}
use Rattle.snapshot_defs.specs.Ranges.{IsImage}
use Rattle.snapshot_defs.specs.Steps.{Step}
use Rattle.resume_laws.specs.Said.{Part, part_at, parts_at}
use Rattle.snapshot_lines.specs.declared.fault.ReadError.{ReadError}
use Rattle.snapshot_lines.specs.declared.fault.ReadError.TheVariants as reads
use Rattle.snapshot_lines.specs.Views.{left_of}

-- what is read, with these before it
abbrev pub after : List Part → Step (List Part) → Step (List Part)
after xs others = others >>= λ x. Ok (xs ++ x.0, x.1)

one-more : (xs : List Part) (x : Part) (others : Step (List Part)) → after xs (others >>= λ y. Ok (x ∷ y.0, y.1)) ≡ after (xs ++ x ∷ []) others
one-more xs x (Ok y) = ap (λ (l : List Part). Ok (l, y.1)) (sym (append_assoc xs (x ∷ []) y.0))
one-more xs x (Err e) = refl

module _ (v : Version) (p : ℕ) (old left bytes : List ℕ) (xs : List Part) (total : Step (List Part)) (steps : old ≡ p ∷ left)
    (so_far : after xs (parts_at v old bytes) ≡ total) where
  at-one : after xs (parts_at v (p ∷ left) bytes) ≡ total
  at-one = ap (λ ps. after xs (parts_at v ps bytes)) (sym steps) ∙ so_far

  pub goes-on : (x : Part) (rest : List ℕ) → part_at v p bytes ≡ Ok (x, rest) → after (xs ++ x ∷ []) (parts_at v left rest) ≡ total
  unfolding parts_at
  goes-on x rest e =
      let one : after xs (parts_at v (p ∷ left) bytes) ≡ after (xs ++ x ∷ []) (parts_at v left rest) =
      rw e (one-more xs x (parts_at v left rest)) in
      sym one ∙ at-one

  fails : (fault : ℕ) → part_at v p bytes ≡ Err fault → total ≡ Err fault
  unfolding parts_at
  fails fault e =
      let one : after xs (parts_at v (p ∷ left) bytes) ≡ Err fault = rw e refl in
      sym at-one ∙ one

  -- the fault of the next part is that of all; want of memory is none
  pub stops : (e : ReadError) → Fails left_of e (part_at v p bytes) → Fails left_of e total
  stops reads.NoMemory e = tt
  stops (reads.Fault fault) e = fails fault e

pub ends : (v : Version) (old bytes : List ℕ) (xs : List Part) (total : Step (List Part)) → old ≡ []
    → after xs (parts_at v old bytes) ≡ total → total ≡ Ok (xs, bytes)
unfolding parts_at
ends v old bytes xs total none so_far =
    let one : after xs (parts_at v [] bytes) ≡ Ok (xs, bytes) = ap (λ (l : List Part). Ok (l, bytes)) (append-nil xs) in
    sym (ap (λ ps. after xs (parts_at v ps bytes)) (sym none) ∙ so_far) ∙ one

-- ---- of whom they are, and that they can be written

pub one-number : (xs : List Part) (x : Part) (p : ℕ) (old left hosted : List ℕ) → old ≡ p ∷ left → x.0 ≡ p
    → map (λ (y : Part). y.0) xs ++ old ≡ hosted → map (λ (y : Part). y.0) (xs ++ x ∷ []) ++ left ≡ hosted
one-number xs x p old left hosted steps is so_far =
    ap (λ ns. ns ++ left) (map-append (λ (y : Part). y.0) xs (x ∷ []))
    ∙ append_assoc (map (λ (y : Part). y.0) xs) (x.0 ∷ []) left
    ∙ (λ j. map (λ (y : Part). y.0) xs ++ is j ∷ left)
    ∙ ap (λ ns. map (λ (y : Part). y.0) xs ++ ns) (sym steps) ∙ so_far

pub one-writable : (xs : List Part) (x : Part) → All (λ (y : Part). IsImage Two y.2) xs → IsImage Two x.2
    → All (λ (y : Part). IsImage Two y.2) (xs ++ x ∷ [])
one-writable xs x all is = All-append (λ (y : Part). IsImage Two y.2) xs (x ∷ []) all
    (All-cons (λ (y : Part). IsImage Two y.2) x [] is (All-nil (λ (y : Part). IsImage Two y.2)))
