-- In a run, what a guard's process sends is the accusation, whole.
use Rattle.std.proofs.Common.{◌≡◌, ℕ, Bool, true, false, List, [], ◌∷◌, Option, Some, None, refl, ap, ◌∙◌, inl, inr}
use Rattle.std.specs.Prelude.{◌&&◌, ◌==◌, cond, not, filter}
use Rattle.byte_defs.specs.Members.{has}
use Rattle.byte_defs.specs.Orders.{sorted}
use Rattle.message_defs.specs.Statements.{Claim}
use Rattle.message_defs.specs.Spelling.{IsClaim}
use Rattle.group_defs.specs.Process.{Setting, Process, keyed}
use Rattle.group_defs.specs.Sending.{Bundle, others, sends_to}
use Rattle.node_defs.specs.Nodes.{Said}
use Rattle.guard_defs.specs.Lines.{accusation, accuse_line, conflict_of}
use Rattle.guard_laws.specs.Guards.{CanAccuse}
use Rattle.guard_service.specs.Accusing.{letters_listed, letters_of, listed_others}
use Rattle.guard_service.specs.Laws.{AccusationsAreWhole}
use Rattle.pool_laws.proofs.Members.{All-mem, Mem, find-is}

-- a second test that all pass
filter-both : {A : Type 0} (p t : A → Bool) (xs : List A) → ((x : A) → Mem x xs → t x ≡ true) → filter (λ x. p x && t x) xs ≡ filter p xs
filter-both p t [] all = refl
filter-both {A} p t (x ∷ xs) all = go (p x) (t x) (all x (inl refl)) (filter-both p t xs (λ y m. all y (inr m)))
  where
    go : (a b : Bool) → b ≡ true → filter (λ x. p x && t x) xs ≡ filter p xs
        → cond (a && b) (x ∷ filter (λ x. p x && t x) xs) (filter (λ x. p x && t x) xs) ≡ cond a (x ∷ filter p xs) (filter p xs)
    go true true e rest = ap (λ (ys : List A). x ∷ ys) rest
    go true false e rest = absurd cc
    go false b e rest = rest

module _ (s : Setting) (now : Process) (can : CanAccuse s now) where
  all-others : listed_others s now ≡ others now now.pool.view
  all-others = ap (sorted (λ (m : ℕ). m ∷ [])) (filter-both (λ m. not (m == now.me)) (has (keyed s)) now.pool.view.members
      (λ m there. All-mem (λ m. has (keyed s) m ≡ true) now.pool.view.members m can.listed there))

  all-letters : (q : ℕ) → letters_listed s now q ≡ letters_of (accusation now q)
  all-letters q = go (conflict_of now q)
    where
      go : (o : Option (Claim × Claim))
          → elim o [ None ↦ [] | Some pair ↦ letters_of (sends_to (listed_others s now) (Bundle (pair.0 ∷ pair.1 ∷ []))) ]
          ≡ letters_of (elim o [ None ↦ [] | Some pair ↦ sends_to (others now now.pool.view) (Bundle (pair.0 ∷ pair.1 ∷ [])) ])
      go None = refl
      go (Some pair) = ap (λ (to : List ℕ). letters_of (sends_to to (Bundle (pair.0 ∷ pair.1 ∷ [])))) all-others

pub accusations_are_whole : AccusationsAreWhole
accusations_are_whole s now q a can accuses =
    accuses.said
    ∙ ap (Said (accuse_line now q)) (accuses.are.all (λ pair at. All-mem (λ (pair : Claim × Claim). IsClaim pair.0 × IsClaim pair.1)
    now.conflicts pair can.carried (find-is (λ (pair : Claim × Claim). pair.0.signer == q) now.conflicts pair at).0)
    ∙ all-letters s now can q)
