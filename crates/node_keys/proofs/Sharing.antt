-- Keys that are shared with one process after another.
use Rattle.std.proofs.Common.{◌≡◌, ℕ, ◌==◌, Bool, true, false, true≢false, List, [], ◌∷◌, None, Some, refl, sym, ◌∙◌, subst, inl, inr}
use Rattle.std.specs.Prelude.{◌⊎◌, ◌≢◌}
use Rattle.std.proofs.lemmas.Bool.{eqb-true, eq-eqb}
use Rattle.byte_defs.specs.Members.{has}
use Rattle.link_defs.specs.Datagrams.{Known}

-- the key that is wanted with q stands, or q is still left and has none
abbrev pub IsDone : Known → Known → List ℕ → ℕ → Type 0
IsDone want now left q = (now.pair q ≡ want.pair q) ⊎ ((has left q ≡ true) × (now.pair q ≡ None))

-- what stands of what is wanted, while these processes are left
pub record Shares (want now : Known) (left : List ℕ) : Type 0 where
  pub me : now.me ≡ want.me
  pub group : now.group ≡ want.group
  pub each : (q : ℕ) → IsDone want now left q

-- whom nothing is wanted with is not left
pub begun : (want now : Known) (left : List ℕ) → now.me ≡ want.me → now.group ≡ want.group → ((q : ℕ) → now.pair q ≡ None)
    → ((q : ℕ) → has left q ≡ false → want.pair q ≡ None) → Shares want now left
begun want now left me group none outside = record { me = me; group = group; each = λ q. go q (has left q) refl }
  where
    go : (q : ℕ) (b : Bool) → has left q ≡ b → IsDone want now left q
    go q true e = inr (e, none q)
    go q false e = inl (none q ∙ sym (outside q e))

-- q is left behind p, unless it is p
behind : (p q : ℕ) (left : List ℕ) → has (p ∷ left) q ≡ true → (p == q) ≡ false → has left q ≡ true
behind p q left e other = rw other at e

apart : (p q : ℕ) → (p == q) ≡ false → q ≢ p
apart p q not_so same = true≢false (sym (eq-eqb p q (sym same)) ∙ not_so)

-- the next one, whose key stands now
next_by : (want old new : Known) (p : ℕ) (left : List ℕ) → Shares want old (p ∷ left) → new.me ≡ old.me → new.group ≡ old.group
    → new.pair p ≡ want.pair p → ((q : ℕ) → q ≢ p → new.pair q ≡ old.pair q) → Shares want new left
next_by want old new p left shares me group here others = record {
  me = me ∙ shares.me;
  group = group ∙ shares.group;
  each = λ q. go q (p == q) refl (shares.each q);
}
  where
    go : (q : ℕ) (b : Bool) → (p == q) ≡ b → IsDone want old (p ∷ left) q → IsDone want new left q
    go q true e done = let P : ℕ → Type 0 = λ r. new.pair r ≡ want.pair r in inl (subst P (eqb-true p q e) here)
    go q false e (inl done) = inl (others q (apart p q e) ∙ done)
    go q false e (inr done) = inr (behind p q left done.0 e, others q (apart p q e) ∙ done.1)

pub taken : (want old new : Known) (p : ℕ) (left key : List ℕ) → Shares want old (p ∷ left) → new.me ≡ old.me → new.group ≡ old.group
    → want.pair p ≡ Some key → new.pair p ≡ Some key → ((q : ℕ) → q ≢ p → new.pair q ≡ old.pair q) → Shares want new left
taken want old new p left key shares me group wanted here others = next_by want old new p left shares me group (here ∙ sym wanted) others

-- nothing is wanted with the next one
pub passed : (want now : Known) (p : ℕ) (left : List ℕ) → Shares want now (p ∷ left) → want.pair p ≡ None → Shares want now left
passed want now p left shares none = next_by want now now p left shares refl refl (go (shares.each p)) (λ q other. refl)
  where
    go : IsDone want now (p ∷ left) p → now.pair p ≡ want.pair p
    go (inl done) = done
    go (inr done) = done.1 ∙ sym none

-- nobody is left
pub ended : (want now : Known) → Shares want now [] → now ≡ want
ended want now shares = λ i. record { me = shares.me i; group = shares.group i; pair = λ q. all q i }
  where
    go : (q : ℕ) → IsDone want now [] q → now.pair q ≡ want.pair q
    go q (inl done) = done
    go q (inr done) = absurd (true≢false (sym done.0))

    all : (q : ℕ) → now.pair q ≡ want.pair q
    all q = go q (shares.each q)
