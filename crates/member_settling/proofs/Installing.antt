-- A view that begins.
use Rattle.std.proofs.Common.{◌≡◌, ℕ, zero, suc, ◌+◌, ◌≤◌, List, [], ◌∷◌, ◌++◌, map, length, Bool, true, false, refl, sym, ap, ◌∙◌, arith, inl, inr}
use Rattle.std.specs.Prelude.{if◌then◌else◌, ◌==◌, filter, All}
use Rattle.std.specs.List.{range_with_len}
use Rattle.std.proofs.lemmas.Bool.{eqb-true}
use Rattle.std.proofs.lemmas.List.{map-append}
use native.Mathlib.Decide.{ℕ_discrete}
use Rattle.byte_defs.specs.Equality.{is_yes, pair_discrete}
use Rattle.message_defs.specs.Updates.{Update, Update-discrete}
use Rattle.message_defs.specs.Statements.{Claim, view_of}
use Rattle.group_defs.specs.Process.{Process, Left}
use Rattle.group_defs.specs.Due.{is_perceived}
use Rattle.pool_laws.proofs.Members.{All-mem, Mem, list_any-mem}
use Rattle.pool_laws.proofs.Tests.{yes-is}

-- nothing is signed in a view behind those of these claims
pub none-signed : (x : ℕ) (cs : List Claim) → All (λ c. view_of c.statement ≤ x) cs → filter (λ c. view_of c.statement == x + 1) cs ≡ []
none-signed x cs past = go cs (λ c m. All-mem (λ (c : Claim). view_of c.statement ≤ x) cs c past m)
  where
    go : (cs : List Claim) → ((c : Claim) → Mem c cs → view_of c.statement ≤ x) → filter (λ c. view_of c.statement == x + 1) cs ≡ []
    go [] past = refl
    go (c ∷ cs) past = one (view_of c.statement == x + 1) refl (go cs (λ d m. past d (inr m)))
      where
        one : (b : Bool) → (view_of c.statement == x + 1) ≡ b → filter (λ c. view_of c.statement == x + 1) cs ≡ []
            → (if b then c ∷ filter (λ c. view_of c.statement == x + 1) cs else filter (λ c. view_of c.statement == x + 1) cs) ≡ []
        one false e rest = rest
        one true e rest = (let same = eqb-true (view_of c.statement)
            (x + 1) e in let le = past c (inl refl) in absurd (omega (arith, same, le)))

-- nothing is perceived in a view behind those of these updates
pub none-perceived : (x : ℕ) (p : Process) (u : Update) → All (λ e. e.0 ≤ x) p.perceived → is_perceived p (x + 1, u) ≡ false
none-perceived x p u past = go (is_perceived p (x + 1, u)) refl
  where
    go : (b : Bool) → is_perceived p (x + 1, u) ≡ b → b ≡ false
    go false e = refl
    go true e =
        let there = list_any-mem (λ d. is_yes (pair_discrete ℕ_discrete (Update-discrete ℕ_discrete) d (x + 1, u))) p.perceived e in
        let same : there.0 ≡ (x + 1, u) = yes-is (pair_discrete ℕ_discrete (Update-discrete ℕ_discrete) there.0 (x + 1, u)) there.2 in
        let number : there.0.0 ≡ x + 1 = ap (λ (e : ℕ × Update). e.0) same in
        let le = All-mem (λ (e : ℕ × Update). e.0 ≤ x) p.perceived there.0 past there.1 in
        absurd (omega (arith, number, le))

range-snoc : (a n : ℕ) → range_with_len a (suc n) ≡ range_with_len a n ++ (a + n) ∷ []
range-snoc a zero = (let same : a ≡ a + 0 = omega arith in ap (λ x. x ∷ []) same)
range-snoc a (suc n) = (let same : (a + 1) + n
    ≡ a + suc n = omega arith in ap (λ xs. a ∷ xs) (range-snoc (a + 1) n ∙ ap (λ x. range_with_len (a + 1) n ++ x ∷ []) same))

pub length-more : {A : Type 0} (xs : List A) (x : A) → length (xs ++ x ∷ []) ≡ suc (length xs)
length-more [] x = refl
length-more (y ∷ xs) x = ap suc (length-more xs x)

-- the views that were left are numbered 0, 1, 2 and so on
pub numbered : (ls : List Left) (l : Left) → l.view.number ≡ length ls → map (λ (v : Left). v.view.number) ls ≡ range_with_len 0 (length ls)
    → map (λ (v : Left). v.view.number) (ls ++ l ∷ []) ≡ range_with_len 0 (length (ls ++ l ∷ []))
numbered ls l is before =
    map-append (λ (v : Left). v.view.number) ls (l ∷ [])
    ∙ ap (λ xs. xs ++ l.view.number ∷ []) before
    ∙ ap (λ x. range_with_len 0 (length ls) ++ x ∷ []) (let same : l.view.number ≡ 0 + length ls = omega (arith, is) in same)
    ∙ sym (range-snoc 0 (length ls))
    ∙ ap (range_with_len 0) (sym (length-more ls l))
