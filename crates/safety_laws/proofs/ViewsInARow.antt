-- The views of a process stand in a row, from the genesis on.
use Rattle.std.proofs.Common.{◌≡◌, inl, inr, ℕ, zero, suc, ◌+◌, List, [], ◌∷◌, ◌++◌, length, Option, Some, None, true, refl, sym, ap, ◌∙◌, subst, arith, slice_get}
use Rattle.std.specs.Prelude.{is_none, Ok, Err}
use Rattle.std.proofs.lemmas.List.{map-append}
use Rattle.group_defs.specs.Below.{Update, Value, Claim}
use Rattle.group_defs.specs.Views.{View, UpdateFault, has_keys, is_possible, next, next_fault, next_view}
use Rattle.group_defs.specs.Process.{Setting, Left, Process, keyed, start, views_of}
use Rattle.group_defs.specs.Settle.{decided_by}
use Rattle.group_defs.specs.Laws.{IsBehind, AreInARow, ViewsInARow}
use Rattle.safety_laws.proofs.Induction.{Keeps, run-keeps}
use Rattle.safety_laws.proofs.Installed.{decided_by-is}
use Rattle.pool_laws.proofs.Places.{slice_get-front, slice_get-length, slice_get-snoc}
use Rattle.pool_laws.proofs.Tests.{and-first, none-is, option_or-is, some-is}
use Rattle.safety_laws.proofs.ViewsOf.{current-at, length-views}

record InARow (s : Setting) (p : Process) : Type 0 where
  pub row : AreInARow s (views_of p)
  pub possible : (d : ℕ × Value) → p.decision ≡ Some d → is_possible (keyed s) p.pool.view d.1.update ≡ true

next-is : (v : View) (u : Update) → next_fault v u ≡ None → next v u ≡ Ok (next_view v u)
next-is v u e = ap (λ (o : Option UpdateFault). elim o [ None ↦ Ok (next_view v u) | Some fault ↦ Err fault ]) e

module _ (s : Setting) (p : Process) (u : Update) (possible : is_possible (keyed s) p.pool.view u ≡ true)
    (row : AreInARow s (views_of p)) where
  abbrev after : View
  after = next_view p.pool.view u

  abbrev last : ℕ
  last = length p.left

  one-more : AreInARow s (views_of p ++ after ∷ [])
  one-more = record {
    first = slice_get-front (views_of p) (after ∷ []) 0 s.genesis row.first;
    behind = λ i v w at next. elim (slice_get-snoc (views_of p) after (i + 1) w next) [
      | inl before ↦ (let lt = slice_get-length (views_of p)
          (i + 1) w before in elim (slice_get-snoc (views_of p) after i v at) [
            | inl here ↦ row.behind i v w here before
            | inr end ↦ absurd
                (let is = end.0 in omega (arith, lt, is))
          ])
      | inr end ↦ (let i_is : i ≡ last = (let is = end.0 in let long = length-views p in omega (arith, is, long)) in
          elim (slice_get-snoc (views_of p) after i v at) [
            | inl here ↦ (let v_is : p.pool.view
                ≡ v = some-is p.pool.view v _ (current-at p)
                (ap (slice_get (views_of p)) (sym i_is) ∙ here) in subst (λ v. IsBehind s v w) v_is
                (subst (IsBehind s p.pool.view) end.1 follows))
            | inr there ↦ absurd (let is = there.0 in let is' = end.0 in omega (arith, is, is'))
          ])
    ];
    numbers = λ i v at. elim (slice_get-snoc (views_of p) after i v at) [
      | inl here ↦ row.numbers i v here
      | inr end ↦ (let before = row.numbers last p.pool.view (current-at p) in let long = length-views p in let is = end.0 in subst
          (λ (v : View). v.number ≡ s.genesis.number + i) end.1 (omega (arith, before, long, is)))
    ];
  }
    where
      follows : IsBehind s p.pool.view after
      follows = (
        u,
        possible,
        next-is p.pool.view u
            (none-is (next_fault p.pool.view u) (and-first (is_none (next_fault p.pool.view u)) (has_keys (keyed s) u) possible)),
      )

keeps : (s : Setting) (from : List Claim) → Keeps s from (InARow s)
keeps s from = record {
  accepts = λ p payload ok. record { row = ok.row; possible = ok.possible };
  perceives = λ p e ok. record { row = ok.row; possible = ok.possible };
  hears = λ p c m e ok. record { row = ok.row; possible = ok.possible };
  doubts = λ p conflicts ok. record { row = ok.row; possible = ok.possible };
  signs = λ p signer st next none ok. record { row = ok.row; possible = ok.possible };
  decides = λ p ok. record {
    row = ok.row;
    possible = λ d e. elim (option_or-is p.decision (decided_by s p.pool) d e) [
      | inl was ↦ ok.possible d was
      | inr now ↦
          (decided_by-is s p.pool d now).0
    ];
  };
  delivers = λ p ds member room e ok. record { row = ok.row; possible = ok.possible };
  installs = λ p d decided whole ok. record {
    row = subst (λ vs. AreInARow s (vs ++ next_view p.pool.view d.1.update ∷ [])) (sym (map-append (λ (l : Left). l.view) p.left _))
        (one-more s p d.1.update (ok.possible d decided) ok.row);
    possible = λ d e. absurd cc;
  };
  halts = λ p d decided member ok. record { row = ok.row; possible = ok.possible };
}

at-start : (s : Setting) → AreInARow s (s.genesis ∷ [])
at-start s = record { first = refl; behind = none-behind; numbers = numbers }
  where
    none-behind : (i : ℕ) (v w : View) → slice_get (s.genesis ∷ []) i ≡ Some v → slice_get (s.genesis ∷ []) (i + 1) ≡ Some w
        → IsBehind s v w
    none-behind i v w at next = absurd (let lt = slice_get-length (s.genesis ∷ []) (i + 1) w next in omega (arith, lt))

    numbers : (i : ℕ) (v : View) → slice_get (s.genesis ∷ []) i ≡ Some v → v.number ≡ s.genesis.number + i
    numbers zero v at = let is : s.genesis ≡ v = cc in let same = ap (λ (v : View). v.number) is in omega (arith, same)
    numbers (suc i) v at = absurd (let lt = slice_get-length (s.genesis ∷ []) (suc i) v at in omega (arith, lt))

pub views_in_a_row : ViewsInARow
views_in_a_row s me limit turns = (run-keeps s (InARow s) turns (keeps s _) (start s me limit)
    (record { row = at-start s; possible = λ d e. absurd cc })).row
