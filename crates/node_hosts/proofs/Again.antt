-- The processes that begin again, put in one after the other.
use Rattle.std.proofs.Common.{◌≡◌, ℕ, ◌+◌, ◌<◌, Bool, true, false, List, [], ◌∷◌, ◌++◌, length, get_or, set, Option, None, Some, inl, inr, refl, sym, ap, subst, ◌∙◌, arith, length-append, below_more}
use Rattle.std.specs.Prelude.{◌≢◌, ◌||◌, IsTrue}
use Rattle.std.proofs.Math.ListN.{get_or-append}
use Rattle.std.proofs.Math.Seq.{get_or-append_seam}
use Rattle.std.proofs.lemmas.Bool.{cases_lt, ne_eqb, eq-eqb}
use Rattle.std.proofs.lemmas.Bool.Decides.{eqb_tells}
use Rattle.std.proofs.lemmas.List.{get_or_past, get_or-set_same, get_or-set_other}
use Rattle.byte_defs.specs.Members.{has}
use Rattle.kit_defs.specs.Kits.{Kit}
use Rattle.group_defs.specs.Process.{Process}
use Rattle.node_defs.specs.Casts.{Cast}
use Rattle.node_hosts.specs.declared.host.Host.{Host}
use Rattle.node_hosts.specs.declared.hosts.Hosts.{Hosts}
use Rattle.node_hosts.specs.Hosts.{AreHosts, HasHosts, place_of}
use Rattle.node_hosts.specs.Places.{IsHost, IsPlace}
use Rattle.node_hosts.proofs.Standing.{AreOwn, none-some}

-- ---- while there is none

-- so many places, all of them empty
pub record AreEmpty (n : ℕ) (places : List (Option Host)) : Type 0 where
  pub count : length places ≡ n
  pub none : (p : ℕ) → get_or places p None ≡ None

pub no-places : AreEmpty 0 []
no-places = record { count = refl; none = λ p. get_or_past [] p None (omega arith) }

pub one-empty : (n : ℕ) (places : List (Option Host)) → AreEmpty n places → AreEmpty (n + 1) (places ++ None ∷ [])
one-empty n places empty =
    let before : (p : ℕ) → p < n → get_or (places ++ None ∷ []) p None ≡ None = λ p below.
    get_or-append places (None ∷ []) None p (omega (arith, empty.count)) ∙ empty.none p in
    let last : get_or (places ++ None ∷ []) n None ≡ None =
    subst (λ k. get_or (places ++ None ∷ []) k None ≡ None) empty.count (get_or-append_seam places None [] None) in
    record {
      count = simp length-append (omega (arith, empty.count));
      none = λ p. elim (cases_lt p (n + 1)) [
        | inl below ↦ below_more (λ k. get_or (places ++ None ∷ []) k None ≡ None) n before last p below
        | inr above ↦ get_or_past (places ++ None ∷ []) p None (simp length-append (omega (arith, empty.count)))
      ];
    }

pub empty-own : (n : ℕ) (places : List (Option Host)) → AreEmpty n places → AreOwn places
empty-own n places empty p h e = absurd (none-some h (sym (empty.none p) ∙ e))

-- ---- as they are put in

-- a process is among these, or is the one that was put in
one-of : (here : List ℕ) (q p : ℕ) → q ≢ p → has (q ∷ here) p ≡ has here p
one-of here q p other = ap (λ b. b || has here p) (ne_eqb q p other)

pub each-put : (c : Cast) (kit : Kit) (now : ℕ → Process) (here : List ℕ) (places : List (Option Host)) (q : ℕ) (h : Host) → q < length places
    → IsTrue (has c.hosted q) → IsHost c kit q (now q) h
    → ((p : ℕ) → p < 64 → IsTrue (has here p) → IsPlace c kit p (now p) (get_or places p None)) → (p : ℕ) → p < 64 → IsTrue (has (q ∷ here) p)
    → IsPlace c kit p (now p) (get_or (set places q (Some h)) p None)
each-put c kit now here places q h within hosted is each p below among = elim (eqb_tells p q) [
  | inl tells ↦ subst (λ k. IsPlace c kit k (now k) (get_or (set places q (Some h)) k None)) (sym tells.1)
      (subst (IsPlace c kit q (now q)) (sym (get_or-set_same places q (Some h) None within)) (hosted, is))
  | inr tells ↦ subst (IsPlace c kit p (now p)) (sym (get_or-set_other places q p (Some h) None tells.1))
      (each p below (sym (one-of here q p (λ e. tells.1 (sym e))) ∙ among))
]

pub others-put : (here : List ℕ) (places : List (Option Host)) (q : ℕ) (h : Host)
    → ((p : ℕ) → p < 64 → has here p ≡ false → get_or places p None ≡ None) → (p : ℕ) → p < 64 → has (q ∷ here) p ≡ false
    → get_or (set places q (Some h)) p None ≡ None
others-put here places q h others p below none = elim (eqb_tells p q) [
  | inl tells ↦ absurd (clash (ap (λ b. b || has here p) (eq-eqb q p (sym tells.1))) none)
  | inr tells ↦ get_or-set_other places q p (Some h) None tells.1 ∙ others p below (sym (one-of here q p (λ e. tells.1 (sym e))) ∙ none)
]
  where
    clash : {b : Bool} → b ≡ true → b ≡ false → ⊥
    clash e f = cc

-- ---- once all are there

-- where each hosted process is put in, they are all there
pub all-here : (c : Cast) (kit : Kit) (now : ℕ → Process) (here : List ℕ) (hosts : Hosts)
    → ((p : ℕ) → IsTrue (has c.hosted p) → IsTrue (has here p)) → HasHosts c kit now here hosts → AreHosts c kit now None hosts
all-here c kit now here hosts all has_hosts = record {
  numbers = has_hosts.numbers;
  each = λ p below out. go p below (has here p) refl;
}
  where
    clash : {b : Bool} → b ≡ true → b ≡ false → ⊥
    clash e f = cc

    not-hosted : (p : ℕ) (b : Bool) → has c.hosted p ≡ b → has here p ≡ false → has c.hosted p ≡ false
    not-hosted p true is none = absurd (clash (all p is) none)
    not-hosted p false is none = is

    go : (p : ℕ) → p < 64 → (b : Bool) → has here p ≡ b → IsPlace c kit p (now p) (place_of hosts p)
    go p below true among = has_hosts.each p below among
    go p below false among = subst (IsPlace c kit p (now p)) (sym (has_hosts.others p below among)) (not-hosted p _ refl among)
