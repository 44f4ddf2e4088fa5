-- What stands in the places.
use Rattle.std.proofs.Common.{◌≡◌, ℕ, ◌+◌, ◌<◌, List, [], ◌∷◌, ◌++◌, length, get_or, set, Option, None, Some, inl, inr, refl, sym, ap, subst, ◌∙◌, arith, length-append, below_more}
use Rattle.std.specs.Prelude.{◌≢◌, IfSome, IsTrue}
use Rattle.std.proofs.Math.ListN.{get_or-append}
use Rattle.std.proofs.Math.Seq.{get_or-append_seam}
use Rattle.std.proofs.lemmas.Bool.{cases_lt}
use Rattle.std.proofs.lemmas.Bool.Decides.{eqb_tells}
use Rattle.std.proofs.lemmas.List.{get_or_past, get_or-set_same, get_or-set_other}
use Rattle.byte_defs.specs.Members.{has}
use Rattle.kit_defs.specs.Kits.{Kit}
use Rattle.journal_defs.specs.declared.Version.{Version}
use Rattle.journal_defs.specs.Journals.{batch_limit}
use Rattle.group_defs.specs.Process.{Process, start}
use Rattle.node_defs.specs.Casts.{Cast, cast_of, from_start, setting_of}
use Rattle.sig_scheme.specs.Signers.{used}
use Rattle.hosted_core.specs.Hosts.{core_of}
use Rattle.hosted_core.proofs.Cores.{me-so}
use Rattle.node_hosts.specs.declared.host.Host.{Host}
use Rattle.node_hosts.specs.Places.{IsHost, IsPlace, number_of}

-- each that is in a place has its number
abbrev pub AreOwn : List (Option Host) → Type 0
AreOwn places = (p : ℕ) (h : Host) → get_or places p None ≡ Some h → number_of h ≡ p

-- the hosts of these processes stand in their places
abbrev pub Stand : Cast → Kit → (ℕ → Process) → Option ℕ → List (Option Host) → Type 0
Stand c kit now out places = (p : ℕ) → p < 64 → out ≢ Some p → IsPlace c kit p (now p) (get_or places p None)

pub none-some : {A : Type 0} (x : A) → (let o : Option A = None in o) ≡ Some x → ⊥
none-some x e = cc

pub some-is : {A : Type 0} (x y : A) → (let o : Option A = Some x in o) ≡ Some y → x ≡ y
some-is x y e = cc

own-number : (o : Option Host) (q : ℕ) (h : Host) → IfSome o (λ g. number_of g ≡ q) → o ≡ Some h → number_of h ≡ q
own-number None q h own e = absurd (none-some h e)
own-number (Some g) q h own e = ap number_of (sym (some-is g h e)) ∙ own

-- ---- as they are filled

-- the first so many places of the kit's processes as they start
pub record Filled (kit : Kit) (limit n : ℕ) (places : List (Option Host)) : Type 0 where
  pub count : length places ≡ n
  pub own : AreOwn places
  pub each : (version : Version) (p : ℕ) → p < n
      → IsPlace (cast_of kit version) kit p (start (setting_of kit) p limit) (get_or places p None)

pub none-filled : (kit : Kit) (limit : ℕ) → Filled kit limit 0 []
none-filled kit limit = record {
  count = refl;
  own = λ p h e. absurd (none-some h (sym (get_or_past [] p None (omega arith)) ∙ e));
  each = λ version p below. absurd (omega arith);
}

pub one-filled : (kit : Kit) (limit n : ℕ) (places : List (Option Host)) (place : Option Host) → Filled kit limit n places
    → ((version : Version) → IsPlace (cast_of kit version) kit n (start (setting_of kit) n limit) place)
    → IfSome place (λ h. number_of h ≡ n) → Filled kit limit (n + 1) (places ++ place ∷ [])
one-filled kit limit n places place filled here own =
    let before : (p : ℕ) → p < n → get_or (places ++ place ∷ []) p None ≡ get_or places p None = λ p below.
    get_or-append places (place ∷ []) None p (omega (arith, filled.count)) in
    let last : get_or (places ++ place ∷ []) n None ≡ place =
    subst (λ k. get_or (places ++ place ∷ []) k None ≡ place) filled.count (get_or-append_seam places place [] None) in
    record {
      count = simp length-append (omega (arith, filled.count));
      own = λ p h e. elim (cases_lt p (n + 1)) [
        | inl below ↦ below_more (λ k. get_or (places ++ place ∷ []) k None ≡ Some h → number_of h ≡ k) n
            (λ k under there. filled.own k h (sym (before k under) ∙ there)) (λ there. own-number place n h own (sym last ∙ there)) p below e
        | inr above ↦ absurd (none-some h (sym (get_or_past (places ++ place ∷ []) p None
            (simp length-append (omega (arith, filled.count)))) ∙ e))
      ];
      each = λ version. below_more (λ k. IsPlace (cast_of kit version) kit k (start (setting_of kit) k limit)
          (get_or (places ++ place ∷ []) k None)) n
          (λ k under. subst (IsPlace (cast_of kit version) kit k (start (setting_of kit) k limit)) (sym (before k under)) (filled.each version k under))
          (subst (IsPlace (cast_of kit version) kit n (start (setting_of kit) n limit)) (sym last) (here version));
    }

-- all of them are filled
pub all-start : (kit : Kit) (limit n : ℕ) (places : List (Option Host)) → Filled kit limit n places → n ≡ 64 → (version : Version)
    → batch_limit version ≡ limit → Stand (cast_of kit version) kit (from_start (cast_of kit version)).from None places
all-start kit limit n places filled all version same p below out =
    subst (λ l. IsPlace (cast_of kit version) kit p (start (setting_of kit) p l) (get_or places p None)) (sym same)
    (filled.each version p (subst (λ m. p < m) (sym all) below))

-- ---- as one is written

pub set-own : (places : List (Option Host)) (q : ℕ) (o : Option Host) → q < length places → AreOwn places
    → IfSome o (λ h. number_of h ≡ q) → AreOwn (set places q o)
set-own places q o within all own p h e = elim (eqb_tells p q) [
  | inl tells ↦ own-number o q h own (sym (get_or-set_same places q o None within)
      ∙ ap (λ k. get_or (set places q o) k None) (sym tells.1) ∙ e) ∙ sym tells.1
  | inr tells ↦ all p h (sym (get_or-set_other places q p o None tells.1) ∙ e)
]

-- one is handed out
pub others-stand : (c : Cast) (kit : Kit) (now : ℕ → Process) (places : List (Option Host)) (q : ℕ) → Stand c kit now None places
    → Stand c kit now (Some q) (set places q None)
others-stand c kit now places q stand p below out =
    let other : p ≢ q = λ e. out (ap Some (sym e)) in
    subst (IsPlace c kit p (now p)) (sym (get_or-set_other places q p None None other)) (stand p below (none-some p))

-- and is back
pub all-stand : (c : Cast) (kit : Kit) (now new : ℕ → Process) (places : List (Option Host)) (q : ℕ) (h : Host) → q < length places
    → Stand c kit now (Some q) places → IsTrue (has c.hosted q) → IsHost c kit q (new q) h → ((p : ℕ) → p ≢ q → new p ≡ now p)
    → Stand c kit new None (set places q (Some h))
all-stand c kit now new places q h within stand among is others p below out = elim (eqb_tells p q) [
  | inl tells ↦ subst (λ k. IsPlace c kit k (new k) (get_or (set places q (Some h)) k None)) (sym tells.1)
      (subst (IsPlace c kit q (new q)) (sym (get_or-set_same places q (Some h) None within)) (among, is))
  | inr tells ↦ subst (IsPlace c kit p (new p)) (sym (get_or-set_other places q p (Some h) None tells.1))
      (subst (λ x. IsPlace c kit p x (get_or places p None)) (sym (others p tells.1)) (stand p below (λ e. tells.1 (sym (some-is q p e)))))
]

-- its place is that of its number
pub its-number : (c : Cast) (kit : Kit) (p : ℕ) (now : Process) (h : Host) → IsHost c kit p now h → number_of h ≡ p
its-number c kit p now h is = sym (me-so used c.setting now (core_of h.process) is.process.core) ∙ is.process.number

pub back-stand : (c : Cast) (kit : Kit) (now new : ℕ → Process) (places : List (Option Host)) (p q : ℕ) (h : Host) → q < length places
    → number_of h ≡ q → Stand c kit now (Some p) places → IsTrue (has c.hosted p) → IsHost c kit p (new p) h
    → ((r : ℕ) → r ≢ p → new r ≡ now r) → Stand c kit new None (set places q (Some h))
back-stand c kit now new places p q h within mine stand among is others =
    let same : p ≡ q = sym (its-number c kit p (new p) h is) ∙ mine in
    subst (λ k. Stand c kit new None (set places k (Some h))) same
    (all-stand c kit now new places p h (subst (λ k. k < length places) (sym same) within) stand among is others)
