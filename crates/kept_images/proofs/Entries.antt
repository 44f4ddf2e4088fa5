-- What the tests of single entries say.
use Rattle.std.proofs.Common.{◌≡◌, ◌≢◌, ℕ, ◌≤◌, List, Bool, true, false, refl, sym, ap, inl, inr, arith}
use Rattle.std.specs.Prelude.{◌&&◌, ◌||◌, not, nat_lt, nat_le, ◌==◌, length, IsTrue, ◌↔◌}
use Rattle.std.proofs.lemmas.Bool.{ltb-true, ltb-false, leb-true, le-leb, eqb-true, eq-eqb}
use Rattle.message_defs.specs.Limits.{most_places, most_payload_bytes}
use Rattle.message_defs.specs.Updates.{Update, Value}
use Rattle.message_defs.specs.Statements.{Statement, Ready, Claim, Conflicts, slot_of, view_of, same_slot, same_statement}
use Rattle.group_defs.specs.Views.{View, is_member, is_possible}
use Rattle.group_defs.specs.Process.{Setting, Delivered, places_in}
use Rattle.group_defs.specs.Accounts.{IsByPlace, is_by_place}
use Rattle.group_defs.specs.Hearing.{is_valid}
use Rattle.pool_laws.proofs.Slots.{same_slot-is, is-same_slot, same_statement-is, is-same_statement}
use Rattle.pool_laws.proofs.Tests.{and-first, and-second, both-true, or-cases, not-both}
use Rattle.safety_laws.proofs.SoundTested.{stands-there, there-stands}
use Rattle.kept_images.specs.Tests.{is_perceived, is_short, is_placed, is_own, conflicting, is_conflict, commits}

-- two tests that hold together are one
pub same-truth : (a b : Bool) → (a ≡ true → b ≡ true) → (b ≡ true → a ≡ true) → a ≡ b
same-truth true b there back = sym (there refl)
same-truth false true there back = back refl
same-truth false false there back = refl

-- ---- perceived

pub perceived-so : (keyed : List ℕ) (v : View) (e : ℕ × Update) → is_perceived keyed v e ≡ true
    → (e.0 ≤ v.number) × (e.0 ≡ v.number → IsTrue (is_possible keyed v e.1))
perceived-so keyed v e ok = elim (or-cases (nat_lt e.0 v.number) (e.0 == v.number && is_possible keyed v e.1) ok) [
  | inl below ↦ (let lt = ltb-true e.0 v.number below in (omega (arith, lt), λ is. absurd (omega (arith, lt, is))))
  | inr here ↦
      (let is = eqb-true e.0 v.number (and-first (e.0 == v.number) (is_possible keyed v e.1) here) in
      (omega (arith, is), λ _. and-second (e.0 == v.number) (is_possible keyed v e.1) here))
]

pub so-perceived : (keyed : List ℕ) (v : View) (e : ℕ × Update)
    → (e.0 ≤ v.number) × (e.0 ≡ v.number → IsTrue (is_possible keyed v e.1)) → is_perceived keyed v e ≡ true
so-perceived keyed v e so = go (nat_lt e.0 v.number) refl
  where
    go : (b : Bool) → nat_lt e.0 v.number ≡ b → (b || (e.0 == v.number && is_possible keyed v e.1)) ≡ true
    go true is = refl
    go false is =
        let same : e.0 ≡ v.number = (let le = ltb-false e.0 v.number is in omega (arith, le, so.0)) in
        both-true (e.0 == v.number) (is_possible keyed v e.1) (eq-eqb e.0 v.number same) (so.1 same)

-- ---- accepted

pub short-so : (payload : List ℕ) → is_short payload ≡ true → length payload ≤ most_payload_bytes
short-so payload ok = leb-true (length payload) most_payload_bytes ok

pub so-short : (payload : List ℕ) → length payload ≤ most_payload_bytes → is_short payload ≡ true
so-short payload le = le-leb (length payload) most_payload_bytes le

-- ---- placed

pub placed-so : (ds : List Delivered) → is_placed ds ≡ true → IsByPlace ds × (places_in ds ≤ most_places)
placed-so ds ok = (
  stands-there ds (and-second (nat_le (places_in ds) most_places) (is_by_place ds) ok),
  leb-true (places_in ds) most_places (and-first (nat_le (places_in ds) most_places) (is_by_place ds) ok),
)

pub so-placed : (ds : List Delivered) → IsByPlace ds × (places_in ds ≤ most_places) → is_placed ds ≡ true
so-placed ds so = both-true (nat_le (places_in ds) most_places) (is_by_place ds) (le-leb (places_in ds) most_places so.1)
    (there-stands ds so.0)

-- ---- claims

pub own-so : (s : Setting) (me : ℕ) (v : View) (c : Claim) → is_own s me v c ≡ true
    → (c.signer ≡ me) × (view_of c.statement ≤ v.number) × IsTrue (is_valid s c)
own-so s me v c ok =
    let rest = and-second (c.signer == me) (nat_le (view_of c.statement) v.number && is_valid s c) ok in (
      eqb-true c.signer me (and-first (c.signer == me) (nat_le (view_of c.statement) v.number && is_valid s c) ok),
      leb-true (view_of c.statement) v.number (and-first (nat_le (view_of c.statement) v.number) (is_valid s c) rest),
      and-second (nat_le (view_of c.statement) v.number) (is_valid s c) rest,
    )

pub so-own : (s : Setting) (me : ℕ) (v : View) (c : Claim) → (c.signer ≡ me) × (view_of c.statement ≤ v.number) × IsTrue (is_valid s c)
    → is_own s me v c ≡ true
so-own s me v c so = both-true (c.signer == me) (nat_le (view_of c.statement) v.number && is_valid s c) (eq-eqb c.signer me so.0)
    (both-true (nat_le (view_of c.statement) v.number) (is_valid s c) (le-leb (view_of c.statement) v.number so.1) so.2)

pub conflicting-so : (a b : Statement) → conflicting a b ≡ true → (slot_of a ≡ slot_of b) × (a ≢ b)
conflicting-so a b ok = (
  same_slot-is (slot_of a) (slot_of b) (and-first (same_slot (slot_of a) (slot_of b)) (not (same_statement a b)) ok),
  λ is. differs (same_statement a b) (is-same_statement a b is)
      (and-second (same_slot (slot_of a) (slot_of b)) (not (same_statement a b)) ok),
)
  where
    differs : (t : Bool) → t ≡ true → not t ≡ true → ⊥
    differs true e f = cc
    differs false e f = cc

pub so-conflicting : (a b : Statement) → (slot_of a ≡ slot_of b) × (a ≢ b) → conflicting a b ≡ true
so-conflicting a b so = both-true (same_slot (slot_of a) (slot_of b)) (not (same_statement a b)) (is-same_slot (slot_of a) (slot_of b) so.0)
    (go (same_statement a b) refl)
  where
    go : (t : Bool) → same_statement a b ≡ t → not t ≡ true
    go true e = absurd (so.1 (same_statement-is a b e))
    go false e = refl

-- statements of one slot that don't conflict are one
pub same-of : (a b : Statement) (slot differ : Bool) → (IsTrue slot ↔ (slot_of a ≡ slot_of b))
    → (IsTrue differ ↔ ((slot_of a ≡ slot_of b) × (a ≢ b))) → (slot && not differ) ≡ same_statement a b
same-of a b slot differ on_slot apart = same-truth (slot && not differ) (same_statement a b) there back
  where
    there : (slot && not differ) ≡ true → same_statement a b ≡ true
    there ok = go (same_statement a b) refl
      where
        go : (t : Bool) → same_statement a b ≡ t → t ≡ true
        go true e = refl
        go false e = absurd (not-both differ
            (apart.1 (on_slot.0 (and-first slot (not differ) ok), λ is. false-true (is-same_statement a b is) e))
            (and-second slot (not differ) ok))
          where
            false-true : {t : Bool} → t ≡ true → t ≡ false → ⊥
            false-true e f = cc

    back : same_statement a b ≡ true → (slot && not differ) ≡ true
    back ok =
        let is = same_statement-is a b ok in
        both-true slot (not differ) (on_slot.1 (ap slot_of is)) (go differ refl)
      where
        go : (t : Bool) → differ ≡ t → not t ≡ true
        go true e = absurd ((apart.0 e).1 (same_statement-is a b ok))
        go false e = refl

pub conflict-so : (s : Setting) (e : Claim × Claim) → is_conflict s e ≡ true
    → (e.0.signer ≡ e.1.signer) × Conflicts e.0 e.1 × IsTrue (is_valid s e.0) × IsTrue (is_valid s e.1)
conflict-so s e ok =
    let valid : Bool = is_valid s e.0 && is_valid s e.1 in
    let differ : Bool = conflicting e.0.statement e.1.statement in
    let rest = and-second (e.0.signer == e.1.signer) (differ && valid) ok in
    let signer = eqb-true e.0.signer e.1.signer (and-first (e.0.signer == e.1.signer) (differ && valid) ok) in
    let two = conflicting-so e.0.statement e.1.statement (and-first differ valid rest) in
    let both = and-second differ valid rest in
    (signer, (signer, two.0, two.1), and-first (is_valid s e.0) (is_valid s e.1) both, and-second (is_valid s e.0) (is_valid s e.1) both)

pub so-conflict : (s : Setting) (e : Claim × Claim)
    → (e.0.signer ≡ e.1.signer) × Conflicts e.0 e.1 × IsTrue (is_valid s e.0) × IsTrue (is_valid s e.1) → is_conflict s e ≡ true
so-conflict s e so =
    let valid : Bool = is_valid s e.0 && is_valid s e.1 in
    let differ : Bool = conflicting e.0.statement e.1.statement in
    both-true (e.0.signer == e.1.signer) (differ && valid) (eq-eqb e.0.signer e.1.signer so.0)
    (both-true differ valid (so-conflicting e.0.statement e.1.statement (so.1.1, so.1.2))
    (both-true (is_valid s e.0) (is_valid s e.1) so.2 so.3))

pub commits-so : (s : Setting) (v : View) (rank : ℕ) (value : Value) (c : Claim) → commits s v rank value c ≡ true
    → IsTrue (is_member v c.signer) × (c.statement ≡ Ready v.number rank value) × IsTrue (is_valid s c)
commits-so s v rank value c ok =
    let said : Bool = same_statement c.statement (Ready v.number rank value) in
    let rest = and-second (is_member v c.signer) (said && is_valid s c) ok in (
      and-first (is_member v c.signer) (said && is_valid s c) ok,
      same_statement-is c.statement (Ready v.number rank value) (and-first said (is_valid s c) rest),
      and-second said (is_valid s c) rest,
    )

pub so-commits : (s : Setting) (v : View) (rank : ℕ) (value : Value) (c : Claim)
    → IsTrue (is_member v c.signer) × (c.statement ≡ Ready v.number rank value) × IsTrue (is_valid s c) → commits s v rank value c ≡ true
so-commits s v rank value c so =
    let said : Bool = same_statement c.statement (Ready v.number rank value) in
    both-true (is_member v c.signer) (said && is_valid s c) so.0
    (both-true said (is_valid s c) (is-same_statement c.statement (Ready v.number rank value) so.1) so.2)
