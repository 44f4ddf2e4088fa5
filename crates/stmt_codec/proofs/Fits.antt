-- The claims of a frame are in range: each signer, each statement, and each signature's length.
use Rattle.std.proofs.Common.{◌≡◌, ℕ, zero, suc, ◌+◌, ◌≤◌, Bool, ltb, eqb, List, [], ◌∷◌, ◌++◌, length, take, drop, Result, Ok, Err, refl, subst, arith}
use Rattle.std.specs.List.{AllByRecursion}
use Rattle.std.proofs.lemmas.Bool.{ltb-false}
use Rattle.std.proofs.lemmas.List.{length-take}
use Rattle.std.specs.Int.{w8, w16}
use Rattle.frame_codec.specs.Below.{number_at, bytes_at}
use Rattle.frame_codec.proofs.Below.{bind_ok, refuse_ok, guard_ok, ok_is}
use Rattle.message_defs.specs.declared.FrameFault.{FrameFault}
use Rattle.message_defs.specs.declared.FrameFault.TheVariants as faults
use Rattle.message_defs.specs.Frames.{Group, signature_at, signatures_at, group_at, groups_at}
use Rattle.message_defs.specs.Statements.{Statement, Claim}
use Rattle.message_defs.specs.Spelling.{IsStatement, IsClaim}
use Rattle.message_defs.specs.Reading.{statement_in}
use Rattle.message_defs.specs.Claims.{claims_on, claims_of_group, claims_of_groups}
use Rattle.frame_codec.specs.Views.{items_of}
use Rattle.stmt_codec.specs.Cursor.{both, given}
use Rattle.statements.proofs.Grammar.{statement_takes}

-- ---- the signatures of a frame are short

abbrev pub AreShort : List (ℕ × List ℕ) → Type 0
AreShort signatures = AllByRecursion (λ s. length s.1 ≤ 16384) signatures

abbrev pub HaveShort : List Group → Type 0
HaveShort groups = AllByRecursion (λ g. AreShort g.signatures) groups

bytes_within : (n : ℕ) (bytes : List ℕ) (x : List ℕ × List ℕ) → bytes_at faults.Length n bytes ≡ Ok x → length x.0 ≤ n
bytes_within n bytes x e =
    let g = guard_ok (ltb (length bytes) n) faults.Length (take n bytes, drop n bytes) x e in
    subst (λ (y : List ℕ × List ℕ). length y.0 ≤ n) g.1 (omega (arith, length-take n bytes))

signature_short : (least : ℕ) (bytes : List ℕ) (x : (ℕ × List ℕ) × List ℕ) → signature_at least bytes ≡ Ok x → length x.0.1 ≤ 16384
unfolding signature_at
signature_short least bytes x e =
    let a = bind_ok (number_at faults.Short w8 bytes) _ x e in
    let b = refuse_ok (ltb a.0.0 least) faults.Unordered _ x a.2 in
    let d = bind_ok (number_at faults.Short w16 a.0.1) _ x b.1 in
    let few = refuse_ok (ltb 16384 d.0.0) faults.Length _ x d.2 in
    let s = bind_ok (bytes_at faults.Length d.0.0 d.0.1) _ x few.1 in
    let le : d.0.0 ≤ 16384 = ltb-false _ _ few.0 in
    let short : length s.0.0 ≤ 16384 = omega (arith, bytes_within d.0.0 d.0.1 s.0 s.1) in
    let made : (ℕ × List ℕ) × List ℕ = ((a.0.0, s.0.0), s.0.1) in
    subst (λ (y : (ℕ × List ℕ) × List ℕ). length y.0.1 ≤ 16384) (ok_is made x s.2) short

signatures_short : (n least : ℕ) (bytes : List ℕ) (x : List (ℕ × List ℕ) × List ℕ) → signatures_at n least bytes ≡ Ok x → AreShort x.0
unfolding signatures_at
signatures_short zero least bytes x e = subst (λ (y : List (ℕ × List ℕ) × List ℕ). AreShort y.0) (ok_is ([], bytes) x e) tt
signatures_short (suc n) least bytes x e =
    let a = bind_ok (signature_at least bytes) _ x e in
    let b = bind_ok (signatures_at n (a.0.0.0 + 1) a.0.1) _ x a.2 in
    let made : List (ℕ × List ℕ) × List ℕ = (a.0.0 ∷ b.0.0, b.0.1) in
    subst (λ (y : List (ℕ × List ℕ) × List ℕ). AreShort y.0) (ok_is made x b.2)
    (signature_short least bytes a.0 a.1, signatures_short n (a.0.0.0 + 1) a.0.1 b.0 b.1)

group_short : (bytes : List ℕ) (x : Group × List ℕ) → group_at bytes ≡ Ok x → AreShort x.0.signatures
unfolding group_at
group_short bytes x e =
    let a = bind_ok (number_at faults.Short w16 bytes) _ x e in
    let b = bind_ok (bytes_at faults.Length a.0.0 a.0.1) _ x a.2 in
    let d = bind_ok (number_at faults.Short w8 b.0.1) _ x b.2 in
    let some = refuse_ok (eqb d.0.0 0) faults.Count _ x d.2 in
    let few = refuse_ok (ltb 16 d.0.0) faults.Count _ x some.1 in
    let s = bind_ok (signatures_at d.0.0 0 d.0.1) _ x few.1 in
    let made : Group × List ℕ = (record { statement = b.0.0; signatures = s.0.0 }, s.0.1) in
    subst (λ (y : Group × List ℕ). AreShort y.0.signatures) (ok_is made x s.2) (signatures_short d.0.0 0 d.0.1 s.0 s.1)

groups_short : (n : ℕ) (bytes : List ℕ) (x : List Group × List ℕ) → groups_at n bytes ≡ Ok x → HaveShort x.0
unfolding groups_at
groups_short zero bytes x e = subst (λ (y : List Group × List ℕ). HaveShort y.0) (ok_is ([], bytes) x e) tt
groups_short (suc n) bytes x e =
    let a = bind_ok (group_at bytes) _ x e in
    let b = bind_ok (groups_at n a.0.1) _ x a.2 in
    let made : List Group × List ℕ = (a.0.0 ∷ b.0.0, b.0.1) in
    subst (λ (y : List Group × List ℕ). HaveShort y.0) (ok_is made x b.2) (group_short bytes a.0 a.1, groups_short n a.0.1 b.0 b.1)

items_short : (n : ℕ) (bytes : List ℕ) (read : Result (List Group × List ℕ) FrameFault) → groups_at n bytes ≡ read
    → HaveShort (items_of read)
items_short n bytes (Ok x) e = groups_short n bytes x e
items_short n bytes (Err d) e = tt

pub groups_have_short : (n : ℕ) (bytes : List ℕ) → HaveShort (items_of (groups_at n bytes))
groups_have_short n bytes = items_short n bytes (groups_at n bytes) refl

-- ---- the claims

abbrev pub AreClaims : List Claim → Type 0
AreClaims cs = AllByRecursion IsClaim cs

are_both : (cs ds : List Claim) → AreClaims cs → AreClaims ds → AreClaims (cs ++ ds)
are_both [] ds p q = q
are_both (c ∷ cs) ds p q = (p.0, are_both cs ds p.1 q)

on_fit : (st : Statement) (signatures : List (ℕ × List ℕ)) (cs : List Claim) → IsStatement st → AreShort signatures
    → claims_on st signatures ≡ Ok cs → AreClaims cs
unfolding claims_on
on_fit st [] cs fits short e = subst (λ (ds : List Claim). AreClaims ds) (ok_is [] cs e) tt
on_fit st (s ∷ more) cs fits short e =
    let a = refuse_ok (ltb 63 s.0) faults.Range _ cs e in
    let b = bind_ok (claims_on st more) _ cs a.1 in
    let one : Claim = record { signer = s.0; statement = st; signature = s.1 } in
    subst (λ (ds : List Claim). AreClaims ds) (ok_is (one ∷ b.0) cs b.2)
    ((ltb-false _ _ a.0, fits, short.0), on_fit st more b.0 fits short.1 b.1)

module _ (carries : ℕ → Bool) where
  group_fits : (g : Group) (cs : List Claim) → AreShort g.signatures → claims_of_group carries g ≡ Ok cs → AreClaims cs
  unfolding claims_of_group
  group_fits g cs short e =
      let a = bind_ok (statement_in carries g.statement) _ cs e in
      on_fit a.0 g.signatures cs (statement_takes carries g.statement a.0 a.1).0 short a.2

  pub groups_fit : (gs : List Group) (cs : List Claim) → HaveShort gs → claims_of_groups carries gs ≡ Ok cs → AreClaims cs
  unfolding claims_of_groups
  groups_fit [] cs short e = subst (λ (ds : List Claim). AreClaims ds) (ok_is [] cs e) tt
  groups_fit (g ∷ gs) cs short e =
      let a = bind_ok (claims_of_group carries g) _ cs e in
      let b = bind_ok (claims_of_groups carries gs) _ cs a.2 in
      subst (λ (ds : List Claim). AreClaims ds) (ok_is (a.0 ++ b.0) cs b.2)
      (are_both a.0 b.0 (group_fits g a.0 short.0 a.1) (groups_fit gs b.0 short.1 b.1))

-- those that an iterator has left where no group was begun
pub are_given : (carries : ℕ → Bool) (gs : List Group) (read : Result (List Claim) FrameFault) → HaveShort gs
    → claims_of_groups carries gs ≡ read → AreClaims (given (both (Ok []) read))
are_given carries gs (Ok cs) short e = groups_fit carries gs cs short e
are_given carries gs (Err d) short e = tt
