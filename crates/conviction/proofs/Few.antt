-- A process has at most one claim of each group of a frame, and a frame has at most 255 groups.
use Rattle.std.proofs.Common.{◌≡◌, ℕ, zero, suc, ◌+◌, ◌<◌, ◌≤◌, Bool, true, false, ltb, eqb, List, [], ◌∷◌, ◌++◌, length, Result, Ok, Err, refl, ap, ◌∙◌, subst, arith}
use Rattle.std.specs.Prelude.{◌==◌, cond, nat_le, not, IfOk}
use Rattle.std.specs.List.{AllByRecursion}
use Rattle.std.specs.Int.{w8, w16}
use Rattle.std.proofs.lemmas.Bool.{eqb-true, ltb-false, ne_eqb}
use Rattle.std.proofs.lemmas.List.{length-append}
use Rattle.std.proofs.lemmas.List.Elements.{filter-append}
use Rattle.byte_defs.specs.Fields.{number_at, bytes_at}
use Rattle.byte_defs.specs.Reads.{Gives}
use Rattle.byte_defs.proofs.Fields.{bind_ok, refuse_ok, ok_is}
use Rattle.message_defs.specs.declared.FrameFault.{FrameFault}
use Rattle.message_defs.specs.declared.FrameFault.TheVariants as faults
use Rattle.message_defs.specs.Frames.{Group, signature_at, signatures_at, group_at, groups_at}
use Rattle.message_defs.specs.Statements.{Statement, Claim}
use Rattle.message_defs.specs.Reading.{statement_in}
use Rattle.message_defs.specs.Claims.{claims_of, claims_on, claims_of_group, claims_of_groups, in_bundle, in_proof}
use Rattle.message_defs.specs.Limits.{last_number, most_places}
use Rattle.frame_codec.specs.Views.{frame_view, groups_left, items_of}
use Rattle.frame_codec.specs.declared.groups.FrameView as code
use Rattle.frame_codec.specs.declared.groups.FrameView.TheVariants.{Bundle, Proof, Want}
use Rattle.stmt_codec.specs.declared.cursor.Claims.{Claims}
use Rattle.stmt_codec.specs.Left.{claims_left}
use Rattle.conviction.specs.Own.{claims_of_signer}

-- ---- the signers of a group rise

-- from this number on
abbrev Rise : ℕ → List (ℕ × List ℕ) → Type 0
Rise least [] = Unit {0}
Rise least (s ∷ more) = (least ≤ s.0) × Rise (s.0 + 1) more

abbrev AllRise : List Group → Type 0
AllRise groups = AllByRecursion (λ g. Rise 0 g.signatures) groups

signature_rises : (least : ℕ) (bytes : List ℕ) (x : (ℕ × List ℕ) × List ℕ) → signature_at least bytes ≡ Ok x → least ≤ x.0.0
unfolding signature_at
signature_rises least bytes x e =
    let a = bind_ok (number_at faults.Short w8 bytes) _ x e in
    let b = refuse_ok (ltb a.0.0 least) faults.Unordered _ x a.2 in
    let d = bind_ok (number_at faults.Short w16 a.0.1) _ x b.1 in
    let few = refuse_ok (ltb 16384 d.0.0) faults.Length _ x d.2 in
    let s = bind_ok (bytes_at faults.Length d.0.0 d.0.1) _ x few.1 in
    let made : (ℕ × List ℕ) × List ℕ = ((a.0.0, s.0.0), s.0.1) in
    subst (λ (y : (ℕ × List ℕ) × List ℕ). least ≤ y.0.0) (ok_is made x s.2) (ltb-false a.0.0 least b.0)

signatures_rise : (n least : ℕ) (bytes : List ℕ) (x : List (ℕ × List ℕ) × List ℕ) → signatures_at n least bytes ≡ Ok x → Rise least x.0
unfolding signatures_at
signatures_rise zero least bytes x e = subst (λ (y : List (ℕ × List ℕ) × List ℕ). Rise least y.0) (ok_is ([], bytes) x e) tt
signatures_rise (suc n) least bytes x e =
    let a = bind_ok (signature_at least bytes) _ x e in
    let b = bind_ok (signatures_at n (a.0.0.0 + 1) a.0.1) _ x a.2 in
    let made : List (ℕ × List ℕ) × List ℕ = (a.0.0 ∷ b.0.0, b.0.1) in
    subst (λ (y : List (ℕ × List ℕ) × List ℕ). Rise least y.0) (ok_is made x b.2)
    (signature_rises least bytes a.0 a.1, signatures_rise n (a.0.0.0 + 1) a.0.1 b.0 b.1)

group_rises : (bytes : List ℕ) (x : Group × List ℕ) → group_at bytes ≡ Ok x → Rise 0 x.0.signatures
unfolding group_at
group_rises bytes x e =
    let a = bind_ok (number_at faults.Short w16 bytes) _ x e in
    let b = bind_ok (bytes_at faults.Length a.0.0 a.0.1) _ x a.2 in
    let d = bind_ok (number_at faults.Short w8 b.0.1) _ x b.2 in
    let some = refuse_ok (eqb d.0.0 0) faults.Count _ x d.2 in
    let few = refuse_ok (ltb 16 d.0.0) faults.Count _ x some.1 in
    let s = bind_ok (signatures_at d.0.0 0 d.0.1) _ x few.1 in
    let made : Group × List ℕ = (record { statement = b.0.0; signatures = s.0.0 }, s.0.1) in
    subst (λ (y : Group × List ℕ). Rise 0 y.0.signatures) (ok_is made x s.2) (signatures_rise d.0.0 0 d.0.1 s.0 s.1)

groups_rise : (n : ℕ) (bytes : List ℕ) (x : List Group × List ℕ) → groups_at n bytes ≡ Ok x → AllRise x.0 × (length x.0 ≡ n)
unfolding groups_at
groups_rise zero bytes x e =
    subst (λ (y : List Group × List ℕ). AllRise y.0 × (length y.0 ≡ 0)) (ok_is ([], bytes) x e) (tt, refl)
groups_rise (suc n) bytes x e =
    let a = bind_ok (group_at bytes) _ x e in
    let b = bind_ok (groups_at n a.0.1) _ x a.2 in
    let others = groups_rise n a.0.1 b.0 b.1 in
    let made : List Group × List ℕ = (a.0.0 ∷ b.0.0, b.0.1) in
    subst (λ (y : List Group × List ℕ). AllRise y.0 × (length y.0 ≡ suc n)) (ok_is made x b.2)
    ((group_rises bytes a.0 a.1, others.0), ap suc others.1)

items_rise : (n : ℕ) (bytes : List ℕ) (read : Result (List Group × List ℕ) FrameFault) → groups_at n bytes ≡ read
    → AllRise (items_of read) × (length (items_of read) ≤ n)
items_rise n bytes (Ok x) e = let x' = groups_rise n bytes x e in (x'.0, omega (arith, x'.1))
items_rise n bytes (Err d) e = (tt, omega arith)

-- ---- the claims

module _ (q : ℕ) where
  -- none of the process, whose number is passed
  none_passed : (st : Statement) (least : ℕ) (signatures : List (ℕ × List ℕ)) (cs : List Claim) → Rise least signatures → q < least
      → claims_on st signatures ≡ Ok cs → claims_of_signer cs q ≡ []
  unfolding claims_on
  none_passed st least [] cs rise passed e = subst (λ (ds : List Claim). claims_of_signer ds q ≡ []) (ok_is [] cs e) refl
  none_passed st least (s ∷ more) cs rise passed e =
      let a = refuse_ok (ltb 63 s.0) _ _ cs e in
      let b = bind_ok (claims_on st more) _ cs a.1 in
      let one : Claim = record { signer = s.0; statement = st; signature = s.1 } in
      let other : (s.0 == q) ≡ false = ne_eqb s.0 q (λ is. omega (arith, rise.0)) in
      let rest = none_passed st (s.0 + 1) more b.0 rise.1 (omega (arith, rise.0)) b.1 in
      subst (λ (ds : List Claim). claims_of_signer ds q ≡ []) (ok_is (one ∷ b.0) cs b.2)
      (ap (λ t. cond t (one ∷ claims_of_signer b.0 q) (claims_of_signer b.0 q)) other ∙ rest)

  one_on : (st : Statement) (least : ℕ) (signatures : List (ℕ × List ℕ)) (cs : List Claim) → Rise least signatures
      → claims_on st signatures ≡ Ok cs → length (claims_of_signer cs q) ≤ 1
  unfolding claims_on
  one_on st least [] cs rise e = subst (λ (ds : List Claim). length (claims_of_signer ds q) ≤ 1) (ok_is [] cs e) (omega arith)
  one_on st least (s ∷ more) cs rise e =
      let a = refuse_ok (ltb 63 s.0) _ _ cs e in
      let b = bind_ok (claims_on st more) _ cs a.1 in
      let one : Claim = record { signer = s.0; statement = st; signature = s.1 } in
      subst (λ (ds : List Claim). length (claims_of_signer ds q) ≤ 1) (ok_is (one ∷ b.0) cs b.2)
      (go one b.0 (s.0 == q) (one_on st (s.0 + 1) more b.0 rise.1 b.1)
      (λ is. none_passed st (s.0 + 1) more b.0 rise.1 (let at = eqb-true s.0 q is in omega (arith, at)) b.1))
    where
      go : (one : Claim) (others : List Claim) (t : Bool) → length (claims_of_signer others q) ≤ 1
          → (t ≡ true → claims_of_signer others q ≡ [])
          → length (cond t (one ∷ claims_of_signer others q) (claims_of_signer others q)) ≤ 1
      go one others true le none = let zero' = ap length (none refl) in omega (arith, zero')
      go one others false le none = le

  module _ (carries : ℕ → Bool) where
    one_of_group : (g : Group) (cs : List Claim) → Rise 0 g.signatures → claims_of_group carries g ≡ Ok cs
        → length (claims_of_signer cs q) ≤ 1
    unfolding claims_of_group
    one_of_group g cs rise e =
        let a = bind_ok (statement_in carries g.statement) _ cs e in
        one_on a.0 0 g.signatures cs rise a.2

    one_of_each : (gs : List Group) (cs : List Claim) → AllRise gs → claims_of_groups carries gs ≡ Ok cs
        → length (claims_of_signer cs q) ≤ length gs
    unfolding claims_of_groups
    one_of_each [] cs rise e = subst (λ (ds : List Claim). length (claims_of_signer ds q) ≤ 0) (ok_is [] cs e) (omega arith)
    one_of_each (g ∷ gs) cs rise e =
        let a = bind_ok (claims_of_group carries g) _ cs e in
        let b = bind_ok (claims_of_groups carries gs) _ cs a.2 in
        let first = one_of_group g a.0 rise.0 a.1 in
        let others = one_of_each gs b.0 rise.1 b.1 in
        let both = ap length (filter-append (λ (c : Claim). c.signer == q) a.0 b.0) in
        let sum = length-append (claims_of_signer a.0 q) (claims_of_signer b.0 q) in
        subst (λ (ds : List Claim). length (claims_of_signer ds q) ≤ suc (length gs)) (ok_is (a.0 ++ b.0) cs b.2)
        (omega (arith, first, others, both, sum))

-- ---- a frame

-- the groups that an iterator has left are no more than it counts
pub left-counted : (n : ℕ) (bytes : List ℕ) → length (items_of (groups_at n bytes)) ≤ n
left-counted n bytes = (items_rise n bytes (groups_at n bytes) refl).1

-- a frame has at most 255 groups
abbrev pub HasFew : code.FrameView → Type 0
HasFew (Bundle gs) = length (groups_left gs) ≤ 255
HasFew (Proof gs) = length (groups_left gs) ≤ 255
HasFew (Want x k) = Unit {0}

pub few-claims : (f : code.FrameView) → HasFew f → (cs : List Claim) (q : ℕ) → claims_of (frame_view f) ≡ Ok cs
    → length (claims_of_signer cs q) ≤ 255
unfolding claims_of
few-claims (Bundle gs) few cs q e =
    let le = one_of_each q in_bundle (groups_left gs) cs (items_rise gs.left gs.bytes.now (groups_at gs.left gs.bytes.now) refl).0 e in
    omega (arith, le, few)
few-claims (Proof gs) few cs q e =
    let le = one_of_each q in_proof (groups_left gs) cs (items_rise gs.left gs.bytes.now (groups_at gs.left gs.bytes.now) refl).0 e in
    omega (arith, le, few)
few-claims (Want x k) few cs q e =
    let a = refuse_ok (not (nat_le x last_number)) _ _ cs e in
    let b = refuse_ok (not (nat_le k most_places)) _ _ cs a.1 in
    subst (λ (ds : List Claim). length (claims_of_signer ds q) ≤ 255) (ok_is [] cs b.1) (omega arith)

-- the same of what was read
pub passed-on : (r : Result Claims FrameFault) (f : code.FrameView) → Gives claims_left r (claims_of (frame_view f))
    → ((cs : List Claim) (q : ℕ) → claims_of (frame_view f) ≡ Ok cs → length (claims_of_signer cs q) ≤ 255)
    → IfOk r (λ cs. (q : ℕ) → length (claims_of_signer (claims_left cs) q) ≤ 255)
passed-on (Ok claims) f exact few = λ q. few (claims_left claims) q exact
passed-on (Err fault) f exact few = tt
