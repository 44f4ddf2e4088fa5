-- A process that signs on: one statement more, one kind more, and the end.
use Rattle.std.proofs.Common.{◌≡◌, ℕ, zero, suc, ◌-◌, ◌<◌, ◌≤◌, List, [], ◌∷◌, ◌++◌, Bool, true, false, Some, None, refl, sym, ◌∙◌, ap, subst, length, drop, map, arith, append_assoc}
use Rattle.std.specs.Prelude.{is_some}
use Rattle.std.proofs.lemmas.List.{append-nil, map-append}
use Rattle.message_defs.specs.Packing.{Signed, signed_of}
use Rattle.message_defs.specs.Statements.{Statement, Claim}
use Rattle.group_defs.specs.Process.{Kind, Setting, Process}
use Rattle.group_defs.specs.Due.{least_due}
use Rattle.group_defs.specs.Signing.{Signer, Signing, own_claim, signs, sign_kind, sign_kinds}
use Rattle.member_state.specs.declared.state.ProcessState.{ProcessState}
use Rattle.member_state.specs.States.{IsStateOf}
use Rattle.member_signing.specs.Signed.{IsSigned}
use Rattle.member_signing.proofs.ByKind.{still, kind_done, kind_lacks, kinds_done, none_due, one_due, none_left}
use Rattle.member_signing.proofs.Lists.{behind, grew-twice, grown-twice, rest-of}

-- nothing is signed yet
pub begins : (s : Setting) (p : Process) (st : ProcessState) (total used : ℕ) (before : List Signed) → IsStateOf s p st
    → length p.signed ≡ used → IsSigned s p (still (total - used) false p) st total used before before false
begins s p st total used before is count = record {
  state = is;
  spent = refl;
  used = count;
  left = refl;
  grown = ap (λ rest. p.signed ++ rest) (rest-of p.signed) ∙ append-nil p.signed;
  reported = sym (append-nil before) ∙ ap (λ (rest : List Claim). before ++ map signed_of rest) (sym (rest-of p.signed));
}

-- one statement
pub signs-one : (s : Setting) (sig : Signer) (q : Process) (st : ProcessState) (total used : ℕ) (before : List Signed) (said : Statement)
    (own : Signed) → IsStateOf s (signs s sig q said) st → suc (length q.signed) ≡ used → own ≡ signed_of (own_claim s sig q said)
    → IsSigned s q (still (total - used) false (signs s sig q said)) st total used before (before ++ own ∷ []) false
signs-one s sig q st total used before said own is count e = record {
  state = is;
  spent = refl;
  used = length-more q.signed (own_claim s sig q said) ∙ count;
  left = refl;
  grown = ap (λ rest. q.signed ++ rest) (behind q.signed (own_claim s sig q said ∷ []));
  reported = ap (λ c. before ++ c ∷ []) e ∙ ap (λ (rest : List Claim). before ++ map signed_of rest)
      (sym (behind q.signed (own_claim s sig q said ∷ [])));
}
  where
    length-more : (cs : List Claim) (c : Claim) → length (cs ++ c ∷ []) ≡ suc (length cs)
    length-more [] c = refl
    length-more (d ∷ cs) c = ap suc (length-more cs c)

-- what p signed, and what was signed behind that
pub goes-on : (s : Setting) (p q : Process) (one : Signing) (st st' : ProcessState) (total left used used' : ℕ)
    (before now now' : List Signed) (lacks : Bool) → IsSigned s p (still left false q) st total used before now false
    → IsSigned s q one st' total used' now now' lacks
    → IsSigned s p one st' total used' before now' lacks
goes-on s p q one st st' total left used used' before now now' lacks first then = record {
  state = then.state;
  spent = then.spent;
  used = then.used;
  left = then.left;
  grown = grown-twice p.signed q.signed one.now.signed first.grown then.grown;
  reported = then.reported ∙ ap (λ reported. reported ++ map signed_of (drop (length q.signed) one.now.signed)) first.reported ∙ append_assoc before _ _
      ∙ ap (λ rest. before ++ rest) (sym
      (ap (map signed_of) (grew-twice p.signed q.signed one.now.signed first.grown then.grown) ∙ map-append signed_of
      (drop (length p.signed) q.signed) (drop (length q.signed) one.now.signed)));
}

-- one statement more of the kind leads to the same end
pub same-end : (s : Setting) (sig : Signer) (kind : Kind) (q : Process) (said : Statement) (total used used' : ℕ)
    → least_due s q kind ≡ Some said → used < total → used' ≡ suc used
    → sign_kind s sig kind (total - used') (signs s sig q said) ≡ sign_kind s sig kind (total - used) q
same-end s sig kind q said total used used' due room more =
    let left : total - used ≡ suc (total - used') = omega arith in
    sym (ap (λ n. sign_kind s sig kind n q) left ∙ one_due s sig kind (total - used') q said due)

-- none of the kind is due
pub ends-none : (s : Setting) (sig : Signer) (kind : Kind) (p q : Process) (st : ProcessState) (total left used : ℕ)
    (before now : List Signed) → least_due s q kind ≡ None → IsSigned s p (still left false q) st total used before now false
    → IsSigned s p (sign_kind s sig kind left q) st total used before now false
ends-none s sig kind p q st total left used before now none is = subst (λ one. IsSigned s p one st total used before now false)
    (sym (none_due s sig kind left q none)) is

-- no signature is left
pub ends-spent : (s : Setting) (sig : Signer) (kind : Kind) (p q : Process) (st : ProcessState) (total used : ℕ) (before now : List Signed)
    (lacks : Bool) → total ≤ used → lacks ≡ is_some (least_due s q kind)
    → IsSigned s p (still (total - used) false q) st total used before now false
    → IsSigned s p (sign_kind s sig kind (total - used) q) st total used before now lacks
ends-spent s sig kind p q st total used before now lacks none due is =
    let left : total - used ≡ zero = omega arith in
    subst (λ one. IsSigned s p one st total used before now lacks) (sym (ap (λ n. sign_kind s sig kind n q) left ∙ none_left s sig kind q))
    (record { state = is.state; spent = sym due; used = is.used; left = sym left; grown = is.grown; reported = is.reported })

-- ---- kinds

-- a kind is done, and nothing was wanting
pub kind-more : (s : Setting) (sig : Signer) (kind : Kind) (more : List Kind) (p q : Process) (st st' : ProcessState) (total used used' : ℕ)
    (before now now' : List Signed) → IsSigned s p (still (total - used) false q) st total used before now false
    → IsSigned s q (sign_kind s sig kind (total - used) q) st' total used' now now' false
    → IsSigned s p (still (total - used') false (sign_kind s sig kind (total - used) q).now) st' total used' before now' false
    × (sign_kinds s sig more (total - used') (sign_kind s sig kind (total - used) q).now ≡ sign_kinds s sig (kind ∷ more) (total - used) q)
kind-more s sig kind more p q st st' total used used' before now now' first then =
    let on = goes-on s p q (sign_kind s sig kind (total - used) q) st st' total (total - used) used used' before now now' false first
    then in (
      record { state = on.state; spent = refl; used = on.used; left = refl; grown = on.grown; reported = on.reported },
      ap (λ left. sign_kinds s sig more left (sign_kind s sig kind (total - used) q).now)
          (sym then.left) ∙ sym (kind_done s sig kind more (total - used) q then.spent),
    )

-- a kind lacks a signature: no other is gone through
pub kind-lacks : (s : Setting) (sig : Signer) (kind : Kind) (more : List Kind) (p q : Process) (st st' : ProcessState)
    (total used used' : ℕ) (before now now' : List Signed) → IsSigned s p (still (total - used) false q) st total used before now false
    → IsSigned s q (sign_kind s sig kind (total - used) q) st' total used' now now' true
    → IsSigned s p (sign_kinds s sig (kind ∷ more) (total - used) q) st' total used' before now' true
kind-lacks s sig kind more p q st st' total used used' before now now' first then =
    let on = goes-on s p q (sign_kind s sig kind (total - used) q) st st' total (total - used) used used' before now now' true first then in
    subst (λ one. IsSigned s p one st' total used' before now' true) (sym (kind_lacks s sig kind more (total - used) q then.spent)) on

-- the same, of the key and the total that there were at first
pub as-at-first : (s : Setting) (q : Process) (kind : Kind) (st : ProcessState) (sig sig' : Signer) (total total' used used' : ℕ)
    (now now' : List Signed) (lacks lacks' : Bool) → sig ≡ sig' → total ≡ total' → lacks ≡ lacks'
    → IsSigned s q (sign_kind s sig kind (total - used) q) st total used' now now' lacks
    → IsSigned s q (sign_kind s sig' kind (total' - used) q) st total' used' now now' lacks'
as-at-first s q kind st sig sig' total total' used used' now now' lacks lacks' e f g is =
    subst (λ b. IsSigned s q (sign_kind s sig' kind (total' - used) q) st total' used' now now' b) g
    (subst (λ n. IsSigned s q (sign_kind s sig' kind (n - used) q) st n used' now now' lacks) f
    (subst (λ sig. IsSigned s q (sign_kind s sig kind (total - used) q) st total used' now now' lacks) e is))

-- the kinds are gone through
pub ends-kinds : (s : Setting) (sig : Signer) (kinds : List Kind) (p q : Process) (st : ProcessState) (total left used : ℕ)
    (before now : List Signed) → kinds ≡ [] → IsSigned s p (still left false q) st total used before now false
    → IsSigned s p (sign_kinds s sig kinds left q) st total used before now false
ends-kinds s sig kinds p q st total left used before now none is = subst (λ one. IsSigned s p one st total used before now false)
    (sym (ap (λ ks. sign_kinds s sig ks left q) none ∙ kinds_done s sig left q)) is
