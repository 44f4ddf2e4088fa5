-- Who is not convicted, and how honesty is told.
use Rattle.std.proofs.Common.{◌≡◌, ◌⊎◌, inl, inr, ℕ, List, Bool, true, false, refl, sym, ap, ◌∙◌, subst}
use Rattle.std.specs.Prelude.{All, Contains, IsTrue}
use Rattle.std.specs.List.Sorted.{IsStrictlyIncreasing}
use Rattle.message_defs.specs.Statements.{Claim, slot_of, same_statement}
use Rattle.message_defs.specs.Claims.{Frame}
use Rattle.group_defs.specs.Process.{Setting, Process}
use Rattle.group_defs.specs.Hearing.{is_valid}
use Rattle.group_defs.specs.Family.{Family, numbers, ends, handed, statements_of, IsOwned, Honest}
use Rattle.kit_defs.specs.Kits.{Kit}
use Rattle.pool_laws.proofs.Members.{All-mem, Contains-mem, Mem, map-mem, mem-All, mem-Contains, mem-map}
use Rattle.pool_laws.proofs.Slots.{same_statement-is, is-same_statement}
use Rattle.audit_defs.specs.Players.{setting_of}
use Rattle.conviction_defs.specs.Convictions.{Convicts, convicted}
use Rattle.audit_defs.specs.Audits.{Audited}
use Rattle.audit_defs.specs.Evidence.{convicted_by}
use Rattle.audit_defs.specs.Laws.{IsOfListed, NoneListedIsConvicted, HonestByFirsts, EvidenceSparesCorrect}
use Rattle.conviction_laws.proofs.Convicted.{convicted_is_convicts}
use Rattle.audit_laws.proofs.OwnWords.{one-word, own-name, number-of, of-number, one-process}
use Rattle.audit_laws.proofs.OfListed.{audit_is_of_listed}

-- claims of a correct process that are its own words do not conflict
spared : (f : Family) (claims : List Claim) (q : ℕ) (p : Process) → Mem p (ends f) → p.me ≡ q
    → ((c : Claim) → Mem c claims → c.signer ≡ q → is_valid f.setting c ≡ true → Mem c.statement (statements_of p))
    → Convicts f.setting claims q → ⊥
spared f claims q p m is words c =
    let one = words c.one (Contains-mem claims c.one c.one_of) c.signer c.one_valid in
    let other = words c.other (Contains-mem claims c.other c.other_of) (sym c.conflict.0 ∙ c.signer) c.other_valid in
    c.conflict.2 (one-word f p m c.one.statement c.other.statement one other c.conflict.1)

-- in an honest family the claims of an audit that a listed process has signed are its own words
words-of : (kit : Kit) (listed : List ℕ) (a : Audited) → IsOfListed kit listed a → IsStrictlyIncreasing listed → Honest a.family
    → (q : ℕ) (p : Process) → Mem p (ends a.family) → p.me ≡ q
    → (c : Claim) → Mem c a.claims → c.signer ≡ q → is_valid a.family.setting c ≡ true → Mem c.statement (statements_of p)
words-of kit listed a o rising honest' q p m is c n signer valid = go ((o.claims c).0 (mem-Contains a.claims c n))
  where
    go : Contains (handed a.family) c ⊎ ((p : Process) × Contains (ends a.family) p × Contains p.signed c) → Mem c.statement (statements_of p)
    go (inl there) =
        let owned = All-mem (IsOwned a.family) (handed a.family) c honest' (Contains-mem (handed a.family) c there) in
        Contains-mem (statements_of p) c.statement
        (All-mem (λ (p : Process). p.me ≡ c.signer → Contains (statements_of p) c.statement) (ends a.family) p (owned valid) m (is ∙ sym signer))
    go (inr own) =
        let in' = Contains-mem (ends a.family) own.0 own.1 in
        let said = Contains-mem own.0.signed c own.2 in
        let number : own.0.me ≡ p.me = sym (own-name a.family own.0 in' c said) ∙ signer ∙ sym is in
        let same = one-process a.family (subst IsStrictlyIncreasing (sym o.listed_are) rising) own.0 p in' m number in
        mem-map (λ (c : Claim). c.statement) p.signed c (subst (λ (p : Process). Mem c p.signed) same said)

none-of : (kit : Kit) (listed : List ℕ) (a : Audited) → IsOfListed kit listed a → IsStrictlyIncreasing listed → Honest a.family
    → (q : ℕ) → Contains listed q → Convicts a.family.setting a.claims q → ⊥
none-of kit listed a o rising honest' q there c =
    let p = of-number a.family q (subst (Mem q) (sym o.listed_are) (Contains-mem listed q there)) in
    spared a.family a.claims q p.0 p.1 p.2 (words-of kit listed a o rising honest' q p.0 p.1 p.2) c

pub none_listed_is_convicted : NoneListedIsConvicted
none_listed_is_convicted kit listed journals a rising e honest' q there m =
    none-of kit listed a (audit_is_of_listed kit listed journals a e) rising honest' q there
    ((convicted_is_convicts a.family.setting a.claims q).0 m)

-- ---- by the first claims

clash : {b : Bool} → b ≡ true → b ≡ false → ⊥
clash e e' = cc

module _ (kit : Kit) (listed : List ℕ) (a : Audited) (o : IsOfListed kit listed a) where
  abbrev HasFilled : Type 0
  HasFilled = (c : Claim) → Contains (handed a.family) c → IsTrue (is_valid a.family.setting c) → (p : Process) → Contains (ends a.family) p
      → p.me ≡ c.signer → (d : Claim) × Contains p.signed d × (slot_of d.statement ≡ slot_of c.statement)

  filled : Honest a.family → HasFilled
  filled honest' c there valid p in' is =
      let owned = All-mem (IsOwned a.family) (handed a.family) c honest' (Contains-mem (handed a.family) c there) in
      let word = Contains-mem (statements_of p) c.statement
      (All-mem (λ (p : Process). p.me ≡ c.signer → Contains (statements_of p) c.statement) (ends a.family) p (owned valid)
      (Contains-mem (ends a.family) p in') is) in
      let d = map-mem (λ (c : Claim). c.statement) p.signed c.statement word in
      (d.0, mem-Contains p.signed d.0 d.1, ap slot_of d.2)

  honest-of : ((q : ℕ) → Contains listed q → ¬ Convicts a.family.setting a.claims q) → HasFilled → Honest a.family
  honest-of none filled' = mem-All (IsOwned a.family) (handed a.family) (λ c m valid.
      mem-All (λ (p : Process). p.me ≡ c.signer → Contains (statements_of p) c.statement) (ends a.family) (λ p in' is.
      own c m valid p in' is (filled' c (mem-Contains (handed a.family) c m) valid p (mem-Contains (ends a.family) p in') is)))
    where
      own : (c : Claim) → Mem c (handed a.family) → IsTrue (is_valid a.family.setting c) → (p : Process) → Mem p (ends a.family) → p.me ≡ c.signer
          → (d : Claim) × Contains p.signed d × (slot_of d.statement ≡ slot_of c.statement) → Contains (statements_of p) c.statement
      own c m valid p in' is d = go (same_statement d.0.statement c.statement) refl
        where
          said : Mem d.0 p.signed
          said = Contains-mem p.signed d.0 d.1

          go : (b : Bool) → same_statement d.0.statement c.statement ≡ b → Contains (statements_of p) c.statement
          go true e = mem-Contains (statements_of p) c.statement (subst (λ st. Mem st (statements_of p))
              (same_statement-is d.0.statement c.statement e) (mem-map (λ (c : Claim). c.statement) p.signed d.0 said))
          go false e = absurd (none p.me (mem-Contains listed p.me (subst (Mem p.me) o.listed_are (number-of a.family p in'))) (record {
            one = d.0;
            other = c;
            one_of = (o.claims d.0).1 (inr (p, mem-Contains (ends a.family) p in', d.1));
            other_of = (o.claims c).1 (inl (mem-Contains (handed a.family) c m));
            signer = own-name a.family p in' d.0 said;
            one_valid = subst (λ (s : Setting). is_valid s d.0 ≡ true) (sym o.setting)
                (All-mem (λ (c : Claim). IsTrue (is_valid (setting_of kit) c)) p.signed d.0
                (All-mem (λ (p : Process). All (λ (c : Claim). IsTrue (is_valid (setting_of kit) c)) p.signed) (ends a.family) p o.valid in') said);
            other_valid = valid;
            conflict = (own-name a.family p in' d.0 said ∙ is, d.2, λ same. clash (is-same_statement d.0.statement c.statement same) e);
          }))

pub honest_by_firsts : HonestByFirsts
honest_by_firsts kit listed journals a rising e =
    let o = audit_is_of_listed kit listed journals a e in (
      λ honest'. (λ q there. none-of kit listed a o rising honest' q there, filled kit listed a o honest'),
      λ both. honest-of kit listed a o both.0 both.1,
    )

-- ---- evidence

pub evidence_spares_correct : EvidenceSparesCorrect
evidence_spares_correct f bytes claims said words q there m =
    let p = of-number f q (Contains-mem (numbers f) q there) in
    let in' : Contains (convicted f.setting claims) q = subst (λ (frame : Frame). Contains (convicted_by f.setting frame) q) said m in
    spared f claims q p.0 p.1 p.2
    (λ c n signer valid. Contains-mem (statements_of p.0) c.statement
    (words c (mem-Contains claims c n) valid p.0 (mem-Contains (ends f) p.0 p.1) (p.2 ∙ sym signer)))
    ((convicted_is_convicts f.setting claims q).0 in')
