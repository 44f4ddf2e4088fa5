-- Whether what was handed over of the listed processes is their own word, as the table of first claims tells it.
use Rattle.std.proofs.Common.{◌≡◌, ◌⊎◌, inl, inr, ℕ, List, [], ◌∷◌, Bool, true, false, refl, sym, ap, subst, ◌∙◌}
use Rattle.std.specs.Prelude.{◌↔◌, Contains, IsTrue, Ok, flat_map}
use Rattle.std.specs.List.Sorted.{IsStrictlyIncreasing}
use Rattle.message_defs.specs.Statements.{Claim, slot_of}
use Rattle.group_defs.specs.Hearing.{is_valid}
use Rattle.group_defs.specs.Process.{Process}
use Rattle.group_defs.specs.Events.{run}
use Rattle.group_defs.specs.Family.{Family, Honest, end_of, ends, handed, honest, numbers}
use Rattle.kit_defs.specs.Kits.{Kit}
use Rattle.pool_laws.proofs.Members.{Contains-mem, Mem, append-mem, map-mem, mem-Contains, mem-flat_map, mem-map}
use Rattle.safety_laws.proofs.Tested.{honest_is_tested}
use Rattle.conviction_defs.specs.Convictions.{Convicts}
use Rattle.audit_defs.specs.Players.{Player, correct_of, family_of, setting_of}
use Rattle.audit_defs.specs.Audits.{Audited, Known, audited}
use Rattle.audit_defs.specs.Laws.{IsOfListed}
use Rattle.audit_laws.proofs.OfListed.{Holds, of-listed}
use Rattle.audit_laws.proofs.OwnWords.{number-of, of-number, one-process, own-name}
use Rattle.audit_laws.proofs.Spared.{honest_by_firsts}
use Rattle.claim_firsts.specs.Seen.{IsAnswered}
use Rattle.audit_cast.specs.Turns.{all_signed}
use Rattle.audit_core.specs.Ends.{audited_by}

-- one of these processes signed it
signed-by : (cs : List Player) (c : Claim) → Mem c (all_signed cs) → (x : Player) × Mem x cs × Mem c x.now.signed
signed-by [] c m = absurd m
signed-by (x ∷ xs) c m = elim (append-mem x.now.signed (all_signed xs) c m) [
  | inl here ↦ (x, inl refl, here)
  | inr there ↦ let r = signed-by xs c there in (r.0, inr r.1, r.2)
]

module _ (kit : Kit) (listed : List ℕ) (journals : List (List ℕ)) (k : Known) (own : List Claim) (h : Holds (setting_of kit) listed k)
    (rising : IsStrictlyIncreasing listed) (said : (c : Claim) → Contains own c ↔ Contains (all_signed k.players) c)
    (is : audited kit listed journals ≡ Ok (audited_by (setting_of kit) k)) where
  abbrev f : Family
  f = family_of (setting_of kit) k.players

  of : IsOfListed kit listed (audited_by (setting_of kit) k)
  of = of-listed kit listed k h

  numbers-rise : IsStrictlyIncreasing (numbers f)
  numbers-rise = subst IsStrictlyIncreasing (sym of.listed_are) rising

  at-end : (x : Player) → Mem x k.players → Mem x.now (ends f)
  at-end x m = subst (λ p. Mem p (ends f)) (sym (h.runs x m))
      (mem-map (end_of (setting_of kit)) f.correct (correct_of x) (mem-map correct_of k.players x m))

  -- and the other way round
  player-of : (p : Process) → Mem p (ends f) → (x : Player) × Mem x k.players × (x.now ≡ p)
  player-of p m =
      let a = map-mem (end_of (setting_of kit)) f.correct p m in
      let b = map-mem correct_of k.players a.0 a.1 in
      (b.0, b.1, h.runs b.0 b.1 ∙ ap (end_of (setting_of kit)) b.2 ∙ a.2)

  abbrev Spared : Type 0
  Spared = (q : ℕ) → Contains listed q → ¬ Convicts (setting_of kit) k.claims q

  abbrev Filled : Type 0
  Filled = (c : Claim) → Contains (handed f) c → IsTrue (is_valid (setting_of kit) c) → (p : Process) → Contains (ends f) p → p.me ≡ c.signer
      → (d : Claim) × Contains p.signed d × (slot_of d.statement ≡ slot_of c.statement)

  filled : IsAnswered (setting_of kit) k.claims own listed → Filled
  filled answered c there valid p in' me =
      let m = Contains-mem (ends f) p in' in
      let number : Contains listed c.signer = mem-Contains listed c.signer (subst (Mem c.signer) of.listed_are
      (subst (λ n. Mem n (numbers f)) me (number-of f p m))) in
      let d = answered.said c ((of.claims c).1 (inl there)) valid number in
      let by = signed-by k.players d.0 (Contains-mem (all_signed k.players) d.0 ((said d.0).0 d.1)) in
      let same : by.0.now ≡ p = one-process f numbers-rise by.0.now p (at-end by.0 by.1) m
      (sym (own-name f by.0.now (at-end by.0 by.1) d.0 by.2) ∙ d.2 ∙ sym me) in
      (d.0, mem-Contains p.signed d.0 (subst (λ (p : Process). Mem d.0 p.signed) same by.2), d.3)

  answered : Spared → Filled → IsAnswered (setting_of kit) k.claims own listed
  answered spared filled' = record { spared = spared; said = λ c there valid number. go c valid number ((of.claims c).0 there) }
    where
      own-word : (p : Process) → Mem p (ends f) → (d : Claim) → Mem d p.signed → Contains own d
      own-word p m d n =
          let x = player-of p m in
          (said d).1 (mem-Contains (all_signed k.players) d (mem-flat_map (λ (c : Player). c.now.signed) k.players x.0 d x.1
          (subst (λ (p : Process). Mem d p.signed) (sym x.2) n)))

      go : (c : Claim) → IsTrue (is_valid (setting_of kit) c) → Contains listed c.signer
          → Contains (handed f) c ⊎ ((p : Process) × Contains (ends f) p × Contains p.signed c)
          → (d : Claim) × Contains own d × (d.signer ≡ c.signer) × (slot_of d.statement ≡ slot_of c.statement)
      go c valid number (inl there) =
          let p = of-number f c.signer (subst (Mem c.signer) (sym of.listed_are) (Contains-mem listed c.signer number)) in
          let d = filled' c there valid p.0 (mem-Contains (ends f) p.0 p.1) p.2 in
          let n = Contains-mem p.0.signed d.0 d.1 in
          (d.0, own-word p.0 p.1 d.0 n, own-name f p.0 p.1 d.0 n ∙ p.2, d.2)
      go c valid number (inr by) = (c, own-word by.0 (Contains-mem (ends f) by.0 by.1) c (Contains-mem by.0.signed c by.2), refl, refl)

  same-test : (b c : Bool) (P : Type 0) → IsTrue b ↔ P → IsTrue c ↔ P → b ≡ c
  same-test true true P x y = refl
  same-test true false P x y = absurd (let e : false ≡ true = y.1 (x.0 refl) in cc)
  same-test false true P x y = absurd (let e : false ≡ true = x.1 (y.0 refl) in cc)
  same-test false false P x y = refl

  pub honest-is : (b : Bool) → IsTrue b ↔ IsAnswered (setting_of kit) k.claims own listed → b ≡ honest f
  honest-is b tells =
      let law = honest_by_firsts kit listed journals (audited_by (setting_of kit) k) rising is in
      same-test b (honest f) (Honest f)
      (λ t. let a = tells.0 t in law.1 (a.spared, filled a), λ honest'. let both = law.0 honest' in tells.1 (answered both.0 both.1))
      (honest_is_tested f)
