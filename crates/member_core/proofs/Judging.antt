-- Whether each of several claims is signed as it says.
use Rattle.std.proofs.Common.{◌≡◌, ℕ, zero, suc, ◌+◌, ◌<◌, ◌≤◌, Bool, true, false, List, [], ◌∷◌, length, map, drop, get_or, refl, sym, ap, subst, ◌∙◌, arith, inl}
use Rattle.std.specs.Prelude.{◌&&◌, All}
use Rattle.std.specs.List.{list_all}
use Rattle.std.proofs.lemmas.List.{drop_all, length-map}
use Rattle.message_defs.specs.Statements.{Claim}
use Rattle.message_defs.specs.Spelling.{IsStatement}
use Rattle.message_defs.specs.Packing.{signed_of}
use Rattle.group_defs.specs.Process.{Setting}
use Rattle.group_defs.specs.Hearing.{is_valid}
use Rattle.member_events.specs.Below.{signed, OwnClaim}
use Rattle.member_sending.specs.Below.{Shares, as_setting}
use Rattle.pool_laws.proofs.Members.{Mem, All-mem, mem-drop}

-- by the judge's rule and by the setting's
pub same-rule : (s : Setting) (valid : List ℕ → List ℕ → List ℕ → Bool) (group : List ℕ) (roster : List (ℕ × List ℕ)) (c : Claim)
    → Shares s valid group roster → is_valid (as_setting valid group roster) c ≡ is_valid s c
same-rule s valid group roster c shares = sym (λ i. is_valid (as_setting (shares.rule i) (shares.bound i) (shares.keys i)) c)

-- ---- one claim after the other

-- the claims that are left, of which the bytes are these
record Next (cs : List Claim) (k : ℕ) (x : OwnClaim) : Type 0 where
  pub claim : Claim
  pub left : drop k cs ≡ claim ∷ drop (k + 1) cs
  pub same : signed x ≡ signed_of claim

next-claim : (xs : List OwnClaim) (cs : List Claim) (k : ℕ) (x : OwnClaim) → k < length xs → x ≡ get_or xs k x
    → map signed xs ≡ map signed_of cs → Next cs k x
next-claim [] cs k x lt at e = absurd (omega (arith, lt))
next-claim (y ∷ ys) [] k x lt at e = absurd cc
next-claim (y ∷ ys) (c ∷ cs) zero x lt at e = record { claim = c; left = refl; same = ap signed at ∙ cc }
next-claim (y ∷ ys) (c ∷ cs) (suc k) x lt at e =
    let rest : map signed ys ≡ map signed_of cs = cc in
    let n = next-claim ys cs k x (omega (arith, lt)) at rest in
    let next : suc k + 1 ≡ suc (k + 1) = omega arith in
    record { claim = n.claim; left = n.left ∙ ap (λ m. n.claim ∷ drop m (c ∷ cs)) (sym next); same = n.same }

-- where each claim before the place is valid, the answer is that of those that are left
abbrev pub LeftToJudge : (List ℕ → List ℕ → List ℕ → Bool) → List ℕ → List (ℕ × List ℕ) → List OwnClaim → ℕ → Type 0
LeftToJudge valid group roster xs k =
    (s : Setting) (cs : List Claim) → Shares s valid group roster → All (λ c. IsStatement c.statement) cs → map signed xs ≡ map signed_of cs
    → list_all (is_valid s) cs ≡ list_all (is_valid s) (drop k cs)

module _ (valid : List ℕ → List ℕ → List ℕ → Bool) (group : List ℕ) (roster : List (ℕ × List ℕ)) (xs : List OwnClaim) (k : ℕ) (x : OwnClaim)
    (lt : k < length xs) (at : x ≡ get_or xs k x)
    (left : LeftToJudge valid group roster xs k) (result : Bool)
    (one : (s : Setting) (c : Claim) → Shares s valid group roster → IsStatement c.statement → signed x ≡ signed_of c
    → result ≡ is_valid s c) where
  judged : (s : Setting) (cs : List Claim) → Shares s valid group roster → All (λ c. IsStatement c.statement) cs
      → map signed xs ≡ map signed_of cs → list_all (is_valid s) cs ≡ (result && list_all (is_valid s) (drop (k + 1) cs))
  judged s cs shares range e =
      let n = next-claim xs cs k x lt at e in
      let here : Mem n.claim cs = mem-drop k cs n.claim (subst (Mem n.claim) (sym n.left) (inl refl)) in
      let said : result ≡ is_valid s n.claim = one s n.claim shares
      (All-mem (λ (c : Claim). IsStatement c.statement) cs n.claim range here) n.same in
      left s cs shares range e ∙ ap (list_all (is_valid s)) n.left ∙ ap (λ b. b && list_all (is_valid s) (drop (k + 1) cs)) (sym said)

  pub one-passed : result ≡ true → LeftToJudge valid group roster xs (k + 1)
  one-passed valid-one s cs shares range e = judged s cs shares range e ∙ ap (λ b. b && list_all (is_valid s) (drop (k + 1) cs)) valid-one

  pub one-fails : result ≡ false → (s : Setting) (cs : List Claim) → Shares s valid group roster → All (λ c. IsStatement c.statement) cs
      → map signed xs ≡ map signed_of cs → false ≡ list_all (is_valid s) cs
  one-fails invalid s cs shares range e = sym (judged s cs shares range e ∙ ap (λ b. b && list_all (is_valid s) (drop (k + 1) cs)) invalid)

-- each was valid
pub all-passed : (valid : List ℕ → List ℕ → List ℕ → Bool) (group : List ℕ) (roster : List (ℕ × List ℕ)) (xs : List OwnClaim) (k : ℕ)
    → length xs ≤ k → LeftToJudge valid group roster xs k
    → (s : Setting) (cs : List Claim) → Shares s valid group roster → All (λ c. IsStatement c.statement) cs
    → map signed xs ≡ map signed_of cs → true ≡ list_all (is_valid s) cs
all-passed valid group roster xs k past left s cs shares range e =
    let long : length xs ≡ length cs = sym (length-map xs signed) ∙ ap length e ∙ length-map cs signed_of in
    sym (left s cs shares range e ∙ ap (list_all (is_valid s)) (drop_all k cs (omega (arith, past, long))))
