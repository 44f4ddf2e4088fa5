-- A roster that is copied key by key.
use Rattle.std.proofs.Common.{◌≡◌, ℕ, suc, ◌+◌, ◌-◌, ◌<◌, ◌==◌, true, false, List, [], ◌∷◌, ◌++◌, length, None, Some, get_or, refl, sym, ap, ◌∙◌, subst, arith, append_assoc, append-nil, length-append}
use Rattle.std.specs.Prelude.{All}
use Rattle.std.proofs.lemmas.List.{get_or_append_left, get_or-append_right}
use Rattle.rp_base.specs.Rosters.{IsRising}
use Rattle.kit_defs.specs.Kits.{key_of, roster_of}

-- the keys in `copy` stand before those of these processes, which are left
pub record Copies (keys copy : List (ℕ × List ℕ)) (left : List ℕ) : Type 0 where
  pub rest : List (ℕ × List ℕ)
  pub whole : keys ≡ copy ++ rest
  pub left_is : left ≡ roster_of rest

pub begun : (keys copy : List (ℕ × List ℕ)) (left : List ℕ) → copy ≡ [] → left ≡ roster_of keys → Copies keys copy left
begun keys copy left none is = record { rest = keys; whole = ap (λ ks. ks ++ keys) (sym none); left_is = is }

nothing : (n : ℕ) → n - n ≡ 0
nothing n = omega arith

-- the key that stands behind others
behind : (done : List (ℕ × List ℕ)) (k d : ℕ × List ℕ) (rest : List (ℕ × List ℕ)) → get_or (done ++ k ∷ rest) (length done) d ≡ k
behind done k d rest = get_or-append_right done (k ∷ rest) (length done) (length done) d refl (omega arith)
    ∙ ap (λ i. get_or (k ∷ rest) i d) (nothing (length done))

-- the numbers before it are below
all_below : (done : List (ℕ × List ℕ)) (k : ℕ × List ℕ) (rest : List (ℕ × List ℕ)) → IsRising (done ++ k ∷ rest)
    → All (λ j. j.0 < k.0) done
all_below done k rest rising = λ i d low.
    let many : length (done ++ k ∷ rest) ≡ length done + suc (length rest) = length-append done (k ∷ rest) in
    let less : (get_or (done ++ k ∷ rest) i d).0 < (get_or (done ++ k ∷ rest) (length done) d).0 =
    rising i (length done) d low (omega arith) in
    let first : (get_or (done ++ k ∷ rest) i d).0 ≡ (get_or done i d).0 = ap (λ j. j.0) (get_or_append_left done (k ∷ rest) d i low) in
    let second : (get_or (done ++ k ∷ rest) (length done) d).0 ≡ k.0 = ap (λ j. j.0) (behind done k d rest) in
    omega arith

-- it is found behind lower ones
found_behind : (done : List (ℕ × List ℕ)) (k : ℕ × List ℕ) (rest : List (ℕ × List ℕ)) → All (λ j. j.0 < k.0) done
    → key_of (done ++ k ∷ rest) k.0 ≡ Some k.1
found_behind [] k rest below = let same : (k.0 == k.0) ≡ true = grind arith in rw same refl
found_behind (j ∷ done) k rest below =
    let lower : j.0 < k.0 = below 0 j (omega arith) in
    let other : (j.0 == k.0) ≡ false = grind arith in
    rw other (found_behind done k rest (λ i d low. below (suc i) d (omega arith)))

-- the next key: it is found, those before it are below, and it goes behind them
pub record Next (keys copy : List (ℕ × List ℕ)) (p : ℕ) (left : List ℕ) : Type 0 where
  pub key : List ℕ
  pub found : key_of keys p ≡ Some key
  pub below : All (λ k. k.0 < p) copy
  pub then : (longer : List (ℕ × List ℕ)) → longer ≡ copy ++ (p, key) ∷ [] → Copies keys longer left

next_by : (keys copy rest : List (ℕ × List ℕ)) (p : ℕ) (left : List ℕ) → keys ≡ copy ++ rest → p ∷ left ≡ roster_of rest → IsRising keys
    → Next keys copy p left
next_by keys copy [] p left whole left_is rising = absurd cc
next_by keys copy (k ∷ rest) p left whole left_is rising =
    let head : List ℕ → ℕ = λ xs. get_or xs 0 0 in
    let process_is : k.0 ≡ p = sym (ap head left_is) in
    let tail : left ≡ roster_of rest = ap (λ xs. lib.ListN.drop 1 xs) left_is in
    let below : All (λ j. j.0 < k.0) copy = all_below copy k rest (subst IsRising whole rising) in
    let P : ℕ → Type 0 = λ q. All (λ (j : ℕ × List ℕ). j.0 < q) copy in
    record {
      key = k.1;
      found = ap (λ q. key_of keys q) (sym process_is) ∙ ap (λ ks. key_of ks k.0) whole ∙ found_behind copy k rest below;
      below = subst P process_is below;
      then = λ longer e. record {
        rest = rest;
        whole = whole ∙ sym (append_assoc copy (k ∷ []) rest)
            ∙ ap (λ ks. ks ++ rest) (sym (e ∙ ap (λ q. copy ++ (q, k.1) ∷ []) (sym process_is)));
        left_is = tail;
      };
    }

-- the next process that is left has its key
pub next : (keys copy : List (ℕ × List ℕ)) (p : ℕ) (left here : List ℕ) → Copies keys copy here → here ≡ p ∷ left → IsRising keys
    → Next keys copy p left
next keys copy p left here copies is rising = next_by keys copy copies.rest p left copies.whole (sym is ∙ copies.left_is) rising

pub none_found : (keys copy : List (ℕ × List ℕ)) (p : ℕ) (left : List ℕ) → Next keys copy p left → None ≡ key_of keys p → ⊥
none_found keys copy p left next e = let both : None ≡ Some next.key = e ∙ next.found in cc

pub then_found : (keys copy longer : List (ℕ × List ℕ)) (p : ℕ) (left key : List ℕ) → Next keys copy p left → Some key ≡ key_of keys p
    → longer ≡ copy ++ (p, key) ∷ [] → Copies keys longer left
then_found keys copy longer p left key next e is =
    let both : Some key ≡ Some next.key = e ∙ next.found in
    let same : key ≡ next.key = cc in
    next.then longer (is ∙ ap (λ k. copy ++ (p, k) ∷ []) same)

ended_by : (keys copy rest : List (ℕ × List ℕ)) → keys ≡ copy ++ rest → [] ≡ roster_of rest → copy ≡ keys
ended_by keys copy [] whole left_is = sym (whole ∙ append-nil copy)
ended_by keys copy (k ∷ rest) whole left_is = absurd cc

-- no process is left
pub ended : (keys copy : List (ℕ × List ℕ)) (left : List ℕ) → Copies keys copy left → left ≡ [] → copy ≡ keys
ended keys copy left copies none = ended_by keys copy copies.rest copies.whole (sym none ∙ copies.left_is)
