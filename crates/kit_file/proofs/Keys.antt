-- The keys of a roster, those whose lines stand and those that are left.
use Rattle.std.proofs.Common.{◌≡◌, ℕ, suc, ◌+◌, ◌-◌, ◌<◌, ◌==◌, true, false, List, [], ◌∷◌, ◌++◌, length, map, Some, None, get_or, refl, sym, ap, ◌∙◌, subst, arith, append_assoc, append-nil, length-append}
use Rattle.std.proofs.lemmas.List.{flat_map_more, get_or-append_right, map-append}
use Rattle.rp_base.specs.Rosters.{IsRising}
use Rattle.text_defs.specs.Words.{line_text}
use Rattle.kit_defs.specs.Kits.{Key, key_line, key_of, line_words, roster_of, text_of_lines}

-- the lines of some keys stand behind a text, and these processes are left
pub record Stand (keys : List (ℕ × List ℕ)) (start out : List ℕ) (left : List ℕ) : Type 0 where
  pub done : List (ℕ × List ℕ)
  pub rest : List (ℕ × List ℕ)
  pub whole : keys ≡ done ++ rest
  pub text : out ≡ start ++ text_of_lines (map key_line done)
  pub left_is : left ≡ roster_of rest

nothing : (n : ℕ) → n - n ≡ 0
nothing n = omega arith

-- the key behind lower ones is found
found_behind : (done : List (ℕ × List ℕ)) (k : ℕ × List ℕ) (rest : List (ℕ × List ℕ)) → IsRising (done ++ k ∷ rest)
    → key_of (done ++ k ∷ rest) k.0 ≡ Some k.1
found_behind [] k rest rising = let same : (k.0 == k.0) ≡ true = grind arith in rw same refl
found_behind (j ∷ done) k rest rising =
    let count : length (done ++ k ∷ rest) ≡ length done + suc (length rest) = length-append done (k ∷ rest) in
    let at : get_or (done ++ k ∷ rest) (length done) k
    ≡ k = get_or-append_right done (k ∷ rest) (length done) (length done) k refl (omega arith) ∙ ap (λ i. get_or (k ∷ rest) i k)
    (nothing (length done)) in
    let below : j.0 < (get_or (done ++ k ∷ rest) (length done) k).0 = rising 0 (suc (length done)) k (omega arith) (omega arith) in
    let lower : j.0 < k.0 = subst (λ l. j.0 < l.0) at below in
    let other : (j.0 == k.0) ≡ false = grind arith in
    rw other (found_behind done k rest (λ a b d low high. rising (suc a) (suc b) d (omega arith) (omega arith)))

pub record Next (keys : List (ℕ × List ℕ)) (start out : List ℕ) (p : ℕ) (left : List ℕ) : Type 0 where
  pub key : List ℕ
  pub found : key_of keys p ≡ Some key
  pub then : (longer : List ℕ) → longer ≡ out ++ line_text (line_words (Key p key)) → Stand keys start longer left

next_by : (keys done rest : List (ℕ × List ℕ)) (start out : List ℕ) (p : ℕ) (left : List ℕ) → keys ≡ done ++ rest
    → out ≡ start ++ text_of_lines (map key_line done) → p ∷ left ≡ roster_of rest → IsRising keys → Next keys start out p left
next_by keys done [] start out p left whole text left_is rising = absurd cc
next_by keys done (k ∷ rest) start out p left whole text left_is rising =
    let head : List ℕ → ℕ = λ xs. get_or xs 0 0 in
    let process_is : p ≡ k.0 = ap head left_is in
    let tail : left ≡ roster_of rest = ap (λ xs. lib.ListN.drop 1 xs) left_is in
    record {
      key = k.1;
      found = ap (λ q. key_of keys q) process_is ∙ ap (λ ks. key_of ks k.0) whole ∙ found_behind done k rest (subst IsRising whole rising);
      then = λ longer e. record {
        done = done ++ k ∷ [];
        rest = rest;
        whole = whole ∙ sym (append_assoc done (k ∷ []) rest);
        text = e ∙ ap (λ q. out ++ line_text (line_words (Key q k.1))) process_is ∙ ap (λ t. t ++ line_text (line_words (Key k.0 k.1))) text
            ∙ flat_map_more (λ l. line_text (line_words l)) start (map key_line done) (key_line k) ∙ ap (λ ls. start ++ text_of_lines ls)
            (sym (map-append key_line done (k ∷ [])));
        left_is = tail;
      };
    }

-- the next process that is left has its key in the roster
pub next : (keys : List (ℕ × List ℕ)) (start out : List ℕ) (p : ℕ) (left rest : List ℕ) → Stand keys start out rest → rest ≡ p ∷ left
    → IsRising keys → Next keys start out p left
next keys start out p left rest stand is rising = next_by keys stand.done stand.rest start out p left stand.whole stand.text
    (sym is ∙ stand.left_is) rising

pub begun : (keys : List (ℕ × List ℕ)) (start left : List ℕ) → left ≡ roster_of keys → Stand keys start start left
begun keys start left is = record { done = []; rest = keys; whole = refl; text = sym (append-nil start); left_is = is }

ended_by : (keys done rest : List (ℕ × List ℕ)) (start out : List ℕ) → keys ≡ done ++ rest
    → out ≡ start ++ text_of_lines (map key_line done) → [] ≡ roster_of rest → out ≡ start ++ text_of_lines (map key_line keys)
ended_by keys done [] start out whole text left_is = text ∙ ap (λ ks. start ++ text_of_lines (map key_line ks))
    (sym (whole ∙ append-nil done))
ended_by keys done (k ∷ rest) start out whole text left_is = absurd cc

-- no process is left
pub ended : (keys : List (ℕ × List ℕ)) (start out left : List ℕ) → Stand keys start out left → left ≡ []
    → out ≡ start ++ text_of_lines (map key_line keys)
ended keys start out left stand is = ended_by keys stand.done stand.rest start out stand.whole stand.text (sym is ∙ stand.left_is)

pub none_found : (keys : List (ℕ × List ℕ)) (start out : List ℕ) (p : ℕ) (left : List ℕ) → Next keys start out p left → None ≡ key_of keys p
    → ⊥
none_found keys start out p left next e = let both : None ≡ Some next.key = e ∙ next.found in cc

pub then_found : (keys : List (ℕ × List ℕ)) (start out longer : List ℕ) (p : ℕ) (left key : List ℕ) → Next keys start out p left
    → Some key ≡ key_of keys p → longer ≡ out ++ line_text (line_words (Key p key)) → Stand keys start longer left
then_found keys start out longer p left key next e text =
    let both : Some key ≡ Some next.key = e ∙ next.found in
    let same : key ≡ next.key = cc in
    next.then longer (text ∙ ap (λ k. out ++ line_text (line_words (Key p k))) same)
