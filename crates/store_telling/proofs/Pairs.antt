-- The pairs of a store, told one after the other.
use Rattle.std.proofs.Common.{◌≡◌, ℕ, true, false, List, [], ◌∷◌, ◌++◌, map, Ok, Err, refl, sym, ap, ◌∙◌, append_assoc}
use Rattle.std.specs.Prelude.{is_ok}
use Rattle.std.specs.Option.{option_map_or}
use Rattle.std.specs.Result.{result_ok}
use Rattle.byte_defs.specs.Fields.{◌>>=◌}
use Rattle.store_defs.specs.Stores.{Pair, Reading, Store, store_of}
use Rattle.store_defs.specs.Records.{StateRecord}
use Rattle.store_text_defs.specs.Meanings.{pair_tokens, state_lines, store_head, store_lines}
use Rattle.store_telling.specs.Pieces.{pairs_reported, reported_text}
use Rattle.store_telling.proofs.Pieces.{lines_behind, nothing_reported}

abbrev done : Store → Reading Store
done s = Ok s

pub rest_is_ok : (left rest : Reading Store) (e : Pair) → left ≡ (rest >>= λ s. done (e ∷ s)) → is_ok left ≡ true → is_ok rest ≡ true
rest_is_ok left (Ok s) e is ok = refl
rest_is_ok left (Err f) e is ok = sym (ap is_ok is) ∙ ok

pub one_reported : (left rest : Reading Store) (e : Pair) → left ≡ (rest >>= λ s. done (e ∷ s)) → is_ok left ≡ true
    → reported_text (pairs_reported left) ≡ reported_text (pair_tokens e ∷ []) ++ reported_text (pairs_reported rest)
one_reported left (Ok s) e is ok = ap (λ (r : Reading Store). reported_text (pairs_reported r)) is ∙ lines_behind (pair_tokens e) (map pair_tokens s)
one_reported left (Err f) e is ok = absurd (no (sym (ap is_ok is) ∙ ok))
  where
    no : false ≡ true → ⊥
    no e = absurd cc

-- the lines so far, and those that are left, are all
pub goes_on : (all out more : List ℕ) (left rest : Reading Store) (e : Pair) → left ≡ (rest >>= λ s. done (e ∷ s)) → is_ok left ≡ true
    → more ≡ out ++ reported_text (pair_tokens e ∷ []) → out ++ reported_text (pairs_reported left) ≡ all → more ++ reported_text (pairs_reported rest) ≡ all
goes_on all out more left rest e is ok grown so =
    ap (λ (x : List ℕ). x ++ reported_text (pairs_reported rest)) grown
    ∙ append_assoc out (reported_text (pair_tokens e ∷ [])) (reported_text (pairs_reported rest))
    ∙ ap (λ (x : List ℕ). out ++ x) (sym (one_reported left rest e is ok))
    ∙ so

pub ends : (all out : List ℕ) (left : Reading Store) → left ≡ done [] → out ++ reported_text (pairs_reported left) ≡ all → out ≡ all
ends all out left is so =
    sym (nothing_reported out) ∙ sym (ap (λ (r : Reading Store). out ++ reported_text (pairs_reported r)) is) ∙ so

pub never_fails : (left : Reading Store) → left ≡ Err tt → is_ok left ≡ true → ⊥
never_fails left is ok = no (sym (ap is_ok is) ∙ ok)
  where
    no : false ≡ true → ⊥
    no e = absurd cc

-- ---- a state

-- the line of the view, and then those of the pairs
pub state_reported : (out headed : List ℕ) (r : StateRecord) (left : Reading Store) → headed ≡ out ++ reported_text (store_head r.view ∷ [])
    → store_of r.state ≡ left → is_ok (store_of r.state) ≡ true → headed ++ reported_text (pairs_reported left) ≡ out ++ reported_text (state_lines r)
state_reported out headed r left head is ok =
    ap (λ (x : List ℕ). x ++ reported_text (pairs_reported left)) head
    ∙ append_assoc out (reported_text (store_head r.view ∷ [])) (reported_text (pairs_reported left))
    ∙ ap (λ (x : List ℕ). out ++ x) (ap (λ (read : Reading Store). reported_text (store_head r.view ∷ []) ++ reported_text (pairs_reported read)) (sym is)
    ∙ of (store_of r.state) ok)
  where
    of : (read : Reading Store) → is_ok read ≡ true
        → reported_text (store_head r.view ∷ []) ++ reported_text (pairs_reported read) ≡ reported_text (option_map_or (store_lines r.view) (result_ok read) [])
    of (Ok s) ok = sym (lines_behind (store_head r.view) (map pair_tokens s))
    of (Err f) ok = absurd cc

pub no_state : (out : List ℕ) (r : StateRecord) → is_ok (store_of r.state) ≡ false → out ≡ out ++ reported_text (state_lines r)
no_state out r none = of (store_of r.state) none
  where
    of : (read : Reading Store) → is_ok read ≡ false → out ≡ out ++ reported_text (option_map_or (store_lines r.view) (result_ok read) [])
    of (Ok s) none = absurd cc
    of (Err f) none = sym (nothing_reported out)
