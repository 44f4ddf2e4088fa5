-- Players of the code beside those of the definitions, one after the other.
use Rattle.std.proofs.Common.{◌≡◌, ℕ, zero, suc, ◌+◌, ◌<◌, ◌≤◌, List, [], ◌∷◌, ◌++◌, length, get_or, drop, refl, sym, ap, subst, ◌∙◌, arith, append-nil, append_assoc}
use Rattle.std.specs.List.{flat_map}
use Rattle.std.proofs.lemmas.List.{drop_more, drop_all}
use Rattle.group_defs.specs.Process.{Setting}
use Rattle.replay_defs.specs.Worlds as plain
use Rattle.replay_questions.specs.Cast.{Player, Plays, ArePlayers}

-- the player of the definitions at the same place
pub record At (s : Setting) (p : Player) (cs : List plain.Player) (i : ℕ) : Type 0 where
  pub at : plain.Player
  pub plays : Plays s p at
  pub low : i < length cs
  pub is : at ≡ get_or cs i at

pub at_same_place : (s : Setting) (ps : List Player) (cs : List plain.Player) (i : ℕ) (p : Player) → ArePlayers s ps cs → i < length ps
    → p ≡ get_or ps i p → At s p cs i
at_same_place s [] cs i p are low is = absurd (omega arith)
at_same_place s (q ∷ qs) [] i p are low is = absurd are
at_same_place s (q ∷ qs) (c ∷ cs) zero p are low is = let P : Player
    → Type 0 = λ x. Plays s x c in record { at = c; plays = subst P (sym is) are.0; low = omega arith; is = refl }
at_same_place s (q ∷ qs) (c ∷ cs) (suc i) p are low is =
    let rest = at_same_place s qs cs i p are.1 (omega arith) is in
    record { at = rest.at; plays = rest.plays; low = omega (arith, rest.low); is = rest.is }

pub as_many : (s : Setting) (ps : List Player) (cs : List plain.Player) → ArePlayers s ps cs → length cs ≡ length ps
as_many s [] [] are = refl
as_many s (p ∷ ps) (c ∷ cs) are = ap suc (as_many s ps cs are.1)
as_many s [] (c ∷ cs) are = absurd are
as_many s (p ∷ ps) [] are = absurd are

-- what is still to be written is that of the next player, and of those behind it
pub written_next : {A : Type 0} (f : plain.Player → List A) (s : Setting) (cs : List plain.Player) (i : ℕ) (p : Player) (a : At s p cs i)
    (before after all : List A)
    → before ++ flat_map f (drop i cs) ≡ all → after ≡ before ++ f a.at → after ++ flat_map f (drop (i + 1) cs) ≡ all
written_next f s cs i p a before after all so_far more =
    let behind : drop i cs ≡ a.at ∷ drop (i + 1) cs = drop_more cs i a.at a.low ∙ ap (λ c. c ∷ drop (i + 1) cs) (sym a.is) in
    ap (λ t. t ++ flat_map f (drop (i + 1) cs)) more
    ∙ (append_assoc before (f a.at) (flat_map f (drop (i + 1) cs))
    ∙ (ap (λ ds. before ++ flat_map f ds) (sym behind) ∙ so_far))

-- and where no player is left, nothing is
pub written_all : {A : Type 0} (f : plain.Player → List A) (s : Setting) (ps : List Player) (cs : List plain.Player) (i : ℕ)
    (done all : List A) → ArePlayers s ps cs → length ps ≤ i
    → done ++ flat_map f (drop i cs) ≡ all → done ≡ all
written_all f s ps cs i done all are past so_far =
    let none : drop i cs ≡ [] = drop_all i cs (omega (arith, as_many s ps cs are)) in
    sym (append-nil done) ∙ (ap (λ ds. done ++ flat_map f ds) (sym none) ∙ so_far)
