-- Which kinds of statements are heard.
use Rattle.std.proofs.Common.{◌≡◌, ℕ, ◌<◌, List, [], ◌∷◌, ◌++◌, length, Bool, true, false, refl, sym, ap, ◌∙◌, subst, lit<}
use Rattle.std.specs.Prelude.{◌||◌, ◌==◌, ◌≢◌, slice_index_or, slice_set}
use Rattle.std.proofs.lemmas.Bool.{eqb-true, eq-eqb, both_ways}
use Rattle.std.proofs.lemmas.List.{get_or-set_same, get_or-set_other}
use Rattle.std.proofs.lemmas.List.Folds.{list_any-append}
use Rattle.message_defs.specs.Statements.{Statement, Init, Echo, Order, Place, Keep, Notify, End, Last, Suggest, Ack, Ready, Claim, kind_number}
use Rattle.claim_index.specs.Kept.{is_kind_heard, AreNoted}

pub kind-below : (st : Statement) → kind_number st < 12
kind-below (Init x l payload) = lit< tt
kind-below (Echo x m payload) = lit< tt
kind-below (Order x k b) = lit< tt
kind-below (Place x k b) = lit< tt
kind-below (Keep x k b) = lit< tt
kind-below (Notify x u) = lit< tt
kind-below (End x k) = lit< tt
kind-below (Last x r ready) = lit< tt
kind-below (Suggest x r v) = lit< tt
kind-below (Ack x r v) = lit< tt
kind-below (Ready x r v) = lit< tt

or-true : (b : Bool) → true ≡ (b || true)
or-true true = refl
or-true false = refl

or-false : (b : Bool) → b ≡ (b || false)
or-false true = refl
or-false false = refl

-- a claim more, whose kind has this number
pub one-noted : (kinds : List Bool) (cs : List Claim) (c : Claim) (n : ℕ) → kind_number c.statement ≡ n → n < length kinds
    → AreNoted kinds cs → AreNoted (slice_set kinds n true) (cs ++ c ∷ [])
one-noted kinds cs c n is lt noted kind = go (n == kind) refl ∙ ap (λ k. is_kind_heard cs kind || (k == kind || false))
    (sym is) ∙ sym (list_any-append (λ (d : Claim). kind_number d.statement == kind) cs (c ∷ []))
  where
    go : (b : Bool) → (n == kind) ≡ b → slice_index_or (slice_set kinds n true) kind false ≡ (is_kind_heard cs kind || (n == kind || false))
    go true e = subst (λ k. slice_index_or (slice_set kinds n true) k false ≡ true) (eqb-true n kind e)
        (get_or-set_same kinds n true false lt) ∙ or-true (is_kind_heard cs kind) ∙ ap (λ b. is_kind_heard cs kind || (b || false)) (sym e)
    go false e =
        let other : kind ≢ n = λ same. both_ways (n == kind) e (eq-eqb n kind (sym same)) in
        get_or-set_other kinds n kind true false other ∙ noted kind ∙ or-false (is_kind_heard cs kind) ∙ ap
        (λ b. is_kind_heard cs kind || (b || false)) (sym e)
