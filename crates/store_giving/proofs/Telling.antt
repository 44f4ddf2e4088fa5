-- The line of the state that is given.
use Rattle.std.proofs.Common.{◌≡◌, ℕ, List, [], ◌∷◌, ◌++◌, refl, sym, ap, ◌∙◌, Ok, Err}
use Rattle.std.specs.Prelude.{codes, Result, OnOk}
use Rattle.std.specs.Fmt.{decimal}
use Rattle.hex.specs.Hex.{encode_lower}
use Rattle.text_defs.specs.Words.{line_text}
use Rattle.store_defs.specs.Records.{StateRecord, state_bytes}
use Rattle.store_defs.specs.Serving.{Given, NoState, NoStateLeaf, Place, Server, state_given}
use Rattle.store_defs.specs.Words.{given_text}

-- what follows from what holds after an Ok
pub on-ok : {A E P Q : Type 0} (r : Result A E) → (P → Q) → OnOk r P → OnOk r Q
on-ok (Ok x) f p = f p
on-ok (Err e) f p = tt

none-text : (p : ℕ) → given_text p NoState ≡ line_text (codes "state" ∷ decimal p ∷ codes "none" ∷ [])
unfolding given_text
none-text p = refl

spent-text : (p : ℕ) → given_text p NoStateLeaf ≡ line_text (codes "state" ∷ decimal p ∷ codes "spent" ∷ [])
unfolding given_text
spent-text p = refl

given-text : (p : ℕ) (r : StateRecord) → given_text p (Given r)
    ≡ line_text (codes "state" ∷ decimal p ∷ encode_lower (state_bytes r) ∷ [])
unfolding given_text
given-text p r = refl

-- the record is given
pub given-reported : (p : ℕ) (r : StateRecord) (record_bytes before after : List ℕ) → record_bytes ≡ state_bytes r
    → after ≡ before ++ line_text (codes "state" ∷ decimal p ∷ encode_lower record_bytes ∷ [])
    → after ≡ before ++ given_text p (Given r)
given-reported p r record_bytes before after is said =
    said ∙ (λ i. before ++ line_text (codes "state" ∷ decimal p ∷ encode_lower (is i) ∷ []))
    ∙ ap (λ (t : List ℕ). before ++ t) (sym (given-text p r))

module _ (q : Place) (s : Server) (me : ℕ) (is_me : q.me ≡ me) (before after : List ℕ) where
  pub none-reported : state_given q s ≡ NoState → after ≡ before ++ line_text (codes "state" ∷ decimal me ∷ codes "none" ∷ [])
      → after ≡ before ++ given_text q.me (state_given q s)
  none-reported word said = said ∙ ap (λ (t : List ℕ). before ++ t) (sym ((λ i. given_text (is_me i) (word i)) ∙ none-text me))

  pub spent-reported : state_given q s ≡ NoStateLeaf → after ≡ before ++ line_text (codes "state" ∷ decimal me ∷ codes "spent" ∷ [])
      → after ≡ before ++ given_text q.me (state_given q s)
  spent-reported word said = said ∙ ap (λ (t : List ℕ). before ++ t) (sym ((λ i. given_text (is_me i) (word i)) ∙ spent-text me))

  pub record-reported : (r : StateRecord) → state_given q s ≡ Given r → after ≡ before ++ given_text me (Given r)
      → after ≡ before ++ given_text q.me (state_given q s)
  record-reported r word said = said ∙ ap (λ (t : List ℕ). before ++ t) (sym (λ i. given_text (is_me i) (word i)))
