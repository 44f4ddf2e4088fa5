-- The line of a reply.
use Rattle.std.proofs.Common.{◌≡◌, ℕ, ◌<◌, ◌≤◌, List, [], ◌∷◌, ◌++◌, Bool, true, false, refl, sym, ap, ◌∙◌, Ok, Err}
use Rattle.std.specs.Prelude.{if◌then◌else◌, codes, nat_le, Option, None, option_map, Result, OnOk}
use Rattle.std.specs.Fmt.{decimal}
use Rattle.std.proofs.lemmas.Bool.{le-leb, lt-leb}
use Rattle.hex.specs.Hex.{encode_lower}
use Rattle.text_defs.specs.Words.{line_text}
use Rattle.store_defs.specs.Keys.{Signs}
use Rattle.store_defs.specs.Records.{Reply, reply_body, reply_bytes}
use Rattle.store_defs.specs.Serving.{NoLeaf, NoStore, Signed, ReportedReply}
use Rattle.store_defs.specs.Words.{reported_text}
use Rattle.store_replies.specs.Words.{word_of, word_with}

-- what follows from what holds after an Ok
pub on-ok : {A E P Q : Type 0} (r : Result A E) → (P → Q) → OnOk r P → OnOk r Q
on-ok (Ok x) f p = f p
on-ok (Err e) f p = tt

module _ (key : Signs) (group : List ℕ) (leaf : ℕ) (r : Reply) (p : ℕ) where
  by : Bool → List ℕ
  by b = reported_text p (ReportedReply (if b then NoLeaf else Signed (record r { signature = key.signature leaf (reply_body group r) })))

  by-true : by true ≡ line_text (codes "reply" ∷ decimal p ∷ codes "spent" ∷ [])
  unfolding by reported_text
  by-true = refl

  by-false : by false
      ≡ line_text (codes "reply" ∷ decimal p ∷ encode_lower (reply_bytes (record r { signature = key.signature leaf (reply_body group r) })) ∷ [])
  unfolding by reported_text
  by-false = refl

  by-test : reported_text p (ReportedReply (word_with key group leaf r)) ≡ by (nat_le key.total leaf)
  unfolding by
  by-test = refl

  -- a leaf past the last one
  pub spent-reported : key.total ≤ leaf → (before after : List ℕ)
      → after ≡ before ++ line_text (codes "reply" ∷ decimal p ∷ codes "spent" ∷ [])
      → after ≡ before ++ reported_text p (ReportedReply (word_with key group leaf r))
  spent-reported le before after said =
      said ∙ ap (λ (t : List ℕ). before ++ t) (sym (by-test ∙ ap by (le-leb key.total leaf le) ∙ by-true))

  -- a leaf that the key has
  pub signed-reported : leaf < key.total → (signature record_bytes before after : List ℕ)
      → signature ≡ key.signature leaf (reply_body group r) → record_bytes ≡ reply_bytes (record r { signature = signature })
      → after ≡ before ++ line_text (codes "reply" ∷ decimal p ∷ encode_lower record_bytes ∷ [])
      → after ≡ before ++ reported_text p (ReportedReply (word_with key group leaf r))
  signed-reported lt signature record_bytes before after is_signed is_record said =
      said
      ∙ (λ i. before ++ line_text (codes "reply" ∷ decimal p ∷ encode_lower ((is_record ∙ (λ j. reply_bytes (record r { signature = is_signed j }))) i) ∷ []))
      ∙ ap (λ (t : List ℕ). before ++ t) (sym (by-test ∙ ap by (lt-leb key.total leaf lt) ∙ by-false))

  none-text : reported_text p (ReportedReply NoStore) ≡ line_text (codes "reply" ∷ decimal p ∷ codes "none" ∷ [])
  unfolding reported_text
  none-text = refl

  -- no store, so no answer
  pub none-reported : {A : Type 0} (view : A → List ℕ) (answer : Option A) → answer ≡ None → (before after : List ℕ)
      → after ≡ before ++ line_text (codes "reply" ∷ decimal p ∷ codes "none" ∷ [])
      → after ≡ before ++ reported_text p (ReportedReply (word_of key group leaf r (option_map view answer)))
  none-reported view answer none before after said =
      said ∙ ap (λ (t : List ℕ). before ++ t) (sym (
      (λ i. reported_text p (ReportedReply (word_of key group leaf r (option_map view (none i))))) ∙ none-text))
