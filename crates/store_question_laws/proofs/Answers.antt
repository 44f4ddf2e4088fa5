-- Replies to other payloads count for nothing, and each reply is checked under the first key of its signer.
use Rattle.std.proofs.Common.{◌≡◌, ◌⊎◌, inl, inr, ℕ, ◌==◌, Bool, true, false, List, [], ◌∷◌, Option, Some, None, option_map, refl, sym, ap, subst, ◌∙◌}
use Rattle.std.specs.Prelude.{filter_map, find, if◌then◌else◌}
use Rattle.std.specs.List.{cons_option}
use Rattle.std.proofs.lemmas.Bool.{eqb-true, or_from}
use Rattle.byte_defs.specs.Choices.{and_then}
use Rattle.byte_defs.specs.Equality.{same_bytes}
use Rattle.byte_defs.specs.Members.{has}
use Rattle.signature_defs.specs.Schemes.{is_valid}
use Rattle.text_defs.specs.Words.{words_of}
use Rattle.kit_defs.specs.Kits.{Kit, roster_of}
use Rattle.store_defs.specs.declared.Offer.{Offer}
use Rattle.store_defs.specs.declared.Offer.TheVariants.{OtherRequest, Stranger, Unsigned, Known, Counted}
use Rattle.store_defs.specs.Records.{Reply}
use Rattle.store_defs.specs.Votes.{Valid, Vote, accepted, new_vote, offer, offered, vote_after, with_reply}
use Rattle.store_defs.specs.Asking.{key_in, named_key}
use Rattle.store_question_defs.specs.Lines.{Lines, first_key, key_said, reply_in, reply_said, view_of}
use Rattle.store_question_defs.specs.Laws.{AnswerIsOfAll}
use Rattle.store_question_laws.proofs.Lines.{said_in}
use Rattle.store_question_laws.proofs.Keys.{named_of_roster}

-- ---- keys

module _ (kit : Kit) (lines : Lines) where
  abbrev key_of : ℕ → Option (ℕ × List ℕ)
  key_of p = option_map (λ key. (p, key)) (first_key kit lines p)

  -- a process with a key is of the roster
  listed_in : (lines : Lines) (p : ℕ) (key : List ℕ) → first_key kit lines p ≡ Some key → has (roster_of kit.keys) p ≡ true
  listed_in [] p key e = absurd cc
  listed_in (line ∷ lines) p key e = of (λ f. listed_in lines p key f) (key_said kit line) refl e
    where
      There : Type 0
      There = has (roster_of kit.keys) p ≡ true

      by_process : (first_key kit lines p ≡ Some key → There) → (k : ℕ × List ℕ) → key_said kit line ≡ Some k → (b : Bool) → (k.0 == p) ≡ b
          → option_map (λ k. k.1) (let o : Option (ℕ × List ℕ) = if b then Some k else find (λ k. k.0 == p) (filter_map (key_said kit) lines) in o) ≡ Some key
          → There
      by_process again k says true own e =
          let words = said_in (named_key kit.scheme (roster_of kit.keys) []) line k refl says in
          subst (λ (q : ℕ). has (roster_of kit.keys) q ≡ true) (eqb-true k.0 p own) (named_of_roster kit.scheme (roster_of kit.keys) k (words_of line) words.1)
      by_process again k says false other e = again e

      of : (first_key kit lines p ≡ Some key → There) → (o : Option (ℕ × List ℕ)) → key_said kit line ≡ o
          → key_in (cons_option o (filter_map (key_said kit) lines)) p ≡ Some key → There
      of again None says e = again e
      of again (Some k) says e = by_process again k says (k.0 == p) refl e

  -- of the processes that are gone through, the key is there; of others none is
  abbrev IsThere : List ℕ → ℕ → Option (List ℕ) → Type 0
  IsThere ps p found = (found ≡ first_key kit lines p) ⊎ ((found ≡ None) × (has ps p ≡ false))

  keys_there : (ps : List ℕ) (p : ℕ) → IsThere ps p (key_in (filter_map key_of ps) p)
  keys_there [] p = inr (refl, refl)
  keys_there (q ∷ ps) p = of (keys_there ps p) (first_key kit lines q) refl (q == p) refl
    where
      none_either : IsThere ps p (key_in (filter_map key_of ps) p) → first_key kit lines p ≡ None → key_in (filter_map key_of ps) p ≡ first_key kit lines p
      none_either (inl is) none = is
      none_either (inr is) none = is.0 ∙ sym none

      later : IsThere ps p (key_in (filter_map key_of ps) p) → (q == p) ≡ false → IsThere (q ∷ ps) p (key_in (filter_map key_of ps) p)
      later (inl is) other = inl is
      later (inr is) other = inr (is.0, or_from (q == p) (has ps p) other is.1)

      some_key : (key : List ℕ) → IsThere ps p (key_in (filter_map key_of ps) p) → first_key kit lines q ≡ Some key → (b : Bool) → (q == p) ≡ b
          → IsThere (q ∷ ps) p
          (option_map (λ k. k.1) (let o : Option (ℕ × List ℕ) = if b then Some (q, key) else find (λ k. k.0 == p) (filter_map key_of ps) in o))
      some_key key rest is true own = inl (sym is ∙ ap (first_key kit lines) (eqb-true q p own))
      some_key key rest is false other = later rest other

      of : IsThere ps p (key_in (filter_map key_of ps) p) → (o : Option (List ℕ)) → first_key kit lines q ≡ o → (b : Bool) → (q == p) ≡ b
          → IsThere (q ∷ ps) p (key_in (cons_option (option_map (λ key. (q, key)) o) (filter_map key_of ps)) p)
      of rest None is true own = inl (none_either rest (ap (first_key kit lines) (sym (eqb-true q p own)) ∙ is))
      of rest None is false other = later rest other
      of rest (Some key) is b own = some_key key rest is (q == p) refl

  pub same_key : (p : ℕ) → key_in (filter_map key_of (roster_of kit.keys)) p ≡ first_key kit lines p
  same_key p = of (keys_there (roster_of kit.keys) p) (first_key kit lines p) refl
    where
      of : IsThere (roster_of kit.keys) p (key_in (filter_map key_of (roster_of kit.keys)) p) → (o : Option (List ℕ)) → first_key kit lines p ≡ o
          → key_in (filter_map key_of (roster_of kit.keys)) p ≡ first_key kit lines p
      of (inl is) o e = is
      of (inr is) None e = is.0 ∙ sym e
      of (inr is) (Some key) e = absurd (apart (has (roster_of kit.keys) p) is.1 (listed_in lines p key e))
        where
          apart : (b : Bool) → b ≡ false → b ≡ true → ⊥
          apart b e f = absurd cc

-- ---- replies

module _ (valid : Valid) (group : List ℕ) (keys : ℕ → Option (List ℕ)) (payload : List ℕ) where
  stays : (vote : Vote) (r : Reply) (o : Offer) → (with_reply vote r o).payload ≡ vote.payload
  stays vote r OtherRequest = refl
  stays vote r Stranger = refl
  stays vote r Unsigned = refl
  stays vote r Known = refl
  stays vote r Counted = refl

  -- a reply to another payload counts for nothing
  other_payload : (vote : Vote) (r : Reply) → vote.payload ≡ payload → same_bytes r.payload payload ≡ false → offered valid group keys vote r ≡ vote
  unfolding offer
  other_payload vote r about other =
      let apart : same_bytes r.payload vote.payload ≡ false = ap (same_bytes r.payload) about ∙ other in
      rw apart refl

  same_votes : (lines : Lines) (vote : Vote) → vote.payload ≡ payload
      → vote_after valid group keys vote (filter_map (reply_said payload) lines) ≡ vote_after valid group keys vote (filter_map reply_in lines)
  unfolding vote_after
  same_votes [] vote about = refl
  same_votes (line ∷ lines) vote about = of (λ v a. same_votes lines v a) (reply_in line)
    where
      Again : Type 0
      Again = (vote : Vote) → vote.payload ≡ payload
          → vote_after valid group keys vote (filter_map (reply_said payload) lines) ≡ vote_after valid group keys vote (filter_map reply_in lines)

      by_payload : Again → (r : Reply) → (b : Bool) → same_bytes r.payload payload ≡ b
          → vote_after valid group keys vote (cons_option (let o : Option Reply = if b then Some r else None in o) (filter_map (reply_said payload) lines))
          ≡ vote_after valid group keys vote (r ∷ filter_map reply_in lines)
      by_payload again r true is = again (offered valid group keys vote r) (stays vote r (offer valid group (keys r.signer) vote r) ∙ about)
      by_payload again r false is =
          again vote about
          ∙ ap (λ (v : Vote). vote_after valid group keys v (filter_map reply_in lines)) (sym (other_payload vote r about is))

      of : Again → (o : Option Reply)
          → vote_after valid group keys vote
          (cons_option (and_then o (λ r. if same_bytes r.payload payload then Some r else None)) (filter_map (reply_said payload) lines))
          ≡ vote_after valid group keys vote (cons_option o (filter_map reply_in lines))
      of again None = again vote about
      of again (Some r) = by_payload again r (same_bytes r.payload payload) refl

pub answer_is_of_all : AnswerIsOfAll
answer_is_of_all kit payload lines =
    (λ i. accepted (vote_after (is_valid kit.scheme) kit.group (λ p. same_key kit lines p i) (new_vote (view_of kit lines) payload)
    (filter_map (reply_said payload) lines)))
    ∙ ap accepted (same_votes (is_valid kit.scheme) kit.group (first_key kit lines) payload lines (new_vote (view_of kit lines) payload) refl)
