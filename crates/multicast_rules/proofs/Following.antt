-- Whether a batch follows, message by message.
use Rattle.std.proofs.Common.{◌≡◌, inl, ℕ, ◌+◌, ◌<◌, List, [], ◌∷◌, ◌++◌, map, length, take, Option, Some, None, Bool, true, false, refl, sym, ap, ◌∙◌, subst, arith, slice_get}
use Rattle.std.specs.Prelude.{◌==◌, ◌&&◌, is_some, All, slice_index, slice_index_or, slice_set}
use Rattle.std.proofs.lemmas.Bool.{both_ways, eqb-true}
use Rattle.std.proofs.lemmas.List.{take_more}
use Rattle.std.proofs.lemmas.List.Folds.{list_all-append}
use Rattle.message_defs.specs.Statements.{Message, Batch, Echo, messages_of}
use Rattle.group_defs.specs.Views.{is_member}
use Rattle.group_defs.specs.Process.{Pool}
use Rattle.group_defs.specs.Certified.{payload_at}
use Rattle.group_defs.specs.Due.{follows, are_certified}
use Rattle.group_defs.specs.Laws.{IsOfView}
use Rattle.pool_laws.proofs.Heard.{payload-certified}
use Rattle.pool_laws.proofs.Members.{All-mem, list_all-mem}
use Rattle.pool_laws.proofs.Places.{slice_get-mem, slice_get-index, slice_get-length, index-is, map-get}
use Rattle.pool_laws.proofs.Ranks.{rank-of-member}
use Rattle.pool_laws.proofs.Tests.{and-first, and-second, both-true}
use Rattle.rule_laws.specs.Heard.{IsPool}
use Rattle.rule_laws.specs.Placing.{FollowsSoFar}
use Rattle.rule_laws.proofs.Certified.{backer}
use Rattle.rule_laws.proofs.Ordering.{follows_on}
use Rattle.rule_laws.proofs.Ranks.{rank-at}
use Rattle.stmt_codec.specs.Batches.{message_of}
use Rattle.multicast_rules.specs.Placing.{IsFollower}
use Rattle.multicast_rules.proofs.Ordering.{few-numbers}

taken-more : (b : Batch) (i : ℕ) (m : Message) → slice_get b i ≡ Some m → take (i + 1) b ≡ take i b ++ m ∷ []
taken-more b i m at = take_more b i m (slice_get-length b i m at) ∙ ap (λ (m : Message). take i b ++ m ∷ []) (index-is b i m m at)

first-false : (a c : Bool) → c ≡ true → (a && c) ≡ false → a ≡ false
first-false true c e f = absurd (both_ways _ f e)
first-false false c e f = refl

second-false : (a c : Bool) → c ≡ false → (a && c) ≡ false
second-false true c e = e
second-false false c e = refl

-- the sender of a certified message is a member
pub sender-member : (h : Pool) (m : Message) → IsPool h → is_some (payload_at h m) ≡ true → is_member h.view m.sender ≡ true
sender-member h m pool e = go (payload_at h m) refl e
  where
    go : (o : Option (List ℕ)) → payload_at h m ≡ o → is_some o ≡ true → is_member h.view m.sender ≡ true
    go None at e = absurd cc
    go (Some b) at e =
        let said = (backer h (Echo h.view.number m b) pool.view.some (payload-certified h m b at)).1 in
        let of_view = All-mem (IsOfView h.view) h.heard said.0 pool.of_view said.1 in
        let senders = subst (λ st. All (λ (m : Message). is_member h.view m.sender ≡ true) (messages_of st)) said.3 of_view.senders in
        All-mem (λ (m : Message). is_member h.view m.sender ≡ true) (m ∷ []) m senders (inl refl)

-- what stands at a place of a batch's messages
pub message-at : (ms : List (ℕ × ℕ)) (i : ℕ) (item : ℕ × ℕ) → i < length ms → item ≡ slice_index_or ms i item
    → slice_get (map message_of ms) i ≡ Some (message_of item)
message-at ms i item lt is = map-get message_of ms i item (slice_get-index ms i item lt ∙ ap Some (sym is))

-- the first i messages follow by these counts, and are certified
pub record FollowSoFar (h : Pool) (before : List Message) (b : Batch) (cs : List ℕ) (i : ℕ) : Type 0 where
  pub in_order : FollowsSoFar h.view before b cs i
  pub certified : are_certified h (take i b) ≡ true

module _ (h : Pool) (before : List Message) (b : Batch) (cs : List ℕ) (i : ℕ) (m : Message) (pool : IsPool h) (at : slice_get b i ≡ Some m)
    (so_far : FollowSoFar h before b cs i) where
  -- the next one follows too
  pub goes-on : (r : ℕ) (new : List ℕ) → IsFollower h cs m (Some r)
      → (slice_index cs r < 65535 → new ≡ slice_set cs r (slice_index cs r + 1)) → FollowSoFar h before b new (i + 1)
  goes-on r new follower more =
      let same = and-first (m.number == slice_index_or cs r 0) (is_some (payload_at h m)) follower.1 in
      let certified = and-second (m.number == slice_index_or cs r 0) (is_some (payload_at h m)) follower.1 in
      let on = (follows_on h.view before b cs i r m pool.view so_far.in_order at (rank-at h.view m.sender r follower.0)).0 same in
      let few = few-numbers h m pool certified in
      let number_is : m.number ≡ slice_index cs r = eqb-true m.number (slice_index_or cs r 0) same in
      record {
        in_order = subst (λ cs. FollowsSoFar h.view before b cs (i + 1)) (sym (more (omega (arith, few, number_is)))) on;
        certified = ap (are_certified h) (taken-more b i m at) ∙ list_all-append (λ m. is_some (payload_at h m)) (take i b)
            (m ∷ []) ∙ both-true _ _ so_far.certified (both-true _ _ certified refl);
      }

  -- or the batch does not
  pub ends : IsFollower h cs m None → (follows before b && are_certified h b) ≡ false
  ends none = go (is_some (payload_at h m)) refl
    where
      go : (t : Bool) → is_some (payload_at h m) ≡ t → (follows before b && are_certified h b) ≡ false
      go false e = second-false (follows before b) (are_certified h b) (uncertified (are_certified h b) refl)
        where
          uncertified : (t : Bool) → are_certified h b ≡ t → t ≡ false
          uncertified true all = absurd (both_ways _ e (list_all-mem (λ m. is_some (payload_at h m)) b m all (slice_get-mem b i m at)))
          uncertified false all = refl
      go true e =
          let ranked = rank-of-member h.view m.sender (sender-member h m pool e) in
          let apart = first-false (m.number == slice_index_or cs ranked.0 0) (is_some (payload_at h m)) e (none ranked.0 ranked.1) in
          ap (λ t. t && are_certified h b) ((follows_on h.view before b cs i ranked.0 m pool.view so_far.in_order at ranked.3).1 apart)
