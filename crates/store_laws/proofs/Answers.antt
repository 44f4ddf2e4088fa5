-- What a client accepts is the store's answer at a place of the one sequence.
use Rattle.std.proofs.Common.{◌≡◌, ◌≢◌, ◌⊎◌, inl, inr, ℕ, zero, suc, ◌+◌, ◌<◌, ◌≤◌, List, [], ◌∷◌, ◌++◌, map, length, Option, Some, None, Bool, true, false, refl, sym, ap, ◌∙◌, subst, append_assoc, arith, slice_get}
use Rattle.std.specs.Prelude.{◌&&◌, ◌==◌, All, AllPairs, Contains, IsTrue, filter, count_by}
use Rattle.std.proofs.lemmas.Bool.{eqb-true}
use Rattle.std.proofs.lemmas.List.{map-append}
use Rattle.std.proofs.lemmas.List.Sums.{length-filter}
use Rattle.byte_defs.specs.Equality.{same_bytes}
use Rattle.group_defs.specs.Views.{View, faulty}
use Rattle.group_defs.specs.Process.{Letter, Delivered, Process, letter_of, views_of, without_places}
use Rattle.group_defs.specs.Accounts.{Account, AgreesWith, Group, IsPrefixOf, account_of, at_place, delivered_in, group_of}
use Rattle.group_defs.specs.Family.{Correct, Family, accounts, end_of, ends}
use Rattle.group_defs.specs.Laws.{IsOneView, Premises}
use Rattle.pool_laws.proofs.Members.{All-mem, Contains-mem, Mem, list_any-mem, map-mem, mem-All, mem-Contains}
use Rattle.pool_laws.proofs.Places.{prefix-map, prefix-trans}
use Rattle.pool_laws.proofs.Tests.{and-first, and-second}
use Rattle.safety_laws.proofs.OfGroup.{in-accounts}
use Rattle.safety_laws.proofs.Quorums.{in-ends, me-end_of, some-correct}
use Rattle.safety_laws.proofs.ViewsAgree.{installed-one}
use Rattle.store_defs.specs.Stores.{answer_to, store_after}
use Rattle.store_defs.specs.Records.{Reply}
use Rattle.store_defs.specs.Votes.{Content, content_of, is_asked, is_signed, same_content}
use Rattle.store_defs.specs.Holding.{Beginning, Replies, IsDeliveredHere, payloads_of, store_below}
use Rattle.store_defs.specs.Laws.{AcceptedIsAnswer, IsAnswerOf, IsInstalled, IsOwnReply, MadeReply, ReplyIsAnswer, ServicePremises, Services, accepted_of, vouches}
use Rattle.store_laws.proofs.Holding.{agrees, store-is}
use Rattle.store_laws.proofs.Joining.{right}
use Rattle.store_laws.proofs.Maps.{same-is}
use Rattle.store_laws.proofs.Voting.{content-is, votes_exactly}

module _ (sv : Services) (premises : ServicePremises sv) where
  abbrev f : Family
  f = sv.family

  abbrev group : Group
  group = group_of (accounts sv.family)

  -- ---- of one reply

  pub of-reply : (c : Correct) → Mem c f.correct → (leaf : ℕ) (r : Reply) → MadeReply sv (end_of f.setting c) leaf r
      → IsAnswerOf (accounts f) r.view r.payload (content_of r)
  of-reply c m leaf r made =
      let a : Account = account_of (end_of f.setting c) in
      let said = made.replies in
      let delivery : IsDeliveredHere (delivered_in a r.view) = said.delivery in
      let agree : AgreesWith group a = agrees f premises.family c m in
      let store = store-is f premises.family c m made.beginning (right sv premises c m made.beginning made.from) r.view said.holds in
      let front : IsPrefixOf (delivery.before ++ delivery.at ∷ []) (delivered_in a r.view) = (
        delivery.behind,
        append_assoc delivery.before (delivery.at ∷ []) delivery.behind ∙ sym delivery.parts,
      ) in
      record {
        by = a;
        correct = mem-Contains (accounts f) a (in-accounts f c m);
        delivery = delivery;
        place = said.place;
        position = said.position;
        payload_is = said.payload;
        front = prefix-trans (without_places (delivery.before ++ delivery.at ∷ [])) (without_places (delivered_in a r.view)) (group.sequence r.view)
            (prefix-map letter_of (delivery.before ++ delivery.at ∷ []) (delivered_in a r.view) front) (agree.prefixes r.view);
        answer = said.answer
            ∙ (λ i. answer_to (store_after (store i) (payloads_of delivery.before)) delivery.at.payload)
            ∙ ap (answer_to (store_after (store_below group r.view) (payloads_of delivery.before))) (sym said.payload);
      }

  -- ---- of what is accepted

  module _ (keys : ℕ → Option (List ℕ)) (v : View) (payload : List ℕ) (rs : List Reply) (c : Content) (installed : IsInstalled f v)
      (own : All (IsOwnReply sv keys) rs)
      (accepted : accepted_of f.setting.valid f.setting.group keys v payload rs ≡ Some c) where
    abbrev test : ℕ → Bool
    test = vouches f.setting.valid f.setting.group keys v payload rs c

    one : IsOneView f v
    one = installed-one f premises.family installed.0 (Contains-mem (ends f) installed.0 installed.1) v
        (Contains-mem (views_of installed.0) v installed.2)

    is-answer : IsAnswerOf (accounts f) v.number payload c
    is-answer =
        let many = (votes_exactly f.setting.valid f.setting.group keys v payload rs).enough c accepted in
        let by = some-correct f v one test
        (subst (λ k. faulty (length v.members) < k) (sym (length-filter test v.members)) many) in
        let found = list_any-mem (λ r. (r.signer == by.0.me) && (is_asked v payload r
        && (is_signed f.setting.valid f.setting.group (keys by.0.me) r && same_content c (content_of r)))) rs by.2 in
        let r : Reply = found.0 in
        let signer : r.signer ≡ by.0.me = eqb-true r.signer by.0.me (and-first (r.signer == by.0.me) _ found.2) in
        let rest = and-second (r.signer == by.0.me) _ found.2 in
        let asked = and-first (is_asked v payload r) _ rest in
        let rest' = and-second (is_asked v payload r) _ rest in
        let signed = and-first (is_signed f.setting.valid f.setting.group (keys by.0.me) r) _ rest' in
        let content : c ≡ content_of r = content-is c (content_of r)
        (and-second (is_signed f.setting.valid f.setting.group (keys by.0.me) r) _ rest') in
        let paid : r.payload ≡ payload = same-is r.payload payload (and-first (same_bytes r.payload payload) _ asked) in
        let view : r.view ≡ v.number = eqb-true r.view v.number (and-second (same_bytes r.payload payload) _ asked) in
        let its = All-mem (IsOwnReply sv keys) rs r own found.1 in
        let made = All-mem (λ q. q.me ≡ r.signer → (leaf : ℕ) × MadeReply sv q leaf r) (ends f) (end_of f.setting by.0)
        (its (subst (λ n. is_signed f.setting.valid f.setting.group (keys n) r ≡ true) (sym signer) signed)) (in-ends f by.0 by.1)
        (me-end_of f.setting by.0 ∙ sym signer) in
        subst (λ (d : Content). IsAnswerOf (accounts f) v.number payload d) (sym content)
        (subst (λ (b : List ℕ). IsAnswerOf (accounts f) v.number b (content_of r)) paid
        (subst (λ (x : ℕ). IsAnswerOf (accounts f) x r.payload (content_of r)) view (of-reply by.0 by.1 made.0 r made.1)))

pub reply_is_answer : ReplyIsAnswer
reply_is_answer sv premises =
    mem-All (λ p. (leaf : ℕ) (r : Reply) → MadeReply sv p leaf r → IsAnswerOf (accounts sv.family) r.view r.payload (content_of r))
    (ends sv.family)
    (λ p there leaf r made.
    let c = map-mem (end_of sv.family.setting) sv.family.correct p there in
    of-reply sv premises c.0 c.1 leaf r (subst (λ (q : Process). MadeReply sv q leaf r) (sym c.2) made))

pub accepted_is_answer : AcceptedIsAnswer
accepted_is_answer sv keys v payload rs c premises installed own accepted = is-answer sv premises keys v payload rs c installed own accepted
