-- The messages of a place, put one behind the other.
use Rattle.std.proofs.Common.{◌≡◌, ℕ, zero, suc, ◌+◌, ◌≤◌, List, [], ◌∷◌, ◌++◌, map, length, drop, Some, refl, sym, ap, ◌∙◌, subst, arith, slice_get, append_assoc}
use Rattle.std.specs.Prelude.{option_map}
use Rattle.std.proofs.lemmas.List.{append-nil, map-append}
use Rattle.group_defs.specs.Process as defs
use Rattle.group_defs.specs.Process.{Pool}
use Rattle.group_defs.specs.Certified.{payload_at}
use Rattle.group_defs.specs.Events.{Delivers}
use Rattle.group_defs.specs.Settle.{delivery}
use Rattle.member_events.specs.Below.{message_of}
use Rattle.pool_laws.proofs.Tests.{map-some, some-same, then-some}
use Rattle.member_events.specs.declared.events.Delivered.{Delivered}
use Rattle.member_events.specs.declared.events.Note.{Note}
use Rattle.accounts.specs.Views as accounts
use Rattle.member_state.specs.Events.{note}
use Rattle.member_settling.specs.Reported.{ArePut, HasMore}

-- ---- more behind what was

pub more-same : (was now : List Delivered) → now ≡ was → HasMore was now
more-same was now same = record {
  more = [];
  delivered = ap (map accounts.delivery) same ∙ sym (append-nil (map accounts.delivery was));
}

pub more-one : (was now : List Delivered) (d : Delivered) → now ≡ was ++ d ∷ [] → HasMore was now
more-one was now d put = record {
  more = accounts.delivery d ∷ [];
  delivered = ap (map accounts.delivery) put ∙ map-append accounts.delivery was (d ∷ []);
}

pub more-both : (was now then_ : List Delivered) → HasMore was now → HasMore now then_ → HasMore was then_
more-both was now then_ a b = record {
  more = a.more ++ b.more;
  delivered = b.delivered ∙ ap (λ (ds : List defs.Delivered). ds ++ b.more) a.delivered
      ∙ append_assoc (map accounts.delivery was) a.more b.more;
}

-- ---- all the messages of a place

-- the message at the place, with its payload
abbrev pub one : ℕ → ℕ × ℕ → List ℕ → defs.Delivered
one k m payload = record { place = k; message = message_of m; payload = payload }

-- of these deliveries so many are left to put
pub record Putting (h : Pool) (k : ℕ) (left : List (ℕ × ℕ)) (ds : List defs.Delivered) (was now : List Delivered)
    (notes_was notes_now : List Note) : Type 0 where
  pub rest : List defs.Delivered
  pub delivers : delivery h k (map message_of left) ≡ Some rest
  pub delivered : map accounts.delivery now ++ rest ≡ map accounts.delivery was ++ ds
  pub reported : map note notes_now ++ map (Delivers h.view.number) rest ≡ map note notes_was ++ map (Delivers h.view.number) ds

-- whatever the messages deliver
abbrev pub ArePutting : Pool → ℕ → List (ℕ × ℕ) → List (ℕ × ℕ) → List Delivered → List Delivered → List Note → List Note → Type 0
ArePutting h k ms left was now notes_was notes_now = (ds : List defs.Delivered) → delivery h k (map message_of ms) ≡ Some ds
    → Putting h k left ds was now notes_was notes_now

drop-at : (ms : List (ℕ × ℕ)) (i : ℕ) (m : ℕ × ℕ) → slice_get ms i ≡ Some m → drop i ms ≡ m ∷ drop (i + 1) ms
drop-at ms i m at = let next : i + 1 ≡ suc i = omega arith in subst (λ j. drop i ms ≡ m ∷ drop j ms) (sym next) (go ms i at)
  where
    go : (ms : List (ℕ × ℕ)) (i : ℕ) → slice_get ms i ≡ Some m → drop i ms ≡ m ∷ drop (suc i) ms
    go [] i at = absurd cc
    go (n ∷ ms) zero at = let is : n ≡ m = cc in λ i. is i ∷ ms
    go (n ∷ ms) (suc i) at = go ms i at

drop-all : (ms : List (ℕ × ℕ)) (n : ℕ) → length ms ≤ n → drop n ms ≡ []
drop-all [] zero le = refl
drop-all [] (suc n) le = refl
drop-all (m ∷ ms) zero le = absurd (omega (arith, le))
drop-all (m ∷ ms) (suc n) le = drop-all ms n (omega (arith, le))

module _ (h : Pool) (k : ℕ) (ms : List (ℕ × ℕ)) (was : List Delivered) (notes_was : List Note) where
  pub begins : ArePutting h k ms (drop 0 ms) was was notes_was notes_was
  begins ds e = record { rest = ds; delivers = e; delivered = refl; reported = refl }

  pub one-put : (i : ℕ) (m : ℕ × ℕ) (now now' : List Delivered) (notes notes' : List Note) → slice_get ms i ≡ Some m
      → ArePutting h k ms (drop i ms) was now notes_was notes
      → ((payload : List ℕ) → payload_at h (message_of m) ≡ Some payload
      → ArePut h.view.number (one k m payload ∷ []) now now' notes notes') → ArePutting h k ms (drop (i + 1) ms) was now' notes_was notes'
  one-put i m now now' notes notes' at so_far put ds e =
      let before = so_far ds e in
      let head : delivery h k (message_of m ∷ map message_of (drop (i + 1) ms))
      ≡ Some before.rest = ap (λ left. delivery h k (map message_of left)) (sym (drop-at ms i m at)) ∙ before.delivers in
      let paid = then-some (λ payload. option_map (λ (ds : List defs.Delivered). one k m payload ∷ ds)
      (delivery h k (map message_of (drop (i + 1) ms)))) (payload_at h (message_of m)) before.rest head in
      let tail = map-some (λ (ds : List defs.Delivered). one k m paid.0 ∷ ds)
      (delivery h k (map message_of (drop (i + 1) ms))) before.rest paid.2 in
      let now_put = put paid.0 paid.1 in
      record {
        rest = tail.0;
        delivers = tail.1;
        delivered =
            ap (λ (xs : List defs.Delivered). xs ++ tail.0) now_put.delivered
            ∙ append_assoc (map accounts.delivery now) (one k m paid.0 ∷ []) tail.0
            ∙ ap (λ (xs : List defs.Delivered). map accounts.delivery now ++ xs) tail.2
            ∙ before.delivered;
        reported =
            ap (λ ns. ns ++ map (Delivers h.view.number) tail.0) now_put.reported
            ∙ append_assoc (map note notes) (Delivers h.view.number (one k m paid.0) ∷ []) (map (Delivers h.view.number) tail.0)
            ∙ ap (λ (xs : List defs.Delivered). map note notes ++ map (Delivers h.view.number) xs) tail.2
            ∙ before.reported;
      }

  pub all-put : (n : ℕ) (now : List Delivered) (notes : List Note) → length ms ≤ n → ArePutting h k ms (drop n ms) was now notes_was notes
      → (ds : List defs.Delivered) → delivery h k (map message_of ms) ≡ Some ds → ArePut h.view.number ds was now notes_was notes
  all-put n now notes all so_far ds e =
      let it = so_far ds e in
      let none : it.rest ≡ [] = some-same it.rest []
      (sym it.delivers ∙ ap (λ left. delivery h k (map message_of left)) (drop-all ms n all)) in
      record {
        delivered = sym (append-nil (map accounts.delivery now)) ∙ ap (λ (xs : List defs.Delivered). map accounts.delivery now ++ xs)
            (sym none) ∙ it.delivered;
        reported = sym (append-nil (map note notes)) ∙ ap (λ (xs : List defs.Delivered). map note notes ++ map (Delivers h.view.number) xs)
            (sym none) ∙ it.reported;
      }
