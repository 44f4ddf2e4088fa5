-- The own Orders of a view are at most 1,024, and name at most 16 messages each.
use Rattle.std.proofs.Common.{◌≡◌, ◌≢◌, ℕ, suc, ◌+◌, ◌≤◌, List, [], ◌∷◌, length, map, Bool, true, false, Option, Some, None, refl, sym, ap, ◌∙◌, subst, arith}
use Rattle.std.specs.Prelude.{◌==◌, if◌then◌else◌, cond, min, filter, filter_map, is_some, All, AllPairs}
use Rattle.std.specs.List.{sum_by, range_with_len, cons_option}
use Rattle.std.proofs.lemmas.Bool.{eqb-true}
use Rattle.std.proofs.lemmas.List.FromFn.{length-map-range_with_len}
use Rattle.std.proofs.lemmas.List.Kept.{AllPairs-filter}
use Rattle.std.proofs.lemmas.List.Sums.{sum_by-append, sum_by-cons, sum_by-le, count_by-le-length}
use Rattle.message_defs.specs.Limits.{most_messages}
use Rattle.message_defs.specs.Spelling.{IsClaim, IsStatement}
use Rattle.message_defs.specs.Statements.{Message, Batch, Statement, Init, Echo, Order, Place, Keep, Notify, End, Last, Suggest, Ack, Ready, Claim, OrderAt, slot_of, view_of}
use Rattle.group_defs.specs.Certified.{named, messages, ordered}
use Rattle.pool_laws.proofs.Members.{Mem, All-mem, mem-All, filter-mem, filter_map-mem, map-mem, mem-map}
use Rattle.pool_laws.proofs.Places.{all-pairs, range-mem}
use Rattle.event_laws.proofs.Slots.{few-different}
use Rattle.restored_place.specs.Walks.{batch_said}
use Rattle.restored_place.proofs.Gathered.{said}

-- ---- what they name

-- how many messages of a sender these name together
pub named-is : (sender : ℕ) (bs : List Batch) → named sender (messages bs) ≡ sum_by (λ (b : Batch). named sender b) bs
named-is sender [] = refl
named-is sender (b ∷ bs) =
    let parts = sum_by-append (λ (m : Message). cond (m.sender == sender) 1 0) b (messages bs) in
    let one = sum_by-cons (λ (b : Batch). named sender b) b bs in
    parts ∙ ap (λ n. named sender b + n) (named-is sender bs) ∙ sym one

named-few : (sender : ℕ) (bs : List Batch) → ((b : Batch) → Mem b bs → length b ≤ most_messages) → length bs ≤ 1024
    → sum_by (λ (b : Batch). named sender b) bs ≤ 16384
named-few sender bs few long =
    let each = mem-All (λ (b : Batch). named sender b ≤ 16) bs (λ b m.
    (let le = few b m in let count = count_by-le-length (λ (m : Message). m.sender == sender) b in omega (arith, le, count))) in
    let all = sum_by-le (λ (b : Batch). named sender b) 16 bs each in
    omega (arith, all, long)

-- ---- how many they are

module _ (number : ℕ) where
  abbrev is-order : Claim → Bool
  is-order c = is_some (batch_said number c.statement)

  -- as many as there are claims of them
  as-many : (cs : List Claim) → length (filter_map ordered (said number cs)) ≡ length (filter is-order cs)
  as-many [] = refl
  as-many (c ∷ cs) = go (view_of c.statement == number) (ordered c.statement) (as-many cs)
    where
      go : (b : Bool) (o : Option Batch) → length (filter_map ordered (said number cs)) ≡ length (filter is-order cs)
          → length (filter_map ordered (if b then c.statement ∷ said number cs else said number cs))
          ≡ length (if is_some (if b then ordered c.statement else None) then c ∷ filter is-order cs else filter is-order cs)
      go true o e = one (ordered c.statement) e
        where
          one : (o : Option Batch) → length (filter_map ordered (said number cs)) ≡ length (filter is-order cs)
              → length (cons_option o (filter_map ordered (said number cs)))
              ≡ length (if is_some o then c ∷ filter is-order cs else filter is-order cs)
          one None e = e
          one (Some b) e = ap suc e
      go false o e = e

  -- its slot is one of 1,024
  at-place : (st : Statement) → is_some (batch_said number st) ≡ true → IsStatement st → Mem (slot_of st) (map (λ k. OrderAt number k) (range_with_len 0 1024))
  at-place st ok range = go st (view_of st == number) refl ok range
    where
      go : (st : Statement) (b : Bool) → (view_of st == number) ≡ b → is_some (if b then ordered st else None) ≡ true → IsStatement st
          → Mem (slot_of st) (map (λ k. OrderAt number k) (range_with_len 0 1024))
      go (Order x k b) true at ok range =
          subst (λ (y : ℕ). Mem (OrderAt y k) (map (λ k. OrderAt number k) (range_with_len 0 1024))) (sym (eqb-true x number at))
          (mem-map (λ k. OrderAt number k) (range_with_len 0 1024) k (range-mem 0 1024 k (omega arith) (let le = range.1 in omega (arith, le))))
      go (Init x l payload) true at ok range = absurd cc
      go (Echo x m payload) true at ok range = absurd cc
      go (Place x k b) true at ok range = absurd cc
      go (Keep x k b) true at ok range = absurd cc
      go (Notify x u) true at ok range = absurd cc
      go (End x k) true at ok range = absurd cc
      go (Last x r ready) true at ok range = absurd cc
      go (Suggest x r v) true at ok range = absurd cc
      go (Ack x r v) true at ok range = absurd cc
      go (Ready x r v) true at ok range = absurd cc
      go st false at ok range = absurd cc

  module _ (cs : List Claim) (ranged : All IsClaim cs) (once : AllPairs (λ c d. slot_of c.statement ≢ slot_of d.statement) cs) where
    pub orders-few : length (filter_map ordered (said number cs)) ≤ 1024
    orders-few =
        let most = few-different (λ (c : Claim). slot_of c.statement) (filter is-order cs) (map (λ k. OrderAt number k) (range_with_len 0 1024))
        (all-pairs (λ (c d : Claim). slot_of c.statement ≢ slot_of d.statement) (filter is-order cs)
        (AllPairs-filter (λ (c d : Claim). slot_of c.statement ≢ slot_of d.statement) is-order cs once))
        (λ c m. (let is = filter-mem is-order cs c m in at-place c.statement is.1 (All-mem IsClaim cs c ranged is.0).1)) in
        let long = length-map-range_with_len (λ k. OrderAt number k) 0 1024 in
        omega (arith, as-many cs, most, long)

    batch-few : (b : Batch) → Mem b (filter_map ordered (said number cs)) → length b ≤ most_messages
    batch-few b m =
        let st = filter_map-mem ordered (said number cs) b m in
        let there = filter-mem (λ st. view_of st == number) (map (λ (c : Claim). c.statement) cs) st.0 st.1 in
        let from = map-mem (λ (c : Claim). c.statement) cs st.0 there.0 in
        of-order st.0 st.2 (subst IsStatement from.2 (All-mem IsClaim cs from.0 ranged from.1).1)
      where
        of-order : (st : Statement) → ordered st ≡ Some b → IsStatement st → length b ≤ most_messages
        of-order (Order x k c) e range = let is : c ≡ b = cc in subst (λ (b : Batch). length b ≤ most_messages) is range.2.few
        of-order (Init x l payload) e range = absurd cc
        of-order (Echo x n payload) e range = absurd cc
        of-order (Place x k c) e range = absurd cc
        of-order (Keep x k c) e range = absurd cc
        of-order (Notify x u) e range = absurd cc
        of-order (End x k) e range = absurd cc
        of-order (Last x r ready) e range = absurd cc
        of-order (Suggest x r v) e range = absurd cc
        of-order (Ack x r v) e range = absurd cc
        of-order (Ready x r v) e range = absurd cc

    pub order-count : min (length (filter_map ordered (said number cs))) 65535 ≡ length (filter_map ordered (said number cs))
    order-count = (let few = orders-few in omega (arith, few))

    pub name-count : (sender : ℕ) → min (sum_by (λ (b : Batch). named sender b) (filter_map ordered (said number cs))) 65535
        ≡ named sender (messages (filter_map ordered (said number cs)))
    name-count sender =
        let few = named-few sender (filter_map ordered (said number cs)) batch-few orders-few in
        let is = named-is sender (filter_map ordered (said number cs)) in
        omega (arith, few, is)
