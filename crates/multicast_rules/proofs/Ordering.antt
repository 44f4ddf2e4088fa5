-- How the Order that is due is made.
use Rattle.std.proofs.Common.{◌≡◌, ℕ, suc, ◌+◌, ◌-◌, ◌<◌, ◌≤◌, List, [], ◌∷◌, ◌++◌, length, Option, Some, None, Bool, true, false, refl, sym, ap, ◌∙◌, subst, arith}
use Rattle.std.specs.Prelude.{◌==◌, ◌&&◌, not, nat_lt, nat_le, is_some, if◌then◌else◌, option_map, slice_index, slice_index_or, slice_set, MatchOption}
use Rattle.std.proofs.lemmas.Bool.{lt-ltb}
use Rattle.byte_defs.specs.Choices.{is_some_and}
use Rattle.message_defs.specs.Limits.{last_number}
use Rattle.message_defs.specs.Statements.{Message, Batch, Order, Echo, OrderAt}
use Rattle.group_defs.specs.Process.{Orders, Setting, Pool, Process}
use Rattle.group_defs.specs.Certified.{number_of_members, payload_at, is_signed, own_orders, messages}
use Rattle.group_defs.specs.Due.{window, next_messages, next_batch, least_due}
use Rattle.own_place.specs.declared.own.Own.{Own}
use Rattle.own_place.specs.Owns.{IsOwnOf}
use Rattle.own_place.specs.Signed.{has_slot}
use Rattle.pool_laws.specs.Least.{IsLeastBelow}
use Rattle.pool_laws.proofs.Heard.{payload-certified}
use Rattle.pool_laws.proofs.Places.{slice_get-index, index-is}
use Rattle.rule_laws.specs.Heard.{IsPool}
use Rattle.rule_laws.specs.Placing.{may_order, counts_in, is_next, message_by, IsBatchSoFar}
use Rattle.rule_laws.proofs.Certified.{certified-ranges}
use Rattle.rule_laws.proofs.Ordering.{order_is_least, batch_begins, batch_goes_on, batch_is_full}
use Rattle.stmt_codec.specs.Batches.{message_of}
use Rattle.multicast_rules.specs.Ordering.{is_in_turn, TakesNext}

-- ---- the manager

-- by the own place, it may order
pub may-order : (s : Setting) (p : Process) (h : Pool) (own : Own) → IsOwnOf s p h own
    → (is_in_turn own && not (has_slot own.signed (OrderAt h.view.number own.ordered))) ≡ may_order p
may-order s p h own tells =
    let signed : has_slot own.signed (OrderAt h.view.number own.ordered) ≡ is_signed p (OrderAt p.pool.view.number own.ordered) =
    ap (λ (h : Pool). has_slot own.signed (OrderAt h.view.number own.ordered))
    (sym tells.pool) ∙ sym (tells.signed.slots (Order p.pool.view.number own.ordered []) refl) in
    ap (λ b. is_some_and own.position (λ r. r == 0) && not own.ended && nat_lt own.ordered (own.delivered + window)
    && nat_le own.ordered last_number && not b) signed
    ∙ (λ i. is_some_and (sym tells.position i) (λ r. r == 0) && not (sym tells.signed.end i)
    && nat_lt (sym tells.signed.how_many i) (sym tells.delivered.places i + window) && nat_le (sym tells.signed.how_many i) last_number
    && not (is_signed p (OrderAt p.pool.view.number (sym tells.signed.how_many i))))

-- in its turn it may order where its next place is not signed
pub in-turn : (s : Setting) (p : Process) (h : Pool) (own : Own) (x : ℕ) (r : Bool) → IsOwnOf s p h own → x ≡ h.view.number
    → r ≡ has_slot own.signed (OrderAt x own.ordered) → true ≡ is_in_turn own → not r ≡ may_order p
in-turn s p h own x r tells same signed e = (λ i. e i
    && not ((signed ∙ ap (λ x. has_slot own.signed (OrderAt x own.ordered)) same) i)) ∙ may-order s p h own tells

-- and else not
pub out-of-turn : (s : Setting) (p : Process) (h : Pool) (own : Own) → IsOwnOf s p h own → false ≡ is_in_turn own → false ≡ may_order p
out-of-turn s p h own tells e = (λ i. e i && not (has_slot own.signed (OrderAt h.view.number own.ordered))) ∙ may-order s p h own tells

-- ---- the batch

-- a certified message has a number of at most 1,023
pub few-numbers : (h : Pool) (m : Message) → IsPool h → is_some (payload_at h m) ≡ true → m.number < 65535
few-numbers h m pool e = go (payload_at h m) refl e
  where
    go : (o : Option (List ℕ)) → payload_at h m ≡ o → is_some o ≡ true → m.number < 65535
    go None at e = absurd cc
    go (Some b) at e = let far = (certified-ranges h pool (Echo h.view.number m b) (payload-certified h m b at)).1.1 in omega (arith, far)

index-default : (xs : List ℕ) (i d e : ℕ) → i < length xs → slice_index_or xs i d ≡ slice_index_or xs i e
index-default xs i d e lt = sym (index-is xs i e (slice_index_or xs i d) (slice_get-index xs i d lt))

-- the next message of this rank is taken
pub takes-one : (h : Pool) (members old new : List ℕ) (r sender : ℕ) → members ≡ h.view.members
    → IsLeastBelow (number_of_members h) (is_next h old) (Some r) → sender ≡ slice_index_or members r sender
    → (slice_index old r < 65535 → new ≡ slice_set old r (slice_index old r + 1)) → IsPool h
    → TakesNext h old new (Some (sender, slice_index old r))
takes-one h members old new r sender same least is more pool =
    let here : sender ≡ slice_index_or h.view.members r 0 = is ∙ ap
    (λ ms. slice_index_or ms r sender) same ∙ index-default h.view.members r sender 0 least.1 in
    (r, least, (λ i. record { sender = here i; number = slice_index old r }), more (few-numbers h (message_by h.view old r) pool least.2))

module _ (h : Pool) (before : List Message) (limit : ℕ) (pool : IsPool h) where
  -- one message more of those that may come
  pub next-one : (b : Batch) (old new : List ℕ) (i j : ℕ) (m : ℕ × ℕ) → limit - i ≡ suc (limit - j)
      → IsBatchSoFar h before limit b old (limit - i) → TakesNext h old new (Some m)
      → IsBatchSoFar h before limit (b ++ message_of m ∷ []) new (limit - j)
  next-one b old new i j m less so_far takes =
      let on = batch_goes_on h before limit b old (limit - j)
      (Some takes.0) pool.view (subst (IsBatchSoFar h before limit b old) less so_far) takes.1 in
      let P : Message → List ℕ → Type 0 = λ m cs. IsBatchSoFar h before limit (b ++ m ∷ []) cs (limit - j) in
      subst (P (message_of m)) (sym takes.3) (subst (λ n. P n (slice_set old takes.0 (slice_index_or old takes.0 0 + 1))) (sym takes.2) on)

  -- without one the batch is whole
  pub no-more : (b : Batch) (old new : List ℕ) (i : ℕ) → i < limit → IsBatchSoFar h before limit b old (limit - i)
      → TakesNext h old new None → next_messages limit h before ≡ b
  no-more b old new i lt so_far takes =
      let less : limit - i ≡ suc (limit - (i + 1)) = omega (arith, lt) in
      batch_goes_on h before limit b old (limit - (i + 1)) None pool.view (subst (IsBatchSoFar h before limit b old) less so_far) takes

  -- and so it is where no more may come
  pub full : (b : Batch) (cs : List ℕ) (i : ℕ) → limit ≤ i → IsBatchSoFar h before limit b cs (limit - i) → next_messages limit h before ≡ b
  full b cs i le so_far = let none : limit - i
      ≡ 0 = omega (arith, le) in batch_is_full h before limit b cs (subst (IsBatchSoFar h before limit b cs) none so_far)

  begun : (old : List ℕ) → old ≡ counts_in h.view before → IsBatchSoFar h before limit [] old (limit - 0)
  begun old is =
      let all : limit ≡ limit - 0 = omega arith in
      subst (λ cs. IsBatchSoFar h before limit [] cs (limit - 0)) (sym is)
      (subst (IsBatchSoFar h before limit [] (counts_in h.view before)) all (batch_begins h before limit))

  -- the first message
  pub first-one : (old new : List ℕ) (m : ℕ × ℕ) → 1 ≤ limit → old ≡ counts_in h.view before → TakesNext h old new (Some m)
      → IsBatchSoFar h before limit (message_of m ∷ []) new (limit - 1)
  first-one old new m some is takes = next-one [] old new 0 1 m (omega (arith, some)) (begun old is) takes

  -- without one there is none
  pub no-first : (old new : List ℕ) → 1 ≤ limit → old ≡ counts_in h.view before → TakesNext h old new None
      → next_messages limit h before ≡ []
  no-first old new some is takes = no-more [] old new 0 (omega (arith, some)) (begun old is) takes

-- ---- the Order

-- none is due where the process may not order
pub no-order : (s : Setting) (p : Process) → may_order p ≡ false → least_due s p Orders ≡ None
no-order s p e = order_is_least s p ∙ ap
    (λ t. if t && nat_lt 0 (length (next_batch p)) then Some (Order p.pool.view.number (length (own_orders p)) (next_batch p)) else None) e

-- the Order that is due is of this batch
pub order-due : (s : Setting) (p : Process) (h : Pool) (own : Own) (limit : ℕ) (o : Option Batch) → IsOwnOf s p h own → p.batch_limit ≡ limit
    → may_order p ≡ true
    → ((before : List Message) → own.orders.items ≡ counts_in h.view before
    → MatchOption o (next_messages limit h before ≡ []) (λ b. next_messages limit h before ≡ b))
    → ((b : Batch) → o ≡ Some b → 1 ≤ length b)
    → least_due s p Orders ≡ option_map (λ b. Order h.view.number own.ordered b) o
order-due s p h own limit o tells limit_is may made some =
    order_is_least s p ∙ ap (λ t. if t && nat_lt 0 (length (next_batch p))
    then Some (Order p.pool.view.number (length (own_orders p)) (next_batch p)) else None) may
    ∙ (λ i. if nat_lt 0 (length (next_is i)) then Some (Order (tells.pool i).view.number (tells.signed.how_many i) (next_is i)) else None)
    ∙ go o (made (messages (own_orders p)) names) some
  where
    next_is : next_batch p ≡ next_messages limit h (messages (own_orders p))
    next_is = λ i. next_messages (limit_is i) (tells.pool i) (messages (own_orders p))

    names : own.orders.items ≡ counts_in h.view (messages (own_orders p))
    names = sym tells.signed.names ∙ ap (λ (h : Pool). counts_in h.view (messages (own_orders p))) tells.pool

    go : (o : Option Batch) → MatchOption o (next_messages limit h (messages (own_orders p)) ≡ [])
        (λ b. next_messages limit h (messages (own_orders p)) ≡ b) → ((b : Batch) → o ≡ Some b → 1 ≤ length b)
        → (if nat_lt 0 (length (next_messages limit h (messages (own_orders p))))
        then Some (Order h.view.number own.ordered (next_messages limit h (messages (own_orders p)))) else None)
        ≡ option_map (λ b. Order h.view.number own.ordered b) o
    go None e some = ap (λ (b : Batch). if nat_lt 0 (length b) then Some (Order h.view.number own.ordered b) else None) e
    go (Some b) e some = ap (λ (b : Batch). if nat_lt 0 (length b) then Some (Order h.view.number own.ordered b) else None) e ∙ ap
        (λ t. if t then Some (Order h.view.number own.ordered b) else None) (lt-ltb 0 (length b) (some b refl))
