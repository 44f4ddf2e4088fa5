-- The own place is that of the process which has signed one statement more.
use Rattle.std.proofs.Common.{◌≡◌, ℕ, [], ◌∷◌, ◌++◌, map, length, Option, Some, None, Bool, true, false, refl, sym, ap, ◌∙◌, subst, arith}
use Rattle.std.specs.Prelude.{◌==◌, ◌&&◌, ◌||◌, if◌then◌else◌, is_some, option_map, max, filter, filter_map, fold}
use Rattle.std.specs.List.{list_any, cons_option}
use Rattle.std.specs.Option.{option_or}
use Rattle.std.proofs.lemmas.Bool.{eq-eqb}
use Rattle.std.proofs.lemmas.Bool.Decides.{same_from_decides}
use Rattle.std.proofs.lemmas.List.{append-nil, map-append}
use Rattle.std.proofs.lemmas.List.Concat.{flat_map-append}
use Rattle.std.proofs.lemmas.List.Elements.{filter-append, filter_map-append}
use Rattle.std.proofs.lemmas.List.Folds as folds
use Rattle.std.proofs.lemmas.List.Sums.{fold-append}
use Rattle.byte_defs.specs.Members.{has}
use Rattle.message_defs.specs.Updates.{Value}
use Rattle.message_defs.specs.Statements.{Batch, Statement, Order, End, Slot, EndAt, Claim, slot_of, view_of, same_slot}
use Rattle.group_defs.specs.Views.{View}
use Rattle.group_defs.specs.Process.{Setting, Pool, Process}
use Rattle.group_defs.specs.Certified.{claim_on, own, own_orders, own_rank, own_ready, is_signed, ordered, rank_said, readied, higher, messages}
use Rattle.group_defs.specs.Due.{may_sign, next_batch}
use Rattle.group_defs.specs.Signing.{Signer, own_claim, signs}
use Rattle.pool_laws.proofs.Places.{length-snoc}
use Rattle.pool_laws.proofs.Slots.{same_slot-is, is-same_slot}
use Rattle.rule_laws.specs.Placing.{counts_in}
use Rattle.rule_laws.proofs.Ordering.{only-order}
use Rattle.rule_laws.proofs.Signable.{may-parts}
use Rattle.claim_index.specs.Keys.{slot_key, same_slot_key}
use Rattle.claim_index.proofs.Keyed.{same_slot_key-is, is-same_slot_key, one_slot}
use Rattle.own_place.specs.declared.own.Own.{Own}
use Rattle.own_place.specs.Signed.{has_slot}
use Rattle.own_place.specs.Owns.{HasSigned, IsOwnOf}
use Rattle.own_place.specs.Noting.{is_end, ordered_messages, orders_after, ready_after, ComeNext, IsNoted}
use Rattle.own_place.proofs.Next.{next-come}

-- ---- slots

-- slots are equal where their keys are
same-keys : (a b : Slot) → same_slot_key (slot_key a) (slot_key b) ≡ same_slot b a
same-keys a b = same_from_decides {P = slot_key a ≡ slot_key b} (same_slot_key (slot_key a) (slot_key b)) (same_slot b a)
    (same_slot_key-is (slot_key a) (slot_key b), is-same_slot_key (slot_key a) (slot_key b))
    ((λ e. ap slot_key (sym (same_slot-is b a e))), λ e. is-same_slot b a (sym (one_slot a b e)))

unlike : (a b : Slot) → (a ≡ b → ⊥) → same_slot a b ≡ false
unlike a b not = go (same_slot a b) refl
  where
    go : (t : Bool) → same_slot a b ≡ t → t ≡ false
    go true e = absurd (not (same_slot-is a b e))
    go false e = refl

-- the slot of the view's End is an End's
end-slot : (st : Statement) (x : ℕ) → view_of st ≡ x → same_slot (slot_of st) (EndAt x) ≡ is_end st
end-slot (End y k) x e = is-same_slot (EndAt y) (EndAt x) (ap EndAt e)
end-slot st x e = unlike (slot_of st) (EndAt x) (λ is. cc)

-- ---- what the process has signed

module _ (s : Setting) (signer : Signer) (p : Process) (st : Statement) where
  abbrev q : Process
  q = signs s signer p st

  abbrev c : Claim
  c = own_claim s signer p st

  signed-more : (slot : Slot) → is_signed q slot ≡ (is_signed p slot || same_slot (slot_of st) slot)
  signed-more slot =
      ap (λ o. is_some (option_map (λ (d : Claim). d.statement) o))
      (folds.find-append (λ (d : Claim). (d.signer == p.me) && same_slot (slot_of d.statement) slot) p.signed (c ∷ []))
      ∙ go (claim_on p.signed p.me slot) (p.me == p.me) (eq-eqb p.me p.me refl) (same_slot (slot_of st) slot)
    where
      go : (o : Option Claim) (b : Bool) → b ≡ true → (d : Bool)
          → is_some (option_map (λ (d : Claim). d.statement) (option_or o (if b && d then Some c else None)))
          ≡ (is_some (option_map (λ (d : Claim). d.statement) o) || d)
      go (Some o) b e d = refl
      go None true e true = refl
      go None true e false = refl
      go None false e d = absurd cc

  module _ (current : view_of st ≡ p.pool.view.number) where
    own-more : own q ≡ own p ++ st ∷ []
    own-more =
        ap (filter (λ st. view_of st == p.pool.view.number)) (map-append (λ (d : Claim). d.statement) p.signed (c ∷ []))
        ∙ filter-append (λ st. view_of st == p.pool.view.number) (map (λ (d : Claim). d.statement) p.signed) (st ∷ [])
        ∙ ap (λ (b : Bool). own p ++ (if b then st ∷ [] else [])) (eq-eqb (view_of st) p.pool.view.number current)

    orders-more : own_orders q ≡ own_orders p ++ cons_option (ordered st) []
    orders-more = ap (filter_map ordered) own-more ∙ filter_map-append ordered (own p) (st ∷ [])

    messages-more : messages (own_orders q) ≡ messages (own_orders p) ++ ordered_messages st
    messages-more = ap messages orders-more ∙ flat_map-append (λ b. b) (own_orders p)
        (cons_option (ordered st) []) ∙ ap (λ ms. messages (own_orders p) ++ ms) (last st)
      where
        last : (st : Statement) → messages (cons_option (ordered st) []) ≡ ordered_messages st
        last (Order x k b) = append-nil b
        last _ = refl

    rank-more : own_rank q ≡ max (own_rank p) (rank_said st)
    rank-more = ap (fold (λ most st. max most (rank_said st)) 0) own-more ∙ fold-append (λ most st. max most (rank_said st)) 0 (own p)
        (st ∷ [])

    ready-more : own_ready q ≡ ready_after (own_ready p) (readied st)
    ready-more =
        ap (λ sts. fold higher None (filter_map readied sts)) own-more
        ∙ ap (fold higher None) (filter_map-append readied (own p) (st ∷ []))
        ∙ fold-append higher None (filter_map readied (own p)) (cons_option (readied st) [])
        ∙ go (readied st)
      where
        go : (o : Option (ℕ × Value)) → fold higher (own_ready p) (cons_option o []) ≡ ready_after (own_ready p) o
        go None = refl
        go (Some r) = refl

    -- so many Orders are signed, where this is the next one
    orders-after : (n : ℕ) → length (own_orders p) ≡ n → ((x k : ℕ) (b : Batch) → st ≡ Order x k b → k ≡ length (own_orders p))
        → length (own_orders q) ≡ orders_after n st
    orders-after n e next = ap length orders-more ∙ go st next
      where
        go : (st : Statement) → ((x k : ℕ) (b : Batch) → st ≡ Order x k b → k ≡ length (own_orders p))
            → length (own_orders p ++ cons_option (ordered st) []) ≡ orders_after n st
        go (Order x k b) next = length-snoc (own_orders p) b ∙ (let at = next x k b refl in omega (arith, at))
        go st next = ap length (append-nil (own_orders p)) ∙ e

-- ---- an Order is the next one, and so are its messages

abbrev IsNextOrder : Process → Statement → Type 0
IsNextOrder p st = (x k : ℕ) (b : Batch) → st ≡ Order x k b → k ≡ length (own_orders p)

is-next-order : (s : Setting) (p : Process) (st : Statement) → may_sign s p st ≡ true → IsNextOrder p st
is-next-order s p st may x k b e = let is = (only-order s p (Order x k b) (subst (λ st. may_sign s p st ≡ true) e may) refl).0 in cc

come-next : (s : Setting) (p : Process) (st : Statement) → may_sign s p st ≡ true
    → ComeNext p.pool.view (messages (own_orders p)) (ordered_messages st)
come-next s p (Order x k b) may =
    let is = (only-order s p (Order x k b) may refl).0 in
    let same : next_batch p ≡ b = cc in
    subst (ComeNext p.pool.view (messages (own_orders p))) same (next-come p.batch_limit p.pool (messages (own_orders p)))
come-next s p _ may = record { members = refl; in_order = refl }

-- ---- the place

module _ (s : Setting) (signer : Signer) (p : Process) (st : Statement) (before after : Own) (may : may_sign s p st ≡ true) where
  current : view_of st ≡ p.pool.view.number
  current = (may-parts s p st may).current

  has-more : after.signed.slots ≡ before.signed.slots ++ slot_key (slot_of st) ∷ [] → (slot : Slot)
      → has_slot after.signed slot ≡ (has_slot before.signed slot || same_slot (slot_of st) slot)
  has-more slots slot =
      ap (list_any (same_slot_key (slot_key slot))) slots
      ∙ folds.list_any-append (same_slot_key (slot_key slot)) before.signed.slots (slot_key (slot_of st) ∷ [])
      ∙ ap (λ b. has_slot before.signed slot || b)
      (or-false (same_slot_key (slot_key slot) (slot_key (slot_of st))) ∙ same-keys slot (slot_of st))
    where
      or-false : (b : Bool) → (b || false) ≡ b
      or-false true = refl
      or-false false = refl

  signed-now : HasSigned before p → IsNoted p.pool.view st before after → HasSigned after (signs s signer p st)
  signed-now has noted = record {
    slots = λ other here. signed-more s signer p st (slot_of other) ∙ ap (λ b. b || same_slot (slot_of st) (slot_of other))
        (has.slots other here) ∙ sym (has-more noted.slots (slot_of other));
    end = signed-more s signer p st (EndAt p.pool.view.number) ∙
        (λ i. has.end i || end-slot st p.pool.view.number current i) ∙ sym noted.end;
    greatest = rank-more s signer p st current ∙ ap (λ r. max r (rank_said st)) has.greatest ∙ sym noted.greatest;
    last_ready = ready-more s signer p st current ∙ ap (λ r. ready_after r (readied st)) has.last_ready ∙ sym noted.last_ready;
    how_many = orders-after s signer p st current before.ordered has.how_many (is-next-order s p st may) ∙ sym noted.how_many;
    names = ap (counts_in p.pool.view) (messages-more s signer p st current) ∙ noted.names (messages (own_orders p))
        (come-next s p st may) has.names;
  }

  -- which is now in this pool
  pub tells-now : (g h : Pool) (v : View) → IsOwnOf s p g before → g.view ≡ v → (signs s signer p st).pool ≡ h → IsNoted v st before after
      → IsOwnOf s (signs s signer p st) h after
  tells-now g h v tells same at noted' =
      let noted : IsNoted p.pool.view st before after = subst (λ v. IsNoted v st before after)
      (sym (ap (λ (h : Pool). h.view) tells.pool ∙ same)) noted' in
      record {
        pool = at;
        number = tells.number ∙ sym noted.number;
        position = tells.position ∙ sym noted.position;
        keys = λ k. tells.keys k ∙ ap (λ ks. has ks k) (sym noted.keys);
        signed = signed-now tells.signed noted;
        delivered = record { places = tells.delivered.places ∙ sym noted.places; counts = tells.delivered.counts ∙ sym noted.counts };
        before = tells.before ∙ sym noted.before;
      }
