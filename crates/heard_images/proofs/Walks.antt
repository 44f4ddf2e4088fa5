-- What the walk over places says: at each place the batch that is certified was delivered.
use Rattle.std.proofs.Common.{◌≡◌, ℕ, zero, suc, ◌+◌, ◌-◌, ◌<◌, ◌≤◌, List, [], ◌∷◌, ◌++◌, length, map, Bool, true, false, Option, Some, None, refl, sym, ap, subst, ◌∙◌, inl, inr, arith}
use Rattle.std.specs.Prelude.{◌↔◌, ◌&&◌, ◌==◌, nat_lt, if◌then◌else◌, option_and_then, All, IsTrue}
use Rattle.std.specs.List.{flat_map, list_all, range_with_len}
use Rattle.std.proofs.lemmas.Bool.{eqb-true, eq-eqb, ltb-true, ltb-false}
use Rattle.std.proofs.lemmas.List.{append-nil}
use Rattle.std.proofs.lemmas.List.Elements.{filter-append}
use Rattle.byte_defs.specs.Choices.{is_some_and}
use Rattle.byte_defs.specs.Equality.{is_yes, bytes_discrete}
use Rattle.message_defs.specs.Statements.{Message, Batch}
use Rattle.group_defs.specs.Process.{Pool, Delivered, places_in}
use Rattle.group_defs.specs.Certified.{payload_at, place_at}
use Rattle.group_defs.specs.Accounts.{IsByPlace, at_place, batch_at}
use Rattle.pool_laws.proofs.Members.{Mem, append-mem, filter-mem, tested-all, all-tested}
use Rattle.pool_laws.proofs.Tests.{and-first, and-second, both-true, is-yes, none-some, some-and, some-same, yes-is}
use Rattle.heard_images.specs.Walks.{is_delivered, after_batch, after_place, after_places, is_paid}

-- ---- one place

all-at : (k : ℕ) (es : List Delivered) → ((e : Delivered) → Mem e es → e.place ≡ k) → at_place k es ≡ es
all-at k [] are = refl
all-at k (e ∷ es) are = go (e.place == k) (eq-eqb e.place k (are e (inl refl))) (all-at k es (λ d m. are d (inr m)))
  where
    go : (b : Bool) → b ≡ true → at_place k es ≡ es → (if b then e ∷ at_place k es else at_place k es) ≡ e ∷ es
    go true is rest = ap (λ es. e ∷ es) rest
    go false is rest = absurd cc

none-at : (k : ℕ) (es : List Delivered) → ((e : Delivered) → Mem e es → e.place ≡ k → ⊥) → at_place k es ≡ []
none-at k [] no' = refl
none-at k (e ∷ es) no' = go (e.place == k) refl (none-at k es (λ d m. no' d (inr m)))
  where
    go : (b : Bool) → (e.place == k) ≡ b → at_place k es ≡ [] → (if b then e ∷ at_place k es else at_place k es) ≡ []
    go true is rest = absurd (no' e (inl refl) (eqb-true e.place k is))
    go false is rest = rest

abbrev messages : List Delivered → Batch
messages ds = map (λ d. d.message) ds

-- the first of these deliveries are the batch, at place k
record Begins (k : ℕ) (b : Batch) (ds rest : List Delivered) : Type 0 where
  first : List Delivered
  is : ds ≡ first ++ rest
  says : messages first ≡ b
  there : (d : Delivered) → Mem d first → d.place ≡ k

begins : (k : ℕ) (b : Batch) (ds rest : List Delivered) → after_batch k b ds ≡ Some rest → Begins k b ds rest
begins k [] ds rest e = record { first = []; is = some-same ds rest e; says = refl; there = λ d m. absurd m }
begins k (m ∷ ms) [] rest e = absurd cc
begins k (m ∷ ms) (d ∷ ds) rest e = go (is_delivered k m d) refl e (begins k ms ds rest)
  where
    go : (b : Bool) → is_delivered k m d ≡ b → option_and_then (after_batch k ms) (if b then Some ds else None) ≡ Some rest
        → (after_batch k ms ds ≡ Some rest → Begins k ms ds rest) → Begins k (m ∷ ms) (d ∷ ds) rest
    go false is e others = absurd cc
    go true is e others =
        let tail = others e in
        let both = and-second (d.place == k) (d.message.sender == m.sender && d.message.number == m.number) is in
        let sender : d.message.sender ≡ m.sender = eqb-true _ _ (and-first (d.message.sender == m.sender) (d.message.number == m.number) both) in
        let number : d.message.number ≡ m.number = eqb-true _ _ (and-second (d.message.sender == m.sender) (d.message.number == m.number) both)
        in
        let place : d.place ≡ k = eqb-true _ _ (and-first (d.place == k) (d.message.sender == m.sender && d.message.number == m.number) is) in
        record {
          first = d ∷ tail.first;
          is = ap (λ ds. d ∷ ds) tail.is;
          says = λ i. record { sender = sender i; number = number i } ∷ tail.says i;
          there = λ x t. elim t [ inl same ↦ subst (λ (y : Delivered). y.place ≡ k) same place | inr more ↦ tail.there x more ];
        }

after-own : (k : ℕ) (xs rest : List Delivered) → ((d : Delivered) → Mem d xs → (d.place == k) ≡ true)
    → after_batch k (messages xs) (xs ++ rest) ≡ Some rest
after-own k [] rest all = refl
after-own k (d ∷ xs) rest all =
    ap (λ (b : Bool). option_and_then (after_batch k (messages xs)) (if b then Some (xs ++ rest) else None))
    (both-true (d.place == k) (d.message.sender == d.message.sender && d.message.number == d.message.number) (all d (inl refl))
    (both-true (d.message.sender == d.message.sender) (d.message.number == d.message.number)
    (eq-eqb d.message.sender d.message.sender refl) (eq-eqb d.message.number d.message.number refl)))
    ∙ after-own k xs rest (λ e m. all e (inr m))

-- ---- many places

module _ (h : Pool) where
  -- from place k on, for so many places
  record Placed (more k : ℕ) (ds : List Delivered) : Type 0 where
    from : (d : Delivered) → Mem d ds → k ≤ d.place
    each : (j : ℕ) → k ≤ j → j < k + more → place_at h j ≡ Some (batch_at j ds)

  -- one place more before these
  one-placed : (more k : ℕ) (b : Batch) (ds rest : List Delivered) → place_at h k ≡ Some b → Begins k b ds rest → Placed more (k + 1) rest
      → Placed (suc more) k ds
  one-placed more k b ds rest at begin tail = record {
    from = λ d m. elim (append-mem begin.first rest d (subst (Mem d) begin.is m)) [
      | inl one ↦ (let is = begin.there d one in omega (arith, is))
      | inr later ↦ (let le = tail.from d later in omega (arith, le))
    ];
    each = λ j ge lt. place j ge lt (j == k) refl;
  }
    where
      parts : (j : ℕ) → at_place j ds ≡ at_place j begin.first ++ at_place j rest
      parts j = ap (at_place j) begin.is ∙ filter-append (λ (d : Delivered). d.place == j) begin.first rest

      here : at_place k ds ≡ begin.first
      here = parts k ∙ (λ i. all-at k begin.first begin.there i
          ++ none-at k rest (λ d m is. (let le = tail.from d m in absurd (omega (arith, le, is)))) i) ∙ append-nil begin.first

      later : (j : ℕ) → k < j → at_place j ds ≡ at_place j rest
      later j lt = parts j ∙ ap (λ es. es ++ at_place j rest)
          (none-at j begin.first (λ d m is. (let at_k = begin.there d m in absurd (omega (arith, lt, is, at_k)))))

      place : (j : ℕ) → k ≤ j → j < k + suc more → (t : Bool) → (j == k) ≡ t → place_at h j ≡ Some (batch_at j ds)
      place j ge lt true is =
          let same : j ≡ k = eqb-true j k is in
          ap (place_at h) same ∙ at ∙ ap Some (sym begin.says ∙ sym (ap messages here)) ∙ ap (λ (n : ℕ). Some (batch_at n ds)) (sym same)
      place j ge lt false is =
          let after : k < j = above (λ same. other (eq-eqb j k same) is) ge in
          tail.each j (omega (arith, after)) (omega (arith, lt)) ∙ ap (λ (es : List Delivered). Some (messages es)) (sym (later j after))
        where
          other : {t : Bool} → t ≡ true → t ≡ false → ⊥
          other e f = cc

          above : (j ≡ k → ⊥) → k ≤ j → k < j
          above apart le = go (nat_lt k j) refl
            where
              go : (t : Bool) → nat_lt k j ≡ t → k < j
              go true e = ltb-true k j e
              go false e = let ge = ltb-false k j e in absurd (apart (omega (arith, le, ge)))

  walk-placed : (more k : ℕ) (ds : List Delivered) → after_places h more k ds ≡ Some [] → Placed more k ds
  walk-placed zero k ds e =
      let none : ds ≡ [] = some-same ds [] e in
      record { from = λ d m. absurd (subst (Mem d) none m); each = λ j ge lt. absurd (omega (arith, ge, lt)) }
  walk-placed (suc more) k ds e = go (place_at h k) refl e (walk-placed more (k + 1))
    where
      after : (b : Batch) → place_at h k ≡ Some b → (o : Option (List Delivered)) → after_batch k b ds ≡ o
          → option_and_then (after_places h more (k + 1)) o ≡ Some []
          → ((rest : List Delivered) → after_places h more (k + 1) rest ≡ Some [] → Placed more (k + 1) rest) → Placed (suc more) k ds
      after b at None is e others = absurd cc
      after b at (Some rest) is e others = one-placed more k b ds rest at (begins k b ds rest is) (others rest e)

      go : (o : Option Batch) → place_at h k ≡ o
          → option_and_then (after_places h more (k + 1)) (option_and_then (λ b. after_batch k b ds) o) ≡ Some []
          → ((rest : List Delivered) → after_places h more (k + 1) rest ≡ Some [] → Placed more (k + 1) rest) → Placed (suc more) k ds
      go None at e others = absurd cc
      go (Some b) at e others = after b at (after_batch k b ds) refl e others

  placed-walk : (ds : List Delivered) (more k : ℕ) → ((j : ℕ) → k ≤ j → j < k + more → place_at h j ≡ Some (batch_at j ds))
      → after_places h more k (flat_map (λ j. at_place j ds) (range_with_len k more)) ≡ Some []
  placed-walk ds zero k each = refl
  placed-walk ds (suc more) k each =
      let rest = flat_map (λ j. at_place j ds) (range_with_len (k + 1) more) in
      ap (λ (o : Option Batch). option_and_then (after_places h more (k + 1)) (option_and_then (λ b. after_batch k b (at_place k ds ++ rest)) o))
      (each k (omega arith) (omega arith))
      ∙ ap (option_and_then (after_places h more (k + 1)))
      (after-own k (at_place k ds) rest (λ d m. (filter-mem (λ (d : Delivered). d.place == k) ds d m).1))
      ∙ placed-walk ds more (k + 1) (λ j ge lt. each j (omega (arith, ge)) (omega (arith, lt)))

  abbrev pub IsPlaced : List Delivered → Type 0
  IsPlaced ds = (k : ℕ) → k < places_in ds → place_at h k ≡ Some (batch_at k ds)

  -- the walk ends with nothing left exactly where each place is placed
  pub walk-is : (ds : List Delivered) → IsByPlace ds → (after_places h (places_in ds) 0 ds ≡ Some []) ↔ IsPlaced ds
  walk-is ds by = (
    λ e k lt. (walk-placed (places_in ds) 0 ds e).each k (omega arith) (omega (arith, lt)),
    λ placed. subst (λ es. after_places h (places_in ds) 0 es ≡ Some []) by.together
        (placed-walk ds (places_in ds) 0 (λ j ge lt. placed j (omega (arith, lt)))),
  )

  map-none : {X : Type 0} (f : X → Delivered) (left : List X) → map f left ≡ [] → left ≡ []
  map-none f [] e = refl
  map-none f (x ∷ xs) e = absurd cc

  module _ (ds : List Delivered) (by : IsByPlace ds) (n : ℕ) (many : n ≡ places_in ds) where
    pub left-is : {X : Type 0} (f : X → Delivered) (left : List X) (b : Bool) → Some (map f left) ≡ after_places h n 0 ds
        → (b ≡ true → left ≡ []) → (left ≡ [] → b ≡ true) → IsTrue b ↔ IsPlaced ds
    left-is f left b at there back = (
      λ ok. (walk-is ds by).0 (ap (λ k. after_places h k 0 ds) (sym many) ∙ sym at ∙ ap Some (ap (map f) (there ok))),
      λ placed. back (map-none f left (some-same (map f left) []
          (at ∙ ap (λ k. after_places h k 0 ds) many ∙ (walk-is ds by).1 placed))),
    )

    pub none-left : None ≡ after_places h n 0 ds → IsTrue false ↔ IsPlaced ds
    none-left at = (
      λ no_way. absurd cc,
      λ placed. absurd (none-some (sym at) (ap (λ k. after_places h k 0 ds) many ∙ (walk-is ds by).1 placed)),
    )

  -- ---- payloads

  paid-so : (d : Delivered) → is_paid h d ≡ true → payload_at h d.message ≡ Some d.payload
  paid-so d ok =
      let found = some-and (payload_at h d.message) (λ payload. is_yes (bytes_discrete payload d.payload)) ok in
      found.1 ∙ ap Some (yes-is (bytes_discrete found.0 d.payload) found.2)

  so-paid : (d : Delivered) → payload_at h d.message ≡ Some d.payload → is_paid h d ≡ true
  so-paid d is = ap (λ (o : Option (List ℕ)). is_some_and o (λ payload. is_yes (bytes_discrete payload d.payload))) is
      ∙ is-yes (bytes_discrete d.payload d.payload) refl

  pub paid-is : {X : Type 0} (f : X → Delivered) (xs : List X) (b : Bool) → b ≡ list_all (is_paid h) (map f xs)
      → IsTrue b ↔ All (λ (d : Delivered). payload_at h d.message ≡ Some d.payload) (map f xs)
  paid-is f xs b is = (
    λ ok. tested-all (is_paid h) (λ (d : Delivered). payload_at h d.message ≡ Some d.payload) (map f xs) paid-so (sym is ∙ ok),
    λ all. is ∙ all-tested (is_paid h) (λ (d : Delivered). payload_at h d.message ≡ Some d.payload) (map f xs) so-paid all,
  )

-- a list without elements has length 0
pub empty-so : {X : Type 0} (xs : List X) (b : Bool) → b ≡ (length xs == 0) → b ≡ true → xs ≡ []
empty-so [] b is ok = refl
empty-so (x ∷ xs) b is ok = let none : suc (length xs) ≡ 0 = eqb-true (suc (length xs)) 0 (sym is ∙ ok) in absurd (omega (arith, none))

pub so-empty : {X : Type 0} (xs : List X) (b : Bool) → b ≡ (length xs == 0) → xs ≡ [] → b ≡ true
so-empty xs b is none = is ∙ ap (λ ys. length ys == 0) none
