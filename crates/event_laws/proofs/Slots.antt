-- Claims of different slots of one view are no more than its slots.
use Rattle.std.proofs.Common.{◌≡◌, ◌≢◌, ◌⊎◌, inl, inr, ℕ, zero, suc, ◌+◌, ◌*◌, ◌<◌, ◌≤◌, List, [], ◌∷◌, ◌++◌, length, map, true, refl, sym, ap, subst, ◌∙◌, arith}
use Rattle.std.specs.Prelude.{All, AllPairs, IsTrue}
use Rattle.std.specs.List.{flat_map, range_with_len}
use Rattle.std.proofs.Math.Nat.{zero-mul, suc-mul}
use Rattle.std.proofs.lemmas.List.{length-append}
use Rattle.std.proofs.lemmas.List.FromFn.{length-map-range_with_len}
use Rattle.message_defs.specs.Limits.{last_process, last_number, last_rank, most_places, most_members}
use Rattle.message_defs.specs.Updates.{Update, Remove, Add, Renew}
use Rattle.message_defs.specs.Spelling.{IsStatement, IsUpdate}
use Rattle.message_defs.specs.Statements.{Message, Statement, Init, Echo, Order, Place, Keep, Notify, End, Last, Suggest, Ack, Ready, Claim, Slot, InitAt, EchoAt, OrderAt, PlaceAt, KeepAt, NotifyAt, EndAt, LastAt, SuggestAt, AckAt, ReadyAt, slot_of, view_of, messages_of}
use Rattle.group_defs.specs.Views.{View, IsView, is_member}
use Rattle.group_defs.specs.Process.{Kind, Inits, Echoes, Orders, Places, Keeps, Notifies, Ends, Readies, Lasts, Suggests, Acks, all_kinds}
use Rattle.group_defs.specs.Laws.{IsOfView}
use Rattle.pool_laws.proofs.Members.{Mem, All-mem, mem-append, mem-behind, mem-map, mem-flat_map}
use Rattle.pool_laws.proofs.Places.{Pairs, all-pairs, mem-slice_get, slice_get-mem, range-mem}
use Rattle.pool_laws.proofs.Ranks.{rank-of-member}
use Rattle.event_laws.specs.Slots.{slots_of, slots_in, most_signed, SlotsAreFew}

-- ---- as many as there are different ones

-- the list without one of its members
record Without {A : Type 0} (x : A) (ys : List A) : Type 0 where
  pub rest : List A
  pub one : length ys ≡ suc (length rest)
  pub others : (y : A) → Mem y ys → (x ≡ y → ⊥) → Mem y rest

at-front : {A : Type 0} (x y : A) (ys : List A) → y ≡ x → Without x (y ∷ ys)
at-front {A} x y ys e = record { rest = ys; one = refl; others = other }
  where
    other : (z : A) → Mem z (y ∷ ys) → (x ≡ z → ⊥) → Mem z ys
    other z (inl at) not = absurd (not (sym e ∙ at))
    other z (inr m) not = m

later : {A : Type 0} (x y : A) (ys : List A) → Without x ys → Without x (y ∷ ys)
later {A} x y ys w = record { rest = y ∷ w.rest; one = ap suc w.one; others = other }
  where
    other : (z : A) → Mem z (y ∷ ys) → (x ≡ z → ⊥) → Mem z (y ∷ w.rest)
    other z (inl at) not = inl at
    other z (inr there) not = inr (w.others z there not)

without : {A : Type 0} (x : A) (ys : List A) → Mem x ys → Without x ys
without x [] m = absurd m
without x (y ∷ ys) (inl e) = at-front x y ys e
without x (y ∷ ys) (inr m) = later x y ys (without x ys m)

-- where f gives different things of each, all of them in ys, there are no more of them than of ys
pub few-different : {A B : Type 0} (f : A → B) (xs : List A) (ys : List B) → Pairs (λ a b. f a ≢ f b) xs
    → ((a : A) → Mem a xs → Mem (f a) ys) → length xs ≤ length ys
few-different f [] ys pairs among = omega arith
few-different f (x ∷ xs) ys pairs among =
    let w = without (f x) ys (among x (inl refl)) in
    let rest = few-different f xs w.rest (λ i j a b lt at_i at_j. pairs (suc i) (suc j) a b (omega (arith, lt)) at_i at_j)
    (λ a m. w.others (f a) (among a (inr m)) (let at = mem-slice_get xs a m in pairs 0 (suc at.0) x a (omega arith) refl at.1)) in
    let one = w.one in omega (arith, one, rest)

-- ---- the slots of a view

-- so many lists of one length
flat-length : {A B : Type 0} (g : A → List B) (n : ℕ) → ((a : A) → length (g a) ≡ n) → (xs : List A)
    → length (flat_map g xs) ≡ length xs * n
flat-length g n same [] = sym (zero-mul n)
flat-length g n same (x ∷ xs) =
    let rest = flat-length g n same xs in
    let one = same x in
    omega (arith, rest, one, length-append (g x) (flat_map g xs), suc-mul (length xs) n)

-- a number that is below the end of a row
number-in : {A : Type 0} (f : ℕ → A) (n l : ℕ) → l < n → Mem (f l) (map f (range_with_len 0 n))
number-in f n l lt = mem-map f (range_with_len 0 n) l (range-mem 0 n l (omega arith) (omega (arith, lt)))

join : {A : Type 0} (xs ys : List A) (n m : ℕ) → length xs ≡ n → length ys ≡ m → length (xs ++ ys) ≡ n + m
join xs ys n m here there = length-append xs ys ∙ (λ i. here i + there i)

-- what several lists have together
abbrev total : {A : Type 0} → (A → ℕ) → List A → ℕ
total n [] = 0
total n (x ∷ xs) = n x + total n xs

flat-total : {A B : Type 0} (g : A → List B) (n : A → ℕ) → ((a : A) → length (g a) ≡ n a) → (xs : List A)
    → length (flat_map g xs) ≡ total n xs
flat-total g n same [] = refl
flat-total g n same (x ∷ xs) = join (g x) (flat_map g xs) (n x) (total n xs) (same x) (flat-total g n same xs)

module _ (places ranks processes : ℕ) (v : View) where
  abbrev count : Kind → ℕ
  count Inits = places
  count Echoes = length v.members * places
  count Orders = places
  count Places = places
  count Keeps = places
  count Notifies = suc (processes + processes)
  count Ends = 1
  count Readies = ranks
  count Lasts = ranks
  count Suggests = ranks
  count Acks = ranks

  counted : (kind : Kind) → length (slots_of places ranks processes v kind) ≡ count kind
  counted Inits = length-map-range_with_len _ 0 places
  counted Echoes = flat-length _ places (λ m. length-map-range_with_len _ 0 places) v.members
  counted Orders = length-map-range_with_len _ 0 places
  counted Places = length-map-range_with_len _ 0 places
  counted Keeps = length-map-range_with_len _ 0 places
  counted Notifies = ap suc (join (map (λ q. NotifyAt v.number (Remove q)) (range_with_len 0 processes))
      (map (λ q. NotifyAt v.number (Add q)) (range_with_len 0 processes)) processes processes
      (length-map-range_with_len _ 0 processes) (length-map-range_with_len _ 0 processes))
  counted Ends = refl
  counted Readies = length-map-range_with_len _ 0 ranks
  counted Lasts = length-map-range_with_len _ 0 ranks
  counted Suggests = length-map-range_with_len _ 0 ranks
  counted Acks = length-map-range_with_len _ 0 ranks

  how-many : length (slots_in places ranks processes v) ≡ total count all_kinds
  how-many = flat-total (slots_of places ranks processes v) count counted all_kinds

  module _ (numbers : last_number < places) (deputies : last_rank < ranks) (pids : last_process < processes) where
    abbrev all : List Slot
    all = slots_in places ranks processes v

    at-kind : (kind : Kind) (slot : Slot) → Mem kind all_kinds → Mem slot (slots_of places ranks processes v kind) → Mem slot all
    at-kind kind slot m there = mem-flat_map (slots_of places ranks processes v) all_kinds kind slot m there

    echo-in : (m : Message) → m.number ≤ last_number → is_member v m.sender ≡ true
        → Mem (EchoAt v.number m) (slots_of places ranks processes v Echoes)
    echo-in m le member =
        let rank = rank-of-member v m.sender member in
        mem-flat_map (λ sender. map (λ l. EchoAt v.number (record { sender = sender; number = l })) (range_with_len 0 places)) v.members
        m.sender (EchoAt v.number m) (slice_get-mem v.members rank.0 m.sender rank.3)
        (number-in (λ l. EchoAt v.number (record { sender = m.sender; number = l })) places m.number (omega (arith, le, numbers)))

    notify-in : (u : Update) → IsUpdate u → Mem (NotifyAt v.number u) (slots_of places ranks processes v Notifies)
    notify-in Renew range = inl refl
    notify-in (Remove q) range = inr (mem-append (map (λ p. NotifyAt v.number (Remove p)) (range_with_len 0 processes)) _ _
        (number-in (λ p. NotifyAt v.number (Remove p)) processes q (omega (arith, range, pids))))
    notify-in (Add q) range = inr (mem-behind (map (λ p. NotifyAt v.number (Remove p)) (range_with_len 0 processes)) _ _
        (number-in (λ p. NotifyAt v.number (Add p)) processes q (omega (arith, range, pids))))

    in-view : (st : Statement) → IsStatement st → view_of st ≡ v.number → All (λ m. IsTrue (is_member v m.sender)) (messages_of st)
        → Mem (slot_of st) all
    in-view (Init x l payload) range at senders = subst (λ y. Mem (InitAt y l) all) (sym at)
        (at-kind Inits (InitAt v.number l) (inl refl)
        (number-in (λ l. InitAt v.number l) places l (let le = range.1 in omega (arith, le, numbers))))
    in-view (Echo x m payload) range at senders = subst (λ y. Mem (EchoAt y m) all) (sym at)
        (at-kind Echoes (EchoAt v.number m) (inr (inl refl))
        (echo-in m range.1.1 (All-mem (λ m. IsTrue (is_member v m.sender)) (m ∷ []) m senders (inl refl))))
    in-view (Order x k b) range at senders = subst (λ y. Mem (OrderAt y k) all) (sym at)
        (at-kind Orders (OrderAt v.number k) (inr (inr (inl refl)))
        (number-in (λ k. OrderAt v.number k) places k (let le = range.1 in omega (arith, le, numbers))))
    in-view (Place x k b) range at senders = subst (λ y. Mem (PlaceAt y k) all) (sym at)
        (at-kind Places (PlaceAt v.number k) (inr (inr (inr (inl refl))))
        (number-in (λ k. PlaceAt v.number k) places k (let le = range.1 in omega (arith, le, numbers))))
    in-view (Keep x k b) range at senders = subst (λ y. Mem (KeepAt y k) all) (sym at)
        (at-kind Keeps (KeepAt v.number k) (inr (inr (inr (inr (inl refl)))))
        (number-in (λ k. KeepAt v.number k) places k (let le = range.1 in omega (arith, le, numbers))))
    in-view (Notify x u) range at senders = subst (λ y. Mem (NotifyAt y u) all) (sym at)
        (at-kind Notifies (NotifyAt v.number u) (inr (inr (inr (inr (inr (inl refl)))))) (notify-in u range.1))
    in-view (End x k) range at senders = subst (λ y. Mem (EndAt y) all) (sym at)
        (at-kind Ends (EndAt v.number) (inr (inr (inr (inr (inr (inr (inl refl))))))) (inl refl))
    in-view (Ready x r value) range at senders = subst (λ y. Mem (ReadyAt y r) all) (sym at)
        (at-kind Readies (ReadyAt v.number r) (inr (inr (inr (inr (inr (inr (inr (inl refl))))))))
        (number-in (λ r. ReadyAt v.number r) ranks r (let le = range.1 in omega (arith, le, deputies))))
    in-view (Last x r ready) range at senders = subst (λ y. Mem (LastAt y r) all) (sym at)
        (at-kind Lasts (LastAt v.number r) (inr (inr (inr (inr (inr (inr (inr (inr (inl refl)))))))))
        (number-in (λ r. LastAt v.number r) ranks r (let le = range.1 in omega (arith, le, deputies))))
    in-view (Suggest x r value) range at senders = subst (λ y. Mem (SuggestAt y r) all) (sym at)
        (at-kind Suggests (SuggestAt v.number r) (inr (inr (inr (inr (inr (inr (inr (inr (inr (inl refl))))))))))
        (number-in (λ r. SuggestAt v.number r) ranks r (let le = range.1 in omega (arith, le, deputies))))
    in-view (Ack x r value) range at senders = subst (λ y. Mem (AckAt y r) all) (sym at)
        (at-kind Acks (AckAt v.number r) (inr (inr (inr (inr (inr (inr (inr (inr (inr (inr (inl refl)))))))))))
        (number-in (λ r. AckAt v.number r) ranks r (let le = range.1 in omega (arith, le, deputies))))

    few : (cs : List Claim) → All (IsOfView v) cs → All (λ c. IsStatement c.statement) cs
        → AllPairs (λ c d. slot_of c.statement ≢ slot_of d.statement) cs → length cs ≤ total count all_kinds
    few cs of range once =
        let most = few-different (λ (c : Claim). slot_of c.statement) cs all
        (all-pairs (λ (c d : Claim). slot_of c.statement ≢ slot_of d.statement) cs once)
        (λ c m. let is = All-mem (IsOfView v) cs c of m in
        in-view c.statement (All-mem (λ (c : Claim). IsStatement c.statement) cs c range m) is.number is.senders) in
        subst (λ n. length cs ≤ n) how-many most

pub slots_are_few : SlotsAreFew
slots_are_few v cs view of range once =
    let most : length cs ≤ 1024 + (length v.members * 1024 + (1024 + (1024 + (1024 + (129 + (1 + (16 + (16 + (16 + (16 + 0))))))))))
    = few 1024 16 64 v (omega arith) (omega arith) (omega arith) cs of range once in
    let members = view.few in
    omega (arith, most, members)
