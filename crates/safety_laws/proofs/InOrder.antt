-- In each view the messages of a sender stand in the order of their numbers, each once.
use Rattle.std.proofs.Common.{◌≡◌, ◌≢◌, ℕ, zero, suc, ◌+◌, ◌<◌, ◌≤◌, List, [], ◌∷◌, ◌++◌, map, length, Some, Bool, true, false, refl, sym, ap, ◌∙◌, subst, arith, slice_get}
use Rattle.std.specs.Prelude.{if◌then◌else◌, ◌==◌, nat_le, take, filter, AllPairs}
use Rattle.std.specs.List.{range_with_len}
use Rattle.std.proofs.lemmas.Bool.{eqb-true, eq-eqb, leb-true}
use Rattle.std.proofs.lemmas.List.Sums.{length-filter}
use Rattle.group_defs.specs.Views.{View}
use Rattle.group_defs.specs.Below.{Message, Batch, Place}
use Rattle.group_defs.specs.Process.{Setting, Letter, Delivered, Process, views_of, without_places}
use Rattle.group_defs.specs.Certified.{is_certified, placed, named, messages}
use Rattle.group_defs.specs.Due.{may_sign, is_batch, follows, are_certified}
use Rattle.group_defs.specs.Accounts.{group_of, of_sender}
use Rattle.group_defs.specs.Family.{Correct, Family, end_of, accounts}
use Rattle.group_defs.specs.Laws.{Premises, IsOneView, IsBacked, StoodSo}
use Rattle.std.proofs.lemmas.List.{append-nil, append_assoc, length-append}
use Rattle.std.proofs.lemmas.List.Elements.{filter-append}
use Rattle.safety_laws.proofs.AllAgree.{SequenceSo, delivered_by, empty, sequence-so}
use Rattle.safety_laws.proofs.Batches.{named_at, spread, spread-messages}
use Rattle.safety_laws.proofs.CertifiedIsBacked.{certified_is_backed}
use Rattle.pool_laws.proofs.Heard.{place-certified, placed-at}
use Rattle.safety_laws.proofs.History.{ViewSo}
use Rattle.safety_laws.proofs.MaySign.{signing-due}
use Rattle.pool_laws.proofs.Members.{Mem}
use Rattle.safety_laws.proofs.Moments.{DueAt, backed-due}
use Rattle.safety_laws.proofs.OneContent.{one_content}
use Rattle.pool_laws.proofs.Places.{equal-by, pairs-all, slice_get-length, slice_get-mem, take-get, take-length}
use Rattle.pool_laws.proofs.Slots.{place-batch}
use Rattle.pool_laws.proofs.Tests.{and-first, and-second, both-true}
use Rattle.safety_laws.proofs.ViewsAgree.{backed, one-view}

-- ---- lists whose messages are numbered

abbrev pub by_sender : ℕ → Letter → Bool
by_sender s d = d.message.sender == s

-- so many of the sender stood before
abbrev pub Numbered : (ℕ → ℕ) → List Letter → Type 0
Numbered start ds = (k : ℕ) (d : Letter) → slice_get ds k ≡ Some d
    → d.message.number ≡ start d.message.sender + length (filter (by_sender d.message.sender) (take k ds))

abbrev one-if : Bool → ℕ
one-if true = 1
one-if false = 0

length-if : (b : Bool) (d : Letter) (ds : List Letter) → length (if b then d ∷ ds else ds) ≡ one-if b + length ds
length-if true d ds = omega arith
length-if false d ds = omega arith

abbrev bump : (ℕ → ℕ) → Letter → ℕ → ℕ
bump start d s = start s + one-if (by_sender s d)

numbered-tail : (start : ℕ → ℕ) (d : Letter) (ds : List Letter) → Numbered start (d ∷ ds) → Numbered (bump start d) ds
numbered-tail start d ds all k e at =
    let is = all (suc k) e at in
    let split = length-if (by_sender e.message.sender d) d (filter (by_sender e.message.sender) (take k ds)) in
    omega (arith, is, split)

numbered-order : (start : ℕ → ℕ) (s : ℕ) (ds : List Letter) → Numbered start ds
    → map (λ (d : Letter). d.message.number) (filter (by_sender s) ds) ≡ range_with_len (start s) (length (filter (by_sender s) ds))
numbered-order start s [] all = refl
numbered-order start s (d ∷ ds) all = go (by_sender s d) refl (numbered-order (bump start d) s ds (numbered-tail start d ds all))
  where
    go : (b : Bool) → by_sender s d ≡ b
        → map (λ (d : Letter). d.message.number) (filter (by_sender s) ds)
        ≡ range_with_len (bump start d s) (length (filter (by_sender s) ds))
        → map (λ (d : Letter). d.message.number) (if b then d ∷ filter (by_sender s) ds else filter (by_sender s) ds)
        ≡ range_with_len (start s) (length (if b then d ∷ filter (by_sender s) ds else filter (by_sender s) ds))
    go true e rest =
        let sender : d.message.sender ≡ s = eqb-true d.message.sender s e in
        let first = all zero d refl in
        let number : d.message.number ≡ start s = subst (λ s. d.message.number ≡ start s) sender (omega (arith, first)) in
        let next : bump start d s ≡ start s + 1 = ap (λ b. start s + one-if b) e ∙ one-more in
        λ i. number i ∷ (rest ∙ ap (λ n. range_with_len n (length (filter (by_sender s) ds))) next) i
      where
        one-more : start s + one-if true ≡ start s + 1
        one-more = refl
    go false e rest = rest ∙ ap (λ n. range_with_len n (length (filter (by_sender s) ds))) (ap (λ b. start s + one-if b) e ∙ no-more)
      where
        no-more : start s + one-if false ≡ start s
        no-more = omega arith

-- one that passes counts
take-more : (test : Letter → Bool) (ds : List Letter) (i j : ℕ) (d : Letter) → i < j → slice_get ds i ≡ Some d → test d ≡ true
    → length (filter test (take i ds)) < length (filter test (take j ds))
take-more test [] i j d lt at e = absurd cc
take-more test (x ∷ xs) i zero d lt at e = absurd (omega (arith, lt))
take-more test (x ∷ xs) zero (suc j) d lt at e = go (test x) (let is : x ≡ d = cc in ap test is ∙ e)
  where
    go : (b : Bool) → b ≡ true → 0 < length (if b then x ∷ filter test (take j xs) else filter test (take j xs))
    go true f = omega arith
    go false f = absurd cc
take-more test (x ∷ xs) (suc i) (suc j) d lt at e = go (test x) (take-more test xs i j d (omega (arith, lt)) at e)
  where
    go : (b : Bool) → length (filter test (take i xs)) < length (filter test (take j xs))
        → length (if b then x ∷ filter test (take i xs) else filter test (take i xs)) < length
        (if b then x ∷ filter test (take j xs) else filter test (take j xs))
    go true less = omega (arith, less)
    go false less = less

pub numbered-once : (ds : List Letter) → Numbered (λ s. 0) ds → AllPairs (λ d e. d.message ≢ e.message) ds
numbered-once ds all = pairs-all (λ d e. d.message ≢ e.message) ds (λ i j a b lt at_a at_b. λ same.
    let n_a = all i a at_a in
    let n_b : a.message.number ≡ 0 + length (filter (by_sender a.message.sender) (take j ds)) = subst
    (λ (m : Message). m.number ≡ 0 + length (filter (by_sender m.sender) (take j ds))) (sym same) (all j b at_b) in
    let more = take-more (by_sender a.message.sender) ds i j a lt at_a (eq-eqb a.message.sender a.message.sender refl) in
    omega (arith, n_a, n_b, more))

-- ---- they are

named-snoc : (s : ℕ) (ms : List Message) (m : Message) → named s (ms ++ m ∷ []) ≡ named s ms + one-if (m.sender == s)
named-snoc s ms m =
    let test : Message → Bool = λ (m : Message). m.sender == s in
    let all = length-filter test (ms ++ m ∷ []) in
    let before = length-filter test ms in
    let split : length (filter test (ms ++ m ∷ []))
    ≡ length (filter test ms) + length (filter test (m ∷ [])) = ap length (filter-append test ms (m ∷ [])) ∙ length-append
    (filter test ms) (filter test (m ∷ [])) in
    let last = single (m.sender == s) in
    omega (arith, all, before, split, last)
  where
    single : (b : Bool) → length (if b then m ∷ [] else []) ≡ one-if b
    single true = refl
    single false = refl

-- messages that follow are numbered
follow-numbered : (before : List Message) (ds : List Letter) → follows before (map (λ (d : Letter). d.message) ds) ≡ true
    → Numbered (λ s. named s before) ds
follow-numbered before [] e k d at = absurd cc
follow-numbered before (x ∷ xs) e zero d at =
    let is : x ≡ d = cc in
    let number : d.message.number ≡ named d.message.sender before = subst
    (λ (d : Letter). d.message.number ≡ named d.message.sender before) is
    (eqb-true x.message.number (named x.message.sender before) (and-first _ _ e)) in
    omega (arith, number)
follow-numbered before (x ∷ xs) e (suc k) d at =
    let rest = follow-numbered (before ++ x.message ∷ []) xs (and-second _ _ e) k d at in
    let more = named-snoc d.message.sender before x.message in
    let split = length-if (by_sender d.message.sender x) x (filter (by_sender d.message.sender) (take k xs)) in
    omega (arith, rest, more, split)

follows-append : (before b c : List Message) → follows before b ≡ true → follows (before ++ b) c ≡ true → follows before (b ++ c) ≡ true
follows-append before [] c one two = subst (λ ms. follows ms c ≡ true) (append-nil before) two
follows-append before (m ∷ ms) c one two =
    both-true _ _ (and-first _ _ one)
    (follows-append (before ++ m ∷ []) ms c (and-second _ _ one)
    (subst (λ ms. follows ms c ≡ true) (sym (append_assoc before (m ∷ []) ms)) two))

follows-all : (before : List Message) (bs : List Batch)
    → ((k : ℕ) (b : Batch) → slice_get bs k ≡ Some b → follows (before ++ messages (take k bs)) b ≡ true)
    → follows before (messages bs) ≡ true
follows-all before [] each = refl
follows-all before (b ∷ bs) each =
    follows-append before b (messages bs) (subst (λ ms. follows ms b ≡ true) (append-nil before) (each zero b refl))
    (follows-all (before ++ b) bs (λ k c at. subst (λ ms. follows ms c ≡ true) (sym (append_assoc before b (messages (take k bs))))
    (each (suc k) c at)))

-- what a Place needs of its batch
record PlaceDue (q : Process) (k : ℕ) (b : Batch) : Type 0 where
  pub far : k ≤ length (placed q.pool)
  pub batch : is_batch b ≡ true
  pub follows : follows (messages (take k (placed q.pool))) b ≡ true

place-due : (s : Setting) (q : Process) (x k : ℕ) (b : Batch) → may_sign s q (Place x k b) ≡ true → PlaceDue q k b
place-due s q x k b may =
    let five = and-first _ (are_certified q.pool b) (signing-due s q (Place x k b) may) in
    let four = and-first _ (follows (messages (take k (placed q.pool))) b) five in
    let three = and-first _ (is_batch b) four in
    record {
      far = leb-true k (length (placed q.pool)) (and-second _ (nat_le k (length (placed q.pool))) three);
      batch = and-second _ (is_batch b) four;
      follows = and-second _ (follows (messages (take k (placed q.pool))) b) five;
    }

messages-are : (ds : List Delivered) (bs : List Batch) → map named_at ds ≡ spread 0 bs
    → map (λ (d : Letter). d.message) (without_places ds) ≡ messages bs
messages-are ds bs e = two-ways ds ∙ ap (map (λ (e : ℕ × Message). e.1)) e ∙ spread-messages 0 bs
  where
    two-ways : (ds : List Delivered)
        → map (λ (d : Letter). d.message) (without_places ds) ≡ map (λ (e : ℕ × Message). e.1) (map named_at ds)
    two-ways [] = refl
    two-ways (d ∷ ds) = ap (λ ms. d.message ∷ ms) (two-ways ds)

module _ (f : Family) (v : View) (one : IsOneView f v) (c : Correct) (m : Mem c f.correct) (ds : List Delivered)
    (so : ViewSo f.setting c.turns (end_of f.setting c) v ds) where
  place-backed : (j : ℕ) (b : Batch) → slice_get so.batches j ≡ Some b → IsBacked f v (Place v.number j b)
  place-backed j b at = backed f v one c m (Place v.number j b) (so.places j b at)

  -- where a Place was due, the places before it hold what was delivered
  same-before : (q : Process) → StoodSo f q → q.pool.view ≡ v → (k : ℕ) → k ≤ length (placed q.pool) → k ≤ length so.batches
      → take k (placed q.pool) ≡ take k so.batches
  same-before q stood at_v k some far =
      let one_long = take-length k (placed q.pool) some in
      let other_long = take-length k so.batches far in
      equal-by (take k (placed q.pool)) (take k so.batches) (omega (arith, one_long, other_long))
      (λ j a b at_a at_b. placed-same j a (take-get k (placed q.pool) j a at_a) b (take-get k so.batches j b at_b))
    where
      placed-same : (j : ℕ) (a : Batch) → slice_get (placed q.pool) j ≡ Some a → (b : Batch) → slice_get so.batches j ≡ Some b → a ≡ b
      placed-same j a at b at' =
          let certified = place-certified q.pool j a (placed-at q.pool j a at) in
          let there : IsBacked f v (Place v.number j a) = certified_is_backed f v q (Place v.number j a) one stood at_v
          (subst (λ (u : View). is_certified q.pool (Place u.number j a) ≡ true) at_v certified) in
          place-batch v.number j a b (one_content f v (Place v.number j a) (Place v.number j b) one there (place-backed j b at') refl)

  -- its batch was due at a correct member
  due-there : (k : ℕ) (b : Batch) → slice_get so.batches k ≡ Some b
      → (is_batch b ≡ true) × (follows (messages (take k so.batches)) b ≡ true)
  due-there k b at = go (backed-due f v (Place v.number k b) one (place-backed k b at) refl)
    where
      go : DueAt f v (Place v.number k b) → (is_batch b ≡ true) × (follows (messages (take k so.batches)) b ≡ true)
      go (q, stood, at_v, may) =
          let need = place-due f.setting q v.number k b may in
          let far = slice_get-length so.batches k b at in
          (need.batch, subst (λ bs. follows (messages bs) b ≡ true) (same-before q stood at_v k need.far (omega (arith, far))) need.follows)

  -- each place has 1 to 16 messages
  pub batch-there : (k : ℕ) (b : Batch) → slice_get so.batches k ≡ Some b → is_batch b ≡ true
  batch-there k b at = (due-there k b at).0

  numbered-view : Numbered (λ s. 0) (without_places ds)
  numbered-view = follow-numbered [] (without_places ds)
      (ap (follows []) (messages-are ds so.batches so.as_placed) ∙ follows-all [] so.batches (λ k b at. (due-there k b at).1))

pub numbered-sequence : (f : Family) → Premises f → (x : ℕ) → Numbered (λ s. 0) ((group_of (accounts f)).sequence x)
numbered-sequence f premises x = go (sequence-so f premises x)
  where
    go : SequenceSo f x → Numbered (λ s. 0) ((group_of (accounts f)).sequence x)
    go (empty none) = subst (Numbered (λ s. 0)) (sym none) (λ k d at. absurd cc)
    go (delivered_by c m v at ds so is) = subst (Numbered (λ s. 0)) is
        (numbered-view f v (one-view f premises c m v (slice_get-mem (views_of (end_of f.setting c)) x v at)) c m ds so)

pub each-once : (f : Family) → Premises f → (x : ℕ) → AllPairs (λ d e. d.message ≢ e.message) ((group_of (accounts f)).sequence x)
each-once f premises x = numbered-once ((group_of (accounts f)).sequence x) (numbered-sequence f premises x)

pub each-in-order : (f : Family) → Premises f → (x sender : ℕ)
    → let ds = of_sender sender ((group_of (accounts f)).sequence x) in map (λ (d : Letter). d.message.number) ds
    ≡ range_with_len 0 (length ds)
each-in-order f premises x sender = numbered-order (λ s. 0) sender ((group_of (accounts f)).sequence x) (numbered-sequence f premises x)
