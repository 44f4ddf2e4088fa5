-- What the questions of a family read of its processes, and the questions.
-- Names here (* for this crate alone):
--   Account, account_of, delivered_in, messages_in, HasLeft, IsPrefixOf
--   the group: Group, longest, group_of, history
--   the questions: corrupt_in, Bounded, AgreesWith, Agree, HasCause, of_sender, IsOnce, IsInOrder, at_place, batch_at, IsByPlace,
--     HaveSameBatches, ArePlaced, Sound
--   the same, as the report computes them: bounded, same_views, same_sequence, agrees_in, agrees_with, agree, perceived_in, has_cause,
--     is_in_order, is_sound_in, is_accepted, same_deliveries*, is_by_place, have_same_batches, are_placed_in, neighbours, sound
--   the two ways say the same: BoundedIsTested, HasListOfEachView, AccountsHaveLists, AgreeIsTested, SoundIsTested
use Rattle.std.specs.Prelude.{◌≡◌, ◌≢◌, ℕ, ◌+◌, min, ◌<◌, ◌≤◌, Bool, ◌&&◌, ◌||◌, not, nat_lt, nat_le, ◌==◌, List, [], ◌∷◌, ◌++◌, length, map, take, drop, filter, flat_map, count_by, if◌then◌else◌, IsTrue, ◌↔◌, All, AllPairs, Contains, Some, slice_get, slice_index_or}
use Rattle.std.specs.List.{list_any, list_all, range_with_len}
use lib.Pointwise.{pointwise}
use Rattle.message_defs.specs.Below.{is_yes, bytes_discrete, has}
use Rattle.group_defs.specs.Views.{View, View-discrete, is_member, faulty, next_view, is_possible}
use Rattle.message_defs.specs.Limits.{most_messages}
use Rattle.message_defs.specs.Updates.{Update}
use Rattle.message_defs.specs.Statements.{Batch, Batch-discrete}
use Rattle.group_defs.specs.Process.{Letter, Letter-discrete, Delivered, Delivered-discrete, Process, views_of, deliveries_of, without_places, places_in}

-- what is asked of a process: its views, what it delivered in each, what it accepted, and the updates that it perceived
pub record Account : Type 0 where
  pub me : ℕ
  pub views : List View
  -- of each view, by its number
  pub delivered : List (List Delivered)
  pub accepted : List (List ℕ)
  pub perceived : List (ℕ × Update)

-- the account of a process
abbrev pub account_of : Process → Account
account_of p = record { me = p.me; views = views_of p; delivered = deliveries_of p; accepted = p.accepted; perceived = p.perceived }

-- what it delivered in the view of this number
abbrev pub delivered_in : Account → ℕ → List Delivered
delivered_in a x = slice_index_or a.delivered x []

-- the messages that it delivered in the view of this number, without their places
abbrev pub messages_in : Account → ℕ → List Letter
messages_in a x = without_places (delivered_in a x)

-- it left the view of this number
abbrev pub HasLeft : Account → ℕ → Type 0
HasLeft a x = x + 1 < length a.views

-- the first list is the front of the second, or all of it
abbrev pub IsPrefixOf : {A : Type 0} → List A → List A → Type 0
IsPrefixOf {A} xs ys = (rest : List A) × (xs ++ rest ≡ ys)

-- ---- the group

-- the group that a family is: its views, and in each one sequence of messages
pub record Group : Type 0 where
  pub views : List View
  -- of the view of this number
  pub sequence : ℕ → List Letter

-- the first of the longest
abbrev pub longest : {A : Type 0} → List (List A) → List A
longest [] = []
longest (xs ∷ more) = if nat_lt (length xs) (length (longest more)) then longest more else xs

-- The longest views list and, of each view, the messages of the longest delivered list. The accounts are in order of process numbers,
-- and of equally long lists the first one counts.
abbrev pub group_of : List Account → Group
group_of accounts = record { views = longest (map (λ a. a.views) accounts); sequence = λ x. longest (map (λ a. messages_in a x) accounts) }

-- the sequences in order of views
abbrev pub history : Group → List Letter
history g = flat_map g.sequence (range_with_len 0 (length g.views))

-- ---- the questions

-- how many members of the view are not correct
abbrev pub corrupt_in : List ℕ → View → ℕ
corrupt_in correct v = count_by (λ m. not (has correct m)) v.members

-- each view that a correct process installed has at most f members that are not correct
abbrev pub Bounded : List Account → List ℕ → Type 0
Bounded accounts correct = All (λ a. All (λ v. corrupt_in correct v ≤ faulty (length v.members)) a.views) accounts

-- the account's views are a prefix of the group's, the messages that it delivered in each view are a prefix of the group's sequence, and
-- a member that left the view delivered the whole sequence
pub record AgreesWith (g : Group) (a : Account) : Type 0 where
  pub views : IsPrefixOf a.views g.views
  pub prefixes : (x : ℕ) → IsPrefixOf (messages_in a x) (g.sequence x)
  pub whole : (x : ℕ) (v : View) → slice_get a.views x ≡ Some v → IsTrue (is_member v a.me) → HasLeft a x → messages_in a x ≡ g.sequence x

-- each correct process agrees with the group of them all
abbrev pub Agree : List Account → Type 0
Agree accounts = All (AgreesWith (group_of accounts)) accounts

-- a correct member of the view perceived the update that ended it
pub record HasCause (accounts : List Account) (keyed : List ℕ) (v w : View) : Type 0 where
  pub update : Update
  pub possible : IsTrue (is_possible keyed v update)
  pub next : w ≡ next_view v update
  pub by : Account
  pub correct : Contains accounts by
  pub member : IsTrue (is_member v by.me)
  pub perceived : Contains by.perceived (v.number, update)

-- what the sequence has of the sender
abbrev pub of_sender : ℕ → List Letter → List Letter
of_sender sender ds = filter (λ d. d.message.sender == sender) ds

-- no message occurs twice
abbrev pub IsOnce : List Letter → Type 0
IsOnce ds = AllPairs (λ d e. d.message ≢ e.message) ds

-- the numbers of the sender are 0, 1, 2 and so on
abbrev pub IsInOrder : ℕ → List Letter → Type 0
IsInOrder sender ds = map (λ d. d.message.number) (of_sender sender ds) ≡ range_with_len 0 (length (of_sender sender ds))

-- what was delivered at place k
abbrev pub at_place : ℕ → List Delivered → List Delivered
at_place k ds = filter (λ d. d.place == k) ds

-- the messages that were delivered at place k, in order
abbrev pub batch_at : ℕ → List Delivered → Batch
batch_at k ds = map (λ d. d.message) (at_place k ds)

-- the places are 0, 1, 2 and so on: the list is what was delivered at each of them, one after the other, and at each 1 to 16 messages
pub record IsByPlace (ds : List Delivered) : Type 0 where
  pub together : flat_map (λ k. at_place k ds) (range_with_len 0 (places_in ds)) ≡ ds
  pub batches : (k : ℕ) → k < places_in ds → (1 ≤ length (at_place k ds)) × (length (at_place k ds) ≤ most_messages)

-- of the places that both lists have, each has the same messages in the same order
abbrev pub HaveSameBatches : List Delivered → List Delivered → Type 0
HaveSameBatches ds es = (k : ℕ) → k < places_in ds → k < places_in es → batch_at k ds ≡ batch_at k es

-- what each process delivered in each view is in the order of the places, and any two delivered the same at a place
pub record ArePlaced (accounts : List Account) : Type 0 where
  pub by_place : All (λ a. (x : ℕ) → IsByPlace (delivered_in a x)) accounts
  pub same : All (λ a. All (λ b. (x : ℕ) → HaveSameBatches (delivered_in a x) (delivered_in b x)) accounts) accounts

-- each view has a cause in the one before; in a sequence no message occurs twice, and the numbers of each sender are 0, 1, 2 and so on;
-- what was delivered of a correct process, over all views, is a prefix of the payloads that it accepted; and a place is delivered whole,
-- with the same messages by all
pub record Sound (accounts : List Account) (keyed : List ℕ) : Type 0 where
  pub causes : (x : ℕ) (v w : View) → slice_get (group_of accounts).views x ≡ Some v → slice_get (group_of accounts).views (x + 1) ≡ Some w
      → HasCause accounts keyed v w
  pub once : (x : ℕ) → IsOnce ((group_of accounts).sequence x)
  pub in_order : (x sender : ℕ) → IsInOrder sender ((group_of accounts).sequence x)
  pub accepted : All (λ a. IsPrefixOf (map (λ d. d.payload) (of_sender a.me (history (group_of accounts)))) a.accepted) accounts
  pub placed : ArePlaced accounts

-- ---- the same, as the report computes them

-- as `Bounded`
abbrev pub bounded : List Account → List ℕ → Bool
bounded accounts correct = list_all (λ a. list_all (λ v. nat_le (corrupt_in correct v) (faulty (length v.members))) a.views) accounts

-- the lists of views are equal
abbrev pub same_views : List View → List View → Bool
same_views = pointwise (λ v w. is_yes (View-discrete v w))

-- the sequences are equal
abbrev pub same_sequence : List Letter → List Letter → Bool
same_sequence = pointwise (λ d e. is_yes (Letter-discrete d e))

-- as `AgreesWith`, in the view of this number
abbrev pub agrees_in : Group → Account → ℕ → Bool
agrees_in g a x =
    let ds = messages_in a x in
    same_sequence ds (take (length ds) (g.sequence x))
    && (not (list_any (λ v. is_member v a.me) (take 1 (drop x a.views))) || not (nat_lt (x + 1) (length a.views))
    || same_sequence ds (g.sequence x))

-- as `AgreesWith`
abbrev pub agrees_with : Group → Account → Bool
agrees_with g a =
    same_views a.views (take (length a.views) g.views)
    && list_all (agrees_in g a) (range_with_len 0 (length a.views))

-- as `Agree`
abbrev pub agree : List Account → Bool
agree accounts = list_all (agrees_with (group_of accounts)) accounts

-- the updates that some account perceived in a view
abbrev pub perceived_in : List Account → View → List Update
perceived_in accounts v = flat_map
    (λ a. if is_member v a.me then map (λ e. e.1) (filter (λ e. e.0 == v.number) a.perceived) else []) accounts

-- `HasCause` as a test, of a view and the one after it
abbrev pub has_cause : List Account → List ℕ → View × View → Bool
has_cause accounts keyed e = list_any (λ u. is_possible keyed e.0 u && same_views (e.1 ∷ []) (next_view e.0 u ∷ []))
    (perceived_in accounts e.0)

-- the numbers of the sender are 0, 1, 2 and so on
abbrev pub is_in_order : List Letter → ℕ → Bool
is_in_order ds sender =
    let numbers = map (λ d. d.message.number) (of_sender sender ds) in
    pointwise (λ m n. m == n) numbers (range_with_len 0 (length numbers))

-- in the sequence of view x the numbers of each sender are 0, 1, 2 and so on, so no message occurs twice
abbrev pub is_sound_in : Group → ℕ → Bool
is_sound_in g x = list_all (λ d. is_in_order (g.sequence x) d.message.sender) (g.sequence x)

-- what was delivered of the process is a prefix of what it accepted
abbrev pub is_accepted : Group → Account → Bool
is_accepted g a =
    let payloads = map (λ d. d.payload) (of_sender a.me (history g)) in
    pointwise (λ b c. is_yes (bytes_discrete b c)) payloads (take (length payloads) a.accepted)

-- the lists of deliveries are equal
abbrev pub same_deliveries : List Delivered → List Delivered → Bool
same_deliveries = pointwise (λ d e. is_yes (Delivered-discrete d e))

-- as `IsByPlace`
abbrev pub is_by_place : List Delivered → Bool
is_by_place ds =
    same_deliveries (flat_map (λ k. at_place k ds) (range_with_len 0 (places_in ds))) ds
    && list_all (λ k. nat_le 1 (length (at_place k ds)) && nat_le (length (at_place k ds)) most_messages) (range_with_len 0 (places_in ds))

-- as `HaveSameBatches`
abbrev pub have_same_batches : List Delivered → List Delivered → Bool
have_same_batches ds es = list_all (λ k. is_yes (Batch-discrete (batch_at k ds) (batch_at k es)))
    (range_with_len 0 (min (places_in ds) (places_in es)))

-- as `ArePlaced`, in the view of this number
abbrev pub are_placed_in : List Account → ℕ → Bool
are_placed_in accounts x =
    list_all (λ a. is_by_place (delivered_in a x)) accounts
    && list_all (λ a. list_all (λ b. have_same_batches (delivered_in a x) (delivered_in b x)) accounts) accounts

-- each element with the one after it
abbrev pub neighbours : {A : Type 0} → List A → List (A × A)
neighbours [] = []
neighbours (x ∷ []) = []
neighbours (x ∷ y ∷ more) = (x, y) ∷ neighbours (y ∷ more)

-- as `Sound`
abbrev pub sound : List Account → List ℕ → Bool
sound accounts keyed =
    let g = group_of accounts in
    list_all (has_cause accounts keyed) (neighbours g.views)
    && list_all (is_sound_in g) (range_with_len 0 (length g.views))
    && list_all (is_accepted g) accounts
    && list_all (are_placed_in accounts) (range_with_len 0 (length g.views))

-- ---- the two ways say the same

-- the test of the bound and the bound say the same, of any accounts
abbrev pub BoundedIsTested : Type 0
BoundedIsTested = (accounts : List Account) (correct : List ℕ) → IsTrue (bounded accounts correct) ↔ Bounded accounts correct

-- The tests of the other two look at the views that there are, so they want what each account of a process has: one
-- delivered list for each view. Of other accounts they say too little.
abbrev pub HasListOfEachView : Account → Type 0
HasListOfEachView a = length a.delivered ≡ length a.views

-- the accounts of processes have a delivered list of each view
abbrev pub AccountsHaveLists : Type 0
AccountsHaveLists = (ps : List Process) → All HasListOfEachView (map account_of ps)

-- of accounts with these lists the test of agreement and agreement say the same
abbrev pub AgreeIsTested : Type 0
AgreeIsTested = (accounts : List Account) → All HasListOfEachView accounts → IsTrue (agree accounts) ↔ Agree accounts

-- of accounts with these lists the test of soundness and soundness say the same
abbrev pub SoundIsTested : Type 0
SoundIsTested = (accounts : List Account) (keyed : List ℕ) → All HasListOfEachView accounts
    → IsTrue (sound accounts keyed) ↔ Sound accounts keyed
