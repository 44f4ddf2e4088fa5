-- The laws, each the contract of a public function of safety_laws.
-- Names here (* for this crate alone):
--   of one signed list: SignsAt, EachRun*, OnePerSlot, KeepsBeforeEnd, ReportsReady, ReadyBeforeLast, HasGrown, IsFrom, WasDue,
--     EachWasDue, SignsItsKinds, OrdersWithinLimit, IsOfView, HeardIsOfView, DeliversIn, MembersDeliver, IsBehind, AreInARow,
--     ViewsInARow, DecisionIsCertified
--   of one heard list: what a deputy chooses: IsChoice, DeputyAdopts, DeputyChooses
--   of a family: QuorumsMeet, Premises, settlings_from, settlings, SettledSo, StoodSo, SettledStood, EndStood*, IsViewOfAll, may_back,
--     IsBacked, IsOneView, InstalledIsView, InstalledIsOne, CertifiedIsBacked, OneContent, ReadyFixesValue, AckedWasFree, KeptBelowCut,
--     Decides, OneDecision, DeliversWithinCut, NobodyHalts, AgreeUpTo, AllAgreeUpTo, AgreeGoesOn
--   the theorems: Agreement, CauseAndOrder
--   growth: of a schedule's first events each process has taken its first turns: IsEarlier, IsFrontOf, GrowsTo*, Growth,
--     LawsOfViewThen, HoldsAtTheCut*, AtTheCut
--   local agreement: NoConflict, OnePayload, OnePayloadAtTheEnd, OneBatch, OneSequence
use Rattle.std.specs.Prelude.{◌≡◌, ◌≢◌, ◌⊎◌, ℕ, ◌+◌, ◌<◌, ◌≤◌, Bool, false, not, ◌&&◌, ◌||◌, ◌==◌, List, [], ◌∷◌, ◌++◌, length, count_by, is_some, IsTrue, IsFalse, All, AllPairs, Contains, Option, Some, None, Ok, slice_get}
use Rattle.std.specs.List.{list_any, list_all, AllZip}
use Rattle.std.specs.List.Sorted.{IsStrictlyIncreasing}
use Rattle.group_defs.specs.Views.{View, IsView, is_member, faulty, quorum, is_possible, next}
use Rattle.message_defs.specs.Updates.{Update, Value}
use Rattle.message_defs.specs.Statements.{Message, Batch, Statement, Order, Keep, End, Last, Ack, Ready, Claim, Conflicts, slot_of, view_of, messages_of, same_statement}
use Rattle.group_defs.specs.Process.{Setting, Pool, Letter, Delivered, Process, keyed, views_of, start, places_in}
use Rattle.group_defs.specs.Certified.{is_certified, payload_at, place_at}
use Rattle.group_defs.specs.Values.{is_free, is_second_way, is_justified, choose}
use Rattle.group_defs.specs.Due.{may_sign, kind_of}
use Rattle.group_defs.specs.Hearing.{is_valid}
use Rattle.group_defs.specs.Settle.{decide, deliver}
use Rattle.group_defs.specs.Events.{Turn, refusal, signing, after, run}
use Rattle.group_defs.specs.Accounts.{Account, group_of, IsPrefixOf, HasLeft, messages_in, Bounded, Agree, IsOnce, IsInOrder, ArePlaced, Sound}
use Rattle.group_defs.specs.Family.{Correct, Family, numbers, ends, accounts, handed, handed_to, statements_of, Honest}

-- ---- of one signed list

-- place i of the signed list holds this statement
abbrev pub SignsAt : Process → ℕ → Statement → Type 0
SignsAt p i st = slice_get (statements_of p) i ≡ Some st

-- a claim of each run
abbrev pub EachRun : (Setting → ℕ → List Turn → Process → Type 0) → Type 0
EachRun P = (s : Setting) (me batch_limit : ℕ) (turns : List Turn) → P s me turns (run s (start s me batch_limit) turns)

-- 1. of each kind and slot a process signs at most one statement
abbrev pub OnePerSlot : Type 0
OnePerSlot = EachRun (λ s me turns p. AllPairs (λ c d. slot_of c.statement ≢ slot_of d.statement) p.signed)

-- 2. in the signed list a Keep of place k comes before the End of its view, and the End's number n is above k
abbrev pub KeepsBeforeEnd : Type 0
KeepsBeforeEnd = EachRun (λ s me turns p. (i j x k n : ℕ) (b : Batch) → SignsAt p i (Keep x k b) → SignsAt p j (End x n)
    → (i < j) × (k < n))

-- a signed Ready of rank r or above, and below r'
abbrev pub ReportsReady : Process → ℕ → ℕ → ℕ → Option (ℕ × Value) → Type 0
ReportsReady p x r r' ready = (r1 : ℕ) × (v : Value) × (ready ≡ Some (r1, v)) × (r ≤ r1) × (r1 < r')
    × Contains (statements_of p) (Ready x r1 v)

-- 3. a Ready comes before a Last of a greater rank, which reports one as late
abbrev pub ReadyBeforeLast : Type 0
ReadyBeforeLast = EachRun (λ s me turns p. (i j x r r' : ℕ) (v : Value) (ready : Option (ℕ × Value)) → SignsAt p i (Ready x r v)
    → SignsAt p j (Last x r' ready) → r < r'
    → (i < j) × ReportsReady p x r r' ready)

-- what a process keeps as it goes on
pub record HasGrown (old new : Process) : Type 0 where
  pub me : new.me ≡ old.me
  pub left : IsPrefixOf old.left new.left
  pub views : IsPrefixOf (views_of old) (views_of new)
  pub signed : IsPrefixOf old.signed new.signed
  pub accepted : IsPrefixOf old.accepted new.accepted
  pub perceived : All (Contains new.perceived) old.perceived

-- the claim was handed over and is valid, or is own
abbrev pub IsFrom : Setting → List Claim → List Claim → Claim → Type 0
IsFrom s handed signed c = (Contains handed c × IsTrue (is_valid s c)) ⊎ Contains signed c

-- at some moment the i-th statement was due, over heard claims that were handed over or are own
pub record WasDue (s : Setting) (turns : List Turn) (p : Process) (i : ℕ) (st : Statement) : Type 0 where
  pub moment : Process
  pub grown : HasGrown moment p
  pub next : length moment.signed ≡ i
  pub due : IsTrue (may_sign s moment st)
  pub heard : All (IsFrom s (handed_to turns) moment.signed) moment.pool.heard

-- 4. each statement was due at its moment
abbrev pub EachWasDue : Type 0
EachWasDue = EachRun (λ s me turns p. (i : ℕ) (st : Statement) → SignsAt p i st → WasDue s turns p i st)

-- each statement that a process signed is of a kind that the setting signs
abbrev pub SignsItsKinds : Type 0
SignsItsKinds = EachRun (λ s me turns p. All (λ c. Contains s.signs (kind_of c.statement)) p.signed)

-- an own Order has at least one message, and no more than the process may order at once
abbrev pub OrdersWithinLimit : Type 0
OrdersWithinLimit = (s : Setting) (me batch_limit : ℕ) (turns : List Turn) (x k : ℕ) (b : Batch)
    → Contains (statements_of (run s (start s me batch_limit) turns)) (Order x k b) → (1 ≤ length b) × (length b ≤ batch_limit)

-- a claim of the view: a member's, and of no sender outside it
pub record IsOfView (v : View) (c : Claim) : Type 0 where
  pub number : view_of c.statement ≡ v.number
  pub signer : IsTrue (is_member v c.signer)
  pub senders : All (λ m. IsTrue (is_member v m.sender)) (messages_of c.statement)

-- what is heard is of the current view
abbrev pub HeardIsOfView : Type 0
HeardIsOfView = EachRun (λ s me turns p. All (IsOfView p.pool.view) p.pool.heard)

-- only members deliver, and only messages of members
pub record DeliversIn (me : ℕ) (v : View) (ds : List Delivered) : Type 0 where
  pub outside : IsFalse (is_member v me) → ds ≡ []
  pub senders : All (λ d. IsTrue (is_member v d.message.sender)) ds

-- in each view that a process left, and in its current one, it delivers only as a member, and only messages of members
abbrev pub MembersDeliver : Type 0
MembersDeliver = EachRun (λ s me turns p. All (λ l. DeliversIn p.me l.view l.delivered) p.left × DeliversIn p.me p.pool.view p.delivered)

-- the one view follows the other by a possible update
abbrev pub IsBehind : Setting → View → View → Type 0
IsBehind s v w = (u : Update) × IsTrue (is_possible (keyed s) v u) × (next v u ≡ Ok w)

-- the first is the genesis, each follows the one before it, and they are numbered from the genesis on
pub record AreInARow (s : Setting) (vs : List View) : Type 0 where
  pub first : slice_get vs 0 ≡ Some s.genesis
  pub behind : (i : ℕ) (v w : View) → slice_get vs i ≡ Some v → slice_get vs (i + 1) ≡ Some w → IsBehind s v w
  pub numbers : (i : ℕ) (v : View) → slice_get vs i ≡ Some v → v.number ≡ s.genesis.number + i

-- the views of each process, those that it left and the current one, are the genesis and then each a possible update of the one before
abbrev pub ViewsInARow : Type 0
ViewsInARow = EachRun (λ s me turns p. AreInARow s (views_of p))

-- where a process has decided, the Ready that gave the decision is certified
abbrev pub DecisionIsCertified : Type 0
DecisionIsCertified = EachRun (λ s me turns p. (d : ℕ × Value) → p.decision ≡ Some d
    → IsTrue (is_certified p.pool (Ready p.pool.view.number d.0 d.1)))

-- ---- of one heard list: what a deputy chooses

-- The value v at rank r is justified; and where value w of rank r0 is a second way to rank r, so is v of some rank r1 ≥ r0.
pub record IsChoice (s : Setting) (h : Pool) (r : ℕ) (v : Value) : Type 0 where
  pub justified : IsTrue (is_justified s h r v)
  pub adopts : (r0 : ℕ) (w : Value) → IsTrue (is_second_way h r r0 w) → (r1 : ℕ) × (r0 ≤ r1) × IsTrue (is_second_way h r r1 v)

-- what the deputy of rank r chooses is justified, and no lower in rank than any second way (`IsChoice`)
abbrev pub DeputyAdopts : Type 0
DeputyAdopts = (s : Setting) (h : Pool) (r : ℕ) (v : Value) → choose s h r ≡ Some v → IsChoice s h r v

-- where some value is justified at rank r, the deputy of rank r chooses one
abbrev pub DeputyChooses : Type 0
DeputyChooses = (s : Setting) (h : Pool) (r : ℕ) (v : Value) → IsTrue (is_justified s h r v) → IsTrue (is_some (choose s h r))

-- ---- of a family

-- two quorums share more than f members
abbrev pub QuorumsMeet : Type 0
QuorumsMeet = (members : List ℕ) (p q : ℕ → Bool) → 1 ≤ length members → quorum (length members) ≤ count_by p members
    → quorum (length members) ≤ count_by q members
    → faulty (length members) < count_by (λ m. p m && q m) members

-- the processes come by rising number, and begin in a view 0 of 1 to 16 members; what was handed over of them is their own word; and in
-- no view that they installed are more than f members not correct
pub record Premises (f : Family) : Type 0 where
  pub genesis : IsView f.setting.genesis
  pub first : f.setting.genesis.number ≡ 0
  pub rising : IsStrictlyIncreasing (numbers f)
  pub honest : Honest f
  pub bounded : Bounded (accounts f) (numbers f)

-- The process at each of its turns that is not refused, when the turn's event was heard and what was due is signed, and nothing is
-- decided or delivered of it yet.
abbrev pub settlings_from : Setting → Process → List Turn → List Process
settlings_from s p [] = []
settlings_from s p (t ∷ ts) = settled (refusal s p t.event) (signing s p t).now ++ settlings_from s (after s p t) ts
  where
    settled : {A : Type 0} → Option A → Process → List Process
    settled None q = q ∷ []
    settled (Some fault) q = []

-- the settlings of a correct process from its start on, through all its turns
abbrev pub settlings : Family → Correct → List Process
settlings f c = settlings_from f.setting (start f.setting c.me c.batch_limit) c.turns

-- some correct process was as q where one of its events settled
abbrev pub SettledSo : Family → Process → Type 0
SettledSo f q = (c : Correct) × Contains f.correct c × Contains (settlings f c) q

-- Some correct process `by` was as q at a moment, as far as laws 1 to 4 go: what `by` keeps at the end has grown from what q
-- keeps, and each claim that q has heard was handed over and is valid, or is q's own.
pub record StoodSo (f : Family) (q : Process) : Type 0 where
  pub by : Process
  pub correct : Contains (ends f) by
  pub grown : HasGrown q by
  pub heard : All (IsFrom f.setting (handed f) q.signed) q.pool.heard

-- where an event of a correct process settles, a correct process was so (`StoodSo`)
abbrev pub SettledStood : Type 0
SettledStood = (f : Family) (q : Process) → SettledSo f q → StoodSo f q

-- after the last event of a correct process, a correct process was so (`StoodSo`)
abbrev pub EndStood : Type 0
EndStood = (f : Family) (p : Process) → Contains (ends f) p → StoodSo f p

-- every correct process that installed the view of this number installed v
abbrev pub IsViewOfAll : Family → View → Type 0
IsViewOfAll f v = All (λ p. All (λ w. w.number ≡ v.number → w ≡ v) (views_of p)) (ends f)

-- the member m has signed the statement, or is not correct
abbrev pub may_back : Family → Statement → ℕ → Bool
may_back f st m = list_all (λ p. not (p.me == m) || list_any (same_statement st) (statements_of p)) (ends f)

-- at least Q members of the view v may back the statement: each of them has signed it, or is not correct
abbrev pub IsBacked : Family → View → Statement → Type 0
IsBacked f v st = quorum (length v.members) ≤ count_by (may_back f st) v.members

-- v is a view that some correct process installed, and no correct process installed another view of its number
pub record IsOneView (f : Family) (v : View) : Type 0 where
  pub premises : Premises f
  pub by : Process
  pub correct : Contains (ends f) by
  pub installed : Contains (views_of by) v
  pub view : IsView v
  pub of_all : IsViewOfAll f v

-- each view that a correct process installed has 1 to 16 members, each once
abbrev pub InstalledIsView : Type 0
InstalledIsView = (f : Family) → Premises f → All (λ p. All IsView (views_of p)) (ends f)

-- each view that a correct process installed is the one of its number (`IsOneView`), so that the laws of one view hold of it
abbrev pub InstalledIsOne : Type 0
InstalledIsOne = (f : Family) → Premises f → All (λ p. All (IsOneView f) (views_of p)) (ends f)

-- what is certified at a correct process of the view is backed; the laws below speak of backed statements, not of heard claims
abbrev pub CertifiedIsBacked : Type 0
CertifiedIsBacked = (f : Family) (v : View) (q : Process) (st : Statement) → IsOneView f v → StoodSo f q → q.pool.view ≡ v
    → IsTrue (is_certified q.pool st) → IsBacked f v st

-- of a slot at most one content is backed
abbrev pub OneContent : Type 0
OneContent = (f : Family) (v : View) (st other : Statement) → IsOneView f v → IsBacked f v st → IsBacked f v other
    → slot_of st ≡ slot_of other → st ≡ other

-- 5. a backed Ready fixes the value of every backed Ack from its rank on
abbrev pub ReadyFixesValue : Type 0
ReadyFixesValue = (f : Family) (v : View) (r r' : ℕ) (w w' : Value) → IsOneView f v → IsBacked f v (Ready v.number r w)
    → IsBacked f v (Ack v.number r' w') → r ≤ r' → w' ≡ w

-- 6. a backed Ack's value was free at a correct member
abbrev pub AckedWasFree : Type 0
AckedWasFree = (f : Family) (v : View) (r : ℕ) (w : Value) → IsOneView f v → IsBacked f v (Ack v.number r w)
    → (q : Process) × StoodSo f q × (q.pool.view ≡ v) × IsTrue (is_member v q.me) × IsTrue (is_free f.setting q.pool w)

-- where a Keep of place k is backed and an Ack of value w is, k is below the cut of w
abbrev pub KeptBelowCut : Type 0
KeptBelowCut = (f : Family) (v : View) (r k : ℕ) (w : Value) (b : Batch) → IsOneView f v → IsBacked f v (Keep v.number k b)
    → IsBacked f v (Ack v.number r w) → k < w.cut

-- where an event settles in this view: what is decided, and how far it delivers
abbrev pub Decides : Family → View → Process → Value → Type 0
Decides f v q w = SettledSo f q × (q.pool.view ≡ v) × ((r : ℕ) × ((decide f.setting q).decision ≡ Some (r, w)))

-- 7. one value is decided
abbrev pub OneDecision : Type 0
OneDecision = (f : Family) (v : View) (q q' : Process) (w w' : Value) → IsOneView f v → Decides f v q w → Decides f v q' w' → w ≡ w'

-- where value w is decided in the view, no correct process delivers in it at w's cut or a later place
abbrev pub DeliversWithinCut : Type 0
DeliversWithinCut = (f : Family) (v : View) (q q' : Process) (w : Value) → IsOneView f v → Decides f v q w → SettledSo f q'
    → q'.pool.view ≡ v → places_in (deliver (decide f.setting q')).delivered ≤ w.cut

-- no correct process halts
abbrev pub NobodyHalts : Type 0
NobodyHalts = (f : Family) → Premises f → All (λ p. p.halted ≡ false) (ends f)

-- Accounts a and b agree up to view x: they have the same views up to number x; of what they delivered in a view before x the one is a
-- prefix of the other; and where a left that view as a member, what b delivered in it is a prefix of what a did.
pub record AgreeUpTo (x : ℕ) (a b : Account) : Type 0 where
  pub views : (y : ℕ) (v w : View) → y ≤ x → slice_get a.views y ≡ Some v → slice_get b.views y ≡ Some w → v ≡ w
  pub prefixes : (y : ℕ) → y < x → IsPrefixOf (messages_in a y) (messages_in b y) ⊎ IsPrefixOf (messages_in b y) (messages_in a y)
  pub whole : (y : ℕ) (v : View) → y < x → slice_get a.views y ≡ Some v → IsTrue (is_member v a.me) → HasLeft a y
      → IsPrefixOf (messages_in b y) (messages_in a y)

-- any two accounts of the family agree up to view x
abbrev pub AllAgreeUpTo : Family → ℕ → Type 0
AllAgreeUpTo f x = All (λ a. All (AgreeUpTo x a) (accounts f)) (accounts f)

-- 8. where all accounts agree up to view x, they agree up to view x + 1
abbrev pub AgreeGoesOn : Type 0
AgreeGoesOn = (f : Family) (x : ℕ) → Premises f → AllAgreeUpTo f x → AllAgreeUpTo f (x + 1)

-- ---- the theorems

-- under the premises correct processes agree: on their views, on one sequence in each view, and on all of it where they left the view as
-- members
abbrev pub Agreement : Type 0
Agreement = (f : Family) → Premises f → Agree (accounts f)

-- under the premises the group of correct processes is sound: each view has its cause, and each sequence is in order and is what its
-- senders accepted
abbrev pub CauseAndOrder : Type 0
CauseAndOrder = (f : Family) → Premises f → Sound (accounts f) (keyed f.setting)

-- ---- growth: of a schedule's first events each process has taken its first turns

-- the same process, earlier: it has taken the first of its turns
abbrev pub IsEarlier : Correct → Correct → Type 0
IsEarlier early late = (early.me ≡ late.me) × (early.batch_limit ≡ late.batch_limit) × IsPrefixOf early.turns late.turns

-- the same setting and processes, at an earlier moment
pub record IsFrontOf (early late : Family) : Type 0 where
  pub setting : early.setting ≡ late.setting
  pub fronts : AllZip IsEarlier early.correct late.correct

-- views and sequences only grow, and a sequence is whole once some member has left its view
pub record GrowsTo (early late : List Account) : Type 0 where
  pub views : IsPrefixOf (group_of early).views (group_of late).views
  pub sequences : (x : ℕ) → IsPrefixOf ((group_of early).sequence x) ((group_of late).sequence x)
  pub whole : All (λ a. (x : ℕ) (v : View) → slice_get a.views x ≡ Some v → IsTrue (is_member v a.me) → HasLeft a x
      → (group_of early).sequence x ≡ (group_of late).sequence x) early

-- under the premises at the end, the group at an earlier moment is a front of the group at the end (`GrowsTo`)
abbrev pub Growth : Type 0
Growth = (early late : Family) → IsFrontOf early late → Premises late → GrowsTo (accounts early) (accounts late)

-- The laws of a view, of what had settled at an earlier moment. The view is one view of the whole family, so what is said above of its
-- backed statements holds; and what was certified then is backed.
pub record LawsOfViewThen (early late : Family) (v : View) : Type 0 where
  pub one_view : IsOneView late v
  pub backed : (q : Process) (st : Statement) → SettledSo early q → q.pool.view ≡ v → IsTrue (is_certified q.pool st) → IsBacked late v st
  pub one_payload : (q q' : Process) (m : Message) (b b' : List ℕ) → SettledSo early q → SettledSo early q' → q.pool.view ≡ v
      → q'.pool.view ≡ v
      → payload_at q.pool m ≡ Some b → payload_at q'.pool m ≡ Some b' → b ≡ b'
  pub one_batch : (q q' : Process) (k : ℕ) (b b' : Batch) → SettledSo early q → SettledSo early q' → q.pool.view ≡ v → q'.pool.view ≡ v
      → place_at q.pool k ≡ Some b → place_at q'.pool k ≡ Some b' → b ≡ b'
  pub one_decision : (q q' : Process) (w w' : Value) → Decides early v q w → Decides early v q' w' → w ≡ w'
  pub within_cut : (q q' : Process) (w : Value) → Decides early v q w → SettledSo early q' → q'.pool.view ≡ v
      → places_in (deliver (decide early.setting q')).delivered ≤ w.cut

-- What holds at an earlier moment under the premises at the end: what settled or was so then, was so in the whole family; the
-- laws of each view that was installed then, and of the theorems all but two parts: that views have causes, and that what was delivered
-- of a sender is what it accepted. A cause or a sender may lie after the cut, where the first turns of its process end too early.
pub record HoldsAtTheCut (early late : Family) : Type 0 where
  pub settled : (q : Process) → SettledSo early q → SettledSo late q
  pub stood : All (StoodSo late) (ends early)
  pub laws : All (λ p. All (LawsOfViewThen early late) (views_of p)) (ends early)
  pub nobody_halts : All (λ p. p.halted ≡ false) (ends early)
  pub agree : Agree (accounts early)
  pub once : (x : ℕ) → IsOnce ((group_of (accounts early)).sequence x)
  pub in_order : (x sender : ℕ) → IsInOrder sender ((group_of (accounts early)).sequence x)
  pub placed : ArePlaced (accounts early)

-- where each process has taken the first of its turns, and the premises hold at the end
abbrev pub AtTheCut : Type 0
AtTheCut = (early late : Family) → IsFrontOf early late → Premises late → HoldsAtTheCut early late

-- ---- local agreement

-- a correct process never signs two statements that conflict
abbrev pub NoConflict : Type 0
NoConflict = EachRun (λ s me turns p. AllPairs (λ c d. ¬ Conflicts c d) p.signed)

-- in views of one number no two payloads of a message are certified at correct processes, each as an event settles
abbrev pub OnePayload : Type 0
OnePayload = (f : Family) (q q' : Process) (m : Message) (b b' : List ℕ) → Premises f → SettledSo f q → SettledSo f q'
    → q.pool.view.number ≡ q'.pool.view.number
    → payload_at q.pool m ≡ Some b → payload_at q'.pool m ≡ Some b' → b ≡ b'

-- in views of one number no two payloads of a message are certified at correct processes, each after its last event
abbrev pub OnePayloadAtTheEnd : Type 0
OnePayloadAtTheEnd = (f : Family) (p q : Process) (m : Message) (b c : List ℕ) → Premises f → Contains (ends f) p → Contains (ends f) q
    → p.pool.view.number ≡ q.pool.view.number
    → payload_at p.pool m ≡ Some b → payload_at q.pool m ≡ Some c → b ≡ c

-- in views of one number no two batches of a place are certified at correct processes, each as an event settles
abbrev pub OneBatch : Type 0
OneBatch = (f : Family) (q q' : Process) (k : ℕ) (b b' : Batch) → Premises f → SettledSo f q → SettledSo f q'
    → q.pool.view.number ≡ q'.pool.view.number
    → place_at q.pool k ≡ Some b → place_at q'.pool k ≡ Some b' → b ≡ b'

-- in the genesis view the messages that correct processes delivered are prefixes of one sequence
abbrev pub OneSequence : Type 0
OneSequence = (f : Family) → Premises f → (ds : List Letter) × All (λ a. IsPrefixOf (messages_in a 0) ds) (accounts f)
