-- What a stop leaves of a node, and a node that is stopped and opened again, as often as may be.
-- Names here (* for this crate alone):
--   what a stop leaves: staged_by, staged_behind, staged, Found, fresh, with_or_without, leaves_by, leaves
--   a life: Run, opened_in, last_of, lives
--   what is promised of it: FitsAt, FitsBehind, FitsFrom, IsHosted, AreHosted, SignsValidly, IsOfEntry, IsSound
--   the family of nodes that were stopped and opened again: Ran, correct_of
--   the laws: AreNumbered, KeptGrows, StaysSound, IsOpened, OpensSound, LeavesFit, Lives, LivesOn, restarted, RestartsAreFamily,
--     RestartsAgree, OneBodyPerNumber, NothingLost, AreMade, KeysSignInOrder
use Rattle.std.specs.Prelude.{◌≡◌, ◌≢◌, ◌⊎◌, ℕ, suc, ◌<◌, Bool, true, false, List, [], ◌∷◌, ◌++◌, length, map, IsTrue, Contains, Option, Some, None}
use Rattle.std.specs.Option.{option_to_list}
use Rattle.byte_defs.specs.Members.{has}
use Rattle.message_defs.specs.Statements.{Statement, Claim}
use Rattle.group_defs.specs.Signing.{Signer}
use Rattle.message_defs.specs.Spelling.{body}
use Rattle.group_defs.specs.Hearing.{is_valid}
use Rattle.group_defs.specs.Process.{Setting, Process, start}
use Rattle.group_defs.specs.Events.{Turn}
use Rattle.group_defs.specs.Accounts.{IsPrefixOf}
use Rattle.group_defs.specs.Accounts.{Agree}
use Rattle.group_defs.specs.Family.{Correct, Family, accounts, end_of}
use Rattle.group_defs.specs.Laws.{Premises}
use Rattle.journal_defs.specs.Entries.{Event, Entry}
use Rattle.node_defs.specs.Lines.{Stop}
use Rattle.node_defs.specs.Casts.{Cast, Beginning, from_start, entry_for, entries_of, turns_from, taken_up, outcome_of, may_have_written}
use Rattle.node_defs.specs.Nodes.{Node, Opening, Leaving, Task, Take, Append, Flush, Say, Ask, Get, Word, Post, Mark, Answer, Snapper, leaving_of, run, opens}

-- ---- what a stop leaves

-- the entry that is being appended, or that may be in the journal
abbrev pub staged_by : Cast → Node → List Task → Option Entry
staged_by c n (Append p e ∷ ts) = Some (entry_for c (n.now p) e)
staged_by c n _ = None

abbrev pub staged_behind : Cast → Node → List Leaving → Option Entry
staged_behind c n [] = staged_by c n n.tasks
staged_behind c n (l ∷ ls) = None

unfoldable pub staged : Cast → Node → Option Entry
staged c n = staged_behind c n n.leaving

-- The entries as which the journal may read: these, or one more.
pub record Found : Type 0 where
  pub sure : List Entry
  pub more : Option Entry

-- a new journal has none
abbrev pub fresh : Found
fresh = record { sure = []; more = None }

-- the entries with the one more, or without it
abbrev pub with_or_without : Found → Bool → List Entry
with_or_without f true = f.sure ++ option_to_list f.more
with_or_without f false = f.sure

-- What a stop at this moment leaves, of a run that found this. Until the opening is over, it is what was found: what the run has read
-- is made last only then.
abbrev pub leaves_by : Cast → Found → Node → List Opening → Found
leaves_by c f n [] = record { sure = n.kept; more = staged c n }
leaves_by c f n (o ∷ os) = f

unfoldable pub leaves : Cast → Found → Node → Found
leaves c f n = leaves_by c f n n.opening

-- ---- a life

-- one run: whether the journal reads with the one more entry, how many lines its kit has, and the answers up to the moment of its stop
pub record Run : Type 0 where
  pub with_more : Bool
  pub lines : ℕ
  pub answers : List Answer

-- the node as it is opened, and at its last moment
abbrev pub opened_in : Cast → Found → Run → Node
opened_in c f r = opens c (from_start c) r.lines (with_or_without f r.with_more)

abbrev pub last_of : Cast → Snapper → Found → Run → Node
last_of c snap f r = run c snap (opened_in c f r) r.answers

-- what is found after these runs
unfoldable pub lives : Cast → Snapper → Found → List Run → Found
lives c snap f [] = f
lives c snap f (r ∷ rs) = lives c snap (leaves c f (last_of c snap f r)) rs

-- ---- what is promised of it

-- a hosted process may have written the entry, after those before it
abbrev pub FitsAt : Cast → (ℕ → Process) → List Entry → Entry → Type 0
FitsAt c from before e = IsTrue (has c.hosted e.process)
    × IsTrue (may_have_written c (taken_up c.setting (from e.process) (entries_of e.process before)) e)

abbrev pub FitsBehind : Cast → (ℕ → Process) → List Entry → List Entry → Type 0
FitsBehind c from before [] = Unit {0}
FitsBehind c from before (e ∷ es) = FitsAt c from before e × FitsBehind c from (before ++ e ∷ []) es

-- each entry is one that a hosted process may have written, after those before it
abbrev pub FitsFrom : Cast → (ℕ → Process) → List Entry → Type 0
FitsFrom c from es = FitsBehind c from [] es

-- the task is one of a hosted process, or of none
abbrev pub IsHosted : Cast → Task → Type 0
IsHosted c (Take p e) = IsTrue (has c.hosted p)
IsHosted c (Append p e) = IsTrue (has c.hosted p)
IsHosted c Flush = Unit {0}
IsHosted c (Say text) = Unit {0}
IsHosted c (Ask p e notes above) = IsTrue (has c.hosted p)
IsHosted c (Get p most count) = IsTrue (has c.hosted p)
IsHosted c (Word p line) = IsTrue (has c.hosted p)
IsHosted c (Post p q frame) = IsTrue (has c.hosted p)
IsHosted c Mark = Unit {0}

abbrev pub AreHosted : Cast → List Task → Type 0
AreHosted c [] = Unit {0}
AreHosted c (t ∷ ts) = IsHosted c t × AreHosted c ts

-- The key of each hosted process makes signatures that are valid for it, as many as it has.
abbrev pub SignsValidly : Cast → Type 0
SignsValidly c = (p k : ℕ) (st : Statement) → IsTrue (has c.hosted p) → k < c.total p → IsTrue (is_valid c.setting
    (record { signer = p; statement = st; signature = c.signer p k (body c.setting.group p st) }))

-- what goes out of a turn whose entry is among these
pub record IsOfEntry (c : Cast) (from : ℕ → Process) (es : List Entry) (l : Leaving) : Type 0 where
  pub before : List Entry
  pub behind : List Entry
  pub process : ℕ
  pub event : Event
  pub is : es ≡ before ++ entry_for c (taken_up c.setting (from process) (entries_of process before)) event ∷ behind
  pub goes_out : Contains (leaving_of process
      (outcome_of c (taken_up c.setting (from process) (entries_of process before)) event)) l

-- Each hosted process is what its entries make of it, and what goes out is of turns whose entries are kept for good.
pub record IsSound (c : Cast) (from : ℕ → Process) (n : Node) : Type 0 where
  pub processes : (p : ℕ) → n.now p ≡ taken_up c.setting (from p) (entries_of p n.kept)
  pub out : (l : Leaving) → Contains n.leaving l → IsOfEntry c from n.kept l
  -- nothing goes out before the opening is over
  pub finished : n.leaving ≢ [] → n.opening ≡ []

-- ---- the family of nodes that were stopped and opened again

-- a node, and the entries as which its journal reads
pub record Ran : Type 0 where
  pub cast : Cast
  pub entries : List Entry

-- a hosted process, with the turns that its entries keep
abbrev pub correct_of : Ran → ℕ → Correct
correct_of r p = record {
  me = p;
  batch_limit = r.cast.batch_limit;
  turns = turns_from r.cast.setting (start r.cast.setting p r.cast.batch_limit) (entries_of p r.entries);
}

-- ---- the laws

-- each process bears its own number
abbrev pub AreNumbered : (ℕ → Process) → Type 0
AreNumbered from = (p : ℕ) → (from p).me ≡ p

-- what the journal holds for good stays in it
abbrev pub KeptGrows : Type 0
KeptGrows = (c : Cast) (snap : Snapper) (n : Node) (answers : List Answer) → IsPrefixOf n.kept (run c snap n answers).kept

-- At each moment of a run the hosted processes are what their entries make of them, and whatever goes out is of a turn whose entry is kept
-- for good (`IsSound`).
abbrev pub StaysSound : Type 0
StaysSound = (c : Cast) (snap : Snapper) (from : ℕ → Process) (n : Node) (answers : List Answer) → AreNumbered from → IsSound c from n
    → IsSound c from (run c snap n answers)

-- a node that is opened on entries that fit holds them, has not stopped, has nothing to do but to open, and is sound
pub record IsOpened (c : Cast) (b : Beginning) (es : List Entry) (n : Node) : Type 0 where
  pub kept : n.kept ≡ es
  pub goes_on : n.stopped ≡ None
  pub tasks : n.tasks ≡ []
  pub sound : IsSound c b.from n

abbrev pub OpensSound : Type 0
OpensSound = (c : Cast) (b : Beginning) (lines : ℕ) (es : List Entry) → FitsFrom c b.from es → IsOpened c b es (opens c b lines es)

-- At each moment of a run, what a stop leaves fits, with the one entry more or without it: so it is opened again.
abbrev pub LeavesFit : Type 0
LeavesFit = (c : Cast) (snap : Snapper) (from : ℕ → Process) (f : Found) (n : Node) (answers : List Answer) → AreNumbered from → SignsValidly c
    → IsSound c from n → AreHosted c n.tasks → FitsFrom c from n.kept → ((b : Bool) → FitsFrom c from (with_or_without f b))
    → (b : Bool) → FitsFrom c from (with_or_without (leaves c f (run c snap n answers)) b)

-- A new journal's node may be stopped and opened again as often as may be: what is found then fits, and no entry that was kept for good is
-- lost.
pub record Lives (c : Cast) (f g : Found) : Type 0 where
  pub fits : (b : Bool) → FitsFrom c (from_start c).from (with_or_without g b)
  pub grown : IsPrefixOf f.sure g.sure

abbrev pub LivesOn : Type 0
LivesOn = (c : Cast) (snap : Snapper) (f : Found) (rs : List Run) → SignsValidly c
    → ((b : Bool) → FitsFrom c (from_start c).from (with_or_without f b)) → Lives c f (lives c snap f rs)

-- the processes of one setting, each of one of these nodes
abbrev pub restarted : Setting → List (Ran × ℕ) → Family
restarted s hosts = record { setting = s; correct = map (λ h. correct_of h.0 h.1) hosts }

-- the same process in the family as in the journal
abbrev pub RestartsAreFamily : Type 0
RestartsAreFamily = (r : Ran) (p : ℕ) → end_of r.cast.setting (correct_of r p)
    ≡ taken_up r.cast.setting (start r.cast.setting p r.cast.batch_limit) (entries_of p r.entries)

-- the headline holds across restarts
abbrev pub RestartsAgree : Type 0
RestartsAgree = (s : Setting) (hosts : List (Ran × ℕ)) → Premises (restarted s hosts) → Agree (accounts (restarted s hosts))

-- What a process has signed after the first of its entries is at the same places of what it has signed after all of them: so no number
-- of its key is used for two statements that went out.
abbrev pub OneBodyPerNumber : Type 0
OneBodyPerNumber = (c : Cast) (from : Process) (es fs : List Entry) → IsPrefixOf es fs
    → IsPrefixOf (taken_up c.setting from es).signed (taken_up c.setting from fs).signed

-- What goes out of a run at some moment is of a turn whose entry is found for sure, whenever the run is stopped from then on and however
-- often the node is opened and stopped again.
abbrev pub NothingLost : Type 0
NothingLost = (c : Cast) (snap : Snapper) (f : Found) (r : Run) (more : List Answer) (rs : List Run) (l : Leaving) → SignsValidly c
    → ((b : Bool) → FitsFrom c (from_start c).from (with_or_without f b)) → Contains (last_of c snap f r).leaving l
    → IsOfEntry c (from_start c).from
    (lives c snap (leaves c f (last_of c snap f (record r { answers = r.answers ++ more }))) rs).sure l

-- The claims are of process `me`, signed by this key one after the other from this number on.
abbrev pub AreMade : Setting → Signer → ℕ → ℕ → List Claim → Type 0
AreMade s signer me k [] = Unit {0}
AreMade s signer me k (c ∷ cs) = (c ≡ record { signer = me; statement = c.statement; signature = signer k (body s.group me c.statement) })
    × AreMade s signer me (suc k) cs

-- Whatever a journal is found to read as, what its processes have signed is what their keys sign with the numbers 0, 1, 2 and so on: the
-- claim at a place of the signed list is made with the number of that place.
abbrev pub KeysSignInOrder : Type 0
KeysSignInOrder = (c : Cast) (snap : Snapper) (rs : List Run) (b : Bool) (p : ℕ) → SignsValidly c → AreMade c.setting (c.signer p) p 0
    (taken_up c.setting ((from_start c).from p) (entries_of p (with_or_without (lives c snap fresh rs) b))).signed
