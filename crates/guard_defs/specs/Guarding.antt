-- A guard: a process to which a conviction counts as a suspicion. Its core is that of any process; after a frame it hands it Suspects.
-- Names here (* for this crate alone):
--   what a frame shows: liar_of, shown_by, shown
--   whom a guard expels: may_expel, is_above, next_suspect
--   runs: Given, Key, live, handed_in*, suspected, expelled, guarded, given_run, guarded_all, MayAdd, shown_behind, GuardRun
--   families: Guard, turns_of, correct_of, family_of, start_of, IsGuarded
--   causes: update_of, WasHandedIn, RemovesConvicted
use Rattle.std.specs.Prelude.{◌≡◌, ◌⊎◌, ℕ, ◌+◌, ◌-◌, Bool, true, false, ◌&&◌, ◌||◌, not, nat_lt, ◌==◌, List, [], ◌∷◌, ◌++◌, length, map, filter, filter_map, find, if◌then◌else◌, IsTrue, Contains, Option, Some, None}
use Rattle.std.specs.List.{range_with_len}
use Rattle.byte_defs.specs.Members.{has}
use Rattle.message_defs.specs.Limits.{last_process}
use Rattle.message_defs.specs.Updates.{Update, Remove, Add, Renew}
use Rattle.message_defs.specs.Statements.{Claim}
use Rattle.group_defs.specs.Views.{is_member}
use Rattle.group_defs.specs.Process.{Setting, Process, start}
use Rattle.group_defs.specs.Due.{is_perceived}
use Rattle.group_defs.specs.Signing.{Signer}
use Rattle.group_defs.specs.Events.{Event, Hand, Suspect, Join, RenewView, Turn, Note, Liar, refusal, after, outcome}
use Rattle.group_defs.specs.Family.{Correct, Family, claims_in}
use Rattle.conviction_defs.specs.Convictions.{Convicts, is_convicted}

-- ---- what a frame shows

-- the process that a note calls a liar
abbrev pub liar_of : Note → Option ℕ
liar_of (Liar q) = Some q
liar_of _ = None

-- what a taken event shows, with its notes: of a frame those whom its claims convict, and those whom a note calls a liar; rising
abbrev pub shown_by : Setting → Event → List Note → List ℕ
shown_by s (Hand from frame) notes = filter
    (λ q. is_convicted s (claims_in (Hand from frame)) q || has (filter_map liar_of notes) q) (range_with_len 0 (last_process + 1))
shown_by s _ notes = []

-- the same of a turn; a refused one shows nothing
abbrev pub shown : Setting → Process → Turn → List ℕ
shown s p t = elim (refusal s p t.event) [ None ↦ shown_by s t.event (outcome s p t).notes | Some fault ↦ [] ]

-- ---- whom a guard expels

-- q is another member of the current view, the process is a member too, and has not perceived q's removal there
abbrev pub may_expel : Process → ℕ → Bool
may_expel p q =
    not (q == p.me) && is_member p.pool.view q && is_member p.pool.view p.me && not (is_perceived p (p.pool.view.number, Remove q))

-- above the process that was given last
abbrev pub is_above : Option ℕ → ℕ → Bool
is_above None q = true
is_above (Some last) q = nat_lt last q

-- what a service answers the node after a taken frame: the least process above the one that it gave last which the frame shows and which
-- the process, as it is by now, may expel
abbrev pub next_suspect : Setting → Event → List Note → Process → Option ℕ → Option ℕ
next_suspect s e notes p last = find (may_expel p) (filter (is_above last) (shown_by s e notes))

-- ---- runs

-- a turn, and whether the guard added it
pub record Given : Type 0 where
  pub turn : Turn
  pub added : Bool

-- what a process signs with: how many signatures its key makes, and each of them
pub record Key : Type 0 where
  pub total : ℕ
  pub signer : Signer

-- an event at a process that signs with this key
abbrev pub live : Key → Process → Event → Turn
live key p e = record { event = e; allowance = key.total - length p.signed; signer = key.signer }

-- a turn that is handed in
abbrev pub handed_in : Key → Process → Event → Given
handed_in key p e = record { turn = live key p e; added = false }

-- a turn that the guard adds
abbrev pub suspected : Key → Process → ℕ → Given
suspected key p q = record { turn = live key p (Suspect q); added = true }

-- the Suspects after a frame: of these processes in order each that the process, as it is by then, may expel
unfoldable pub expelled : Setting → Key → Process → List ℕ → List Given
expelled s key p [] = []
expelled s key p (q ∷ qs) =
    if may_expel p q
    then suspected key p q ∷ expelled s key (after s p (live key p (Suspect q))) qs
    else expelled s key p qs

-- an event that is handed in, and the Suspects after it
abbrev pub guarded : Setting → Key → Process → Event → List Given
guarded s key p e = handed_in key p e ∷ expelled s key (after s p (live key p e)) (shown s p (live key p e))

-- the process after these turns
abbrev pub given_run : Setting → Process → List Given → Process
given_run s p [] = p
given_run s p (g ∷ gs) = given_run s (after s p g.turn) gs

-- the turns of these events
unfoldable pub guarded_all : Setting → Key → Process → List Event → List Given
guarded_all s key p [] = []
guarded_all s key p (e ∷ es) = guarded s key p e ++ guarded_all s key (given_run s p (guarded s key p e)) es

-- The guard may add this turn, where the last frame showed these: it suspects one of them whom the process may expel.
abbrev pub MayAdd : Process → List ℕ → Turn → Type 0
MayAdd p named t = (q : ℕ) × (t.event ≡ Suspect q) × Contains named q × IsTrue (may_expel p q)

-- what is shown while this turn is the last: by a turn that was handed in, what it shows; a Suspect that was added leaves it
abbrev pub shown_behind : Setting → Process → List ℕ → Given → List ℕ
shown_behind s p named g = if g.added then named else shown s p g.turn

-- The turns of a guard whose process is p, where the last frame showed `named`: it adds only what it may. It may add fewer than it
-- considers, as where it was stopped between a frame and its Suspect.
abbrev pub GuardRun : Setting → Process → List ℕ → List Given → Type 0
GuardRun s p named [] = Unit {0}
GuardRun s p named (g ∷ gs) = (IsTrue g.added → MayAdd p named g.turn) × GuardRun s (after s p g.turn) (shown_behind s p named g) gs

-- ---- families

-- a correct process, its batch limit, and its turns as a guard
pub record Guard : Type 0 where
  pub me : ℕ
  pub batch_limit : ℕ
  pub given : List Given

-- its turns
abbrev pub turns_of : List Given → List Turn
turns_of gs = map (λ g. g.turn) gs

-- the same as a process of a family
abbrev pub correct_of : Guard → Correct
correct_of g = record { me = g.me; batch_limit = g.batch_limit; turns = turns_of g.given }

-- the family of guards
abbrev pub family_of : Setting → List Guard → Family
family_of s guards = record { setting = s; correct = map correct_of guards }

-- as the guard starts
abbrev pub start_of : Setting → Guard → Process
start_of s g = start s g.me g.batch_limit

-- the process is a guard from its start on
abbrev pub IsGuarded : Setting → Guard → Type 0
IsGuarded s g = GuardRun s (start_of s g) [] g.given

-- ---- causes

-- the update that an event hands in
abbrev pub update_of : Event → Option Update
update_of (Suspect q) = Some (Remove q)
update_of (Join q) = Some (Add q)
update_of RenewView = Some Renew
update_of _ = None

-- the update was handed in from outside, and taken, while the process was in the view of this number
abbrev pub WasHandedIn : Setting → Process → List Given → ℕ → Update → Type 0
WasHandedIn s p [] x u = ⊥
WasHandedIn s p (g ∷ gs) x u =
    ((g.added ≡ false) × (update_of g.turn.event ≡ Some u) × (refusal s p g.turn.event ≡ None) × (p.pool.view.number ≡ x))
    ⊎ WasHandedIn s (after s p g.turn) gs x u

-- u removes a process that claims convict
abbrev pub RemovesConvicted : Setting → List Claim → Update → Type 0
RemovesConvicted s cs u = (q : ℕ) × (u ≡ Remove q) × Convicts s cs q
