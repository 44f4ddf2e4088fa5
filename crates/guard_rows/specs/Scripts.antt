-- How the rows are written: a signature is valid where it has no byte, the processes 0 to 5 have a key, and a place holds up to 16 messages.
-- Names here (* for this crate alone):
--   setting*, s*, spent*, by*, forged*, msg*, value*, frames_sent*, Seen*, seen_of*, seen*, key*, given*, answers*, suspect_in*,
--     expels_in*
use Rattle.std.specs.Prelude.{ℕ, ◌==◌, List, [], ◌∷◌, length, map, flat_map, filter_map, if◌then◌else◌, Option, Some, None}
use Rattle.message_defs.specs.Updates.{Update, Value}
use Rattle.message_defs.specs.Statements.{Message, Statement, Claim}
use Rattle.group_defs.specs.Process.{Setting, Process, all_kinds, start}
use Rattle.group_defs.specs.Sending.{Sending, frames_of}
use Rattle.group_defs.specs.Events.{Event, Suspect, Turn, EventFault, Note, Outcome, after, outcome}
use Rattle.guard_defs.specs.Guarding.{Key, Given, guarded_all, turns_of}

abbrev pub setting : ℕ → Setting
setting number = record {
  group = [];
  roster = map (λ p. (p, [])) (0 ∷ 1 ∷ 2 ∷ 3 ∷ 4 ∷ 5 ∷ []);
  genesis = record { number = number; members = 0 ∷ 1 ∷ 2 ∷ 3 ∷ [] };
  valid = λ key body signature. length signature == 0;
  signs = all_kinds;
}

-- from view 0 on
abbrev pub s : Setting
s = setting 0

-- in the last view
abbrev pub spent : Setting
spent = setting 1023

abbrev pub by : ℕ → Statement → Claim
by p st = record { signer = p; statement = st; signature = [] }

abbrev pub forged : ℕ → Statement → List ℕ → Claim
forged p st bytes = record { signer = p; statement = st; signature = bytes }

abbrev pub msg : ℕ → ℕ → Message
msg s l = record { sender = s; number = l }

abbrev pub value : Update → ℕ → Value
value u k = record { update = u; cut = k }

-- one for each frame
abbrev pub frames_sent : Sending → List (List ℕ × List ℕ)
frames_sent out = map (λ bytes. (out.to, bytes)) (frames_of out.parcel)

-- the refusal, what is signed, the frames with their addressees, and the notes
abbrev pub Seen : Type 0
Seen = Option EventFault × List Statement × List (List ℕ × List ℕ) × List Note

abbrev pub seen_of : Outcome → Seen
seen_of o = (o.verdict, map (λ c. c.statement) o.signed, flat_map frames_sent o.sends, o.notes)

abbrev pub seen : Setting → Process → List Turn → List Seen
seen s p [] = []
seen s p (t ∷ ts) = seen_of (outcome s p t) ∷ seen s (after s p t) ts

abbrev pub key : Key
key = record { total = 100; signer = λ used body. [] }

-- the turns of a guard of this number to which these events are handed in
abbrev pub given : Setting → ℕ → List Event → List Given
given s me es = guarded_all s key (start s me 16) es

-- what each of them answers
abbrev pub answers : Setting → ℕ → List Event → List Seen
answers s me es = seen s (start s me 16) (turns_of (given s me es))

-- whom a turn suspects
abbrev pub suspect_in : Event → Option ℕ
suspect_in (Suspect q) = Some q
suspect_in _ = None

-- whom it expels
abbrev pub expels_in : Setting → ℕ → List Event → List ℕ
expels_in s me es = filter_map (λ g. if g.added then suspect_in g.turn.event else None) (given s me es)
