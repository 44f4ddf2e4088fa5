-- How the rows are written: a signature is valid where it has no byte.
use Rattle.std.specs.Prelude.{ℕ, ◌==◌, List, [], ◌∷◌, length, map, flat_map, Option}
use Rattle.message_defs.specs.Updates.{Update, Value}
use Rattle.message_defs.specs.Statements.{Message, Statement, Claim}
use Rattle.group_defs.specs.Process.{all_kinds, Setting, Process}
use Rattle.group_defs.specs.Sending.{Sending, frames_of}
use Rattle.group_defs.specs.Events.{Event, Turn, EventFault, Note, Outcome, after, outcome}

abbrev pub setting : List ℕ → List ℕ → Setting
setting genesis roster = record {
  group = [];
  roster = map (λ p. (p, [])) roster;
  genesis = record { number = 0; members = genesis };
  valid = λ key body signature. length signature == 0;
  signs = all_kinds;
}

abbrev pub turn : ℕ → Event → Turn
turn left e = record { event = e; allowance = left; signer = λ used body. [] }

abbrev pub by : ℕ → Statement → Claim
by p st = record { signer = p; statement = st; signature = [] }

abbrev pub forged : ℕ → Statement → List ℕ → Claim
forged p st bytes = record { signer = p; statement = st; signature = bytes }

abbrev pub msg : ℕ → ℕ → Message
msg s l = record { sender = s; number = l }

abbrev pub value : Update → ℕ → Value
value u k = record { update = u; cut = k }

-- one for each frame
abbrev pub frames_sent : Sending → List (List ℕ × List ℕ)
frames_sent out = map (λ bytes. (out.to, bytes)) (frames_of out.parcel)

-- the refusal, what is signed, the frames with their addressees, and the notes
abbrev pub Seen : Type 0
Seen = Option EventFault × List Statement × List (List ℕ × List ℕ) × List Note

abbrev pub seen_of : Outcome → Seen
seen_of o = (o.verdict, map (λ c. c.statement) o.signed, flat_map frames_sent o.sends, o.notes)

abbrev pub seen : Setting → Process → List Turn → List Seen
seen s p [] = []
seen s p (t ∷ ts) = seen_of (outcome s p t) ∷ seen s (after s p t) ts
