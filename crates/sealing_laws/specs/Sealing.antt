-- That each letter of a turn can be sealed.
use Rattle.std.specs.Prelude.{◌≡◌, ℕ, List, [], ◌∷◌, ◌++◌, All, IsTrue}
use Rattle.byte_defs.specs.Members.{has}
use Rattle.message_defs.specs.Spelling.{IsClaim}
use Rattle.kit_defs.specs.Kits.{Kit, IsKit}
use Rattle.group_defs.specs.Process.{Process, start}
use Rattle.group_defs.specs.Family.{handed_to}
use Rattle.group_defs.specs.Events.{Turn, after, outcome, run}
use Rattle.member_events.specs.declared.events.Outcome.{Outcome}
use Rattle.node_turns.specs.Outcomes.{IsOutcome}
use Rattle.journal_defs.specs.declared.Version.{Version}
use Rattle.journal_defs.specs.Entries.{Event, Entry}
use Rattle.node_defs.specs.Casts.{cast_of, from_start, handed, hosted_by, live, setting_of, taken_up}
use Rattle.letter_laws.specs.Letters.{AreInRange, IsFromOther, IsKeyed}
use Rattle.node_turns.specs.Service.{CanBeSent}
use Rattle.node_turns.specs.Letters.{IsSealable, letters_in}

-- A hosted process of a kit, whatever claims in range it was handed, as long as the frame is not its own: where all that it has signed by
-- then is in range, it shares a key with whom each letter goes to, and no frame is too long.
abbrev pub CanBeSealed : Kit → ℕ → Process → Turn → Outcome → Type 0
CanBeSealed kit me p t r = All IsClaim (after (setting_of kit) p t).signed → IsOutcome (outcome (setting_of kit) p t) r
    → All (IsSealable kit me) (letters_in r.sends.items)

abbrev pub LettersCanBeSealed : Type 0
LettersCanBeSealed = (kit : Kit) (me limit : ℕ) (ts : List Turn) (t : Turn) (r : Outcome) → IsKit kit → IsTrue (has (hosted_by kit) me)
    → IsFromOther me t.event → All IsClaim (handed_to (ts ++ t ∷ []))
    → CanBeSealed kit me (run (setting_of kit) (start (setting_of kit) me limit) ts) t r

-- A hosted process of a node, after any entries of its journal: each letter of a live turn can be sealed. (What frames say is in range, so
-- that nothing is asked of the entries.)
abbrev pub TurnsCanBeSealed : Type 0
TurnsCanBeSealed = (kit : Kit) (version : Version) (me : ℕ) (p : Process) (es : List Entry) (e : Event) (r : Outcome) → IsKit kit
    → IsTrue (has (hosted_by kit) me) → p ≡ taken_up (setting_of kit) ((from_start (cast_of kit version)).from me) es
    → IsFromOther me (handed e) → CanBeSealed kit me p (live (cast_of kit version) p e) r

-- The same of one that begins anywhere with members that the roster has keys of, where what it keeps after the turn is in range.
abbrev pub KeyedTurnsCanBeSealed : Type 0
KeyedTurnsCanBeSealed = (kit : Kit) (version : Version) (me : ℕ) (from p : Process) (es : List Entry) (e : Event) (r : Outcome) → IsKit kit
    → IsTrue (has (hosted_by kit) me) → IsKeyed (setting_of kit) me from → p ≡ taken_up (setting_of kit) from es → IsFromOther me (handed e)
    → AreInRange (after (setting_of kit) p (live (cast_of kit version) p e))
    → IsOutcome (outcome (setting_of kit) p (live (cast_of kit version) p e)) r → All (IsSealable kit me) (letters_in r.sends.items)

-- What a service has a hosted process send can be sealed, where it goes to other processes of the roster in short frames.
abbrev pub SendsCanBeSealed : Type 0
SendsCanBeSealed = (kit : Kit) (version : Version) (me : ℕ) (letters : List (ℕ × List ℕ)) → IsKit kit → IsTrue (has (hosted_by kit) me)
    → All (CanBeSent (cast_of kit version) me) letters → All (IsSealable kit me) letters
