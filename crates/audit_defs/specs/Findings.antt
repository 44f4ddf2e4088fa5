-- What an audit writes: one line of JSON with no blank, an object whose keys are in the order of their letters.
--   {"agree":B,"bounded":B,"convicted":[C,C],"honest":B,"processes":[P,P],"sound":B}
--   P, of each listed process, rising:   {"delivered":D,"process":P,"views":[[M,M],[M,M]]}
--   C, by process number:                {"first":"HEX","kind":N,"process":P,"second":"HEX"}
-- D counts the messages that it delivered in all views; the views' members are in rank order; HEX is a statement's bytes, and N its kind,
-- 3 to 5 for an Order, a Place or a Keep of several messages too.
-- Or the line that says why there are no findings.
-- Names here (* for this crate alone):
--   Reported, reported_of, Findings, findings_of, grounds*
--   its text: bool_text, array_text, hex_text, view_text, delivered_in_all, process_text, reported_text, findings_text, findings_line
--   of the bytes: NoFindings, audit_of, line_words*, status_of, stop_words*, stop_line
use Rattle.std.specs.Prelude.{ℕ, Bool, ◌==◌, if◌then◌else◌, List, [], ◌∷◌, ◌++◌, length, map, sum, find, codes, Some, None, Result, Ok, Err}
use Rattle.std.specs.Fmt.{decimal}
use Rattle.std.specs.List.{join_with_byte}
use Rattle.hex.specs.Hex.{encode_lower}
use Rattle.text_defs.specs.Words.{line_text, line_feed}
use Rattle.message_defs.specs.Statements.{kind_number}
use Rattle.message_defs.specs.Spelling.{spelling}
use Rattle.group_defs.specs.Views.{View}
use Rattle.group_defs.specs.Process.{keyed}
use Rattle.group_defs.specs.Accounts.{Account, bounded, agree, sound}
use Rattle.group_defs.specs.Family.{accounts, numbers, honest, handed_to}
use Rattle.kit_defs.specs.KitReading.{KitFault, Line, Repeated, Missing, KeyMismatch}
use Rattle.audit_defs.specs.Inputs.{input_of}
use Rattle.conviction_defs.specs.Convictions.{Conviction, convictions, convicted}
use Rattle.audit_defs.specs.Audits as audits
use Rattle.audit_defs.specs.Audits.{Audited, AuditFault, Entry, audited}

-- a conviction as it is reported: of the two statements, the number of their kind, and the bytes of each
pub record Reported : Type 0 where
  pub process : ℕ
  pub kind : ℕ
  pub first : List ℕ
  pub second : List ℕ

abbrev pub reported_of : Conviction → Reported
reported_of c = record {
  process = c.process;
  kind = kind_number c.first.statement;
  first = spelling c.first.statement;
  second = spelling c.second.statement;
}

-- what is found
pub record Findings : Type 0 where
  pub agree : Bool
  pub bounded : Bool
  pub convicted : List Reported
  pub honest : Bool
  pub accounts : List Account
  pub sound : Bool

-- of the family that the listed processes are; and of their claims, whom these convict
abbrev pub findings_of : Audited → Findings
findings_of a = record {
  agree = agree (accounts a.family);
  bounded = bounded (accounts a.family) (numbers a.family);
  convicted = map reported_of (convictions a.family.setting a.claims);
  honest = honest a.family;
  accounts = accounts a.family;
  sound = sound (accounts a.family) (keyed a.family.setting);
}

-- whom the claims handed to this process convict; none where it is not listed
abbrev pub grounds : Audited → ℕ → List ℕ
grounds a p = elim (find (λ c. c.me == p) a.family.correct) [
  | None ↦ []
  | Some c ↦ convicted a.family.setting (handed_to c.turns)
]

-- ---- its text

-- true or false
abbrev pub bool_text : Bool → List ℕ
bool_text b = if b then codes "true" else codes "false"

-- these texts as an array: with a comma between each two
abbrev pub array_text : List (List ℕ) → List ℕ
array_text items = codes "[" ++ (join_with_byte 44 items ++ codes "]")

-- bytes, in hexadecimal, as a string
abbrev pub hex_text : List ℕ → List ℕ
hex_text bytes = codes "\"" ++ (encode_lower bytes ++ codes "\"")

-- the members of a view
abbrev pub view_text : View → List ℕ
view_text v = array_text (map decimal v.members)

-- how many messages the process delivered, in all its views
abbrev pub delivered_in_all : Account → ℕ
delivered_in_all a = sum (map length a.delivered)

-- a listed process
abbrev pub process_text : Account → List ℕ
process_text a =
    codes "{\"delivered\":" ++ (decimal (delivered_in_all a)
    ++ (codes ",\"process\":" ++ (decimal a.me ++ (codes ",\"views\":" ++ (array_text (map view_text a.views) ++ codes "}")))))

-- a convicted one
abbrev pub reported_text : Reported → List ℕ
reported_text t =
    codes "{\"first\":" ++ (hex_text t.first
    ++ (codes ",\"kind\":" ++ (decimal t.kind
    ++ (codes ",\"process\":" ++ (decimal t.process ++ (codes ",\"second\":" ++ (hex_text t.second ++ codes "}")))))))

-- the object
abbrev pub findings_text : Findings → List ℕ
findings_text f =
    codes "{\"agree\":" ++ (bool_text f.agree
    ++ (codes ",\"bounded\":" ++ (bool_text f.bounded
    ++ (codes ",\"convicted\":" ++ (array_text (map reported_text f.convicted)
    ++ (codes ",\"honest\":" ++ (bool_text f.honest
    ++ (codes ",\"processes\":" ++ (array_text (map process_text f.accounts)
    ++ (codes ",\"sound\":" ++ (bool_text f.sound ++ codes "}")))))))))))

-- the line
abbrev pub findings_line : Findings → List ℕ
findings_line f = findings_text f ++ line_feed ∷ []

-- ---- of the bytes

-- why an input has no findings
pub data NoFindings : Type 0 where
  -- a line of it is faulty
  NoInput : (fault : KitFault) → NoFindings
  -- its journals are refused
  Refused : (fault : AuditFault) → NoFindings

-- what an audit of an input finds out, or why there is nothing
unfoldable pub audit_of : List ℕ → List ℕ → Result Audited NoFindings
audit_of listed bytes = elim (input_of bytes) [
  | Err fault ↦ Err (NoInput fault)
  | Ok input ↦ elim (audited input.kit listed input.journals) [ Err fault ↦ Err (Refused fault) | Ok a ↦ Ok a ]
]

-- what is reported of a line's fault, after `stop 7`
abbrev pub line_words : KitFault → List (List ℕ)
line_words (Line n) = codes "line" ∷ decimal n ∷ []
line_words (Repeated n) = codes "repeated" ∷ decimal n ∷ []
line_words (Missing n) = codes "missing" ∷ decimal n ∷ []
line_words (KeyMismatch n made listed) = codes "keymismatch" ∷ decimal n ∷ []

-- the status
abbrev pub status_of : NoFindings → ℕ
status_of (NoInput fault) = 7
status_of (Refused (audits.Missing p)) = 7
status_of (Refused (audits.Repeated p)) = 7
status_of (Refused (Entry j place)) = 8

-- what is reported after the status
abbrev pub stop_words : NoFindings → List (List ℕ)
stop_words (NoInput fault) = line_words fault
stop_words (Refused (audits.Missing p)) = codes "unhosted" ∷ decimal p ∷ []
stop_words (Refused (audits.Repeated p)) = codes "doubled" ∷ decimal p ∷ []
stop_words (Refused (Entry j place)) = codes "journal" ∷ decimal j ∷ decimal place ∷ []

-- the line that says why there are no findings
abbrev pub stop_line : NoFindings → List ℕ
stop_line f = line_text (codes "stop" ∷ decimal (status_of f) ∷ stop_words f)
