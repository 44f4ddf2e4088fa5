-- The lines that a node writes.
--   host P view X delivered D entries E    as it begins, for each hosted process: its view, the messages that it delivered in all views,
--                                          and its entries in the journal
--   deliver P X K S L HEX, view P X : M M M, liar P Q, spent P, halted P D K      what a turn reports
--   refused P WORD                         an event or a frame was refused
--   drop P WORD                            a datagram was
--   fault P                                the link failed
--   recv P C                               C datagrams were received
--   expel P Q                              Q is suspected next, on evidence
--   snap HEX, snap large LENGTH
--   stop STATUS WORDS                      the last line, where the node stops before the input's end
-- Names here (* for this crate alone):
--   delivered_in_all, host_line, note_line, refused_line, drop_word*, drop_line, fault_line, recv_line, expel_line
--   stops: Stop, status_of, stop_line
use Rattle.std.specs.Prelude.{ℕ, List, [], ◌∷◌, ◌++◌, length, map, sum, codes}
use Rattle.std.specs.Fmt.{decimal}
use Rattle.link_defs.specs.declared.LinkFault.{LinkFault}
use Rattle.link_defs.specs.declared.LinkFault.TheVariants.{Short, Magic, OtherGroup, NotForMe, UnknownPeer, BadTag}
use Rattle.text_defs.specs.Words.{line_text, bytes_word}
use Rattle.input_defs.specs.Below.{KitFault}
use Rattle.input_defs.specs.Fronts.{fault_words}
use Rattle.group_defs.specs.Process.{Process, deliveries_of}
use Rattle.group_defs.specs.Events.{Note, Delivers, Installs, Liar, Spent, Halts, EventFault}
use Rattle.replay_defs.specs.Reports.{view_line, liar_line, refusal_word}

-- how many messages it delivered, in all views
abbrev pub delivered_in_all : Process → ℕ
delivered_in_all p = sum (map length (deliveries_of p))

abbrev pub host_line : Process → ℕ → List ℕ
host_line p entries = line_text (
    codes "host" ∷ decimal p.me ∷ codes "view" ∷ decimal p.pool.view.number ∷ codes "delivered" ∷ decimal (delivered_in_all p)
    ∷ codes "entries" ∷ decimal entries ∷ [])

-- what a turn of this process reports
abbrev pub note_line : ℕ → Note → List ℕ
note_line me (Delivers x d) = line_text (
    codes "deliver" ∷ decimal me ∷ decimal x ∷ decimal d.place ∷ decimal d.message.sender ∷ decimal d.message.number
    ∷ bytes_word d.payload ∷ [])
note_line me (Installs v) = view_line me v
note_line me (Liar q) = liar_line me q
note_line me Spent = line_text (codes "spent" ∷ decimal me ∷ [])
note_line me (Halts delivered cut) = line_text (codes "halted" ∷ decimal me ∷ decimal delivered ∷ decimal cut ∷ [])

abbrev pub refused_line : ℕ → EventFault → List ℕ
refused_line me fault = line_text (codes "refused" ∷ decimal me ∷ refusal_word fault ∷ [])

-- the word of a datagram's fault
abbrev pub drop_word : LinkFault → List ℕ
drop_word Short = codes "short"
drop_word Magic = codes "magic"
drop_word OtherGroup = codes "othergroup"
drop_word NotForMe = codes "notforme"
drop_word UnknownPeer = codes "unknownpeer"
drop_word BadTag = codes "badtag"

abbrev pub drop_line : ℕ → LinkFault → List ℕ
drop_line me fault = line_text (codes "drop" ∷ decimal me ∷ drop_word fault ∷ [])

abbrev pub fault_line : ℕ → List ℕ
fault_line me = line_text (codes "fault" ∷ decimal me ∷ [])

abbrev pub recv_line : ℕ → ℕ → List ℕ
recv_line me count = line_text (codes "recv" ∷ decimal me ∷ decimal count ∷ [])

abbrev pub expel_line : ℕ → ℕ → List ℕ
expel_line me q = line_text (codes "expel" ∷ decimal me ∷ decimal q ∷ [])

-- ---- stops

-- why a node ends
pub data Stop : Type 0 where
  -- the input was read to its end
  Ended : Stop
  NoMemory : Stop
  ReadFailed : Stop
  WriteFailed : Stop
  DiskFailed : Stop
  BindFailed : Stop
  BadKit : (fault : KitFault) → Stop
  -- the line of this number is none of the script
  BadLine : (line : ℕ) → Stop
  -- the line of this number is no snapshot
  BadSnap : (line : ℕ) → Stop
  -- at this place of the journal; 0 where its header is another
  BadJournal : (place : ℕ) → Stop
  -- the bytes up to and with the closed gate, and those of the entry
  Full : (whole entry : ℕ) → Stop

abbrev pub status_of : Stop → ℕ
status_of Ended = 0
status_of NoMemory = 1
status_of ReadFailed = 3
status_of WriteFailed = 4
status_of DiskFailed = 5
status_of BindFailed = 6
status_of (BadKit fault) = 7
status_of (BadLine line) = 7
status_of (BadSnap line) = 7
status_of (BadJournal place) = 8
status_of (Full whole entry) = 9

-- the last line that is written, which for some stops is none
abbrev pub stop_line : Stop → List ℕ
stop_line Ended = []
stop_line NoMemory = []
stop_line ReadFailed = codes "stop 3 read\n"
stop_line WriteFailed = []
stop_line DiskFailed = codes "stop 5 disk\n"
stop_line BindFailed = codes "stop 6 link\n"
stop_line (BadKit fault) = line_text (codes "stop" ∷ codes "7" ∷ fault_words fault)
stop_line (BadLine n) = line_text (codes "stop" ∷ codes "7" ∷ codes "line" ∷ decimal n ∷ [])
stop_line (BadSnap n) = line_text (codes "stop" ∷ codes "7" ∷ codes "snap" ∷ decimal n ∷ [])
stop_line (BadJournal place) = line_text (codes "stop" ∷ codes "8" ∷ codes "journal" ∷ codes "0" ∷ decimal place ∷ [])
stop_line (Full whole entry) = line_text (codes "stop" ∷ codes "9" ∷ codes "full" ∷ decimal whole ∷ decimal entry ∷ [])
