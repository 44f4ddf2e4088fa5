-- The limits of what is said in a group.
use Rattle.std.specs.Prelude.{ℕ}

-- processes are numbered from 0 to 63
abbrev pub last_process : ℕ
last_process = 63

-- views, the messages of a sender in a view, and places are numbered from 0 to 1,023
abbrev pub last_number : ℕ
last_number = 1023

-- so a view has at most 1,024 places
abbrev pub most_places : ℕ
most_places = 1024

-- a place holds 1 to 16 messages
abbrev pub most_messages : ℕ
most_messages = 16

-- a view has at most 16 members, and no more than these sign one statement
abbrev pub most_members : ℕ
most_members = 16

-- and their ranks are 0 to 15
abbrev pub last_rank : ℕ
last_rank = 15

abbrev pub most_payload_bytes : ℕ
most_payload_bytes = 1024

abbrev pub most_signature_bytes : ℕ
most_signature_bytes = 16384

abbrev pub most_frame_bytes : ℕ
most_frame_bytes = 61000
