-- What the rows share: the keys of a kit, texts of several lines, and what a server writes after several notes.
use Rattle.std.specs.Prelude.{ℕ, List, [], ◌∷◌, ◌++◌, codes}
use Rattle.std.specs.List.{flat_map}
use Rattle.signature_defs.specs.Secrets.{Secret, Plain}
use Rattle.message_defs.specs.Statements.{Message}
use Rattle.group_defs.specs.Process.{Delivered}
use Rattle.group_defs.specs.Events.{Note, Delivers}
use Rattle.store_defs.specs.Keys.{reply_secret, signs_of, state_secret}
use Rattle.store_defs.specs.Serving.{Place, Server, after_note, reported_of}
use Rattle.store_defs.specs.Words.{reported_text}

-- a text of these lines
abbrev pub text_of : List (List ℕ) → List ℕ
text_of lines = flat_map (λ line. line ++ 10 ∷ []) lines

-- the group of the rows' kits, and the plain keys of their first two processes
unfoldable pub group : List ℕ
group = 111 ∷ 40 ∷ 157 ∷ 91 ∷ 90 ∷ 164 ∷ 37 ∷ 220 ∷ 47 ∷ 54 ∷ 88 ∷ 119 ∷ 228 ∷ 207 ∷ 133 ∷ 149 ∷ []

unfoldable pub key_0 : List ℕ
key_0 = 45 ∷ 212 ∷ 71 ∷ 172 ∷ 115 ∷ 5 ∷ 188 ∷ 132 ∷ 178 ∷ 220 ∷ 13 ∷ 160 ∷ 254 ∷ 148 ∷ 17 ∷ 243 ∷ 62 ∷ 26 ∷ 247 ∷ 36 ∷ 211 ∷ 0 ∷ 54 ∷ 218 ∷ 168 ∷ 185 ∷ 201 ∷ 48 ∷ 206 ∷ 139 ∷ 55 ∷ 34 ∷ []

unfoldable pub key_1 : List ℕ
key_1 = 0 ∷ 211 ∷ 11 ∷ 233 ∷ 210 ∷ 205 ∷ 119 ∷ 115 ∷ 126 ∷ 43 ∷ 189 ∷ 13 ∷ 118 ∷ 120 ∷ 184 ∷ 182 ∷ 195 ∷ 91 ∷ 47 ∷ 160 ∷ 72 ∷ 16 ∷ 69 ∷ 99 ∷ 8 ∷ 2 ∷ 140 ∷ 113 ∷ 149 ∷ 129 ∷ 3 ∷ 165 ∷ []

-- a process that serves, of a plain key for 100 signatures
abbrev pub place_of : ℕ → List ℕ → Place
place_of me key = record {
  me = me;
  group = group;
  replies = signs_of (reply_secret (Plain key 100));
  states = signs_of (state_secret (Plain key 100));
}

abbrev pub delivered : ℕ → ℕ → ℕ → List ℕ → Delivered
delivered place sender number payload = record { place = place; message = record { sender = sender; number = number }; payload = payload }

-- what is written after these notes
abbrev pub reported : Place → Server → List Note → List ℕ
reported q s [] = []
reported q s (note ∷ notes) = reported_text q.me (reported_of q s note) ++ reported q (after_note q s note) notes

-- a `Set` of the key a to b, and a `Get` of the key a
unfoldable pub set_a : List ℕ
set_a = 0 ∷ 0 ∷ 0 ∷ 0 ∷ 0 ∷ 0 ∷ 0 ∷ 0 ∷ 1 ∷ 1 ∷ 97 ∷ 0 ∷ 1 ∷ 98 ∷ []

unfoldable pub get_a : List ℕ
get_a = 0 ∷ 0 ∷ 0 ∷ 0 ∷ 0 ∷ 0 ∷ 0 ∷ 1 ∷ 2 ∷ 1 ∷ 97 ∷ []
