-- What the service of a node that serves a store answers to the calls of its node, and what its servers are after each of them.
--
-- At the call Serves it begins: each process that it is shown gets a server, which is that of the process as it is then, at the place of the
-- process in the cast. A note that a process lets out is given to the server of this process, and so is a line of the script that asks it.
-- Nobody is suspected.
-- Names here (* for this crate alone):
--   Serving
--   the start: begun_by*, begun_of*, begun*, keys_of*
--   one of them: serving, with_new*, with_server*
--   notes: noted, after_noted*
--   lines: kit_in*, here_of*, worded_of, worded*, after_worded*
--   calls: answer_to*, after_call, after_own
--   histories: after_first*, IsFirst*, after_one, IsServed*, after_all, AreServed, after_owns*
use Rattle.std.specs.Prelude.{◌≡◌, ℕ, ◌==◌, if◌then◌else◌, List, [], ◌∷◌, find, flat_map, map, option_and_then, Option, Some, None}
use Rattle.std.specs.Option.{option_map_or}
use Rattle.node_service.specs.Histories.{Answer, Asked, Asks, Call, Cast, Done, Note, Process, Said, Serves, NotesOf, Words}
use Rattle.node_service.specs.Kits.{Kit}
use Rattle.store_server.specs.Places.{Place, Secret, Server, after_note, keys_text, line_worded, noted_text, payloads_of, scheme_of, server_of}
use Rattle.store_server.specs.Serving.{place_with}

-- of a process that is served: its place, and its server
pub record Serving : Type 0 where
  pub place : Place
  pub server : Server

-- ---- the start

-- of a process with this secret, as it begins
abbrev pub begun_by : Cast → Process → Secret → Serving
begun_by c p secret = record { place = place_with p.me c.setting.group secret; server = server_of p }

-- of a process, where the cast has its secret
abbrev pub begun_of : Cast → Process → List Serving
begun_of c p = option_map_or (λ secret. begun_by c p secret ∷ []) (c.secret p.me) []

-- of each of these processes
abbrev pub begun : Cast → List Process → List Serving
begun c shown = flat_map (begun_of c) shown

-- their keys, those of replies first
abbrev pub keys_of : List Serving → List ℕ
keys_of xs = keys_text (map (λ x. x.place) xs)

-- ---- one of them

-- that of process p, the first if there are more
abbrev pub serving : ℕ → List Serving → Option Serving
serving p xs = find (λ x. x.place.me == p) xs

-- it with this server, at its place
abbrev pub with_new : Server → Serving → Serving
with_new s x = record x { server = s }

-- they with this server for process p
abbrev pub with_server : ℕ → Server → List Serving → List Serving
with_server p s [] = []
with_server p s (x ∷ xs) = if x.place.me == p then with_new s x ∷ xs else x ∷ with_server p s xs

-- ---- notes

-- what the server of process p says of a note; without one nothing is said
abbrev pub noted : ℕ → Note → List Serving → List ℕ
noted p note xs = option_map_or (λ x. noted_text x.place x.server note) (serving p xs) []

-- and the servers after it
abbrev pub after_noted : ℕ → Note → List Serving → List Serving
after_noted p note xs = option_map_or (λ x. with_server p (after_note x.place x.server note) xs) (serving p xs) xs

-- ---- lines

-- what a line of a process is read by: the scheme of this secret, which is its own, and the roster of the cast
abbrev pub kit_in : Cast → Secret → Kit
kit_in c secret = record {
  scheme = scheme_of secret;
  group = c.setting.group;
  keys = c.setting.roster;
  genesis = c.setting.genesis.members;
  ports = [];
  hosts = [];
}

-- what the first of these processes delivered in its view
abbrev pub here_of : List Process → List (List ℕ)
here_of [] = []
here_of (p ∷ ps) = payloads_of p.delivered

-- what a line of process p, which this is, writes, where it delivered these payloads in its view so far, and its server after the line; none
-- where the cast has no secret of it, or the line no word
abbrev pub worded_of : Cast → List (List ℕ) → ℕ → List ℕ → Serving → Option (List ℕ × Server)
worded_of c here p line x = option_and_then (λ secret. line_worded (kit_in c secret) x.place here x.server line) (c.secret p)

-- the same, where process p has a server
abbrev pub worded : Cast → List (List ℕ) → ℕ → List ℕ → List Serving → Option (List ℕ × Server)
worded c here p line xs = option_and_then (worded_of c here p line) (serving p xs)

-- and the servers after it
abbrev pub after_worded : Cast → List (List ℕ) → ℕ → List ℕ → List Serving → List Serving
after_worded c here p line xs = option_map_or (λ w. with_server p w.1 xs) (worded c here p line xs) xs

-- ---- calls

-- what it answers, with these servers
abbrev pub answer_to : List Serving → Cast → List Process → Call → Answer
answer_to xs c shown Serves = Said (keys_of (begun c shown)) []
answer_to xs c shown (NotesOf p note) = Said (noted p note xs) []
answer_to xs c shown (Words p line) = option_map_or (λ w. Said w.0 []) (worded c (here_of shown) p line xs) Done
answer_to xs c shown call = Done

-- its servers then
abbrev pub after_call : List Serving → Cast → List Process → Call → List Serving
after_call xs c shown Serves = begun c shown
after_call xs c shown (NotesOf p note) = after_noted p note xs
after_call xs c shown (Words p line) = after_worded c (here_of shown) p line xs
after_call xs c shown call = xs

-- what a call makes of the server of process p: its notes and its lines change it, all else leaves it
abbrev pub after_own : ℕ → Cast → List Process → Call → Serving → Serving
after_own p c shown (NotesOf q note) x = if q == p then with_new (after_note x.place x.server note) x else x
after_own p c shown (Words q line) x = if q == p then option_map_or (λ w. with_new w.1 x) (worded_of c (here_of shown) p line x) x else x
after_own p c shown call x = x

-- ---- histories

-- Before the first Serves, with which a node begins its service, it is left open which they are and what is answered; but nobody is suspected.
abbrev pub after_first : Cast → List Process → Call → Option (List Serving)
after_first c shown Serves = Some (begun c shown)
after_first c shown call = None

abbrev pub IsFirst : Cast → List Process → Call → Answer → Type 0
IsFirst c shown Serves a = a ≡ Said (keys_of (begun c shown)) []
IsFirst c shown (Asks p e notes above) a = a ≡ Done
IsFirst c shown call a = Unit {0}

-- the servers after a call
abbrev pub after_one : Option (List Serving) → Asked → Option (List Serving)
after_one None i = after_first i.cast i.shown i.call
after_one (Some xs) i = Some (after_call xs i.cast i.shown i.call)

-- the call was answered so, by these servers
abbrev pub IsServed : Option (List Serving) → Asked → Type 0
IsServed None i = IsFirst i.cast i.shown i.call i.answer
IsServed (Some xs) i = i.answer ≡ answer_to xs i.cast i.shown i.call

-- the servers after these calls, one after the other
abbrev pub after_all : Option (List Serving) → List Asked → Option (List Serving)
after_all xs [] = xs
after_all xs (i ∷ h) = after_all (after_one xs i) h

-- each of these calls was answered so, one after the other
abbrev pub AreServed : Option (List Serving) → List Asked → Type 0
AreServed xs [] = Unit {0}
AreServed xs (i ∷ h) = IsServed xs i × AreServed (after_one xs i) h

-- the server of process p after these calls, one after the other
abbrev pub after_owns : ℕ → List Asked → Serving → Serving
after_owns p [] x = x
after_owns p (i ∷ h) x = after_owns p h (after_own p i.cast i.shown i.call x)
