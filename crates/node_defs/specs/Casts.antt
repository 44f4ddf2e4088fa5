-- Who takes part in a node: its hosted processes, what signs for them, and what seals what they send. And what a hosted process is after
-- the entries of a journal.
-- Names here (* for this crate alone):
--   Cast
--   of a kit: setting_of, host_of, pair_of, known_of, datagram, hosted_by, cast_of
--   turns: handed, live, outcome_of, entry_for, letters_of
--   the entries of a journal: kept_turn, turns_from, entries_of, taken_up, may_have_written
--   where a run begins: Beginning, from_start
use Rattle.std.specs.Prelude.{◌≡◌, ℕ, ◌-◌, Bool, true, false, ◌==◌, nat_le, ◌&&◌, if◌then◌else◌, List, [], ◌∷◌, length, map, filter, find, flat_map, Option, option_map, option_and_then, Result, IsTrue}
use Rattle.std.specs.Option.{option_map_or, unwrap_or}
use Rattle.std.specs.List.{list_all}
use Rattle.byte_defs.specs.Equality.{is_yes}
use Rattle.message_defs.specs.Claims.{frame_said}
use Rattle.signature_defs.specs.Secrets.{Secret, total_of, signature_of}
use Rattle.signature_defs.specs.Schemes.{is_valid}
use Rattle.link_defs.specs.declared.LinkFault.{LinkFault}
use Rattle.link_defs.specs.Datagrams.{Known, Datagram, opened, sealed}
use Rattle.group_defs.specs.Process.{Setting, Process, all_kinds, start}
use Rattle.group_defs.specs.Signing.{Signer}
use Rattle.group_defs.specs.Hearing as hearing
use Rattle.group_defs.specs.Sending.{Sending, frames_of}
use Rattle.group_defs.specs.Events as group
use Rattle.group_defs.specs.Events.{Turn, Outcome, after, outcome, run, journalled}
use Rattle.journal_defs.specs.Entries.{Event, Submit, Frame, Suspect, Join, Renew, Tick, Entry}
use Rattle.journal_defs.specs.declared.Version.{Version}
use Rattle.journal_defs.specs.Journals.{Header, header_bytes, batch_limit}
use Rattle.input_defs.specs.Below.{Kit, Host, kit_digest}

-- what a node is made of. The functions of a process speak of hosted ones
pub record Cast : Type 0 where
  pub setting : Setting
  -- by rising numbers
  pub hosted : List ℕ
  pub batch_limit : ℕ
  -- what its key is made of, and what a service may make further keys of
  pub secret : ℕ → Option Secret
  -- how many signatures its key makes, and the key's signature on a body by how many it made before
  pub total : ℕ → ℕ
  pub signer : ℕ → Signer
  -- of each process of the roster
  pub port : ℕ → ℕ
  -- the datagram in which the first process sends a frame to the second
  pub seal : ℕ → ℕ → List ℕ → List ℕ
  -- who sent a datagram that came to the process, and the frame
  pub unseal : ℕ → List ℕ → Result (ℕ × List ℕ) LinkFault
  -- of the journal
  pub header : List ℕ

-- ---- of a kit

-- what the processes of a kit share
abbrev pub setting_of : Kit → Setting
setting_of kit = record {
  group = kit.group;
  roster = kit.keys;
  genesis = record { number = 0; members = kit.genesis };
  valid = is_valid kit.scheme;
  signs = all_kinds;
}

-- the host of this number
abbrev pub host_of : Kit → ℕ → Option Host
host_of kit p = find (λ h. h.process == p) kit.hosts

-- the key that it shares with another
abbrev pub pair_of : Kit → ℕ → ℕ → Option (List ℕ)
pair_of kit p q = option_and_then (λ h. option_map (λ pair. pair.1) (find (λ pair. pair.0 == q) h.pairs)) (host_of kit p)

-- what a hosted process knows of those that it speaks with
abbrev pub known_of : Kit → ℕ → Known
known_of kit p = record { me = p; group = kit.group; pair = pair_of kit p }

abbrev pub datagram : Kit → ℕ → ℕ → List ℕ → Datagram
datagram kit p q frame = record { group = kit.group; from = p; to = q; frame = frame }

abbrev pub hosted_by : Kit → List ℕ
hosted_by kit = map (λ h. h.process) kit.hosts

-- of this kit, with a journal of this kind
abbrev pub cast_of : Kit → Version → Cast
cast_of kit version = record {
  setting = setting_of kit;
  hosted = hosted_by kit;
  batch_limit = batch_limit version;
  secret = λ p. option_map (λ h. h.secret) (host_of kit p);
  total = λ p. option_map_or (λ h. total_of h.secret) (host_of kit p) 0;
  signer = λ p used body. option_map_or (λ h. signature_of h.secret used body) (host_of kit p) [];
  port = λ p. unwrap_or (option_map (λ port. port.1) (find (λ port. port.0 == p) kit.ports)) 0;
  seal = λ p q frame. option_map_or (λ key. sealed key (datagram kit p q frame)) (pair_of kit p q) [];
  unseal = λ p bytes. opened (known_of kit p) bytes;
  header = header_bytes version (record { group = kit.group; hosted = hosted_by kit; digest = kit_digest kit });
}

-- ---- turns

-- what is handed to the process; of a frame, what its bytes say
abbrev pub handed : Event → group.Event
handed (Submit payload) = group.Submit payload
handed (Frame from bytes) = group.Hand from (frame_said bytes)
handed (Suspect q) = group.Suspect q
handed (Join q) = group.Join q
handed Renew = group.RenewView
handed Tick = group.Tick

-- a live turn: the key makes the signatures that are left
abbrev pub live : Cast → Process → Event → Turn
live c p e = record { event = handed e; allowance = c.total p.me - length p.signed; signer = c.signer p.me }

abbrev pub outcome_of : Cast → Process → Event → Outcome
outcome_of c p e = outcome c.setting p (live c p e)

-- its entry
abbrev pub entry_for : Cast → Process → Event → Entry
entry_for c p e = record {
  process = p.me;
  event = e;
  spent = (outcome_of c p e).spent;
  signatures = map (λ d. d.signature) (outcome_of c p e).signed;
}

-- the frames that an outcome sends, one for each addressee, in order
abbrev pub letters_of : Outcome → List (ℕ × List ℕ)
letters_of o = flat_map (λ out. flat_map (λ bytes. map (λ q. (q, bytes)) out.to) (frames_of out.parcel)) o.sends

-- ---- the entries of a journal

-- the turn that the entry keeps, of the process before it
abbrev pub kept_turn : Process → Entry → Turn
kept_turn p e = journalled p (handed e.event) e.signatures

-- the turns that these entries keep, from this process on
unfoldable pub turns_from : Setting → Process → List Entry → List Turn
turns_from s p [] = []
turns_from s p (e ∷ es) = kept_turn p e ∷ turns_from s (after s p (kept_turn p e)) es

-- the entries of this process
abbrev pub entries_of : ℕ → List Entry → List Entry
entries_of p es = filter (λ e. e.process == p) es

-- the process after these entries, which are all its own
abbrev pub taken_up : Setting → Process → List Entry → Process
taken_up s p es = run s p (turns_from s p es)

-- The process may have written the entry: with the entry's signatures it signs as many statements as there are and lacks one exactly where
-- the entry says so, each is valid for its statement, and its key still had that many.
unfoldable pub may_have_written : Cast → Process → Entry → Bool
may_have_written c p e =
    let o : Outcome = outcome c.setting p (kept_turn p e) in
    (length o.signed == length e.signatures)
    && (if o.spent then e.spent else (if e.spent then false else true))
    && list_all (hearing.is_valid c.setting) o.signed
    && nat_le (length e.signatures) (c.total p.me - length p.signed)

-- ---- where a run begins

-- the processes as they are before the first entry that is read, how many entries each had before it, and the place of its gate
pub record Beginning : Type 0 where
  pub from : ℕ → Process
  pub before : ℕ → ℕ
  pub place : ℕ

-- from the start of the journal
abbrev pub from_start : Cast → Beginning
from_start c = record { from = λ p. start c.setting p c.batch_limit; before = λ p. 0; place = length c.header }
