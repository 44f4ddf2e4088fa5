-- A server of the code, as the definitions' server of one process.
use Rattle.std.specs.Prelude.{◌≡◌, ◌⊎◌, ℕ, Bool, true, false, List, [], ◌∷◌, ◌++◌, Option, Some, None}
use Rattle.signature_defs.specs.Secrets.{Secret}
use Rattle.store_defs.specs.Keys.{reply_secret, signs_of, state_secret}
use Rattle.store_defs.specs.Serving as plain
use Rattle.store_defs.specs.Serving.{Place}
use Rattle.store_defs.specs.Transfers.{Transfer}
use Rattle.store_replies.specs.Replying.{IsReplying}
use Rattle.store_giving.specs.Given.{IsGiving, transfer_in}
use Rattle.store_server.specs.declared.server.Server.{Server}

-- who is counted with which state, and which is ready
abbrev pub transfer_of : Server → Transfer
transfer_of x = transfer_in x.giving

-- that of a process of this number and group with this secret
abbrev pub place_with : ℕ → List ℕ → Secret → Place
place_with me group secret =
    record { me = me; group = group; replies = signs_of (reply_secret secret); states = signs_of (state_secret secret) }

-- it keeps what the definitions' server of this place keeps
pub record IsServer (q : Place) (s : plain.Server) (x : Server) : Type 0 where
  pub replies : IsReplying q s x.replies
  pub gives : IsGiving q s x.giving

-- they are servers of these places
abbrev pub AreServers : List Place → List Server → Type 0
AreServers [] [] = Unit {0}
AreServers (q ∷ qs) (x ∷ xs) = ((s : plain.Server) × IsServer q s x) × AreServers qs xs
AreServers _ _ = ⊥

-- memory was refused on the way to the server after a call: it keeps what it kept before, but for the transfer maybe, which is then that
-- of the server after
abbrev pub IsCutOff : Place → plain.Server → plain.Server → Server → Type 0
IsCutOff q s after x = IsServer q s x ⊎ IsServer q (record s { transfer = after.transfer }) x

-- the same of a line, where it has a word
abbrev pub IsCutOffAt : Place → plain.Server → Server → Option (List ℕ × plain.Server) → Type 0
IsCutOffAt q s x None = IsServer q s x
IsCutOffAt q s x (Some w) = IsCutOff q s w.1 x

-- a text begins with another
abbrev pub Begins : List ℕ → List ℕ → Type 0
Begins front text = (rest : List ℕ) × (text ≡ front ++ rest)

-- A line was heard or not, as the definitions say: where they read a word, what it writes is appended, and the server is the one after it;
-- else nothing has changed.
abbrev pub IsHeard : Place → plain.Server → List ℕ → List ℕ → Server → Bool → Option (List ℕ × plain.Server) → Type 0
IsHeard q s before after x heard None = (heard ≡ false) × (after ≡ before) × IsServer q s x
IsHeard q s before after x heard (Some w) = (heard ≡ true) × (after ≡ before ++ w.0) × IsServer q w.1 x
