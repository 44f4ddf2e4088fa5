-- What of a server gives states, and takes those of others.
use Rattle.std.specs.Prelude.{◌≡◌, ℕ, [], option_map}
use Rattle.group_defs.specs.Views.{View}
use Rattle.store_defs.specs.Keys.{Signs}
use Rattle.store_defs.specs.Records.{StateRecord, state_body}
use Rattle.store_defs.specs.Serving.{Place, Server, handed_key}
use Rattle.store_defs.specs.Stores.{store_bytes}
use Rattle.store_defs.specs.Transfers.{Transfer}
use Rattle.store_keys.specs.Keys.{signs}
use Rattle.store_giving.specs.declared.giving.Giving.{Giving}
use Rattle.store_giving.specs.Handed.{key_of}
use Rattle.store_giving.specs.Signatures.{record_with, state_in}
use Rattle.store_giving.specs.Spellings.{bytes_in}

-- who gives
abbrev pub giver_in : Giving → ℕ
giver_in g = g.me

-- its key
abbrev pub state_key_in : Giving → Signs
state_key_in g = signs g.key

-- its view
abbrev pub view_in : Giving → View
view_in g = g.view

-- who was counted with which state, and which is ready
abbrev pub transfer_in : Giving → Transfer
transfer_in g = g.transfer

-- it is that of the server: who gives, by which key, of which view and which store, and what it was handed
pub record IsGiving (q : Place) (s : Server) (g : Giving) : Type 0 where
  pub me : q.me ≡ giver_in g
  pub group : q.group ≡ g.group
  pub key : q.states ≡ state_key_in g
  pub view : s.view ≡ g.view
  pub gives : option_map store_bytes s.gives ≡ option_map bytes_in g.state
  pub keys : (p : ℕ) → handed_key s p ≡ key_of g.keys p
  pub transfer : s.transfer ≡ g.transfer

-- only the state's signature and the key's next leaf may differ
pub record IsSameBut (g h : Giving) : Type 0 where
  pub me : h.me ≡ g.me
  pub group : h.group ≡ g.group
  pub key : signs h.key ≡ signs g.key
  pub view : h.view ≡ g.view
  pub state : h.state ≡ g.state
  pub keys : h.keys ≡ g.keys
  pub transfer : h.transfer ≡ g.transfer

-- the record of its state, with the signature that was made
abbrev pub signed_record : Giving → StateRecord
signed_record g = record_with g.me g.view.number (state_in g.state) ((signs g.key).signature g.view.number
    (state_body g.group (record_with g.me g.view.number (state_in g.state) [])))
