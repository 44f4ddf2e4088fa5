-- How many statements a process signs in one event: one at most for each slot of a view.
use Rattle.std.specs.Prelude.{◌≡◌, ◌≢◌, ℕ, ◌≤◌, List, [], ◌∷◌, ◌++◌, length, map, All, AllPairs}
use Rattle.std.specs.List.{flat_map, range_with_len}
use Rattle.message_defs.specs.Updates.{Remove, Add, Renew}
use Rattle.message_defs.specs.Spelling.{IsStatement}
use Rattle.message_defs.specs.Statements.{Claim, Slot, InitAt, EchoAt, OrderAt, PlaceAt, KeepAt, NotifyAt, EndAt, LastAt, SuggestAt, AckAt, ReadyAt, slot_of}
use Rattle.group_defs.specs.Views.{View, IsView}
use Rattle.group_defs.specs.Process.{Kind, Inits, Echoes, Orders, Places, Keeps, Notifies, Ends, Readies, Lasts, Suggests, Acks, Setting, Process, all_kinds}
use Rattle.group_defs.specs.Signing.{Signer, sign_all}
use Rattle.group_defs.specs.Laws.{IsOfView}

-- the slots of a kind in a view, where messages of a sender and places are numbered below `places`, ranks below `ranks` and processes
-- below `processes`
abbrev pub slots_of : ℕ → ℕ → ℕ → View → Kind → List Slot
slots_of places ranks processes v Inits = map (λ l. InitAt v.number l) (range_with_len 0 places)
slots_of places ranks processes v Echoes =
    flat_map (λ m. map (λ l. EchoAt v.number (record { sender = m; number = l })) (range_with_len 0 places)) v.members
slots_of places ranks processes v Orders = map (λ k. OrderAt v.number k) (range_with_len 0 places)
slots_of places ranks processes v Places = map (λ k. PlaceAt v.number k) (range_with_len 0 places)
slots_of places ranks processes v Keeps = map (λ k. KeepAt v.number k) (range_with_len 0 places)
slots_of places ranks processes v Notifies =
    NotifyAt v.number Renew
    ∷ (map (λ q. NotifyAt v.number (Remove q)) (range_with_len 0 processes)
    ++ map (λ q. NotifyAt v.number (Add q)) (range_with_len 0 processes))
slots_of places ranks processes v Ends = EndAt v.number ∷ []
slots_of places ranks processes v Readies = map (λ r. ReadyAt v.number r) (range_with_len 0 ranks)
slots_of places ranks processes v Lasts = map (λ r. LastAt v.number r) (range_with_len 0 ranks)
slots_of places ranks processes v Suggests = map (λ r. SuggestAt v.number r) (range_with_len 0 ranks)
slots_of places ranks processes v Acks = map (λ r. AckAt v.number r) (range_with_len 0 ranks)

-- all slots of a view
abbrev pub slots_in : ℕ → ℕ → ℕ → View → List Slot
slots_in places ranks processes v = flat_map (slots_of places ranks processes v) all_kinds

-- The most slots of a view: 1,024 Inits, 1,024 Echoes for each of 16 members, 1,024 Orders, Places and Keeps, 129 Notifies, an End, and 16
-- each of four kinds by rank
abbrev pub most_signed : ℕ
most_signed = 20674

-- q is p but for claims of p's view that were signed, no two of which fill one slot
pub record FillsSlots (p q : Process) : Type 0 where
  pub more : List Claim
  pub signed : q.signed ≡ p.signed ++ more
  pub of_view : All (IsOfView p.pool.view) more
  pub once : AllPairs (λ c d. slot_of c.statement ≢ slot_of d.statement) more

-- A process that heard claims of its view alone, and signed its own alone, signs claims of its view, each slot once.
abbrev pub SigningFillsSlots : Type 0
SigningFillsSlots = (s : Setting) (signer : Signer) (left : ℕ) (p : Process) → All (IsOfView p.pool.view) p.pool.heard
    → All (λ c. c.signer ≡ p.me) p.signed → FillsSlots p (sign_all s signer left p).now

-- Claims of a view, in range and of different slots, are at most 20,674.
abbrev pub SlotsAreFew : Type 0
SlotsAreFew = (v : View) (cs : List Claim) → IsView v → All (IsOfView v) cs → All (λ c. IsStatement c.statement) cs
    → AllPairs (λ c d. slot_of c.statement ≢ slot_of d.statement) cs → length cs ≤ most_signed
