-- A claim passes the tests exactly where a frame can carry it.
use Rattle.std.proofs.Common.{◌≡◌, ℕ, ◌<◌, ◌≤◌, Bool, true, List, [], ◌∷◌, length, map, Option, Some, None, refl, sym, ap, ◌∙◌, arith}
use Rattle.std.specs.Prelude.{◌&&◌, nat_le, nat_lt}
use Rattle.std.specs.List.{AllByRecursion, list_all}
use Rattle.std.proofs.lemmas.Bool.{leb-true, le-leb, ltb-true, lt-ltb}
use Rattle.std.proofs.lemmas.List.{length-map}
use Rattle.std.proofs.lemmas.List.Folds.{list_all-map}
use Rattle.message_defs.specs.Limits.{last_number, last_process, last_rank, most_messages, most_payload_bytes, most_places, most_signature_bytes}
use Rattle.message_defs.specs.Updates.{Update, Remove, Add, Renew, Value}
use Rattle.message_defs.specs.Statements.{Message, Batch, Statement, Init, Echo, Order, Place, Keep, Notify, End, Last, Suggest, Ack, Ready, Claim}
use Rattle.message_defs.specs.Spelling.{IsBatch, IsClaim, IsMessage, IsReport, IsStatement, IsUpdate, IsValue, IsViewNumber}
use Rattle.member_events.specs.Below.{message}
use Rattle.pool_laws.proofs.Tests.{and-first, and-second, both-true}
use Rattle.guard_service.specs.Ranges.{batch_fits, claim_fits, message_fits, placed_fits, ranked_fits, report_fits, statement_fits, update_fits, value_fits}

-- three tests
and-three : (a b c : Bool) → (a && b && c) ≡ true → (a ≡ true) × (b ≡ true) × (c ≡ true)
and-three a b c e =
    (and-first a b (and-first (a && b) c e), and-second a b (and-first (a && b) c e), and-second (a && b) c e)

all-three : (a b c : Bool) → a ≡ true → b ≡ true → c ≡ true → (a && b && c) ≡ true
all-three a b c ea eb ec = both-true (a && b) c (both-true a b ea eb) ec

-- ---- what passes is in range

is-message : (m : Message) → message_fits m ≡ true → IsMessage m
is-message m e = (
  leb-true m.sender last_process (and-first (nat_le m.sender last_process) (nat_le m.number last_number) e),
  leb-true m.number last_number (and-second (nat_le m.sender last_process) (nat_le m.number last_number) e),
)

are-messages : (ms : List Message) → list_all message_fits ms ≡ true → AllByRecursion IsMessage ms
are-messages [] e = tt
are-messages (m ∷ ms) e = (
  is-message m (and-first (message_fits m) (list_all message_fits ms) e),
  are-messages ms (and-second (message_fits m) (list_all message_fits ms) e),
)

is-batch : (b : Batch) → batch_fits b ≡ true → IsBatch b
is-batch b e =
    let t = and-three (nat_le 1 (length b)) (nat_le (length b) most_messages) (list_all message_fits b) e in
    record { some = leb-true 1 (length b) t.0; few = leb-true (length b) most_messages t.1; each = are-messages b t.2 }

is-update : (u : Update) → update_fits u ≡ true → IsUpdate u
is-update (Remove p) e = leb-true p last_process e
is-update (Add p) e = leb-true p last_process e
is-update Renew e = tt

is-value : (v : Value) → value_fits v ≡ true → IsValue v
is-value v e = (
  is-update v.update (and-first (update_fits v.update) (nat_le v.cut most_places) e),
  leb-true v.cut most_places (and-second (update_fits v.update) (nat_le v.cut most_places) e),
)

is-report : (r : ℕ) (ready : Option (ℕ × Value)) → report_fits r ready ≡ true → IsReport r ready
is-report r None e = tt
is-report r (Some ready) e = (
  ltb-true ready.0 r (and-first (nat_lt ready.0 r) (value_fits ready.1) e),
  is-value ready.1 (and-second (nat_lt ready.0 r) (value_fits ready.1) e),
)

is-placed : (x k : ℕ) (b : Batch) → placed_fits x k b ≡ true → IsViewNumber x × (k ≤ last_number) × IsBatch b
is-placed x k b e =
    let t = and-three (nat_le x last_number) (nat_le k last_number) (batch_fits b) e in
    (leb-true x last_number t.0, leb-true k last_number t.1, is-batch b t.2)

is-ranked : (x r : ℕ) (v : Value) → ranked_fits x r v ≡ true → IsViewNumber x × (r ≤ last_rank) × IsValue v
is-ranked x r v e =
    let t = and-three (nat_le x last_number) (nat_le r last_rank) (value_fits v) e in
    (leb-true x last_number t.0, leb-true r last_rank t.1, is-value v t.2)

is-statement : (st : Statement) → statement_fits st ≡ true → IsStatement st
is-statement (Init x l payload) e =
    let t = and-three (nat_le x last_number) (nat_le l last_number) (nat_le (length payload) most_payload_bytes) e in
    (leb-true x last_number t.0, leb-true l last_number t.1, leb-true (length payload) most_payload_bytes t.2)
is-statement (Echo x m payload) e =
    let t = and-three (nat_le x last_number) (message_fits m) (nat_le (length payload) most_payload_bytes) e in
    (leb-true x last_number t.0, is-message m t.1, leb-true (length payload) most_payload_bytes t.2)
is-statement (Order x k b) e = is-placed x k b e
is-statement (Place x k b) e = is-placed x k b e
is-statement (Keep x k b) e = is-placed x k b e
is-statement (Notify x u) e = (
  leb-true x last_number (and-first (nat_le x last_number) (update_fits u) e),
  is-update u (and-second (nat_le x last_number) (update_fits u) e),
)
is-statement (End x k) e = (
  leb-true x last_number (and-first (nat_le x last_number) (nat_le k most_places) e),
  leb-true k most_places (and-second (nat_le x last_number) (nat_le k most_places) e),
)
is-statement (Last x r ready) e =
    let t = and-three (nat_le x last_number) (nat_le r last_rank) (report_fits r ready) e in
    (leb-true x last_number t.0, leb-true r last_rank t.1, is-report r ready t.2)
is-statement (Suggest x r v) e = is-ranked x r v e
is-statement (Ack x r v) e = is-ranked x r v e
is-statement (Ready x r v) e = is-ranked x r v e

pub is-claim : (c : Claim) → claim_fits c ≡ true → IsClaim c
is-claim c e =
    let t = and-three (nat_le c.signer last_process) (statement_fits c.statement) (nat_le (length c.signature) most_signature_bytes) e in
    (leb-true c.signer last_process t.0, is-statement c.statement t.1, leb-true (length c.signature) most_signature_bytes t.2)

-- ---- what is in range passes

message-passes : (m : Message) → IsMessage m → message_fits m ≡ true
message-passes m is = both-true (nat_le m.sender last_process) (nat_le m.number last_number) (le-leb m.sender last_process is.0)
    (le-leb m.number last_number is.1)

messages-pass : (ms : List Message) → AllByRecursion IsMessage ms → list_all message_fits ms ≡ true
messages-pass [] are = refl
messages-pass (m ∷ ms) are = both-true (message_fits m) (list_all message_fits ms) (message-passes m are.0) (messages-pass ms are.1)

batch-passes : (b : Batch) → IsBatch b → batch_fits b ≡ true
batch-passes b is = all-three (nat_le 1 (length b)) (nat_le (length b) most_messages) (list_all message_fits b)
    (le-leb 1 (length b) is.some) (le-leb (length b) most_messages is.few) (messages-pass b is.each)

update-passes : (u : Update) → IsUpdate u → update_fits u ≡ true
update-passes (Remove p) is = le-leb p last_process is
update-passes (Add p) is = le-leb p last_process is
update-passes Renew is = refl

value-passes : (v : Value) → IsValue v → value_fits v ≡ true
value-passes v is = both-true (update_fits v.update) (nat_le v.cut most_places) (update-passes v.update is.0)
    (le-leb v.cut most_places is.1)

report-passes : (r : ℕ) (ready : Option (ℕ × Value)) → IsReport r ready → report_fits r ready ≡ true
report-passes r None is = refl
report-passes r (Some ready) is = both-true (nat_lt ready.0 r) (value_fits ready.1) (lt-ltb ready.0 r is.0) (value-passes ready.1 is.1)

placed-passes : (x k : ℕ) (b : Batch) → IsViewNumber x × (k ≤ last_number) × IsBatch b → placed_fits x k b ≡ true
placed-passes x k b is = all-three (nat_le x last_number) (nat_le k last_number) (batch_fits b) (le-leb x last_number is.0)
    (le-leb k last_number is.1) (batch-passes b is.2)

ranked-passes : (x r : ℕ) (v : Value) → IsViewNumber x × (r ≤ last_rank) × IsValue v → ranked_fits x r v ≡ true
ranked-passes x r v is = all-three (nat_le x last_number) (nat_le r last_rank) (value_fits v) (le-leb x last_number is.0)
    (le-leb r last_rank is.1) (value-passes v is.2)

statement-passes : (st : Statement) → IsStatement st → statement_fits st ≡ true
statement-passes (Init x l payload) is = all-three
    (nat_le x last_number) (nat_le l last_number) (nat_le (length payload) most_payload_bytes)
    (le-leb x last_number is.0) (le-leb l last_number is.1) (le-leb (length payload) most_payload_bytes is.2)
statement-passes (Echo x m payload) is = all-three (nat_le x last_number) (message_fits m) (nat_le (length payload) most_payload_bytes)
    (le-leb x last_number is.0) (message-passes m is.1) (le-leb (length payload) most_payload_bytes is.2)
statement-passes (Order x k b) is = placed-passes x k b is
statement-passes (Place x k b) is = placed-passes x k b is
statement-passes (Keep x k b) is = placed-passes x k b is
statement-passes (Notify x u) is = both-true (nat_le x last_number) (update_fits u) (le-leb x last_number is.0) (update-passes u is.1)
statement-passes (End x k) is = both-true (nat_le x last_number) (nat_le k most_places) (le-leb x last_number is.0)
    (le-leb k most_places is.1)
statement-passes (Last x r ready) is = all-three (nat_le x last_number) (nat_le r last_rank) (report_fits r ready)
    (le-leb x last_number is.0) (le-leb r last_rank is.1) (report-passes r ready is.2)
statement-passes (Suggest x r v) is = ranked-passes x r v is
statement-passes (Ack x r v) is = ranked-passes x r v is
statement-passes (Ready x r v) is = ranked-passes x r v is

pub claim-passes : (c : Claim) → IsClaim c → claim_fits c ≡ true
claim-passes c is = all-three (nat_le c.signer last_process) (statement_fits c.statement) (nat_le (length c.signature) most_signature_bytes)
    (le-leb c.signer last_process is.0) (statement-passes c.statement is.1) (le-leb (length c.signature) most_signature_bytes is.2)

-- ---- as the code has it

-- the process that an update names is one of 64
pub process-passes : (p : ℕ) → p < 64 → nat_le p last_process ≡ true
process-passes p lt = le-leb p last_process (omega (arith, lt))

-- there are 1 to 16 messages
pub batch-by : (ms : List (ℕ × ℕ)) (b : Batch) (r : Bool) → map (λ m. message m.0 m.1) ms ≡ b → 1 ≤ length ms → length ms ≤ 16
    → r ≡ list_all (λ m. message_fits (message m.0 m.1)) ms → r ≡ batch_fits b
batch-by ms b r are some few is =
    let long : length b ≡ length ms = ap length (sym are) ∙ length-map ms (λ (m : ℕ × ℕ). message m.0 m.1) in
    let least : nat_le 1 (length b) ≡ true = le-leb 1 (length b) (omega (arith, long, some)) in
    let most : nat_le (length b) most_messages ≡ true = le-leb (length b) most_messages (omega (arith, long, few)) in
    is
    ∙ sym (list_all-map message_fits (λ (m : ℕ × ℕ). message m.0 m.1) ms)
    ∙ ap (list_all message_fits) are
    ∙ sym (λ i. least i && most i && list_all message_fits b)
