-- What is written of claims that are heard one after the other.
use Rattle.std.specs.Prelude.{ℕ, Bool, true, false, List, [], ◌++◌, length, codes, Option, Some, None}
use Rattle.std.specs.List.{flat_map}
use Rattle.std.specs.Fmt.{decimal}
use Rattle.byte_defs.specs.Orders.{sorted}
use Rattle.message_defs.specs.Statements.{Statement, Echo, Place, Keep, Notify, Ack, Ready, Claim, slot_of, same_statement}
use Rattle.group_defs.specs.Process.{Pool, Process}
use Rattle.group_defs.specs.Certified.{backers, certified_on, fixed_length, is_notified, placed, removed_rank}
use Rattle.group_defs.specs.Hearing.{Verdict, Old, Early, Stranger, OutOfWindow, Known, Unsigned, Conflict, Heard, hear_all}
use Rattle.claim_index.specs.Kept.{by_number}
use Rattle.interop_pool.specs.Hearers.{setting, verdicts}

abbrev pub verdict_word : Verdict → List ℕ
verdict_word Old = codes " old"
verdict_word Early = codes " early"
verdict_word Stranger = codes " stranger"
verdict_word OutOfWindow = codes " outofwindow"
verdict_word Known = codes " known"
verdict_word Unsigned = codes " unsigned"
verdict_word Conflict = codes " conflict"
verdict_word Heard = codes " heard"

-- ---- what is heard of a slot

abbrev pub signer_word : ℕ → List ℕ
signer_word signer = codes " " ++ decimal signer

-- the certificate says this statement, or another one
abbrev pub same_word : Bool → List ℕ
same_word true = codes " same"
same_word false = codes " other"

-- what is certified beside the statement: whether it is this one, and who says it, by rising number
abbrev pub certificate_words : Pool → Statement → Option Statement → List ℕ
certificate_words h st None = codes " none"
certificate_words h st (Some found) = same_word (same_statement found st) ++ flat_map signer_word (sorted by_number (backers h found))

-- more than f members notify the update, or not
abbrev pub notified_word : Bool → List ℕ
notified_word true = codes " notified"
notified_word false = codes " few"

-- the certificate of the statement's slot, where certificates are made of its kind, and whether a Notify's update is notified
abbrev pub slot_words : Pool → Statement → List ℕ
slot_words h (Echo x m payload) = certificate_words h (Echo x m payload) (certified_on h (slot_of (Echo x m payload)))
slot_words h (Place x k b) = certificate_words h (Place x k b) (certified_on h (slot_of (Place x k b)))
slot_words h (Keep x k b) = certificate_words h (Keep x k b) (certified_on h (slot_of (Keep x k b)))
slot_words h (Ack x r v) = certificate_words h (Ack x r v) (certified_on h (slot_of (Ack x r v)))
slot_words h (Ready x r v) = certificate_words h (Ready x r v) (certified_on h (slot_of (Ready x r v)))
slot_words h (Notify x u) = notified_word (is_notified h u)
slot_words h _ = []

-- how many members say the statement, and what is heard of its slot
abbrev pub claim_words : Pool → Claim → List ℕ
claim_words h c = codes " count " ++ (decimal (length (backers h c.statement)) ++ slot_words h c.statement)

-- ---- what is heard of the view

-- the placed length, the fixed length, and the greatest rank below which each member is to be removed
abbrev pub total_words : Pool → List ℕ
total_words h = codes " placed " ++ (decimal (length (placed h))
    ++ (codes " fixed " ++ (decimal (fixed_length h) ++ (codes " removed " ++ decimal (removed_rank h)))))

-- `pool`, the verdict on each claim, what is heard then of the view, and of each claim
abbrev pub heard_words : Process → List Claim → List ℕ
heard_words p cs = codes "pool" ++ (flat_map verdict_word (verdicts setting p cs)
    ++ (total_words (hear_all setting p cs).pool ++ flat_map (claim_words (hear_all setting p cs).pool) cs))
