-- A chain of views: a proof is a frame that shows the view after one view, by a quorum's Readies.
-- Only these claims count: valid Readies of the view by its members, and of a member's Readies of one rank the first. The least rank at
-- which a quorum says one value whose update is possible gives that update.
-- Names here (* for this crate alone):
--   the claims of a proof: proof_of, proof_by, proof_said
--   what they show: is_ready, counts, counted, shown, most_agreeing, shows, advance, views_shown
use Rattle.std.specs.Prelude.{ℕ, ◌+◌, Bool, true, false, ◌&&◌, ◌==◌, max, List, [], ◌∷◌, length, filter, fold, Option, Some, None, Result, Ok, Err}
use Rattle.std.specs.List.{range_with_len}
use Rattle.byte_defs.specs.Choices.{first_some}
use Rattle.byte_defs.specs.Fields.{◌>>=◌}
use Rattle.message_defs.specs.Limits.{last_rank}
use Rattle.message_defs.specs.declared.FrameFault.{FrameFault}
use Rattle.message_defs.specs.Updates.{Value}
use Rattle.message_defs.specs.Statements.{Statement, Ready, Claim, view_of}
use Rattle.message_defs.specs.Frames.{FrameView, Bundle, Proof, Want, frame_of}
use Rattle.message_defs.specs.Claims.{claims_of}
use Rattle.group_defs.specs.Views.{View, is_member, next_view}
use Rattle.group_defs.specs.Process.{Setting, Pool}
use Rattle.group_defs.specs.Hearing.{is_valid}
use Rattle.group_defs.specs.Certified.{backers}
use Rattle.group_defs.specs.Settle.{decided_at}
use Rattle.chain_defs.specs.declared.ChainFault.{ChainFault}
use Rattle.chain_defs.specs.declared.ChainFault.TheVariants as faults

-- ---- the claims of a proof

-- what a frame says as a proof, where its claims were read so
abbrev pub proof_of : FrameView → Result (List Claim) FrameFault → Result (List Claim) ChainFault
proof_of f (Err fault) = Err (faults.Frame fault)
proof_of (Proof gs) (Ok cs) = Ok cs
proof_of (Bundle gs) (Ok cs) = Err faults.NotProof
proof_of (Want x k) (Ok cs) = Err faults.NotProof

-- what bytes say as a proof, where their frame was read so
abbrev pub proof_by : Result FrameView FrameFault → Result (List Claim) ChainFault
proof_by (Err fault) = Err (faults.Frame fault)
proof_by (Ok f) = proof_of f (claims_of f)

-- the claims of the Proof that the bytes spell; first the faults of a frame, then that it is no Proof
unfoldable pub proof_said : List ℕ → Result (List Claim) ChainFault
proof_said bytes = proof_by (frame_of bytes)

-- ---- what they show

-- it is a Ready
abbrev pub is_ready : Statement → Bool
is_ready (Ready x r v) = true
is_ready _ = false

-- a valid Ready of the view by one of its members
abbrev pub counts : Setting → View → Claim → Bool
counts s v c = is_ready c.statement && (view_of c.statement == v.number) && is_member v c.signer && is_valid s c

-- the claims that count, as if they had been heard in the view
abbrev pub counted : Setting → View → List Claim → Pool
counted s v cs = record { view = v; heard = filter (counts s v) cs }

-- the least rank, and its value, that a quorum says and whose update is possible
abbrev pub shown : Setting → View → List Claim → Option (ℕ × Value)
shown s v cs = first_some (decided_at s (counted s v cs)) (range_with_len 0 (last_rank + 1))

-- how many members say one Ready at most
abbrev pub most_agreeing : Pool → ℕ
most_agreeing h = fold (λ most c. max most (length (backers h c.statement))) 0 h.heard

-- the view that these claims show after a view
abbrev pub shows : Setting → View → List Claim → Result View ChainFault
shows s v cs = elim (shown s v cs) [ None ↦ Err (faults.Few (most_agreeing (counted s v cs))) | Some d ↦ Ok (next_view v d.1.update) ]

-- the view that a proof shows after a view, or why it shows none
unfoldable pub advance : Setting → View → List ℕ → Result View ChainFault
advance s v bytes = proof_said bytes >>= shows s v

-- the views that proofs show one after the other, up to the first that shows none
unfoldable pub views_shown : Setting → View → List (List ℕ) → List View
views_shown s v [] = []
views_shown s v (bytes ∷ more) = elim (advance s v bytes) [ Err fault ↦ [] | Ok w ↦ w ∷ views_shown s w more ]
