-- The image of a process: its data without group, roster, secret and batch limit. The views are not among them, since they follow from the
-- genesis and the values by which they were left.
-- Names here (* for this crate alone):
--   LeftView, Image
--   conflicts: conflict_key, by_signer, in_order
--   the image of a process: ready_said*, reported_by, left_by, image_of
--   the process of an image: first_list, other_lists, lefts_from, view_behind, previous_from, process_of
--   the law: ProcessIsRestored
use Rattle.std.specs.Prelude.{◌≡◌, ℕ, Bool, List, [], ◌∷◌, length, map, Option, Some, None, slice_index_or}
use Rattle.std.specs.Option.{option_map_or, unwrap_or}
use Rattle.byte_defs.specs.Orders.{sorted}
use Rattle.group_defs.specs.Below.{Update, Renew, Value, Statement, Ready, Claim}
use Rattle.group_defs.specs.Views.{View, IsView, next_view}
use Rattle.group_defs.specs.Process.{Setting, Pool, Delivered, Left, Process, start, deliveries_of}
use Rattle.group_defs.specs.Events.{Turn, run}

-- how a view was left: the rank and the value that decided it, and its commit certificate
pub record LeftView : Type 0 where
  pub rank : ℕ
  pub value : Value
  pub commit : List Claim

pub record Image : Type 0 where
  pub me : ℕ
  pub left : List LeftView
  pub perceived : List (ℕ × Update)
  pub accepted : List (List ℕ)
  pub signed : List Claim
  -- what was heard in the view that was left last
  pub previous : List Claim
  pub heard : List Claim
  -- by rising signer
  pub conflicts : List (Claim × Claim)
  -- of each view that was installed
  pub delivered : List (List Delivered)
  pub decision : Option (ℕ × Value)
  pub halted : Bool

-- ---- conflicts

-- a pair of claims that conflict goes by its signer
abbrev pub conflict_key : Claim × Claim → List ℕ
conflict_key e = e.0.signer ∷ []

-- the pairs by rising signer
abbrev pub by_signer : List (Claim × Claim) → List (Claim × Claim)
by_signer pairs = sorted conflict_key pairs

-- The process with its conflicts by rising signer. A process keeps them in the order in which it found them.
abbrev pub in_order : Process → Process
in_order p = record p { conflicts = by_signer p.conflicts }

-- ---- the image of a process

-- the rank and the value of a Ready
abbrev pub ready_said : Statement → Option (ℕ × Value)
ready_said (Ready x r v) = Some (r, v)
ready_said _ = None

-- what a commit certificate says; it has at least one claim
abbrev pub reported_by : List Claim → ℕ × Value
reported_by [] = (0, record { update = Renew; cut = 0 })
reported_by (c ∷ cs) = unwrap_or (ready_said c.statement) (0, record { update = Renew; cut = 0 })

abbrev pub left_by : List Claim → LeftView
left_by commit = record { rank = (reported_by commit).0; value = (reported_by commit).1; commit = commit }

abbrev pub image_of : Process → Image
image_of p = record {
  me = p.me;
  left = map (λ l. left_by l.commit) p.left;
  perceived = p.perceived;
  accepted = p.accepted;
  signed = p.signed;
  previous = option_map_or (λ h. h.heard) p.previous [];
  heard = p.pool.heard;
  conflicts = by_signer p.conflicts;
  delivered = deliveries_of p;
  decision = p.decision;
  halted = p.halted;
}

-- ---- the process of an image

-- the first of them, and the others
abbrev pub first_list : {A : Type 0} → List (List A) → List A
first_list [] = []
first_list (xs ∷ more) = xs

abbrev pub other_lists : {A : Type 0} → List (List A) → List (List A)
other_lists [] = []
other_lists (xs ∷ more) = more

-- the views that were left, from this one on
abbrev pub lefts_from : View → List LeftView → List (List Delivered) → List Left
lefts_from v [] ds = []
lefts_from v (l ∷ ls) ds = record { view = v; delivered = first_list ds; commit = l.commit }
    ∷ lefts_from (next_view v l.value.update) ls (other_lists ds)

-- the view after them
abbrev pub view_behind : View → List LeftView → View
view_behind v [] = v
view_behind v (l ∷ ls) = view_behind (next_view v l.value.update) ls

-- the pool of the one that was left last
abbrev pub previous_from : View → List Claim → List LeftView → Option Pool
previous_from v heard [] = None
previous_from v heard (l ∷ []) = Some (record { view = v; heard = heard })
previous_from v heard (l ∷ m ∷ ls) = previous_from (next_view v l.value.update) heard (m ∷ ls)

-- the process that the image is of, in this setting and with this batch limit
abbrev pub process_of : Setting → ℕ → Image → Process
process_of s batch_limit i = record {
  me = i.me;
  batch_limit = batch_limit;
  left = lefts_from s.genesis i.left i.delivered;
  previous = previous_from s.genesis i.previous i.left;
  pool = record { view = view_behind s.genesis i.left; heard = i.heard };
  delivered = slice_index_or i.delivered (length i.left) [];
  decision = i.decision;
  halted = i.halted;
  signed = i.signed;
  conflicts = i.conflicts;
  perceived = i.perceived;
  accepted = i.accepted;
}

-- ---- the law

-- The image of a process that started in a genesis view gives it back with its conflicts by rising signer, and in everything else as it is.
abbrev pub ProcessIsRestored : Type 0
ProcessIsRestored = (s : Setting) (me batch_limit : ℕ) (turns : List Turn) → IsView s.genesis
    → process_of s batch_limit (image_of (run s (start s me batch_limit) turns)) ≡ in_order (run s (start s me batch_limit) turns)
