-- A node that begins by a snapshot of some entries does what the node does that reads them.
use Rattle.std.proofs.Common.{◌≡◌, ℕ, ◌+◌, Bool, true, false, List, ◌++◌, None, sym, ap, subst, ◌∙◌}
use Rattle.std.specs.List.{flat_map}
use Rattle.std.proofs.lemmas.Grind.{flat_map-append}
use Rattle.std.proofs.lemmas.List.{append_assoc}
use Rattle.sha2.specs.Sha256.{sha256}
use Rattle.journal_defs.specs.Entries.{Entry}
use Rattle.journal_defs.specs.Journals.{record_bytes, up_to_gate}
use Rattle.node_defs.specs.Casts.{Cast, from_start}
use Rattle.node_defs.specs.Nodes.{Node, opens}
use Rattle.node_defs.specs.Snapshots.{from_snapshot, snap_line}
use Rattle.node_traces.specs.Goes.{Outside, Goes}
use Rattle.node_opening.specs.Below.{SnapSaid, snapshot_said}
use Rattle.node_script.specs.Words.{snapper}
use Rattle.resume_laws.specs.Resuming.{IsResumed, SnapAlike}
use Rattle.resume_laws.specs.Traces.{DidTheSameBy}
use Rattle.resume_laws.proofs.Resuming.{snaps_are_alike}
use Rattle.resume_laws.proofs.Traces.{resumes_trace_alike_by}
use Rattle.node_loop.specs.Resumed.{IsSnapAfter}

-- the bytes before the gate are the same
same-bytes : (c : Cast) (t : SnapSaid) (head : List ℕ) (es : List Entry) → IsSnapAfter c t head es → (n m : Node) → IsResumed c es n m
    → up_to_gate head m.kept ≡ up_to_gate c.header n.kept
same-bytes c t head es is n m r =
    let after = flat_map record_bytes m.kept in
    ap (λ (l : List ℕ). l ++ after) is.bytes ∙ append_assoc c.header (flat_map record_bytes es) after
    ∙ ap (λ (l : List ℕ). c.header ++ l) (sym (flat_map-append record_bytes es m.kept))
    ∙ ap (λ (ks : List Entry). up_to_gate c.header ks) (sym r.kept)

-- so both make the same lines of `snap`, whether the disk tells what it holds or not
same-snaps : (c : Cast) (t : SnapSaid) (head : List ℕ) (es : List Entry) (reported : Bool) → IsSnapAfter c t head es
    → SnapAlike c es (snapper c.header (from_start c) reported c) (snapper head (from_snapshot c (snapshot_said t)) reported c)
same-snaps c t head es true is = λ n m r digest.
    snaps_are_alike c (snapshot_said t) es is.view is.fits is.after n m r (sha256 (up_to_gate head m.kept))
    ∙ ap (λ (d : List ℕ). snap_line c (from_start c) n d) (ap sha256 (same-bytes c t head es is n m r))
same-snaps c t head es false is = λ n m r digest. snaps_are_alike c (snapshot_said t) es is.view is.fits is.after n m r digest

pub as-node : (c : Cast) (t : SnapSaid) (head : List ℕ) (reported : Bool) (most go : ℕ) (entries : List Entry) (x y : Outside) (last : Node)
    → Goes c (snapper head (from_snapshot c (snapshot_said t)) reported c) most (opens c (from_snapshot c (snapshot_said t)) go entries) x last y
    → (es : List Entry) (lines : ℕ) → IsSnapAfter c t head es → lines + 1 ≡ go
    → DidTheSameBy c (snapper c.header (from_start c) reported c) es most (opens c (from_start c) lines (es ++ entries)) x last y
as-node c t head reported most go entries x y last goes es lines is before =
    let s = snapshot_said t in
    let snap = snapper c.header (from_start c) reported c in
    let resumed = snapper head (from_snapshot c s) reported c in
    (resumes_trace_alike_by c s snap resumed lines es entries None (same-snaps c t head es reported is) is.view is.fits is.after).did most x y last
    (subst (λ k. Goes c resumed most (opens c (from_snapshot c s) k entries) x last y) (sym before) goes)
