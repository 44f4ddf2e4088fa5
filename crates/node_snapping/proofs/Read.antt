-- A part of a run in which the disk is only read.
use Rattle.std.proofs.Common.{◌≡◌, ℕ, true, false, List, [], ◌∷◌, take, Bool, Option, None, Some, refl, sym, ap, subst, ◌∙◌}
use Rattle.std.specs.Prelude.{IfSome, IsSome, IsTrue}
use Rattle.std.proofs.lemmas.List.{take_at}
use Rattle.sha2.specs.Sha256.{sha256}
use Rattle.journal_defs.specs.Entries.{Entry}
use Rattle.journal_defs.specs.Journals.{closed_gate, up_to_gate}
use Rattle.journal_defs.specs.Crashes.{Survives}
use Rattle.journal_disk.specs.Disks.{HasLength, HasRest, LeavesOnly, OnlyReads}
use Rattle.journal_disk.proofs.Moments.{weaker}
use Rattle.journal_rp.specs.Stages.{gate_of, len_of}
use Rattle.journal_rp.specs.declared.journal.Journal.{Journal}
use Rattle.journal_rp.specs.declared.journal.Writing.{Writing}
use Rattle.node_defs.specs.Casts.{Cast, Beginning}
use Rattle.node_defs.specs.Lines.{Stop}
use Rattle.node_defs.specs.Nodes.{Node, Answer, Snapper}
use Rattle.node_defs.specs.Snapshots.{snap_line}
use Rattle.node_traces.specs.Goes.{Outside, Goes}
use Rattle.node_traces.specs.Stops.{Outset, LeftFrom}
use Rattle.node_traces.specs.Went.{Went}
use Rattle.node_serving.specs.Hosts.{IsJournalOf}
use Rattle.node_serving.specs.Taking.{StopsSo}
use Rattle.node_serving.proofs.Handed.{Ends, Rests, at-rest, if-reported, left-at-first, rest-stands, reported}
use Rattle.node_snapping.specs.Snapping.{journal_digest, snapper}

-- ---- the digest

-- the digest is that of the journal, where the disk tells
digest-is : (seen : Option (List ℕ)) (may_leave : List ℕ → Type 0) (head : List ℕ) (n : Node) (digest : List ℕ) → IsSome seen
    → Rests seen may_leave head n → IfSome seen (λ file. digest ≡ sha256 (take n.gate file)) → digest ≡ journal_digest head n
digest-is None may_leave head n digest some rests is = absurd cc
digest-is (Some file) may_leave head n digest some rests is =
    let reported : Some file ≡ Some rests.file = rests.reported in
    let same : file ≡ rests.file = cc in
    is ∙ ap sha256 (ap (take n.gate) (same ∙ rests.rest.parts)
    ∙ take_at (up_to_gate head n.kept) (closed_gate ∷ rests.rest.behind) n.gate (sym rests.place))

-- so the line is that of the node
pub line-is : (seen : Option (List ℕ)) (may_leave : List ℕ → Type 0) (head : List ℕ) (b : Beginning) (c : Cast) (n : Node)
    (digest line : List ℕ) (tells : Bool) → (IsTrue tells → IsSome seen) → Rests seen may_leave head n → IfSome seen (λ file. digest ≡ sha256 (take n.gate file))
    → line ≡ snap_line c b n digest → line ≡ snapper head b tells c n digest
line-is seen may_leave head b c n digest line true some rests is made =
    made ∙ ap (λ (d : List ℕ). snap_line c b n d) (digest-is seen may_leave head n digest (some refl) rests is)
line-is seen may_leave head b c n digest line false some rests is made = made

-- ---- the journal

module _ {D : Type 0} (seen : D → Option (List ℕ)) (may_leave : D → List ℕ → Type 0) (moment : D → ℕ)
    (left_since : D → ℕ → List ℕ → Type 0) (old new : D) (reads : OnlyReads seen may_leave moment left_since old new) where
  -- it is at rest as before
  rests-as-before : (head : List ℕ) (es : List Entry) (gate : ℕ) → HasRest (seen old) (may_leave old) head es gate
      → HasRest (seen new) (may_leave new) head es gate
  rests-as-before head es gate is = record {
    file = is.file;
    reported = reads.reads ∙ is.reported;
    rest = is.rest;
    place = is.place;
    only = λ image left. is.only image ((reads.images image).0 left);
    each = is.each;
  }

  pub rests-on : (head : List ℕ) (n : Node) → Rests (seen old) (may_leave old) head n → Rests (seen new) (may_leave new) head n
  rests-on head n rests = if-reported (seen new) (λ some. rests-as-before head n.kept n.gate
      (reported (seen old) rests (subst (λ (o : Option (List ℕ)). IsSome o) reads.reads some)))

  -- and the node's still
  pub journal-on : (head : List ℕ) (n m : Node) (j k : Journal Writing) → k ≡ j → m.gate ≡ n.gate → m.kept ≡ n.kept
      → IsJournalOf head n j (seen old) (may_leave old) → HasLength (seen new) (len_of k) → IsJournalOf head m k (seen new) (may_leave new)
  journal-on head n m j k same gate kept is long = record {
    gate = gate ∙ is.gate ∙ sym (ap (λ (i : Journal Writing). gate_of i) same);
    length = long;
    rest = subst (λ (g : ℕ). IfSome (seen new) (λ file. HasRest (seen new) (may_leave new) head m.kept g)) (sym gate)
        (subst (λ (es : List Entry). IfSome (seen new) (λ file. HasRest (seen new) (may_leave new) head es n.gate)) (sym kept)
        (rests-on head n is.rest));
  }

  -- ---- the run

  module _ (c : Cast) (snap : Snapper) (most : ℕ) (f : Outset) (n : Node) (opened : n.opening ≡ []) (rests : Rests (seen old) (may_leave old) f.head n) where
    leaves-as-before : (answers : List Answer) → IsSome (seen old) → LeavesOnly moment left_since old new (LeftFrom c snap f n answers [])
    leaves-as-before answers some = weaker moment left_since old new (may_leave old) (LeftFrom c snap f n answers [])
        (λ image left. left-at-first c snap f n answers image opened
        (at-rest (seen old) (may_leave old) f.head n.kept n.gate (reported (seen old) rests some) image left)) reads.moments

    pub went-reading : (m : Node) (x y : Outside) → Goes c snap most n x m y → Went seen moment left_since c snap most f n x old m y new
    went-reading m x y goes = record {
      goes = goes;
      tells = λ some. subst (λ (o : Option (List ℕ)). IsSome o) (sym reads.reads) some;
      leaves = leaves-as-before goes.answers;
    }

    pub stops-reading : (x y : Outside) (why : Stop) → Ends c snap most n x why y n.kept
        → StopsSo seen may_leave moment left_since c snap most f n x old why y new
    stops-reading x y why ends = record {
      stop = record { last = ends.last; stops = ends.stops; goes = ends.goes; leaves = leaves-as-before ends.goes.answers };
      stands = if-reported (seen old) (λ some. subst (λ (es : List Entry). Survives f.head es (may_leave new)) (sym ends.keeps)
          (rest-stands (seen new) (may_leave new) f.head n.kept n.gate
          (rests-as-before f.head n.kept n.gate (reported (seen old) rests some))));
    }
