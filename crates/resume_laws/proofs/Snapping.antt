-- What `snap` writes.
use Rattle.std.proofs.Common.{◌≡◌, ℕ, ◌+◌, List, [], ◌∷◌, ◌++◌, length, sym, ap, ◌∙◌, subst, None, arith}
use Rattle.std.specs.Prelude.{IsTrue}
use Rattle.byte_defs.specs.Members.{has}
use Rattle.group_defs.specs.Process.{Process}
use Rattle.journal_defs.specs.Entries.{Event, Entry}
use Rattle.journal_defs.specs.Journals.{up_to_gate}
use Rattle.image_defs.specs.Images.{image_of}
use Rattle.image_laws.proofs.Turning.{images_are_same}
use Rattle.node_defs.specs.Casts.{Cast, from_start, entry_for, entries_of, taken_up, may_have_written}
use Rattle.node_defs.specs.Nodes.{Node, Answer, run, opens}
use Rattle.node_defs.specs.Lives.{FitsBehind, FitsFrom, IsSound, IsOpened, AreHosted, SignsValidly}
use Rattle.node_defs.specs.Snapshots.{Snapshot, snap_line, from_snapshot}
use Rattle.node_laws.proofs.Soundness.{bears}
use Rattle.node_laws.proofs.Openings.{opens_sound}
use Rattle.node_laws.proofs.Fitting.{Keeps, run-keeps, start-numbered, fits-snoc, own-fits}
use Rattle.resume_laws.specs.Resuming.{IsResumed}
use Rattle.resume_laws.specs.Snapping.{SnapIsAfter, SnapsAreAfter}
use Rattle.resume_laws.proofs.Readings.{start-place}
use Rattle.resume_laws.proofs.Places.{keeps-place}
use Rattle.resume_laws.proofs.Begun.{CountsBefore, counts-before, count-same}
use Rattle.resume_laws.proofs.Resuming.{resumes_as_node}

-- the first of entries that fit do
pub fits-front : (c : Cast) (from : ℕ → Process) (before es fs : List Entry) → FitsBehind c from before (es ++ fs)
    → FitsBehind c from before es
fits-front c from before [] fs fits = tt
fits-front c from before (e ∷ es) fs fits = (fits.0, fits-front c from (before ++ e ∷ []) es fs fits.1)

module _ (c : Cast) (valid : SignsValidly c) where
  abbrev from : ℕ → Process
  from = (from_start c).from

  -- the entry that a sound node appends fits after those that it holds
  one-more : (n : Node) → IsSound c from n → (p : ℕ) (e : Event) → IsTrue (has c.hosted p) → FitsFrom c from n.kept
      → FitsFrom c from (n.kept ++ entry_for c (n.now p) e ∷ [])
  one-more n s p e hosted fits = fits-snoc c from [] n.kept (entry_for c (n.now p) e) fits
      (subst (λ q. IsTrue (has c.hosted q) × IsTrue (may_have_written c (taken_up c.setting (from q) (entries_of q n.kept))
      (entry_for c (n.now p) e))) (sym me) (hosted, own))
    where
      me : (n.now p).me ≡ p
      me = bears c (snap_line c (from_start c)) from (start-numbered c) n s p

      own : IsTrue (may_have_written c (taken_up c.setting (from p) (entries_of p n.kept)) (entry_for c (n.now p) e))
      own = subst (λ (x : Process). IsTrue (may_have_written c x (entry_for c (n.now p) e))) (s.processes p)
          (own-fits c valid (n.now p) e (subst (λ q. IsTrue (has c.hosted q)) (sym me) hosted))

  module _ (lines : ℕ) (es : List Entry) (answers : List Answer) (fits : FitsFrom c from es) where
    abbrev node : Node
    node = run c (snap_line c (from_start c)) (opens c (from_start c) lines es) answers

    kept : Keeps c from (FitsFrom c from) node
    kept =
        let o : IsOpened c (from_start c) es (opens c (from_start c) lines es) = opens_sound c (from_start c) lines es fits in
        run-keeps c (snap_line c (from_start c)) from (start-numbered c) (FitsFrom c from) one-more
        (opens c (from_start c) lines es) answers (record {
          sound = o.sound;
          fits = subst (FitsFrom c from) (sym o.kept) fits;
          hosted = subst (AreHosted c) (sym o.tasks) tt;
        })

    pub node-place : node.gate ≡ length (up_to_gate c.header node.kept)
    node-place = keeps-place c (from_start c) (snap_line c (from_start c)) lines es answers ∙ start-place c node.kept

    pub node-snaps : (digest : List ℕ) → SnapIsAfter c (from_start c) [] node digest
    node-snaps digest = record {
      fit = kept.fits;
      is_after = record {
        place = node-place;
        entries = λ p h. (let z : 0 + length (entries_of p node.kept) ≡ length (entries_of p node.kept) = omega arith in z);
        images = λ p h. ap image_of (kept.sound.processes p);
      };
    }

    -- the same of a node that is that one, but that it began by a snapshot
    pub resumed-snaps : (s : Snapshot) (front : List Entry) (m : Node) (digest : List ℕ) → CountsBefore c front (from_snapshot c s)
        → IsResumed c front node m → SnapIsAfter c (from_snapshot c s) front m digest
    resumed-snaps s front m digest counts is = record {
      fit = subst (FitsFrom c from) is.kept kept.fits;
      is_after = record {
        place = ap (λ (x : Node). x.gate) is.rest ∙ node-place ∙ ap (λ ds. length (up_to_gate c.header ds)) is.kept;
        entries = λ p h. (
            count-same c front (from_snapshot c s) counts node m.now m.kept is.processes is.kept p h
            ∙ (let z : 0 + length (entries_of p node.kept) ≡ length (entries_of p node.kept) = omega arith in z)
            ∙ ap (λ ds. length (entries_of p ds)) is.kept
            );
        images = λ p h. (
            images_are_same (node.now p) (m.now p) (is.processes p h) ∙ ap image_of (kept.sound.processes p)
            ∙ ap (λ ds. image_of (taken_up c.setting (from p) (entries_of p ds))) is.kept
            );
      };
    }

pub snaps_are_after : SnapsAreAfter
snaps_are_after c lines es fs answers digest valid fits = record {
  from_the_start = node-snaps c valid lines (es ++ fs) answers fits digest;
  from_there = λ s view is. (
      let front : FitsFrom c (from_start c).from es = fits-front c (from_start c).from [] es fs fits in
      resumed-snaps c valid lines (es ++ fs) answers fits s es _ digest (counts-before c s lines es view front is)
      (resumes_as_node c s lines es fs None answers view front is).is_resumed
      );
}
