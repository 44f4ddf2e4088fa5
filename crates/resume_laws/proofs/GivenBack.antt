-- The line of a node's snapshot gives the node back.
use Rattle.std.proofs.Common.{◌≡◌, ℕ, List, refl, sym, ap, subst, Option}
use Rattle.std.specs.Option.{option_map_or}
use Rattle.group_defs.specs.Views.{IsView}
use Rattle.group_defs.specs.Process.{Process}
use Rattle.journal_defs.specs.Entries.{Entry}
use Rattle.image_defs.specs.Images.{image_of, process_of}
use Rattle.image_laws.specs.Alike.{IsAlike}
use Rattle.image_laws.proofs.Turning.{restored_is_alike}
use Rattle.node_defs.specs.Casts.{Cast, from_start, entries_of, taken_up, turns_from}
use Rattle.node_defs.specs.Snapshots.{Snapshot, snapshot_of, snap_line}
use Rattle.resume_laws.specs.Said.{Part, no_image, said_of, LineIsRead, SnapsGiveBack}
use Rattle.resume_laws.proofs.Said.{part-is, snaps_are_read}

-- an image of such a process gives back one that is alike
restored : (c : Cast) (p : ℕ) (x : Process) (es : List Entry) → IsView c.setting.genesis
    → x ≡ taken_up c.setting ((from_start c).from p) (entries_of p es) → IsAlike x (process_of c.setting c.batch_limit (image_of x))
restored c p x es view is =
    subst (λ (y : Process). IsAlike y (process_of c.setting c.batch_limit (image_of y))) (sym is)
    (restored_is_alike c.setting p c.batch_limit (turns_from c.setting ((from_start c).from p) (entries_of p es)) view)

pub snaps_give_back : SnapsGiveBack
unfolding snap_line
snaps_give_back c b n digest es view are spelled = record {
  line = read.line;
  said = said_of c s;
  text = read.text;
  says = read.says;
  header = refl;
  processes = λ p h. subst (IsAlike (n.now p))
      (sym (ap (λ (o : Option Part). process_of c.setting c.batch_limit (option_map_or (λ x. x.2) o (no_image p))) (part-is s c.hosted p h)))
      (restored c p (n.now p) es view (are p h));
  before = λ p h. ap (λ (o : Option Part). option_map_or (λ x. x.1) o 0) (part-is s c.hosted p h);
  place = refl;
}
  where
    s : Snapshot
    s = snapshot_of b n digest

    read : LineIsRead c s
    read = snaps_are_read c s spelled
