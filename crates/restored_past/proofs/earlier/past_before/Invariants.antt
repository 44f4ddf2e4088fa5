use Rattle.std.proofs.Common.{◌≡◌, ◌++◌, [], length, map, drop, take}
use Rattle.group_defs.specs.Process.{Setting}
use Rattle.image_defs.specs.Images.{view_behind}
use Rattle.image_defs.specs.Kept.{AreLeft}
use Rattle.reliable_mcast.specs.Certificates.{all_signed}
use Rattle.snapshot_rp.specs.Views.{left_view}
use Rattle.restored_past.proofs.earlier.past_before.Given as goal

abbrev pub invariant-loop-one : goal.invariant-loop-one
invariant-loop-one l = record {
  empty : l.pool.pool.heard ≡ [];
  order : l.pool.pool.view.number ≡ length l.archive.commits;
  behind : view_behind l.pool.pool.view (map left_view (drop l.one-index l.left)) ≡ view_behind l.fn.genesis (map left_view l.left);
  left : (s : Setting) → AreLeft s l.fn.genesis (map left_view l.left) → AreLeft s l.pool.pool.view (map left_view (drop l.one-index l.left));
  commits : (s : Setting) → AreLeft s l.fn.genesis (map left_view l.left)
      → l.archive.commits ++ map (λ l. all_signed l.commit) (map left_view (drop l.one-index l.left))
      ≡ map (λ l. all_signed l.commit) (map left_view l.left);
}
