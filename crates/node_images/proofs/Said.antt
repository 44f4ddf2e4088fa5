-- The snapshot that is said is one for the node exactly where each of its parts is.
use Rattle.std.proofs.Common.{◌≡◌, ℕ, ◌<◌, ◌≤◌, ◌^◌, length, Option, Some, sym, ap, subst, ◌∙◌}
use Rattle.std.specs.Prelude.{All, IsTrue}
use Rattle.std.specs.Option.{option_map_or}
use Rattle.byte_defs.specs.Members.{has}
use Rattle.kit_defs.specs.Kits.{IsKit, Kit}
use Rattle.image_defs.specs.Images.{Image}
use Rattle.image_defs.specs.Kept.{IsKept}
use Rattle.journal_defs.specs.declared.Version.{Version}
use Rattle.node_defs.specs.Casts.{cast_of, hosted_by, setting_of}
use Rattle.node_defs.specs.Snapshots.{IsSnapshotFor, Snapshot}
use Rattle.pool_laws.proofs.Members.{All-mem, mem-All}
use Rattle.snapshot_lines.specs.Said.{Part, SnapSaid, no_image, part_of, snapshot_said}
use Rattle.snapshot_lines.specs.Views.{ArePartsOf}
use Rattle.node_images.specs.Judging.{IsPartFor, total_in}
use Rattle.node_images.proofs.Listed.{found-self, has-part, part-hosted}

module _ (kit : Kit) (is_kit : IsKit kit) (version : Version) (t : SnapSaid) (parts : ArePartsOf (hosted_by kit) t.parts) where
  abbrev s : Snapshot
  s = snapshot_said t

  image-of : (p : ℕ) (part : Part) → part_of t.parts p ≡ Some part → s.images p ≡ part.2
  image-of p part found = ap (λ (o : Option Part). option_map_or (λ (x : Part). x.2) o (no_image p)) found

  count-of : (p : ℕ) (part : Part) → part_of t.parts p ≡ Some part → s.entries p ≡ part.1
  count-of p part found = ap (λ (o : Option Part). option_map_or (λ (x : Part). x.1) o 0) found

  -- the part of a hosted process is one for the node
  at : All (IsPartFor kit t.place) t.parts → (p : ℕ) → IsTrue (has (hosted_by kit) p)
      → (part : Part) × (part_of t.parts p ≡ Some part) × IsPartFor kit t.place part × (part.0 ≡ p)
  at all p hosted =
      let one = has-part t.parts (hosted_by kit) p parts.numbers hosted in
      (one.0, one.1, All-mem (IsPartFor kit t.place) t.parts one.0 all one.2, one.3)

  pub snapshot-so : t.place < 2 ^ 64 → length t.digest ≡ 32 → All (IsPartFor kit t.place) t.parts → IsSnapshotFor (cast_of kit version) s
  snapshot-so place digest all = record {
    own = λ p hosted. (let one = at all p hosted in
        ap (λ (i : Image). i.me) (image-of p one.0 one.1) ∙ one.2.own ∙ one.3);
    kept = λ p hosted. (let one = at all p hosted in
        subst (λ (i : Image). IsKept (setting_of kit) i) (sym (image-of p one.0 one.1)) one.2.fit.kept);
    signed = λ p hosted. (let one = at all p hosted in
        subst (λ (i : Image). length i.signed ≤ total_in kit p) (sym (image-of p one.0 one.1))
        (subst (λ q. length one.0.2.signed ≤ total_in kit q) one.3 one.2.fit.signed));
    counted = λ p hosted. (let one = at all p hosted in
        subst (λ n. n ≤ t.place) (sym (count-of p one.0 one.1)) one.2.counted);
    place = place;
    digest = digest;
  }

  pub parts-so : IsSnapshotFor (cast_of kit version) s → All (IsPartFor kit t.place) t.parts
  parts-so is = mem-All (IsPartFor kit t.place) t.parts (λ part m.
      let hosted = part-hosted t.parts (hosted_by kit) parts.numbers part m in
      let found = found-self kit.scheme kit.keys 0 kit.hosts t.parts is_kit.hosts parts.numbers part m in record {
        own = sym (ap (λ (i : Image). i.me) (image-of part.0 part found)) ∙ is.own part.0 hosted;
        counted = subst (λ n. n ≤ t.place) (count-of part.0 part found) (is.counted part.0 hosted);
        fit = record {
          kept = subst (λ (i : Image). IsKept (setting_of kit) i) (image-of part.0 part found) (is.kept part.0 hosted);
          signed = subst (λ (i : Image). length i.signed ≤ total_in kit part.0) (image-of part.0 part found) (is.signed part.0 hosted);
        };
      })
