-- What a node that begins by a snapshot has of its hosted processes.
use Rattle.std.specs.Prelude.{◌≡◌, ◌≤◌, ℕ, None}
use Rattle.kit_defs.specs.Kits.{Kit}
use Rattle.journal_defs.specs.declared.Version.{Version}
use Rattle.node_defs.specs.Casts.{Beginning, cast_of, setting_of}
use Rattle.node_defs.specs.Snapshots.{from_snapshot}
use Rattle.letter_laws.specs.Letters.{IsKeyed}
use Rattle.node_service.specs.Hosts.{count_in, AreHosts}
use Rattle.node_images.specs.Said.{SnapSaid, snapshot_said}
use Rattle.restored_hosts.specs.declared.hosts.Begun.{Begun}

-- where the kit's node begins by the snapshot that is said, with a journal of this version
abbrev pub beginning : Kit → Version → SnapSaid → Beginning
beginning kit version t = from_snapshot (cast_of kit version) (snapshot_said t)

-- Each hosted process is as its image says, and had as many entries as the snapshot says; a process that isn't hosted had none. Each has its
-- own number, and no more entries than the place, and the roster has keys of the members of its view.
pub record HasBegun (kit : Kit) (version : Version) (t : SnapSaid) (b : Begun) : Type 0 where
  pub hosts : AreHosts (cast_of kit version) kit (beginning kit version t).from None b.hosts
  pub counts : (p : ℕ) → count_in b.counts p ≡ (beginning kit version t).before p
  pub keyed : (p : ℕ) → IsKeyed (setting_of kit) p ((beginning kit version t).from p)
  pub few : (p : ℕ) → (beginning kit version t).before p ≤ (beginning kit version t).place
