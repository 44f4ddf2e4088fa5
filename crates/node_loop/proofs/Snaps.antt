-- The line of a snapshot, taken and judged.
use Rattle.std.proofs.Common.{◌≡◌, ◌⊎◌, inl, inr, ℕ, ◌+◌, List, Option, None, Some, refl, sym, ap, subst, ◌∙◌}
use Rattle.std.specs.Prelude.{◌↔◌, is_some, IfSome, IsTrue}
use Rattle.kit_defs.specs.Kits.{Kit}
use Rattle.journal_defs.specs.declared.Version.{Version}
use Rattle.node_defs.specs.Casts.{cast_of, hosted_by}
use Rattle.node_defs.specs.Lines.{Stop, Ended, NoMemory, ReadFailed, BadLine, BadSnap}
use Rattle.node_defs.specs.Snapshots.{IsSnapshotFor}
use Rattle.node_traces.specs.Outside.{SourceSeen, SourceTook}
use Rattle.node_opening.specs.Below.{ArePartsOf, SnapSaid, snap_said, snapshot_said, IsSaidFor, IsSnapOf, Snap}
use Rattle.node_script.specs.Below.{TakesNone}
use Rattle.node_opening.specs.Begins.{IsSnapFor}
use Rattle.node_script.specs.Sources.{IsSeen}
use Rattle.node_script.specs.Words.{StopsByDisk}
use Rattle.node_loop.specs.Resumed.{IsNoSnap, IsSnap, as_snap, lacks_memory, most_snap_bytes, no_line, not_read, says_other, too_long}

-- what the line says is for the node
pub snap-for : (kit : Kit) (line : List ℕ) (t : SnapSaid) (snap : Snap) → snap_said (hosted_by kit) line ≡ Some t
    → ArePartsOf (hosted_by kit) t.parts → IsSnapOf kit t snap → ((version : Version) → IsSaidFor (cast_of kit version) line)
    → IsSnapFor kit t snap
snap-for kit line t snap says parts is for = record {
  parts = parts;
  is = is;
  is_for = λ version.
      let said = for version in
      let both : Some said.said ≡ Some t = sym said.says ∙ says in
      let same : said.said ≡ t = cc in
      subst (λ (u : SnapSaid). IsSnapshotFor (cast_of kit version) (snapshot_said u)) same said.is_for;
}

-- a line that was judged, and there is a snapshot
pub snap-judged : (kit : Kit) (line : List ℕ) (o : Option Snap) (snap : Snap) → o ≡ Some snap
    → ((version : Version) → IsTrue (is_some o) ↔ IsSaidFor (cast_of kit version) line)
    → IfSome o (λ s. (t : SnapSaid) × (snap_said (hosted_by kit) line ≡ Some t) × ArePartsOf (hosted_by kit) t.parts × IsSnapOf kit t s)
    → (t : SnapSaid) × (snap_said (hosted_by kit) line ≡ Some t) × IsSnapFor kit t snap
snap-judged kit line o snap is exact told =
    let said = subst (λ (x : Option Snap). IfSome x (λ s. (t : SnapSaid) × (snap_said (hosted_by kit) line ≡ Some t)
    × ArePartsOf (hosted_by kit) t.parts × IsSnapOf kit t s)) is told in (
      said.0,
      said.1,
      snap-for kit line said.0 snap said.1 said.2 said.3
          (λ version. (subst (λ (x : Option Snap). IsTrue (is_some x) ↔ IsSaidFor (cast_of kit version) line) is (exact version)).0 refl),
    )

-- or there is none
pub none-judged : (kit : Kit) (line : List ℕ) (o : Option Snap) → o ≡ None
    → ((version : Version) → IsTrue (is_some o) ↔ IsSaidFor (cast_of kit version) line) → (version : Version) → ¬ IsSaidFor (cast_of kit version) line
none-judged kit line o is exact version said =
    let some = (subst (λ (x : Option Snap). IsTrue (is_some x) ↔ IsSaidFor (cast_of kit version) line) is (exact version)).1 said in absurd cc

-- of a line that was taken
pub line-says : (kit : Kit) (k l : SourceSeen) (line lent : List ℕ) (t : SnapSaid) (snap : Snap) → lent ≡ line
    → SourceTook most_snap_bytes k l line → snap_said (hosted_by kit) lent ≡ Some t → IsSnapFor kit t snap → IsSnap kit t k l
line-says kit k l line lent t snap same took says is = record {
  line = lent;
  took = subst (λ (b : List ℕ). SourceTook most_snap_bytes k l b) (sym same) took;
  says = says;
  is_for = is.is_for;
}

-- the line says another thing, or memory ran out
pub judged-none : (kit : Kit) (go number : ℕ) (k l : SourceSeen) (line lent : List ℕ) (why : Stop) → number ≡ go + 1 → lent ≡ line
    → SourceTook most_snap_bytes k l line
    → (why ≡ NoMemory) ⊎ ((why ≡ BadSnap number) × ((version : Version) → ¬ IsSaidFor (cast_of kit version) lent)) → IsNoSnap kit go k l why
judged-none kit go number k l line lent why is same took (inl none) = subst (IsNoSnap kit go k l) (sym none) (lacks_memory took.steady)
judged-none kit go number k l line lent why is same took (inr bad) =
    subst (IsNoSnap kit go k l) (sym (bad.0 ∙ ap (λ (n : ℕ). BadSnap n) is))
    (says_other line took (λ version said. bad.1 version (subst (λ (b : List ℕ). IsSaidFor (cast_of kit version) b) (sym same) said)))

-- no line was taken
pub none-taken : (kit : Kit) (go number : ℕ) (k l : SourceSeen) (why : Stop) → number ≡ go + 1 → TakesNone most_snap_bytes number k l why
    → IsNoSnap kit go k l (as_snap number why)
none-taken kit go number k l Ended is none = subst (λ (n : ℕ). IsNoSnap kit go k l (BadSnap n)) (sym is) (no_line none)
none-taken kit go number k l (BadLine n) is none = subst (λ (n : ℕ). IsNoSnap kit go k l (BadSnap n)) (sym is) (too_long none.1)
none-taken kit go number k l NoMemory is none = lacks_memory (subst (λ (m : SourceSeen). m.faults ≡ k.faults) none refl)
none-taken kit go number k l ReadFailed is none = not_read none
none-taken kit go number k l _ is none = absurd none

-- ---- what is known of an input of which nothing is known

abbrev pub untold : ℕ → SourceSeen
untold faults = record { left = None; faults = faults }

pub untold-is : (ahead : List ℕ) (left : Option (List ℕ)) (faults : ℕ) → IsSeen (untold faults) ahead left faults
untold-is ahead left faults = record { bytes = tt; count = refl }

-- without a snapshot no call of the disk is made
pub no-disk-by-snap : (kit : Kit) (go : ℕ) (k l : SourceSeen) (count : ℕ) (why : Stop) → IsNoSnap kit go k l why → StopsByDisk count count why
no-disk-by-snap kit go k l count _ (lacks_memory steady) = refl
no-disk-by-snap kit go k l count _ (not_read failed) = refl
no-disk-by-snap kit go k l count _ (no_line end) = refl
no-disk-by-snap kit go k l count _ (too_long broke) = refl
no-disk-by-snap kit go k l count _ (says_other line took not) = refl
