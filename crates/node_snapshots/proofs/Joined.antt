-- What the whole snapshot is.
use Rattle.std.proofs.Common.{◌≡◌, ℕ, List, [], ◌∷◌, ◌++◌, map, refl, sym, ap, append_assoc, ◌∙◌, drop}
use Rattle.std.specs.Prelude.{codes}
use Rattle.std.specs.Int.{w64, to_be_bytes}
use Rattle.std.specs.List.{flat_map}
use Rattle.kit_defs.specs.Kits.{Kit}
use Rattle.journal_defs.specs.declared.Version.{Version}
use Rattle.journal_defs.specs.declared.Version.TheVariants.{One, Two}
use Rattle.journal_defs.specs.Journals.{behind_magic}
use Rattle.node_defs.specs.Casts.{Cast, Beginning, cast_of, hosted_by}
use Rattle.node_defs.specs.Nodes.{Node}
use Rattle.node_defs.specs.Snapshots.{part_bytes, snapshot_bytes, snapshot_of}
use Rattle.node_snapshots.specs.declared.part.Part.{Part}
use Rattle.node_snapshots.specs.Parts.{ArePartsOf, front_of, header_of, part_as, part_in, part_of, parts_of}

behind : (kit : Kit) (version : Version) → drop 4 (cast_of kit version).header ≡ behind_magic (header_of kit)
behind kit One = refl
behind kit Two = refl

-- the parts of these processes are those of the snapshot
each-part : (b : Beginning) (n : Node) (digest : List ℕ) (ps : List ℕ)
    → parts_of (map (part_in b n) ps) ≡ flat_map (part_bytes (snapshot_of b n digest)) ps
unfolding part_of
each-part b n digest [] = refl
each-part b n digest (p ∷ ps) = ap (λ rest. part_bytes (snapshot_of b n digest) p ++ rest) (each-part b n digest ps)

pub whole : (kit : Kit) (version : Version) (b : Beginning) (n : Node) (digest : List ℕ) (place : ℕ) (parts : List Part) → n.gate ≡ place
    → ArePartsOf kit b n parts
    → front_of kit place digest ++ parts_of (map part_as parts) ≡ snapshot_bytes (cast_of kit version) (snapshot_of b n digest)
unfolding snapshot_bytes
whole kit version b n digest place parts at are =
    let all : List ℕ = parts_of (map part_as parts) in
    let head : List ℕ = behind_magic (header_of kit) in
    let there : List ℕ = to_be_bytes w64 place in
    let old : List ℕ = drop 4 (cast_of kit version).header in
    ap (λ t. codes "RPN2" ++ t) (append_assoc head (there ++ digest) all ∙ ap (λ t. head ++ t) (append_assoc there digest all))
    ∙ ap (λ h. codes "RPN2" ++ (h ++ (there ++ (digest ++ all)))) (sym (behind kit version))
    ∙ ap (λ (k : ℕ). codes "RPN2" ++ (old ++ (to_be_bytes w64 k ++ (digest ++ all)))) (sym at)
    ∙ ap (λ t. codes "RPN2" ++ (old ++ (to_be_bytes w64 n.gate ++ (digest ++ t)))) (ap parts_of are ∙ each-part b n digest (hosted_by kit))
