-- The parts of the hosted processes, one after the other.
use Rattle.std.proofs.Common.{◌≡◌, ℕ, List, [], ◌∷◌, ◌++◌, map, sym, ap, append-nil, append_assoc, ◌∙◌}
use Rattle.std.proofs.lemmas.List.{map-append}
use Rattle.kit_defs.specs.Kits.{Kit}
use Rattle.image_defs.specs.Images.{Image, image_of}
use Rattle.node_defs.specs.Casts.{Beginning, hosted_by}
use Rattle.node_defs.specs.Nodes.{Node}
use Rattle.node_snapshots.specs.Parts.{part_as, part_in}
use Rattle.node_snapshots.specs.declared.part.Part.{Part}
use Rattle.state_image.specs.States.{image}
use Rattle.node_serving.specs.Hosts.{AreCountsOf, Counts}
use Rattle.node_snapping.specs.Snapping.{part_now}

-- a part behind the others
pub one-part : (old new : List Part) (part : Part) (entries : ℕ) (img : Image) → new ≡ old ++ part ∷ [] → part.entries ≡ entries
    → image part.image ≡ img → map part_as new ≡ map part_as old ++ (entries, img) ∷ []
one-part old new part entries img put counted pictured = ap (map part_as) put ∙ map-append part_as old (part ∷ [])
    ∙ (λ i. map part_as old ++ (counted i, pictured i) ∷ [])

-- one more
pub one-put : {P : Type 0} (f : ℕ → P) (p : ℕ) (left old : List ℕ) (parts new all : List P) → old ≡ p ∷ left → parts ++ map f old ≡ all
    → new ≡ parts ++ f p ∷ [] → new ++ map f left ≡ all
one-put f p left old parts new all steps before put =
    ap (λ ps. ps ++ map f left) put
    ∙ append_assoc parts (f p ∷ []) (map f left)
    ∙ ap (λ ps. parts ++ map f ps) (sym steps) ∙ before

pub all-put : {P : Type 0} (f : ℕ → P) (left : List ℕ) (parts all : List P) → left ≡ [] → parts ++ map f left ≡ all → parts ≡ all
all-put f left parts all none before = sym (append-nil parts) ∙ ap (λ ps. parts ++ map f ps) (sym none) ∙ before

-- the counts are those of the node
pub parts-are : (b : Beginning) (kit : Kit) (n : Node) (counts : Counts) → AreCountsOf b n counts
    → map (part_now counts n.now) (hosted_by kit) ≡ map (part_in b n) (hosted_by kit)
parts-are b kit n counts are = λ i. map (λ p. (are.each p i, image_of (n.now p))) (hosted_by kit)
