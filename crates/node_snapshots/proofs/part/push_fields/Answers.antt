use Rattle.std.proofs.Common.{◌≡◌, ◌++◌, List, ℕ, length, ap, append_assoc, subst, ◌∙◌}
use Rattle.std.specs.Prelude.{OnOk}
use Rattle.std.specs.Int.{w64, to_be_bytes}
use Rattle.byte_defs.specs.Fields.{four_bytes}
use Rattle.node_snapshots.proofs.part.push_fields.Goals as goal

pub returns : goal.returns
returns c =
    let image : List ℕ = four_bytes (length c.args.image.now) ++ c.args.image.now in
    subst (λ (x : List ℕ). OnOk c.push_image.result (c.push_image.new.out.items ≡ x))
    (ap (λ (x : List ℕ). x ++ image)
    (c.in_ok-extend_from_slice.ensures.items ∙ ap (λ (x : List ℕ). c.args.out.now.items ++ x) c.to_be_bytes.ensures)
    ∙ append_assoc c.args.out.now.items (to_be_bytes w64 c.args.entries) image) c.push_image.ensures
