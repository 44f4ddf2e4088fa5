use Rattle.std.proofs.Common.{◌≡◌, ◌++◌, List, ℕ, length, subst, ◌∙◌}
use Rattle.std.specs.Prelude.{OnOk}
use Rattle.std.specs.Int.{w64, to_be_bytes}
use Rattle.byte_defs.specs.Fields.{four_bytes}
use Rattle.node_snapshots.specs.Parts.{part_of}
use Rattle.node_snapshots.proofs.part.push_part.Goals as goal

pub returns : goal.returns
unfolding part_of
returns c = subst
    (λ (x : List ℕ). OnOk c.push_fields.result (c.push_fields.new.out.items
    ≡ c.args.out.now.items ++ (to_be_bytes w64 c.args.part.now.entries ++ (four_bytes (length x) ++ x))))
    (c.as_slice.ensures.value ∙ c.in_ok-bytes.ensures) c.push_fields.ensures
