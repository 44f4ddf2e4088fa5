use Rattle.std.proofs.Common.{◌≡◌, ◌≤◌, ◌∷◌, ◌++◌, [], List, ℕ, vec_capacity, refl, ap, ◌∙◌, arith}
use Rattle.frame_codec.proofs.Drafting.{holds-empty}
use Rattle.frame_codec.proofs.writer.FrameWriter.new.Goals as goal

pub invariant_of-result : goal.invariant_of-result
invariant_of-result c =
    let e : c.put.new.bytes.items ≡ 1 ∷ c.args.kind ∷ 0
    ∷ [] = c.put.ensures.items ∙ ap (λ (t : List ℕ). t ++ 1 ∷ c.args.kind ∷ 0 ∷ []) c.in_ok-bytes.ensures.items in
    let reserved : c.args.room ≤ vec_capacity c.put.new.bytes = omega (arith, c.in_ok-bytes.ensures.capacity, c.put.ensures.capacity) in
    (holds-empty c.args.kind c.args.room
    (vec_capacity c.put.new.bytes) c.put.new.bytes.items c.requires.kinds c.requires.rooms reserved e).0

pub returns : goal.returns
returns c =
    let e : c.put.new.bytes.items ≡ 1 ∷ c.args.kind ∷ 0
    ∷ [] = c.put.ensures.items ∙ ap (λ (t : List ℕ). t ++ 1 ∷ c.args.kind ∷ 0 ∷ []) c.in_ok-bytes.ensures.items in
    let reserved : c.args.room ≤ vec_capacity c.put.new.bytes = omega (arith, c.in_ok-bytes.ensures.capacity, c.put.ensures.capacity) in
    rw (holds-empty c.args.kind c.args.room
    (vec_capacity c.put.new.bytes) c.put.new.bytes.items c.requires.kinds c.requires.rooms reserved e).1 refl
