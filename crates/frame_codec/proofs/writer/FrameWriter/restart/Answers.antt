use Rattle.std.proofs.Common.{◌≡◌, ◌≤◌, ◌∷◌, ◌++◌, [], List, ℕ, vec_capacity, refl, ap, ◌∙◌, arith}
use Rattle.frame_codec.proofs.Drafting.{holds-empty}
use Rattle.frame_codec.proofs.writer.FrameWriter.restart.Goals as goal

pub invariant_of-self : goal.invariant_of-self
invariant_of-self c =
    let room = c.self.inside.room in
    let e : c.put.new.bytes.items ≡ 1 ∷ c.args.kind ∷ 0
    ∷ [] = c.put.ensures.items ∙ ap (λ (t : List ℕ). t ++ 1 ∷ c.args.kind ∷ 0 ∷ []) c.clear.ensures.items in
    let before : room ≤ vec_capacity c.self.inside.bytes = c.self.invariant.reserved in
    let reserved : room ≤ vec_capacity c.put.new.bytes = omega (arith, before, c.clear.ensures.capacity, c.put.ensures.capacity) in
    (holds-empty c.args.kind room
    (vec_capacity c.put.new.bytes) c.put.new.bytes.items c.requires.kinds c.self.invariant.rooms reserved e).0

pub returns : goal.returns
returns c =
    let room = c.self.inside.room in
    let e : c.put.new.bytes.items ≡ 1 ∷ c.args.kind ∷ 0
    ∷ [] = c.put.ensures.items ∙ ap (λ (t : List ℕ). t ++ 1 ∷ c.args.kind ∷ 0 ∷ []) c.clear.ensures.items in
    let before : room ≤ vec_capacity c.self.inside.bytes = c.self.invariant.reserved in
    let reserved : room ≤ vec_capacity c.put.new.bytes = omega (arith, before, c.clear.ensures.capacity, c.put.ensures.capacity) in
    rw (
      ← c.self.view_is,
      (holds-empty c.args.kind room
          (vec_capacity c.put.new.bytes) c.put.new.bytes.items c.requires.kinds c.self.invariant.rooms reserved e).1,
    ) refl
