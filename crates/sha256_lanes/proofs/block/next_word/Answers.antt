use Rattle.std.proofs.Common.{◌≡◌, ℕ, ◌+◌, ◌*◌, ◌%◌, slice_index, List, arith, refl}
use Rattle.std.proofs.lemmas.List.{map-set}
use Rattle.sha256_lanes.proofs.InLane.{word_in}
use Rattle.sha256_lanes.proofs.block.next_word.Goals as goal

pub returns-clause-value : goal.returns-clause-value
returns-clause-value c j h =
    let w = c.args.w.now in
    let p = 8 * c.args.half + c.args.i in
    let at : p % 16 ≡ p = omega arith in
    let back2 : c.place.result ≡ (p + 14) % 16 = omega (arith, c.place.ensures) in
    let back7 : c.place-2.result ≡ (p + 9) % 16 = omega (arith, c.place-2.ensures) in
    let back15 : c.place-3.result ≡ (p + 1) % 16 = omega (arith, c.place-3.ensures) in
    rw (
      at,
      word_in w ((p + 14) % 16) j,
      word_in w ((p + 9) % 16) j,
      word_in w ((p + 1) % 16) j,
      word_in w p j,
      c.add-word.ensures j h,
      c.add.ensures j h,
      c.add-near.ensures j h,
      c.small_sigma1.ensures j h,
      c.small_sigma0.ensures j h,
      back2,
      back7,
      back15,
    ) refl

pub returns-clause-window : goal.returns-clause-window
returns-clause-window c j = map-set (λ (v : List ℕ). slice_index v j) c.args.w.now (8 * c.args.half + c.args.i) c.add-word.result
