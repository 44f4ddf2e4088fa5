use Rattle.std.proofs.Common.{ℕ, [], ◌++◌, replicate, ap, ◌∙◌}
use Rattle.picture_defs.specs.Drawing.{sent_in}
use Rattle.story_picture.proofs.Numbered.{row_more}
use Rattle.story_picture.proofs.arrows.sent_rows.Goals as goal

pub loop-k-preserved : goal.loop-k-preserved
loop-k-preserved c =
    row_more (λ k e what. sent_in k what) c.args.rows.now c.loop-k.k c.index-rows-k.result [] c.loop-k.sent.items c.push_sent.new.rows.items
    c.loop-k-test.true c.index-rows-k.is c.loop-k.invariant
    (c.in_ok-push_sent.ensures ∙ ap (λ (n : ℕ). c.loop-k.sent.items ++ replicate n c.loop-k.k) c.frames_in.ensures)
