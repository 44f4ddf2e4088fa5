use Rattle.std.proofs.Common.{None, true≢false, sym, ◌∙◌}
use Rattle.image_defs.specs.Images.{image_of}
use Rattle.node_serving.specs.Hosts.{count_in}
use Rattle.node_snapping.proofs.Each.{one-part}
use Rattle.node_snapping.proofs.parts.push_one.Goals as goal

pub returns-in_ok-push-in-Some : goal.returns-in_ok-push-in-Some
returns-in_ok-push-in-Some c = λ k kit now are among.
    let host = (c.in-Some.ensures k kit now None are (λ e. cc)).1 in
    one-part c.args.parts.now.items _ _ (count_in c.args.counts.now c.args.p) (image_of (now c.args.p)) c.in_ok-push-in-Some.ensures.items
    c.of-entries.ensures (c.in_ok-image-in-Some.ensures k kit c.args.p (now c.args.p) host)

pub returns-in-None : goal.returns-in-None
returns-in-None c = λ k kit now are among.
    absurd (true≢false (sym among ∙ c.in-None.ensures k kit now None are (λ e. cc)))
