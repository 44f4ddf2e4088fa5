use Rattle.std.proofs.Common.{◌∙◌, insert}
use Rattle.stmt_codec.specs.Views.{claim}
use Rattle.state_image.specs.Pairs.{first_above}
use Rattle.state_image.proofs.Putting.{put-insert}
use Rattle.state_image.proofs.claims.keep_pair.Goals as goal

pub returns : goal.returns
returns c =
    c.in_ok-insert.ensures.items
    ∙ (λ j. insert c.args.kept.now.items (c.place_among-place.ensures.place j) (c.in_ok-heard.ensures j, c.in_ok-other.ensures j))
    ∙ (λ j. insert c.args.kept.now.items (first_above c.args.heard.now.signer (c.as_slice.ensures.value j)) (claim c.args.heard.now, claim c.args.other.now))
    ∙ put-insert (claim c.args.heard.now, claim c.args.other.now) c.args.kept.now.items
