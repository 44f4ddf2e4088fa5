use Rattle.std.proofs.Common.{sym, ap, ◌∙◌}
use Rattle.std.proofs.lemmas.Result.{on_ok_weaker}
use Rattle.byte_defs.specs.Orders.{put}
use Rattle.message_defs.specs.Statements.{Claim}
use Rattle.message_defs.specs.Spelling.{IsClaim}
use Rattle.image_defs.specs.Images.{conflict_key}
use Rattle.stmt_codec.specs.Views.{claim}
use Rattle.state_image.proofs.Putting.{all-at, no-pair, pair-first}
use Rattle.state_image.proofs.claims.keep_pair_at.Goals as goal

pub keep_pair-requires-clause-heard : goal.keep_pair-requires-clause-heard
keep_pair-requires-clause-heard c = (all-at (λ (pair : Claim × Claim). IsClaim pair.0 × IsClaim pair.1) c.args.conflicts.now.pairs c.args.place
    (claim c.in-Some.heard, claim c.in-Some.other) c.requires.ranged (sym c.in-Some.ensures)).0

pub keep_pair-requires-clause-other : goal.keep_pair-requires-clause-other
keep_pair-requires-clause-other c = (all-at (λ (pair : Claim × Claim). IsClaim pair.0 × IsClaim pair.1) c.args.conflicts.now.pairs c.args.place
    (claim c.in-Some.heard, claim c.in-Some.other) c.requires.ranged (sym c.in-Some.ensures)).1

pub returns-in-Some : goal.returns-in-Some
returns-in-Some c = on_ok_weaker c.keep_pair.result
    (λ is. is ∙ ap (put conflict_key (claim c.in-Some.heard, claim c.in-Some.other)) c.requires.behind
    ∙ sym (pair-first c.args.conflicts.now.pairs c.args.place (claim c.in-Some.heard, claim c.in-Some.other) (sym c.in-Some.ensures)))
    c.keep_pair.ensures

pub returns-in-None : goal.returns-in-None
returns-in-None c = c.requires.behind ∙ sym (no-pair c.args.conflicts.now.pairs c.args.place (sym c.in-None.ensures))
