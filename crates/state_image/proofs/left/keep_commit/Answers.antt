use Rattle.std.proofs.Common.{◌++◌, sym, ap, ◌∙◌}
use Rattle.std.specs.Prelude.{option_to_list}
use Rattle.std.proofs.lemmas.List.{append-nil}
use Rattle.std.proofs.lemmas.Result.{on_ok_weaker}
use Rattle.message_defs.specs.Spelling.{IsClaim}
use Rattle.stmt_codec.specs.Views.{claim}
use Rattle.state_image.specs.Commits.{commit_at}
use Rattle.state_image.proofs.Walks.{all-here}
use Rattle.state_image.proofs.Read.{commit-claim, no-claim}
use Rattle.state_image.proofs.left.keep_commit.Goals as goal

pub keep-requires : goal.keep-requires
keep-requires c = all-here (commit_at c.args.archive.now.commits c.args.view) c.args.i IsClaim (claim c.in-Some.claim)
    (commit-claim c.args.archive.now.commits c.args.view c.args.i (claim c.in-Some.claim) c.in-Some.ensures.range c.in-Some.ensures.claim) c.requires

pub returns-in-Some : goal.returns-in-Some
returns-in-Some c =
    let at = commit-claim c.args.archive.now.commits c.args.view c.args.i (claim c.in-Some.claim) c.in-Some.ensures.range c.in-Some.ensures.claim in
    on_ok_weaker c.keep.result (λ put. put ∙ ap (λ o. c.args.kept.now.items ++ option_to_list o) (sym at)) c.keep.ensures

pub returns-in-None : goal.returns-in-None
returns-in-None c =
    let at = no-claim c.args.archive.now.commits c.args.view c.args.i c.in-None.ensures.claim in
    sym (append-nil c.args.kept.now.items) ∙ ap (λ o. c.args.kept.now.items ++ option_to_list o) (sym at)
