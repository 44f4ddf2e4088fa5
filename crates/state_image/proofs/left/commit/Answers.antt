use Rattle.std.proofs.Common.{◌++◌, ap, arith}
use Rattle.message_defs.specs.Spelling.{IsClaim}
use Rattle.state_image.specs.Commits.{commit_at}
use Rattle.state_image.proofs.Walks.{all-rest, at-end, one-more}
use Rattle.state_image.proofs.left.commit.Goals as goal

pub claims-init : goal.claims-init
claims-init c = (c.requires.1, ap (λ ys. ys ++ commit_at c.args.archive.now.commits c.args.view) c.in_ok-kept.ensures.items)

pub keep_commit-requires : goal.keep_commit-requires
keep_commit-requires c = c.claims.invariant.0

pub claims-preserved : goal.claims-preserved
claims-preserved c =
    let claims = commit_at c.args.archive.now.commits c.args.view in (
      all-rest claims c.claims.i IsClaim c.claims.invariant.0,
      one-more claims c.claims.i c.claims.kept.items c.keep_commit.new.kept.items claims c.in_ok-keep_commit.ensures c.claims.invariant.1,
    )

pub returns : goal.returns
returns c =
    let claims = commit_at c.args.archive.now.commits c.args.view in
    let few = c.requires.0 in
    at-end claims c.claims.i c.claims.kept.items claims (omega (arith, few)) c.claims.invariant.1
