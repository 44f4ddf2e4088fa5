use Rattle.claim_pool.specs.Settings.{as_setting}
use Rattle.kept_images.specs.Tests.{is_own}
use Rattle.kept_images.proofs.Entries.{own-so, so-own}
use Rattle.kept_images.proofs.Tested.{all-tests}
use Rattle.kept_images.proofs.signed.are_own.Goals as goal

pub returns : goal.returns
returns g c =
    let s = as_setting (g.V.Scheme.valid c.args.scheme.now) c.args.group.now c.args.roster.now in
    all-tests (is_own s c.args.me c.args.view.now) _ c.args.signed.now c.each_is_own.result (own-so s c.args.me c.args.view.now)
    (so-own s c.args.me c.args.view.now) c.each_is_own.ensures
