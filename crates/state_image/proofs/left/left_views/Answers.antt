use Rattle.std.proofs.Common.{◌≡◌, ◌∙◌, ◌++◌, ◌∷◌, [], List, map, drop, sym, ap, arith}
use Rattle.std.proofs.lemmas.List.{append-nil, map-append}
use Rattle.message_defs.specs.Packing.{Signed}
use Rattle.image_defs.specs.Images.{left_by}
use Rattle.snapshot_rp.specs.Views.{left_view}
use Rattle.sent_claims.proofs.Walks.{drop-past}
use Rattle.state_image.specs.Commits.{claims_as}
use Rattle.state_image.proofs.Read.{commit-of, view-more}
use Rattle.state_image.proofs.left.left_views.Goals as goal

pub left_view-requires : goal.left_view-requires
left_view-requires c =
    let count = c.requires.count in
    let lt = c.views-test.true in
    commit-of c.args.archive.now.commits c.views.view (omega (arith, count, lt)) c.requires.each

pub views-preserved : goal.views-preserved
views-preserved c =
    let count = c.requires.count in
    let lt = c.views-test.true in
    view-more c.args.archive.now.commits c.views.view (map left_view c.views.left.items) (map left_view c.push.new.self.items)
    (left_view c.in_ok-left_view.field-0) _ (omega (arith, count, lt))
    (ap (map left_view) c.in_ok-push.ensures.items ∙ map-append left_view c.views.left.items (c.in_ok-left_view.field-0 ∷ []))
    c.in_ok-left_view.ensures c.views.invariant

pub returns : goal.returns
returns c =
    let count = c.requires.count in
    let past = c.views-test.false in
    let commits = c.args.archive.now.commits in
    let none : drop c.views.view commits ≡ [] = drop-past commits c.views.view (omega (arith, count, past)) in
    sym (append-nil (map left_view c.views.left.items))
    ∙ ap (λ (cs : List (List Signed)). map left_view c.views.left.items ++ map (λ cs. left_by (claims_as cs)) cs) (sym none)
    ∙ c.views.invariant
