use Rattle.std.proofs.Common.{◌||◌, ap, ◌∙◌}
use Rattle.std.specs.Str.{bytes_eq}
use Rattle.said_index.proofs.Putting.{among, among_inserted}
use Rattle.said_index.proofs.index.put.Goals as goal

pub returns : goal.returns
returns c = λ x. ap (among x) c.in_ok-insert.ensures.keys ∙ among_inserted x c.args.all.now.keys _ ∙ ap
    (λ y. among x c.args.all.now.keys || bytes_eq x y) c.in_ok-copied.ensures
