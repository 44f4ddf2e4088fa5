use Rattle.std.proofs.Common.{map, arith}
use Rattle.std.proofs.lemmas.List.{length-map}
use Rattle.story_writing.specs.Tokens.{token}
use Rattle.store_telling.proofs.Pieces.{reported_by}
use Rattle.store_telling.proofs.reported.tell_line.Goals as goal

pub returns : goal.returns
returns c =
    reported_by c.args.out.now.items _ _ _ (map token c.args.tokens.now) (omega (arith, c.requires, length-map c.args.tokens.now token)) c.in_ok-push.ensures.items c.in_ok-push_behind.ensures
    c.in_ok-push-2.ensures.items
