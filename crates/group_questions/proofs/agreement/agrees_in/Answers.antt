use Rattle.std.proofs.Common.{◌≡◌, ◌==◌, ◌+◌, Bool, List, length, map, take, drop, ap, ◌∙◌}
use Rattle.std.specs.Prelude.{◌&&◌, ◌||◌, not, nat_lt}
use Rattle.std.specs.List.{list_any}
use Rattle.group_defs.specs.Views.{is_member}
use Rattle.group_defs.specs.Process.{Letter, without_places}
use Rattle.group_defs.specs.Accounts.{group_of, messages_in, same_sequence}
use Rattle.accounts.specs.Views.{account}
use Rattle.group_questions.specs.Letters.{letters}
use Rattle.group_questions.proofs.Fronts.{whole-front}
use Rattle.group_questions.proofs.agreement.agrees_in.Goals as goal

pub returns : goal.returns
returns c =
    let own = c.delivered_in-own.result.now in
    let all = c.sequence_in-all.result.now in
    let lack : Bool = not (list_any (λ v. is_member v c.args.a.now.me) (take 1 (drop c.args.x c.args.a.now.views.items)))
    || not (nat_lt (c.args.x + 1) (length c.args.a.now.views.items)) in
    let tests : (c.are_first_letters.result && (c.may_lack.result || c.same_length.result))
    ≡ (same_sequence (letters own) (take (length (letters own)) (letters all)) && (lack || (length own == length all))) =
    λ i. c.are_first_letters.ensures i && (c.may_lack.ensures i || c.same_length.ensures i) in
    let mine : letters own ≡ messages_in (account c.args.a.now) c.args.x = ap without_places c.delivered_in-own.ensures in
    let sequence : List Letter = (group_of (map account c.args.accounts.now)).sequence c.args.x in
    let whole : letters all ≡ sequence = c.sequence_in-all.ensures in
    let said : (same_sequence (letters own) (take (length (letters own)) (letters all))
    && (lack || same_sequence (letters own) (letters all)))
    ≡ (same_sequence (messages_in (account c.args.a.now) c.args.x) (take (length (messages_in (account c.args.a.now) c.args.x)) sequence)
    && (lack || same_sequence (messages_in (account c.args.a.now) c.args.x) sequence)) =
    λ i. same_sequence (mine i) (take (length (mine i)) (whole i)) && (lack || same_sequence (mine i) (whole i)) in
    c.is_enough.ensures ∙ tests ∙ whole-front own all lack ∙ said
