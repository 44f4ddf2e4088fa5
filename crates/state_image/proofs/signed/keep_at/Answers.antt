use Rattle.std.proofs.Common.{◌++◌, sym, ap, ◌∙◌}
use Rattle.std.specs.Prelude.{option_to_list}
use Rattle.std.proofs.lemmas.List.{append-nil}
use Rattle.std.proofs.lemmas.Result.{on_ok_weaker}
use Rattle.message_defs.specs.Spelling.{IsClaim}
use Rattle.stmt_codec.specs.Views.{claim}
use Rattle.state_image.proofs.Walks.{all-here}
use Rattle.state_image.proofs.signed.keep_at.Goals as goal

pub keep-requires : goal.keep-requires
keep-requires c = all-here c.args.list.now.claims c.args.place IsClaim (claim c.in-Some.claim) (sym c.in-Some.ensures) c.requires

pub returns-in-Some : goal.returns-in-Some
returns-in-Some c = on_ok_weaker c.keep.result (λ put. put ∙ ap (λ o. c.args.kept.now.items ++ option_to_list o) c.in-Some.ensures) c.keep.ensures

pub returns-in-None : goal.returns-in-None
returns-in-None c = sym (append-nil c.args.kept.now.items) ∙ ap (λ o. c.args.kept.now.items ++ option_to_list o) c.in-None.ensures
