use Rattle.story_writing.specs.Tokens.{behind}
use Rattle.story_writing.proofs.TokenLines.{all_written}
use Rattle.store_records.specs.Views.{reply}
use Rattle.store_text_defs.specs.Answers.{said_tokens}
use Rattle.store_telling.proofs.Pieces.{reply_reported}
use Rattle.store_telling.proofs.reported.push_reply.Goals as goal

pub returns : goal.returns
returns c =
    all_written c.push_said.result _ _ (behind (said_tokens c.args.reply.now.answer.now)) _ c.push_said.ensures
    (rw (c.in_ok-push_behind.ensures, c.in_ok-push_payload.ensures, c.in_ok-push_place.ensures)
    (reply_reported c.args.out.now.items (reply c.args.reply.now)))
