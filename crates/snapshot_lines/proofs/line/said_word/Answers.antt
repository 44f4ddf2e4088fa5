use Rattle.std.proofs.Common.{ap, sym, ◌∙◌}
use Rattle.std.specs.Result.{result_ok}
use Rattle.std.proofs.lemmas.Result.{IfOk-weaker}
use Rattle.resume_laws.specs.Said.{snapshot_in}
use Rattle.snapshot_lines.proofs.Words.{word-none, word-read}
use Rattle.snapshot_lines.proofs.line.said_word.Goals as goal

pub returns-in-Ok-clause-read : goal.returns-in-Ok-clause-read
returns-in-Ok-clause-read c =
    IfOk-weaker c.said_in.result _ _ (λ r is. is ∙ ap (λ bytes. result_ok (snapshot_in c.args.hosted bytes)) c.as_slice.ensures.value
    ∙ word-read c.args.hosted c.args.word.now c.in-Ok.bytes.items c.in-Ok.ensures.read) c.said_in.ensures.read

pub returns-in-Err-NoBytes-clause-read : goal.returns-in-Err-NoBytes-clause-read
returns-in-Err-NoBytes-clause-read c =
    sym (word-none c.args.hosted c.args.word.now c.byte_list.result _ c.byte_list.ensures.none c.in-Err-NoBytes.is c.in-Err-NoBytes.field-0-is)
