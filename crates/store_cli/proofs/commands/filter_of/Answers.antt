use Rattle.store_cli.proofs.OneWord.{is_word}
use Rattle.store_cli.proofs.commands.filter_of.Goals as goal

pub returns-then-eq-clause-found : goal.returns-then-eq-clause-found
returns-then-eq-clause-found c =
    is_word c.args.words.now _ c.word-item.result _ _ _ _ c.in-len1.len_at_least c.in-len1.len_below c.word-item.is c.as_bytes.ensures.value
    c.eq.ensures c.if-eq.true c.as_slice.ensures

pub returns-then-eq-2-clause-found : goal.returns-then-eq-2-clause-found
returns-then-eq-2-clause-found c =
    is_word c.args.words.now _ c.word-item.result _ _ _ _ c.in-len1.len_at_least c.in-len1.len_below c.word-item.is
    c.as_bytes-else-eq.ensures.value c.eq-else-eq.ensures c.if-eq-2.true c.as_slice-else-eq.ensures
