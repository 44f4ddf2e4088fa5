use Rattle.std.proofs.Common.{◌∙◌, length, ap, sym}
use Rattle.group_defs.specs.Process.{Pool}
use Rattle.interop_pool.proofs.questions.words_in.Goals as goal

pub heard_words-requires-clause-counted : goal.heard_words-requires-clause-counted
heard_words-requires-clause-counted c = c.requires.counted ∙ ap (λ (h : Pool). length h.view.members) (sym c.in_ok-pool.ensures.pool)

pub returns : goal.returns
returns c p delivered same = c.heard_words.ensures p delivered (same ∙ sym c.in_ok-pool.ensures.pool)
