use Rattle.text_codec.specs.Views.{part_view, parts_left}
use Rattle.text_defs.specs.Words.{words_of}
use Rattle.std.proofs.lemmas.Iterator.Consumers.{YieldsList-from_first, map_from_collect}
use Rattle.interop_words.proofs.fields.words_of.Goals as goal

pub returns : goal.returns
returns c = map_from_collect _ c.collect.ensures.ran (YieldsList-from_first part_view parts_left (words_of c.args.line.now) c.words.ensures)
