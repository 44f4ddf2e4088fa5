use Rattle.std.proofs.Common.{◌∙◌, arith}
use Rattle.std.proofs.lemmas.List.{take_all}
use Rattle.sha256_lanes.proofs.DigestWords.{digest_of_words}
use Rattle.lms_chains.proofs.LaneBlock.{below_five}
use Rattle.lms_chains.proofs.lanes.key_words.Goals as goal

pub returns : goal.returns
returns c =
    let s = c.args.key.now in
    digest_of_words _ s 5 (below_five _ c.word.ensures c.word-2.ensures c.word-3.ensures c.word-4.ensures c.word-5.ensures)
    (omega arith) c.fits-key ∙ take_all 20 s (omega arith)
