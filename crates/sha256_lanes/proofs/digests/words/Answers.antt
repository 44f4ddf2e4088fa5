use Rattle.std.proofs.Common.{◌∙◌, arith}
use Rattle.std.proofs.lemmas.List.{take_all}
use Rattle.sha256_lanes.proofs.DigestWords.{below_eight, digest_of_words}
use Rattle.sha256_lanes.proofs.digests.words.Goals as goal

pub returns : goal.returns
returns c =
    let s = c.args.digest.now in
    digest_of_words _ s 8
    (below_eight _ c.word.ensures c.word-2.ensures c.word-3.ensures c.word-4.ensures c.word-5.ensures c.word-6.ensures c.word-7.ensures c.word-8.ensures)
    (omega arith) c.fits-digest ∙ take_all 32 s (omega arith)
