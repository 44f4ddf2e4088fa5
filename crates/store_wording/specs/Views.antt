-- What the code reads, as plain data.
use Rattle.std.specs.Prelude.{ℕ, List}
use Rattle.store_wording.specs.declared.requests.Head.{Head as CodeHead}
use Rattle.store_wording.specs.declared.requests.Submission.{Submission}
use Rattle.store_wording.specs.Pieces.{Head}

abbrev pub first_words : CodeHead → Head
first_words h = record { process = h.process.now; verb = h.verb.now; tag = h.tag.now; key = h.key.now }

-- who submits, and which bytes
abbrev pub submission : Submission → ℕ × List ℕ
submission s = (s.process, s.payload.items)
