use Rattle.std.proofs.Common.{map, take}
use Rattle.interop_store.specs.Telling.{payloads_in}
use Rattle.interop_store.specs.Questions.{SpellEach}
use Rattle.interop_store.proofs.questions.read_payloads.Given as goal

-- what was read so far
abbrev pub invariant-loop-word : goal.invariant-loop-word
invariant-loop-word l = SpellEach (map (λ word. word.now) (take l.word-index l.words)) (payloads_in l.payloads.items)
