-- At each moment of a run a node's gate is the one after the entries that it holds.
use Rattle.std.proofs.Common.{◌≡◌, ℕ, ◌+◌, List, [], ◌∷◌, ◌++◌, sym, ap, ◌∙◌, Option, Some, None, arith}
use Rattle.node_defs.specs.Lines.{Stop}
use Rattle.node_defs.specs.Casts.{Cast, Beginning}
use Rattle.node_defs.specs.Nodes.{Node, Opening, Leaving, Task, Answer, Done, Failed, Unremembered, Came, Broken, Said, Named, Digest, Change, Snapper, new_entry, if_fits, counts, by_tasks, by_leaving, by_opening, by_answer, unless_stopped, answered, run, after_read, after_task, after_leaving, at_first, opens}
use Rattle.journal_defs.specs.Entries.{Entry}
use Rattle.resume_laws.proofs.Answered.{way-of, gone-kept, gone-gate}
use Rattle.resume_laws.proofs.Readings.{HasPlace, read-place, size, size-append}

module _ (place : ℕ) (c : Cast) (snap : Snapper) where
  fits-place : (n : Node) (ls : List Leaving) (ts : List Task) (x : Option Change) → HasPlace place n
      → HasPlace place (if_fits c n ls ts x)
  fits-place n ls ts None at = at
  fits-place n ls ts (Some x) at =
      let more : size (n.kept ++ new_entry c n x.taken) ≡ size n.kept + size (new_entry c n x.taken)
      = size-append n.kept (new_entry c n x.taken) in
      omega (arith, at, more)

  counts-place : (n : Node) (a : Answer) → HasPlace place n → HasPlace place (counts n a)
  counts-place n Done at = at
  counts-place n Failed at = at
  counts-place n Unremembered at = at
  counts-place n (Came bytes) at = at
  counts-place n Broken at = at
  counts-place n (Said text sends) at = at
  counts-place n (Named q) at = at
  counts-place n (Digest d) at = at

  tasks-place : (n : Node) (a : Answer) (ts : List Task) → HasPlace place n → HasPlace place (by_tasks c snap n a ts)
  tasks-place n a [] at = counts-place (if_fits c n [] [] (after_read c n a)) a (fits-place n [] [] (after_read c n a) at)
  tasks-place n a (t ∷ ts) at = fits-place n [] ts (after_task c snap n t a) at

  leaving-place : (n : Node) (a : Answer) (ls : List Leaving) → HasPlace place n → HasPlace place (by_leaving c snap n a ls)
  leaving-place n a [] at = tasks-place n a n.tasks at
  leaving-place n a (l ∷ ls) at = fits-place n ls n.tasks (after_leaving n l a) at

  opening-place : (n : Node) (a : Answer) (os : List Opening) → HasPlace place n → HasPlace place (by_opening c snap n a os)
  opening-place n a [] at = leaving-place n a n.leaving at
  opening-place n a (o ∷ os) at =
      let w = way-of os o a in
      ap (λ (x : Node). x.gate) (w.is n) ∙ gone-gate n w.way ∙ at
      ∙ ap (λ ds. place + size ds) (sym (ap (λ (x : Node). x.kept) (w.is n) ∙ gone-kept n w.way))

  answer-place : (n : Node) (a : Answer) → HasPlace place n → HasPlace place (by_answer c snap n a)
  answer-place n Done at = opening-place n Done n.opening at
  answer-place n Failed at = opening-place n Failed n.opening at
  answer-place n Unremembered at = at
  answer-place n (Came bytes) at = opening-place n (Came bytes) n.opening at
  answer-place n Broken at = opening-place n Broken n.opening at
  answer-place n (Said text sends) at = opening-place n (Said text sends) n.opening at
  answer-place n (Named q) at = opening-place n (Named q) n.opening at
  answer-place n (Digest d) at = opening-place n (Digest d) n.opening at

  answered-place : (n : Node) (a : Answer) → HasPlace place n → HasPlace place (answered c snap n a)
  unfolding answered
  answered-place n a at = go n.stopped
    where
      go : (o : Option Stop) → HasPlace place (unless_stopped c snap n a o)
      go None = answer-place n a at
      go (Some why) = at

  run-place : (n : Node) (answers : List Answer) → HasPlace place n → HasPlace place (run c snap n answers)
  unfolding run
  run-place n [] at = at
  run-place n (a ∷ more) at = run-place (answered c snap n a) more (answered-place n a at)

-- whatever the entries on which it is opened
pub keeps-place : (c : Cast) (b : Beginning) (snap : Snapper) (lines : ℕ) (es : List Entry) (answers : List Answer)
    → HasPlace b.place (run c snap (opens c b lines es) answers)
keeps-place c b snap lines es answers = run-place b.place c snap (opens c b lines es) answers
    (read-place b.place c (at_first b lines) es (omega arith))
