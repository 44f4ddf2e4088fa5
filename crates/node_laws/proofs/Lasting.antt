-- What went out of a run is never lost.
use Rattle.std.proofs.Common.{◌≡◌, ◌≢◌, ℕ, List, [], ◌∷◌, ◌++◌, Bool, true, false, refl, sym, ap, ◌∙◌, subst, Option, Some, None}
use Rattle.std.specs.Prelude.{Contains}
use Rattle.pool_laws.proofs.Members.{Mem, Contains-mem}
use Rattle.pool_laws.proofs.Places.{prefix-trans}
use Rattle.group_defs.specs.Process.{Process}
use Rattle.group_defs.specs.Accounts.{IsPrefixOf}
use Rattle.journal_defs.specs.Entries.{Entry}
use Rattle.node_defs.specs.Lines.{Stop}
use Rattle.node_defs.specs.Casts.{Cast, from_start}
use Rattle.node_defs.specs.Nodes.{Node, Opening, Leaving, Task, Answer, Done, Failed, Unremembered, Came, Broken, Said, Named, Digest, Change, Snapper, if_fits, counts, by_tasks, by_leaving, by_opening, by_answer, unless_stopped, answered, run, after_read, after_task, after_leaving}
use Rattle.node_defs.specs.Lives.{Found, Run, with_or_without, leaves_by, leaves, opened_in, last_of, lives, FitsFrom, SignsValidly, IsOfEntry, IsSound, IsOpened, NothingLost}
use Rattle.node_laws.proofs.Soundness.{kept_grows, run-sound, wider}
use Rattle.node_laws.proofs.Openings.{opens_sound}
use Rattle.node_laws.proofs.Fitting.{from-start, start-numbered, one-life, lives_on}

-- ---- one run behind another

run-append : (c : Cast) (snap : Snapper) (n : Node) (xs ys : List Answer) → run c snap n (xs ++ ys) ≡ run c snap (run c snap n xs) ys
unfolding run
run-append c snap n [] ys = refl
run-append c snap n (x ∷ xs) ys = run-append c snap (answered c snap n x) xs ys

-- ---- an opening that is over stays over

module _ (c : Cast) (snap : Snapper) where
  fits-open : (n : Node) (ls : List Leaving) (ts : List Task) (x : Option Change) → (if_fits c n ls ts x).opening ≡ n.opening
  fits-open n ls ts None = refl
  fits-open n ls ts (Some x) = refl

  counts-open : (n : Node) (a : Answer) → (counts n a).opening ≡ n.opening
  counts-open n Done = refl
  counts-open n Failed = refl
  counts-open n Unremembered = refl
  counts-open n (Came bytes) = refl
  counts-open n Broken = refl
  counts-open n (Said text sends) = refl
  counts-open n (Named q) = refl
  counts-open n (Digest d) = refl

  tasks-open : (n : Node) (a : Answer) (ts : List Task) → (by_tasks c snap n a ts).opening ≡ n.opening
  tasks-open n a [] = counts-open (if_fits c n [] [] (after_read c n a)) a ∙ fits-open n [] [] (after_read c n a)
  tasks-open n a (t ∷ ts) = fits-open n [] ts (after_task c snap n t a)

  leaving-open : (n : Node) (a : Answer) (ls : List Leaving) → (by_leaving c snap n a ls).opening ≡ n.opening
  leaving-open n a [] = tasks-open n a n.tasks
  leaving-open n a (l ∷ ls) = fits-open n ls n.tasks (after_leaving n l a)

  opening-open : (n : Node) (a : Answer) (os : List Opening) → os ≡ [] → n.opening ≡ [] → (by_opening c snap n a os).opening ≡ []
  opening-open n a [] e over = leaving-open n a n.leaving ∙ over
  opening-open n a (o ∷ os) e over = cc

  answer-open : (n : Node) (a : Answer) → n.opening ≡ [] → (by_answer c snap n a).opening ≡ []
  answer-open n Done over = opening-open n Done n.opening over over
  answer-open n Failed over = opening-open n Failed n.opening over over
  answer-open n Unremembered over = over
  answer-open n (Came bytes) over = opening-open n (Came bytes) n.opening over over
  answer-open n Broken over = opening-open n Broken n.opening over over
  answer-open n (Said text sends) over = opening-open n (Said text sends) n.opening over over
  answer-open n (Named q) over = opening-open n (Named q) n.opening over over
  answer-open n (Digest d) over = opening-open n (Digest d) n.opening over over

  answered-open : (n : Node) (a : Answer) → n.opening ≡ [] → (answered c snap n a).opening ≡ []
  unfolding answered
  answered-open n a over = go n.stopped
    where
      go : (o : Option Stop) → (unless_stopped c snap n a o).opening ≡ []
      go None = answer-open n a over
      go (Some why) = over

  run-open : (n : Node) (answers : List Answer) → n.opening ≡ [] → (run c snap n answers).opening ≡ []
  unfolding run
  run-open n [] over = over
  run-open n (a ∷ more) over = run-open (answered c snap n a) more (answered-open n a over)

-- a node whose opening is over leaves what it keeps
leaves-kept : (c : Cast) (f : Found) (n : Node) → n.opening ≡ [] → (leaves c f n).sure ≡ n.kept
unfolding leaves
leaves-kept c f n over = ap (λ os. (leaves_by c f n os).sure) over

pub nothing_lost : NothingLost
nothing_lost c snap f r more rs l valid fits there =
    let longer : Run = record r { answers = r.answers ++ more } in
    let o = opens_sound c (from_start c) r.lines (with_or_without f r.with_more) (fits r.with_more) in
    let now : Node = last_of c snap f r in
    let end : Node = last_of c snap f longer in
    let sound = run-sound c snap (from-start c) (start-numbered c) (opened_in c f r) r.answers o.sound in
    let over : now.opening ≡ [] = sound.finished (λ none. not-there (subst (Mem l) none (Contains-mem _ l there))) in
    let is : end ≡ run c snap now more = run-append c snap (opened_in c f r) r.answers more in
    let grown : IsPrefixOf now.kept end.kept = subst (λ (n : Node). IsPrefixOf now.kept n.kept) (sym is) (kept_grows c snap now more) in
    let left : (leaves c f end).sure ≡ end.kept = leaves-kept c f end (subst (λ (n : Node). n.opening ≡ []) (sym is)
    (run-open c snap now more over)) in
    let life = one-life c snap f longer valid fits in
    let rest = (lives_on c snap (leaves c f end) rs valid life.fits).grown in
    let all = prefix-trans now.kept (leaves c f end).sure (lives c snap (leaves c f end) rs).sure
    (subst (IsPrefixOf now.kept) (sym left) grown) rest in
    subst (λ es. IsOfEntry c (from-start c) es l) all.1 (wider c snap (from-start c) (start-numbered c) now.kept all.0 l (sound.out l there))
  where
    not-there : Mem l [] → ⊥
    not-there m = m
