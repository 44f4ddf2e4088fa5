-- Two nodes that make the same calls and are given the same answers: their services answered the same to the same calls.
use Rattle.std.proofs.Common.{◌≡◌, ℕ, List, [], ◌∷◌, ◌++◌, refl, sym, ap, ◌∙◌}
use Rattle.std.specs.Option.{option_map_or}
use Rattle.std.proofs.lemmas.List.{map-append}
use Rattle.group_defs.specs.Process.{Process}
use Rattle.node_defs.specs.Casts.{Cast}
use Rattle.node_defs.specs.Nodes.{Node, Call, Serves, NotesOf, Asks, Words, Rests, Answer, Done, Failed, Unremembered, Came, Broken, Said, Named, Digest, Snapper, call_of, answered, calls}
use Rattle.node_traces.specs.Service.{Asked, one_asked, shows, asking, asked_by}
use Rattle.resume_laws.specs.Traces.{answers_in}

-- ---- one call

module _ (c : Cast) (now now' : ℕ → Process) where
  -- what it was asked and answered does not go by the processes that it was shown
  shown-same : (call : Call) (a : Answer) → answers_in (option_map_or (λ shown. one_asked c shown call a) (shows c now call) [])
      ≡ answers_in (option_map_or (λ shown. one_asked c shown call a) (shows c now' call) [])
  shown-same Serves a = refl
  shown-same (NotesOf p note) a = refl
  shown-same (Asks p e notes above) a = refl
  shown-same (Words p line) a = refl
  shown-same _ a = refl

  asking-same : (call : Call) (a : Answer) → answers_in (asking c now call a) ≡ answers_in (asking c now' call a)
  asking-same call Unremembered = refl
  asking-same call Done = shown-same call Done
  asking-same call Failed = shown-same call Failed
  asking-same call (Came bytes) = shown-same call (Came bytes)
  asking-same call Broken = shown-same call Broken
  asking-same call (Said text sends) = shown-same call (Said text sends)
  asking-same call (Named q) = shown-same call (Named q)
  asking-same call (Digest d) = shown-same call (Digest d)

-- ---- a run

abbrev answer_in : Asked → Call × Answer
answer_in i = (i.call, i.answer)

pub answers-append : (h i : List Asked) → answers_in (h ++ i) ≡ answers_in h ++ answers_in i
answers-append h i = map-append answer_in h i

first_call : List (Call × Answer) → Call
first_call [] = Rests
first_call (i ∷ cs) = i.0

after_first : List (Call × Answer) → List (Call × Answer)
after_first [] = []
after_first (i ∷ cs) = cs

first-same : (call call' : Call) (a : Answer) (cs ds : List (Call × Answer)) → (call, a) ∷ cs ≡ (call', a) ∷ ds → call ≡ call'
unfolding first_call
first-same call call' a cs ds e = ap first_call e

others-same : (call call' : Call) (a : Answer) (cs ds : List (Call × Answer)) → (call, a) ∷ cs ≡ (call', a) ∷ ds → cs ≡ ds
unfolding after_first
others-same call call' a cs ds e = ap after_first e

pub heard-same : (c : Cast) (snap snap' : Snapper) (n m : Node) (answers : List Answer) → calls c snap' m answers ≡ calls c snap n answers
    → answers_in (asked_by c snap' m answers) ≡ answers_in (asked_by c snap n answers)
unfolding calls asked_by
heard-same c snap snap' n m [] e = refl
heard-same c snap snap' n m (a ∷ more) e =
    let n' = answered c snap n a in
    let m' = answered c snap' m a in
    let here = first-same (call_of c m) (call_of c n) a (calls c snap' m' more) (calls c snap n' more) e in
    let rest = heard-same c snap snap' n' m' more
    (others-same (call_of c m) (call_of c n) a (calls c snap' m' more) (calls c snap n' more) e) in
    answers-append (asking c m.now (call_of c m) a) (asked_by c snap' m' more)
    ∙ ap (λ (cs : List (Call × Answer)). cs ++ answers_in (asked_by c snap' m' more)) (
    asking-same c m.now n.now (call_of c m) a ∙ ap (λ (call : Call). answers_in (asking c n.now call a)) here
    )
    ∙ ap (λ (cs : List (Call × Answer)). answers_in (asking c n.now (call_of c n) a) ++ cs) rest
    ∙ sym (answers-append (asking c n.now (call_of c n) a) (asked_by c snap n' more))
