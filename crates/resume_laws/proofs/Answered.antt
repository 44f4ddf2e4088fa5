-- A node beside one that has read the first entries too: an answer, and any number of answers, leave them beside each other.
use Rattle.std.proofs.Common.{◌≡◌, ℕ, ◌+◌, List, [], ◌∷◌, ◌++◌, length, Bool, true, false, refl, sym, ap, ◌∙◌, subst, Option, Some, None}
use Rattle.std.specs.Prelude.{option_map, ◌==◌, if◌then◌else◌, IsTrue, flat_map}
use Rattle.std.proofs.lemmas.List.{append_assoc}
use Rattle.byte_defs.specs.Members.{has}
use Rattle.group_defs.specs.Process.{Process}
use Rattle.group_defs.specs.Events.{after}
use Rattle.journal_defs.specs.Entries.{Event, Entry}
use Rattle.journal_defs.specs.Journals.{record_bytes}
use Rattle.node_defs.specs.Lines.{Stop, WriteFailed, DiskFailed, BindFailed}
use Rattle.node_defs.specs.Casts.{Cast, live}
use Rattle.node_defs.specs.Nodes.{Node, Opening, Bind, Greet, Serve, Finish, Leaving, Task, Answer, Done, Failed, Unremembered, Came, Broken, Said, Named, Digest, Change, Snapper, with_turn, new_entry, new_leaving, leaving_of, changed, if_fits, counts, by_tasks, by_leaving, opened_one, by_opening, by_answer, unless_stopped, answered}
use Rattle.node_defs.specs.Lives.{AreHosted}
use Rattle.image_laws.specs.Alike.{IsAlike}
use Rattle.resume_laws.specs.Resuming.{one_line_on}
use Rattle.resume_laws.proofs.Turning.{live-alike, outcome-alike, entry-alike}
use Rattle.resume_laws.proofs.Alike.{moved, later, TurnHosted, ChangeHosted, Alike, task-alike, leaving-alike, read-alike}

-- ---- the opening

-- what an answer makes of the opening: it goes on, it stops the node, or the node stays
pub data Way : Type 0 where
  Goes : (left : List Opening) → Way
  Stops : (why : Stop) → Way
  Stays : Way

abbrev pub gone : Node → Way → Node
gone n (Goes left) = record n { opening = left }
gone n (Stops why) = record n { stopped = Some why }
gone n Stays = n

abbrev pub SameLine : Way → Type 0
SameLine (Stops why) = one_line_on why ≡ why
SameLine _ = Unit {0}

-- which way does not go by the node, and no stop has a line
pub record HasWay (os : List Opening) (o : Opening) (a : Answer) : Type 0 where
  pub way : Way
  pub is : (n : Node) → opened_one n os o a ≡ gone n way
  pub line : SameLine way

pub way-of : (os : List Opening) (o : Opening) (a : Answer) → HasWay os o a
way-of os (Bind port) Done = record { way = Goes os; is = λ n. refl; line = tt }
way-of os (Bind port) Failed = record { way = Stops BindFailed; is = λ n. refl; line = refl }
way-of os (Bind port) Unremembered = record { way = Stays; is = λ n. refl; line = tt }
way-of os (Bind port) (Came bytes) = record { way = Stays; is = λ n. refl; line = tt }
way-of os (Bind port) Broken = record { way = Stays; is = λ n. refl; line = tt }
way-of os (Bind port) (Said text sends) = record { way = Stays; is = λ n. refl; line = tt }
way-of os (Bind port) (Named k) = record { way = Stays; is = λ n. refl; line = tt }
way-of os (Bind port) (Digest d) = record { way = Stays; is = λ n. refl; line = tt }
way-of os (Greet t) Done = record { way = Goes os; is = λ n. refl; line = tt }
way-of os (Greet t) Failed = record { way = Stops WriteFailed; is = λ n. refl; line = refl }
way-of os (Greet t) Unremembered = record { way = Stays; is = λ n. refl; line = tt }
way-of os (Greet t) (Came bytes) = record { way = Stays; is = λ n. refl; line = tt }
way-of os (Greet t) Broken = record { way = Stays; is = λ n. refl; line = tt }
way-of os (Greet t) (Said text sends) = record { way = Stays; is = λ n. refl; line = tt }
way-of os (Greet t) (Named k) = record { way = Stays; is = λ n. refl; line = tt }
way-of os (Greet t) (Digest d) = record { way = Stays; is = λ n. refl; line = tt }
way-of os Serve Done = record { way = Stays; is = λ n. refl; line = tt }
way-of os Serve Failed = record { way = Stays; is = λ n. refl; line = tt }
way-of os Serve Unremembered = record { way = Stays; is = λ n. refl; line = tt }
way-of os Serve (Came bytes) = record { way = Stays; is = λ n. refl; line = tt }
way-of os Serve Broken = record { way = Stays; is = λ n. refl; line = tt }
way-of os Serve (Said text sends) = record { way = Goes (Greet text ∷ os); is = λ n. refl; line = tt }
way-of os Serve (Named k) = record { way = Stays; is = λ n. refl; line = tt }
way-of os Serve (Digest d) = record { way = Stays; is = λ n. refl; line = tt }
way-of os Finish Done = record { way = Goes os; is = λ n. refl; line = tt }
way-of os Finish Failed = record { way = Stops DiskFailed; is = λ n. refl; line = refl }
way-of os Finish Unremembered = record { way = Stays; is = λ n. refl; line = tt }
way-of os Finish (Came bytes) = record { way = Stays; is = λ n. refl; line = tt }
way-of os Finish Broken = record { way = Stays; is = λ n. refl; line = tt }
way-of os Finish (Said text sends) = record { way = Stays; is = λ n. refl; line = tt }
way-of os Finish (Named k) = record { way = Stays; is = λ n. refl; line = tt }
way-of os Finish (Digest d) = record { way = Stays; is = λ n. refl; line = tt }

gone-moved : (now : ℕ → Process) (kept : List Entry) (n : Node) (w : Way) → SameLine w
    → gone (moved now kept n) w ≡ moved now kept (gone n w)
gone-moved now kept n (Goes left) is = refl
gone-moved now kept n (Stops why) is = ap (λ s. record (moved now kept n) { stopped = Some s }) (sym is)
gone-moved now kept n Stays is = refl

pub gone-kept : (n : Node) (w : Way) → (gone n w).kept ≡ n.kept
gone-kept n (Goes left) = refl
gone-kept n (Stops why) = refl
gone-kept n Stays = refl

pub gone-gate : (n : Node) (w : Way) → (gone n w).gate ≡ n.gate
gone-gate n (Goes left) = refl
gone-gate n (Stops why) = refl
gone-gate n Stays = refl

gone-now : (n : Node) (w : Way) (p : ℕ) → (gone n w).now p ≡ n.now p
gone-now n (Goes left) p = refl
gone-now n (Stops why) p = refl
gone-now n Stays p = refl

-- ---- one beside the other

-- the one is the other with these processes and entries
pub record IsBeside (c : Cast) (es : List Entry) (n m : Node) : Type 0 where
  pub now : ℕ → Process
  pub kept : List Entry
  pub agree : (p : ℕ) → IsTrue (has c.hosted p) → IsAlike (n.now p) (now p)
  pub parts : n.kept ≡ es ++ kept
  pub is : m ≡ moved now kept n

module _ (c : Cast) (es : List Entry) (n : Node) (now : ℕ → Process) (kept : List Entry)
    (agree : (p : ℕ) → IsTrue (has c.hosted p) → IsAlike (n.now p) (now p)) (parts : n.kept ≡ es ++ kept) where
  abbrev m : Node
  m = moved now kept n

  one-turn : (t : Option (ℕ × Event)) (q : ℕ) → IsTrue (has c.hosted q) → IsAlike (with_turn c n t q) (with_turn c m t q)
  one-turn None q h = agree q h
  one-turn (Some t) q h = go (q == t.0)
    where
      go : (b : Bool) → IsAlike (if b then after c.setting (n.now q) (live c (n.now q) t.1) else n.now q)
          (if b then after c.setting (now q) (live c (now q) t.1) else now q)
      go true = live-alike c (n.now q) (now q) (agree q h) t.1
      go false = agree q h

  same-entry : (t : Option (ℕ × Event)) → TurnHosted c t → new_entry c m t ≡ new_entry c n t
  same-entry None h = refl
  same-entry (Some t) h = ap (λ e. e ∷ []) (entry-alike c (n.now t.0) (now t.0) (agree t.0 h) t.1)

  same-leaving : (t : Option (ℕ × Event)) → TurnHosted c t → new_leaving c m t ≡ new_leaving c n t
  same-leaving None h = refl
  same-leaving (Some t) h = ap (leaving_of t.0) (outcome-alike c (n.now t.0) (now t.0) (agree t.0 h) t.1)

  changed-beside : (ls : List Leaving) (ts : List Task) (x : Change) → TurnHosted c x.taken
      → IsBeside c es (changed c n ls ts x) (changed c m ls ts (later x))
  changed-beside ls ts x h = record {
    now = with_turn c m x.taken;
    kept = kept ++ new_entry c m x.taken;
    agree = one-turn x.taken;
    parts = ap (λ ds. ds ++ new_entry c n x.taken) parts ∙ append_assoc es kept (new_entry c n x.taken)
        ∙ ap (λ ds. es ++ (kept ++ ds)) (sym (same-entry x.taken h));
    is = ap (λ ds. made ds (new_leaving c m x.taken)) (same-entry x.taken h) ∙ ap (made (new_entry c n x.taken)) (same-leaving x.taken h);
  }
    where
      made : List Entry → List Leaving → Node
      made ds more = record (moved (with_turn c m x.taken) (kept ++ new_entry c m x.taken) (changed c n ls ts x)) {
        gate = n.gate + length (flat_map record_bytes ds);
        leaving = ls ++ more;
      }

  fits-beside : (ls : List Leaving) (ts : List Task) (x y : Option Change) → Alike c x y
      → IsBeside c es (if_fits c n ls ts x) (if_fits c m ls ts y)
  fits-beside ls ts x y alike = subst (λ z. IsBeside c es (if_fits c n ls ts x) (if_fits c m ls ts z)) (sym alike.same) (go x alike.hosted)
    where
      go : (x : Option Change) → ChangeHosted c x → IsBeside c es (if_fits c n ls ts x) (if_fits c m ls ts (option_map later x))
      go None h = record { now = now; kept = kept; agree = agree; parts = parts; is = refl }
      go (Some x) h = changed-beside ls ts x h

  counted : (k l : Node) (a : Answer) → IsBeside c es k l → IsBeside c es (counts k a) (counts l a)
  counted k l Done b = b
  counted k l Failed b = b
  counted k l Unremembered b = b
  counted k l (Came line) b = record {
    now = b.now;
    kept = b.kept;
    agree = b.agree;
    parts = b.parts;
    is = ap (λ (x : Node). counts x (Came line)) b.is;
  }
  counted k l Broken b = b
  counted k l (Said text sends) b = b
  counted k l (Named q) b = b
  counted k l (Digest d) b = b

  module _ (snap snap' : Snapper) (snaps : (digest : List ℕ) → snap' m digest ≡ snap n digest) (a : Answer) where
    tasks-beside : (ts : List Task) → AreHosted c ts → IsBeside c es (by_tasks c snap n a ts) (by_tasks c snap' m a ts)
    tasks-beside [] h = counted _ _ a (fits-beside [] [] _ _ (read-alike c snap snap' n now kept agree snaps a))
    tasks-beside (t ∷ ts) h = fits-beside [] ts _ _ (task-alike c snap snap' n now kept agree snaps t a h.0)

    leaving-beside : (ls : List Leaving) → AreHosted c n.tasks → IsBeside c es (by_leaving c snap n a ls) (by_leaving c snap' m a ls)
    leaving-beside [] h = tasks-beside n.tasks h
    leaving-beside (l ∷ ls) h = fits-beside ls n.tasks _ _ (leaving-alike c snap snap' n now kept agree snaps l a)

    opening-beside : (os : List Opening) → AreHosted c n.tasks → IsBeside c es (by_opening c snap n a os) (by_opening c snap' m a os)
    opening-beside [] h = leaving-beside n.leaving h
    opening-beside (o ∷ os) h =
        let w = way-of os o a in
        record {
          now = now;
          kept = kept;
          agree = λ p hosted. subst (λ x. IsAlike x (now p)) (sym (ap (λ (x : Node). x.now p) (w.is n) ∙ gone-now n w.way p))
              (agree p hosted);
          parts = ap (λ (x : Node). x.kept) (w.is n) ∙ gone-kept n w.way ∙ parts;
          is = w.is m ∙ gone-moved now kept n w.way w.line ∙ ap (moved now kept) (sym (w.is n));
        }

  answer-beside : (snap snap' : Snapper) (snaps : (digest : List ℕ) → snap' m digest ≡ snap n digest) (a : Answer) → AreHosted c n.tasks
      → IsBeside c es (by_answer c snap n a) (by_answer c snap' m a)
  answer-beside snap snap' snaps Done h = opening-beside snap snap' snaps Done n.opening h
  answer-beside snap snap' snaps Failed h = opening-beside snap snap' snaps Failed n.opening h
  answer-beside snap snap' snaps Unremembered h = record { now = now; kept = kept; agree = agree; parts = parts; is = refl }
  answer-beside snap snap' snaps (Came bytes) h = opening-beside snap snap' snaps (Came bytes) n.opening h
  answer-beside snap snap' snaps Broken h = opening-beside snap snap' snaps Broken n.opening h
  answer-beside snap snap' snaps (Said text sends) h = opening-beside snap snap' snaps (Said text sends) n.opening h
  answer-beside snap snap' snaps (Named q) h = opening-beside snap snap' snaps (Named q) n.opening h
  answer-beside snap snap' snaps (Digest d) h = opening-beside snap snap' snaps (Digest d) n.opening h

  -- one that has stopped stays so
  moved-answered : (snap snap' : Snapper) (snaps : (digest : List ℕ) → snap' m digest ≡ snap n digest) (a : Answer) → AreHosted c n.tasks
      → IsBeside c es (answered c snap n a) (answered c snap' m a)
  unfolding answered
  moved-answered snap snap' snaps a h = go n.stopped
    where
      go : (o : Option Stop) → IsBeside c es (unless_stopped c snap n a o) (unless_stopped c snap' m a (option_map one_line_on o))
      go None = answer-beside snap snap' snaps a h
      go (Some why) = record { now = now; kept = kept; agree = agree; parts = parts; is = refl }

-- the node m writes of itself what n does
abbrev pub BesideAlike : Cast → List Entry → Snapper → Snapper → Type 0
BesideAlike c es snap snap' = (n m : Node) → IsBeside c es n m → (digest : List ℕ) → snap' m digest ≡ snap n digest

pub answered-beside : (c : Cast) (es : List Entry) (snap snap' : Snapper) (n m : Node) (a : Answer) → BesideAlike c es snap snap'
    → AreHosted c n.tasks → IsBeside c es n m → IsBeside c es (answered c snap n a) (answered c snap' m a)
answered-beside c es snap snap' n m a alike h b =
    let beside : IsBeside c es n (moved b.now b.kept n)
    = record { now = b.now; kept = b.kept; agree = b.agree; parts = b.parts; is = refl } in
    subst (λ (x : Node). IsBeside c es (answered c snap n a) (answered c snap' x a)) (sym b.is)
    (moved-answered c es n b.now b.kept b.agree b.parts snap snap' (alike n (moved b.now b.kept n) beside) a h)
