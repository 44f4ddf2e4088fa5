-- Parts of a run, each with the running node after it, one after the other.
use Rattle.std.proofs.Common.{◌≡◌, ℕ, List, Option, refl, sym, subst, ◌∙◌}
use Rattle.std.specs.Prelude.{Contains, IsTrue}
use Rattle.byte_defs.specs.Members.{has}
use Rattle.node_defs.specs.Casts.{Cast}
use Rattle.node_defs.specs.Lines.{Stop}
use Rattle.node_defs.specs.Nodes.{Node, Task, Snapper}
use Rattle.node_traces.specs.Stops.{Outset}
use Rattle.node_traces.specs.Goes.{Outside, Goes}
use Rattle.node_traces.specs.Went.{Went}
use Rattle.node_traces.proofs.Going.{nothing_goes}
use Rattle.node_traces.proofs.Went.{went_on}
use Rattle.sealing_laws.specs.Running.{IsNode, Running, cast_in, numbers_of}
use Rattle.node_taking.specs.Keeping.{at}
use Rattle.node_taking.specs.Taking.{GoesOnTo, StopsSo}
use Rattle.node_taking.proofs.Machine.{at-so}
use Rattle.node_taking.proofs.Still.{still, stops-after}
use Rattle.node_taking.proofs.Ends.{Ends}
use Rattle.node_taking.proofs.Whole.{ends-still, is-now, sound-on}

-- the same running node, had it these tasks
pub with-tasks : (f : Outset) (seen : Option (List ℕ)) (may_leave : List ℕ → Type 0) (r : Running) (n : Node) (ts us : List Task)
    → IsNode f seen may_leave r n ts → IsNode f seen may_leave r (at n us) us
with-tasks f seen may_leave r n ts us is = is-now f r r seen may_leave n us refl is.hosts is.journal is.keyed (record {
  processes = is.sound.processes;
  out = λ l there. is.sound.out l (subst (λ ls. Contains ls l) (sym is.at.leaving) there);
  finished = λ some. refl;
}) (record { each = is.counts.each; few = is.counts.few })

-- a process stays hosted
pub still-hosted : (f : Outset) (seen : Option (List ℕ)) (may_leave : List ℕ → Type 0) (c : Cast) (r : Running) (n : Node) (ts : List Task) (p : ℕ)
    → IsNode f seen may_leave r n ts → cast_in r ≡ c → IsTrue (has c.hosted p) → IsTrue (has (numbers_of r.hosts) p)
still-hosted f seen may_leave c r n ts p is same there =
    subst (λ (ps : List ℕ). IsTrue (has ps p)) (sym is.hosts.numbers)
    (subst (λ (k : Cast). IsTrue (has k.hosted p)) (sym same) there)

module _ {D : Type 0} (seen : D → Option (List ℕ)) (may_leave : D → List ℕ → Type 0) (moment : D → ℕ)
    (left_since : D → ℕ → List ℕ → Type 0) (only_now : (d : D) (image : List ℕ) → left_since d (moment d) image → may_leave d image)
    (snap : Snapper) (most : ℕ) (f : Outset) where
  -- a part, and after it one from the running node that it led to
  pub on-and-on : (c : Cast) (n : Node) (x y z : Outside) (old mid new : D) (ts us : List Task) (r r' : Running)
      (first : GoesOnTo seen may_leave moment left_since c snap most f n x old ts y mid r)
      → GoesOnTo seen may_leave moment left_since (cast_in r) snap most f first.node y mid us z new r'
      → GoesOnTo seen may_leave moment left_since c snap most f n x old us z new r'
  on-and-on c n x y z old mid new ts us r r' first more = record {
    node = more.node;
    went = went_on seen moment left_since c snap most f n first.node more.node x y z old mid new first.went
        (subst (λ (k : Cast). Went seen moment left_since k snap most f first.node y mid more.node z new) first.cast more.went);
    is = more.is;
    cast = more.cast ∙ first.cast;
    lines = more.lines ∙ first.lines;
    script = more.script ∙ first.script;
  }

  -- and where it stops there
  pub on-and-stops : (c : Cast) (n : Node) (x y z : Outside) (old mid new : D) (ts : List Task) (r : Running) (why : Stop)
      (first : GoesOnTo seen may_leave moment left_since c snap most f n x old ts y mid r)
      → StopsSo seen may_leave moment left_since (cast_in r) snap most f first.node y mid why z new
      → StopsSo seen may_leave moment left_since c snap most f n x old why z new
  on-and-stops c n x y z old mid new ts r why first stops =
      stops-after seen may_leave moment left_since only_now c snap most f n first.node x y z old mid new why first.went
      (subst (λ (k : Cast). StopsSo seen may_leave moment left_since k snap most f first.node y mid why z new) first.cast stops)

  -- a part in which the disk stays as it is, and with it the hosted processes and the journal
  pub on-still : (r : Running) (n : Node) (x y : Outside) (d : D) (ts us : List Task) → IsNode f (seen d) (may_leave d) r n ts
      → Goes (cast_in r) snap most (at n ts) x (at n us) y
      → GoesOnTo seen may_leave moment left_since (cast_in r) snap most f n x d us y d r
  on-still r n x y d ts us is goes =
      let c : Cast = cast_in r in
      let went = subst (λ (m : Node). Went seen moment left_since c snap most f m x d (at n us) y d) (sym (at-so n ts is.at))
      (still seen may_leave moment left_since only_now c snap most f (at n ts) (at n us) x y d refl is.journal.rest goes) in
      record {
        node = at n us;
        went = went;
        is = is-now f r r (seen d) (may_leave d) n us refl is.hosts is.journal is.keyed
            (sound-on f c snap most n (at n us) x y went.goes is.keyed is.sound)
            (record { each = is.counts.each; few = is.counts.few });
        cast = refl;
        lines = refl;
        script = refl;
      }

  pub stops-there : (r : Running) (n : Node) (x y : Outside) (d : D) (ts : List Task) (why : Stop)
      → IsNode f (seen d) (may_leave d) r n ts → Ends (cast_in r) snap most (at n ts) x why y n.kept
      → StopsSo seen may_leave moment left_since (cast_in r) snap most f n x d why y d
  stops-there r n x y d ts why is ends =
      subst (λ (m : Node). StopsSo seen may_leave moment left_since (cast_in r) snap most f m x d why y d) (sym (at-so n ts is.at))
      (ends-still seen may_leave moment left_since only_now snap most f (cast_in r) (at n ts) x y d why refl is.journal.rest ends)

  -- no part
  pub on-nothing : (r : Running) (n : Node) (x : Outside) (d : D) (ts : List Task) → IsNode f (seen d) (may_leave d) r n ts
      → GoesOnTo seen may_leave moment left_since (cast_in r) snap most f n x d ts x d r
  on-nothing r n x d ts is = record {
    node = n;
    went = still seen may_leave moment left_since only_now (cast_in r) snap most f n n x x d is.at.opened is.journal.rest
        (nothing_goes (cast_in r) snap most n x);
    is = is;
    cast = refl;
    lines = refl;
    script = refl;
  }
