-- A history of nothing, and one call more that was answered with nothing.
use Rattle.std.proofs.Common.{ℕ, List, [], ◌∷◌, ◌++◌, refl, sym}
use Rattle.std.proofs.lemmas.List.{append-nil}
use Rattle.group_defs.specs.Process.{Process}
use Rattle.member_events.specs.declared.events.Sending.{Sending}
use Rattle.node_defs.specs.Casts.{Cast}
use Rattle.node_defs.specs.Nodes.{Call, Words, Answer, Done, Said}
use Rattle.node_traces.specs.Service.{Asked, one_asked}
use Rattle.node_service.specs.Answers.{GoesOn, HasAnswered, HasNone}
use Rattle.node_service.specs.Silent.{IsNothing, AreNothing}

nothing-more : (h : List Asked) (i : Asked) → AreNothing h → IsNothing i.call i.answer → AreNothing (h ++ i ∷ [])
nothing-more [] i are is = (is, tt)
nothing-more (j ∷ h) i are is = (are.0, nothing-more h i are.1 is)

pub one_more : (h : List Asked) (c : Cast) (shown : List Process) (call : Call) (a : Answer) → AreNothing h → IsNothing call a
    → AreNothing (h ++ one_asked c shown call a)
one_more h c shown call a are is = nothing-more h (record { cast = c; shown = shown; call = call; answer = a }) are is

-- the text stays
pub adds_nothing : (old : List ℕ) → GoesOn old old
adds_nothing old = ([], sym (append-nil old))

module _ {V : Type 0} (service : V) (h : List Asked) (c : Cast) (are : AreNothing h) where
  -- nothing was said
  pub tells_nothing : (shown : List Process) (call : Call) (old : List ℕ) → IsNothing call (Said [] [])
      → HasAnswered (λ (v : V) (i : List Asked). AreNothing i) service h c shown call old old
  tells_nothing shown call old is = record {
    text = [];
    reported = sym (append-nil old);
    has = one_more h c shown call (Said [] []) are is;
  }

  -- there is no such line
  pub has_none : (p : ℕ) (now : Process) (line old : List ℕ) (sends : List Sending)
      → HasNone (λ (v : V) (i : List Asked). AreNothing i) service h c p now line old old sends sends
  has_none p now line old sends = record {
    lines = refl;
    silent = refl;
    has = one_more h c (now ∷ []) (Words p line) Done are refl;
  }
