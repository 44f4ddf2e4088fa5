-- A history of a guard, and one call more.
use Rattle.std.proofs.Common.{◌≡◌, ℕ, List, [], ◌∷◌, ◌++◌, Option, Some, None, refl, sym, subst}
use Rattle.std.proofs.lemmas.List.{append-nil}
use Rattle.group_defs.specs.Process.{Process}
use Rattle.member_events.specs.declared.events.Sending.{Sending}
use Rattle.node_defs.specs.Casts.{Cast}
use Rattle.node_defs.specs.Nodes.{Answer, Call, Done, Said, Words}
use Rattle.node_service.specs.Histories.{Asked, one_asked}
use Rattle.node_service.specs.Answers.{GoesOn, HasNone, SaysTo, HasAnswered, letters_in}
use Rattle.guard_defs.specs.Lines.{accuse_line}
use Rattle.guard_service.specs.Accusing.{HasAccused}
use Rattle.guard_service.specs.Answers.{AnswersOf, AnswersWord, AreGuards, IsGuards, accused_in}

guards-more : (h : List Asked) (i : Asked) → AreGuards h → IsGuards i → AreGuards (h ++ i ∷ [])
guards-more [] i are is = (is, tt)
guards-more (j ∷ h) i are is = (are.0, guards-more h i are.1 is)

pub one_more : (h : List Asked) (c : Cast) (shown : List Process) (call : Call) (a : Answer) → AreGuards h
    → AnswersOf c.setting shown call a → AreGuards (h ++ one_asked c shown call a)
one_more h c shown call a are is = guards-more h (record { cast = c; shown = shown; call = call; answer = a }) are is

-- the text stays
pub adds_nothing : (old : List ℕ) → GoesOn old old
adds_nothing old = ([], sym (append-nil old))

module _ {V : Type 0} (service : V) (h : List Asked) (c : Cast) (are : AreGuards h) where
  -- nothing was said
  pub tells_nothing : (shown : List Process) (call : Call) (old : List ℕ) → AnswersOf c.setting shown call (Said [] [])
      → HasAnswered (λ (v : V) (i : List Asked). AreGuards i) service h c shown call old old
  tells_nothing shown call old is = record {
    text = [];
    reported = sym (append-nil old);
    has = one_more h c shown call (Said [] []) are is;
  }

  module _ (p : ℕ) (now : Process) (line old : List ℕ) (sends : List Sending) where
    answers : (o : Option ℕ) (a : Answer) → accused_in line ≡ o → AnswersWord c.setting now o a
        → AreGuards (h ++ one_asked c (now ∷ []) (Words p line) a)
    answers o a is so = one_more h c (now ∷ []) (Words p line) a are
        (subst (λ (o : Option ℕ). AnswersWord c.setting now o a) (sym is) so)

    -- the line is none of a guard's
    pub has_none : accused_in line ≡ None
        → HasNone (λ (v : V) (i : List Asked). AreGuards i) service h c p now line old old sends sends
    has_none is = record { lines = refl; silent = refl; has = answers None Done is refl }

    -- the process accuses another
    pub says_to : (q : ℕ) (new : List ℕ) (sends' : List Sending) → accused_in line ≡ Some q → HasAccused c p now q old new sends sends'
        → SaysTo (λ (v : V) (i : List Asked). AreGuards i) service h c p now line old new sends sends'
    says_to q new sends' is it = record {
      text = accuse_line now q;
      more = it.more;
      reported = it.reported;
      sent = it.grown;
      can = it.can;
      has = answers (Some q) (Said (accuse_line now q) (letters_in it.more)) is
          (record { letters = letters_in it.more; said = refl; are = it.are });
    }
