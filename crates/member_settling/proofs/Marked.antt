-- A state that is settled, since a mark.
use Rattle.std.proofs.Common.{◌≡◌, ◌∙◌, ◌-◌, List, [], ◌∷◌, ◌++◌, length, take, Option, Some, None, refl, sym, ap, subst, arith}
use Rattle.std.specs.Option.{MatchOption}
use Rattle.message_defs.specs.Packing.{Signed}
use Rattle.group_defs.specs.Views.{View}
use Rattle.group_defs.specs.Process as defs
use Rattle.group_defs.specs.Process.{Pool}
use Rattle.group_defs.specs.Accounts.{Account}
use Rattle.pool_laws.proofs.Places.{length-snoc}
use Rattle.claim_index.specs.Kept.{Holding}
use Rattle.own_place.specs.declared.own.Own.{Own}
use Rattle.member_state.specs.Parts.{Archived}
use Rattle.member_state.specs.Below.{Phase}
use Rattle.accounts.specs.declared.account.Account as code
use Rattle.accounts.specs.Views.{account}
use Rattle.accounts.specs.Marks.{GrewSince, without_last}
use Rattle.accounts.proofs.Since.{more_delivered}
use Rattle.member_state.specs.declared.marks.Before.{Before}
use Rattle.member_state.specs.declared.left.LeftView.{LeftView}
use Rattle.member_state.specs.declared.left.SaidBefore.{SaidBefore}
use Rattle.member_state.specs.declared.state.ProcessState.{ProcessState}
use Rattle.member_state.specs.Marks.{Stays, HasLeft, Since}
use Rattle.member_settling.specs.Reported.{HasMoreLast}
use Rattle.member_settling.specs.Steps.{in_phase}

-- ---- the account without its last view

firsts : {A : Type 0} (xs : List A) (x : A) → take (length xs) (xs ++ x ∷ []) ≡ xs
firsts [] x = refl
firsts (y ∷ xs) x = ap (λ ys. y ∷ ys) (firsts xs x)

but-last : {A : Type 0} (xs : List A) (x : A) → take (length (xs ++ x ∷ []) - 1) (xs ++ x ∷ []) ≡ xs
but-last xs x =
    let count : length (xs ++ x ∷ []) - 1 ≡ length xs = (let more = length-snoc xs x in omega (arith, more)) in
    ap (λ n. take n (xs ++ x ∷ [])) count ∙ firsts xs x

-- a view that was put behind the others is taken away again
pub without-put : (a now : Account) (v : View)
    → now ≡ record a { views = a.views ++ v ∷ []; delivered = a.delivered ++ [] ∷ [] } → without_last now ≡ a
without-put a now v put =
    ap (λ (a : Account). without_last a) put
    ∙ (λ i. record a { views = but-last a.views v i; delivered = but-last a.delivered [] i })

-- ---- in the view of the mark

module _ (b : Before) (was now : ProcessState) (is : Stays b was now) where
  -- in another phase
  pub stays-in : (phase : Phase) → Stays b was (in_phase phase now)
  stays-in phase = record {
    kept = is.kept;
    pool = is.pool;
    slots = is.slots;
    said = is.said;
    said_from = is.said_from;
    said_before = is.said_before;
    pairs = is.pairs;
    previous = is.previous;
    commits = is.commits;
    account = is.account;
    limit = is.limit;
  }

  -- more is delivered in the last list
  pub delivers-stays : (own : Own) (reported : code.Account) → own.signed.marked ≡ now.own.signed.marked
      → account reported ≡ record (account now.account) { delivered = (account reported).delivered }
      → ((before : List (List defs.Delivered)) (last : List defs.Delivered) → (account now.account).delivered ≡ before ++ last ∷ []
      → HasMoreLast before last (account reported).delivered) → Stays b was (record now { own = own; account = reported })
  delivers-stays own reported slots rest puts =
      let put = puts is.account.before is.account.last is.account.lists in
      let tells : account reported ≡ record (account now.account) { delivered = is.account.before ++ (is.account.last ++ put.more) ∷ [] } =
      rest ∙ ap (λ (ls : List (List defs.Delivered)). record (account now.account) { delivered = ls }) put.delivered in
      record {
        kept = is.kept;
        pool = is.pool;
        slots = slots ∙ is.slots;
        said = is.said;
        said_from = is.said_from;
        said_before = is.said_before;
        pairs = is.pairs;
        previous = is.previous;
        commits = is.commits;
        account = subst (λ (a : Account). GrewSince b.account (account was.account) a) (sym tells)
            (more_delivered b.account (account was.account) (account now.account) is.account put.more);
        limit = is.limit;
      }

  -- the pool, the archive, the lists of what was said before and what is told are as they were
  pub stays-same : (then_ : ProcessState) → then_.pool ≡ now.pool → then_.archive ≡ now.archive
      → then_.said_before.items ≡ now.said_before.items → account then_.account ≡ account now.account
      → then_ ≡ record now {
        pool = then_.pool;
        archive = then_.archive;
        said_before = then_.said_before;
        account = then_.account;
      } → Stays b was then_
  stays-same then_ pool archive before reported rest = record {
    kept = is.kept;
    pool = ap (λ (h : Holding). h.marked) pool ∙ is.pool;
    slots = ap (λ (st : ProcessState). st.own.signed.marked) rest ∙ is.slots;
    said = ap (λ (st : ProcessState). st.said.marked) rest ∙ is.said;
    said_from = ap (λ (st : ProcessState). st.said_from) rest ∙ is.said_from;
    said_before = before ∙ is.said_before;
    pairs = ap (λ (st : ProcessState). st.conflicts.marked) rest ∙ is.pairs;
    previous = ap (λ (a : Archived). a.previous) archive ∙ is.previous;
    commits = ap (λ (a : Archived). a.commits) archive ∙ is.commits;
    account = subst (λ (a : Account). GrewSince b.account (account was.account) a) (sym reported) is.account;
    limit = ap (λ (st : ProcessState). st.batch_limit) rest ∙ is.limit;
  }

  -- no view was left
  pub since-here : now.left ≡ None → Since b was now
  since-here here = subst (λ (o : Option LeftView). MatchOption o (Stays b was now) (λ left. HasLeft b was left now)) (sym here) is

-- ---- behind the view of the mark

-- the pool of the view that is left is kept, its commit certificate, and what was said there, and the next view is put behind those of the
-- account
pub record Turns (v : View) (commit : List Signed) (older : Option Pool) (old new : ProcessState) : Type 0 where
  pub left : new.left ≡ Some (record { signed = old.own.signed; older = older })
  pub said_before : new.said_before.items ≡ old.said_before.items ++ record { claims = old.said; from = old.said_from } ∷ []
  pub limit : new.batch_limit ≡ old.batch_limit
  pub pairs : new.conflicts.marked ≡ old.conflicts.marked
  pub previous : older ≡ old.archive.previous
  pub pool : new.archive.marked ≡ Some old.pool.marked
  pub commits : new.archive.commits ≡ old.archive.commits ++ commit ∷ []
  pub account : account new.account
      ≡ record (account old.account) {
        views = (account old.account).views ++ v ∷ [];
        delivered = (account old.account).delivered ++ [] ∷ [];
      }

pub since-left : (b : Before) (was old new : ProcessState) (v : View) (commit : List Signed) (older : Option Pool)
    → Turns v commit older old new → Stays b was old → Since b was new
since-left b was old new v commit older turns is =
    let left : LeftView = record { signed = old.own.signed; older = older } in
    let last : SaidBefore = record { claims = old.said; from = old.said_from } in
    let has : HasLeft b was left new = record {
      kept = is.kept;
      pool = turns.pool ∙ ap Some is.pool;
      slots = is.slots;
      last = last;
      said = is.said;
      said_from = is.said_from;
      said_before = turns.said_before ∙ ap (λ (ls : List SaidBefore). ls ++ last ∷ []) is.said_before;
      pairs = turns.pairs ∙ is.pairs;
      previous = turns.previous ∙ is.previous;
      commits = ap (λ (cs : List (List Signed)). take (length cs - 1) cs) turns.commits ∙ but-last old.archive.commits commit ∙ is.commits;
      account = subst (λ (a : Account). GrewSince b.account (account was.account) a)
          (sym (without-put (account old.account) (account new.account) v turns.account)) is.account;
      limit = turns.limit ∙ is.limit;
    } in
    subst (λ (o : Option LeftView). MatchOption o (Stays b was new) (λ left. HasLeft b was left new)) (sym turns.left) has
