-- An account tells more since a mark.
use Rattle.std.proofs.Common.{◌≡◌, ◌∙◌, ℕ, ◌≤◌, List, [], ◌∷◌, ◌++◌, length, take, Option, Some, None, true, refl, sym, ap, arith, map, length-append, Vec, Global}
use Rattle.std.specs.Prelude.{IsSome, is_some}
use Rattle.std.specs.Option.{MatchOption}
use Rattle.std.proofs.lemmas.List.{take-append-le}
use Rattle.message_defs.specs.Updates.{Update}
use Rattle.rp_base.specs.declared.updates.Update as code
use Rattle.group_defs.specs.Process.{Delivered}
use Rattle.group_defs.specs.Accounts.{Account}
use Rattle.accounts.specs.declared.mark.AccountMark.{AccountMark}
use Rattle.accounts.specs.Views.{perceived}
use Rattle.accounts.specs.Marks.{GrewSince}

module _ (m : AccountMark) (was now : Account) (is : GrewSince m was now) where
  -- more is accepted
  pub more_accepted : (more : List (List ℕ)) → GrewSince m was (record now { accepted = now.accepted ++ more })
  more_accepted more = record {
    number = is.number;
    views = is.views;
    before = is.before;
    last = is.last;
    lists = is.lists;
    delivered = is.delivered;
    few = is.few;
    accepted = take-append-le m.accepted now.accepted more is.few_accepted ∙ is.accepted;
    few_accepted = omega (arith, is.few_accepted, length-append now.accepted more);
    asked = is.asked;
  }

  -- more is delivered in the current view
  pub more_delivered : (ds : List Delivered) → GrewSince m was (record now { delivered = is.before ++ (is.last ++ ds) ∷ [] })
  more_delivered ds = record {
    number = is.number;
    views = is.views;
    before = is.before;
    last = is.last ++ ds;
    lists = refl;
    delivered = is.delivered ∙ ap (λ (xs : List Delivered). is.before ++ xs ∷ []) (sym (take-append-le m.delivered is.last ds is.few));
    few = omega (arith, is.few, length-append is.last ds);
    accepted = is.accepted;
    few_accepted = is.few_accepted;
    asked = is.asked;
  }

  -- other updates are perceived, where the mark keeps those that were
  pub others_perceived : IsSome m.perceived → (es : List (ℕ × Update)) → GrewSince m was (record now { perceived = es })
  others_perceived some es = record {
    number = is.number;
    views = is.views;
    before = is.before;
    last = is.last;
    lists = is.lists;
    delivered = is.delivered;
    few = is.few;
    accepted = is.accepted;
    few_accepted = is.few_accepted;
    asked = go m.perceived some is.asked;
  }
    where
      go : (o : Option (Vec (ℕ × code.Update) Global)) → is_some o ≡ true
          → MatchOption o (now.perceived ≡ was.perceived) (λ xs. map perceived xs.items ≡ was.perceived)
          → MatchOption o (es ≡ was.perceived) (λ xs. map perceived xs.items ≡ was.perceived)
      go None none so = absurd cc
      go (Some xs) some so = so
