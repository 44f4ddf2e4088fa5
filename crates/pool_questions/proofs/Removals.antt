-- The updates that more than f members notify, as a set has them.
use Rattle.std.proofs.Common.{◌≡◌, ℕ, ◌<◌, List, [], length, Bool, true, false, refl, sym, ap, ◌∙◌, arith}
use Rattle.std.specs.Prelude.{◌==◌, nat_lt, filter_map, min, take_while, ◌-◌}
use Rattle.std.specs.List.{list_any}
use Rattle.std.proofs.lemmas.Bool.{lt-ltb, le-ltb}
use Rattle.message_defs.specs.Updates.{Update, Remove}
use Rattle.message_defs.specs.Statements.{Claim}
use Rattle.group_defs.specs.Process.{Pool}
use Rattle.group_defs.specs.Certified.{is_notified, notified_updates, update_said, removed_rank, number_of_members}
use Rattle.claim_pool.proofs.Members.{Mem, mem-some, none-in, filter-mem}
use Rattle.claim_pool.proofs.Notified.{notified-heard}
use Rattle.claim_pool.specs.Updates.{UpdateSet, has_update, AreNotified}

pub some-notified : (h : Pool) (s : UpdateSet) (u : Update) → AreNotified h s → has_update s u ≡ true
    → true ≡ nat_lt 0 (length (notified_updates h))
some-notified h s u are e = sym
    (lt-ltb 0 (length (notified_updates h)) (mem-some (notified_updates h) u (notified-heard h u (sym (are u) ∙ e))))

pub none-notified : (h : Pool) (s : UpdateSet) → AreNotified h s → ((u : Update) → has_update s u ≡ false)
    → false ≡ nat_lt 0 (length (notified_updates h))
none-notified h s are none =
    let empty : notified_updates h ≡ [] = none-in (notified_updates h) (λ u m.
    let is : is_notified h u ≡ true = (filter-mem (is_notified h) (filter_map (λ (c : Claim). update_said c.statement) h.heard) u m).1 in
    let not : is_notified h u ≡ false = sym (are u) ∙ none u in cc) in
    sym (ap (λ (us : List Update). nat_lt 0 (length us)) empty ∙ le-ltb 0 0 (omega arith))

-- those of a rank below it are in the set of those to be removed
pub removed-by-set : (h : Pool) (ms : List ℕ) (s : UpdateSet) (set : List ℕ) (n : ℕ) → AreNotified h s
    → ((p : ℕ) → list_any (λ q. q == p) set ≡ has_update s (Remove p)) → ms ≡ h.view.members
    → n ≡ min (length (take_while (λ m. list_any (λ q. q == m) set) ms)) (length ms - 1) → n ≡ removed_rank h
removed-by-set h ms s set n are in_set same e =
    e
    ∙ (λ i. min (length (take_while (λ m. (in_set m ∙ are (Remove m)) i) (same i))) (length (same i) - 1))
    ∙ swap (length (take_while (λ m. is_notified h (Remove m)) h.view.members)) (number_of_members h - 1)
  where
    swap : (a b : ℕ) → min a b ≡ min b a
    swap a b = omega arith
