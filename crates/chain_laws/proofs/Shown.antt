-- What a proof shows is backed in the family.
use Rattle.std.proofs.Common.{◌≡◌, ℕ, ◌+◌, List, length, Option, Some, None, Bool, true, false, refl, sym, ◌∙◌, subst, arith}
use Rattle.std.specs.Prelude.{◌||◌, ◌==◌, if◌then◌else◌, not, All, Contains, Result, Ok, Err}
use Rattle.std.specs.List.{list_any, range_with_len}
use Rattle.std.proofs.lemmas.Bool.{eqb-true, leb-true}
use Rattle.std.proofs.lemmas.List.Sums.{length-filter}
use Rattle.byte_defs.specs.Fields.{◌>>=◌}
use Rattle.message_defs.specs.Limits.{last_rank}
use Rattle.message_defs.specs.Updates.{Value}
use Rattle.message_defs.specs.Statements.{Statement, Ready, ReadyAt, Claim, view_of, same_statement}
use Rattle.group_defs.specs.Views.{View, is_member, is_possible, next_view, quorum}
use Rattle.group_defs.specs.Process.{Setting, Pool, Process, keyed}
use Rattle.group_defs.specs.Hearing.{is_valid}
use Rattle.group_defs.specs.Certified.{says, backers, is_certified, number_of_members, value_at}
use Rattle.group_defs.specs.Settle.{decided_at}
use Rattle.group_defs.specs.Family.{Family, ends, statements_of, IsOwned}
use Rattle.group_defs.specs.Laws.{IsBacked, may_back}
use Rattle.chain_defs.specs.declared.ChainFault.{ChainFault}
use Rattle.chain_defs.specs.declared.ChainFault.TheVariants as faults
use Rattle.chain_defs.specs.Advance.{proof_said, is_ready, counts, counted, shown, most_agreeing, shows, advance}
use Rattle.chain_laws.specs.Chains.{claims_read, IsOwnWord}
use Rattle.pool_laws.proofs.Counting.{length-filter-le}
use Rattle.pool_laws.proofs.Heard.{heard-says, value-certified}
use Rattle.pool_laws.proofs.Members.{All-mem, Contains-mem, Mem, each-list_all, filter-mem, mem-list_any}
use Rattle.pool_laws.proofs.Slots.{is-same_statement}
use Rattle.pool_laws.proofs.Tests.{and-four, some-same, then-some}
use Rattle.safety_laws.proofs.Installed.{IsDecided, first_some-is}

-- what is shown is certified among the claims that count, and its update is possible
shown-is : (s : Setting) (v : View) (cs : List Claim) (d : ℕ × Value) → shown s v cs ≡ Some d → IsDecided s (counted s v cs) d
shown-is s v cs d e =
    let h : Pool = counted s v cs in
    let at = first_some-is (decided_at s h) (range_with_len 0 (last_rank + 1)) d e in
    let w = then-some (λ w. if is_possible (keyed s) v w.update then Some (at.0, w) else None) (value_at h (ReadyAt v.number at.0)) d at.1 in
    go h at.0 w.0 w.1 (is_possible (keyed s) v w.0.update) refl w.2
  where
    go : (h : Pool) (r : ℕ) (w : Value) → value_at h (ReadyAt h.view.number r) ≡ Some w → (b : Bool)
        → is_possible (keyed s) h.view w.update ≡ b → (if b then Some (r, w) else None) ≡ Some d → IsDecided s h d
    go h r w e true f is = subst (IsDecided s h) (some-same (r, w) d is) (f, value-certified h r w e)
    go h r w e false f is = absurd cc

-- the view behind this one, by a value that a quorum has readied
pub record Steps (f : Family) (v w : View) : Type 0 where
  pub rank : ℕ
  pub value : Value
  pub possible : is_possible (keyed f.setting) v value.update ≡ true
  pub backed : IsBacked f v (Ready v.number rank value)
  pub next : w ≡ next_view v value.update

module _ (f : Family) (v : View) (cs : List Claim) (own : All (IsOwned f) cs) where
  abbrev pool : Pool
  pool = counted f.setting v cs

  -- a member says what it may back
  said-may_back : (st : Statement) (m : ℕ) → says pool st m ≡ true → may_back f st m ≡ true
  said-may_back st m e =
      let c = heard-says pool st m e in
      let from = filter-mem (counts f.setting v) cs c.0 c.1 in
      let tests = and-four (is_ready c.0.statement) (view_of c.0.statement == v.number) (is_member v c.0.signer)
      (is_valid f.setting c.0) from.1 in
      let word = All-mem (IsOwned f) cs c.0 own from.0 tests.3 in
      each-list_all (λ p. not (p.me == m) || list_any (same_statement st) (statements_of p)) (ends f) (λ p at. go p (p.me == m) refl (λ is.
      mem-list_any (same_statement st) (statements_of p) st
      (subst (λ st. Mem st (statements_of p)) c.3 (Contains-mem (statements_of p) c.0.statement
      (All-mem (λ (p : Process). p.me ≡ c.0.signer → Contains (statements_of p) c.0.statement) (ends f) p word at (is ∙ sym c.2))))
      (is-same_statement st st refl)))
    where
      go : (p : Process) (b : Bool) → (p.me == m) ≡ b → (p.me ≡ m → list_any (same_statement st) (statements_of p) ≡ true)
          → (not b || list_any (same_statement st) (statements_of p)) ≡ true
      go p true e said = said (eqb-true p.me m e)
      go p false e said = refl

  shown-backed : (st : Statement) → is_certified pool st ≡ true → IsBacked f v st
  shown-backed st certified =
      let enough = leb-true (quorum (number_of_members pool)) (length (backers pool st)) certified in
      let grown = length-filter-le (says pool st) (may_back f st) v.members (said-may_back st) in
      let counted' = length-filter (may_back f st) v.members in
      omega (arith, enough, grown, counted')

  shows-steps : (w : View) → shows f.setting v cs ≡ Ok w → Steps f v w
  shows-steps w e = go (shown f.setting v cs) refl e
    where
      here : (d : ℕ × Value) → shown f.setting v cs ≡ Some d → next_view v d.1.update ≡ w → Steps f v w
      here d is e' =
          let decided = shown-is f.setting v cs d is in
          record {
            rank = d.0;
            value = d.1;
            possible = decided.0;
            backed = shown-backed (Ready v.number d.0 d.1) decided.1;
            next = sym e';
          }

      go : (o : Option (ℕ × Value)) → shown f.setting v cs ≡ o
          → let it : Result View ChainFault = elim o [
            | None ↦ Err (faults.Few (most_agreeing pool))
            | Some d ↦ Ok (next_view v d.1.update)
          ] in it ≡ Ok w → Steps f v w
      go None is e' = absurd cc
      go (Some d) is e' = here d is cc

-- a proof that is the own word of correct processes
pub advance-steps : (f : Family) (v w : View) (bytes : List ℕ) → IsOwnWord f bytes → advance f.setting v bytes ≡ Ok w → Steps f v w
unfolding advance
advance-steps f v w bytes own e = go (proof_said bytes) refl own e
  where
    go : (r : Result (List Claim) ChainFault) → proof_said bytes ≡ r → All (IsOwned f) (claims_read r) → (r >>= shows f.setting v) ≡ Ok w
        → Steps f v w
    go (Ok cs) is own e = shows-steps f v cs own w e
    go (Err fault) is own e = absurd cc
