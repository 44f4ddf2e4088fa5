-- An own Order has 1 message to as many as the process may order at once.
use Rattle.std.proofs.Common.{◌≡◌, ◌⊎◌, inl, inr, ℕ, zero, suc, ◌≤◌, List, [], ◌∷◌, ◌++◌, length, Option, Some, None, true, refl, ap, subst, arith}
use Rattle.std.specs.Prelude.{nat_lt}
use Rattle.std.proofs.lemmas.Bool.{ltb-true}
use Rattle.std.proofs.lemmas.List.{map-append}
use Rattle.group_defs.specs.Below.{Message, Batch, Batch-discrete, Statement, Order, Claim}
use Rattle.group_defs.specs.Process.{Setting, Pool, Process, start}
use Rattle.group_defs.specs.Certified.{messages, own_orders}
use Rattle.group_defs.specs.Due.{may_sign, next_message, next_messages, next_batch, same_batch}
use Rattle.group_defs.specs.Signing.{own_claim}
use Rattle.group_defs.specs.Events.{run}
use Rattle.group_defs.specs.Family.{statements_of}
use Rattle.group_defs.specs.Laws.{OrdersWithinLimit}
use Rattle.safety_laws.proofs.Induction.{Keeps, run-keeps}
use Rattle.safety_laws.proofs.MaySign.{signing-due}
use Rattle.pool_laws.proofs.Members.{Contains-mem, Mem, snoc-mem}
use Rattle.pool_laws.proofs.Tests.{and-first, and-second, yes-is}

few : (more : ℕ) (h : Pool) (before : List Message) → length (next_messages more h before) ≤ more
unfolding next_messages
few zero h before = omega arith
few (suc more) h before = go (next_message h before) (λ m. few more h (before ++ m ∷ []))
  where
    go : (o : Option Message) → ((m : Message) → length (next_messages more h (before ++ m ∷ [])) ≤ more)
        → (let it : Batch = elim o [ None ↦ [] | Some m ↦ m ∷ next_messages more h (before ++ m ∷ []) ] in length it ≤ suc more)
    go None rest = omega arith
    go (Some m) rest = let le = rest m in omega (arith, le)

record Within (limit : ℕ) (p : Process) : Type 0 where
  pub same : p.batch_limit ≡ limit
  pub orders : (x k : ℕ) (b : Batch) → Mem (Order x k b) (statements_of p) → (1 ≤ length b) × (length b ≤ limit)

pub order-within : (s : Setting) (p : Process) (x k : ℕ) (b : Batch) → may_sign s p (Order x k b) ≡ true
    → (1 ≤ length b) × (length b ≤ p.batch_limit)
order-within s p x k b may =
    let due = signing-due s p (Order x k b) may in
    let is : b ≡ next_batch p = yes-is (Batch-discrete b (next_batch p)) (and-second _ _ due) in
    let some = ltb-true 0 (length b) (and-second _ (nat_lt 0 (length b)) (and-first _ (same_batch b (next_batch p)) due)) in
    let long : length b ≡ length (next_batch p) = ap length is in
    let le = few p.batch_limit p.pool (messages (own_orders p)) in
    (omega (arith, some), omega (arith, long, le))

keeps : (limit : ℕ) (s : Setting) (from : List Claim) → Keeps s from (Within limit)
keeps limit s from = record {
  accepts = λ p payload ok. record { same = ok.same; orders = ok.orders };
  perceives = λ p e ok. record { same = ok.same; orders = ok.orders };
  hears = λ p c m e ok. record { same = ok.same; orders = ok.orders };
  doubts = λ p conflicts ok. record { same = ok.same; orders = ok.orders };
  signs = λ p signer st next none ok. record {
    same = ok.same;
    orders = λ x k b m. signed p st next.may ok x k b
        (snoc-mem (statements_of p) st (Order x k b)
        (subst (Mem (Order x k b)) (map-append (λ (c : Claim). c.statement) p.signed (own_claim s signer p st ∷ [])) m));
  };
  decides = λ p ok. record { same = ok.same; orders = ok.orders };
  delivers = λ p ds member room e ok. record { same = ok.same; orders = ok.orders };
  installs = λ p d decided whole ok. record { same = ok.same; orders = ok.orders };
  halts = λ p d decided member ok. record { same = ok.same; orders = ok.orders };
}
  where
    signed : (p : Process) (st : Statement) → may_sign s p st ≡ true → Within limit p → (x k : ℕ) (b : Batch)
        → Mem (Order x k b) (statements_of p) ⊎ (st ≡ Order x k b) → (1 ≤ length b) × (length b ≤ limit)
    signed p st may ok x k b (inl before) = ok.orders x k b before
    signed p st may ok x k b (inr is) = subst (λ limit. (1 ≤ length b) × (length b ≤ limit)) ok.same
        (order-within s p x k b (subst (λ st. may_sign s p st ≡ true) is may))

pub orders_within_limit : OrdersWithinLimit
orders_within_limit s me limit turns x k b there =
    (run-keeps s (Within limit) turns (keeps limit s _) (start s me limit)
    (record { same = refl; orders = λ x k b m. absurd m })).orders x k b
    (Contains-mem (statements_of (run s (start s me limit) turns)) (Order x k b) there)
