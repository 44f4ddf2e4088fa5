-- What a row of the table tells of who says what.
use Rattle.std.proofs.Common.{◌≡◌, ◌≢◌, ◌⊎◌, inl, inr, ℕ, zero, suc, ◌+◌, ◌*◌, ◌<◌, ◌≤◌, List, [], ◌∷◌, ◌++◌, length, map, Option, Some, None, Bool, true, false, refl, sym, ap, ◌∙◌, subst, arith}
use Rattle.std.specs.Prelude.{◌&&◌, ◌==◌, nat_le, nat_lt, cond, filter, take, option_map, option_and_then, slice_index, slice_index_or}
use Rattle.std.specs.List.{AllByRecursion}
use Rattle.std.proofs.lemmas.Bool.{leb-true, le-leb, ltb-false, ltb-true}
use Rattle.std.proofs.lemmas.List.Filters.{length-filter_more}
use Rattle.byte_defs.specs.Choices.{is_some_and}
use Rattle.message_defs.specs.Updates as updates
use Rattle.message_defs.specs.Statements.{Statement, Ready, Slot, ReadyAt, Claim, slot_of, value_of, same_slot, same_statement}
use Rattle.group_defs.specs.Views.{quorum}
use Rattle.group_defs.specs.Process.{Pool}
use Rattle.group_defs.specs.Certified.{claim_on, heard_on, says, backers, is_certified, certified_on, number_of_members}
use Rattle.rp_base.specs.declared.updates.Value.{Value}
use Rattle.rp_base.specs.declared.updates.Update.{Update}
use Rattle.rp_base.specs.declared.updates.Update.TheVariants.{Remove, Add, Renew}
use Rattle.rp_base.specs.Views.{update, value}
use Rattle.pool_laws.proofs.Grown.{certified-is, is-certified}
use Rattle.pool_laws.proofs.Heard.{heard-says, heard_on-said}
use Rattle.pool_laws.proofs.Members.{Mem, filter-mem, mem-map, some-mem}
use Rattle.pool_laws.proofs.Places.{index-is, mem-slice_get, slice_get-length}
use Rattle.pool_laws.proofs.Slots.{is-same_statement, same_statement-is}
use Rattle.pool_laws.proofs.Tests.{none-some, some-and, some-same}
use Rattle.chain_check.specs.Readies.{IsBest, IsLeading, said, sayers}
use Rattle.chain_check.specs.declared.readies.Leading.{Leading}
use Rattle.chain_check.proofs.Tables.{at-ready}

-- ---- values of the code and of the definitions

update-one : (a b : Update) → update a ≡ update b → a ≡ b
update-one (Remove p) (Remove q) e = let is : p ≡ q = cc in ap Remove is
update-one (Add p) (Add q) e = let is : p ≡ q = cc in ap Add is
update-one Renew Renew e = refl
update-one (Remove p) (Add q) e = absurd cc
update-one (Remove p) Renew e = absurd cc
update-one (Add p) (Remove q) e = absurd cc
update-one (Add p) Renew e = absurd cc
update-one Renew (Remove q) e = absurd cc
update-one Renew (Add q) e = absurd cc

pub value-one : (a b : Value) → value a ≡ value b → a ≡ b
value-one a b e = λ i. record { update = update-one a.update b.update (ap (λ (v : updates.Value). v.update) e) i; cut = (e i).cut }

-- ---- who says a value

module _ (h : Pool) (r : ℕ) where
  abbrev ready : updates.Value → Statement
  ready w = Ready h.view.number r w

  pub says-said : (m : ℕ) (w : updates.Value) → said h r m ≡ Some w → says h (ready w) m ≡ true
  says-said m w e = go (heard_on h m (ReadyAt h.view.number r)) refl e
    where
      go : (o : Option Statement) → heard_on h m (ReadyAt h.view.number r) ≡ o → option_and_then value_of o ≡ Some w
          → is_some_and o (same_statement (ready w)) ≡ true
      go None f e = absurd cc
      go (Some st) f e =
          let on = (heard_on-said h m (ReadyAt h.view.number r) st f).1 in
          let is = at-ready st h.view.number r on in
          let same : is.0 ≡ w = some-same is.0 w (sym (ap value_of is.1) ∙ e) in
          is-same_statement (ready w) st (sym (is.1 ∙ ap ready same))

  pub said-says : (m : ℕ) (w : updates.Value) → says h (ready w) m ≡ true → said h r m ≡ Some w
  said-says m w e =
      let one = some-and (heard_on h m (ReadyAt h.view.number r)) (same_statement (ready w)) e in
      let same = same_statement-is (ready w) one.0 one.2 in
      ap (option_and_then value_of) one.1 ∙ ap value_of (sym same)

  -- the member at a place says what its cell holds, and nothing else
  pub cell-says : (m : ℕ) (cell : Option Value) (v : Value) → option_map value cell ≡ said h r m → cell ≡ Some v
      → says h (ready (value v)) m ≡ true
  cell-says m cell v e is = says-said m (value v) (sym e ∙ ap (option_map value) is)

  pub says-cell : (m : ℕ) (cell : Option Value) (v : Value) → option_map value cell ≡ said h r m → says h (ready (value v)) m ≡ true
      → cell ≡ Some v
  says-cell m cell v e is = go cell (e ∙ said-says m (value v) is)
    where
      go : (o : Option Value) → option_map value o ≡ Some (value v) → o ≡ Some v
      go None e = absurd cc
      go (Some u) e = ap Some (value-one u v (some-same (value u) (value v) e))

  -- one member more is counted, where it says the value
  pub counts-one : (i count : ℕ) (cell : Option Value) (v : Value) → i < number_of_members h
      → option_map value cell ≡ said h r (slice_index h.view.members i)
      → count ≡ length (filter (says h (ready (value v))) (take i h.view.members)) → cell ≡ Some v
      → count + 1 ≡ length (filter (says h (ready (value v))) (take (i + 1) h.view.members))
  counts-one i count cell v lt at e is =
      let p : ℕ → Bool = says h (ready (value v)) in
      let yes' : p (slice_index h.view.members i) ≡ true = cell-says (slice_index h.view.members i) cell v at is in
      ap (λ n. n + 1) e ∙ sym (length-filter_more p h.view.members i 0 lt
      ∙ ap (λ b. length (filter p (take i h.view.members)) + cond b 1 0) yes')

  pub counts-none : (i count : ℕ) (cell : Option Value) (v : Value) → i < number_of_members h
      → option_map value cell ≡ said h r (slice_index h.view.members i)
      → count ≡ length (filter (says h (ready (value v))) (take i h.view.members)) → (cell ≡ Some v → ⊥)
      → count ≡ length (filter (says h (ready (value v))) (take (i + 1) h.view.members))
  counts-none i count cell v lt at e other =
      let more = length-filter_more (says h (ready (value v))) h.view.members i 0 lt in
      let same = more ∙ ap (λ b. length (filter (says h (ready (value v))) (take i h.view.members)) + cond b 1 0)
      (silent (says h (ready (value v)) (slice_index h.view.members i)) refl) in
      omega (arith, e, same)
    where
      silent : (b : Bool) → says h (ready (value v)) (slice_index h.view.members i) ≡ b → b ≡ false
      silent false f = refl
      silent true f = absurd (other (says-cell (slice_index h.view.members i) cell v at f))

  -- who says it is found at some place
  pub sayer-at : (w : updates.Value) → 0 < sayers h r w
      → (i : ℕ) × (i < number_of_members h) × (said h r (slice_index h.view.members i) ≡ Some w)
  sayer-at w some =
      let m = some-mem (backers h (ready w)) some in
      let from = filter-mem (says h (ready w)) h.view.members m.0 m.1 in
      let at = mem-slice_get h.view.members m.0 from.0 in (
        at.0,
        slice_get-length h.view.members at.0 m.0 at.1,
        subst (λ n. said h r n ≡ Some w) (sym (index-is h.view.members at.0 0 m.0 at.1)) (said-says m.0 w from.1),
      )

  -- and a claim that says it is heard
  pub heard-ready : (w : updates.Value) → 0 < sayers h r w → (c : Claim) × Mem c h.heard × (c.statement ≡ ready w)
  heard-ready w some =
      let m = some-mem (backers h (ready w)) some in
      let from = filter-mem (says h (ready w)) h.view.members m.0 m.1 in
      let claim = heard-says h (ready w) m.0 from.1 in
      (claim.0, claim.1, claim.3)

  -- ---- what is certified

  module _ (some : 1 ≤ number_of_members h) where
    pub leads-certified : (l : Leading) → IsLeading h r (Some l) → nat_lt l.count (quorum (number_of_members h)) ≡ false
        → certified_on h (ReadyAt h.view.number r) ≡ Some (ready (value l.value))
    leads-certified l is enough =
        let q : quorum (number_of_members h) ≤ l.count = not-below l.count (quorum (number_of_members h)) enough in
        let said' = heard-ready (value l.value) (omega (arith, is.0, is.1)) in
        let there : Mem (ready (value l.value)) (map (λ c. c.statement) h.heard) = subst
        (λ st. Mem st (map (λ (c : Claim). c.statement) h.heard)) said'.2 (mem-map (λ (c : Claim). c.statement) h.heard said'.0 said'.1) in
        is-certified h some (ReadyAt h.view.number r) (ready (value l.value)) there refl
        (le-leb (quorum (number_of_members h)) (sayers h r (value l.value)) (omega (arith, q, is.0)))
      where
        not-below : (a b : ℕ) → nat_lt a b ≡ false → b ≤ a
        not-below a b e = ltb-false a b e

    pub none-certified : (most : ℕ) → ((w : updates.Value) → sayers h r w ≤ most) → most < quorum (number_of_members h)
        → certified_on h (ReadyAt h.view.number r) ≡ None
    none-certified most few short = go (certified_on h (ReadyAt h.view.number r)) refl
      where
        go : (o : Option Statement) → certified_on h (ReadyAt h.view.number r) ≡ o → o ≡ None
        go None e = refl
        go (Some st) e =
            let is = certified-is h (ReadyAt h.view.number r) st e in
            let says' = at-ready st h.view.number r is.1 in
            let enough = leb-true (quorum (number_of_members h)) (length (backers h st)) is.2 in
            let le : length (backers h st) ≤ most = subst (λ st. length (backers h st) ≤ most) (sym says'.1) (few says'.0) in
            absurd (omega (arith, enough, le, short))

-- ---- the value that most say

module _ (h : Pool) (r : ℕ) where
  -- what the members before this place say is said by no more than so many
  abbrev pub NoneMore : ℕ → ℕ → Type 0
  NoneMore i most = (j : ℕ) (w : updates.Value) → j < i → said h r (slice_index h.view.members j) ≡ Some w → sayers h r w ≤ most

  last-or-before : (i j : ℕ) → j < i + 1 → (j < i) ⊎ (j ≡ i)
  last-or-before i j lt = go (nat_lt j i) refl
    where
      go : (b : Bool) → nat_lt j i ≡ b → (j < i) ⊎ (j ≡ i)
      go true e = inl (ltb-true j i e)
      go false e = let ge = ltb-false j i e in inr (omega (arith, ge, lt))

  pub silent-next : (i most : ℕ) (cell : Option Value) → option_map value cell ≡ said h r (slice_index h.view.members i) → cell ≡ None
      → NoneMore i most → NoneMore (i + 1) most
  silent-next i most cell at none before j w lt e = elim (last-or-before i j lt) [
    | inl less ↦ before j w less e
    | inr same ↦ absurd (none-some (sym at ∙ ap (option_map value) none)
        (subst (λ k. said h r (slice_index h.view.members k) ≡ Some w) same e))
  ]

  pub said-next : (i most more : ℕ) (cell : Option Value) (v : Value) → option_map value cell ≡ said h r (slice_index h.view.members i)
      → cell ≡ Some v → most ≤ more → sayers h r (value v) ≤ more → NoneMore i most → NoneMore (i + 1) more
  said-next i most more cell v at is up enough before j w lt e = elim (last-or-before i j lt) [
    | inl less ↦ (let le = before j w less e in omega (arith, le, up))
    | inr same ↦ (let says' : Some (value v) ≡ Some w = ap (option_map value) (sym is) ∙ at
        ∙ subst (λ k. said h r (slice_index h.view.members k) ≡ Some w) same e in
        subst (λ x. sayers h r x ≤ more) (some-same (value v) w says') enough)
  ]

  none-more : (most : ℕ) → NoneMore (number_of_members h) most → (w : updates.Value) → sayers h r w ≤ most
  none-more most before w = go (nat_lt 0 (sayers h r w)) refl
    where
      go : (b : Bool) → nat_lt 0 (sayers h r w) ≡ b → sayers h r w ≤ most
      go true e = let at = sayer-at h r w (ltb-true 0 (sayers h r w) e) in before at.0 w at.1 at.2
      go false e = let le = ltb-false 0 (sayers h r w) e in omega (arith, le)

  pub leading-is : (best : Option Leading) (most : ℕ) → most ≤ 16 → IsBest h r best most → NoneMore (number_of_members h) most
      → IsLeading h r best
  leading-is None most few is before = λ w. (let le = none-more most before w in omega (arith, le, is))
  leading-is (Some l) most few is before = (
    is.0 ∙ is.1,
    (let some = is.2 in let e = is.0 in omega (arith, some, e)),
    (let e = is.0 in omega (arith, few, e)),
    λ w. (let le = none-more most before w in let e = is.0 in omega (arith, le, e)),
  )
