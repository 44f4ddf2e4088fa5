-- A chain gives the views of the group, and two chains never fork.
use Rattle.std.proofs.Common.{◌≡◌, inl, inr, ℕ, zero, suc, ◌+◌, ◌<◌, List, [], ◌∷◌, length, Some, true, false, refl, sym, ap, ◌∙◌, subst, arith, slice_get}
use Rattle.std.specs.Prelude.{◌==◌, not, filter, All, Result, Ok, Err, is_none}
use Rattle.std.proofs.lemmas.Bool.{eqb-true}
use Rattle.byte_defs.specs.Members.{has}
use Rattle.message_defs.specs.Updates.{Value}
use Rattle.message_defs.specs.Statements.{Ready}
use Rattle.group_defs.specs.Views.{View, quorum, has_keys, next_fault, next_view}
use Rattle.group_defs.specs.Process.{Left, Process, keyed, views_of}
use Rattle.group_defs.specs.Family.{Correct, Family, numbers, end_of, ends, statements_of}
use Rattle.group_defs.specs.Laws.{Premises, IsOneView, IsViewOfAll, IsBacked, may_back}
use Rattle.chain_defs.specs.declared.ChainFault.{ChainFault}
use Rattle.chain_defs.specs.Advance.{advance, views_shown}
use Rattle.chain_laws.specs.Chains.{IsOwnWord, chain, GenesisIsOfAll, GenesisIsInstalled, ChainIsOfAll, IsInstalled, ChainIsInstalled, ChainsDoNotFork}
use Rattle.chain_laws.proofs.Fewer.{bounded-few, next-few}
use Rattle.chain_laws.proofs.Shown.{Steps, advance-steps}
use Rattle.pool_laws.proofs.Counting.{one-more}
use Rattle.pool_laws.proofs.Members.{All-mem, Contains-mem, Mem, list_any-mem, map-mem, mem-All, mem-Contains, some-mem}
use Rattle.pool_laws.proofs.Places.{mem-slice_get, slice_get-mem}
use Rattle.pool_laws.proofs.Tests.{and-first, none-is, not-false, some-is}
use Rattle.safety_laws.proofs.EachWasDue.{each_was_due}
use Rattle.safety_laws.proofs.MaySign.{signing-view}
use Rattle.safety_laws.proofs.Quorums.{enough-of, few-corrupt, in-ends, signed-by}
use Rattle.safety_laws.proofs.ViewsAgree.{backed, indexed, installed-one, of-history, one-decided}
use Rattle.safety_laws.proofs.ViewsInARow.{views_in_a_row}
use Rattle.safety_laws.proofs.ViewsOf.{left-before, left-view, moment-view}

-- every correct process with a view of this number has this one
OfAll : Family → View → Type 0
OfAll f v = (c : Correct) → Mem c f.correct → (w : View) → Mem w (views_of (end_of f.setting c)) → w.number ≡ v.number → w ≡ v

of-all : (f : Family) (v : View) → IsViewOfAll f v → OfAll f v
unfolding OfAll
of-all f v all c m w there = All-mem (λ (w : View). w.number ≡ v.number → w ≡ v) (views_of (end_of f.setting c)) w
    (All-mem (λ (p : Process). All (λ (w : View). w.number ≡ v.number → w ≡ v) (views_of p)) (ends f) (end_of f.setting c) all
    (in-ends f c m)) there

all-of : (f : Family) (v : View) → OfAll f v → IsViewOfAll f v
unfolding OfAll
all-of f v of = mem-All (λ (p : Process). All (λ (w : View). w.number ≡ v.number → w ≡ v) (views_of p)) (ends f)
    (λ p m. let c = map-mem (end_of f.setting) f.correct p m in mem-All (λ (w : View). w.number ≡ v.number → w ≡ v) (views_of p)
    (λ w there. of c.0 c.1 w (subst (λ (p : Process). Mem w (views_of p)) (sym c.2) there)))

pub genesis_is_of_all : GenesisIsOfAll
unfolding OfAll
genesis_is_of_all f premises = all-of f f.setting.genesis (λ c m w there same.
    let at = mem-slice_get (views_of (end_of f.setting c)) w there in
    let i : at.0 ≡ 0 = sym (indexed f.setting c.turns (end_of f.setting c) (of-history f premises c) at.0 w at.1) ∙ same ∙ premises.first in
    some-is w f.setting.genesis (slice_get (views_of (end_of f.setting c)) 0)
    (subst (λ i. slice_get (views_of (end_of f.setting c)) i ≡ Some w) i at.1) (views_in_a_row f.setting c.me c.batch_limit c.turns).first)

-- the next view of all is the one that a quorum has readied
steps-of-all : (f : Family) → Premises f → (v w : View) → OfAll f v → Steps f v w → OfAll f w
unfolding OfAll
steps-of-all f premises v w of step c m w' there same =
    let p : Process = end_of f.setting c in
    let at = mem-slice_get (views_of p) w' there in
    let number : w.number ≡ v.number + 1 = ap (λ (w : View). w.number) step.next in
    let index = indexed f.setting c.turns p (of-history f premises c) at.0 w' at.1 in
    let i : at.0 ≡ suc v.number = omega (arith, index, same, number) in
    let at_w : slice_get (views_of p) (suc v.number) ≡ Some w' = subst (λ i. slice_get (views_of p) i ≡ Some w') i at.1 in
    let l = left-before p v.number w' at_w in
    before l.0 l.1 at_w
  where
    before : (l : Left) → slice_get (end_of f.setting c).left v.number ≡ Some l
        → slice_get (views_of (end_of f.setting c)) (suc v.number) ≡ Some w' → w' ≡ w
    before l at_l at_w =
        let p : Process = end_of f.setting c in
        let so = (of-history f premises c).lefts v.number l at_l in
        let in_l : Mem l.view (views_of p) = slice_get-mem (views_of p) v.number l.view (left-view p v.number l at_l) in
        let is : l.view ≡ v = of c m l.view in_l so.number in
        let one : IsOneView f v = subst (IsOneView f) is (installed-one f premises p (in-ends f c m) l.view in_l) in
        let ready : IsBacked f v (Ready v.number so.rank so.value) = subst (λ (u : View). IsBacked f u (Ready u.number so.rank so.value)) is
        (backed f l.view (subst (IsOneView f) (sym is) one) c m (Ready l.view.number so.rank so.value) so.decided) in
        let value : so.value ≡ step.value = one-decided f v one so.rank step.rank so.value step.value ready step.backed in
        some-is w' (next_view l.view so.value.update) (slice_get (views_of p) (suc v.number)) at_w so.next
        ∙ (λ i. next_view (is i) (value i).update) ∙ sym step.next

-- ---- chains

-- what is so of the first view, and goes on from view to view, is so of each
module _ (f : Family) (P : View → Type 0) (goes_on : (v w : View) (bytes : List ℕ) → P v → IsOwnWord f bytes → advance f.setting v bytes ≡ Ok w
    → P w) where
  shown-all : (proofs : List (List ℕ)) (v : View) → P v → ((bytes : List ℕ) → Mem bytes proofs → IsOwnWord f bytes) → (w : View)
      → Mem w (views_shown f.setting v proofs) → P w
  unfolding views_shown
  shown-all [] v ok own w m = absurd m
  shown-all (bytes ∷ more) v ok own w m = go (advance f.setting v bytes) refl m (λ u next. shown-all more u next (λ b n. own b (inr n)) w)
    where
      go : (r : Result View ChainFault) → advance f.setting v bytes ≡ r
          → let it : List View = elim r [ Err fault ↦ [] | Ok w ↦ w ∷ views_shown f.setting w more ] in Mem w it
          → ((u : View) → P u → Mem w (views_shown f.setting u more) → P w) → P w
      go (Err fault) e m rest = absurd m
      go (Ok u) e (inl is) rest = subst P is (goes_on v u bytes ok (own bytes (inl refl)) e)
      go (Ok u) e (inr m) rest = rest u (goes_on v u bytes ok (own bytes (inl refl)) e) m

pub chain_is_of_all : ChainIsOfAll
chain_is_of_all f v proofs premises all own = mem-All (IsViewOfAll f) (chain f v proofs) each
  where
    each : (w : View) → Mem w (chain f v proofs) → IsViewOfAll f w
    each w (inl is) = subst (IsViewOfAll f) is all
    each w (inr m) = all-of f w (shown-all f (OfAll f)
        (λ u w bytes of own' e. steps-of-all f premises u w of (advance-steps f u w bytes own' e)) proofs v (of-all f v all)
        (λ bytes n. All-mem (IsOwnWord f) proofs bytes own n) w m)

-- ---- chains that begin with an installed view

-- fewer than a quorum of the view's members are not correct: so it is where the view is bounded, and in each view behind such a one
HasCorrect : Family → View → Type 0
HasCorrect f v = length (filter (λ m. not (has (numbers f) m)) v.members) < quorum (length v.members)

one-of : (f : Family) → Premises f → (v : View) → IsInstalled f v → IsOneView f v
one-of f premises v there = installed-one f premises there.0 (Contains-mem (ends f) there.0 there.1) v
    (Contains-mem (views_of there.0) v there.2)

-- where such a view has a backed Ready, a correct process has installed it
installed : (f : Family) → Premises f → (v : View) → OfAll f v → HasCorrect f v → (r : ℕ) (w : Value)
    → IsBacked f v (Ready v.number r w) → IsInstalled f v
unfolding OfAll HasCorrect
installed f premises v of few r w ready =
    let enough = enough-of f v (Ready v.number r w) ready in
    signer (one-more (may_back f (Ready v.number r w)) (λ m. not (has (numbers f) m)) v.members (omega (arith, few, enough)))
  where
    by : (c : Correct) → Mem c f.correct → may_back f (Ready v.number r w) c.me ≡ true → IsInstalled f v
    by c m says =
        let p : Process = end_of f.setting c in
        let at = mem-slice_get (statements_of p) (Ready v.number r w) (signed-by f (Ready v.number r w) c m says) in
        let was = each_was_due f.setting c.me c.batch_limit c.turns at.0 (Ready v.number r w) at.1 in
        let there : Mem was.moment.pool.view (views_of p) = moment-view was.moment p was.grown in
        let is : was.moment.pool.view ≡ v = of c m was.moment.pool.view there
        (sym (signing-view f.setting was.moment (Ready v.number r w) was.due)) in
        (p, mem-Contains (ends f) p (in-ends f c m), mem-Contains (views_of p) v (subst (λ u. Mem u (views_of p)) is there))

    named : (m : ℕ) → may_back f (Ready v.number r w) m ≡ true → (q : ℕ) × Mem q (numbers f) × ((q == m) ≡ true) → IsInstalled f v
    named m says found =
        let c = map-mem (λ (c : Correct). c.me) f.correct found.0 found.1 in
        by c.0 c.1 (subst (λ m. may_back f (Ready v.number r w) m ≡ true) (sym (c.2 ∙ eqb-true found.0 m found.2)) says)

    signer : (m : ℕ) × Mem m v.members × (may_back f (Ready v.number r w) m ≡ true) × (not (has (numbers f) m) ≡ false) → IsInstalled f v
    signer found = named found.0 found.2 (list_any-mem (λ q. q == found.0) (numbers f) (not-false (has (numbers f) found.0) found.3))

-- a view of a chain
record InChain (f : Family) (v : View) : Type 0 where
  pub of : OfAll f v
  pub few : HasCorrect f v

-- an installed view may begin one
begins : (f : Family) → Premises f → (v : View) → IsInstalled f v → InChain f v
unfolding HasCorrect
begins f premises v there =
    let one = one-of f premises v there in
    let few = few-corrupt f v one in
    record { of = of-all f v one.of_all; few = bounded-few (length v.members) _ one.view.some few }

next-in-chain : (f : Family) → Premises f → (v w : View) → InChain f v → Steps f v w → InChain f w
unfolding HasCorrect
next-in-chain f premises v w ok step =
    let one = one-of f premises v (installed f premises v ok.of ok.few step.rank step.value step.backed) in
    let few = next-few (λ m. not (has (numbers f) m)) v step.value.update one.view (few-corrupt f v one)
    (none-is (next_fault v step.value.update)
    (and-first (is_none (next_fault v step.value.update)) (has_keys (keyed f.setting) step.value.update) step.possible)) in
    record {
      of = steps-of-all f premises v w ok.of step;
      few = subst (λ (u : View). length (filter (λ m. not (has (numbers f) m)) u.members) < quorum (length u.members)) (sym step.next) few;
    }

-- what one proof shows behind a view of a chain, each does
same-step : (f : Family) → Premises f → (v w w' : View) → InChain f v → Steps f v w → Steps f v w' → w ≡ w'
same-step f premises v w w' ok step step' =
    let one = one-of f premises v (installed f premises v ok.of ok.few step.rank step.value step.backed) in
    let value : step.value ≡ step'.value = one-decided f v one step.rank step'.rank step.value step'.value step.backed step'.backed in
    step.next ∙ ap (λ (u : Value). next_view v u.update) value ∙ sym step'.next

Owned : Family → List (List ℕ) → Type 0
Owned f proofs = (bytes : List ℕ) → Mem bytes proofs → IsOwnWord f bytes

abbrev shown_by : Family → Result View ChainFault → List (List ℕ) → List View
shown_by f r more = elim r [ Err fault ↦ [] | Ok w ↦ w ∷ views_shown f.setting w more ]

module _ (f : Family) (premises : Premises f) where
  installed-at : (proofs : List (List ℕ)) (v : View) → InChain f v → Owned f proofs → (i : ℕ) (a b : View)
      → slice_get (chain f v proofs) i ≡ Some a → slice_get (chain f v proofs) (suc i) ≡ Some b → IsInstalled f a
  unfolding views_shown Owned
  installed-at [] v ok own i a b at next = absurd (none-behind i b next)
    where
      none-behind : (i : ℕ) (b : View) → slice_get (v ∷ []) (suc i) ≡ Some b → ⊥
      none-behind zero b e = cc
      none-behind (suc i) b e = cc
  installed-at (bytes ∷ more) v ok own i a b at next = go (advance f.setting v bytes) refl i at next
      (λ w next i. installed-at more w next (λ b n. own b (inr n)) i a b)
    where
      go : (r : Result View ChainFault) → advance f.setting v bytes ≡ r → (i : ℕ) → slice_get (v ∷ shown_by f r more) i ≡ Some a
          → slice_get (v ∷ shown_by f r more) (suc i) ≡ Some b
          → ((w : View) → InChain f w → (i : ℕ) → slice_get (chain f w more) i ≡ Some a → slice_get (chain f w more) (suc i) ≡ Some b
          → IsInstalled f a) → IsInstalled f a
      go (Err fault) e zero at next rest = absurd cc
      go (Err fault) e (suc i) at next rest = absurd cc
      go (Ok w) e zero at next rest =
          let step = advance-steps f v w bytes (own bytes (inl refl)) e in
          let is : v ≡ a = cc in
          subst (IsInstalled f) is (installed f premises v ok.of ok.few step.rank step.value step.backed)
      go (Ok w) e (suc i) at next rest = rest w
          (next-in-chain f premises v w ok (advance-steps f v w bytes (own bytes (inl refl)) e)) i at next

  no-fork : (one two : List (List ℕ)) (v : View) → InChain f v → Owned f one → Owned f two → (i : ℕ) (a b : View)
      → slice_get (chain f v one) i ≡ Some a → slice_get (chain f v two) i ≡ Some b → a ≡ b
  unfolding views_shown Owned
  no-fork one two v ok own own' zero a b at at' = some-is a b (Some v) at at'
  no-fork [] two v ok own own' (suc i) a b at at' = absurd cc
  no-fork (x ∷ xs) [] v ok own own' (suc i) a b at at' = absurd cc
  no-fork (x ∷ xs) (y ∷ ys) v ok own own' (suc i) a b at at' = go (advance f.setting v x) refl (advance f.setting v y) refl at at'
      (λ w next. no-fork xs ys w next (λ b n. own b (inr n)) (λ b n. own' b (inr n)) i a b)
    where
      go : (r : Result View ChainFault) → advance f.setting v x ≡ r → (r' : Result View ChainFault) → advance f.setting v y ≡ r'
          → slice_get (shown_by f r xs) i ≡ Some a → slice_get (shown_by f r' ys) i ≡ Some b
          → ((w : View) → InChain f w → slice_get (chain f w xs) i ≡ Some a → slice_get (chain f w ys) i ≡ Some b → a ≡ b) → a ≡ b
      go (Err fault) e r' e' at at' rest = absurd cc
      go (Ok w) e (Err fault) e' at at' rest = absurd cc
      go (Ok w) e (Ok w') e' at at' rest =
          let step = advance-steps f v w x (own x (inl refl)) e in
          let step' = advance-steps f v w' y (own' y (inl refl)) e' in
          let is : w ≡ w' = same-step f premises v w w' ok step step' in
          rest w (next-in-chain f premises v w ok step) at (subst (λ u. slice_get (chain f u ys) i ≡ Some b) (sym is) at')

pub chain_is_installed : ChainIsInstalled
unfolding Owned
chain_is_installed f v proofs i a b premises there own at next = installed-at f premises proofs v (begins f premises v there)
    (λ bytes m. All-mem (IsOwnWord f) proofs bytes own m) i a b at
    (let e : i + 1 ≡ suc i = omega arith in subst (λ j. slice_get (chain f v proofs) j ≡ Some b) e next)

pub chains_do_not_fork : ChainsDoNotFork
unfolding Owned
chains_do_not_fork f v one two i a b premises there own own' at at' = no-fork f premises one two v (begins f premises v there)
    (λ bytes m. All-mem (IsOwnWord f) one bytes own m) (λ bytes m. All-mem (IsOwnWord f) two bytes own' m) i a b at at'

pub genesis_is_installed : GenesisIsInstalled
genesis_is_installed f some =
    let c = some-mem f.correct some in
    let p : Process = end_of f.setting c.0 in (
      p,
      mem-Contains (ends f) p (in-ends f c.0 c.1),
      mem-Contains (views_of p) f.setting.genesis
          (slice_get-mem (views_of p) 0 f.setting.genesis (views_in_a_row f.setting c.0.me c.0.batch_limit c.0.turns).first),
    )
