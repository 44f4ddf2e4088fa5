-- Receive by receive.
use Rattle.std.proofs.Common.{◌≡◌, ℕ, suc, ◌+◌, ◌-◌, ◌<◌, ◌≤◌, List, [], ◌∷◌, Option, sym, ap, subst, ◌∙◌, arith}
use Rattle.node_defs.specs.Lines.{Stop, recv_line}
use Rattle.node_defs.specs.Nodes.{Task, Get, Say, more_gets}
use Rattle.node_traces.specs.Service.{Asked}
use Rattle.node_taking.specs.Hosts.{Running}
use Rattle.node_taking.proofs.Leads.{Around, Leads, LeadsToStop, leads-and-stops, leads-nowhere, leads-on}

-- ---- what is left to get

first-get : (p most : ℕ) → 1 ≤ most → Get p most 0 ∷ [] ≡ more_gets p (most - 0) 0
first-get p most some =
    let one : most ≡ suc (most - 1) = omega arith in
    let all : most - 0 ≡ suc (most - 1) = omega arith in
    ap (λ (m : ℕ). Get p m 0 ∷ []) one ∙ sym (ap (λ (m : ℕ). more_gets p m 0) all)

next-get : (p most count : ℕ) → count < most → more_gets p (most - count) count ≡ Get p (suc (most - (count + 1))) count ∷ []
next-get p most count more =
    let same : most - count ≡ suc (most - (count + 1)) = omega arith in ap (λ (m : ℕ). more_gets p m count) same

last-get : (p most count : ℕ) → count ≡ most → more_gets p (most - count) count ≡ Say (recv_line p most) ∷ []
last-get p most count all =
    let none : most - count ≡ 0 = omega arith in
    ap (λ (m : ℕ). more_gets p m count) none ∙ ap (λ (m : ℕ). Say (recv_line p m) ∷ []) all

module _ {D V : Type 0} (seen : D → Option (List ℕ)) (may_leave : D → List ℕ → Type 0) (moment : D → ℕ)
    (left_since : D → ℕ → List ℕ → Type 0) (heard : V → List Asked → Type 0)
    (only_now : (d : D) (image : List ℕ) → left_since d (moment d) image → may_leave d image) (p most : ℕ) (r : Running) (x : Around D V) where
  -- from the node at such a line so many came
  abbrev pub SoFar : ℕ → Running → Around D V → Type 0
  SoFar count q y = Leads seen may_leave moment left_since heard r x (Get p most 0 ∷ []) (more_gets p (most - count) count) q y

  pub so-far-first : 1 ≤ most → SoFar 0 r x
  so-far-first some =
      subst (λ (us : List Task). Leads seen may_leave moment left_since heard r x us (more_gets p (most - 0) 0) r x) (sym (first-get p most some))
      (leads-nowhere seen may_leave moment left_since heard only_now r x (more_gets p (most - 0) 0))

  module _ (count : ℕ) (q : Running) (y : Around D V) where
    -- one more is to come
    so-far-next : count < most → SoFar count q y
        → Leads seen may_leave moment left_since heard r x (Get p most 0 ∷ []) (Get p (suc (most - (count + 1))) count ∷ []) q y
    so-far-next more so-far =
        subst (λ (us : List Task). Leads seen may_leave moment left_since heard r x (Get p most 0 ∷ []) us q y) (next-get p most count more) so-far

    -- and what it comes to
    pub gets-more : (r' : Running) (z : Around D V) (us : ℕ → List Task) → count < most → SoFar count q y
        → ((left : ℕ) → Leads seen may_leave moment left_since heard q y (Get p (suc left) count ∷ []) (us left) r' z)
        → Leads seen may_leave moment left_since heard r x (Get p most 0 ∷ []) (us (most - (count + 1))) r' z
    gets-more r' z us more so-far one =
        leads-on seen may_leave moment left_since heard only_now r q r' x y z (Get p most 0 ∷ []) (Get p (suc (most - (count + 1))) count ∷ [])
        (us (most - (count + 1))) (so-far-next more so-far) (one (most - (count + 1)))

    pub gets-to-stop : (z : Around D V) (why : Stop) → count < most → SoFar count q y
        → ((left : ℕ) → LeadsToStop seen may_leave moment left_since heard q y (Get p (suc left) count ∷ []) why z)
        → LeadsToStop seen may_leave moment left_since heard r x (Get p most 0 ∷ []) why z
    gets-to-stop z why more so-far one =
        leads-and-stops seen may_leave moment left_since heard only_now r q x y z (Get p most 0 ∷ []) (Get p (suc (most - (count + 1))) count ∷ [])
        why (so-far-next more so-far) (one (most - (count + 1)))

    -- as many as there may be came
    pub gets-all : count ≡ most → SoFar count q y
        → Leads seen may_leave moment left_since heard r x (Get p most 0 ∷ []) (Say (recv_line p most) ∷ []) q y
    gets-all all so-far =
        subst (λ (us : List Task). Leads seen may_leave moment left_since heard r x (Get p most 0 ∷ []) us q y) (last-get p most count all) so-far
