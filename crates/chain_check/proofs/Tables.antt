-- A table of Readies with one claim more.
use Rattle.std.proofs.Common.{get_or, replicate, slice_get, ◌≡◌, ◌≢◌, ◌⊎◌, inl, inr, ℕ, zero, suc, ◌+◌, ◌*◌, ◌<◌, ◌≤◌, List, [], ◌∷◌, ◌++◌, length, Option, Some, None, Bool, true, false, refl, sym, ap, ◌∙◌, subst, arith}
use Rattle.std.specs.Prelude.{if◌then◌else◌, ◌&&◌, ◌==◌, cond, find, filter, is_some, option_map, option_and_then, slice_index, slice_index_or, slice_set, AllPairs}
use Rattle.std.specs.Option.{option_or}
use Rattle.std.proofs.lemmas.Bool.{eqb-true, eq-eqb}
use Rattle.std.proofs.lemmas.Grind.{get_or-set_at}
use Rattle.std.proofs.lemmas.List.{append-nil, get_or-set_other}
use Rattle.std.proofs.lemmas.List.Elements.{filter-append}
use Rattle.std.proofs.lemmas.List.Folds as folds
use Rattle.message_defs.specs.Updates.{Value}
use Rattle.message_defs.specs.Statements.{Statement, Ready, Slot, ReadyAt, Claim, slot_of, value_of, view_of, same_slot}
use Rattle.group_defs.specs.Views.{View, IsView, is_member, rank_of}
use Rattle.group_defs.specs.Process.{Setting, Pool}
use Rattle.group_defs.specs.Hearing.{is_valid}
use Rattle.group_defs.specs.Certified.{claim_on, number_of_members}
use Rattle.rp_base.specs.declared.updates.Value as base
use Rattle.rp_base.specs.Views.{value}
use Rattle.chain_defs.specs.Advance.{is_ready, counts, counted}
use Rattle.pool_laws.proofs.Growing.{with_more}
use Rattle.pool_laws.proofs.Members.{find-is, list_any-mem}
use Rattle.pool_laws.proofs.Places.{Compared, ahead, behind, level, compared, index-is, mem-slice_get, slice_get-length}
use Rattle.pool_laws.proofs.Slots.{is-same_slot, same_slot-is}
use Rattle.pool_laws.proofs.Tests.{and-first, and-second, both-true, none-some, some-same}
use Rattle.rule_laws.proofs.Ranks.{at-member, at-rank, rank-at}
use Rattle.chain_check.specs.Readies.{IsTable, ready_at, said}

-- ---- what a Ready says

pub at-ready : (st : Statement) (x r : ℕ) → slot_of st ≡ ReadyAt x r → (w : Value) × (st ≡ Ready x r w)
at-ready (Ready y q w) x r e = let y_is : y ≡ x = cc in let q_is : q ≡ r = cc in (w, λ i. Ready (y_is i) (q_is i) w)
at-ready _ x r e = absurd cc

pub ready-is : (st : Statement) (x r : ℕ) (w : Value) → ready_at x st ≡ Some (r, w) → st ≡ Ready x r w
ready-is (Ready y q u) x r w e = go (y == x) refl e
  where
    go : (b : Bool) → (y == x) ≡ b → if◌then◌else◌ {A = Option (ℕ × Value)} b (Some (q, u)) None ≡ Some (r, w) → Ready y q u ≡ Ready x r w
    go true t e =
        let same = eqb-true y x t in
        let pair = some-same (q, u) (r, w) e in
        λ i. Ready (same i) (pair i).0 (pair i).1
    go false t e = absurd cc
ready-is _ x r w e = absurd cc

-- ---- one claim more

abbrev its : Claim → ℕ → Slot → Bool
its c m s = (c.signer == m) && same_slot (slot_of c.statement) s

abbrev said_of : Option Claim → Option Value
said_of o = option_and_then value_of (option_map (λ c. c.statement) o)

abbrev now_said : Pool → Claim → ℕ → ℕ → Option Value
now_said h c r m = if its c m (ReadyAt h.view.number r) then value_of c.statement else None

module _ (h : Pool) (c : Claim) where
  abbrev more : Pool
  more = with_more h (c ∷ [])

  said-more : (r m : ℕ) → said more r m ≡ option_or (said h r m) (now_said h c r m)
  said-more r m =
      ap said_of (folds.find-append (λ d. (d.signer == m) && same_slot (slot_of d.statement) slot) h.heard (c ∷ []))
      ∙ go (claim_on h.heard m slot) refl (its c m slot)
    where
      slot : Slot
      slot = ReadyAt h.view.number r

      go : (o : Option Claim) → claim_on h.heard m (ReadyAt h.view.number r) ≡ o → (b : Bool)
          → said_of (option_or o (if b then Some c else None)) ≡ option_or (said_of o) (if b then value_of c.statement else None)
      go None e true = refl
      go None e false = refl
      go (Some d) e b =
          let found = find-is (λ d. (d.signer == m) && same_slot (slot_of d.statement) (ReadyAt h.view.number r)) h.heard d e in
          let on = same_slot-is (slot_of d.statement) (ReadyAt h.view.number r)
          (and-second (d.signer == m) (same_slot (slot_of d.statement) (ReadyAt h.view.number r)) found.1) in
          let says = at-ready d.statement h.view.number r on in
          let is : value_of d.statement ≡ Some says.0 = ap value_of says.1 in
          is ∙ sym (ap (λ o. option_or o (if b then value_of c.statement else None)) is)

  its-is : (m r : ℕ) → its c m (ReadyAt h.view.number r) ≡ true → (c.signer ≡ m) × (slot_of c.statement ≡ ReadyAt h.view.number r)
  its-is m r e = (
    eqb-true c.signer m (and-first (c.signer == m) (same_slot (slot_of c.statement) (ReadyAt h.view.number r)) e),
    same_slot-is (slot_of c.statement) (ReadyAt h.view.number r)
        (and-second (c.signer == m) (same_slot (slot_of c.statement) (ReadyAt h.view.number r)) e),
  )

  module _ (q : ℕ) (w : Value) (says : c.statement ≡ Ready h.view.number q w) where
    same-rank : (r : ℕ) → slot_of c.statement ≡ ReadyAt h.view.number r → q ≡ r
    same-rank r e = rank (sym (ap slot_of says) ∙ e)
      where
        rank : ReadyAt h.view.number q ≡ ReadyAt h.view.number r → q ≡ r
        rank e = cc

    -- the signer has said something at the rank before
    pub kept : (cells : List (Option base.Value)) → is_some (said h q c.signer) ≡ true → IsTable h cells → IsTable more cells
    kept cells before table r i lt lt' =
        table r i lt lt' ∙ sym (said-more r m ∙ go (its c m (ReadyAt h.view.number r)) refl)
      where
        m : ℕ
        m = slice_index h.view.members i

        stays : (o p : Option Value) → is_some o ≡ true → option_or o p ≡ o
        stays None p e = absurd cc
        stays (Some v) p e = refl

        none : (o : Option Value) → option_or o None ≡ o
        none None = refl
        none (Some v) = refl

        go : (b : Bool) → its c (slice_index h.view.members i) (ReadyAt h.view.number r) ≡ b
            → option_or (said h r (slice_index h.view.members i)) (if b then value_of c.statement else None)
            ≡ said h r (slice_index h.view.members i)
        go false e = none (said h r (slice_index h.view.members i))
        go true e =
            let is = its-is (slice_index h.view.members i) r e in
            stays (said h r (slice_index h.view.members i)) (value_of c.statement)
            (subst (λ n. is_some (said h r n) ≡ true) is.0 (subst (λ n. is_some (said h n c.signer) ≡ true) (same-rank r is.1) before))

    -- the signer says it first
    pub put : (cells : List (Option base.Value)) (p : ℕ) (v : base.Value) → q * 16 + p < length cells → q < 16 → p < number_of_members h
        → number_of_members h ≤ 16 → AllPairs (λ m n. m ≢ n) h.view.members → slice_index h.view.members p ≡ c.signer → value v ≡ w
        → slice_index_or cells (q * 16 + p) None ≡ None → IsTable h cells → IsTable more (slice_set cells (q * 16 + p) (Some v))
    put cells p v long low in' few distinct at is free table r i lt lt' = go (r * 16 + i == q * 16 + p) refl
      where
        m : ℕ
        m = slice_index h.view.members i

        fresh : said h q c.signer ≡ None
        fresh = subst (λ n. said h q n ≡ None) at (sym (table q p low in') ∙ ap (option_map value) free)

        its-on : its c c.signer (ReadyAt h.view.number q) ≡ true
        its-on = both-true (c.signer == c.signer) (same_slot (slot_of c.statement) (ReadyAt h.view.number q))
            (eq-eqb c.signer c.signer refl) (is-same_slot (slot_of c.statement) (ReadyAt h.view.number q) (ap slot_of says))

        new : said more q c.signer ≡ Some w
        new = said-more q c.signer ∙ (λ j. option_or (fresh j) (if its-on j then value_of c.statement else None)) ∙ ap value_of says

        one-place : (j k : ℕ) → j < number_of_members h → k < number_of_members h
            → slice_index h.view.members j ≡ slice_index h.view.members k → j ≢ k → ⊥
        one-place j k lj lk e ne = first (compared j k)
          where
            first : Compared j k → ⊥
            first (ahead less) = distinct j k 0 less lk e
            first (behind less) = distinct k j 0 less lj (sym e)
            first (level same) = ne same

        other : r * 16 + i ≢ q * 16 + p → (b : Bool) → its c (slice_index h.view.members i) (ReadyAt h.view.number r) ≡ b
            → option_or (said h r (slice_index h.view.members i)) (if b then value_of c.statement else None)
            ≡ said h r (slice_index h.view.members i)
        other ne false e = none (said h r (slice_index h.view.members i))
          where
            none : (o : Option Value) → option_or o None ≡ o
            none None = refl
            none (Some v) = refl
        other ne true e =
            let its' = its-is (slice_index h.view.members i) r e in
            let ranks = same-rank r its'.1 in
            let places : i ≢ p = λ same. ne (omega (arith, same, ranks)) in
            absurd (one-place i p lt' in' (sym its'.0 ∙ sym at) places)

        go : (b : Bool) → (r * 16 + i == q * 16 + p) ≡ b
            → option_map value (slice_index_or (slice_set cells (q * 16 + p) (Some v)) (r * 16 + i) None)
            ≡ said more r (slice_index h.view.members i)
        go true e =
            let here = eqb-true (r * 16 + i) (q * 16 + p) e in
            let ranks : q ≡ r = omega (arith, here, lt', in', few) in
            let places : p ≡ i = omega (arith, here, ranks) in
            ap (option_map value) (get_or-set_at cells (q * 16 + p) (r * 16 + i) (Some v) None here long) ∙ ap Some is
            ∙ sym (subst (λ n. said more n (slice_index h.view.members i) ≡ Some w) ranks
            (subst (λ n. said more q n ≡ Some w) (sym at ∙ ap (slice_index h.view.members) places) new))
        go false e =
            let ne : r * 16 + i ≢ q * 16 + p = λ same. (let yes' = eq-eqb (r * 16 + i) (q * 16 + p) same in differ (sym e ∙ yes')) in
            ap (option_map value) (get_or-set_other cells (q * 16 + p) (r * 16 + i) (Some v) None ne) ∙ table r i lt lt'
            ∙ sym (said-more r (slice_index h.view.members i) ∙ other ne (its c (slice_index h.view.members i) (ReadyAt h.view.number r)) refl)
          where
            differ : false ≡ true → ⊥
            differ e = cc

-- ---- the claims that count

module _ (s : Setting) (v : View) (done : List Claim) (c : Claim) where
  pub counted-more : counts s v c ≡ true → counted s v (done ++ c ∷ []) ≡ with_more (counted s v done) (c ∷ [])
  counted-more e =
      let cs : filter (counts s v) (c ∷ []) ≡ c ∷ [] = ap (λ b. cond b (c ∷ []) []) e in
      ap (λ cs. record { view = v; heard = cs }) (filter-append (counts s v) done (c ∷ []) ∙ ap (λ cs. filter (counts s v) done ++ cs) cs)

  pub counted-same : counts s v c ≡ false → counted s v (done ++ c ∷ []) ≡ counted s v done
  counted-same e =
      let cs : filter (counts s v) (c ∷ []) ≡ [] = ap (λ b. cond b (c ∷ []) []) e in
      ap (λ cs. record { view = v; heard = cs })
      (filter-append (counts s v) done (c ∷ []) ∙ ap (λ cs. filter (counts s v) done ++ cs) cs ∙ append-nil (filter (counts s v) done))

-- what no Ready of the view says does not count
pub no-ready : (s : Setting) (v : View) (c : Claim) → ready_at v.number c.statement ≡ None → counts s v c ≡ false
no-ready s v c e = go c.statement e
  where
    go : (st : Statement) → ready_at v.number st ≡ None → ((is_ready st && (view_of st == v.number)) && is_member v c.signer && is_valid s c) ≡ false
    go (Ready y r w) e = at (y == v.number) e
      where
        at : (b : Bool) → if◌then◌else◌ {A = Option (ℕ × Value)} b (Some (r, w)) None ≡ None → (b && is_member v c.signer && is_valid s c) ≡ false
        at true e = absurd cc
        at false e = refl
    go _ e = refl

-- a Ready of the view counts where a member signed it
pub ready-counts : (s : Setting) (v : View) (c : Claim) (r : ℕ) (w : Value) → c.statement ≡ Ready v.number r w
    → counts s v c ≡ (is_member v c.signer && is_valid s c)
ready-counts s v c r w e =
    ap (λ (st : Statement). is_ready st && (view_of st == v.number) && is_member v c.signer && is_valid s c) e
    ∙ ap (λ b. b && is_member v c.signer && is_valid s c) (eq-eqb v.number v.number refl)

-- ---- nobody says anything

abbrev nothing : Option base.Value
nothing = None

pub none-said : (h : Pool) (v : View) → h ≡ record { view = v; heard = [] } → IsTable h (replicate 256 nothing)
none-said h v e r i lt lt' = ap (option_map value) (empty 256 (r * 16 + i)) ∙ sym (subst (λ (g : Pool). said g r m ≡ None) (sym e) refl)
  where
    m : ℕ
    m = slice_index h.view.members i

    empty : (n k : ℕ) → get_or (replicate n nothing) k None ≡ None
    empty zero k = refl
    empty (suc n) zero = refl
    empty (suc n) (suc k) = empty n k

-- ---- members

rank-none : (v : View) (p : ℕ) → rank_of v p ≡ None → is_member v p ≡ false
rank-none v p e = go (is_member v p) refl
  where
    go : (b : Bool) → is_member v p ≡ b → b ≡ false
    go false f = refl
    go true f =
        let q = list_any-mem (λ q. q == p) v.members f in
        let at = mem-slice_get v.members q.0 q.1 in
        let there = at-rank v p at.0 (subst (λ n. slice_get v.members at.0 ≡ Some n) (eqb-true q.0 p q.2) at.1) in
        absurd (none-some e there.1)

-- ---- one claim is noted

-- the cells now hold what these held, and the claim
abbrev pub Noted : Setting → View → Claim → List (Option base.Value) → List (Option base.Value) → Type 0
Noted s v c cells now = (done : List Claim) → IsTable (counted s v done) cells → IsTable (counted s v (done ++ c ∷ [])) now

module _ (s : Setting) (v : View) (c : Claim) (q : ℕ) (w : Value) (ready : ready_at v.number c.statement ≡ Some (q, w)) where
  says : c.statement ≡ Ready v.number q w
  says = ready-is c.statement v.number q w ready

  same : (cells : List (Option base.Value)) → counts s v c ≡ false → Noted s v c cells cells
  same cells e done table = subst (λ (h : Pool). IsTable h cells) (sym (counted-same s v done c e)) table

  pub of-stranger : (cells : List (Option base.Value)) → rank_of v c.signer ≡ None → Noted s v c cells cells
  of-stranger cells e = same cells (ready-counts s v c q w says ∙ ap (λ b. b && is_valid s c) (rank-none v c.signer e))

  pub not-signed : (cells : List (Option base.Value)) → is_valid s c ≡ false → Noted s v c cells cells
  not-signed cells e = same cells (ready-counts s v c q w says ∙ no (is_member v c.signer))
    where
      no : (b : Bool) → (b && is_valid s c) ≡ false
      no true = e
      no false = refl

  module _ (p : ℕ) (at : rank_of v c.signer ≡ Some p) (low : q < 16) (is : IsView v) where
    place-is : slice_index v.members p ≡ c.signer
    place-is = index-is v.members p 0 c.signer (rank-at v c.signer p at)

    within : p < length v.members
    within = slice_get-length v.members p c.signer (rank-at v c.signer p at)

    pub said-before : (cells : List (Option base.Value)) → is_some (slice_index_or cells (q * 16 + p) None) ≡ true → Noted s v c cells cells
    said-before cells e done table = go (counts s v c) refl
      where
        h : Pool
        h = counted s v done

        there : is_some (said (counted s v done) q c.signer) ≡ true
        there = subst (λ n. is_some (said (counted s v done) q n) ≡ true) place-is
            (ap is_some (sym (table q p low within)) ∙ mapped (slice_index_or cells (q * 16 + p) None) e)
          where
            mapped : (o : Option base.Value) → is_some o ≡ true → is_some (option_map value o) ≡ true
            mapped None e = absurd cc
            mapped (Some x) e = refl

        go : (b : Bool) → counts s v c ≡ b → IsTable (counted s v (done ++ c ∷ [])) cells
        go false f = same cells f done table
        go true f = subst (λ (h : Pool). IsTable h cells) (sym (counted-more s v done c f)) (kept (counted s v done) c q w says cells there table)

    pub said-now : (cells : List (Option base.Value)) (x : base.Value) → q * 16 + p < length cells → value x ≡ w → is_valid s c ≡ true
        → is_some (slice_index_or cells (q * 16 + p) None) ≡ false → Noted s v c cells (slice_set cells (q * 16 + p) (Some x))
    said-now cells x room same' valid free done table = subst (λ (h : Pool). IsTable h (slice_set cells (q * 16 + p) (Some x)))
        (sym (counted-more s v done c (ready-counts s v c q w says ∙ both-true (is_member v c.signer) (is_valid s c)
        (at-member v c.signer p (rank-at v c.signer p at)) valid)))
        (put (counted s v done) c q w says cells p x room low within is.few is.distinct place-is same'
        (empty (slice_index_or cells (q * 16 + p) None) free) table)
      where
        empty : (o : Option base.Value) → is_some o ≡ false → o ≡ None
        empty None e = refl
        empty (Some x) e = absurd cc
