-- What is certified of a rank.
use Rattle.std.proofs.Common.{◌≡◌, ◌≢◌, ◌≤◌, ℕ, List, Bool, true, false, Option, Some, None, length, refl, sym, ap, subst, ◌∙◌, arith}
use Rattle.std.specs.Prelude.{◌↔◌, not, map, IsTrue}
use Rattle.std.proofs.lemmas.Bool.{leb-true}
use Rattle.message_defs.specs.Updates.{Value}
use Rattle.message_defs.specs.Statements.{Statement, Ready, ReadyAt, Claim, slot_of}
use Rattle.group_defs.specs.Views.{quorum}
use Rattle.group_defs.specs.Process.{Pool}
use Rattle.group_defs.specs.Certified.{certified_on, is_certified, backers, says, number_of_members}
use Rattle.pool_laws.proofs.Grown.{is-certified, one_certified}
use Rattle.pool_laws.proofs.Heard.{certified_on-is, heard-says}
use Rattle.pool_laws.proofs.Members.{Mem, filter-mem, mem-map, some-mem}
use Rattle.pool_laws.proofs.Tests.{none-some, some-same}

module _ (h : Pool) (some : 1 ≤ number_of_members h) where
  -- what is certified is what is found on its slot
  pub certified-found : (st : Statement) → is_certified h st ≡ true → certified_on h (slot_of st) ≡ Some st
  certified-found st e =
      let enough : quorum (number_of_members h) ≤ length (backers h st) = leb-true (quorum (number_of_members h)) (length (backers h st)) e in
      let backer = some-mem (backers h st) (above (number_of_members h) (length (backers h st)) some enough) in
      let said = heard-says h st backer.0 (filter-mem (says h st) h.view.members backer.0 backer.1).1 in
      is-certified h some (slot_of st) st
      (subst (λ (s : Statement). Mem s (map (λ (c : Claim). c.statement) h.heard)) said.3
      (mem-map (λ (c : Claim). c.statement) h.heard said.0 said.1)) refl e
    where
      above : (n k : ℕ) → 1 ≤ n → quorum n ≤ k → 1 ≤ k
      above n k pos le = omega (arith, pos, le)

  module _ (rank : ℕ) (v : Value) where
    abbrev ready : Statement
    ready = Ready h.view.number rank v

    pub found-ready : (st : Statement) → certified_on h (ReadyAt h.view.number rank) ≡ Some st → (b : Bool)
        → (IsTrue b ↔ ((slot_of st ≡ slot_of ready) × (st ≢ ready))) → IsTrue (not b) ↔ IsTrue (is_certified h ready)
    found-ready st e b differs = (there b refl, back b refl)
      where
        is : (is_certified h st ≡ true) × (slot_of st ≡ ReadyAt h.view.number rank)
        is = certified_on-is h (ReadyAt h.view.number rank) st e

        there : (t : Bool) → b ≡ t → IsTrue (not t) → IsTrue (is_certified h ready)
        there true at ok = absurd cc
        there false at ok = go (is_certified h ready) refl
          where
            go : (c : Bool) → is_certified h ready ≡ c → c ≡ true
            go true f = refl
            go false f = absurd (false-true (differs.1 (is.1, λ same. false-true (subst (λ (s : Statement). is_certified h s ≡ true) same is.0) f)) at)
              where
                false-true : {t : Bool} → t ≡ true → t ≡ false → ⊥
                false-true x y = cc

        back : (t : Bool) → b ≡ t → IsTrue (is_certified h ready) → IsTrue (not t)
        back true at certified = absurd ((differs.0 at).1 (one_certified h st ready some is.1 is.0 certified))
        back false at certified = refl

    pub none-ready : certified_on h (ReadyAt h.view.number rank) ≡ None → IsTrue false ↔ IsTrue (is_certified h ready)
    none-ready none = (λ no_way. absurd cc, λ certified. absurd (none-some none (certified-found ready certified)))

-- ---- of a decision

pub decided-some : (P : ℕ × Value → Type 0) (d : ℕ × Value) (b : Bool) → (IsTrue b ↔ P d)
    → IsTrue b ↔ ((e : ℕ × Value) → Some d ≡ Some e → P e)
decided-some P d b so = (λ ok e same. subst P (some-same d e same) (so.0 ok), λ all. so.1 (all d refl))

pub decided-none : (P : ℕ × Value → Type 0) → IsTrue true ↔ ((e : ℕ × Value) → None ≡ Some e → P e)
decided-none P = (λ ok e no_way. absurd cc, λ all. refl)
