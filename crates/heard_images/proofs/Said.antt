-- What is heard of the process itself.
use Rattle.std.proofs.Common.{◌≡◌, ℕ, List, Bool, Option, Some, None, true, refl, sym, ◌∙◌}
use Rattle.std.specs.Prelude.{◌↔◌, ◌==◌, is_some, option_map, All, IsTrue}
use Rattle.std.specs.List.{list_all}
use Rattle.std.proofs.lemmas.Bool.{eqb-true, eq-eqb}
use Rattle.message_defs.specs.Statements.{Claim, slot_of, view_of}
use Rattle.group_defs.specs.Process.{Pool}
use Rattle.group_defs.specs.Certified.{heard_on}
use Rattle.pool_laws.proofs.Members.{tested-all, all-tested}
use Rattle.pool_laws.proofs.Tests.{implied, implies}
use Rattle.heard_images.specs.Signed.{is_heard}

pub some-mapped : {A B : Type 0} (f : A → B) (o : Option A) → is_some (option_map f o) ≡ is_some o
some-mapped f None = refl
some-mapped f (Some a) = refl

module _ (h : Pool) (me : ℕ) where
  abbrev IsThere : Claim → Type 0
  IsThere c = view_of c.statement ≡ h.view.number → IsTrue (is_some (heard_on h me (slot_of c.statement)))

  heard-so : (c : Claim) → is_heard h me c ≡ true → IsThere c
  heard-so c ok here = implied (view_of c.statement == h.view.number) (is_some (heard_on h me (slot_of c.statement))) ok
      (eq-eqb (view_of c.statement) h.view.number here)

  so-heard : (c : Claim) → IsThere c → is_heard h me c ≡ true
  so-heard c so = implies (view_of c.statement == h.view.number) (is_some (heard_on h me (slot_of c.statement)))
      (λ here. so (eqb-true (view_of c.statement) h.view.number here))

  pub heard-is : (cs : List Claim) (b : Bool) → b ≡ list_all (is_heard h me) cs → IsTrue b ↔ All IsThere cs
  heard-is cs b is = (
    λ ok. tested-all (is_heard h me) IsThere cs heard-so (sym is ∙ ok),
    λ all. is ∙ all-tested (is_heard h me) IsThere cs so-heard all,
  )
