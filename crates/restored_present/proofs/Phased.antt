-- The phase of a process, asked for by its parts.
use Rattle.std.proofs.Common.{◌≡◌, ℕ, List, Bool, Option, Some, None, refl, ap, ◌∙◌, subst}
use Rattle.std.specs.Prelude.{◌↔◌, is_some, IsTrue}
use Rattle.std.specs.Option.{option_map}
use Rattle.message_defs.specs.Updates.{Value}
use Rattle.message_defs.specs.Statements.{Statement, End}
use Rattle.group_defs.specs.Process.{Setting, Pool, Process, keyed, places_in}
use Rattle.group_defs.specs.Certified.{is_ended}
use Rattle.restored_left.specs.Facts.{HasEnd, IsDecidedSo, IsHaltedSo}

-- what is decided, and whether it has halted
pub record Decided : Type 0 where
  pub pool : Pool
  pub keys : List ℕ
  pub me : ℕ
  pub places : ℕ
  pub decision : Option (ℕ × Value)
  pub halted : Bool

abbrev pub IsSo : Decided → Type 0
IsSo d = IsDecidedSo d.pool d.keys d.me d.places d.decision × IsHaltedSo d.halted d.places d.decision

abbrev pub decided_of : Setting → Process → Decided
decided_of s p = record {
  pool = p.pool;
  keys = keyed s;
  me = p.me;
  places = places_in p.delivered;
  decision = p.decision;
  halted = p.halted;
}

-- the same, of the same data
pub so-same : (d e : Decided) → d ≡ e → (b : Bool) → (IsTrue b ↔ IsSo d) → IsTrue b ↔ IsSo e
so-same d e same b is = subst (λ (x : Decided). IsTrue b ↔ IsSo x) same is

some-map : {A B : Type 0} (f : A → B) (o : Option A) → is_some (option_map f o) ≡ is_some o
some-map f None = refl
some-map f (Some a) = refl

pub ended-so : (p : Process) (ended : Option ℕ) → HasEnd p ended → is_ended p ≡ is_some ended
ended-so p ended has = ap (λ (o : Option Statement). is_some o) has ∙ some-map (End p.pool.view.number) ended
