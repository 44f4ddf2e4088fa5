-- The kit at the front of a node's input, as the input is seen.
use Rattle.std.proofs.Common.{◌≡◌, ◌⊎◌, inl, inr, ℕ, ◌+◌, ◌-◌, ◌==◌, Bool, true, false, List, [], ◌∷◌, ◌++◌, length, Option, None, Some, Result, Ok, Err, refl, sym, ap, subst, ◌∙◌, arith, append-nil}
use Rattle.std.specs.Prelude.{if◌then◌else◌, IfSome, IsTrue, ◌↔◌}
use Rattle.std.proofs.Math.Dec.{eqb-suc-zero}
use Rattle.std.specs.Io.KnownBytes.{Consumes, IsAtEnd}
use Rattle.std.proofs.KnownBytes.{Consumes-trans}
use Rattle.rp_base.specs.Causes.{Rose}
use Rattle.byte_defs.specs.Fields.{◌>>=◌}
use Rattle.kit_defs.specs.Kits as kits
use Rattle.kit_defs.specs.KitReading.{KitFault, Missing}
use Rattle.input_defs.specs.Fronts.{Front, front_of}
use Rattle.front_laws.specs.Fronts.{with_more}
use Rattle.front_laws.proofs.Fronts.{fronts_go_on}
use Rattle.line_input.specs.Taking.{ReadOn}
use Rattle.kit_reading.specs.declared.fronts.FrontFault.{FrontFault}
use Rattle.kit_reading.specs.declared.fronts.FrontFault.TheVariants.{Read, Kit}
use Rattle.kit_reading.specs.declared.faults.KitFault as code
use Rattle.kit_reading.specs.Faults.{fault_of}
use Rattle.kit_reading.specs.Fronts.{Begins, HasFault, front_fault}
use Rattle.node_text.specs.Views.{kit_stop}
use Rattle.node_traces.specs.Outside.{SourceSeen}
use Rattle.node_input.specs.Sources.{IsSeen, SeenAs}
use Rattle.node_input.specs.Kits.{BeginsWith, HasKit, HasNoKit, front_stop, if_hosting, node_front}

-- ---- a kit that hosts a process, or none

hosts-some : (hs : List kits.Host) → (hs ≡ [] → ⊥) → (length hs == 0) ≡ false
hosts-some [] some = absurd (some refl)
hosts-some (h ∷ hs) some = eqb-suc-zero (length hs)

abbrev front : kits.Kit → ℕ → List ℕ → Front
front kit go left = record { kit = kit; line = go + 1; rest = left }

hosting : (bytes : List ℕ) (kit : kits.Kit) (go : ℕ) (left : List ℕ) → front_of bytes ≡ Ok (front kit go left) → (kit.hosts ≡ [] → ⊥)
    → node_front bytes ≡ Ok (front kit go left)
unfolding node_front
hosting bytes kit go left is some = ap (λ (r : Result Front KitFault). r >>= if_hosting) is
    ∙ ap (λ (b : Bool). if b then Err (Missing (go + 1 - 1)) else Ok (front kit go left)) (hosts-some kit.hosts some)

hosting-none : (bytes : List ℕ) (kit : kits.Kit) (go : ℕ) (left : List ℕ) → front_of bytes ≡ Ok (front kit go left) → kit.hosts ≡ []
    → node_front bytes ≡ Err (Missing go)
unfolding node_front
hosting-none bytes kit go left is none = ap (λ (r : Result Front KitFault). r >>= if_hosting) is
    ∙ ap (λ (hs : List kits.Host). if length hs == 0 then Err (Missing (go + 1 - 1)) else Ok (front kit go left)) none
    ∙ ap (λ (n : ℕ). Err (Missing n)) (omega arith)

no-front : (bytes : List ℕ) (fault : KitFault) → front_of bytes ≡ Err fault → node_front bytes ≡ Err fault
unfolding node_front
no-front bytes fault is = ap (λ (r : Result Front KitFault). r >>= if_hosting) is

-- ---- by what the input has left

begins-with : (left now : Option (List ℕ)) (bytes ahead : List ℕ) (kit : kits.Kit) (go : ℕ) → Consumes left now bytes
    → front_of bytes ≡ Ok (front kit go ahead) → (kit.hosts ≡ [] → ⊥)
    → (new : Option (List ℕ)) × Consumes new now ahead × BeginsWith left kit go new
begins-with None now bytes ahead kit go there is some = (None, tt, tt)
begins-with (Some b) None bytes ahead kit go there is some = absurd there
begins-with (Some b) (Some n) bytes ahead kit go there is some =
    (Some (ahead ++ n), refl, hosting b kit go (ahead ++ n) (ap front_of there ∙ fronts_go_on bytes n (front kit go ahead) is) some)

misses-host : (left now : Option (List ℕ)) (bytes ahead : List ℕ) (kit : kits.Kit) (go : ℕ) → Consumes left now bytes
    → front_of bytes ≡ Ok (front kit go ahead) → kit.hosts ≡ [] → IfSome left (λ b. node_front b ≡ Err (Missing go))
misses-host None now bytes ahead kit go there is none = tt
misses-host (Some b) None bytes ahead kit go there is none = absurd there
misses-host (Some b) (Some n) bytes ahead kit go there is none =
    hosting-none b kit go (ahead ++ n) (ap front_of there ∙ fronts_go_on bytes n (front kit go ahead) is) none

has-fault : (left now : Option (List ℕ)) (bytes : List ℕ) (fault : KitFault) → Consumes left now bytes
    → ((more : List ℕ) → front_of (bytes ++ more) ≡ Err fault) ⊎ (IsAtEnd now × (front_of bytes ≡ Err fault))
    → IfSome left (λ b. node_front b ≡ Err fault)
has-fault None now bytes fault there is = tt
has-fault (Some b) None bytes fault there is = absurd there
has-fault (Some b) (Some n) bytes fault there (inl each) = no-front b fault (ap front_of there ∙ each n)
has-fault (Some b) (Some n) bytes fault there (inr end) =
    no-front b fault (ap front_of (there ∙ ap (λ (m : List ℕ). bytes ++ m) end.0 ∙ append-nil bytes) ∙ end.1)

-- ---- what the reading of a kit answers

module _ (k : SourceSeen) (before now : Option (List ℕ)) (ahead : List ℕ) (f g : ℕ) (nothing : ahead ≡ []) (seen : IsSeen k [] before f) where
  all-there : (bytes : List ℕ) → ReadOn before now ahead bytes → Consumes k.left now bytes
  all-there bytes read = subst (λ (bs : List ℕ). Consumes k.left now bs) (sym (read.2 ∙ ap (λ (a : List ℕ). a ++ read.0) nothing))
      (Consumes-trans k.left before now [] read.0 seen.bytes read.1)

  pub found : (kit : kits.Kit) (go : ℕ) (left : List ℕ) → g ≡ f → Begins before now ahead kit go left → (kit.hosts ≡ [] → ⊥)
      → SeenAs (HasKit k kit go) left now g
  found kit go left steady b some =
      let new = begins-with k.left now b.bytes left kit go (all-there b.bytes b.read) b.is some in record {
        source = record { left = new.0; faults = g };
        seen = record { bytes = new.1; count = refl };
        holds = record { begins = new.2; steady = steady ∙ sym seen.count };
      }

  pub hosts-nobody : (kit : kits.Kit) (go : ℕ) (left : List ℕ) → g ≡ f → Begins before now ahead kit go left → kit.hosts ≡ []
      → IfSome k.left (λ b. node_front b ≡ Err (Missing go)) × (g ≡ k.faults)
  hosts-nobody kit go left steady b none =
      (misses-host k.left now b.bytes left kit go (all-there b.bytes b.read) b.is none, steady ∙ sym seen.count)

  pub no-kit : (fault : FrontFault) → IfSome (front_fault fault) (HasFault before now ahead) → ((fault ≡ Read) ⊎ (g ≡ f))
      → (fault ≡ Read → Rose f g) → HasNoKit k g (front_stop fault)
  no-kit Read is steady rose = subst (λ (c : ℕ). Rose c g) (sym seen.count) (rose refl)
  no-kit (Kit fault) is steady rose = of (fault_of fault) is (steady-at steady)
    where
      steady-at : (Kit fault ≡ Read) ⊎ (g ≡ f) → g ≡ k.faults
      steady-at (inl e) = absurd cc
      steady-at (inr e) = e ∙ sym seen.count

      of : (o : Option KitFault) → IfSome o (HasFault before now ahead) → g ≡ k.faults → HasNoKit k g (kit_stop o)
      of None is same = same
      of (Some e) is same = (has-fault k.left now is.bytes e (all-there is.bytes is.read) is.is, same)
