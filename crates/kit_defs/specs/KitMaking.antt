-- Making a kit for rehearsals and tests: all its keys come from one seed, so whoever knows the seed has them all.
use Rattle.std.specs.Prelude.{◌≡◌, ℕ, ◌+◌, ◌<◌, ◌≤◌, ◌^◌, min, max, true, List, ◌∷◌, ◌++◌, map, take, codes}
use Rattle.std.specs.List.{range_with_len}
use Rattle.sha2.specs.Sha256.{sha256}
use Rattle.signature_defs.specs.Schemes.{Scheme}
use Rattle.signature_defs.specs.Schemes as schemes
use Rattle.signature_defs.specs.Secrets.{Secret, Plain, Lms, Hss, levels_are_built, public_key_of}
use Rattle.kit_defs.specs.declared.KeyPlan.{KeyPlan}
use Rattle.kit_defs.specs.declared.KeyPlan.TheVariants as plans
use Rattle.kit_defs.specs.Kits.{Kit, Host, others_than}

-- SHA-256 of RPK1, what the value is for, two numbers and the seed
abbrev pub derive : List ℕ → ℕ → ℕ → ℕ → List ℕ
derive seed label a b = sha256 (codes "RPK1" ++ (label ∷ a ∷ b ∷ seed))

-- the group id that the seed gives
abbrev pub derived_group : List ℕ → List ℕ
derived_group seed = take 16 (derive seed 0 0 0)

-- the secret of process p that the seed gives, as planned
abbrev pub derived_secret : KeyPlan → List ℕ → ℕ → Secret
derived_secret (plans.Plain total) seed p = Plain (derive seed 4 p 0) total
derived_secret (plans.Lms code kind) seed p = Lms code kind (take 16 (derive seed 1 p 0)) (derive seed 2 p 0)
derived_secret (plans.Hss levels code kind) seed p = Hss levels code kind (take 16 (derive seed 1 p 0)) (derive seed 2 p 0)

-- the key that two processes share, the same from both sides
abbrev pub derived_pair : List ℕ → ℕ → ℕ → List ℕ
derived_pair seed p q = derive seed 3 (min p q) (max p q)

-- a plan that can be carried out: its signatures fit in 32 bits, or its trees, in one level or more, are built
abbrev pub IsPlan : KeyPlan → Type 0
IsPlan (plans.Plain total) = total < 2 ^ 32
IsPlan (plans.Lms code kind) = (5 ≤ code) × (code ≤ 7)
IsPlan (plans.Hss levels code kind) = levels_are_built levels code kind ≡ true

-- the signature scheme of a plan
abbrev pub planned_scheme : KeyPlan → Scheme
planned_scheme (plans.Plain total) = schemes.Plain
planned_scheme (plans.Lms code kind) = schemes.Lms
planned_scheme (plans.Hss levels code kind) = schemes.Hss

-- the numbers from 0 on
abbrev pub first_numbers : ℕ → List ℕ
first_numbers n = range_with_len 0 n

-- process p as a host: its secret, and the keys that it shares with the others
abbrev pub made_host : KeyPlan → List ℕ → ℕ → ℕ → Host
made_host plan seed roster p = record {
  process = p;
  secret = derived_secret plan seed p;
  pairs = map (λ q. (q, derived_pair seed p q)) (others_than p (first_numbers roster));
}

-- The kit of `roster` processes, the first `members` of them members, all of them hosted: process p has port 47,000 + p.
unfoldable pub made_kit : ℕ → ℕ → KeyPlan → List ℕ → Kit
made_kit members roster plan seed = record {
  scheme = planned_scheme plan;
  group = derived_group seed;
  keys = map (λ p. (p, public_key_of (derived_secret plan seed p))) (first_numbers roster);
  genesis = first_numbers members;
  ports = map (λ p. (p, 47000 + p)) (first_numbers roster);
  hosts = map (made_host plan seed roster) (first_numbers roster);
}
