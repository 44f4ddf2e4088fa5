-- Of which schemes a kit may be, and which levels are built.
use Rattle.std.proofs.Common.{◌≡◌, ℕ, ◌≤◌, ◌==◌, true, ⊎_elim, refl, arith}
use Rattle.std.specs.Prelude.{◌&&◌, ◌||◌, nat_le}
use Rattle.std.proofs.lemmas.Bool.{and_parts, eqb-true, leb-true, or_cases}
use Rattle.signature_defs.specs.declared.OtsType.{OtsType}
use Rattle.signature_defs.specs.Hss.{height_in_range, length_in_range, levels_in_range}
use Rattle.signature_defs.specs.Schemes.{Scheme}
use Rattle.signature_defs.specs.Schemes as schemes
use Rattle.signature_defs.specs.Secrets.{levels_are_built}
use Rattle.kit_defs.specs.Kits.{KitVersion, One, Two, version_of}
use Rattle.kit_defs.specs.KitReading.{is_of, is_scheme}

-- the scheme that is told is the only one
pub scheme_is : (reported scheme : Scheme) → is_scheme reported scheme ≡ true → scheme ≡ reported
scheme_is schemes.Plain schemes.Plain e = refl
scheme_is schemes.Lms schemes.Lms e = refl
scheme_is schemes.Hss schemes.Hss e = refl
scheme_is schemes.Plain schemes.Lms e = absurd cc
scheme_is schemes.Plain schemes.Hss e = absurd cc
scheme_is schemes.Lms schemes.Plain e = absurd cc
scheme_is schemes.Lms schemes.Hss e = absurd cc
scheme_is schemes.Hss schemes.Plain e = absurd cc
scheme_is schemes.Hss schemes.Lms e = absurd cc

pub own_scheme : (scheme : Scheme) → is_scheme scheme scheme ≡ true
own_scheme schemes.Plain = refl
own_scheme schemes.Lms = refl
own_scheme schemes.Hss = refl

-- a scheme has one version
pub version_is : (version : KitVersion) (scheme : Scheme) → is_of version scheme ≡ true → version ≡ version_of scheme
version_is One schemes.Plain e = refl
version_is One schemes.Lms e = refl
version_is One schemes.Hss e = absurd cc
version_is Two schemes.Plain e = absurd cc
version_is Two schemes.Lms e = absurd cc
version_is Two schemes.Hss e = refl

pub own_version : (scheme : Scheme) → is_of (version_of scheme) scheme ≡ true
own_version schemes.Plain = refl
own_version schemes.Lms = refl
own_version schemes.Hss = refl

-- ---- levels that are built

pub record IsBuilt (levels code : ℕ) : Type 0 where
  pub some : 1 ≤ levels
  pub few : levels ≤ 3
  pub least : 5 ≤ code
  pub most : code ≤ 7

pub built_ranges : (levels code : ℕ) (kind : OtsType) → levels_are_built levels code kind ≡ true → IsBuilt levels code
built_ranges levels code kind e =
    let all = and_parts (levels_in_range levels) (height_in_range levels code && length_in_range levels kind) e in
    let count = and_parts (nat_le 1 levels) (nat_le levels 3) all.0 in
    let height = and_parts (nat_le 5 code) (nat_le code 6 || ((code == 7) && nat_le levels 2))
    (and_parts (height_in_range levels code) (length_in_range levels kind) all.1).0 in
    record {
      some = leb-true 1 levels count.0;
      few = leb-true levels 3 count.1;
      least = leb-true 5 code height.0;
      most = ⊎_elim low high (or_cases (nat_le code 6) ((code == 7) && nat_le levels 2) height.1);
    }
  where
    low : nat_le code 6 ≡ true → code ≤ 7
    low e = let le = leb-true code 6 e in omega (arith, le)

    high : ((code == 7) && nat_le levels 2) ≡ true → code ≤ 7
    high e = let is = eqb-true code 7 (and_parts (code == 7) (nat_le levels 2) e).0 in omega (arith, is)
