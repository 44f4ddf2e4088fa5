-- Looking at claims one after the other, as a loop does.
use Rattle.std.proofs.Common.{◌≡◌, ℕ, ◌<◌, ◌≤◌, Bool, true, false, ltb, List, [], ◌∷◌, ◌++◌, Result, Ok, Err, refl}
use Rattle.std.proofs.lemmas.Bool.{lt-ltb, le-ltb}
use Rattle.frame_codec.specs.Below.{◌>>=◌}
use Rattle.message_defs.specs.declared.FrameFault.{FrameFault}
use Rattle.message_defs.specs.declared.FrameFault.TheVariants.{Range}
use Rattle.message_defs.specs.Frames.{Group}
use Rattle.message_defs.specs.Statements.{Statement, Claim}
use Rattle.message_defs.specs.Claims.{claims_on, claims_of_group, claims_of_groups}
use Rattle.stmt_codec.specs.Looks.{looked}

-- what stands in front does not change what looking on answers
looked_behind : (f : List Claim → List Claim) (read : Result (List Claim) FrameFault) → looked (read >>= λ cs. Ok (f cs)) ≡ looked read
looked_behind f (Ok cs) = refl
looked_behind f (Err e) = refl

looked_on : (r : Result (List Claim) FrameFault) (f : List Claim → Result (List Claim) FrameFault) (after : Result (Unit {0}) FrameFault)
    → looked r ≡ Ok tt → ((cs : List Claim) → looked (f cs) ≡ after) → looked (r >>= f) ≡ after
looked_on (Ok cs) f after e h = h cs
looked_on (Err d) f after e h = absurd cc

looked_fails : (r : Result (List Claim) FrameFault) (f : List Claim → Result (List Claim) FrameFault) (e : FrameFault) → looked r ≡ Err e
    → looked (r >>= f) ≡ Err e
looked_fails (Ok cs) f e h = absurd cc
looked_fails (Err d) f e h = h

pub signer_passes : (st : Statement) (s : ℕ × List ℕ) (now more : List (ℕ × List ℕ)) → now ≡ s ∷ more → s.0 ≤ 63
    → looked (claims_on st now) ≡ looked (claims_on st more)
unfolding claims_on
signer_passes st s now more e le =
    let fine : ltb 63 s.0 ≡ false = le-ltb _ _ le in
    rw (e, fine) (looked_behind (λ cs. record { signer = s.0; statement = st; signature = s.1 } ∷ cs) (claims_on st more))

pub signer_refused : (st : Statement) (s : ℕ × List ℕ) (now more : List (ℕ × List ℕ)) → now ≡ s ∷ more → 63 < s.0
    → looked (claims_on st now) ≡ Err Range
unfolding claims_on
signer_refused st s now more e lt =
    let bad : ltb 63 s.0 ≡ true = lt-ltb _ _ lt in
    rw (e, bad) refl

pub no_signer_left : (st : Statement) (now : List (ℕ × List ℕ)) → now ≡ [] → looked (claims_on st now) ≡ Ok tt
unfolding claims_on
no_signer_left st now e = rw e refl

module _ (carries : ℕ → Bool) where
  pub group_passes : (g : Group) (now more : List Group) → now ≡ g ∷ more → looked (claims_of_group carries g) ≡ Ok tt
      → looked (claims_of_groups carries now) ≡ looked (claims_of_groups carries more)
  unfolding claims_of_groups
  group_passes g now more e fine =
      rw e (looked_on (claims_of_group carries g) (λ first. claims_of_groups carries more >>= λ others. Ok (first ++ others))
      (looked (claims_of_groups carries more)) fine (λ first. looked_behind (λ cs. first ++ cs) (claims_of_groups carries more)))

  pub group_refused : (g : Group) (now more : List Group) (f : FrameFault) → now ≡ g ∷ more → looked (claims_of_group carries g) ≡ Err f
      → looked (claims_of_groups carries now) ≡ Err f
  unfolding claims_of_groups
  group_refused g now more f e bad =
      rw e (looked_fails (claims_of_group carries g) (λ first. claims_of_groups carries more >>= λ others. Ok (first ++ others)) f bad)

  pub no_group_left : (now : List Group) → now ≡ [] → looked (claims_of_groups carries now) ≡ Ok tt
  unfolding claims_of_groups
  no_group_left now e = rw e refl
