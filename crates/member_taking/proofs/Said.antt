-- How many claims a frame has, and what range its numbers are in.
use Rattle.std.proofs.Common.{◌≡◌, ℕ, suc, ◌*◌, ◌≤◌, Bool, List, [], ◌∷◌, ◌++◌, Ok, sym, ap, ◌∙◌, arith, length, length-append}
use Rattle.std.specs.Prelude.{not, nat_le, nat_lt}
use Rattle.std.specs.List.{AllByRecursion}
use Rattle.std.proofs.lemmas.Bool.{leb-true}
use Rattle.byte_defs.specs.Fields.{◌>>=◌, refuse_if}
use Rattle.byte_defs.proofs.Fields.{bind_ok, refuse_ok}
use Rattle.message_defs.specs.Limits.{last_process, last_number, most_places}
use Rattle.message_defs.specs.declared.FrameFault.{FrameFault}
use Rattle.message_defs.specs.declared.FrameFault.TheVariants.{Range}
use Rattle.message_defs.specs.Reading.{statement_in}
use Rattle.message_defs.specs.Statements.{Statement, Claim}
use Rattle.message_defs.specs.Frames.{Group, IsGroup, FrameView, Bundle, Proof, Want, IsFrame}
use Rattle.message_defs.specs.Claims.{claims_on, claims_of_group, claims_of_groups, claims_of}
use Rattle.pool_laws.proofs.Tests.{not-false}

-- of a group as many as it has signatures
length-claims_on : (st : Statement) (signatures : List (ℕ × List ℕ)) (cs : List Claim) → claims_on st signatures ≡ Ok cs
    → length cs ≡ length signatures
unfolding claims_on
length-claims_on st [] cs e = let same : [] ≡ cs = cc in ap length (sym same)
length-claims_on st (s ∷ more) cs e =
    let passed = refuse_ok (nat_lt last_process s.0) Range
    (λ _. claims_on st more >>= λ others. Ok (record { signer = s.0; statement = st; signature = s.1 } ∷ others)) cs e in
    let rest = bind_ok (claims_on st more) (λ others. Ok (record { signer = s.0; statement = st; signature = s.1 } ∷ others)) cs passed.1 in
    let same : record { signer = s.0; statement = st; signature = s.1 } ∷ rest.0 ≡ cs = cc in
    ap length (sym same) ∙ ap suc (length-claims_on st more rest.0 rest.1)

module _ (carries : ℕ → Bool) where
  length-of_group : (g : Group) (cs : List Claim) → claims_of_group carries g ≡ Ok cs → length cs ≡ length g.signatures
  unfolding claims_of_group
  length-of_group g cs e =
      let read = bind_ok (statement_in carries g.statement) (λ st. claims_on st g.signatures) cs e in
      length-claims_on read.0 g.signatures cs read.2

  -- of several groups at most 16 for each
  length-of_groups : (gs : List Group) (cs : List Claim) → AllByRecursion IsGroup gs → claims_of_groups carries gs ≡ Ok cs
      → length cs ≤ 16 * length gs
  unfolding claims_of_groups
  length-of_groups [] cs each e = (let none : [] ≡ cs = cc in let zero = ap length none in omega (arith, zero))
  length-of_groups (g ∷ gs) cs each e =
      let first = bind_ok (claims_of_group carries g) (λ first. claims_of_groups carries gs >>= λ others. Ok (first ++ others)) cs e in
      let rest = bind_ok (claims_of_groups carries gs) (λ others. Ok (first.0 ++ others)) cs first.2 in
      let same : first.0 ++ rest.0 ≡ cs = cc in
      let all = ap length (sym same) ∙ length-append first.0 rest.0 in
      let one = length-of_group g first.0 first.1 in
      let few = each.0.few in
      let others = length-of_groups gs rest.0 each.1 rest.1 in
      omega (arith, all, one, few, others)

-- so a frame has few
pub length-of : (f : FrameView) (cs : List Claim) → IsFrame f → claims_of f ≡ Ok cs → length cs ≤ 65025
unfolding claims_of
length-of (Bundle gs) cs ok e = (let all = length-of_groups _ gs cs ok.parts.each e in let few = ok.parts.few in omega (arith, all, few))
length-of (Proof gs) cs ok e = (let all = length-of_groups _ gs cs ok.parts.each e in let few = ok.parts.few in omega (arith, all, few))
length-of (Want x k) cs ok e =
    let one = refuse_ok (not (nat_le x last_number)) Range (λ _. refuse_if (not (nat_le k most_places)) Range >>= λ _. Ok []) cs e in
    let two = refuse_ok (not (nat_le k most_places)) Range (λ _. Ok []) cs one.1 in
    let none : [] ≡ cs = cc in
    let zero = ap length none in
    omega (arith, zero)

-- a Want that is read is in range
pub want-range : (x k : ℕ) (cs : List Claim) → claims_of (Want x k) ≡ Ok cs → (x ≤ last_number) × (k ≤ most_places)
unfolding claims_of
want-range x k cs e =
    let one = refuse_ok (not (nat_le x last_number)) Range (λ _. refuse_if (not (nat_le k most_places)) Range >>= λ _. Ok []) cs e in
    let two = refuse_ok (not (nat_le k most_places)) Range (λ _. Ok []) cs one.1 in
    (leb-true x last_number (not-false (nat_le x last_number) one.0), leb-true k most_places (not-false (nat_le k most_places) two.0))
