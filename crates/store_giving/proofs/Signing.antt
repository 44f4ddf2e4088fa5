-- The signature of the state of a view, and the record that has it.
use Rattle.std.proofs.Common.{◌≡◌, ℕ, ◌≤◌, List, [], length, Option, Some, sym, ap, ◌∙◌, subst, Vec, Global}
use Rattle.std.specs.Option.{ForSome}
use Rattle.store_defs.specs.Keys.{Signs}
use Rattle.store_defs.specs.Records.{state_body}
use Rattle.store_keys.specs.Keys.{signs}
use Rattle.store_giving.specs.Given.{signed_record}
use Rattle.store_giving.specs.Signatures.{IsSignature, record_with, state_in}
use Rattle.store_giving.specs.Spellings.{bytes_in}
use Rattle.store_giving.specs.declared.giving.Giving.{Giving}
use Rattle.store_giving.specs.declared.spelling.Spelling.{Spelling}

-- the bytes of the state
state-so : (state : Option Spelling) (b : Spelling) (bytes : List ℕ) → state ≡ Some b → bytes ≡ bytes_in b → bytes ≡ state_in state
state-so state b bytes some is = is ∙ sym (ap state_in some)

-- what was signed just now is the signature
pub signed-so : (old new : Signs) (group : List ℕ) (me number n : ℕ) (state : Option Spelling) (b : Spelling) (bytes signature : List ℕ)
    → new ≡ old → n ≡ number → state ≡ Some b → bytes ≡ bytes_in b
    → signature ≡ old.signature n (state_body group (record_with me n bytes [])) → length signature ≤ 16384
    → IsSignature new group me number state signature
signed-so old new group me number n state b bytes signature key view some is signed short =
    let body = state-so state b bytes some is in
    (signed ∙ (λ i. (sym key i).signature (view i) (state_body group (record_with me (view i) (body i) []))), short)

-- of what there is just one
some-is : {T : Type 0} (s t : T) → Some s ≡ Some t → s ≡ t
some-is s t e = cc

pub for-one : {T : Type 0} (P : T → Type 0) (s : T) → P s → ForSome (Some s) P
for-one P s p = λ t e. subst P (some-is s t e) p

module _ (g : Giving) (n : ℕ) (b : Spelling) (s : Vec ℕ Global) (bytes signature : List ℕ) (view : n ≡ g.view.number)
    (some : g.state ≡ Some b) (is : bytes ≡ bytes_in b) (kept : g.signature ≡ Some s) (same : signature ≡ s.items) where
  its : IsSignature (signs g.key) g.group g.me g.view.number g.state s.items
  its = g.signed s kept

  -- the signature that is kept is short, and its record is that of the state
  pub kept-short : length signature ≤ 16384
  kept-short = subst (λ (t : List ℕ). length t ≤ 16384) (sym same) its.1

  pub record-so : record_with g.me n bytes signature ≡ signed_record g
  record-so = λ i. record_with g.me (view i) (state-so g.state b bytes some is i) ((same ∙ its.0) i)
