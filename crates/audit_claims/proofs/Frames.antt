-- Claims seen one after another.
use Rattle.std.proofs.Common.{◌≡◌, ℕ, List, [], ◌∷◌, ◌++◌, Bool, true, false, refl, sym, ap, ◌∙◌}
use Rattle.std.specs.Prelude.{nat_le, not, Result, Ok, Err}
use Rattle.std.proofs.lemmas.List.{append-nil, append_assoc}
use Rattle.byte_defs.specs.Fields.{◌>>=◌, refuse_if}
use Rattle.message_defs.specs.Limits.{last_number, most_places}
use Rattle.message_defs.specs.declared.FrameFault.{FrameFault}
use Rattle.message_defs.specs.declared.FrameFault.TheVariants.{Range}
use Rattle.message_defs.specs.Frames.{FrameView, Bundle, Proof, Want, frame_of}
use Rattle.message_defs.specs.Claims.{claims_of, want_claims, said, said_by, frame_said}
use Rattle.message_defs.specs.Statements.{Claim}
use Rattle.group_defs.specs.Process.{Setting}
use Rattle.group_defs.specs.Hearing.{is_valid}
use Rattle.claim_pool.specs.Settings.{as_setting}
use Rattle.claim_hearing.specs.Hearing.{Shares}
use Rattle.audit_claims.specs.Handed.{claims_handed, claims_of_frame}

-- validity is of the rule, the group and the keys alone
pub same-valid : (s : Setting) (valid : List ℕ → List ℕ → List ℕ → Bool) (group : List ℕ) (roster : List (ℕ × List ℕ))
    → Shares s valid group roster → (c : Claim) → is_valid (as_setting valid group roster) c ≡ is_valid s c
same-valid s valid group roster shares c =
    let bound = sym shares.bound in
    let keys = sym shares.keys in
    let rule = sym shares.rule in
    λ i. is_valid (record { group = bound i; roster = keys i; genesis = s.genesis; valid = rule i; signs = s.signs }) c

-- none, one more, and the last
pub none-yet : (xs : List Claim) → xs ≡ xs ++ []
none-yet xs = sym (append-nil xs)

pub one-more : (xs seen : List Claim) (c : Claim) → (xs ++ seen) ++ c ∷ [] ≡ xs ++ (seen ++ c ∷ [])
one-more xs seen c = append_assoc xs seen (c ∷ [])

pub still-whole : (seen left rest whole : List Claim) (c : Claim) → left ≡ c ∷ rest → seen ++ left ≡ whole → (seen ++ c ∷ []) ++ rest ≡ whole
still-whole seen left rest whole c next so = append_assoc seen (c ∷ []) rest ∙ ap (λ cs. seen ++ cs) (sym next) ∙ so

pub all-seen : (seen left whole : List Claim) → left ≡ [] → seen ++ left ≡ whole → seen ≡ whole
all-seen seen left whole none so = sym (append-nil seen) ∙ ap (λ cs. seen ++ cs) (sym none) ∙ so

-- ---- what bytes hand over

want-none : (x k : ℕ) (cs : List Claim) → want_claims x k ≡ Ok cs → cs ≡ []
want-none x k cs e = go (not (nat_le x last_number)) (not (nat_le k most_places)) e
  where
    go : (a b : Bool) → (refuse_if a Range >>= λ _. refuse_if b Range >>= λ _. Ok []) ≡ Ok cs → cs ≡ []
    go true b e = absurd cc
    go false true e = absurd cc
    go false false e = cc

said-so : (f : FrameView) (cs : List Claim) → claims_of f ≡ Ok cs → cs ≡ claims_of_frame (said f (Ok cs))
unfolding claims_of
said-so (Bundle gs) cs e = refl
said-so (Proof gs) cs e = refl
said-so (Want x k) cs e = want-none x k cs e

pub claims-so : (bytes : List ℕ) (f : FrameView) (cs : List Claim) → frame_of bytes ≡ Ok f → claims_of f ≡ Ok cs → cs ≡ claims_handed bytes
unfolding frame_said
claims-so bytes f cs e is =
    said-so f cs is ∙ ap (λ r. claims_of_frame (said f r)) (sym is) ∙ ap (λ r. claims_of_frame (said_by r)) (sym e)

pub no-frame : (bytes : List ℕ) (fault : FrameFault) → frame_of bytes ≡ Err fault → claims_handed bytes ≡ []
unfolding frame_said
no-frame bytes fault e = ap (λ r. claims_of_frame (said_by r)) e

pub no-claims : (bytes : List ℕ) (f : FrameView) (fault : FrameFault) → frame_of bytes ≡ Ok f → claims_of f ≡ Err fault → claims_handed bytes ≡ []
unfolding frame_said
no-claims bytes f fault e is = ap (λ r. claims_of_frame (said_by r)) e ∙ ap (λ r. claims_of_frame (said f r)) is
