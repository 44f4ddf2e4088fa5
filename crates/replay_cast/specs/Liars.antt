-- Corrupt processes, whose lies are signed with their keys.
use Rattle.std.specs.Prelude.{◌≡◌, ℕ, ◌+◌, ◌<◌, ◌==◌, List, [], ◌∷◌, count_by}
use Rattle.message_defs.specs.Statements.{Statement}
use Rattle.message_defs.specs.Spelling.{spelling, body}
use Rattle.message_defs.specs.Frames.{Bundle, frame_bytes}
use Rattle.message_defs.specs.Packing.{Signed, signed, group_of}
use Rattle.replay_defs.specs.Signers.{key_total, key_signature}
use Rattle.replay_defs.specs.Schedules.{Listed}
use Rattle.replay_defs.specs.Worlds.{Sent}
use Rattle.sig_scheme.specs.Signers.{used, total, signature}
use Rattle.replay_cast.specs.declared.liar.Liar.{Liar}

-- the Bundle of one claim
abbrev pub bundle_of : Signed → List ℕ
bundle_of c = frame_bytes (Bundle (group_of c ∷ []))

-- the claim of the corrupt process x on the statement, with the next signature of its key
abbrev pub lie_of : List ℕ → Statement → Liar → Signed
lie_of group st x = signed (spelling st) x.process (signature x.signer (used x.signer) (body group x.process st))

-- the corrupt process had a signature left, and made it: `bytes` is the Bundle of its claim on the statement
pub record Reported (group : List ℕ) (st : Statement) (old new : Liar) (bytes : List ℕ) : Type 0 where
  pub able : used old.signer < total old.signer
  pub used : used new.signer ≡ used old.signer + 1
  pub frame : bytes ≡ bundle_of (lie_of group st old)

-- the key of the corrupt process is spent, and nothing changed
pub record Silent (old new : Liar) : Type 0 where
  pub spent : used old.signer ≡ total old.signer
  pub same : new ≡ old

-- x is the corrupt process that is listed as l: it has the signer of that key, which has signed a lie for each of its frames
pub record Lies (frames : List Sent) (x : Liar) (l : Listed) : Type 0 where
  pub process : x.process ≡ l.process
  pub used : used x.signer ≡ count_by (λ f. f.sender == l.process) frames
  pub total : total x.signer ≡ key_total l.key
  pub signs : signature x.signer ≡ key_signature l.key

-- each corrupt process of the code is the one that is listed at its place
abbrev pub AreLiars : List Sent → List Liar → List Listed → Type 0
AreLiars frames [] [] = Unit {0}
AreLiars frames (x ∷ xs) (l ∷ ls) = Lies frames x l × AreLiars frames xs ls
AreLiars frames _ _ = ⊥
