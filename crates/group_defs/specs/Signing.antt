-- Signing: through the kinds that the setting signs once, in each the least due statement again and again.
use Rattle.std.specs.Prelude.{ℕ, zero, suc, Bool, true, false, List, [], ◌∷◌, ◌++◌, length, if◌then◌else◌, Some, None, is_some}
use Rattle.message_defs.specs.Statements.{Statement, Claim, slot_of}
use Rattle.group_defs.specs.Process.{Kind, Setting, Process}
use Rattle.group_defs.specs.Certified.{heard_on}
use Rattle.group_defs.specs.Due.{least_due}
use Rattle.message_defs.specs.Spelling.{body}

-- The signature on a body, by how many were made before: a live process's own, or the entry's of a journal
abbrev pub Signer : Type 0
Signer = ℕ → List ℕ → List ℕ

-- the process's claim on a statement, with the signature that is made next
abbrev pub own_claim : Setting → Signer → Process → Statement → Claim
own_claim s signer p st = record { signer = p.me; statement = st; signature = signer (length p.signed) (body s.group p.me st) }

-- it is heard at once, unless one of the own number for that slot is heard already
abbrev pub own_heard : Process → Claim → List Claim
own_heard p c = if is_some (heard_on p.pool p.me (slot_of c.statement)) then p.pool.heard else p.pool.heard ++ c ∷ []

-- the process after signing the statement
abbrev pub signs : Setting → Signer → Process → Statement → Process
signs s signer p st =
    let c = own_claim s signer p st in
    record p { signed = p.signed ++ c ∷ []; pool = record { view = p.pool.view; heard = own_heard p c } }

-- the process, how many signatures may still be made, and whether one more was due
pub record Signing : Type 0 where
  pub now : Process
  pub left : ℕ
  pub spent : Bool

-- the least due statement of this kind is signed, again and again, until none is due or no signature may be made
unfoldable pub sign_kind : Setting → Signer → Kind → ℕ → Process → Signing
sign_kind s signer kind zero p = record { now = p; left = zero; spent = is_some (least_due s p kind) }
sign_kind s signer kind (suc left) p = elim (least_due s p kind) [
  | None ↦ record { now = p; left = suc left; spent = false }
  | Some st ↦ sign_kind s signer kind left (signs s signer p st)
]

-- kind after kind, until a signature is missing
unfoldable pub sign_kinds : Setting → Signer → List Kind → ℕ → Process → Signing
sign_kinds s signer [] left p = record { now = p; left = left; spent = false }
sign_kinds s signer (kind ∷ more) left p =
    let one = sign_kind s signer kind left p in
    elim one.spent [ true ↦ one | false ↦ sign_kinds s signer more one.left one.now ]

-- none signs in a decided view
unfoldable pub sign_all : Setting → Signer → ℕ → Process → Signing
sign_all s signer left p = elim p.decision [
  | None ↦ sign_kinds s signer s.signs left p
  | Some d ↦ record { now = p; left = left; spent = false }
]
