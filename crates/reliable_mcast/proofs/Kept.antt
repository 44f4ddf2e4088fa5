-- Certificates that are kept can be read again.
use Rattle.std.proofs.Common.{◌≡◌, List, [], ◌∷◌, ◌++◌, refl, sym, subst}
use Rattle.std.specs.Prelude.{IsOk}
use Rattle.std.specs.List.{AllByRecursion}
use Rattle.message_defs.specs.Statements.{Statement, Claim}
use Rattle.message_defs.specs.Spelling.{IsClaim}
use Rattle.message_defs.specs.Packing.{Signed}
use Rattle.group_defs.specs.Process.{Pool}
use Rattle.group_defs.specs.Certified.{certificate}
use Rattle.stmt_codec.proofs.Grammar.{spelling_again}
use Rattle.sent_claims.specs.Certificates.{IsRanged, all_signed}
use Rattle.sent_claims.proofs.Certified.{certificate-ranged}
use Rattle.reliable_mcast.specs.Archives.{AreReadable}

pub readable-all : (cs : List Claim) → AllByRecursion IsClaim cs → AreReadable (all_signed cs)
readable-all [] all = tt
readable-all (c ∷ cs) all = (subst (λ r. IsOk r) (sym (spelling_again c.statement all.0.1)) refl, readable-all cs all.1)

all-snoc : {A : Type 0} (P : A → Type 0) (xs : List A) (x : A) → AllByRecursion P xs → P x → AllByRecursion P (xs ++ x ∷ [])
all-snoc P [] x all p = (p, tt)
all-snoc P (y ∷ xs) x all p = (all.0, all-snoc P xs x all.1 p)

-- one commit certificate more is kept
pub kept-more : (commits commits' : List (List Signed)) (h : Pool) (st : Statement) → IsRanged h → AllByRecursion AreReadable commits
    → commits' ≡ commits ++ all_signed (certificate h st) ∷ [] → AllByRecursion AreReadable commits'
kept-more commits commits' h st ranged all e = subst (AllByRecursion AreReadable) (sym e)
    (all-snoc AreReadable commits (all_signed (certificate h st)) all (readable-all (certificate h st) (certificate-ranged h st ranged)))
