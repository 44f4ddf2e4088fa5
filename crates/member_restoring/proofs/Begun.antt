-- The state of a process that begins again, by what is known once all was asked for.
use Rattle.std.proofs.Common.{◌≡◌, ℕ, ◌+◌, ◌≤◌, List, length, refl, sym, ap, ◌∙◌, subst}
use Rattle.std.specs.Prelude.{All, IsTrue}
use Rattle.message_defs.specs.Statements.{Claim, view_of}
use Rattle.group_defs.specs.Views.{View}
use Rattle.group_defs.specs.Process.{Setting}
use Rattle.group_defs.specs.Hearing.{is_valid}
use Rattle.image_defs.specs.Images.{Image, process_of, view_behind}
use Rattle.image_defs.specs.Kept.{IsKept}
use Rattle.restored_present.specs.Left.{IsLeftSo, AreByPlace, installed_from}
use Rattle.pool_laws.proofs.Members.{All-mem, mem-All}
use Rattle.restored_present.specs.Parts.{IsPresentSo, IsReportedSo}
use Rattle.member_restoring.specs.Parts.{IsOf}
use Rattle.member_restoring.proofs.Kept.{kept-is}
use Rattle.member_restoring.proofs.Lists.{lists-are, views-are}

-- the views and the deliveries are those of the image
pub of-so : (s : Setting) (batch_limit : ℕ) (i : Image) (genesis : View) (views : List View) → s.genesis ≡ genesis
    → length i.delivered ≡ length i.left + 1 → views ≡ installed_from genesis i.left → IsOf i views (process_of s batch_limit i)
of-so s batch_limit i genesis views at many are = record {
  me = refl;
  signed = refl;
  perceived = refl;
  accepted = refl;
  views_are = views-are s.genesis i.left i.delivered ∙ ap (λ (v : View). installed_from v i.left) at ∙ sym are;
  delivered = lists-are s.genesis i.left i.delivered many;
}

-- what is signed is the process's own
pub own-so : (s : Setting) (v : View) (i : Image) → IsReportedSo s v i → All (λ c. c.signer ≡ i.me) i.signed
own-so s v i reported = mem-All (λ (c : Claim). c.signer ≡ i.me) i.signed (λ c m.
    (let is = All-mem (λ (c : Claim). (c.signer ≡ i.me) × (view_of c.statement ≤ v.number) × IsTrue (is_valid s c)) i.signed c reported.own m in is.0))

-- once all was asked for, the image is kept
pub kept-so : (s : Setting) (i : Image) (genesis : View) → s.genesis ≡ genesis → length i.delivered ≡ length i.left + 1 → AreByPlace i.delivered
    → IsLeftSo s i → (v : View) → v ≡ view_behind genesis i.left → IsReportedSo s v i → IsPresentSo s (process_of s 1 i) → IsKept s i
kept-so s i genesis at many placed left v behind reported present = kept-is s i many placed left
    (subst (λ (w : View). IsReportedSo s w i) (behind ∙ ap (λ (g : View). view_behind g i.left) (sym at)) reported) present
