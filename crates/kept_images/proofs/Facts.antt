-- Facts of two parts, from tests of both.
use Rattle.std.proofs.Common.{◌≡◌, ◌-◌, ◌≤◌, ℕ, List, [], length, map, Bool, refl, sym, ◌∙◌}
use Rattle.std.specs.Prelude.{◌↔◌, ◌&&◌, nat_le, All, IsTrue}
use Rattle.std.specs.List.{list_all}
use Rattle.std.proofs.lemmas.Bool.{leb-true, le-leb}
use Rattle.message_defs.specs.Limits.{most_places, most_payload_bytes}
use Rattle.message_defs.specs.Statements.{Claim, Conflicts}
use Rattle.group_defs.specs.Process.{Setting, Delivered, places_in}
use Rattle.group_defs.specs.Hearing.{is_valid}
use Rattle.group_defs.specs.Accounts.{IsByPlace}
use Rattle.pool_laws.proofs.Members.{tested-all, all-tested}
use Rattle.pool_laws.proofs.Tests.{and-first, and-second, both-true}
use Rattle.kept_images.specs.Facts.{AreByPlace, AreAccepted, AreConflicts}
use Rattle.kept_images.specs.Tests.{is_short, is_conflict, are_others, are_conflicts}
use Rattle.kept_images.proofs.Entries.{short-so, so-short, conflict-so, so-conflict}
use Rattle.kept_images.proofs.Walks.{keys-differ}

pub places-all : (lists : List (List Delivered)) {B : Type 0} → (B ↔ All (λ ds. IsByPlace ds × (places_in ds ≤ most_places)) lists)
    → B ↔ AreByPlace lists
places-all lists both = (
  λ b. (let all = both.0 b in record { by_place = λ k d lt. (all k d lt).0; few = λ k d lt. (all k d lt).1 }),
  λ so. both.1 (λ k d lt. (so.by_place k d lt, so.few k d lt)),
)

-- at most 256 are left of the accepted ones, where so many are delivered
pub accepted-all : (accepted : List (List ℕ)) (delivered : ℕ) (b : Bool)
    → b ≡ (nat_le (length accepted - delivered) 256 && list_all is_short accepted) → IsTrue b ↔ AreAccepted accepted delivered
accepted-all accepted delivered b is =
    let few : Bool = nat_le (length accepted - delivered) 256 in
    let short : Bool = list_all is_short accepted in (
      λ ok. record {
        short = tested-all is_short (λ (x : List ℕ). length x ≤ most_payload_bytes) accepted short-so (and-second few short (sym is ∙ ok));
        backlog = leb-true (length accepted - delivered) 256 (and-first few short (sym is ∙ ok));
      },
      λ so. is ∙ both-true few short (le-leb (length accepted - delivered) 256 so.backlog)
          (all-tested is_short (λ (x : List ℕ). length x ≤ most_payload_bytes) accepted so-short so.short),
    )

abbrev IsOne : Setting → Claim × Claim → Type 0
IsOne s e = (e.0.signer ≡ e.1.signer) × Conflicts e.0 e.1 × IsTrue (is_valid s e.0) × IsTrue (is_valid s e.1)

pub conflicts-all : (s : Setting) (pairs : List (Claim × Claim)) (b : Bool) → b ≡ are_conflicts s pairs → IsTrue b ↔ AreConflicts s pairs
conflicts-all s pairs b is =
    let others : Bool = are_others [] (map (λ (e : Claim × Claim). e.0.signer) pairs) in
    let each : Bool = list_all (is_conflict s) pairs in
    let differ = keys-differ (λ (e : Claim × Claim). e.0.signer) pairs others refl in (
      λ ok. record {
        each = tested-all (is_conflict s) (IsOne s) pairs (conflict-so s) (and-second others each (sym is ∙ ok));
        one_each = differ.0 (and-first others each (sym is ∙ ok));
      },
      λ so. is ∙ both-true others each (differ.1 so.one_each) (all-tested (is_conflict s) (IsOne s) pairs (so-conflict s) so.each),
    )
