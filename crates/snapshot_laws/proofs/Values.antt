-- Values, and the lists of views, pairs and conflicts.
use Rattle.std.proofs.Common.{ℕ, ◌≤◌, List, ◌∷◌, ◌++◌, length, Ok, refl, subst, arith}
use Rattle.std.specs.Prelude.{IsTrue}
use Rattle.std.specs.List.{flat_map}
use Rattle.std.specs.Int.{w8, w16}
use Rattle.byte_defs.specs.Fields.{◌>>=◌, two_bytes, text}
use Rattle.byte_defs.proofs.Fields.{Takes, bind_ok, ok_is}
use Rattle.message_defs.specs.Updates.{Update, Value, update_numbers}
use Rattle.message_defs.specs.Statements.{Claim}
use Rattle.message_defs.specs.Spelling.{IsUpdate, IsValue, value_bytes}
use Rattle.message_defs.specs.Reading.{statement_of, update_within}
use Rattle.message_defs.specs.Reading as messages
use Rattle.statements.proofs.Parts.{update_takes, update_again, update_within_ok, is_update_within}
use Rattle.image_defs.specs.Images.{LeftView}
use Rattle.image_defs.specs.Spelling.{list_bytes, left_bytes, perceived_bytes, conflict_bytes}
use Rattle.snapshot_defs.specs.Steps.{◌&◌, number_to, text_to, list_at}
use Rattle.snapshot_defs.specs.Reading.{claim_at, claims_at, update_at, value_at, ranked_at, left_at, all_left_at, rises, perceived_key, conflict_key, perceived_at, all_perceived_at, conflict_at, all_conflicts_at}
use Rattle.snapshot_defs.specs.Ranges.{EachFrom, IsListOf, IsRanked, IsLeftView, IsPerceived, IsPayload, IsConflict}
use Rattle.snapshot_laws.proofs.Fields.{IsField, and_is, made_is, ranged_is, tested_is, byte_to_is, short_to_is, text_to_is}
use Rattle.snapshot_laws.proofs.Lists.{counted_is, list_is}
use Rattle.snapshot_laws.proofs.Claims.{else_ok, claim_is, claims_are}

update_is : IsField update_at update_numbers IsUpdate
unfolding update_at
update_is = record {
  takes = λ bytes x fits e.
      let read = else_ok (length bytes) (messages.update_at bytes >>= λ u. update_within u.0 >>= λ _. Ok u) x e in
      let a = bind_ok (messages.update_at bytes) _ x read in
      let b = bind_ok (update_within a.0.0) _ x a.2 in
      subst (λ (y : Update × List ℕ). Takes bytes (update_numbers y.0) y.1 × IsUpdate y.0) (ok_is a.0 x b.2)
      (update_takes bytes a.0 fits a.1, update_within_ok a.0.0 b.1);
  again = λ u rest is. rw (update_again u rest, is_update_within u is) refl;
}

abbrev value_by : Update × ℕ → Value
value_by v = record { update = v.0; cut = v.1 }

value_is : IsField value_at value_bytes IsValue
unfolding value_at
value_is = made_is value_by (λ v. (v.update, v.cut)) (λ v. refl) (λ v. refl)
    (and_is update_at (number_to w16 1024) update_is (short_to_is 1024 (omega arith)))

abbrev pub ranked_bytes : ℕ × Value → List ℕ
ranked_bytes r = r.0 ∷ value_bytes r.1

pub ranked_is : IsField ranked_at ranked_bytes IsRanked
ranked_is = and_is (number_to w8 15) value_at (byte_to_is 15) value_is

-- ---- views, pairs and conflicts

abbrev left_by : ℕ × (Value × List Claim) → LeftView
left_by l = record { rank = l.0; value = l.1.0; commit = l.1.1 }

left_is : IsField left_at left_bytes IsLeftView
unfolding left_at
left_is = ranged_is (λ l is. (is.0, is.1.0, is.1.1)) (λ l is. (is.0, (is.1, is.2)))
    (made_is left_by (λ l. (l.rank, (l.value, l.commit))) (λ l. refl) (λ l. refl)
    (and_is (number_to w8 15) (value_at & claims_at) (byte_to_is 15) (and_is value_at claims_at value_is claims_are)))

abbrev pub all_left : List LeftView → List ℕ
all_left ls = two_bytes (length ls) ++ flat_map left_bytes ls

abbrev pub AreLeftViews : List LeftView → Type 0
AreLeftViews ls = (length ls ≤ 1023) × EachFrom (λ k l. IsLeftView l) 0 ls

pub all_left_are : IsField all_left_at all_left AreLeftViews
all_left_are = counted_is (λ k. left_at) (λ k. left_is) (number_to w16 1023) (short_to_is 1023 (omega arith))

perceived_is : IsField perceived_at perceived_bytes IsPerceived
unfolding perceived_at
perceived_is = and_is (number_to w16 1023) update_at (short_to_is 1023 (omega arith)) update_is

abbrev pub ArePerceived : List (ℕ × Update) → Type 0
ArePerceived es = IsListOf (λ k e. IsPerceived e) es × IsTrue (rises perceived_key es)

pub all_perceived_are : IsField all_perceived_at (list_bytes perceived_bytes) ArePerceived
all_perceived_are = tested_is (rises perceived_key) (list_is (λ k. perceived_at) (λ k. perceived_is))

conflict_is : IsField conflict_at conflict_bytes IsConflict
unfolding conflict_at
conflict_is = and_is claim_at claim_at claim_is claim_is

abbrev pub all_conflicts : List (Claim × Claim) → List ℕ
all_conflicts es = length es ∷ flat_map conflict_bytes es

abbrev pub AreConflicts : List (Claim × Claim) → Type 0
AreConflicts es = ((length es ≤ 64) × EachFrom (λ k e. IsConflict e) 0 es) × IsTrue (rises conflict_key es)

pub all_conflicts_are : IsField all_conflicts_at all_conflicts AreConflicts
all_conflicts_are = tested_is (rises conflict_key) (counted_is (λ k. conflict_at) (λ k. conflict_is) (number_to w8 64) (byte_to_is 64))

pub payloads_are : IsField (list_at (λ k. text_to 1024)) (list_bytes text) (λ ps. IsListOf (λ k payload. IsPayload payload) ps)
payloads_are = list_is (λ k. text_to 1024) (λ k. text_to_is 1024 (omega arith))
