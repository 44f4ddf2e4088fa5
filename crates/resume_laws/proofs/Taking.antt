-- A snapshot after entries that fit is one by which the node may begin.
use Rattle.std.proofs.Common.{◌≡◌, ℕ, ◌+◌, ◌-◌, ◌≤◌, List, [], ◌∷◌, ◌++◌, length, Bool, true, false, refl, sym, ap, ◌∙◌, subst, inl, inr, arith}
use Rattle.std.specs.Prelude.{◌==◌, ◌&&◌, nat_le, if◌then◌else◌, IsTrue, All}
use Rattle.std.specs.List.{list_all}
use Rattle.std.proofs.lemmas.Bool.{eqb-true, leb-true}
use Rattle.std.proofs.lemmas.List.{append-nil, append_assoc, length-append}
use Rattle.pool_laws.proofs.Members.{Mem, mem-All, append-mem, list_all-mem}
use Rattle.pool_laws.proofs.Tests.{and-first, and-second}
use Rattle.message_defs.specs.Statements.{Claim}
use Rattle.group_defs.specs.Hearing.{is_valid}
use Rattle.group_defs.specs.Process.{Process}
use Rattle.group_defs.specs.Events.{Outcome, outcome, after}
use Rattle.group_defs.specs.Events as group
use Rattle.journal_defs.specs.Entries.{Entry}
use Rattle.journal_defs.specs.Journals.{record_bytes, up_to_gate}
use Rattle.image_defs.specs.Images.{Image}
use Rattle.image_defs.specs.Kept.{IsKept}
use Rattle.image_laws.proofs.Making.{images_are_kept}
use Rattle.node_defs.specs.Casts.{Cast, from_start, kept_turn, turns_from, entries_of, taken_up, may_have_written}
use Rattle.node_defs.specs.Lives.{FitsAt, FitsBehind, FitsFrom}
use Rattle.node_laws.proofs.Entries.{entries-append, own-entry, other-entry, taken-snoc, taken-me}
use Rattle.node_laws.proofs.Made.{TurnMakes, turn-makes}
use Rattle.resume_laws.specs.Snapping.{SnapshotsAreTaken}
use Rattle.resume_laws.proofs.Frames.{handed-in}
use Rattle.resume_laws.proofs.Readings.{size, start-place}

-- ---- what an entry that may have been written says of the signatures

record IsWritten (c : Cast) (x : Process) (e : Entry) (signed : List Claim) : Type 0 where
  few : length signed ≤ c.total x.me - length x.signed
  valid : (d : Claim) → Mem d signed → IsTrue (is_valid c.setting d)

written : (c : Cast) (x : Process) (e : Entry) → may_have_written c x e ≡ true
    → IsWritten c x e (outcome c.setting x (kept_turn x e)).signed
unfolding may_have_written
written c x e is = record {
  few = subst (λ k. k ≤ c.total x.me - length x.signed)
      (sym (eqb-true (length o.signed) (length e.signatures) (and-first many lacks (and-first (many && lacks) valid three))))
      (leb-true (length e.signatures) (c.total x.me - length x.signed) (and-second (many && lacks && valid) fits is));
  valid = λ d m. list_all-mem (is_valid c.setting) o.signed d (and-second (many && lacks) valid three) m;
}
  where
    o : Outcome
    o = outcome c.setting x (kept_turn x e)

    many : Bool
    many = length o.signed == length e.signatures

    lacks : Bool
    lacks = if o.spent then e.spent else (if e.spent then false else true)

    valid : Bool
    valid = list_all (is_valid c.setting) o.signed

    fits : Bool
    fits = nat_le (length e.signatures) (c.total x.me - length x.signed)

    three : (many && lacks && valid) ≡ true
    three = and-first (many && lacks && valid) fits is

-- ---- what a process has signed

module _ (c : Cast) (p : ℕ) where
  -- after these entries
  abbrev at : List Entry → Process
  at es = taken_up c.setting ((from_start c).from p) (entries_of p es)

  -- no more than its key can, and each is valid
  record SignsWell (x : Process) : Type 0 where
    few : length x.signed ≤ c.total p
    valid : (d : Claim) → Mem d x.signed → IsTrue (is_valid c.setting d)

  signs-more : (x : Process) (e : Entry) → x.me ≡ p → may_have_written c x e ≡ true → SignsWell x
      → SignsWell (after c.setting x (kept_turn x e))
  signs-more x e me is well =
      let w : IsWritten c x e (outcome c.setting x (kept_turn x e)).signed = written c x e is in
      let few : length (outcome c.setting x (kept_turn x e)).signed ≤ c.total p - length x.signed = subst
      (λ q. length (outcome c.setting x (kept_turn x e)).signed ≤ c.total q - length x.signed) me w.few in
      let before : length x.signed ≤ c.total p = well.few in
      let turn : TurnMakes c.setting x (kept_turn x e) = turn-makes c.setting x (kept_turn x e) in
      let whole : length (x.signed ++ (outcome c.setting x (kept_turn x e)).signed)
      ≡ length x.signed + length (outcome c.setting x (kept_turn x e)).signed
      = length-append x.signed (outcome c.setting x (kept_turn x e)).signed in
      record {
        few = subst (λ (ds : List Claim). length ds ≤ c.total p) (sym turn.after) (omega (arith, few, before, whole));
        valid = λ d m. elim (append-mem x.signed (outcome c.setting x (kept_turn x e)).signed d (subst (Mem d) turn.after m)) [
          | inl old ↦ well.valid d old
          | inr new ↦ w.valid d new
        ];
      }

  one-entry : (before : List Entry) (e : Entry) → FitsAt c (from_start c).from before e → SignsWell (at before)
      → SignsWell (at (before ++ e ∷ []))
  one-entry before e fits well = go (e.process == p) refl
    where
      start : Process
      start = (from_start c).from p

      go : (b : Bool) → (e.process == p) ≡ b → SignsWell (at (before ++ e ∷ []))
      go true is =
          let own : e.process ≡ p = eqb-true e.process p is in
          let those : entries_of p (before ++ e ∷ []) ≡ entries_of p before ++ e ∷ []
          = entries-append p before (e ∷ []) ∙ ap (λ es. entries_of p before ++ es) (own-entry p e own) in
          subst SignsWell (sym (ap (taken_up c.setting start) those ∙ taken-snoc c.setting start (entries_of p before) e))
          (signs-more (at before) e (taken-me c.setting start (entries_of p before))
          (subst (λ q. may_have_written c (taken_up c.setting ((from_start c).from q) (entries_of q before)) e ≡ true) own fits.1) well)
      go false not-own =
          let those : entries_of p (before ++ e ∷ []) ≡ entries_of p before
          = entries-append p before (e ∷ []) ∙ ap (λ es. entries_of p before ++ es) (other-entry p e not-own)
          ∙ append-nil (entries_of p before) in
          subst SignsWell (ap (taken_up c.setting start) (sym those)) well

  signs-well : (before es : List Entry) → FitsBehind c (from_start c).from before es → SignsWell (at before) → SignsWell (at (before ++ es))
  signs-well before [] fits well = subst (λ fs. SignsWell (at fs)) (sym (append-nil before)) well
  signs-well before (e ∷ es) fits well = subst (λ fs. SignsWell (at fs)) (append_assoc before (e ∷ []) es)
      (signs-well (before ++ e ∷ []) es fits.1 (one-entry before e fits.0 well))

  signs-well-after : (es : List Entry) → FitsFrom c (from_start c).from es → SignsWell (at es)
  unfolding turns_from group.run
  signs-well-after es fits = signs-well [] es fits (record { few = omega arith; valid = λ d m. absurd m })

-- ---- counts

-- a process has no more entries than their records have bytes
few-entries : (p : ℕ) (es : List Entry) → length (entries_of p es) ≤ size es
few-entries p [] = omega arith
few-entries p (e ∷ es) =
    let rest : length (entries_of p es) ≤ size es = few-entries p es in
    let all : size (e ∷ es) ≡ length (record_bytes e) + size es = length-append (record_bytes e) _ in
    go (e.process == p) rest all
  where
    go : (b : Bool) → length (entries_of p es) ≤ size es → size (e ∷ es) ≡ length (record_bytes e) + size es
        → length (if b then e ∷ entries_of p es else entries_of p es) ≤ size (e ∷ es)
    go true rest all = omega (arith, rest, all)
    go false rest all = omega (arith, rest, all)

-- ---- the law

pub snapshots_are_taken : SnapshotsAreTaken
snapshots_are_taken c es s view fits is place digest = record {
  own = λ p h. ap (λ (i : Image). i.me) (is.images p h) ∙ taken-me c.setting ((from_start c).from p) (entries_of p es);
  kept = λ p h. subst (IsKept c.setting) (sym (is.images p h))
      (images_are_kept c.setting p c.batch_limit (turns p) view (valid p) (handed-in c.setting ((from_start c).from p) (entries_of p es)));
  signed = λ p h. subst (λ (i : Image). length i.signed ≤ c.total p) (sym (is.images p h)) (signs-well-after c p es fits).few;
  counted = λ p h. subst (λ k. k ≤ s.place) (sym (is.entries p h)) (subst (λ k. length (entries_of p es) ≤ k) (sym is.place)
      (let few : length (entries_of p es) ≤ size es = few-entries p es in
      let whole : (from_start c).place + size es ≡ length (up_to_gate c.header es) = start-place c es in omega (arith, few, whole)));
  place = place;
  digest = digest;
}
  where
    turns : ℕ → List group.Turn
    turns p = turns_from c.setting ((from_start c).from p) (entries_of p es)

    valid : (p : ℕ) → All (λ d. IsTrue (is_valid c.setting d)) (taken_up c.setting ((from_start c).from p) (entries_of p es)).signed
    valid p = mem-All (λ (d : Claim). IsTrue (is_valid c.setting d)) (taken_up c.setting ((from_start c).from p) (entries_of p es)).signed
        (signs-well-after c p es fits).valid
