-- The place of a snapshot in the kit's journal.
use Rattle.std.proofs.Common.{◌≡◌, ◌≢◌, ℕ, ◌<◌, ◌≤◌, List, length, take, Option, None, Some, Err, ap, subst, sym, ◌∙◌, true, false, nat_eq, slice_index_or}
use Rattle.std.specs.Prelude.{IfSome}
use Rattle.sha2.specs.Sha256.{sha256}
use Rattle.kit_defs.specs.Kits.{Kit}
use Rattle.journal_defs.specs.declared.Version.{Version}
use Rattle.journal_defs.specs.declared.Version.TheVariants.{One, Two}
use Rattle.journal_defs.specs.Journals.{behind_magic, magic}
use Rattle.journal_rp.specs.Answers.{HasCauses, IfOther, of_skip}
use Rattle.journal_rp.specs.declared.fault.JournalFault.{JournalFault}
use Rattle.journal_rp.specs.declared.fault.JournalFault.TheVariants as faults
use Rattle.journal_disk.proofs.Reported.{reported}
use Rattle.node_defs.specs.Lines.{Stop, BadJournal}
use Rattle.restored_hosts.specs.Below.{stop_of_fault, SnapSaid, Snap}
use Rattle.snapshot_defs.specs.declared.Version.TheVariants as images
use Rattle.node_opening.specs.Begins.{IsSnapFor}
use Rattle.node_opening.specs.Holding.{IsPlaceOf, header_in}
use Rattle.node_opening.specs.Reading.{IsNotAt, disk_fails, other_place}

never : true ≡ false → ⊥
never e = cc

-- the magics of the two kinds differ in their last byte
two-kinds : magic One ≡ magic Two → ⊥
two-kinds e = never (ap (λ (l : List ℕ). nat_eq (slice_index_or l 3 0) 49) e)

module _ (kit : Kit) (t : SnapSaid) (snap : Snap) (is : IsSnapFor kit t snap) (seen : Option (List ℕ)) where
  -- where the header and the digest are the journal's, this is the place
  pub at-place : (kind : Version) → IfSome seen (λ file. take 4 file ≡ magic kind) → (snap.version ≡ images.One → kind ≡ One)
      → snap.header ≡ behind_magic (header_in kit) → 60 ≤ snap.place
      → IfSome seen (λ file. (snap.place < length file) × (sha256 (take snap.place file) ≡ snap.digest)) → IfSome seen (IsPlaceOf kit t)
  at-place kind begins fits own after there = go seen begins there
    where
      go : (o : Option (List ℕ)) → IfSome o (λ file. take 4 file ≡ magic kind)
          → IfSome o (λ file. (snap.place < length file) × (sha256 (take snap.place file) ≡ snap.digest)) → IfSome o (IsPlaceOf kit t)
      go None first both = tt
      go (Some file) first both = record {
        header = sym is.is.header ∙ own;
        kind = λ old. first ∙ ap magic (fits (is.is.version ∙ old));
        after_header = subst (λ (n : ℕ). 60 ≤ n) is.is.place after;
        within = subst (λ (n : ℕ). n < length file) is.is.place both.0;
        digest = subst (λ (n : ℕ). sha256 (take n file) ≡ t.digest) is.is.place (both.1 ∙ is.is.digest);
      }

  -- another header
  pub other-header : ((snap.header ≡ behind_magic (header_in kit)) → ⊥) → IsNotAt kit t seen (BadJournal snap.place)
  other-header not = subst (λ (n : ℕ). IsNotAt kit t seen (BadJournal n)) (sym is.is.place) (other_place (nowhere seen))
    where
      nowhere : (o : Option (List ℕ)) → IfSome o (λ file. ¬ IsPlaceOf kit t file)
      nowhere None = tt
      nowhere (Some file) = λ at. not (is.is.header ∙ at.header)

  -- images of the first version beside a journal of the second kind
  pub other-kind : (kind : Version) → IfSome seen (λ file. take 4 file ≡ magic kind) → snap.version ≡ images.One → kind ≡ Two
      → IsNotAt kit t seen (BadJournal snap.place)
  other-kind kind begins old new = subst (λ (n : ℕ). IsNotAt kit t seen (BadJournal n)) (sym is.is.place) (other_place (nowhere seen begins))
    where
      nowhere : (o : Option (List ℕ)) → IfSome o (λ file. take 4 file ≡ magic kind) → IfSome o (λ file. ¬ IsPlaceOf kit t file)
      nowhere None first = tt
      nowhere (Some file) first = λ at. two-kinds (sym (at.kind (sym is.is.version ∙ old)) ∙ first ∙ ap magic new)

  -- the same header, and another place or digest
  other-bytes : IfSome seen (λ file. 60 ≤ snap.place → snap.place < length file → sha256 (take snap.place file) ≢ snap.digest)
      → IfSome seen (λ file. ¬ IsPlaceOf kit t file)
  other-bytes = reported seen (λ file other at. subst (λ (n : ℕ). (60 ≤ n) → n < length file → sha256 (take n file) ≢ snap.digest) is.is.place
      other at.after_header at.within (at.digest ∙ sym is.is.digest))

  -- why the journal was not gone through to there
  pub not-skipped : (T : Type 0) (before now : ℕ) (fault : JournalFault) (why : Stop) → why ≡ stop_of_fault fault
      → IfOther {T = T} (Err fault) (λ at. (at ≡ snap.place)
      × IfSome seen (λ file. 60 ≤ snap.place → snap.place < length file → sha256 (take snap.place file) ≢ snap.digest))
      → HasCauses {T = T} of_skip before now (Err fault) → IsNotAt kit t seen why
  not-skipped T before now fault why same other causes = subst (IsNotAt kit t seen) (sym same) (go fault other causes)
    where
      go : (f : JournalFault) → IfOther {T = T} (Err f) (λ at. (at ≡ snap.place)
          × IfSome seen (λ file. 60 ≤ snap.place → snap.place < length file → sha256 (take snap.place file) ≢ snap.digest))
          → HasCauses {T = T} of_skip before now (Err f) → IsNotAt kit t seen (stop_of_fault f)
      go faults.DiskFault there cause = disk_fails
      go faults.NotAJournal there cause = absurd cc
      go (faults.Entry place) there cause = absurd cc
      go (faults.Other place) there cause = subst (λ (n : ℕ). IsNotAt kit t seen (BadJournal n)) (sym (there.0 ∙ is.is.place))
          (other_place (other-bytes there.1))
      go (faults.Full whole more) there cause = absurd cc
      go faults.NoMemory there cause = absurd cc
