-- Entries that are read one after the other, and taken up.
use Rattle.std.proofs.Common.{◌≡◌, ℕ, ◌+◌, Bool, true, false, true≢false, List, [], ◌∷◌, ◌++◌, length, Option, None, Err, inl, inr, refl, sym, ap, subst, arith, ◌∙◌}
use Rattle.std.specs.Prelude.{◌==◌, if◌then◌else◌, IfSome, IsTrue}
use Rattle.byte_defs.specs.Members.{has}
use Rattle.kit_defs.specs.Kits.{Kit}
use Rattle.group_defs.specs.Process.{Process}
use Rattle.journal_defs.specs.Entries.{Entry}
use Rattle.journal_defs.specs.Journals.{HasEntryAt, IsBrokenAt, record_bytes}
use Rattle.journal_defs.proofs.Gates.{entry_goes_on}
use Rattle.journal_disk.proofs.Reported.{reported_both}
use Rattle.journal_rp.specs.declared.fault.JournalFault.{JournalFault}
use Rattle.journal_rp.specs.declared.fault.JournalFault.TheVariants as faults
use Rattle.journal_rp.specs.Answers.{HasCauses, IfEntry, of_read}
use Rattle.node_defs.specs.Lines.{Stop, BadJournal}
use Rattle.node_defs.specs.Casts.{Cast, Beginning, entries_of, taken_up, may_have_written}
use Rattle.node_defs.specs.Nodes.{Node, at_first, reads_one, takes_up}
use Rattle.node_defs.specs.Lives.{FitsFrom}
use Rattle.node_laws.proofs.Fitting.{fits-snoc}
use Rattle.node_laws.proofs.Openings.{opens_sound}
use Rattle.opening_laws.proofs.EntriesRead.{each_reads_on, one_more_counts}
use Rattle.restored_hosts.specs.Below.{Hosts, AreHosts, Counts, count_in, stop_of_fault}
use Rattle.node_opening.specs.Reading.{node_after, HasRead, HasReadOn, HasReadAll, RefusesEntry, forgets, strange, BreaksOff, lacks_memory, disk_failed, breaks}

-- ---- one entry

-- an entry that is taken up is one of a hosted process
taken-both : (b x : Bool) → (if b then x else false) ≡ true → (b ≡ true) × (x ≡ true)
taken-both true x is = (refl, is)
taken-both false x is = absurd (true≢false (sym is))

-- an entry that no hosted process may have written is refused
false-so : (b : Bool) → (b ≡ true → ⊥) → b ≡ false
false-so true never = absurd (never refl)
false-so false never = refl

pub not-taken : (c : Cast) (n : Node) (e : Entry) (place : ℕ) → (IsTrue (takes_up c n e) → ⊥) → RefusesEntry c n e place (BadJournal place)
not-taken c n e place never = strange (false-so (takes_up c n e) never)

module _ (c : Cast) (head : List ℕ) (b : Beginning) (lines : ℕ) where
  one-more : (es : List Entry) (e : Entry) → (node_after c b lines es).stopped ≡ None → IsTrue (takes_up c (node_after c b lines es) e)
      → node_after c b lines (es ++ e ∷ []) ≡ reads_one c (node_after c b lines es) e
  one-more es e runs takes = (each_reads_on c (at_first b lines) es runs).took e takes

  -- the hosted processes are what the entries make of them
  pub process-is : (es : List Entry) → FitsFrom c b.from es → (p : ℕ)
      → (node_after c b lines es).now p ≡ taken_up c.setting (b.from p) (entries_of p es)
  process-is es fits p =
      let is = opens_sound c b lines es fits in
      is.sound.processes p ∙ ap (λ ks. taken_up c.setting (b.from p) (entries_of p ks)) is.kept

  fits-more : (es : List Entry) (e : Entry) → FitsFrom c b.from es → IsTrue (takes_up c (node_after c b lines es) e)
      → FitsFrom c b.from (es ++ e ∷ [])
  fits-more es e fits takes =
      let both = taken-both (has c.hosted e.process) (may_have_written c ((node_after c b lines es).now e.process) e) takes in
      fits-snoc c b.from [] es e fits (
        both.0,
        subst (λ (p : Process). IsTrue (may_have_written c p e)) (process-is es fits e.process) both.1,
      )

  module _ (kit : Kit) (seen : Option (List ℕ)) (es : List Entry) (gate : ℕ) (old : Hosts) (counts : Counts)
      (read : HasRead c kit head b lines seen es gate old counts) where
    -- one entry more is read
    pub read-on : (e : Entry) (next : ℕ) (new : Hosts) (more : Counts) → IsTrue (takes_up c (node_after c b lines es) e)
        → AreHosts c kit (reads_one c (node_after c b lines es) e).now None new
        → ((p : ℕ) → count_in more p ≡ count_in counts p + (if e.process == p then 1 else 0))
        → next ≡ gate + length (record_bytes e) → IfSome seen (λ file. HasEntryAt file gate e next)
        → HasRead c kit head b lines seen (es ++ e ∷ []) next new more
    read-on e next new more takes are counted place there =
        let grown : node_after c b lines (es ++ e ∷ []) ≡ reads_one c (node_after c b lines es) e = one-more es e read.runs takes in
        record {
          runs = ap (λ (m : Node). m.stopped) grown ∙ read.runs;
          gate_is = ap (λ (m : Node). m.gate) grown ∙ ap (λ g. g + length (record_bytes e)) read.gate_is ∙ sym place;
          fits = fits-more es e read.fits takes;
          hosts_are = subst (λ (m : Node). AreHosts c kit m.now None new) (sym grown) are;
          counted = λ p. let was = read.counted p in omega (arith, counted p, was, one_more_counts p es e);
          stands = reported_both seen (λ file stands here. entry_goes_on head file es gate e next stands here) read.stands there;
        }

    -- what is there is no entry
    pub broken-at : (place : ℕ) → place ≡ gate → IfSome seen (λ file. IsBrokenAt file place) → BreaksOff c head b lines seen (BadJournal place)
    broken-at place same broken = subst (λ n. IfSome seen (λ file. IsBrokenAt file n) → BreaksOff c head b lines seen (BadJournal n)) (sym same)
        (λ here. breaks es gate (reported_both seen
        (λ file stands is. record { stands = stands; runs = read.runs; gate = read.gate_is; bad = inl is }) read.stands here)) broken

    -- the entry there is not taken up
    pub breaks-by : (e : Entry) (next place : ℕ) (why : Stop) → IfSome seen (λ file. HasEntryAt file gate e next) → place ≡ gate
        → RefusesEntry c (node_after c b lines es) e place why → BreaksOff c head b lines seen why
    breaks-by e next place why there same refused = go refused
      where
        go : {w : Stop} → RefusesEntry c (node_after c b lines es) e place w → BreaksOff c head b lines seen w
        go forgets = lacks_memory
        go (strange never) = subst (λ k. BreaksOff c head b lines seen (BadJournal k)) (sym same) (breaks es gate (reported_both seen
            (λ file stands is. record { stands = stands; runs = read.runs; gate = read.gate_is; bad = inr (e, next, is, never) })
            read.stands there))

    -- nothing could be read there
    pub read-failed : (T : Type 0) (before now : ℕ) (fault : JournalFault) (why : Stop) → why ≡ stop_of_fault fault
        → IfEntry {T = T} (Err fault) (λ place. (place ≡ gate) × IfSome seen (λ file. IsBrokenAt file place))
        → HasCauses {T = T} of_read before now (Err fault) → BreaksOff c head b lines seen why
    read-failed T before now fault why is broken causes = subst (BreaksOff c head b lines seen) (sym is) (go fault broken causes)
      where
        go : (f : JournalFault) → IfEntry {T = T} (Err f) (λ place. (place ≡ gate) × IfSome seen (λ file. IsBrokenAt file place))
            → HasCauses {T = T} of_read before now (Err f) → BreaksOff c head b lines seen (stop_of_fault f)
        go faults.DiskFault there cause = disk_failed
        go faults.NotAJournal there cause = absurd cc
        go (faults.Entry place) there cause = broken-at place there.0 there.1
        go (faults.Other place) there cause = absurd cc
        go (faults.Full whole more) there cause = absurd cc
        go faults.NoMemory there cause = lacks_memory

-- whether one entry more was read
pub read-more : (c : Cast) (kit : Kit) (head : List ℕ) (b : Beginning) (lines : ℕ) (seen : Option (List ℕ)) (es : List Entry) (gate : ℕ) (hosts : Hosts) (counts : Counts)
    (more : Bool) → more ≡ true → HasReadOn c kit head b lines seen es gate hosts counts more
    → (fs : List Entry) × HasRead c kit head b lines seen fs gate hosts counts
read-more c kit head b lines seen es gate hosts counts true is on = (es ++ on.0 ∷ [], on.1)
read-more c kit head b lines seen es gate hosts counts false is on = absurd cc

pub read-ended : (c : Cast) (kit : Kit) (head : List ℕ) (b : Beginning) (lines : ℕ) (seen : Option (List ℕ)) (es : List Entry) (gate : ℕ) (hosts : Hosts) (counts : Counts)
    (more : Bool) → more ≡ false → HasReadOn c kit head b lines seen es gate hosts counts more → HasReadAll c kit head b lines seen gate hosts counts
read-ended c kit head b lines seen es gate hosts counts true is on = absurd cc
read-ended c kit head b lines seen es gate hosts counts false is on = record { entries = es; read = on.0; closed = on.1 }
