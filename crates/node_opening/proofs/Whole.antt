-- A journal that was read, and one that was not.
use Rattle.std.proofs.Common.{◌≡◌, ◌≢◌, ℕ, List, [], ◌∷◌, ◌++◌, length, drop, get_or, Option, None, Some, inl, inr, refl, sym, ap, subst, append-nil, append_assoc, ◌∙◌}
use Rattle.std.specs.Prelude.{IfSome, IsSome}
use Rattle.std.specs.Option.{IsSomeAnd}
use Rattle.std.specs.List.{flat_map}
use Rattle.std.proofs.lemmas.List.{drop_at}
use Rattle.kit_defs.specs.Kits.{Kit}
use Rattle.journal_defs.specs.declared.Version.{Version}
use Rattle.journal_defs.specs.Entries.{Entry}
use Rattle.journal_defs.specs.Journals.{ReadsAs, LieBefore, behind_gate, closed_gate, open_gate, record_bytes}
use Rattle.journal_defs.specs.Crashes.{IsAtRest}
use Rattle.journal_defs.proofs.Crashing.{not_open}
use Rattle.journal_defs.proofs.Gates.{closed_gate_ends}
use Rattle.journal_disk.proofs.Reported.{reported_both}
use Rattle.node_defs.specs.Lines.{Stop}
use Rattle.node_defs.specs.Casts.{Cast, cast_of, from_start}
use Rattle.node_defs.specs.Nodes.{Node}
use Rattle.opening_laws.specs.Reading.{BreaksReading, IsBadAt}
use Rattle.restored_hosts.specs.Below.{Hosts, Counts, SnapSaid}
use Rattle.node_opening.specs.Begins.{AreKeyedBy, HasItsPlace, IsSetOut, begins_by, head_in}
use Rattle.node_opening.specs.Holding.{HoldsBy, IsBegun, IsStartedOn, ReadsFrom}
use Rattle.node_opening.proofs.Begun.{first-read}
use Rattle.node_opening.specs.Reading.{node_after, BreaksBy, BreaksFrom, BreaksOff, lacks_memory, disk_failed, breaks, HasRead, HasReadAll, HasReadJournal, IsNotAt, disk_fails, other_place, IsNotSetOut, too_little, not_there, Unread, no_memory, no_disk, no_place, no_entry}

-- ---- a journal that was started

-- the file that the disk has then
pub started-on : (kit : Kit) (v : Version) (held file : List ℕ) (gate : ℕ) → IsBegun kit v (Some held) (Some file) gate
    → IsStartedOn kit v held file
started-on kit v held file gate begun = record {
  old = λ some.
      let reported : Some file ≡ Some held = begun.same some in
      let same : file ≡ held = cc in (
        same,
        record {
          rest = begun.stands.rest;
          parts = sym same ∙ begun.stands.parts ∙ ap (λ (l : List ℕ). l ++ begun.stands.rest) (append-nil (cast_of kit v).header);
          goes_on = begun.stands.goes_on;
        },
      );
  new = λ none. (begun.fresh none, begun.kind none);
}

-- of what the disk says before and after it
pub by-file : {P : List ℕ → Type 0} {Q : List ℕ → Type 0} (kit : Kit) (v : Version) (held seen : Option (List ℕ)) (gate : ℕ)
    → IsBegun kit v held seen gate → ((h file : List ℕ) → IsStartedOn kit v h file → P file → Q h) → IfSome seen P → IfSome held Q
by-file {P} {Q} kit v held seen gate begun then of = go held seen begun of
  where
    go : (o n : Option (List ℕ)) → IsBegun kit v o n gate → IfSome n P → IfSome o Q
    go None n is p = tt
    go (Some h) None is p = let some = is.tells refl in absurd cc
    go (Some h) (Some file) is p = then h file (started-on kit v h file gate is) p

-- ---- what was read

-- the entries are those that the disk held from where the node begins
pub holds-so : (kit : Kit) (v : Version) (s : Option SnapSaid) (held seen : Option (List ℕ)) (gate : ℕ) (es : List Entry)
    → IsBegun kit v held seen gate → IfSome seen (HasItsPlace kit s)
    → IfSome seen (λ file. ReadsAs (head_in (cast_of kit v) s seen) file es) → HoldsBy kit v s es held
holds-so kit v None held seen gate es begun there reads = begun.holds es reads
holds-so kit v (Some t) held None gate es begun there reads = by-file {P = λ f. ⊥} {Q = ReadsFrom kit v t es} kit v held None gate begun
    (λ h file started never. absurd never) tt
holds-so kit v (Some t) held (Some file) gate es begun there reads =
    by-file {P = λ f. (f ≡ file)} {Q = ReadsFrom kit v t es} kit v held (Some file) gate begun
    (λ h f started same. record {
      file = file;
      started = subst (λ (l : List ℕ). IsStartedOn kit v h l) same started;
      place = there;
      reads = reads;
    }) refl

module _ (kit : Kit) (s : Option SnapSaid) (lines : ℕ) (held : Option (List ℕ)) (first gate : ℕ) (hosts : Hosts) (counts : Counts) where
  journal-read : (v : Version) (seen : Option (List ℕ)) → IsBegun kit v held seen first → IfSome seen (HasItsPlace kit s)
      → HasReadAll (cast_of kit v) kit (head_in (cast_of kit v) s seen) (begins_by (cast_of kit v) s) lines seen gate hosts counts
      → AreKeyedBy kit v s → HasReadJournal kit v s lines held seen gate hosts counts
  journal-read v seen begun there all keyed = record {
    all = all;
    holds = holds-so kit v s held seen first all.entries begun there (reported_both seen
        (λ file stands closed. closed_gate_ends (head_in (cast_of kit v) s seen) file all.entries gate stands closed) all.read.stands all.closed);
    there = there;
    same = begun.same;
    tells = begun.tells;
    keyed = keyed;
  }

  -- the journal and the disk have not changed
  pub read-so : (v w : Version) (seen now : Option (List ℕ)) → w ≡ v → now ≡ seen → IsBegun kit v held seen first
      → IfSome seen (HasItsPlace kit s)
      → HasReadAll (cast_of kit v) kit (head_in (cast_of kit v) s seen) (begins_by (cast_of kit v) s) lines seen gate hosts counts
      → AreKeyedBy kit v s → HasReadJournal kit w s lines held now gate hosts counts
  read-so v w seen now kind same begun there all keyed =
      subst (λ (u : Version). HasReadJournal kit u s lines held now gate hosts counts) (sym kind)
      (subst (λ (o : Option (List ℕ)). HasReadJournal kit v s lines held o gate hosts counts) (sym same)
      (journal-read v seen begun there all keyed))

-- ---- why it was not

-- one byte is no open gate and a closed one
no-two-gates : (xs ys : List ℕ) → open_gate ∷ xs ≡ closed_gate ∷ ys → ⊥
no-two-gates xs ys e = not_open (sym (ap (λ (l : List ℕ). get_or l 0 0) e))

-- where the gate there is closed, no entry is missing
bad-is-open : (c : Cast) (n : Node) (file : List ℕ) (place : ℕ) → IsBadAt c n file place → (rest : List ℕ) × (drop place file ≡ open_gate ∷ rest)
bad-is-open c n file place (inl broken) = (broken.behind, broken.parts)
bad-is-open c n file place (inr strange) = (behind_gate strange.0 ++ strange.2.more, strange.2.parts)

-- a journal at rest without entries is read to its end
fresh-is-whole : (c : Cast) (lines : ℕ) (file : List ℕ) (es : List Entry) (place : ℕ) → IsAtRest c.header [] file
    → BreaksReading c (from_start c) lines c.header file es place → ⊥
fresh-is-whole c lines file es place rest stops = go es stops.stands
  where
    here : drop (length c.header) file ≡ closed_gate ∷ rest.behind
    here = ap (λ (l : List ℕ). drop (length c.header) l) (rest.parts ∙ ap (λ (l : List ℕ). l ++ closed_gate ∷ rest.behind) (append-nil c.header))
        ∙ drop_at c.header (closed_gate ∷ rest.behind) (length c.header) refl

    go : (fs : List Entry) → LieBefore c.header file fs place → ⊥
    go [] stands =
        let bad = bad-is-open c (node_after c (from_start c) lines es) file place stops.bad in
        let at : place ≡ length c.header = stands.where_it_is ∙ ap (λ (l : List ℕ). length l) (append-nil c.header) in
        no-two-gates bad.0 rest.behind (sym bad.1 ∙ ap (λ n. drop n file) at ∙ here)
    go (f ∷ fs) stands =
        let more = behind_gate f ++ flat_map record_bytes fs in
        let there : drop (length c.header) file ≡ open_gate ∷ (more ++ stands.rest)
        = ap (λ (l : List ℕ). drop (length c.header) l) (stands.parts ∙ append_assoc c.header (open_gate ∷ more) stands.rest)
        ∙ drop_at c.header (open_gate ∷ (more ++ stands.rest)) (length c.header) refl in
        no-two-gates (more ++ stands.rest) rest.behind (sym there ∙ here)

breaks-at-start : (kit : Kit) (v : Version) (lines gate : ℕ) (held seen : Option (List ℕ)) → IsBegun kit v held seen gate → (es : List Entry)
    (place : ℕ)
    → IfSome seen (λ file. BreaksReading (cast_of kit v) (from_start (cast_of kit v)) lines (cast_of kit v).header file es place)
    → IfSome held (λ file. BreaksReading (cast_of kit v) (from_start (cast_of kit v)) lines (cast_of kit v).header file es place)
breaks-at-start kit v lines gate held seen begun es place stops = at held begun.fresh begun.same begun.tells
  where
    at : (o : Option (List ℕ)) → (IsSomeAnd o (λ file. file ≡ []) → IfSome seen (IsAtRest (cast_of kit v).header []))
        → (IsSomeAnd o (λ file. file ≢ []) → seen ≡ o) → (IsSome o → IsSome seen)
        → IfSome o (λ file. BreaksReading (cast_of kit v) (from_start (cast_of kit v)) lines (cast_of kit v).header file es place)
    at None fresh same tells = tt
    at (Some []) fresh same tells = by seen (tells refl) (fresh refl) stops
      where
        by : (s : Option (List ℕ)) → IsSome s → IfSome s (IsAtRest (cast_of kit v).header [])
            → IfSome s (λ file. BreaksReading (cast_of kit v) (from_start (cast_of kit v)) lines (cast_of kit v).header file es place)
            → BreaksReading (cast_of kit v) (from_start (cast_of kit v)) lines (cast_of kit v).header [] es place
        by None some rest broken = absurd cc
        by (Some file) some rest broken = absurd (fresh-is-whole (cast_of kit v) lines file es place rest broken)
    at (Some (b ∷ bs)) fresh same tells = subst
        (λ (o : Option (List ℕ)). IfSome o (λ file. BreaksReading (cast_of kit v) (from_start (cast_of kit v)) lines (cast_of kit v).header file es place))
        (same (λ e. cc)) stops

breaks-so : (kit : Kit) (v : Version) (s : Option SnapSaid) (lines gate : ℕ) (held seen : Option (List ℕ)) → IsBegun kit v held seen gate
    → IfSome seen (HasItsPlace kit s) → (es : List Entry) (place : ℕ)
    → IfSome seen (λ file. BreaksReading (cast_of kit v) (begins_by (cast_of kit v) s) lines (head_in (cast_of kit v) s seen) file es place)
    → IfSome held (BreaksBy kit v s lines es place)
breaks-so kit v None lines gate held seen begun there es place stops = breaks-at-start kit v lines gate held seen begun es place stops
breaks-so kit v (Some t) lines gate held None begun there es place stops = by-file {P = λ f. ⊥} {Q = BreaksFrom kit v t lines es place} kit v held
    None gate begun (λ h file started never. absurd never) tt
breaks-so kit v (Some t) lines gate held (Some file) begun there es place stops =
    by-file {P = λ f. (f ≡ file)} {Q = BreaksFrom kit v t lines es place} kit v held (Some file) gate begun
    (λ h f started same. record {
      file = file;
      started = subst (λ (l : List ℕ). IsStartedOn kit v h l) same started;
      has = there;
      breaks = stops;
    }) refl

pub unread-by : (kit : Kit) (v : Version) (s : Option SnapSaid) (lines gate : ℕ) (held seen : Option (List ℕ)) → IsBegun kit v held seen gate
    → IfSome seen (HasItsPlace kit s) → (why : Stop)
    → BreaksOff (cast_of kit v) (head_in (cast_of kit v) s seen) (begins_by (cast_of kit v) s) lines seen why → Unread kit s lines held why
unread-by kit v s lines gate held seen begun there why off = go off
  where
    go : {w : Stop} → BreaksOff (cast_of kit v) (head_in (cast_of kit v) s seen) (begins_by (cast_of kit v) s) lines seen w
        → Unread kit s lines held w
    go lacks_memory = no_memory
    go disk_failed = no_disk
    go (breaks es place stops) = no_entry v es place (breaks-so kit v s lines gate held seen begun there es place stops)

-- the hosted processes are not there
pub not-set-out : (kit : Kit) (v : Version) (s : Option SnapSaid) (lines gate : ℕ) (held seen : Option (List ℕ)) → IsBegun kit v held seen gate
    → (why : Stop) → IsNotSetOut kit s seen why → Unread kit s lines held why
not-set-out kit v s lines gate held seen begun why not = go not
  where
    at : (t : SnapSaid) → s ≡ Some t → {w : Stop} → IsNotAt kit t seen w → Unread kit s lines held w
    at t is disk_fails = no_disk
    at t is (other_place other) = no_place t is (by-file kit v held seen gate begun
        (λ h file started not-there. record { version = v; file = file; started = started; other = not-there }) other)

    go : {w : Stop} → IsNotSetOut kit s seen w → Unread kit s lines held w
    go too_little = no_memory
    go (not_there t why is where-not) = at t is where-not

-- ---- a journal that was started, and its hosted processes set out: the disk as they were, as they are, and once all entries were read

module _ (kit : Kit) (v0 v1 : Version) (s : Option SnapSaid) (lines : ℕ) (held s0 s1 : Option (List ℕ)) (first mid : ℕ) (hosts : Hosts)
    (counts : Counts) (begun : IsBegun kit v0 held s0 first) (kind : v1 ≡ v0) (read : s1 ≡ s0) (out : IsSetOut kit v1 s s1 mid hosts counts)
  where
    begun-then : IsBegun kit v1 held s1 first
    begun-then = subst (λ (v : Version). IsBegun kit v held s1 first) (sym kind)
        (subst (λ (o : Option (List ℕ)). IsBegun kit v0 held o first) (sym read) begun)

    abbrev Taken : ℕ → Hosts → Counts → Type 0
    Taken gate now counted = HasRead (cast_of kit v1) kit (head_in (cast_of kit v1) s s1) (begins_by (cast_of kit v1) s) lines s1 [] mid hosts counts
        → HasReadAll (cast_of kit v1) kit (head_in (cast_of kit v1) s s1) (begins_by (cast_of kit v1) s) lines s1 gate now counted

    pub read-all : (w : Version) (s2 : Option (List ℕ)) (gate : ℕ) (now : Hosts) (counted : Counts) → w ≡ v1 → s2 ≡ s1 → Taken gate now counted
        → HasReadJournal kit w s lines held s2 gate now counted
    read-all w s2 gate now counted kind2 read2 taken = read-so kit s lines held first gate now counted v1 w s1 s2 kind2 read2 begun-then out.there
        (taken (first-read kit v1 s lines s1 mid hosts counts out)) out.keyed

    pub read-broken : (why : Stop)
        → (HasRead (cast_of kit v1) kit (head_in (cast_of kit v1) s s1) (begins_by (cast_of kit v1) s) lines s1 [] mid hosts counts
        → BreaksOff (cast_of kit v1) (head_in (cast_of kit v1) s s1) (begins_by (cast_of kit v1) s) lines s1 why)
        → Unread kit s lines held why
    read-broken why off = unread-by kit v1 s lines first held s1 begun-then out.there why
        (off (first-read kit v1 s lines s1 mid hosts counts out))
