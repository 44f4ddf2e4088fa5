-- How a node that begins by a snapshot begins: beside the one that reads from the start, and with the same lines.
use Rattle.std.proofs.Common.{◌≡◌, ℕ, ◌+◌, List, [], ◌∷◌, ◌++◌, length, map, drop, codes, Bool, true, false, refl, sym, ap, ◌∙◌, subst, Option, Some, None, inl, inr, arith}
use Rattle.std.specs.Prelude.{option_map, ◌==◌, if◌then◌else◌, IsTrue, flat_map}
use Rattle.std.specs.Option.{unwrap_or}
use Rattle.std.specs.Int.{w64, to_be_bytes}
use Rattle.std.proofs.lemmas.List.{append-nil, append_assoc, length-append}
use Rattle.std.proofs.lemmas.Bool.{eq-eqb}
use Rattle.byte_defs.specs.Members.{has}
use Rattle.byte_defs.specs.Fields.{four_bytes}
use Rattle.pool_laws.proofs.Members.{Mem, mem-list_any}
use Rattle.group_defs.specs.Process.{Process}
use Rattle.group_defs.specs.Views.{IsView}
use Rattle.group_defs.specs.Events.{after}
use Rattle.journal_defs.specs.Entries.{Entry}
use Rattle.image_defs.specs.Images.{Image, image_of, process_of}
use Rattle.image_defs.specs.Spelling.{image_bytes}
use Rattle.image_laws.specs.Alike.{IsAlike}
use Rattle.image_laws.proofs.Turning.{restored_is_alike, images_are_same}
use Rattle.node_defs.specs.Lines.{Stop, BadJournal, host_line}
use Rattle.node_defs.specs.Casts.{Cast, Beginning, from_start, kept_turn, entries_of, taken_up, turns_from, may_have_written}
use Rattle.node_defs.specs.Nodes.{Node, Bind, Greet, Serve, Finish, reads, reads_one, takes_up, at_first, entries_in, host_lines, openings, opens, breaks_at}
use Rattle.node_defs.specs.Lives.{FitsFrom, IsOpened}
use Rattle.node_defs.specs.Snapshots.{Snapshot, part_bytes, snapshot_bytes, snapshot_of, snap_line_of, snap_line, from_snapshot}
use Rattle.node_laws.proofs.Entries.{entries-append}
use Rattle.node_laws.proofs.Openings.{opens_sound}
use Rattle.opening_laws.proofs.EntriesRead.{each_reads_on}
use Rattle.resume_laws.specs.Resuming.{IsSnapshotAfter, one_line_on, begun}
use Rattle.resume_laws.proofs.Turning.{host-alike, kept-alike, may-alike}
use Rattle.resume_laws.proofs.Alike.{moved}
use Rattle.resume_laws.proofs.Answered.{IsBeside, BesideAlike}
use Rattle.resume_laws.proofs.Readings.{reads-into, read-place, start-place, size}

-- ---- of each hosted process

pub has-mem : (ps : List ℕ) (p : ℕ) → Mem p ps → has ps p ≡ true
has-mem ps p m = mem-list_any (λ q. q == p) ps p m (eq-eqb p p refl)

flat-same : {A B : Type 0} (f g : A → List B) (xs : List A) → ((x : A) → Mem x xs → f x ≡ g x) → flat_map f xs ≡ flat_map g xs
flat-same f g [] same = refl
flat-same f g (x ∷ xs) same = ap (λ front. front ++ flat_map f xs) (same x (inl refl))
    ∙ ap (λ rest. g x ++ rest) (flat-same f g xs (λ y m. same y (inr m)))

-- ---- the counts and the lines

-- how many entries each hosted process had before those that are read
abbrev pub CountsBefore : Cast → List Entry → Beginning → Type 0
CountsBefore c es b = (p : ℕ) → IsTrue (has c.hosted p) → b.before p ≡ length (entries_of p es)

module _ (c : Cast) (es : List Entry) (b : Beginning) (counts : CountsBefore c es b) (n : Node) (now : ℕ → Process) (kept : List Entry)
    (agree : (p : ℕ) → IsTrue (has c.hosted p) → IsAlike (n.now p) (now p)) (parts : n.kept ≡ es ++ kept) where
  abbrev m : Node
  m = moved now kept n

  pub count-same : (p : ℕ) → IsTrue (has c.hosted p) → entries_in b m p ≡ entries_in (from_start c) n p
  count-same p h =
      let whole : length (entries_of p n.kept) ≡ length (entries_of p es) + length (entries_of p kept)
      = ap (λ ds. length (entries_of p ds)) parts ∙ ap length (entries-append p es kept)
      ∙ length-append (entries_of p es) (entries_of p kept) in
      let before : b.before p ≡ length (entries_of p es) = counts p h in
      omega (arith, whole, before)

  hosts-same : host_lines c b m ≡ host_lines c (from_start c) n
  hosts-same = flat-same (λ p. host_line (m.now p) (entries_in b m p)) (λ p. host_line (n.now p) (entries_in (from_start c) n p)) c.hosted
      (λ p there. (
      let h = has-mem c.hosted p there in
      ap (λ k. host_line (m.now p) k) (count-same p h) ∙ host-alike c (n.now p) (now p) (agree p h) (entries_in (from_start c) n p)
      ))

  pub openings-same : openings c b m ≡ openings c (from_start c) n
  openings-same = ap (λ text. map (λ p. Bind (c.port p)) c.hosted ++ Greet text ∷ Serve ∷ Finish ∷ []) hosts-same

  moved-snap : (digest : List ℕ) → snap_line c b m digest ≡ snap_line c (from_start c) n digest
  unfolding snap_line snapshot_bytes
  moved-snap digest =
      ap (λ parts. snap_line_of (codes "RPN2" ++ (drop 4 c.header ++ (to_be_bytes w64 n.gate ++ (digest ++ parts)))))
      (flat-same (part_bytes (snapshot_of b m digest)) (part_bytes (snapshot_of (from_start c) n digest)) c.hosted
      (λ p there. (
      let h = has-mem c.hosted p there in
      ap (λ k. to_be_bytes w64 k ++ image_part (image_of (now p))) (count-same p h)
      ∙ ap (λ i. to_be_bytes w64 (entries_in (from_start c) n p) ++ image_part i) (images_are_same (n.now p) (now p) (agree p h))
      )))
    where
      image_part : Image → List ℕ
      image_part i = four_bytes (length (image_bytes i)) ++ image_bytes i

pub beside-alike : (c : Cast) (es : List Entry) (b : Beginning) → CountsBefore c es b
    → BesideAlike c es (snap_line c (from_start c)) (snap_line c b)
beside-alike c es b counts n m beside digest =
    ap (λ (x : Node). snap_line c b x digest) beside.is
    ∙ moved-snap c es b counts n beside.now beside.kept beside.agree beside.parts digest

-- ---- reading on

module _ (c : Cast) (es : List Entry) where
  reads-beside : (fs : List Entry) (n : Node) (now : ℕ → Process) (kept : List Entry)
      → ((p : ℕ) → IsTrue (has c.hosted p) → IsAlike (n.now p) (now p)) → n.kept ≡ es ++ kept
      → IsBeside c es (reads c n fs) (reads c (moved now kept n) fs)
  unfolding reads
  reads-beside [] n now kept agree parts = record { now = now; kept = kept; agree = agree; parts = parts; is = refl }
  reads-beside (e ∷ fs) n now kept agree parts = by (takes_up c n e) (takes_up c (moved now kept n) e) same
      (reads-beside fs (reads_one c n e) (reads_one c (moved now kept n) e).now (kept ++ e ∷ []) one (
      ap (λ ds. ds ++ e ∷ []) parts ∙ append_assoc es kept (e ∷ [])
      ))
    where
      same : takes_up c (moved now kept n) e ≡ takes_up c n e
      same = hosted (has c.hosted e.process) refl
        where
          hosted : (h : Bool) → has c.hosted e.process ≡ h
              → (if h then may_have_written c (now e.process) e else false) ≡ (if h then may_have_written c (n.now e.process) e else false)
          hosted true is = may-alike c (n.now e.process) (now e.process) (agree e.process is) e
          hosted false is = refl

      one : (q : ℕ) → IsTrue (has c.hosted q) → IsAlike ((reads_one c n e).now q) ((reads_one c (moved now kept n) e).now q)
      one q h = go (q == e.process)
        where
          go : (b : Bool) → IsAlike (if b then after c.setting (n.now q) (kept_turn (n.now q) e) else n.now q)
              (if b then after c.setting (now q) (kept_turn (now q) e) else now q)
          go true = kept-alike c (n.now q) (now q) (agree q h) e
          go false = agree q h

      by : (x y : Bool) → y ≡ x → IsBeside c es (reads c (reads_one c n e) fs) (reads c (reads_one c (moved now kept n) e) fs)
          → IsBeside c es (if x then reads c (reads_one c n e) fs else record n { stopped = Some (BadJournal n.gate) })
          (if y then reads c (reads_one c (moved now kept n) e) fs else record (moved now kept n) { stopped = Some (BadJournal n.gate) })
      by true true e rest = rest
      by false false e rest = record { now = now; kept = kept; agree = agree; parts = parts; is = refl }
      by true false e rest = absurd cc
      by false true e rest = absurd cc

-- ---- the beginning

module _ (c : Cast) (s : Snapshot) (lines : ℕ) (es : List Entry) (view : IsView c.setting.genesis)
    (fits : FitsFrom c (from_start c).from es) (is : IsSnapshotAfter c es s) where
  -- the node that has read the first entries
  abbrev first : Node
  first = reads c (at_first (from_start c) lines) es

  o : IsOpened c (from_start c) es (opens c (from_start c) lines es)
  o = opens_sound c (from_start c) lines es fits

  restored : (p : ℕ) → IsTrue (has c.hosted p) → IsAlike (first.now p) ((from_snapshot c s).from p)
  restored p h =
      subst (λ (x : Process). IsAlike x ((from_snapshot c s).from p))
      (sym (o.sound.processes p ∙ ap (λ ds. taken_up c.setting ((from_start c).from p) (entries_of p ds)) o.kept))
      (subst (λ (i : Image). IsAlike (taken_up c.setting ((from_start c).from p) (entries_of p es)) (process_of c.setting c.batch_limit i))
      (sym (is.images p h))
      (restored_is_alike c.setting p c.batch_limit (turns_from c.setting ((from_start c).from p) (entries_of p es)) view))

  place-same : first.gate ≡ s.place
  place-same = read-place (from_start c).place c (at_first (from_start c) lines) es (omega arith)
      ∙ ap (λ ds. (from_start c).place + size ds) o.kept ∙ start-place c es ∙ sym is.place

  begins : at_first (from_snapshot c s) (lines + 1) ≡ moved (from_snapshot c s).from [] first
  begins =
      ap (λ k. made k None) (sym place-same) ∙ ap (λ why. made first.gate (option_map one_line_on why)) (sym o.goes_on)
      ∙ ap (λ (n : Node). record (moved (from_snapshot c s).from [] n) {
        gate = first.gate;
        stopped = option_map one_line_on first.stopped;
      })
      (sym (reads-into c (at_first (from_start c) lines) es))
    where
      made : ℕ → Option Stop → Node
      made gate why = record (at_first (from_snapshot c s) (lines + 1)) { gate = gate; stopped = why }

  -- both have read the others too
  read-both : (fs : List Entry)
      → IsBeside c es (reads c (at_first (from_start c) lines) (es ++ fs)) (reads c (at_first (from_snapshot c s) (lines + 1)) fs)
  read-both fs =
      subst (λ (n : Node). IsBeside c es n (reads c (at_first (from_snapshot c s) (lines + 1)) fs))
      (sym ((each_reads_on c (at_first (from_start c) lines) es o.goes_on).goes_on fs))
      (subst (λ (m : Node). IsBeside c es (reads c first fs) (reads c m fs)) (sym begins)
      (reads-beside c es fs first (from_snapshot c s).from [] restored (o.kept ∙ sym (append-nil es))))

  pub counts-before : CountsBefore c es (from_snapshot c s)
  counts-before p h = is.entries p h

  opened-both : (n m : Node) → IsBeside c es n m
      → IsBeside c es (record n { opening = openings c (from_start c) n }) (record m { opening = openings c (from_snapshot c s) m })
  opened-both n m b = record {
    now = b.now;
    kept = b.kept;
    agree = b.agree;
    parts = b.parts;
    is = ap (λ (x : Node). record x { opening = openings c (from_snapshot c s) x }) b.is
        ∙ ap (λ os. record (moved b.now b.kept n) { opening = os })
        (openings-same c es (from_snapshot c s) counts-before n b.now b.kept b.agree b.parts);
  }

  broken-both : (place : ℕ) (n m : Node) → IsBeside c es n m → IsBeside c es (breaks_at place n) (breaks_at place m)
  broken-both place n m b = record {
    now = b.now;
    kept = b.kept;
    agree = b.agree;
    parts = b.parts;
    is = ap (breaks_at place) b.is ∙ ap (λ why. record (moved b.now b.kept n) { stopped = Some why }) (by n.stopped);
  }
    where
      by : (o : Option Stop) → unwrap_or (option_map one_line_on o) (BadJournal place) ≡ one_line_on (unwrap_or o (BadJournal place))
      by None = refl
      by (Some why) = refl

  pub begun-beside : (fs : List Entry) (breaks : Option ℕ)
      → IsBeside c es (begun c (from_start c) lines (es ++ fs) breaks) (begun c (from_snapshot c s) (lines + 1) fs breaks)
  begun-beside fs None = opened-both _ _ (read-both fs)
  begun-beside fs (Some place) = broken-both place _ _ (read-both fs)
