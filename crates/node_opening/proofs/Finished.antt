-- A node whose journal was read and then finished.
use Rattle.std.proofs.Common.{◌≡◌, ℕ, ◌+◌, ◌<◌, ◌≤◌, Bool, true, false, List, [], ◌∷◌, ◌++◌, length, take, Option, None, Some, refl, sym, ap, subst, arith, ◌∙◌}
use Rattle.std.specs.Prelude.{◌≢◌, if◌then◌else◌, IfSome, IsSome}
use Rattle.std.specs.Option.{IsSomeAnd}
use Rattle.sha2.specs.Sha256.{sha256}
use Rattle.std.specs.List.{flat_map}
use Rattle.std.proofs.lemmas.List.{append_assoc, length-take-le, take_at}
use Rattle.kit_defs.specs.Kits.{Kit}
use Rattle.journal_defs.specs.declared.Version.{Version}
use Rattle.journal_defs.specs.Entries.{Entry}
use Rattle.journal_defs.specs.Journals.{IsClosedAt, LieBefore, closed_gate, record_bytes}
use Rattle.journal_defs.proofs.Gates.{closed_gate_ends}
use Rattle.journal_disk.specs.Disks.{EndsAt, HasLength, HasRest, StaysUntold}
use Rattle.journal_rp.specs.Stages.{gate_of, len_of, version_of}
use Rattle.node_defs.specs.Lines.{BadJournal}
use Rattle.node_defs.specs.Casts.{Cast, cast_of, entries_of}
use Rattle.node_defs.specs.Nodes.{Node, Finish, Snapper, at_first, opens, reads, reads_one, takes_up}
use Rattle.node_laws.proofs.Openings.{opens_sound}
use Rattle.node_traces.specs.Goes.{Outside, Goes}
use Rattle.opening_laws.specs.Opening.{left_to_open}
use Rattle.opening_laws.proofs.EntriesRead.{each_reads_on}
use Rattle.restored_hosts.specs.Below.{Hosts, Running, cast_in, Counts, count_in, SnapSaid}
use Rattle.node_opening.specs.Begins.{HasItsPlace, IsHeadIn, begins_by, head_in}
use Rattle.node_opening.specs.Holding.{IsPlaceOf}
use Rattle.node_opening.specs.Opened.{HasOpened}
use Rattle.node_opening.specs.Reading.{HasReadJournal, node_after}
use Rattle.node_opening.proofs.Presented.{finished}

-- ---- a node that only reads

-- nothing waits, and no line is read
record StaysIdle (n m : Node) : Type 0 where
  lines : m.lines ≡ n.lines
  script : m.script ≡ n.script
  leaving : m.leaving ≡ n.leaving
  tasks : m.tasks ≡ n.tasks
  text : m.text ≡ n.text
  late : m.late ≡ n.late

reads-idle : (c : Cast) (n : Node) (es : List Entry) → StaysIdle n (reads c n es)
unfolding reads
reads-idle c n [] = record { lines = refl; script = refl; leaving = refl; tasks = refl; text = refl; late = refl }
reads-idle c n (e ∷ es) = by (takes_up c n e) (reads-idle c (reads_one c n e) es)
  where
    by : (b : Bool) → StaysIdle (reads_one c n e) (reads c (reads_one c n e) es)
        → StaysIdle n (if b then reads c (reads_one c n e) es else record n { stopped = Some (BadJournal n.gate) })
    by true is = record { lines = is.lines; script = is.script; leaving = is.leaving; tasks = is.tasks; text = is.text; late = is.late }
    by false is = record { lines = refl; script = refl; leaving = refl; tasks = refl; text = refl; late = refl }

-- ---- its journal

-- where the gate after the entries is closed, they end there
pub ends-at : (seen : Option (List ℕ)) (head : List ℕ) (es : List Entry) (gate : ℕ) → IsSome seen
    → IfSome seen (λ file. LieBefore head file es gate) → IfSome seen (λ file. IsClosedAt file gate) → EndsAt seen head es gate
ends-at None head es gate some stands closed = absurd cc
ends-at (Some file) head es gate some stands closed = record {
  file = file;
  reported = refl;
  reads = closed_gate_ends head file es gate stands closed;
  place = stands.where_it_is;
}

always : {P : Type 0} (o : Option (List ℕ)) → P → IfSome o (λ file. P)
always None p = tt
always (Some file) p = p

module _ (seen new : Option (List ℕ)) (may_leave : List ℕ → Type 0) (gate : ℕ)
    (ok : (head : List ℕ) (fs : List Entry) → EndsAt seen head fs gate → HasRest new may_leave head fs gate) where
  rests-at : (head : List ℕ) (es : List Entry) → StaysUntold seen new → IfSome seen (λ file. LieBefore head file es gate)
      → IfSome seen (λ file. IsClosedAt file gate) → IfSome new (λ file. HasRest new may_leave head es gate)
  rests-at head es untold stands closed = go seen refl untold
    where
      go : (o : Option (List ℕ)) → seen ≡ o → StaysUntold o new → IfSome new (λ file. HasRest new may_leave head es gate)
      go None is none = subst (λ (p : Option (List ℕ)). IfSome p (λ file. HasRest new may_leave head es gate)) (sym none) tt
      go (Some file) is none =
          let some = subst (λ (p : Option (List ℕ)). IsSome p) (sym is) refl in
          always new (ok head es (ends-at seen head es gate some stands closed))

  tells-at : (head : List ℕ) (es : List Entry) → IfSome seen (λ file. LieBefore head file es gate)
      → IfSome seen (λ file. IsClosedAt file gate) → IsSome seen → IsSome new
  tells-at head es stands closed some =
      let has = ok head es (ends-at seen head es gate some stands closed) in
      subst (λ (o : Option (List ℕ)). IsSome o) (sym has.reported) refl

-- ---- the bytes before the first entry

-- the journal's finish leaves them
head-kept : (t : SnapSaid) (file : List ℕ) (es : List Entry) (gate : ℕ) (may_leave : List ℕ → Type 0) (new : Option (List ℕ))
    → t.place < length file → (has : HasRest new may_leave (take t.place file) es gate) → take t.place has.file ≡ take t.place file
head-kept t file es gate may_leave new within has =
    let head = take t.place file in
    let records = flat_map record_bytes es in
    ap (λ (l : List ℕ). take t.place l) (has.rest.parts ∙ append_assoc head records (closed_gate ∷ has.rest.behind))
    ∙ take_at head (records ++ closed_gate ∷ has.rest.behind) t.place (length-take-le t.place file (omega (arith, within)))

-- so it is at rest with those that it has now
rests-now : (kit : Kit) (v : Version) (s : Option SnapSaid) (es : List Entry) (gate : ℕ) (seen new : Option (List ℕ))
    (may_leave : List ℕ → Type 0) → IfSome seen (HasItsPlace kit s) → StaysUntold seen new
    → IfSome new (λ file. HasRest new may_leave (head_in (cast_of kit v) s seen) es gate)
    → IfSome new (λ file. HasRest new may_leave (head_in (cast_of kit v) s new) es gate)
rests-now kit v None es gate seen new may_leave there untold rests = rests
rests-now kit v (Some t) es gate None new may_leave there untold rests =
    subst (λ (o : Option (List ℕ)). IfSome o (λ file. HasRest o may_leave (head_in (cast_of kit v) (Some t) o) es gate)) (sym untold) tt
rests-now kit v (Some t) es gate (Some file) None may_leave there untold rests = tt
rests-now kit v (Some t) es gate (Some file) (Some now) may_leave there untold has =
    let reported : Some now ≡ Some has.file = has.reported in
    let same : now ≡ has.file = cc in
    subst (λ (l : List ℕ). HasRest (Some now) may_leave l es gate)
    (sym (ap (λ (l : List ℕ). take t.place l) same ∙ head-kept t file es gate may_leave (Some now) there.within has)) has

-- they are those of the file that the disk held, and have the snapshot's digest
module _ (kit : Kit) (v : Version) (es : List Entry) (gate : ℕ) (held seen new : Option (List ℕ)) (may_leave : List ℕ → Type 0)
    (tells : IsSome held → IsSome seen) (same : IsSomeAnd held (λ file. file ≢ []) → seen ≡ held) where
  head-there : (t : SnapSaid) → IfSome seen (IsPlaceOf kit t)
      → (IsSome seen → HasRest new may_leave (head_in (cast_of kit v) (Some t) seen) es gate)
      → IsHeadIn (Some t) held (head_in (cast_of kit v) (Some t) new)
  head-there t there rests = go held seen tells same there rests
    where
      go : (h n : Option (List ℕ)) → (IsSome h → IsSome n) → (IsSomeAnd h (λ file. file ≢ []) → n ≡ h) → IfSome n (IsPlaceOf kit t)
          → (IsSome n → HasRest new may_leave (head_in (cast_of kit v) (Some t) n) es gate)
          → IsHeadIn (Some t) h (head_in (cast_of kit v) (Some t) new)
      go None n tell is place rest = tt
      go (Some file) None tell is place rest = let some = tell refl in absurd cc
      go (Some file) (Some now) tell is place rest =
          let has = rest refl in
          let head : head_in (cast_of kit v) (Some t) new ≡ take t.place now
          = ap (λ (o : Option (List ℕ)). head_in (cast_of kit v) (Some t) o) has.reported
          ∙ head-kept t now es gate may_leave new place.within has in (
            λ some.
                let reported : Some now ≡ Some file = is some in
                let both : now ≡ file = cc in
                head ∙ ap (λ (l : List ℕ). take t.place l) both,
            ap sha256 head ∙ place.digest,
          )

  head-is : (s : Option SnapSaid) → IfSome seen (HasItsPlace kit s)
      → (IsSome seen → HasRest new may_leave (head_in (cast_of kit v) s seen) es gate) → IsHeadIn s held (head_in (cast_of kit v) s new)
  head-is None there rests = tt
  head-is (Some t) there rests = head-there t there rests

-- ---- the node

-- its journal was read, its ports are bound, and the lines of its hosts are written
pub record IsReady (kit : Kit) (v : Version) (s : Option SnapSaid) (snap : Snapper) (most lines : ℕ) (held seen : Option (List ℕ)) (x y : Outside) (gate : ℕ)
    (hosts : Hosts) (counts : Counts) : Type 0 where
  pub journal : HasReadJournal kit v s lines held seen gate hosts counts
  pub goes : Goes (cast_of kit v) snap most (opens (cast_of kit v) (begins_by (cast_of kit v) s) lines journal.all.entries) x
      (left_to_open (opens (cast_of kit v) (begins_by (cast_of kit v) s) lines journal.all.entries) (Finish ∷ [])) y

module _ (r : Running) (s : Option SnapSaid) (snap : Snapper) (most lines : ℕ) (held seen new : Option (List ℕ))
    (may_leave : List ℕ → Type 0) (x y : Outside) (few : (p : ℕ) → count_in r.counts p ≤ gate_of r.journal) (untold : StaysUntold seen new)
    (long : HasLength new (len_of r.journal)) (reported : IsSome held → IsSome seen) where
  opened-at : ((head : List ℕ) (fs : List Entry) → EndsAt seen head fs (gate_of r.journal) → HasRest new may_leave head fs (gate_of r.journal))
      → IsReady r.kit.now (version_of r.journal) s snap most lines held seen x y (gate_of r.journal) r.hosts r.counts
      → HasOpened s r snap most lines held x y new may_leave
  opened-at ok ready =
      let c = cast_in r in
      let b = begins_by c s in
      let all = ready.journal.all in
      let es = all.entries in
      let read = all.read in
      let n = node_after c b lines es in
      let head = head_in c s seen in
      let idle = reads-idle c (at_first b lines) es in
      let kept : n.kept ≡ es = (each_reads_on c (at_first b lines) es read.runs).kept in
      let sound = (opens_sound c b lines es read.fits).sound in
      record {
        entries = es;
        node = left_to_open (opens c b lines es) [];
        holds = ready.journal.holds;
        head = head-is r.kit.now (version_of r.journal) es (gate_of r.journal) held seen new may_leave ready.journal.tells ready.journal.same s
            ready.journal.there (λ some. ok head es (ends-at seen head es (gate_of r.journal) some read.stands all.closed));
        goes = finished c snap most (opens c b lines es) x y read.runs ready.goes;
        is = λ f. record {
          at = record {
            runs = read.runs;
            opened = refl;
            leaving = idle.leaving;
            tasks = idle.tasks;
            text = idle.text;
            late = idle.late;
          };
          hosts = read.hosts_are;
          journal = record {
            gate = read.gate_is;
            length = long;
            rest = subst (λ k. IfSome new (λ file. HasRest new may_leave (head_in c s new) n.kept k)) (sym read.gate_is)
                (subst (λ (ks : List Entry). IfSome new (λ file. HasRest new may_leave (head_in c s new) ks (gate_of r.journal))) (sym kept)
                (rests-now r.kit.now (version_of r.journal) s es (gate_of r.journal) seen new may_leave ready.journal.there untold
                (rests-at seen new may_leave (gate_of r.journal) ok head es untold read.stands all.closed)));
          };
          keyed = ready.journal.keyed;
          sound = record { processes = sound.processes; out = sound.out; finished = λ some. refl };
          counts = record {
            each = λ p. read.counted p ∙ ap (λ (ks : List Entry). b.before p + length (entries_of p ks)) (sym kept);
            few = λ p. subst (λ (k : ℕ). count_in r.counts p ≤ k) (sym read.gate_is) (few p);
          };
        };
        read = idle.lines;
        script = idle.script;
        tells = λ some. tells-at seen new may_leave (gate_of r.journal) ok head es read.stands all.closed (reported some);
      }

  -- the journal that is written is where it was as it was read
  pub opened : (v : Version) (gate : ℕ) → version_of r.journal ≡ v → gate_of r.journal ≡ gate
      → ((head : List ℕ) (fs : List Entry) → EndsAt seen head fs gate → HasRest new may_leave head fs gate)
      → IsReady r.kit.now v s snap most lines held seen x y gate r.hosts r.counts → HasOpened s r snap most lines held x y new may_leave
  opened v gate kind place ok ready = opened-at
      (subst (λ k. (head : List ℕ) (fs : List Entry) → EndsAt seen head fs k → HasRest new may_leave head fs k) (sym place) ok)
      (subst (λ (w : Version). IsReady r.kit.now w s snap most lines held seen x y (gate_of r.journal) r.hosts r.counts) (sym kind)
      (subst (λ k. IsReady r.kit.now v s snap most lines held seen x y k r.hosts r.counts) (sym place) ready))
