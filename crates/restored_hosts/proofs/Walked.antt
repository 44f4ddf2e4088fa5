-- The processes of a snapshot, put in one after the other.
use Rattle.std.proofs.Common.{◌≡◌, ℕ, ◌≤◌, ◌==◌, Bool, true, false, List, [], ◌∷◌, map, Option, Some, inl, inr, refl, sym, ap, subst, ◌∙◌, arith}
use Rattle.std.specs.Prelude.{◌⊎◌, ◌||◌, if◌then◌else◌, IsTrue}
use Rattle.std.specs.Option.{option_map_or}
use Rattle.std.proofs.lemmas.Bool.{eq-eqb, eqb-true, ne_eqb}
use Rattle.std.proofs.lemmas.Bool.Decides.{eqb_tells}
use Rattle.byte_defs.specs.Members.{has}
use Rattle.image_defs.specs.Images.{Image, process_of}
use Rattle.journal_defs.specs.declared.Version.{Version}
use Rattle.kit_defs.specs.Kits.{IsKit, Kit}
use Rattle.group_defs.specs.Process.{Process}
use Rattle.node_defs.specs.Casts.{Cast, cast_of, hosted_by, setting_of}
use Rattle.node_defs.specs.Snapshots.{IsSnapshotFor, Snapshot}
use Rattle.letter_laws.specs.Letters.{IsKeyed}
use Rattle.node_service.specs.Hosts.{count_in, HasHosts, Counts, Hosts}
use Rattle.node_service.proofs.Below.{all-here}
use Rattle.pool_laws.proofs.Members.{Mem, list_any-mem}
use Rattle.node_images.specs.declared.judged.Judged.{Judged}
use Rattle.node_images.specs.Said.{ArePartsOf, Part, SnapSaid, no_image, part_of, snapshot_said}
use Rattle.node_images.specs.Judging.{AreJudged, IsJudged}
use Rattle.node_images.proofs.Listed.{found-self, no-part, part-hosted}
use Rattle.restored_hosts.proofs.Keyed.{kept-keyed, none-keyed}
use Rattle.restored_hosts.specs.Begun.{HasBegun, beginning}
use Rattle.restored_hosts.specs.declared.hosts.Begun.{Begun}

clash : {b : Bool} → b ≡ true → b ≡ false → ⊥
clash e f = cc

-- ---- those that are left

-- the processes that are left are those of these parts, which are of hosted processes
pub record AreLeft (kit : Kit) (js : List Judged) : Type 0 where
  pub left : List Part
  pub judged : AreJudged kit left js
  pub hosted : (part : Part) → Mem part left → IsTrue (has (hosted_by kit) part.0)

-- the next of them
pub record IsNext (kit : Kit) (j : Judged) (js : List Judged) : Type 0 where
  pub part : Part
  pub judged : IsJudged kit part j
  pub hosted : IsTrue (has (hosted_by kit) part.0)
  pub others : AreLeft kit js

pub all-left : (kit : Kit) (parts : List Part) (js : List Judged) → ArePartsOf (hosted_by kit) parts → AreJudged kit parts js → AreLeft kit js
all-left kit parts js are judged = record { left = parts; judged = judged; hosted = part-hosted parts (hosted_by kit) are.numbers }

pub one-left : (kit : Kit) (old js : List Judged) (j : Judged) → old ≡ j ∷ js → AreLeft kit old → IsNext kit j js
one-left kit old js j steps are = go are.left (subst (AreJudged kit are.left) steps are.judged) are.hosted
  where
    go : (left : List Part) → AreJudged kit left (j ∷ js) → ((part : Part) → Mem part left → IsTrue (has (hosted_by kit) part.0)) → IsNext kit j js
    go [] judged hosted = absurd judged
    go (x ∷ left) judged hosted = record {
      part = x;
      judged = judged.0;
      hosted = hosted x (inl refl);
      others = record { left = left; judged = judged.1; hosted = λ y m. hosted y (inr m) };
    }

-- ---- those that were put in

-- how many entries the snapshot says of a process that was put in; of another none
abbrev pub counted_of : (ℕ → ℕ) → List ℕ → ℕ → ℕ
counted_of entries here p = if has here p then entries p else 0

-- Of the snapshot that is said, each hosted process was put in or is one of those that are left; those that were put in are as their images
-- say, and their entries were counted.
pub record Underway (kit : Kit) (version : Version) (t : SnapSaid) (js : List Judged) (hosts : Hosts) (counts : Counts) : Type 0 where
  pub left : List Part
  pub here : List ℕ
  pub judged : AreJudged kit left js
  pub found : (part : Part) → Mem part left → part_of t.parts part.0 ≡ Some part
  pub has_hosts : HasHosts (cast_of kit version) kit (beginning kit version t).from here hosts
  pub each : (p : ℕ) → IsTrue (has (hosted_by kit) p) → IsTrue (has here p) ⊎ Mem p (map (λ (x : Part). x.0) left)
  pub counted : (p : ℕ) → count_in counts p ≡ counted_of (snapshot_said t).entries here p

module _ (kit : Kit) (version : Version) (t : SnapSaid) where
  abbrev c : Cast
  c = cast_of kit version

  abbrev s : Snapshot
  s = snapshot_said t

  abbrev now : ℕ → Process
  now = (beginning kit version t).from

  pub none-put : (js : List Judged) (hosts : Hosts) (counts : Counts) → IsKit kit → ArePartsOf (hosted_by kit) t.parts → AreJudged kit t.parts js
      → HasHosts c kit now [] hosts → ((p : ℕ) → count_in counts p ≡ 0) → Underway kit version t js hosts counts
  none-put js hosts counts is_kit are judged none fresh = record {
    left = t.parts;
    here = [];
    judged = judged;
    found = found-self kit.scheme kit.keys 0 kit.hosts t.parts is_kit.hosts are.numbers;
    has_hosts = none;
    each = λ p hosted. inr (let one = list_any-mem (λ q. q == p) (hosted_by kit) hosted in
        subst (λ ns. Mem p ns) (sym are.numbers) (subst (λ q. Mem q (hosted_by kit)) (eqb-true one.0 p one.2) one.1));
    counted = fresh;
  }

  image-of : (part : Part) → part_of t.parts part.0 ≡ Some part → s.images part.0 ≡ part.2
  image-of part found = ap (λ (o : Option Part). option_map_or (λ (x : Part). x.2) o (no_image part.0)) found

  count-of : (part : Part) → part_of t.parts part.0 ≡ Some part → s.entries part.0 ≡ part.1
  count-of part found = ap (λ (o : Option Part). option_map_or (λ (x : Part). x.1) o 0) found

  -- the counts, with those of one more process
  one-counted : (part : Part) (j : Judged) (here : List ℕ) (counts new : Counts) → part_of t.parts part.0 ≡ Some part → IsJudged kit part j
      → ((p : ℕ) → count_in counts p ≡ counted_of s.entries here p)
      → ((p : ℕ) → count_in new p ≡ (if j.process == p then j.entries else count_in counts p))
      → (p : ℕ) → count_in new p ≡ counted_of s.entries (part.0 ∷ here) p
  one-counted part j here counts new found is counted begins p = elim (eqb_tells part.0 p) [
    | inl tells ↦
        begins p ∙ ap (λ b. if b then j.entries else count_in counts p) (eq-eqb j.process p (is.process ∙ tells.1)) ∙ is.entries
        ∙ sym (count-of part found) ∙ ap s.entries tells.1
        ∙ sym (ap (λ b. if b || has here p then s.entries p else 0) (eq-eqb part.0 p tells.1))
    | inr tells ↦
        begins p ∙ ap (λ b. if b then j.entries else count_in counts p) (ne_eqb j.process p (λ e. tells.1 (sym is.process ∙ e))) ∙ counted p
        ∙ sym (ap (λ b. if b || has here p then s.entries p else 0) (ne_eqb part.0 p tells.1))
  ]

  -- one more is put in
  pub one-put : (old js : List Judged) (j : Judged) (hosts more : Hosts) (counts new : Counts) → old ≡ j ∷ js
      → Underway kit version t old hosts counts
      → ((part : Part) (here : List ℕ) → IsJudged kit part j → now part.0 ≡ process_of (setting_of kit) c.batch_limit part.2
      → HasHosts c kit now here hosts → HasHosts c kit now (part.0 ∷ here) more)
      → ((p : ℕ) → count_in new p ≡ (if j.process == p then j.entries else count_in counts p))
      → Underway kit version t js more new
  one-put old js j hosts more counts new steps u puts begins = go u.left (subst (AreJudged kit u.left) steps u.judged) u.found u.each
    where
      go : (left : List Part) → AreJudged kit left (j ∷ js) → ((part : Part) → Mem part left → part_of t.parts part.0 ≡ Some part)
          → ((p : ℕ) → IsTrue (has (hosted_by kit) p) → IsTrue (has u.here p) ⊎ Mem p (map (λ (x : Part). x.0) left))
          → Underway kit version t js more new
      go [] judged found each = absurd judged
      go (x ∷ left) judged found each = record {
        left = left;
        here = x.0 ∷ u.here;
        judged = judged.1;
        found = λ y m. found y (inr m);
        has_hosts = puts x u.here judged.0
            (ap (process_of (setting_of kit) c.batch_limit) (image-of x (found x (inl refl)))) u.has_hosts;
        each = λ p hosted. elim (each p hosted) [
          | inl among ↦ inl (or-second (x.0 == p) (has u.here p) among)
          | inr (inl is) ↦ inl (ap (λ b. b || has u.here p) (eq-eqb x.0 p is))
          | inr (inr m) ↦ inr m
        ];
        counted = one-counted x j u.here counts new (found x (inl refl)) judged.0 u.counted begins;
      }
        where
          or-second : (a b : Bool) → b ≡ true → (a || b) ≡ true
          or-second true b e = refl
          or-second false b e = e

  module _ (are : ArePartsOf (hosted_by kit) t.parts) where
    -- a process that isn't hosted has no entries, and its image has nothing but its number
    none-of : (p : ℕ) → has (hosted_by kit) p ≡ false → s.entries p ≡ 0
    none-of p not = ap (λ (o : Option Part). option_map_or (λ (x : Part). x.1) o 0) (no-part t.parts (hosted_by kit) p are.numbers not)

    no-image : (p : ℕ) → has (hosted_by kit) p ≡ false → s.images p ≡ no_image p
    no-image p not = ap (λ (o : Option Part). option_map_or (λ (x : Part). x.2) o (no_image p)) (no-part t.parts (hosted_by kit) p are.numbers not)

    keyed : (p : ℕ) → IsKit kit → IsSnapshotFor c s → (h : Bool) → has (hosted_by kit) p ≡ h → IsKeyed (setting_of kit) p (now p)
    keyed p is_kit is_for true is = kept-keyed kit p c.batch_limit (s.images p) is_kit (is_for.own p is) (is_for.kept p is)
    keyed p is_kit is_for false is = subst (λ (i : Image). IsKeyed (setting_of kit) p (process_of (setting_of kit) c.batch_limit i))
        (sym (no-image p is)) (none-keyed kit p c.batch_limit is_kit)

    few : (p : ℕ) → IsSnapshotFor c s → (h : Bool) → has (hosted_by kit) p ≡ h → s.entries p ≤ s.place
    few p is_for true is = is_for.counted p is
    few p is_for false is = subst (λ n. n ≤ s.place) (sym (none-of p is)) (omega arith)

    -- all are put in
    pub all-put : (js : List Judged) (b : Begun) → IsKit kit → IsSnapshotFor c s → js ≡ [] → Underway kit version t js b.hosts b.counts → HasBegun kit version t b
    all-put js b is_kit is_for none u = go u.left (subst (AreJudged kit u.left) none u.judged) u.each
      where
        either : (b : Bool) (n : ℕ) → n ≡ 0 → (if b then n else 0) ≡ n
        either true n e = refl
        either false n e = sym e

        counted : (p : ℕ) (h : Bool) → has (hosted_by kit) p ≡ h → (IsTrue (has (hosted_by kit) p) → IsTrue (has u.here p))
            → counted_of s.entries u.here p ≡ s.entries p
        counted p true is there = ap (λ b. if b then s.entries p else 0) (there is)
        counted p false is there = either (has u.here p) (s.entries p) (none-of p is)

        go : (left : List Part) → AreJudged kit left [] → ((p : ℕ) → IsTrue (has (hosted_by kit) p) → IsTrue (has u.here p) ⊎ Mem p (map (λ (x : Part). x.0) left))
            → HasBegun kit version t b
        go (x ∷ left) judged each = absurd judged
        go [] judged each = record {
          hosts = all-here c kit now u.here b.hosts (λ p hosted. there p (each p hosted)) u.has_hosts;
          keyed = λ p. keyed p is_kit is_for (has (hosted_by kit) p) refl;
          few = λ p. few p is_for (has (hosted_by kit) p) refl;
          counts = λ p. u.counted p ∙ counted p (has (hosted_by kit) p) refl (λ hosted. there p (each p hosted));
        }
          where
            there : (p : ℕ) → IsTrue (has u.here p) ⊎ Mem p [] → IsTrue (has u.here p)
            there p (inl among) = among
            there p (inr m) = absurd m
