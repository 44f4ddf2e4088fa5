-- The hosted processes as a node begins, and a journal of which nothing was read yet.
use Rattle.std.proofs.Common.{◌≡◌, ℕ, ◌<◌, ◌≤◌, List, [], ◌++◌, length, take, drop, Option, None, Some, Result, Ok, Err, refl, sym, ap, subst, arith, add-zero, ◌∙◌}
use Rattle.std.specs.Prelude.{IfErr, IfSome, IsTrue}
use Rattle.std.proofs.lemmas.List.{append-nil, length-drop, length-take-le, take-append-drop}
use Rattle.std.proofs.lemmas.List.Elements.{All-from_recursion}
use Rattle.byte_defs.specs.Members.{has}
use Rattle.kit_defs.specs.Kits.{IsKit, Kit, roster_of}
use Rattle.journal_defs.specs.declared.Version.{Version}
use Rattle.journal_defs.specs.declared.Version.TheVariants.{One, Two}
use Rattle.journal_defs.specs.Journals.{LieBefore, batch_limit}
use Rattle.letter_laws.proofs.Addressees.{start_is_keyed}
use Rattle.node_defs.specs.Casts.{Beginning, cast_of, from_start, setting_of}
use Rattle.node_defs.specs.Nodes.{reads}
use Rattle.node_defs.specs.Lines.{Stop, NoMemory}
use Rattle.restored_hosts.specs.Below.{SnapSaid, Snap, Hosts, AreHosts, Counts, count_in}
use Rattle.restored_hosts.specs.Begun.{HasBegun}
use Rattle.restored_hosts.specs.declared.hosts.Begun.{Begun}
use Rattle.node_opening.specs.Begins.{BeginsBy, HasItsPlace, IsSetOut, IsSnapFor, begins_by, head_in}
use Rattle.node_opening.specs.Holding.{IsBegun, IsPlaceOf}
use Rattle.node_opening.specs.Reading.{HasRead, IsNotSetOut, too_little}

pub nothing-read : (kit : Kit) (v : Version) (head : List ℕ) (b : Beginning) (lines : ℕ) (seen : Option (List ℕ)) (gate : ℕ) (hosts : Hosts)
    (counts : Counts) → AreHosts (cast_of kit v) kit b.from None hosts → ((p : ℕ) → count_in counts p ≡ b.before p) → gate ≡ b.place
    → IfSome seen (λ file. LieBefore head file [] gate) → HasRead (cast_of kit v) kit head b lines seen [] gate hosts counts
unfolding reads
nothing-read kit v head b lines seen gate hosts counts are before place stands = record {
  runs = refl;
  gate_is = sym place;
  fits = tt;
  hosts_are = are;
  counted = λ p. before p ∙ sym (add-zero (b.before p));
  stands = stands;
}

pub first-read : (kit : Kit) (v : Version) (s : Option SnapSaid) (lines : ℕ) (seen : Option (List ℕ)) (gate : ℕ) (hosts : Hosts)
    (counts : Counts) → IsSetOut kit v s seen gate hosts counts
    → HasRead (cast_of kit v) kit (head_in (cast_of kit v) s seen) (begins_by (cast_of kit v) s) lines seen [] gate hosts counts
first-read kit v s lines seen gate hosts counts out = nothing-read kit v (head_in (cast_of kit v) s seen) (begins_by (cast_of kit v) s) lines seen
    gate hosts counts out.hosts_are out.counted out.gate_is out.stands

-- ---- where they begin

-- at the start of the journal
pub start-set-out : (kit : Kit) (v : Version) (held seen : Option (List ℕ)) (gate : ℕ) (hosts : Hosts) (counts : Counts) → IsKit kit
    → IsBegun kit v held seen gate → AreHosts (cast_of kit v) kit (from_start (cast_of kit v)).from None hosts
    → ((p : ℕ) → count_in counts p ≡ 0) → IsSetOut kit v None seen gate hosts counts
start-set-out kit v held seen gate hosts counts is begun are none = record {
  hosts_are = are;
  counted = none;
  keyed = λ p. start_is_keyed (setting_of kit) p (batch_limit v)
      (All-from_recursion (λ m. IsTrue (has (roster_of kit.keys) m)) kit.genesis is.listed);
  few = λ p. omega (arith, none p);
  gate_is = begun.place;
  there = everywhere seen;
  stands = begun.stands;
}
  where
    everywhere : (o : Option (List ℕ)) → IfSome o (HasItsPlace kit None)
    everywhere None = tt
    everywhere (Some file) = tt

-- the bytes before a place of the file lie before it
before-place : (file : List ℕ) (place gate : ℕ) → place < length file → gate ≡ place → LieBefore (take place file) file [] gate
before-place file place gate within at =
    let head = length-take-le place file (omega (arith, within)) in
    record {
      rest = drop place file;
      parts = sym (ap (λ (l : List ℕ). l ++ drop place file) (append-nil (take place file)) ∙ take-append-drop place file);
      goes_on = omega (arith, length-drop place file, within);
      where_it_is = at ∙ sym (ap (λ (l : List ℕ). length l) (append-nil (take place file)) ∙ head);
      each = tt;
    }

-- at the place of a snapshot
pub snap-set-out : (kit : Kit) (v : Version) (t : SnapSaid) (seen : Option (List ℕ)) (gate : ℕ) (b : Begun) → HasBegun kit v t b
    → IfSome seen (IsPlaceOf kit t) → gate ≡ t.place → IsSetOut kit v (Some t) seen gate b.hosts b.counts
snap-set-out kit v t seen gate b begun there at = record {
  hosts_are = begun.hosts;
  counted = begun.counts;
  keyed = begun.keyed;
  few = λ p. let few = begun.few p in omega (arith, begun.counts p, few, at);
  gate_is = at;
  there = there;
  stands = go seen there;
}
  where
    go : (o : Option (List ℕ)) → IfSome o (IsPlaceOf kit t)
        → IfSome o (λ file. LieBefore (head_in (cast_of kit v) (Some t) o) file [] gate)
    go None is = tt
    go (Some file) is = before-place file t.place gate is.within at

-- ---- by whether there is a snapshot

pub none-begins : (kit : Kit) (s : Option SnapSaid) → BeginsBy kit s None → s ≡ None
none-begins kit None by = refl
none-begins kit (Some t) by = absurd by

pub snap-begins : (kit : Kit) (s : Option SnapSaid) (snap : Snap) → BeginsBy kit s (Some snap) → (t : SnapSaid) × (s ≡ Some t) × IsSnapFor kit t snap
snap-begins kit None snap by = absurd by
snap-begins kit (Some t) snap by = (t, refl, by)

-- memory ran out
pub lacks-memory : {T E : Type 0} (stop : E → Stop) (kit : Kit) (s : Option SnapSaid) (seen : Option (List ℕ)) (r : Result T E)
    → IfErr r (λ why. stop why ≡ NoMemory) → IfErr r (λ why. IsNotSetOut kit s seen (stop why))
lacks-memory stop kit s seen (Ok x) is = tt
lacks-memory stop kit s seen (Err why) is = subst (IsNotSetOut kit s seen) (sym is) too_little

-- how many messages an Order has
pub some-messages : (v : Version) → 1 ≤ batch_limit v
some-messages One = omega arith
some-messages Two = omega arith

pub few-messages : (v : Version) → batch_limit v ≤ 16
few-messages One = omega arith
few-messages Two = omega arith
