-- A journal whose entries fit.
use Rattle.std.proofs.Common.{◌≡◌, inl, inr, ℕ, ◌+◌, ◌≤◌, true, false, List, [], ◌∷◌, ◌++◌, length, drop, refl, sym, ap, subst, arith, ◌∙◌, append_assoc, append-nil, length-append}
use Rattle.std.specs.List.{flat_map, AllByRecursion}
use Rattle.std.specs.Prelude.{if◌then◌else◌}
use Rattle.std.proofs.lemmas.Grind.{flat_map-append}
use Rattle.std.proofs.lemmas.List.{drop_at}
use Rattle.group_defs.specs.Process.{Process}
use Rattle.journal_defs.specs.Entries.{Entry, IsEntry}
use Rattle.journal_defs.specs.Journals.{ReadsAs, LieBefore, HasEntryAt, IsClosedAt, up_to_gate, record_bytes, behind_gate, open_gate}
use Rattle.journal_defs.proofs.Gates.{entry_is_there, gate_is_there, one_entry}
use Rattle.node_defs.specs.Casts.{Cast, Beginning, entries_of, taken_up, may_have_written}
use Rattle.node_defs.specs.Nodes.{takes_up}
use Rattle.node_defs.specs.Lives.{FitsAt, FitsBehind, FitsFrom}
use Rattle.node_laws.proofs.Openings.{opens_sound}
use Rattle.opening_laws.specs.Reading.{after_reading, IsBadAt}
use Rattle.stop_laws.specs.Journals.{JournalIsRead}

-- no place has both an open gate and a closed one
open-closed : (file : List ℕ) (place : ℕ) (behind : List ℕ) → drop place file ≡ open_gate ∷ behind → IsClosedAt file place → ⊥
open-closed file place behind opens closed =
    let same : closed.gate ∷ closed.behind ≡ open_gate ∷ behind = sym closed.parts ∙ opens in
    absurd (closed.closed cc)

-- ---- entries before a place are the first of those that are read

nested : (h r b f t : List ℕ) (o : ℕ) → (h ++ (r ++ (o ∷ (b ++ f)))) ++ t ≡ (h ++ r) ++ o ∷ (b ++ (f ++ t))
nested h r b f t o = simp append_assoc

each-within : (es fs : List Entry) (e : Entry) → AllByRecursion IsEntry (es ++ e ∷ fs) → IsEntry e
each-within [] fs e each = each.0
each-within (x ∷ es) fs e each = each-within es fs e each.1

entry-before : (head file : List ℕ) (before es : List Entry) (e : Entry) (place : ℕ) → LieBefore head file (before ++ e ∷ es) place
    → HasEntryAt file (length (up_to_gate head before)) e (length (up_to_gate head before) + length (record_bytes e))
entry-before head file before es e place s =
    let records = flat_map record_bytes before in
    let others = flat_map record_bytes es in
    let more = others ++ s.rest in
    let parts : file ≡ (head ++ records) ++ open_gate ∷ (behind_gate e ++ more) =
    s.parts ∙ ap (λ (l : List ℕ). (head ++ l) ++ s.rest) (flat_map-append record_bytes before (e ∷ es))
    ∙ nested head records (behind_gate e) others s.rest open_gate in
    record {
      more = more;
      parts = ap (λ (l : List ℕ). drop (length (up_to_gate head before)) l) parts ∙ drop_at (head ++ records)
          (open_gate ∷ (behind_gate e ++ more)) (length (up_to_gate head before)) refl;
      goes_on = omega (arith, length-append others s.rest, s.goes_on);
      next_is = refl;
      entry = each-within before es e s.each;
    }

front : (head file : List ℕ) (before es fs : List Entry) (place : ℕ) → LieBefore head file (before ++ es) place
    → ReadsAs head file (before ++ fs) → (more : List Entry) × (fs ≡ es ++ more)
front head file before [] fs place s r = (fs, refl)
front head file before (e ∷ es) [] place s r =
    let shut = gate_is_there head file before (subst (ReadsAs head file) (append-nil before) r) in
    absurd (open-closed file _ _ (entry-before head file before es e place s).parts shut)
front head file before (e ∷ es) (f ∷ fs) place s r =
    let same : e ≡ f = one_entry file _ e f _ _ (entry-before head file before es e place s) (entry_is_there head file before fs f r) in
    let r' : ReadsAs head file (before ++ e ∷ fs) = subst (λ (x : Entry). ReadsAs head file (before ++ x ∷ fs)) (sym same) r in
    let rest = front head file (before ++ e ∷ []) es fs place
    (subst (λ (xs : List Entry). LieBefore head file xs place) (sym (append_assoc before (e ∷ []) es)) s)
    (subst (ReadsAs head file) (sym (append_assoc before (e ∷ []) fs)) r') in
    (rest.0, (λ i. sym same i ∷ rest.1 i))

-- ---- each of them fits

fits-parts : (c : Cast) (from : ℕ → Process) (before es more : List Entry) (e : Entry) → FitsBehind c from before (es ++ e ∷ more)
    → FitsBehind c from before es × FitsAt c from (before ++ es) e
fits-parts c from before [] more e fits = (tt, subst (λ (xs : List Entry). FitsAt c from xs e) (sym (append-nil before)) fits.0)
fits-parts c from before (x ∷ es) more e fits =
    let rest = fits-parts c from (before ++ x ∷ []) es more e fits.1 in
    ((fits.0, rest.0), subst (λ (xs : List Entry). FitsAt c from xs e) (append_assoc before (x ∷ []) es) rest.1)

taken-there : (c : Cast) (b : Beginning) (lines : ℕ) (es more : List Entry) (e : Entry) → FitsFrom c b.from (es ++ e ∷ more)
    → takes_up c (after_reading c b lines es) e ≡ true
taken-there c b lines es more e fits =
    let parts = fits-parts c b.from [] es more e fits in
    let opened = opens_sound c b lines es parts.0 in
    let now : (after_reading c b lines es).now e.process
    ≡ taken_up c.setting (b.from e.process) (entries_of e.process es) =
    opened.sound.processes e.process ∙ ap (λ (xs : List Entry). taken_up c.setting (b.from e.process) (entries_of e.process xs)) opened.kept in
    ap (λ t. if t then may_have_written c ((after_reading c b lines es).now e.process) e else false) parts.1.0
    ∙ ap (λ (p : Process). may_have_written c p e) now ∙ parts.1.1

-- ---- the end of the entries

module _ (c : Cast) (b : Beginning) (lines : ℕ) (head file : List ℕ) (es : List Entry) where
  ends-there : ReadsAs head file es → IsBadAt c (after_reading c b lines es) file (length (up_to_gate head es)) → ⊥
  ends-there reads (inl broken) = open-closed file _ _ broken.parts (gate_is_there head file es reads)
  ends-there reads (inr strange) = open-closed file _ _ strange.2.parts (gate_is_there head file es reads)

  split : (behind more : List ℕ) (e : Entry) → IsEntry e → behind ≡ behind_gate e ++ more → 1 ≤ length more
      → ((f : Entry) (gate : ℕ) (rest : List ℕ) → IsEntry f → behind ≡ behind_gate f ++ gate ∷ rest → ⊥) → ⊥
  split behind [] e is parts some none = absurd (omega (arith, some))
  split behind (g ∷ more) e is parts some none = none e g more is parts

  goes-on-there : (more : List Entry) (e : Entry) → ReadsAs head file (es ++ e ∷ more) → FitsFrom c b.from (es ++ e ∷ more)
      → IsBadAt c (after_reading c b lines es) file (length (up_to_gate head es)) → ⊥
  goes-on-there more e reads fits (inl broken) =
      let there = entry_is_there head file es more e reads in
      let both : open_gate ∷ broken.behind ≡ open_gate ∷ (behind_gate e ++ there.more) = sym broken.parts ∙ there.parts in
      let behind : broken.behind ≡ behind_gate e ++ there.more = cc in
      split broken.behind there.more e there.entry behind there.goes_on broken.no_entry
  goes-on-there more e reads fits (inr strange) =
      let there = entry_is_there head file es more e reads in
      let same : strange.0 ≡ e = one_entry file _ strange.0 e _ _ strange.2 there in
      let not : takes_up c (after_reading c b lines es) e ≡ false =
      subst (λ (x : Entry). takes_up c (after_reading c b lines es) x ≡ false) same strange.3 in
      let yes = taken-there c b lines es more e fits in
      let bad : true ≡ false = sym yes ∙ not in
      absurd cc

  nowhere : (fs more : List Entry) → fs ≡ es ++ more → ReadsAs head file fs → FitsFrom c b.from fs
      → IsBadAt c (after_reading c b lines es) file (length (up_to_gate head es)) → ⊥
  nowhere fs [] is reads fits = ends-there (subst (ReadsAs head file) (is ∙ append-nil es) reads)
  nowhere fs (e ∷ more) is reads fits =
      goes-on-there more e (subst (ReadsAs head file) is reads) (subst (FitsFrom c b.from) is fits)

pub journal_is_read : JournalIsRead
journal_is_read c b lines head file es fs place reads fits = λ breaks.
    let first = front head file [] es fs place breaks.stands reads in
    nowhere c b lines head file es fs first.0 first.1 reads fits
    (subst (IsBadAt c (after_reading c b lines es) file) breaks.stands.where_it_is breaks.bad)
