-- Where an opening stops.
use Rattle.std.proofs.Common.{◌≡◌, ◌⊎◌, ℕ, ◌+◌, List, [], ◌∷◌, ◌++◌, Bool, true, false, refl, sym, ap, ◌∙◌, subst, Some, None, inl, inr, arith}
use Rattle.std.specs.Prelude.{if◌then◌else◌, IsTrue}
use Rattle.std.proofs.lemmas.List.{append-nil, append_assoc}
use Rattle.byte_defs.specs.Members.{has}
use Rattle.group_defs.specs.Process.{Process}
use Rattle.journal_defs.specs.Entries.{Entry}
use Rattle.node_defs.specs.Lines.{Stop, BadJournal}
use Rattle.node_defs.specs.Casts.{Cast, Beginning, entries_of, taken_up, may_have_written}
use Rattle.node_defs.specs.Nodes.{Node, reads, takes_up, at_first, opens}
use Rattle.node_defs.specs.Lives.{FitsAt, FitsFrom, IsOpened}
use Rattle.node_laws.proofs.Openings.{opens_sound}
use Rattle.node_laws.proofs.Fitting.{fits-snoc}
use Rattle.opening_laws.proofs.EntriesRead.{each_reads_on}
use Rattle.resume_laws.specs.Refusing.{FirstMisfit, StopsAtMisfit, OpensExactly, place_after}
use Rattle.resume_laws.proofs.Readings.{read-place, size}

-- ---- either all fit, or one is the first that does not

-- the entry fits, or not
at-or-not : (c : Cast) (from : ℕ → Process) (before : List Entry) (e : Entry) → FitsAt c from before e ⊎ (FitsAt c from before e → ⊥)
at-or-not c from before e = by (has c.hosted e.process)
    (may_have_written c (taken_up c.setting (from e.process) (entries_of e.process before)) e)
  where
    by : (a b : Bool) → (IsTrue a × IsTrue b) ⊎ (IsTrue a × IsTrue b → ⊥)
    by true true = inl (refl, refl)
    by true false = inr (λ h. absurd (not-so h.1))
      where
        not-so : false ≡ true → ⊥
        not-so e = cc
    by false b = inr (λ h. absurd (not-so h.0))
      where
        not-so : false ≡ true → ⊥
        not-so e = cc

sorted-out : (c : Cast) (from : ℕ → Process) (before es : List Entry) → FitsFrom c from before
    → FitsFrom c from (before ++ es) ⊎ FirstMisfit c from (before ++ es)
sorted-out c from before [] fits = inl (subst (FitsFrom c from) (sym (append-nil before)) fits)
sorted-out c from before (e ∷ es) fits = elim (at-or-not c from before e) [
  | inl at ↦ subst (λ fs. FitsFrom c from fs ⊎ FirstMisfit c from fs) (append_assoc before (e ∷ []) es)
      (sorted-out c from (before ++ e ∷ []) es (fits-snoc c from [] before e fits at))
  | inr not-at ↦ inr (record { before = before; misfit = e; others = es; parts = refl; fit = fits; does_not = not-at })
]

-- ---- the node

module _ (c : Cast) (b : Beginning) (lines : ℕ) where
  abbrev read : List Entry → Node
  read es = reads c (at_first b lines) es

  gate-of : (es : List Entry) → (read es).gate ≡ b.place + size (read es).kept
  gate-of es = read-place b.place c (at_first b lines) es (omega arith)

  -- the first one that does not fit is not taken up
  not-taken : (es : List Entry) (m : FirstMisfit c b.from es) → takes_up c (read m.before) m.misfit ≡ false
  not-taken es m = go (has c.hosted m.misfit.process) refl
    where
      o : IsOpened c b m.before (opens c b lines m.before)
      o = opens_sound c b lines m.before m.fit

      p : ℕ
      p = m.misfit.process

      is-so : (read m.before).now p ≡ taken_up c.setting (b.from p) (entries_of p m.before)
      is-so = o.sound.processes p ∙ ap (λ es. taken_up c.setting (b.from p) (entries_of p es)) o.kept

      wrote : (w : Bool) → has c.hosted p ≡ true → may_have_written c ((read m.before).now p) m.misfit ≡ w
          → may_have_written c ((read m.before).now p) m.misfit ≡ false
      wrote true hosted is = absurd (m.does_not (hosted, ap (λ (x : Process). may_have_written c x m.misfit) (sym is-so) ∙ is))
      wrote false hosted is = is

      go : (h : Bool) → has c.hosted p ≡ h → (if h then may_have_written c ((read m.before).now p) m.misfit else false) ≡ false
      go true hosted = wrote (may_have_written c ((read m.before).now p) m.misfit) hosted refl
      go false hosted = refl

  -- so the node stops there
  stops-there : (es : List Entry) (m : FirstMisfit c b.from es)
      → read es ≡ record (read m.before) { stopped = Some (BadJournal (read m.before).gate) }
  stops-there es m =
      let o : IsOpened c b m.before (opens c b lines m.before) = opens_sound c b lines m.before m.fit in
      ap (λ fs. read fs) m.parts
      ∙ (each_reads_on c (at_first b lines) m.before o.goes_on).refused m.misfit m.others (not-taken es m)

  holds-before : (es : List Entry) (m : FirstMisfit c b.from es) → (read es).kept ≡ m.before
  holds-before es m = ap (λ (n : Node). n.kept) (stops-there es m) ∙ (opens_sound c b lines m.before m.fit).kept

  says-where : (es : List Entry) (m : FirstMisfit c b.from es) → (read es).stopped ≡ Some (BadJournal (place_after b m.before))
  says-where es m =
      ap (λ (n : Node). n.stopped) (stops-there es m)
      ∙ ap (λ k. Some (BadJournal k))
      (gate-of m.before ∙ ap (λ fs. b.place + size fs) (opens_sound c b lines m.before m.fit).kept)

  pub goes-on-fits : (es : List Entry) → (opens c b lines es).stopped ≡ None → FitsFrom c b.from es
  goes-on-fits es runs = go (sorted-out c b.from [] es tt)
    where
      some-none : (why : Stop) → Some why ≡ None → ⊥
      some-none why e = cc

      go : FitsFrom c b.from es ⊎ FirstMisfit c b.from es → FitsFrom c b.from es
      go (inl fits) = fits
      go (inr m) = absurd (some-none (BadJournal (place_after b m.before)) (sym (says-where es m) ∙ runs))

  stops-misfit : (es : List Entry) (why : Stop) → (opens c b lines es).stopped ≡ Some why → StopsAtMisfit c b es (opens c b lines es) why
  stops-misfit es why stopped = go (sorted-out c b.from [] es tt)
    where
      none-some : None ≡ Some why → ⊥
      none-some e = cc

      same : (x y : Stop) → Some x ≡ Some y → y ≡ x
      same x y e = cc

      go : FitsFrom c b.from es ⊎ FirstMisfit c b.from es → StopsAtMisfit c b es (opens c b lines es) why
      go (inl fits) = absurd (none-some (sym (opens_sound c b lines es fits).goes_on ∙ stopped))
      go (inr m) = record {
        first = m;
        place = same (BadJournal (place_after b m.before)) why (sym (says-where es m) ∙ stopped);
        kept = holds-before es m;
      }

pub opens_exactly : OpensExactly
opens_exactly c b lines es = record {
  goes_on = (goes-on-fits c b lines es, λ fits. (opens_sound c b lines es fits).goes_on);
  stops = λ why. (
    stops-misfit c b lines es why,
    λ at. says-where c b lines es at.first ∙ ap Some (sym at.place),
  );
}
