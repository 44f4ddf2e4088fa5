-- What a run finds of a journal, and leaves.
use Rattle.std.proofs.Common.{◌≡◌, ◌≢◌, inl, inr, ⊎_elim, ℕ, ◌+◌, List, [], ◌∷◌, ◌++◌, length, take, drop, refl, sym, ap, subst, ◌∙◌, append_assoc}
use Rattle.std.specs.List.{AllByRecursion}
use Rattle.std.proofs.lemmas.Bool.{cases_eq}
use Rattle.std.proofs.lemmas.List.{take_at, drop_at, drop-drop}
use Rattle.journal_defs.specs.Entries.{Entry, IsEntry}
use Rattle.journal_defs.specs.Journals.{open_gate, closed_gate, behind_gate, up_to_gate, ReadsAs}
use Rattle.journal_defs.specs.Crashes.{IsAtRest, IsOpening, AllOpening, Survives, OneImageSurvives}
use Rattle.journal_defs.proofs.Recording.{one_reading}
use Rattle.journal_defs.proofs.Crashing.{not_open, opened_is_at_rest, each_push}

pub one_image_survives : OneImageSurvives
one_image_survives head image es i =
    let front = up_to_gate head es in
    record {
      each = i.each;
      all = ⊎_elim
          (λ closed. inl (λ c is. record { behind = i.behind; parts = is ∙ i.parts ∙ ap (λ (g : ℕ). front ++ g ∷ i.behind) closed }))
          (λ staged. inr (
            staged.0,
            staged.1.entry,
            λ c is. (
              staged.1.more,
              record {
                gate = i.gate;
                parts = is ∙ i.parts ∙ ap (λ (b : List ℕ). front ++ i.gate ∷ b) staged.1.parts;
              },
            ),
          ))
          i.safe;
    }

-- ---- the gate at which the reading ends

same_gate : (head bytes : List ℕ) (es fs : List Entry) (a : ReadsAs head bytes es) (b : ReadsAs head bytes fs) → a.gate ≡ b.gate
same_gate head bytes es fs a b =
    let k = length (up_to_gate head es) in
    let len : length (up_to_gate head fs)
    ≡ k = ap (λ (l : List Entry). length (up_to_gate head l)) (sym (one_reading head bytes es fs a b)) in
    let left : drop k bytes ≡ a.gate
    ∷ a.unread = ap (λ (l : List ℕ). drop k l) a.parts ∙ drop_at (up_to_gate head es) (a.gate ∷ a.unread) k refl in
    let right : drop k bytes ≡ b.gate
    ∷ b.unread = ap (λ (l : List ℕ). drop k l) b.parts ∙ drop_at (up_to_gate head fs) (b.gate ∷ b.unread) k len in
    let both : a.gate ∷ a.unread ≡ b.gate ∷ b.unread = sym left ∙ right in
    cc

abbrev rest_reads : (head bytes : List ℕ) (es : List Entry) → AllByRecursion IsEntry es → (r : IsAtRest head es bytes)
    → ReadsAs head bytes es
rest_reads head bytes es each r =
    record { gate = closed_gate; unread = r.behind; parts = r.parts; closed = not_open; each = each }

-- where it is closed as it is written, the journal is at rest
pub closed_rests : (head file : List ℕ) (fs : List Entry) (r : ReadsAs head file fs) → r.gate ≡ closed_gate → IsAtRest head fs file
closed_rests head file fs r is = record { behind = r.unread; parts = r.parts ∙ ap (λ (g : ℕ). up_to_gate head fs ++ g ∷ r.unread) is }

-- and where it is written so
pub written_rests : (head file new : List ℕ) (fs : List Entry) → ReadsAs head file fs
    → new ≡ take (length (up_to_gate head fs)) file ++ (closed_gate ∷ []) ++ drop (length (up_to_gate head fs) + 1) file
    → IsAtRest head fs new
written_rests head file new fs r is =
    let front = up_to_gate head fs in
    let k = length front in
    let kept : take k file ≡ front = ap (λ (l : List ℕ). take k l) r.parts ∙ take_at front (r.gate ∷ r.unread) k refl in
    let rest : drop (k + 1) file ≡ r.unread = ap (λ (l : List ℕ). drop (k + 1) l) r.parts ∙ sym
    (drop-drop 1 k (front ++ r.gate ∷ r.unread)) ∙ ap (λ (l : List ℕ). drop 1 l) (drop_at front (r.gate ∷ r.unread) k refl) in
    record {
      behind = r.unread;
      parts = is ∙ ap (λ (l : List ℕ). l ++ (closed_gate ∷ []) ++ drop (k + 1) file) kept ∙ append_assoc front (closed_gate ∷ [])
          (drop (k + 1) file) ∙ ap (λ (l : List ℕ). front ++ closed_gate ∷ l) rest;
    }

module _ (head file : List ℕ) (es fs : List Entry) (images : List ℕ → Type 0) (s : Survives head es images) (now : images file)
    (r : ReadsAs head file fs) where
  -- A closed gate that is not as it is written was torn as it was opened: in every image its entry is staged, and it was not read.
  pub torn_stands : r.gate ≢ closed_gate → (e : Entry) × IsEntry e × (fs ≡ es) × AllOpening head es e images
  torn_stands torn = ⊎_elim
      (λ rest. absurd (torn (same_gate head file fs es r (rest_reads head file es s.each (rest file now)))))
      (λ staged. behind staged.0 staged.1 staged.2 (staged.2 file now).0 (staged.2 file now).1)
      s.all
    where
      behind : (e : Entry) → IsEntry e → AllOpening head es e images → (more : List ℕ) → IsOpening head es e more file
          → (e : Entry) × IsEntry e × (fs ≡ es) × AllOpening head es e images
      behind e is all more o = ⊎_elim
          (λ opened.
          let at_rest : IsAtRest head (es ++ e ∷ []) file =
          subst (IsAtRest head (es ++ e ∷ []))
          (sym (o.parts ∙ ap (λ (g : ℕ). up_to_gate head es ++ g ∷ (behind_gate e ++ closed_gate ∷ more)) opened))
          (opened_is_at_rest head es e more) in
          absurd (torn (same_gate head file fs (es ++ e ∷ []) r (rest_reads head file (es ++ e ∷ []) (each_push es e s.each is) at_rest))))
          (λ shut. (
            e,
            is,
            one_reading head file fs es r
                (record { gate = o.gate; unread = behind_gate e ++ closed_gate ∷ more; parts = o.parts; closed = shut; each = s.each }),
            all,
          ))
          (cases_eq o.gate open_gate)
