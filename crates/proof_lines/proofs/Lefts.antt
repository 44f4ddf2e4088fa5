-- The lines of the views that a process left, one after another.
use Rattle.std.proofs.Common.{◌≡◌, inl, inr, ℕ, zero, suc, ◌+◌, ◌<◌, ◌≤◌, List, [], ◌∷◌, ◌++◌, length, map, take, get_or, codes, Option, Some, None, refl, sym, ap, ◌∙◌, subst, arith, append_assoc, slice_get}
use Rattle.std.specs.Prelude.{All, flat_map, option_map}
use Rattle.std.specs.List.{AllZip}
use Rattle.std.specs.Fmt.{decimal}
use Rattle.std.proofs.Math.Seq.{take-add}
use Rattle.std.proofs.lemmas.Grind.{flat_map-append}
use Rattle.std.proofs.lemmas.List.{append-nil, take_all}
use Rattle.hex.specs.Hex.{IsBytes, encode_lower}
use Rattle.text_defs.specs.Words.{line_text}
use Rattle.message_defs.specs.Spelling.{IsClaim}
use Rattle.group_defs.specs.Process.{Left, Process, Setting}
use Rattle.pool_laws.proofs.Members.{Mem, append-mem, mem-All}
use Rattle.pool_laws.proofs.Places.{take-one}
use Rattle.audit_defs.specs.Players as plain
use Rattle.audit_core.specs.Walks.{IsPlayer, Player}
use Rattle.proof_defs.specs.Lines.{lines_of, proof_frames, proof_line, words_by}
use Rattle.proof_lines.specs.Seen.{CanTravel, line_by, only}

-- ---- a line

pub line-is : (me : ℕ) (frames : List (List ℕ)) → line_by me (only frames) ≡ line_text (codes "proof" ∷ words_by me frames)
line-is me [] = simp append_assoc
line-is me (frame ∷ []) = simp append_assoc
line-is me (frame ∷ next ∷ frames) = simp append_assoc

only-is : (frames : List (List ℕ)) (frame : List ℕ) → frames ≡ frame ∷ [] → only frames ≡ Some frame
only-is frames frame e = ap only e

-- the line of a view, of the frames that its certificate is packed into
pub view-line : (me : ℕ) (l : Left) (frames : List (List ℕ)) (before after : List ℕ) → All IsClaim l.commit → frames ≡ proof_frames l
    → (after ≡ before ++ line_by me (only frames)) × ((frame : List ℕ) → only frames ≡ Some frame → IsBytes frame)
    → (after ≡ before ++ proof_line me l) × CanTravel l
view-line me l frames before after ranged are pushed = (
  pushed.0 ∙ ap (λ (t : List ℕ). before ++ t) (line-is me frames ∙ ap (λ (fs : List (List ℕ)). line_text (codes "proof" ∷ words_by me fs)) are),
  record { claims = ranged; bytes = λ frame one. pushed.1 frame (only-is frames frame (are ∙ one)) },
)

-- ---- list by list

next-of : {A : Type 0} (xs : List A) (i : ℕ) (x : A) → slice_get xs i ≡ Some x → take (i + 1) xs ≡ take i xs ++ x ∷ []
next-of xs i x at = take-add i 1 xs ∙ ap (λ ys. take i xs ++ ys) (take-one xs i x at)

module _ {A : Type 0} (f : A → List ℕ) (P : A → Type 0) (xs : List A) where
  -- the text of so many of them, of each of which P holds
  pub record Reported (i : ℕ) (before text : List ℕ) : Type 0 where
    pub text_is : text ≡ before ++ flat_map f (take i xs)
    pub each : (x : A) → Mem x (take i xs) → P x

  pub none-reported : (before : List ℕ) → Reported 0 before before
  none-reported before = record { text_is = sym (append-nil before); each = λ x none. absurd none }

  pub one-reported : (i : ℕ) (before text more : List ℕ) (x : A) → Reported i before text → slice_get xs i ≡ Some x → (more ≡ text ++ f x) × P x
      → Reported (i + 1) before more
  one-reported i before text more x reported at is = record {
    text_is = is.0 ∙ ap (λ t. t ++ f x) reported.text_is ∙ append_assoc before (flat_map f (take i xs)) (f x)
        ∙ ap (λ t. before ++ t) (ap (λ t. flat_map f (take i xs) ++ t) (sym (append-nil (f x))) ∙ sym (flat_map-append f (take i xs) (x ∷ []))
        ∙ ap (flat_map f) (sym (next-of xs i x at)));
    each = λ y m. elim (append-mem (take i xs) (x ∷ []) y (subst (λ (ys : List A). Mem y ys) (next-of xs i x at) m)) [
      | inl earlier ↦ reported.each y earlier
      | inr (inl same) ↦ subst P same is.1
      | inr (inr none) ↦ absurd none
    ];
  }

  pub all-reported : (i : ℕ) (before text : List ℕ) → Reported i before text → length xs ≤ i → (text ≡ before ++ flat_map f xs) × All P xs
  all-reported i before text reported past =
      let whole : take i xs ≡ xs = take_all i xs past in
      (reported.text_is ∙ ap (λ ys. before ++ flat_map f ys) whole, mem-All P xs (λ x m. reported.each x (subst (λ (ys : List A). Mem x ys) (sym whole) m)))

-- ---- processes

-- the process of the audit at the same place
pub process-at : (s : Setting) (cs : List plain.Player) (pls : List Player) (i : ℕ) (p : Player) → AllZip (IsPlayer s) cs pls → i < length pls
    → p ≡ get_or pls i p → (c : plain.Player) × (slice_get cs i ≡ Some c) × IsPlayer s c p
process-at s [] [] i p all low is = absurd (omega (arith, low))
process-at s [] (q ∷ qs) i p all low is = absurd all
process-at s (c ∷ cs) [] i p all low is = absurd all
process-at s (c ∷ cs) (q ∷ qs) zero p all low is = (c, refl, subst (IsPlayer s c) (sym is) all.0)
process-at s (c ∷ cs) (q ∷ qs) (suc i) p all low is = process-at s cs qs i p all.1 (omega (arith, low)) is

pub as-many : (s : Setting) (cs : List plain.Player) (pls : List Player) → AllZip (IsPlayer s) cs pls → length cs ≡ length pls
as-many s [] [] all = refl
as-many s [] (q ∷ qs) all = absurd all
as-many s (c ∷ cs) [] all = absurd all
as-many s (c ∷ cs) (q ∷ qs) all = ap suc (as-many s cs qs all.1)
