-- What is sent and said of a conflict.
use Rattle.std.proofs.Common.{◌≡◌, ◌≢◌, inl, inr, ℕ, List, [], ◌∷◌, ◌++◌, codes, Option, Some, None, refl, sym, ap, ◌∙◌, subst}
use Rattle.std.specs.Prelude.{◌&&◌, ◌==◌, not, filter, All, IsTrue}
use Rattle.std.specs.Fmt.{decimal}
use Rattle.std.specs.List.{flat_map}
use Rattle.std.proofs.lemmas.Bool.{eq-eqb}
use Rattle.std.proofs.lemmas.List.{append-nil}
use Rattle.byte_defs.specs.Members.{has}
use Rattle.text_defs.specs.Words.{line_text}
use Rattle.message_defs.specs.Statements.{Claim}
use Rattle.message_defs.specs.Spelling.{IsClaim}
use Rattle.group_defs.specs.Process.{Setting, Process, keyed}
use Rattle.group_defs.specs.Sending.{Bundle, Parcel, frames_of, sends_to}
use Rattle.member_events.specs.declared.events.Sending.{Sending}
use Rattle.node_defs.specs.Casts.{Cast}
use Rattle.node_service.specs.Answers.{CanBeSent, letters_in, letters_to}
use Rattle.guard_defs.specs.Lines.{accuse_line, conflict_of}
use Rattle.guard_service.specs.Accusing.{AreLetters, HasAccused, Packs, letters_listed, letters_of, listed_others, sent}
use Rattle.guard_service.specs.Words.{accuse_text}
use Rattle.pool_laws.proofs.Members.{Mem, append-mem, filter-mem, map-mem, mem-All}
use Rattle.pool_laws.proofs.Sorting.{mem-sorted}
use Rattle.pool_laws.proofs.Tests.{and-first, and-second, not-both, some-same}

-- ---- the line

pub line-of-none : (now : Process) (q me : ℕ) → now.me ≡ me → conflict_of now q ≡ None → accuse_text me None ≡ accuse_line now q
line-of-none now q me number none =
    ap (λ (n : ℕ). line_text (codes "accuse" ∷ decimal n ∷ codes "none" ∷ [])) (sym number)
    ∙ sym (ap (λ (o : Option (Claim × Claim)). elim o [
      | None ↦ line_text (codes "accuse" ∷ decimal now.me ∷ codes "none" ∷ [])
      | Some pair ↦ line_text (codes "accuse" ∷ decimal now.me ∷ decimal q ∷ [])
    ]) none)

pub line-of-some : (now : Process) (q me : ℕ) (pair : Claim × Claim) → now.me ≡ me → conflict_of now q ≡ Some pair
    → accuse_text me (Some q) ≡ accuse_line now q
line-of-some now q me pair number some =
    ap (λ (n : ℕ). line_text (codes "accuse" ∷ decimal n ∷ decimal q ∷ [])) (sym number)
    ∙ sym (ap (λ (o : Option (Claim × Claim)). elim o [
      | None ↦ line_text (codes "accuse" ∷ decimal now.me ∷ codes "none" ∷ [])
      | Some pair ↦ line_text (codes "accuse" ∷ decimal now.me ∷ decimal q ∷ [])
    ]) some)

-- ---- the letters

letters-none : (s : Setting) (now : Process) (q : ℕ) → conflict_of now q ≡ None → letters_listed s now q ≡ []
letters-none s now q none = ap (λ (o : Option (Claim × Claim)). elim o [
  | None ↦ []
  | Some pair ↦ letters_of (sends_to (listed_others s now) (Bundle (pair.0 ∷ pair.1 ∷ [])))
]) none

letters-some : (s : Setting) (now : Process) (q : ℕ) (pair : Claim × Claim) → conflict_of now q ≡ Some pair
    → letters_listed s now q ≡ letters_of (sends_to (listed_others s now) (Bundle (pair.0 ∷ pair.1 ∷ [])))
letters-some s now q pair some = ap (λ (o : Option (Claim × Claim)). elim o [
  | None ↦ []
  | Some pair ↦ letters_of (sends_to (listed_others s now) (Bundle (pair.0 ∷ pair.1 ∷ [])))
]) some

-- one frame to each of these
one-frame : (to : List ℕ) (parcel : Parcel) (bytes : List ℕ) → frames_of parcel ≡ bytes ∷ []
    → letters_in (sent to (Some bytes)) ≡ letters_of (sends_to to parcel)
one-frame [] parcel bytes is = refl
one-frame (p ∷ ps) parcel bytes is =
    sym (append-nil (letters_to (p ∷ ps, bytes) ++ []))
    ∙ ap (λ (frames : List (List ℕ)). flat_map (λ (f : List ℕ). letters_to (p ∷ ps, f)) frames ++ []) (sym is)

pub no-letters : (s : Setting) (now : Process) (q : ℕ) → conflict_of now q ≡ None → AreLetters s now q []
no-letters s now q none = record { all = λ can. sym (letters-none s now q none); none = λ cannot. refl }

pub are-letters : (s : Setting) (now : Process) (q : ℕ) (a b : Claim) (to : List ℕ) (frame : Option (List ℕ))
    → conflict_of now q ≡ Some (a, b) → to ≡ listed_others s now → Packs a b frame → AreLetters s now q (letters_in (sent to frame))
are-letters s now q a b to (Some bytes) some others packs = record {
  all = λ can.
      one-frame to (Bundle (a ∷ b ∷ [])) bytes packs.2
      ∙ ap (λ (ps : List ℕ). letters_of (sends_to ps (Bundle (a ∷ b ∷ [])))) others
      ∙ sym (letters-some s now q (a, b) some);
  none = λ cannot. absurd (cannot (λ pair at.
      subst (λ (pair : Claim × Claim). IsClaim pair.0 × IsClaim pair.1) (some-same (a, b) pair (sym some ∙ at)) (packs.0, packs.1)));
}
are-letters s now q a b to None some others packs = record {
  all = λ can. absurd (packs (can (a, b) some));
  none = λ cannot. refl;
}

-- ---- whom they go to

listed-other : (s : Setting) (now : Process) (m : ℕ) → Mem m (listed_others s now) → IsTrue (has (keyed s) m) × (m ≢ now.me)
listed-other s now m there =
    let found = filter-mem (λ m. not (m == now.me) && has (keyed s) m) now.pool.view.members m
    (mem-sorted (λ m. m ∷ []) (filter (λ m. not (m == now.me) && has (keyed s) m) now.pool.view.members) m there) in (
      and-second (not (m == now.me)) (has (keyed s) m) found.1,
      λ same. not-both (m == now.me) (eq-eqb m now.me same) (and-first (not (m == now.me)) (has (keyed s) m) found.1),
    )

pub can-go : (c : Cast) (p : ℕ) (now : Process) (a b : Claim) (to : List ℕ) (frame : Option (List ℕ)) → now.me ≡ p
    → to ≡ listed_others c.setting now → Packs a b frame → All (CanBeSent c p) (letters_in (sent to frame))
can-go c p now a b to None number others packs = mem-All (CanBeSent c p) [] (λ letter m. absurd m)
can-go c p now a b to (Some bytes) number others packs = mem-All (CanBeSent c p) (letters_to (to, bytes) ++ [])
    (λ letter m. elim (append-mem (letters_to (to, bytes)) [] letter m) [ inl there ↦ one letter there | inr none ↦ absurd none ])
  where
    one : (letter : ℕ × List ℕ) → Mem letter (letters_to (to, bytes)) → CanBeSent c p letter
    one letter m =
        let found = map-mem (λ (q : ℕ). (q, bytes)) to letter m in
        let other = listed-other c.setting now found.0 (subst (Mem found.0) others found.1) in
        subst (CanBeSent c p) found.2 (record { listed = other.0; other = λ same. other.1 (same ∙ sym number); short = packs.3 })

-- ---- the whole

pub accused-none : (c : Cast) (p : ℕ) (now : Process) (q me : ℕ) (old new : List ℕ) (sends : List Sending) → now.me ≡ me
    → conflict_of now q ≡ None → new ≡ old ++ accuse_text me None → HasAccused c p now q old new sends sends
accused-none c p now q me old new sends number none reported = record {
  more = [];
  reported = reported ∙ ap (λ (line : List ℕ). old ++ line) (line-of-none now q me number none);
  grown = sym (append-nil sends);
  can = mem-All (CanBeSent c p) [] (λ letter m. absurd m);
  are = no-letters c.setting now q none;
}

pub accused-some : (c : Cast) (p : ℕ) (now : Process) (q me : ℕ) (a b : Claim) (to : List ℕ) (frame : Option (List ℕ)) (old new : List ℕ)
    (sends between sends' : List Sending) → now.me ≡ p → now.me ≡ me → conflict_of now q ≡ Some (a, b) → to ≡ listed_others c.setting now
    → Packs a b frame → new ≡ old ++ accuse_text me (Some q) → between ≡ sends → sends' ≡ between ++ sent to frame
    → HasAccused c p now q old new sends sends'
accused-some c p now q me a b to frame old new sends between sends' number me-is some others packs reported same grown = record {
  more = sent to frame;
  reported = reported ∙ ap (λ (line : List ℕ). old ++ line) (line-of-some now q me (a, b) me-is some);
  grown = grown ∙ ap (λ (ss : List Sending). ss ++ sent to frame) same;
  can = can-go c p now a b to frame number others packs;
  are = are-letters c.setting now q a b to frame some others packs;
}
