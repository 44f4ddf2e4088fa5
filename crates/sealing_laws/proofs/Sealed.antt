-- Each letter can be sealed.
use Rattle.std.proofs.Common.{◌≡◌, inl, inr, ℕ, ◌≤◌, List, [], ◌∷◌, ◌++◌, length, map, refl, sym, subst}
use Rattle.std.specs.Prelude.{flat_map, All, IsTrue}
use Rattle.std.proofs.lemmas.Grind.{flat_map-append}
use Rattle.std.proofs.lemmas.List.Elements.{All-append, All-from_recursion, All-weaker}
use Rattle.byte_defs.specs.Members.{has}
use Rattle.message_defs.specs.Limits.{most_frame_bytes}
use Rattle.message_defs.specs.Spelling.{IsClaim}
use Rattle.kit_defs.specs.Kits.{Kit, IsKit, roster_of}
use Rattle.group_defs.specs.Process.{Setting, Process, start}
use Rattle.group_defs.specs.Sending.{Sending, frames_of}
use Rattle.group_defs.specs.Events.{Turn, Outcome, after, outcome, run}
use Rattle.pool_laws.proofs.Members.{Mem, All-mem, append-mem, map-mem, mem-All}
use Rattle.group_defs.specs.Family.{claims_in, handed_to}
use Rattle.node_defs.specs.Casts.{Cast, cast_of, handed, hosted_by, letters_of, live, setting_of, turns_from}
use Rattle.node_keys.proofs.InKits.{shared}
use Rattle.letter_laws.specs.Letters.{AreInRange, IsOther}
use Rattle.letter_laws.proofs.Addressees.{sends_to_others, start_is_keyed}
use Rattle.letter_laws.proofs.Claims.{frames_are_short}
use Rattle.letter_laws.proofs.Keeping.{kept_is_in_range}
use Rattle.node_turns.specs.Service.{CanBeSent}
use Rattle.node_turns.specs.Letters.{IsSealable}
use Rattle.node_turns.proofs.Turned.{letters-are}
use Rattle.sealing_laws.specs.Sealing.{CanBeSealed, KeyedTurnsCanBeSealed, LettersCanBeSealed, SendsCanBeSealed, TurnsCanBeSealed}
use Rattle.sealing_laws.proofs.InRange.{handed-in-range, kept-in-range}

abbrev Each : {A : Type 0} → (A → Type 0) → List A → Type 0
Each {A} P xs = (x : A) → Mem x xs → P x

each-flat : {A B : Type 0} (P : B → Type 0) (g : A → List B) (xs : List A) → ((x : A) → Mem x xs → Each P (g x)) → Each P (flat_map g xs)
each-flat P g [] each = λ y none. absurd none
each-flat P g (x ∷ xs) each = λ y m. elim (append-mem (g x) (flat_map g xs) y m) [
  | inl here ↦ each x (inl refl) y here
  | inr there ↦ each-flat P g xs (λ z n. each z (inr n)) y there
]

each-map : {A B : Type 0} (P : B → Type 0) (f : A → B) (xs : List A) → Each (λ x. P (f x)) xs → Each P (map f xs)
each-map P f xs each y m = let from = map-mem f xs y m in subst P from.2 (each from.0 from.1)

all-sealable : (kit : Kit) (me : ℕ) (o : Outcome) → IsKit kit → IsTrue (has (hosted_by kit) me)
    → All (λ out. All (IsOther (setting_of kit) me) out.to) o.sends
    → All (λ out. All (λ frame. length frame ≤ most_frame_bytes) (frames_of out.parcel)) o.sends → Each (IsSealable kit me) (letters_of o)
all-sealable kit me o is hosted others short =
    each-flat (IsSealable kit me) (λ (out : Sending). flat_map (λ bytes. map (λ (q : ℕ). (q, bytes)) out.to) (frames_of out.parcel)) o.sends
    (λ out m. each-flat (IsSealable kit me) (λ bytes. map (λ (q : ℕ). (q, bytes)) out.to) (frames_of out.parcel)
    (λ frame n. each-map (IsSealable kit me) (λ (q : ℕ). (q, frame)) out.to
    (λ q there. let other = All-mem (IsOther (setting_of kit) me) out.to q
    (All-mem (λ (out : Sending). All (IsOther (setting_of kit) me) out.to) o.sends out others m) there in
    record {
      shared = shared kit me q is hosted other.0 other.1;
      short = All-mem (λ frame. length frame ≤ most_frame_bytes) (frames_of out.parcel) frame
          (All-mem (λ (out : Sending). All (λ frame. length frame ≤ most_frame_bytes) (frames_of out.parcel)) o.sends out short m) n;
    })))

run-snoc : (s : Setting) (p : Process) (ts : List Turn) (t : Turn) → run s p (ts ++ t ∷ []) ≡ after s (run s p ts) t
unfolding run
run-snoc s p [] t = refl
run-snoc s p (u ∷ us) t = run-snoc s (after s p u) us t

pub letters_can_be_sealed : LettersCanBeSealed
letters_can_be_sealed kit me limit ts t r is hosted other handed said came =
    let s : Setting = setting_of kit in
    let p : Process = run s (start s me limit) ts in
    let listed = All-from_recursion (λ m. IsTrue (has (roster_of kit.keys) m)) kit.genesis is.listed in
    let last = run-snoc s (start s me limit) ts t in
    let range = subst AreInRange last (kept_is_in_range s me limit (ts ++ t ∷ []) handed
    (subst (λ (q : Process). All IsClaim q.signed) (sym last) said)) in
    subst (λ (ls : List (ℕ × List ℕ)). All (IsSealable kit me) ls) (letters-are (outcome s p t) r came)
    (mem-All (IsSealable kit me) (letters_of (outcome s p t))
    (all-sealable kit me (outcome s p t) is hosted (sends_to_others s me (start s me limit) ts t (start_is_keyed s me limit listed) other) (frames_are_short s p t range)))

pub turns_can_be_sealed : TurnsCanBeSealed
turns_can_be_sealed kit version me p es e r is hosted same other =
    let c : Cast = cast_of kit version in
    let s : Setting = setting_of kit in
    let ts : List Turn = turns_from s (start s me c.batch_limit) es in
    let t : Turn = live c p e in
    let range = subst (All IsClaim) (sym (flat_map-append (λ (u : Turn). claims_in u.event) ts (t ∷ [])))
    (All-append IsClaim (handed_to ts) (handed_to (t ∷ [])) (kept-in-range s (start s me c.batch_limit) es)
    (All-append IsClaim (claims_in (handed e)) [] (handed-in-range e) (All-from_recursion IsClaim [] tt))) in
    subst (λ (q : Process). CanBeSealed kit me q t r) (sym same)
    (letters_can_be_sealed kit me c.batch_limit ts t r is hosted other range)

pub keyed_turns_can_be_sealed : KeyedTurnsCanBeSealed
keyed_turns_can_be_sealed kit version me from p es e r is hosted begun same other range came =
    let s : Setting = setting_of kit in
    let ts : List Turn = turns_from s from es in
    let t : Turn = live (cast_of kit version) p e in
    let others = subst (λ (q : Process). All (λ out. All (IsOther s me) out.to) (outcome s q t).sends) (sym same)
    (sends_to_others s me from ts t begun other) in
    subst (λ (ls : List (ℕ × List ℕ)). All (IsSealable kit me) ls) (letters-are (outcome s p t) r came)
    (mem-All (IsSealable kit me) (letters_of (outcome s p t)) (all-sealable kit me (outcome s p t) is hosted others (frames_are_short s p t range)))

-- ---- what a service sends

pub sends_can_be_sealed : SendsCanBeSealed
sends_can_be_sealed kit version me letters is hosted can =
    All-weaker (CanBeSent (cast_of kit version) me) (IsSealable kit me)
    (λ letter sent. record { shared = shared kit me letter.0 is hosted sent.listed sent.other; short = sent.short }) letters can
