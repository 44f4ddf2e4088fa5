-- Questions on kits and schedules, by the words of a line.
use Rattle.std.proofs.Common.{◌≡◌, ℕ, List, [], ◌∷◌, Option, Some, None, Result, Ok, Err, Vec, Global, option_map, refl, sym, ap, ◌∙◌}
use Rattle.std.specs.Prelude.{codes, IfOk, IfSome}
use Rattle.std.specs.Option.{unwrap_or}
use Rattle.kit_defs.specs.KitReading.{kit_of}
use Rattle.replay_defs.specs.Reading.{schedule_of}
use Rattle.text_defs.specs.Words.{Spells, bytes_word}
use Rattle.interop_files.specs.Files.{Answers, IsQuestion, OfKit, OfSchedule, Question, answer_to, kit_said, schedule_said, spelled}
use Rattle.text_codec.proofs.Spelled.{spelled_once}

-- ---- one word

pub kit_answers : (word bytes reported : List ℕ) → Spells word bytes → reported ≡ kit_said (kit_of bytes)
    → Answers (codes "kit" ∷ word ∷ []) reported
kit_answers word bytes reported s is = record {
  question = OfKit bytes;
  fits = s.0;
  asked = ap (λ (w : List ℕ). codes "kit" ∷ w ∷ []) s.1;
  reported_is = is;
}

pub schedule_answers : (word bytes reported : List ℕ) → Spells word bytes → reported ≡ schedule_said (schedule_of bytes)
    → Answers (codes "schedule" ∷ word ∷ []) reported
schedule_answers word bytes reported s is = record {
  question = OfSchedule bytes;
  fits = s.0;
  asked = ap (λ (w : List ℕ). codes "schedule" ∷ w ∷ []) s.1;
  reported_is = is;
}

-- ---- faults

-- what is reported of a fault is what reading has as its fault
pub fault_reported : {A F E : Type 0} (words : F → List ℕ) (said : Result A F → List ℕ) (fault : Option F) (read : Result A F)
    (r : Result (Vec ℕ Global) E) → ((f : F) → words f ≡ said (Err f)) → IfSome fault (λ f. read ≡ Err f)
    → IfOk r (λ reported. option_map words fault ≡ Some reported.items) → IfOk r (λ reported. reported.items ≡ said read)
fault_reported words said fault read (Err e) same is reported = tt
fault_reported words said (Some f) read (Ok bytes) same is reported =
    sym (ap (λ (o : Option (List ℕ)). unwrap_or o []) reported) ∙ same f ∙ ap said (sym is)
fault_reported words said None read (Ok bytes) same is reported = absurd cc

-- ---- one answer

pub one_answer : (words : List (List ℕ)) (x y : List ℕ) → Answers words x → Answers words y → x ≡ y
one_answer words x y a b = of a.question b.question a.fits b.fits a.asked b.asked a.reported_is b.reported_is
  where
    of : (p q : Question) → IsQuestion p → IsQuestion q → words ≡ spelled p → words ≡ spelled q → x ≡ answer_to p → y ≡ answer_to q → x ≡ y
    of (OfKit m) (OfKit n) fm fn is also t u = t ∙ ap (λ (bytes : List ℕ). kit_said (kit_of bytes))
        (spelled_once (bytes_word m) m n (fm, refl) (fn, cc)) ∙ sym u
    of (OfSchedule m) (OfSchedule n) fm fn is also t u = t ∙ ap (λ (bytes : List ℕ). schedule_said (schedule_of bytes))
        (spelled_once (bytes_word m) m n (fm, refl) (fn, cc)) ∙ sym u
    of (OfKit m) (OfSchedule n) fm fn is also t u = absurd cc
    of (OfSchedule m) (OfKit n) fm fn is also t u = absurd cc
