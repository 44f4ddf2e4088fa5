-- An event's line is read again.
use Rattle.std.proofs.Common.{◌≡◌, inl, inr, ℕ, suc, ◌+◌, ◌-◌, ◌^◌, ◌<◌, ◌≤◌, Bool, true, false, List, [], ◌∷◌, ◌++◌, length, map, Option, Some, None, Result, Ok, Err, refl, sym, ap, subst, ◌∙◌, arith, append-nil}
use Rattle.std.specs.Prelude.{codes}
use Rattle.std.specs.Fmt.{decimal}
use Rattle.hex.specs.Hex.{IsBytes}
use Rattle.byte_defs.specs.Fields.{◌>>=◌, four_bytes, two_bytes, text}
use Rattle.text_defs.specs.Words.{bytes_word}
use Rattle.replay_defs.specs.Schedules as schedules
use Rattle.replay_defs.specs.Schedules.{Listed, ScheduleEvent, Submit, Raw, Pass, Drain, Lie, Suspect, Join, IsEvent, is_correct, is_corrupt, event_bytes, eight_bytes}
use Rattle.story_defs.specs.declared.Expected.{Expected}
use Rattle.story_defs.specs.declared.Expected.TheVariants as expected
use Rattle.story_defs.specs.Words.{Words, mask_at}
use Rattle.story_defs.specs.Lines.{submit_at, raw_at, pass_at, drain_at, lie_at, about_at, alone_at, kind_of_word, event_by}
use Rattle.story_defs.specs.Texts.{Token, Word, number, plain, mask_tokens, statement_tokens, event_tokens}
use Rattle.story_laws.proofs.Scans.{AreTokens}
use Rattle.story_laws.proofs.Again.{are_joined, colon_names, fits_behind, map_joined, mask_again, mask_are, mask_words, number_again, number_is, payload_again, process_again}
use Rattle.story_laws.proofs.StatementsAgain.{statement_again, statement_are}

-- the kind of an event, and its word
abbrev pub kind_of : ScheduleEvent → Expected
kind_of (Submit at payload) = expected.Submit
kind_of (Raw to from bytes) = expected.Raw
kind_of (Pass frame to) = expected.Pass
kind_of (Drain count mask) = expected.Drain
kind_of (Lie signer mask statement) = expected.Lie
kind_of (Suspect at other) = expected.Suspect
kind_of (Join at other) = expected.Join
kind_of (schedules.Renew at) = expected.Renew
kind_of (schedules.Tick at) = expected.Tick

abbrev pub word_of : ScheduleEvent → List ℕ
word_of (Submit at payload) = codes "submit"
word_of (Raw to from bytes) = codes "raw"
word_of (Pass frame to) = codes "pass"
word_of (Drain count mask) = codes "drain"
word_of (Lie signer mask statement) = codes "lie"
word_of (Suspect at other) = codes "suspect"
word_of (Join at other) = codes "join"
word_of (schedules.Renew at) = codes "renew"
word_of (schedules.Tick at) = codes "tick"

-- the tokens behind the word
abbrev pub tokens_behind : ScheduleEvent → List Token
tokens_behind e = elim (event_tokens e) [ [] ↦ [] | t ∷ ts ↦ ts ]

pub tokens_are : (e : ScheduleEvent) → event_tokens e ≡ Word (word_of e) ∷ tokens_behind e
tokens_are (Submit at payload) = refl
tokens_are (Raw to from bytes) = refl
tokens_are (Pass frame to) = refl
tokens_are (Drain count mask) = refl
tokens_are (Lie signer mask statement) = refl
tokens_are (Suspect at other) = refl
tokens_are (Join at other) = refl
tokens_are (schedules.Renew at) = refl
tokens_are (schedules.Tick at) = refl

pub kind_again : (e : ScheduleEvent) → kind_of_word (word_of e) ≡ Some (kind_of e)
kind_again (Submit at payload) = refl
kind_again (Raw to from bytes) = refl
kind_again (Pass frame to) = refl
kind_again (Drain count mask) = refl
kind_again (Lie signer mask statement) = refl
kind_again (Suspect at other) = refl
kind_again (Join at other) = refl
kind_again (schedules.Renew at) = refl
kind_again (schedules.Tick at) = refl

text_fits : (bytes : List ℕ) → IsBytes (text bytes) → IsBytes bytes
text_fits bytes h = fits_behind (two_bytes (length bytes)) bytes h

module _ (ls : List Listed) (correct : (p : ℕ) → is_correct ls p ≡ true → p ≤ 63)
    (corrupt : (p : ℕ) → is_corrupt ls p ≡ true → p ≤ 63) where
  about_again : (x : Expected) (tag at other : ℕ) → at ≤ 63 → other ≤ 63
      → about_at x tag (decimal at ∷ codes "of" ∷ decimal other ∷ []) ≡ Ok (tag ∷ at ∷ other ∷ [])
  unfolding about_at
  about_again x tag at other low few = rw (process_again x at (codes "of" ∷ decimal other ∷ []) low, process_again x other [] few) refl

  alone_again : (x : Expected) (tag at : ℕ) → at ≤ 63 → alone_at x tag (decimal at ∷ []) ≡ Ok (tag ∷ at ∷ [])
  unfolding alone_at
  alone_again x tag at low = rw (process_again x at [] low) refl

  submit_again : (at : ℕ) (payload : List ℕ) → at ≤ 63 → length payload ≤ 65535 → IsBytes payload
      → submit_at (decimal at ∷ bytes_word payload ∷ []) ≡ Ok (1 ∷ at ∷ text payload)
  unfolding submit_at
  submit_again at payload low few fits = rw
      (process_again expected.Submit at (bytes_word payload ∷ []) low, payload_again expected.Submit 65535 payload [] fits few) refl

  raw_again : (to from : ℕ) (bytes : List ℕ) → to ≤ 63 → from ≤ 63 → length bytes ≤ 65535 → IsBytes bytes
      → raw_at (decimal to ∷ codes "from" ∷ decimal from ∷ bytes_word bytes ∷ []) ≡ Ok (2 ∷ to ∷ from ∷ text bytes)
  unfolding raw_at
  raw_again to from bytes low few short fits =
      rw (
        process_again expected.Raw to (codes "from" ∷ decimal from ∷ bytes_word bytes ∷ []) low,
        process_again expected.Raw from (bytes_word bytes ∷ []) few,
        payload_again expected.Raw 65535 bytes [] fits short,
      ) refl

  pass_again : (frame to : ℕ) → frame < 2 ^ 32 → to ≤ 63
      → pass_at (decimal frame ∷ codes "to" ∷ decimal to ∷ []) ≡ Ok (3 ∷ (four_bytes frame ++ to ∷ []))
  unfolding pass_at
  pass_again frame to small low =
      rw (
        number_again expected.Pass 0 (2 ^ 32 - 1) frame (codes "to" ∷ decimal to ∷ []) (omega arith) (omega (arith, small))
            (omega (arith, small)),
        process_again expected.Pass to [] low,
      ) refl

  drain_again : (count mask : ℕ) → count < 2 ^ 32 → mask < 2 ^ 64
      → drain_at (decimal count ∷ codes "to" ∷ map plain (mask_tokens mask)) ≡ Ok (4 ∷ (four_bytes count ++ eight_bytes mask))
  unfolding drain_at
  drain_again count mask small wide =
      ap (λ (ws : Words). drain_at (decimal count ∷ codes "to" ∷ ws)) (sym (append-nil (map plain (mask_tokens mask))))
      ∙ rw (
        number_again expected.Drain 0 (2 ^ 32 - 1) count (codes "to" ∷ mask_words mask []) (omega arith) (omega (arith, small))
            (omega (arith, small)),
        mask_again expected.Drain mask [] wide tt,
      ) refl

  lie_again : (signer mask : ℕ) (st : List ℕ) → signer ≤ 63 → IsEvent ls (Lie signer mask st) → IsBytes st
      → lie_at (decimal signer ∷ codes "to" ∷ (map plain (mask_tokens mask ++ Word (codes ":") ∷ statement_tokens st)))
      ≡ Ok (5 ∷ signer ∷ (eight_bytes mask ++ text st))
  unfolding lie_at
  lie_again signer mask st low fits bytes =
      let behind : Words = codes ":" ∷ map plain (statement_tokens st) in
      ap (λ (ws : Words). lie_at (decimal signer ∷ codes "to" ∷ ws))
      (map_joined (mask_tokens mask) (Word (codes ":") ∷ statement_tokens st))
      ∙ rw (
        process_again expected.Lie signer (codes "to" ∷ mask_words mask behind) low,
        mask_again expected.Lie mask behind fits.1 colon_names,
        statement_again st fits.3 bytes,
      ) refl

  -- an event is read of its words
  pub event_again : (e : ScheduleEvent) → IsEvent ls e → IsBytes (event_bytes e)
      → event_by (kind_of e) (map plain (tokens_behind e)) ≡ Ok (event_bytes e)
  event_again (Submit at payload) fits h = submit_again at payload (correct at fits.0) (omega (arith, fits.1))
      (text_fits payload (λ i. h (suc (suc i))))
  event_again (Raw to from bytes) fits h = raw_again to from bytes (correct to fits.0) fits.1 (omega (arith, fits.2))
      (text_fits bytes (λ i. h (suc (suc (suc i)))))
  event_again (Pass frame to) fits h = pass_again frame to fits.0 (correct to fits.1)
  event_again (Drain count mask) fits h = drain_again count mask fits.0 fits.1
  event_again (Lie signer mask st) fits h = lie_again signer mask st (corrupt signer fits.0) fits
      (text_fits st (fits_behind (eight_bytes mask) (text st) (λ i. h (suc (suc i)))))
  event_again (Suspect at other) fits h = about_again expected.Suspect 6 at other (correct at fits.0) fits.1
  event_again (Join at other) fits h = about_again expected.Join 7 at other (correct at fits.0) fits.1
  event_again (schedules.Renew at) fits h = alone_again expected.Renew 8 at (correct at fits)
  event_again (schedules.Tick at) fits h = alone_again expected.Tick 9 at (correct at fits)

  few : (p : ℕ) → p ≤ 63 → p < 2 ^ 64
  few p low = omega (arith, low)

  pub event_are : (e : ScheduleEvent) → IsEvent ls e → AreTokens (event_tokens e)
  event_are (Submit at payload) fits = (inr refl, (number_is at (few at (correct at fits.0)), (tt, tt)))
  event_are (Raw to from bytes) fits = (
    inr refl,
    (number_is to (few to (correct to fits.0)), (inr refl, (number_is from (few from fits.1), (tt, tt)))),
  )
  event_are (Pass frame to) fits = (
    inr refl,
    (number_is frame (omega (arith, fits.0)), (inr refl, (number_is to (few to (correct to fits.1)), tt))),
  )
  event_are (Drain count mask) fits = (inr refl, (number_is count (omega (arith, fits.0)), (inr refl, mask_are mask)))
  event_are (Lie signer mask st) fits = (
    inr refl,
    (
      number_is signer (few signer (corrupt signer fits.0)),
      (inr refl, are_joined (mask_tokens mask) (Word (codes ":") ∷ statement_tokens st) (mask_are mask) (inl refl, statement_are st)),
    ),
  )
  event_are (Suspect at other) fits = (
    inr refl,
    (number_is at (few at (correct at fits.0)), (inr refl, (number_is other (few other fits.1), tt))),
  )
  event_are (Join at other) fits = (
    inr refl,
    (number_is at (few at (correct at fits.0)), (inr refl, (number_is other (few other fits.1), tt))),
  )
  event_are (schedules.Renew at) fits = (inr refl, (number_is at (few at (correct at fits)), tt))
  event_are (schedules.Tick at) fits = (inr refl, (number_is at (few at (correct at fits)), tt))
