-- A payload is read of the word that spells it, and of no other.
use Rattle.std.proofs.Common.{◌≡◌, ℕ, ◌≤◌, ◌/◌, true, false, List, [], ◌∷◌, length, codes, Option, Some, None, option_map, refl, sym, ap, subst, ◌∙◌, arith}
use Rattle.std.specs.Prelude.{◌&&◌, nat_le, if◌then◌else◌, is_some}
use Rattle.std.specs.Option.{unwrap_or}
use Rattle.std.proofs.lemmas.Bool.{le-leb, leb-true}
use Rattle.hex.specs.Hex.{encode_lower, lower_digits}
use Rattle.hex.proofs.HexLemmas.{length-encode_with}
use Rattle.text_defs.specs.Words.{bytes_of, Spells}
use Rattle.text_defs.proofs.Bytes.{bytes_found, bytes_spelled}
use Rattle.text_defs.proofs.Choosing.{if_some}
use Rattle.text_defs.proofs.Tests.{and_true}
use Rattle.text_codec.proofs.Spelled.{spelled_once}
use Rattle.command_line.specs.Commands.{Ask, Asks, Command, IsPayload}
use Rattle.command_line.specs.Reading.{payload_of}

-- ---- what is read

pub payload_found : (word payload : List ℕ) → payload_of word ≡ Some payload → (word ≡ encode_lower payload) × IsPayload payload
payload_found word payload e =
    let tested = if_some (nat_le 2 (length word) && nat_le (length word) 2048) (bytes_of (length word / 2) word) payload e in
    let both = and_true (nat_le 2 (length word)) (nat_le (length word) 2048) tested.0 in
    let low : 2 ≤ length word = leb-true 2 (length word) both.0 in
    let high : length word ≤ 2048 = leb-true (length word) 2048 both.1 in
    let found = bytes_found (length word / 2) word payload tested.1 in
    (found.0, record { some = omega (arith, low, found.1.0); few = omega (arith, high, found.1.0); bytes = found.1.1 })

-- ---- what is spelled

taken : (n : ℕ) (o : Option (List ℕ)) (payload : List ℕ) → 2 ≤ n → n ≤ 2048 → o ≡ Some payload
    → (if nat_le 2 n && nat_le n 2048 then o else None) ≡ Some payload
taken n o payload low high e = rw (le-leb 2 n low, le-leb n 2048 high) e

pub payload_spelled : (payload : List ℕ) → IsPayload payload → payload_of (encode_lower payload) ≡ Some payload
payload_spelled payload fits =
    let len = length-encode_with lower_digits payload in
    let half : length (encode_lower payload) / 2 ≡ length payload = omega (arith, len) in
    taken (length (encode_lower payload)) (bytes_of (length (encode_lower payload) / 2) (encode_lower payload)) payload
    (omega (arith, len, fits.some)) (omega (arith, len, fits.few))
    (ap (λ n. bytes_of n (encode_lower payload)) half ∙ bytes_spelled (length payload) payload (refl, fits.bytes))

-- ---- the command

-- a word that spells one asks of it
pub is_asked : (o : Option (List ℕ)) → is_some o ≡ true → (let read : Option Command = Some (Ask (unwrap_or o [])) in read) ≡ option_map Ask o
is_asked None e = absurd cc
is_asked (Some payload) e = refl

-- and another one asks nothing
pub none_asked : (o : Option (List ℕ)) → is_some o ≡ false → (let read : Option Command = None in read) ≡ option_map Ask o
none_asked None e = refl
none_asked (Some payload) e = absurd cc

spells : (payload : List ℕ) → IsPayload payload → Spells (encode_lower payload) payload
spells [] fits = absurd (omega (arith, fits.some))
spells (b ∷ payload) fits = (fits.bytes, refl)

-- the word behind the first one spells what is asked of
pub asked_behind : (word : List ℕ) (further : List (List ℕ)) (payload : List ℕ) → Asks (word ∷ further) (Ask payload)
    → further ≡ encode_lower payload ∷ []
asked_behind word further payload asks = behind (encode_lower payload ∷ []) asks.spelled
  where
    behind : (spelled : List (List ℕ)) → word ∷ further ≡ codes "ask" ∷ spelled → further ≡ spelled
    behind spelled e = cc

pub first_spells : (word : List ℕ) (more : List (List ℕ)) (payload : List ℕ) → IsPayload payload → word ∷ more ≡ encode_lower payload ∷ []
    → Spells word payload
first_spells word more payload fits e = subst (λ w. Spells w payload) (sym (first (encode_lower payload) e)) (spells payload fits)
  where
    first : (spelled : List ℕ) → word ∷ more ≡ spelled ∷ [] → word ≡ spelled
    first spelled e = cc

-- so what is read of it is the payload
pub read_payload : (word found payload : List ℕ) → Spells word found → Spells word payload → found ≡ payload
read_payload word found payload read spells = spelled_once word found payload read spells
