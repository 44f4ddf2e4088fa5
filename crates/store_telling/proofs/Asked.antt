-- What a payload asks.
use Rattle.std.proofs.Common.{◌≡◌, ℕ, Bool, true, false, List, [], ◌∷◌, length, take, drop, Option, Some, None, Ok, Err, refl, sym, ap}
use Rattle.std.specs.Prelude.{if◌then◌else◌, nat_lt, codes, option_map}
use Rattle.std.specs.Int.{w64, from_be_bytes}
use Rattle.std.specs.Result.{result_ok}
use Rattle.byte_defs.specs.Fields.{number_at}
use Rattle.story_defs.specs.Texts.{Word}
use Rattle.store_defs.specs.Stores.{Command, Reading, request_of}
use Rattle.store_text_defs.specs.Meanings.{payload_tokens, read_tokens}
use Rattle.store_text_defs.specs.Requests.{asked_tokens, tag_of}
use Rattle.store_telling.specs.Pieces.{asked_in, tagged}

-- what is read first
abbrev first : List ℕ → Reading (ℕ × List ℕ)
first payload = number_at tt w64 payload

abbrev read : ℕ × List ℕ → Reading (ℕ × List ℕ)
read x = Ok x

-- bytes that are too few for a tag are no request
pub no_tag : (payload : List ℕ) → first payload ≡ Err tt → request_of payload ≡ Err tt
unfolding request_of
no_tag payload e = of (nat_lt (length payload) 8) refl e
  where
    of : (t : Bool) → nat_lt (length payload) 8 ≡ t → (if t then Err tt else read (from_be_bytes w64 (take 8 payload), drop 8 payload)) ≡ Err tt
        → request_of payload ≡ Err tt
    of true is e = rw is refl
    of false is e = absurd cc

-- the number that is read first is the tag
pub tag_read : (payload : List ℕ) (n : ℕ) (rest : List ℕ) → first payload ≡ read (n, rest) → n ≡ tag_of payload
tag_read payload n rest e = of (nat_lt (length payload) 8) e
  where
    same : (a b : ℕ × List ℕ) → read a ≡ read b → a ≡ b
    same a b e = cc

    of : (t : Bool) → (if t then Err tt else read (from_be_bytes w64 (take 8 payload), drop 8 payload)) ≡ read (n, rest) → n ≡ tag_of payload
    of true e = absurd cc
    of false e = sym (ap (λ (x : ℕ × List ℕ). x.0) (same _ (n, rest) e))

-- ---- by what was read

abbrev asked : ℕ → Reading Command → Option (ℕ × Command)
asked g r = option_map (tagged g) (result_ok r)

abbrev some : ℕ × Command → Option (ℕ × Command)
some a = Some a

abbrev nothing : Option (ℕ × Command)
nothing = None

same_pair : (a b : ℕ × Command) → some a ≡ some b → a ≡ b
same_pair a b e = cc

reported_by : (g : ℕ) (r : Reading Command) (t : ℕ) (c : Command) → some (t, c) ≡ asked g r → read_tokens g r ≡ asked_tokens t c
reported_by g (Ok d) t c e = sym (ap (λ (x : ℕ × Command). asked_tokens x.0 x.1) (same_pair (t, c) (g, d) e))
reported_by g (Err f) t c e = absurd cc

none_by : (g : ℕ) (r : Reading Command) → nothing ≡ asked g r → read_tokens g r ≡ Word (codes "no") ∷ Word (codes "request") ∷ []
none_by g (Ok d) e = absurd cc
none_by g (Err f) e = refl

pub request_reported : (payload : List ℕ) (t : ℕ) (c : Command) → some (t, c) ≡ asked_in payload → payload_tokens payload ≡ asked_tokens t c
request_reported payload t c e = reported_by (tag_of payload) (request_of payload) t c e

pub none_reported : (payload : List ℕ) → nothing ≡ asked_in payload → payload_tokens payload ≡ Word (codes "no") ∷ Word (codes "request") ∷ []
none_reported payload e = none_by (tag_of payload) (request_of payload) e
