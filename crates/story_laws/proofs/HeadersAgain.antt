-- The lines before the events are read again.
use Rattle.std.proofs.Common.{◌≡◌, inl, inr, ℕ, zero, suc, ◌+◌, ◌-◌, ◌^◌, ◌<◌, ◌≤◌, ◌==◌, Bool, true, false, List, [], ◌∷◌, ◌++◌, length, map, Option, Some, None, Result, Ok, Err, refl, sym, ap, subst, ◌∙◌, arith, append_assoc, append-nil}
use Rattle.std.specs.Prelude.{if◌then◌else◌, ◌&&◌, nat_le, codes}
use Rattle.std.specs.Fmt.{decimal}
use Rattle.std.specs.List.{AllByRecursion, repeat}
use Rattle.std.proofs.lemmas.Bool.{le-leb, leb-true, and_parts}
use Rattle.hex.specs.Hex.{IsBytes}
use Rattle.byte_defs.specs.Equality.{same_bytes}
use Rattle.byte_defs.specs.Fields.{◌>>=◌, four_bytes}
use Rattle.signature_defs.specs.declared.OtsType.{OtsType}
use Rattle.signature_defs.specs.declared.OtsType.TheVariants.{W1, W2, W4, W8}
use Rattle.signature_defs.specs.LmOts.{ots_typecode}
use Rattle.signature_defs.specs.Hss.{height_in_range, length_in_range, levels_in_range}
use Rattle.text_defs.specs.Words.{bytes_word, process_of}
use Rattle.text_defs.proofs.Numbers.{number_within_spelled}
use Rattle.replay_defs.specs.declared.Scheme.{Scheme}
use Rattle.replay_defs.specs.declared.Scheme.TheVariants as schemes
use Rattle.replay_defs.specs.Keys.{Key, Plain, Lms, Hss, IsKey, IsTree, key_bytes, tree_bytes, is_from}
use Rattle.replay_defs.specs.Schedules.{Listed, Header, IsHeader, role_byte, listed_bytes}
use Rattle.story_defs.specs.declared.Expected.{Expected}
use Rattle.story_defs.specs.declared.Expected.TheVariants as expected
use Rattle.story_defs.specs.Words.{Words, scheme_word, scheme_of_word, role_of_word}
use Rattle.story_defs.specs.Lines.{limit_at, front_bytes, group_at, short_key, plain_at, tree_at, levels_at, key_at, listed_at, members_behind, genesis_at, total_at}
use Rattle.story_defs.specs.Texts.{Token, Word, Bytes, number, numbers, plain, role_word, plain_tokens, tree_tokens, key_tokens, listed_tokens, limit_tokens, group_tokens, genesis_tokens}
use Rattle.story_defs.proofs.HexWords.{same_is}
use Rattle.story_laws.proofs.Scans.{AreTokens, IsWord}
use Rattle.story_laws.proofs.Again.{are_joined, fits_behind, fits_front, number_again, number_is, numbers_are, plain_numbers, process_again, sized_again}

-- ---- the group

limit_by : (limit : ℕ) (one : Bool) → (limit == 1) ≡ one → is_from 1 16 limit ≡ true
    → limit_at (map plain (if one then [] else Word (codes "batch") ∷ number limit ∷ [])) ≡ Ok limit
unfolding limit_at
limit_by limit true e range = let done : ℕ → Result ℕ Expected = λ n. Ok n in let is : 1 ≡ limit = grind (arith, e) in ap done is
limit_by limit false e range =
    let both = and_parts (nat_le 1 limit) (nat_le limit 16) range in
    let low : 2 ≤ limit = grind (arith, e, leb-true 1 limit both.0) in
    rw (number_again expected.Group 2 16 limit [] low (leb-true limit 16 both.1) (omega (arith, leb-true limit 16 both.1))) refl

limit_again : (limit : ℕ) → is_from 1 16 limit ≡ true → limit_at (map plain (limit_tokens limit)) ≡ Ok limit
limit_again limit range = limit_by limit (limit == 1) refl range

scheme_again : (scheme : Scheme) → scheme_of_word (scheme_word scheme) ≡ Some scheme
scheme_again schemes.Plain = refl
scheme_again schemes.Lms = refl
scheme_again schemes.Hss = refl

pub group_again : (scheme : Scheme) (limit : ℕ) (group : List ℕ) → is_from 1 16 limit ≡ true → length group ≡ 16 → IsBytes group
    → group_at (bytes_word group ∷ scheme_word scheme ∷ map plain (limit_tokens limit)) ≡ Ok (scheme, front_bytes scheme limit group)
unfolding group_at
group_again scheme limit group range size fits =
    rw (
      sized_again expected.Group 15 group (scheme_word scheme ∷ map plain (limit_tokens limit)) fits size,
      scheme_again scheme,
      limit_again limit range,
    ) refl

scheme_is : (scheme : Scheme) → IsWord (scheme_word scheme)
scheme_is schemes.Plain = inr refl
scheme_is schemes.Lms = inr refl
scheme_is schemes.Hss = inr refl

limit_are_by : (limit : ℕ) (one : Bool) → limit ≤ 16 → AreTokens (if one then [] else Word (codes "batch") ∷ number limit ∷ [])
limit_are_by limit true most = tt
limit_are_by limit false most = (inr refl, (number_is limit (omega (arith, most)), tt))

pub group_are : (h : Header) → IsHeader h → AreTokens (group_tokens h)
group_are h fits =
    let most = leb-true h.batch_limit 16 (and_parts (nat_le 1 h.batch_limit) (nat_le h.batch_limit 16) fits.limit).1 in
    (inr refl, (tt, (scheme_is h.scheme, limit_are_by h.batch_limit (h.batch_limit == 1) most)))

-- ---- keys

abbrev done : List ℕ → Result (List ℕ) Expected
done bytes = Ok bytes

total_again : (total : ℕ) → total < 2 ^ 32 → total_at (decimal total ∷ []) ≡ Ok total
total_again total small = rw (number_again expected.Process 0 (2 ^ 32 - 1) total [] (omega arith) (omega (arith, small))
    (omega (arith, small))) refl

plain_by : (p : ℕ) (key : List ℕ) (total : ℕ) (short : Bool) → same_bytes key (short_key p) ≡ short → length key ≡ 32 → total < 2 ^ 32
    → IsBytes key
    → plain_at p (map plain ((if short then [] else Bytes key ∷ []) ++ number total ∷ [])) ≡ Ok (key ++ four_bytes total)
unfolding plain_at
plain_by p key total true e size small fits =
    rw (total_again total small) (ap (λ k. done (k ++ four_bytes total)) (sym (same_is key (short_key p) e)))
plain_by p key total false e size small fits =
    rw (sized_again expected.Process 31 key (decimal total ∷ []) fits size, total_again total small) refl

tree_again : (code kind : ℕ) (id seed : List ℕ) → code ≤ 255 → kind ≤ 255 → length id ≡ 16 → length seed ≡ 32 → IsBytes id → IsBytes seed
    → tree_at (decimal code ∷ decimal kind ∷ bytes_word id ∷ bytes_word seed ∷ []) ≡ Ok (code ∷ kind ∷ (id ++ seed))
unfolding tree_at
tree_again code kind id seed low few size long fits bytes =
    rw (
      number_again expected.Process 0 255 code (decimal kind ∷ bytes_word id ∷ bytes_word seed ∷ []) (omega arith) low (omega (arith, low)),
      number_again expected.Process 0 255 kind (bytes_word id ∷ bytes_word seed ∷ []) (omega arith) few (omega (arith, few)),
      sized_again expected.Process 15 id (bytes_word seed ∷ []) fits size,
      sized_again expected.Process 31 seed [] bytes long,
    ) refl

kind_low : (kind : OtsType) → ots_typecode kind ≤ 255
kind_low W1 = omega arith
kind_low W2 = omega arith
kind_low W4 = omega arith
kind_low W8 = omega arith

code_low : (levels code : ℕ) → height_in_range levels code ≡ true → code ≤ 255
code_low levels code e = grind (arith, e)

levels_low : (levels : ℕ) → levels_in_range levels ≡ true → levels ≤ 255
levels_low levels e = let most = leb-true levels 3 (and_parts (nat_le 1 levels) (nat_le levels 3) e).1 in omega (arith, most)

-- the bytes of a tree's parameters
id_fits : (code : ℕ) (kind : OtsType) (id seed : List ℕ) → IsBytes (tree_bytes code kind id seed) → IsBytes id
id_fits code kind id seed h = fits_front id seed (λ i. h (suc (suc i)))

seed_fits : (code : ℕ) (kind : OtsType) (id seed : List ℕ) → IsBytes (tree_bytes code kind id seed) → IsBytes seed
seed_fits code kind id seed h = fits_behind id seed (λ i. h (suc (suc i)))

tree_is : (levels code : ℕ) (kind : OtsType) (id seed : List ℕ) → IsTree levels code kind id seed → IsBytes (tree_bytes code kind id seed)
    → tree_at (map plain (tree_tokens code kind id seed)) ≡ Ok (tree_bytes code kind id seed)
tree_is levels code kind id seed fits h =
    tree_again code (ots_typecode kind) id seed (code_low levels code fits.0) (kind_low kind) fits.2 fits.3 (id_fits code kind id seed h)
    (seed_fits code kind id seed h)

levels_again : (levels code : ℕ) (kind : OtsType) (id seed : List ℕ) → levels_in_range levels ≡ true → IsTree levels code kind id seed
    → IsBytes (tree_bytes code kind id seed)
    → levels_at (decimal levels ∷ map plain (tree_tokens code kind id seed)) ≡ Ok (levels ∷ tree_bytes code kind id seed)
unfolding levels_at
levels_again levels code kind id seed range fits h =
    let low = levels_low levels range in
    rw (
      number_again expected.Process 0 255 levels (map plain (tree_tokens code kind id seed)) (omega arith) low (omega (arith, low)),
      tree_is levels code kind id seed fits h,
    ) refl

-- the tokens of a key behind the scheme's word
abbrev behind_scheme : ℕ → Key → List Token
behind_scheme p (Plain key total) = plain_tokens p key ++ number total ∷ []
behind_scheme p (Lms code kind id seed) = tree_tokens code kind id seed
behind_scheme p (Hss levels code kind id seed) = number levels ∷ tree_tokens code kind id seed

key_said : (scheme : Scheme) (p : ℕ) (key : Key) → IsKey scheme key → key_tokens p key ≡ Word (scheme_word scheme) ∷ behind_scheme p key
key_said schemes.Plain p (Plain key total) fits = refl
key_said schemes.Lms p (Lms code kind id seed) fits = refl
key_said schemes.Hss p (Hss levels code kind id seed) fits = refl
key_said schemes.Plain p (Lms code kind id seed) fits = absurd fits
key_said schemes.Plain p (Hss levels code kind id seed) fits = absurd fits
key_said schemes.Lms p (Plain key total) fits = absurd fits
key_said schemes.Lms p (Hss levels code kind id seed) fits = absurd fits
key_said schemes.Hss p (Plain key total) fits = absurd fits
key_said schemes.Hss p (Lms code kind id seed) fits = absurd fits

key_again : (scheme : Scheme) (p : ℕ) (key : Key) → IsKey scheme key → IsBytes (key_bytes key)
    → key_at scheme p (map plain (behind_scheme p key)) ≡ Ok (key_bytes key)
key_again schemes.Plain p (Plain key total) fits h = plain_by p key total (same_bytes key (short_key p)) refl fits.0 fits.1
    (fits_front key (four_bytes total) h)
key_again schemes.Lms p (Lms code kind id seed) fits h = tree_is 1 code kind id seed fits h
key_again schemes.Hss p (Hss levels code kind id seed) fits h = levels_again levels code kind id seed fits.0 fits.1 (λ i. h (suc i))
key_again schemes.Plain p (Lms code kind id seed) fits h = absurd fits
key_again schemes.Plain p (Hss levels code kind id seed) fits h = absurd fits
key_again schemes.Lms p (Plain key total) fits h = absurd fits
key_again schemes.Lms p (Hss levels code kind id seed) fits h = absurd fits
key_again schemes.Hss p (Plain key total) fits h = absurd fits
key_again schemes.Hss p (Lms code kind id seed) fits h = absurd fits

-- ---- processes

role_again : (corrupt : Bool) → role_of_word (role_word corrupt) ≡ Some (role_byte corrupt)
role_again true = refl
role_again false = refl

scheme_same : (scheme : Scheme) → same_bytes (scheme_word scheme) (scheme_word scheme) ≡ true
scheme_same schemes.Plain = refl
scheme_same schemes.Lms = refl
scheme_same schemes.Hss = refl

abbrev Step : Type 0
Step = Result (List ℕ) Expected

listed_of : (scheme : Scheme) (l : Listed) → l.process ≤ 63 → IsKey scheme l.key → IsBytes (listed_bytes l)
    → listed_at scheme (decimal l.process ∷ role_word l.corrupt ∷ scheme_word scheme ∷ map plain (behind_scheme l.process l.key))
    ≡ Ok (listed_bytes l)
unfolding listed_at
listed_of scheme l low key h =
    rw (
      process_again expected.Process l.process (role_word l.corrupt ∷ scheme_word scheme ∷ map plain (behind_scheme l.process l.key)) low,
      role_again l.corrupt,
      scheme_same scheme,
      key_again scheme l.process l.key key (λ i. h (suc (suc i))),
    ) refl

pub listed_again : (scheme : Scheme) (l : Listed) → l.process ≤ 63 → IsKey scheme l.key → IsBytes (listed_bytes l)
    → listed_at scheme (decimal l.process ∷ role_word l.corrupt ∷ map plain (key_tokens l.process l.key)) ≡ Ok (listed_bytes l)
listed_again scheme l low key h =
    ap (λ (ts : List Token). listed_at scheme (decimal l.process ∷ role_word l.corrupt ∷ map plain ts))
    (key_said scheme l.process l.key key) ∙ listed_of scheme l low key h

role_is : (corrupt : Bool) → IsWord (role_word corrupt)
role_is true = inr refl
role_is false = inr refl

tree_are : (levels code : ℕ) (kind : OtsType) (id seed : List ℕ) → IsTree levels code kind id seed
    → AreTokens (tree_tokens code kind id seed)
tree_are levels code kind id seed fits = (
  number_is code (omega (arith, code_low levels code fits.0)),
  (number_is (ots_typecode kind) (omega (arith, kind_low kind)), (tt, (tt, tt))),
)

plain_are_by : (key : List ℕ) (total : ℕ) (short : Bool) → total < 2 ^ 32
    → AreTokens ((if short then [] else Bytes key ∷ []) ++ number total ∷ [])
plain_are_by key total true small = (number_is total (omega (arith, small)), tt)
plain_are_by key total false small = (tt, (number_is total (omega (arith, small)), tt))

key_are : (scheme : Scheme) (p : ℕ) (key : Key) → IsKey scheme key → AreTokens (key_tokens p key)
key_are schemes.Plain p (Plain key total) fits = (inr refl, plain_are_by key total (same_bytes key (short_key p)) fits.1)
key_are schemes.Lms p (Lms code kind id seed) fits = (inr refl, tree_are 1 code kind id seed fits)
key_are schemes.Hss p (Hss levels code kind id seed) fits = (
  inr refl,
  (number_is levels (omega (arith, levels_low levels fits.0)), tree_are levels code kind id seed fits.1),
)
key_are schemes.Plain p (Lms code kind id seed) fits = absurd fits
key_are schemes.Plain p (Hss levels code kind id seed) fits = absurd fits
key_are schemes.Lms p (Plain key total) fits = absurd fits
key_are schemes.Lms p (Hss levels code kind id seed) fits = absurd fits
key_are schemes.Hss p (Plain key total) fits = absurd fits
key_are schemes.Hss p (Lms code kind id seed) fits = absurd fits

pub listed_are : (scheme : Scheme) (l : Listed) → l.process ≤ 63 → IsKey scheme l.key → AreTokens (listed_tokens l)
listed_are scheme l low key = (
  inr refl,
  (number_is l.process (omega (arith, low)), (role_is l.corrupt, key_are scheme l.process l.key key)),
)

-- ---- the first view

abbrev by_word : List ℕ → Words → Option ℕ → Step
by_word before words o = elim o [ None ↦ Err expected.Genesis | Some p ↦ members_behind (before ++ p ∷ []) words ]

member_first : (before word : List ℕ) (words : Words) → members_behind before (word ∷ words) ≡ by_word before words (process_of word)
unfolding members_behind
member_first before word words = refl

none_behind : (before : List ℕ) → members_behind before [] ≡ Ok before
unfolding members_behind
none_behind before = refl

members_again : (before ms : List ℕ) → AllByRecursion (λ m. m ≤ 63) ms → members_behind before (map decimal ms) ≡ Ok (before ++ ms)
members_again before [] few = none_behind before ∙ ap done (sym (append-nil before))
members_again before (m ∷ ms) few =
    member_first before (decimal m) (map decimal ms)
    ∙ ap (by_word before (map decimal ms)) (number_within_spelled 0 63 m (omega arith) few.0 (omega (arith, few.0)))
    ∙ members_again (before ++ m ∷ []) ms few.1 ∙ ap done (append_assoc before (m ∷ []) ms)

pub genesis_again : (ms : List ℕ) → AllByRecursion (λ m. m ≤ 63) ms → length ms ≤ 16
    → genesis_at (map plain (numbers ms)) ≡ Ok (length ms ∷ ms)
unfolding genesis_at
genesis_again ms few most = ap genesis_at (plain_numbers ms) ∙ rw (members_again [] ms few, le-leb (length ms) 16 most) refl

pub genesis_are : (ms : List ℕ) → AllByRecursion (λ m. m ≤ 63) ms → AreTokens (genesis_tokens ms)
genesis_are ms few = (inr refl, numbers_are ms few)
