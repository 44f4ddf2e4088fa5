-- The line of a view is short: a line that is longer than one with a proof may be begins no chain.
use Rattle.std.proofs.Common.{◌≡◌, ℕ, ◌+◌, ◌*◌, ◌<◌, ◌≤◌, List, [], ◌∷◌, ◌++◌, length, codes, Option, Some, None, refl, sym, ap, subst, arith, length-append}
use Rattle.std.specs.Prelude.{if◌then◌else◌, ◌&&◌, nat_le, option_map}
use Rattle.std.specs.List.{join_with_byte, list_all}
use Rattle.std.proofs.lemmas.Bool.{leb-true}
use Rattle.std.proofs.lemmas.Fmt.{length-decimal-le}
use Rattle.byte_defs.specs.Equality.{same_bytes}
use Rattle.byte_defs.specs.Members.{has}
use Rattle.text_defs.specs.Words.{number_within, process_of, space, words_of}
use Rattle.text_defs.proofs.Choosing.{if_some, map_some, then_some, unless_some}
use Rattle.text_defs.proofs.Lines.{join_words_of}
use Rattle.text_defs.proofs.Numbers.{number_within_found}
use Rattle.text_defs.proofs.Tests.{and_true, word_is}
use Rattle.kit_defs.specs.KitReading.{members_by}
use Rattle.group_defs.specs.Views.{View}
use Rattle.group_defs.specs.Process.{Setting, keyed}
use Rattle.store_defs.specs.Asking.{view_by, view_of_words}
use Rattle.chain_text_defs.specs.Chains.{most_proof_line}
use Rattle.proof_defs.specs.Starts.{if_keyed, start_by, start_in}

-- how many bytes words have at most with a space after each
abbrev size : List (List ℕ) → ℕ
size [] = 0
size (word ∷ words) = length word + 1 + size words

joined-size : (words : List (List ℕ)) → length (join_with_byte space words) ≤ size words
joined-size [] = omega arith
joined-size (word ∷ []) =
    let one : length (join_with_byte space (word ∷ [])) ≡ length word = refl in
    omega (arith, one)
joined-size (word ∷ next ∷ words) =
    let rest = joined-size (next ∷ words) in
    let two : length (join_with_byte space (word ∷ next ∷ words)) ≡ length (word ++ space ∷ join_with_byte space (next ∷ words)) = refl in
    omega (arith, rest, two, length-append word (space ∷ join_with_byte space (next ∷ words)))

short-process : (word : List ℕ) (p : ℕ) → process_of word ≡ Some p → length word ≤ 2
short-process word p e =
    let is = number_within_found 0 63 word p e in
    let few = is.2 in
    subst (λ (w : List ℕ). length w ≤ 2) (sym is.0) (length-decimal-le 2 p (omega arith) (omega (arith, few)) (omega (arith, few)))

short-count : (word : List ℕ) (x : ℕ) → number_within 0 1023 word ≡ Some x → length word ≤ 4
short-count word x e =
    let is = number_within_found 0 1023 word x e in
    let few = is.2 in
    subst (λ (w : List ℕ). length w ≤ 4) (sym is.0) (length-decimal-le 4 x (omega arith) (omega (arith, few)) (omega (arith, few)))

members-size : (before members : List ℕ) (words : List (List ℕ)) → members_by before words ≡ Some members → size words ≤ 3 * length words
unfolding members_by
members-size before members [] e = omega arith
members-size before members (word ∷ words) e =
    let first = then_some (λ p. if has before p then None else members_by (before ++ p ∷ []) words) (process_of word) members e in
    let new = unless_some (has before first.0) (members_by (before ++ first.0 ∷ []) words) members first.2 in
    let rest = members-size (before ++ first.0 ∷ []) members words new.1 in
    let short = short-process word first.0 first.1 in
    omega (arith, rest, short)

numbered-size : (number : List ℕ) (words : List (List ℕ)) (v : View) → view_of_words number words ≡ Some v → length number + size words ≤ 52
numbered-size number words v e =
    let x = then_some (λ n. if nat_le 1 (length words) && nat_le (length words) 16
    then option_map (λ ms. let u : View = record { number = n; members = ms } in u) (members_by [] words) else None)
    (number_within 0 1023 number) v e in
    let tested = if_some (nat_le 1 (length words) && nat_le (length words) 16)
    (option_map (λ ms. let u : View = record { number = x.0; members = ms } in u) (members_by [] words)) v x.2 in
    let both = and_true (nat_le 1 (length words)) (nat_le (length words) 16) tested.0 in
    let read = map_some (λ ms. let u : View = record { number = x.0; members = ms } in u) (members_by [] words) v tested.1 in
    let all = members-size [] read.0 words read.1 in
    let count = short-count number x.0 x.1 in
    let few = leb-true (length words) 16 both.1 in
    omega (arith, all, count, few)

view-size : (words : List (List ℕ)) (v : View) → view_by words ≡ Some v → size words ≤ 60
view-size [] v e = absurd cc
view-size (number ∷ []) v e = absurd cc
view-size (number ∷ colon ∷ words) v e =
    let tested = if_some (same_bytes colon (codes ":")) (view_of_words number words) v e in
    let one : length colon ≡ 1 = ap length (word_is colon (codes ":") tested.0) in
    let rest = numbered-size number words v tested.1 in
    omega (arith, one, rest)

keyed-some : (s : Setting) (o : Option View) (v : View) → if_keyed s o ≡ Some v → o ≡ Some v
keyed-some s None v e = absurd cc
keyed-some s (Some u) v e = (if_some (list_all (has (keyed s)) u.members) (Some u) v e).1

start-size : (s : Setting) (words : List (List ℕ)) (v : View) → start_by s words ≡ Some v → size words ≤ 65
start-size s [] v e = absurd cc
start-size s (word ∷ words) v e =
    let tested = if_some (same_bytes word (codes "view")) (if_keyed s (view_by words)) v e in
    let four : length word ≡ 4 = ap length (word_is word (codes "view") tested.0) in
    let rest = view-size words v (keyed-some s (view_by words) v tested.1) in
    omega (arith, four, rest)

pub start-is-short : (s : Setting) (line : List ℕ) (v : View) → start_in s line ≡ Some v → length line ≤ 65
unfolding start_in
start-is-short s line v e =
    let all = start-size s (words_of line) v e in
    let joined = joined-size (words_of line) in
    subst (λ (t : List ℕ). length t ≤ 65) (join_words_of line) (omega (arith, all, joined))

pub long-starts-none : (s : Setting) (line : List ℕ) → most_proof_line < length line → start_in s line ≡ None
long-starts-none s line long = of (start_in s line) refl
  where
    of : (o : Option View) → start_in s line ≡ o → o ≡ None
    of None e = refl
    of (Some v) e = let short = start-is-short s line v e in absurd (omega (arith, short, long))
