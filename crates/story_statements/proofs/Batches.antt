-- The messages of a batch, taken one after another.
use Rattle.std.proofs.Common.{◌≡◌, ℕ, zero, suc, ◌+◌, ◌-◌, ◌<◌, ◌≤◌, ◌==◌, Bool, true, false, true≢false, List, [], ◌∷◌, ◌++◌, length, length-append, Option, Some, None, Result, Ok, Err, refl, sym, ap, ◌∙◌, arith}
use Rattle.std.specs.List.{AllByRecursion}
use Rattle.std.specs.Option.{ok_or}
use Rattle.byte_defs.specs.Fields.{◌>>=◌}
use Rattle.byte_defs.specs.Reads.{Fails, Makes}
use Rattle.byte_defs.proofs.Fields.{bind_ok, ok_is}
use Rattle.message_defs.specs.Statements.{Message, Batch}
use Rattle.message_defs.specs.Spelling.{IsBatch, IsMessage}
use Rattle.text_defs.specs.Words.{number_within, process_of}
use Rattle.story_defs.specs.declared.Expected.{Expected}
use Rattle.story_defs.specs.declared.Expected.TheVariants.{Lie}
use Rattle.story_defs.specs.Words.{Words, said_at, number_at, process_at}
use Rattle.story_defs.specs.Statements.{message_at, messages_behind, batch_at}
use Rattle.story_lines.specs.declared.faults.LineFault.{LineFault}
use Rattle.story_lines.specs.declared.faults.LineFault.TheVariants as faults
use Rattle.story_lines.specs.Faults.{expected_of}

-- so many messages may still come
abbrev pub room : Batch → ℕ
room b = 16 - length b

abbrev pub Behind : Batch → Words → Result Batch Expected
Behind b words = messages_behind Lie (room b) b words

step : (n : ℕ) (b : Batch) (words : Words) → (length words == 0) ≡ false
    → messages_behind Lie (suc n) b words ≡ (message_at Lie words >>= λ m. messages_behind Lie n (b ++ m.0 ∷ []) m.1)
unfolding messages_behind
step n b [] some = absurd (true≢false some)
step n b (word ∷ words) some = refl

roomy : (b : Batch) (m : Message) → length b < 16 → room b ≡ suc (room (b ++ m ∷ []))
roomy b m few = omega (arith, few, length-append b (m ∷ []))

next_room : (b : Batch) → length b < 16 → room b ≡ suc (15 - length b)
next_room b few = omega (arith, few)

ended : (n : ℕ) (b : Batch) (words : Words) → (length words == 0) ≡ true → messages_behind Lie n b words ≡ Ok b
unfolding messages_behind
ended n b [] e = refl
ended n b (w ∷ ws) e = absurd (grind (arith, e))

too_many : (b : Batch) (words : Words) → (length words == 0) ≡ false → messages_behind Lie 0 b words ≡ Err Lie
unfolding messages_behind
too_many b [] e = absurd (true≢false e)
too_many b (w ∷ ws) e = refl

module _ (b : Batch) (words : Words) (all : Result Batch Expected) (so_far : Behind b words ≡ all) where
  pub is_done : (length words == 0) ≡ true → all ≡ Ok b
  is_done none = sym so_far ∙ ended (room b) b words none

  pub is_full : (length words == 0) ≡ false → length b ≡ 16 → all ≡ Err Lie
  is_full some full = sym so_far ∙ ap (λ n. messages_behind Lie n b words) (omega (arith, full)) ∙ too_many b words some

  module _ (some : (length words == 0) ≡ false) (few : length b < 16) where
    from_here : (message_at Lie words >>= λ m. messages_behind Lie (15 - length b) (b ++ m.0 ∷ []) m.1) ≡ all
    from_here = sym (ap (λ n. messages_behind Lie n b words) (next_room b few) ∙ step (15 - length b) b words some) ∙ so_far

    pub goes_on : (m : Message) (rest : Words) → message_at Lie words ≡ Ok (m, rest) → Behind (b ++ m ∷ []) rest ≡ all
    goes_on m rest read =
        let left : room (b ++ m ∷ []) ≡ 15 - length b = omega (arith, few, length-append b (m ∷ [])) in
        ap (λ n. messages_behind Lie n (b ++ m ∷ []) rest) left
        ∙ sym (ap (λ r. r >>= λ t. messages_behind Lie (15 - length b) (b ++ t.0 ∷ []) t.1) read) ∙ from_here

    pub fails : (e : LineFault) → Fails expected_of e (message_at Lie words) → Fails expected_of e all
    fails faults.NoMemory bad = tt
    fails (faults.Expected x) bad = sym from_here ∙ ap (λ r. r >>= λ t. messages_behind Lie (15 - length b) (b ++ t.0 ∷ []) t.1) bad

-- ---- the range

pushed : (b : Batch) (m : Message) → AllByRecursion IsMessage b → IsMessage m → AllByRecursion IsMessage (b ++ m ∷ [])
pushed [] m each is = (is, tt)
pushed (n ∷ b) m each is = (each.0, pushed b m each.1 is)

pub one_more : (b : Batch) (m : Message) → IsBatch b → length b < 16 → IsMessage m → IsBatch (b ++ m ∷ [])
one_more b m batch few is = record {
  some = omega (arith, length-append b (m ∷ []));
  few = omega (arith, few, length-append b (m ∷ []));
  each = pushed b m batch.each is;
}

pub only_one : (m : Message) → IsMessage m → IsBatch (m ∷ [])
only_one m is = record { some = omega arith; few = omega arith; each = (is, tt) }

pub under : (b : Batch) → IsBatch b → (length b == 16) ≡ false → length b < 16
under b batch other = grind (arith, batch.few, other)

-- ---- the first message, and the words that a message takes

pub begins : (b : Batch) (m : Message) (words rest : Words) → b ≡ m ∷ [] → message_at Lie words ≡ Ok (m, rest)
    → Behind b rest ≡ batch_at Lie words
unfolding batch_at
begins b m words rest is read = ap (λ (x : Batch). Behind x rest) is ∙ sym (ap (λ r. r >>= λ t. messages_behind Lie 15 (t.0 ∷ []) t.1) read)

-- a value, and the words after it
abbrev behind : {A : Type 0} → Words → A → Result (A × Words) Expected
behind words a = Ok (a, words)

taken_by : {A : Type 0} (o : Option A) (words : Words) (x : A × Words) → (ok_or o Lie >>= behind words) ≡ Ok x → words ≡ x.1
taken_by None words x e = absurd cc
taken_by {A} (Some a) words x e = let made : A × Words = (a, words) in ap (λ (y : A × Words). y.1) (ok_is made x e)

taken : {A : Type 0} (says : List ℕ → Option A) (words : Words) (x : A × Words) → said_at Lie says words ≡ Ok x
    → length words ≡ suc (length x.1)
taken says [] x e = absurd cc
taken says (word ∷ words) x e = ap (λ (ws : Words). suc (length ws)) (taken_by (says word) words x e)

pub shrinks : (words : Words) (m : Message) (rest : Words) → message_at Lie words ≡ Ok (m, rest) → length rest < length words
unfolding message_at
shrinks words m rest e =
    let all : Message × Words = (m, rest) in
    let sender = bind_ok (process_at Lie words) _ all e in
    let number = bind_ok (number_at Lie 0 1023 sender.0.1) _ all sender.2 in
    let first = taken process_of words sender.0 sender.1 in
    let second = taken (number_within 0 1023) sender.0.1 number.0 number.1 in
    let made : Message × Words = (record { sender = sender.0.0; number = number.0.0 }, number.0.1) in
    let same = ap (λ (y : Message × Words). length y.1) (ok_is made all number.2) in
    omega (arith, first, second, same)
