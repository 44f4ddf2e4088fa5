-- Which command the words are, by its number.
use Rattle.std.proofs.Common.{◌≡◌, ◌≢◌, ℕ, ◌≤◌, true, false, List, [], ◌∷◌, get_or, String, refl, sym, ap, subst, ◌∙◌, arith, zero, suc}
use Rattle.std.specs.Prelude.{map, string_bytes}
use Rattle.std.specs.declared.alloc.Global.{Global}
use Rattle.story_cli.specs.declared.commands.Command.{Command}
use Rattle.story_cli.specs.declared.commands.Command.TheVariants.{Assemble, Text, Run, Draw}
use Rattle.story_cli.specs.Top.{AskAny, Asks, command_word, takes_as_story}
use Rattle.page.specs.Answers.{number_of}

-- each number below four is a command's
command_at : (n : ℕ) → n ≤ 3 → (c : Command) × (number_of c ≡ n)
command_at zero few = (Assemble, refl)
command_at (suc zero) few = (Text, refl)
command_at (suc (suc zero)) few = (Run, refl)
command_at (suc (suc (suc zero))) few = (Draw, refl)
command_at (suc (suc (suc (suc n)))) few = absurd (omega (arith, few))

-- the command with this number, for whose words the call was made
asked_at : (number : ℕ) (given words : List (String Global)) → number ≤ 3 → given ≡ words
    → ((c : Command) → number_of c ≡ number → Asks words c) → (c : Command) × (number_of c ≡ number) × Asks given c
asked_at number given words few same asks =
    let at = command_at number few in
    (at.0, at.1, subst (λ (w : List (String Global)). Asks w at.0) (sym same) (asks at.0 at.1))

pub never_words : (status number : ℕ) (given words : List (String Global)) → number ≤ 3 → given ≡ words
    → ((c : Command) → number_of c ≡ number → Asks words c) → (status ≡ 2 → ¬ AskAny given) → ¬ (status ≡ 2)
never_words status number given words few same asks none two =
    let at = asked_at number given words few same asks in
    none two (at.0, at.2)

-- words of which the first differ in their first letter are not the same
first_letters : (a b : List ℕ) (rest others : List (List ℕ)) → a ∷ rest ≡ b ∷ others → get_or a 0 0 ≡ get_or b 0 0
first_letters a b rest others same = ap (λ (ws : List (List ℕ)). get_or (get_or ws 0 []) 0 0) same

-- the command that the words ask for is the one with the number
same_number : (c a : Command) (words : List (List ℕ)) → words ≡ command_word c ∷ [] → words ≡ command_word a ∷ [] → c ≡ a
same_number Assemble Assemble words is asked = refl
same_number Text Text words is asked = refl
same_number Run Run words is asked = refl
same_number Draw Draw words is asked = refl
same_number Assemble Text words is asked = absurd (omega (arith, first_letters _ _ _ _ (sym is ∙ asked)))
same_number Assemble Run words is asked = absurd (omega (arith, first_letters _ _ _ _ (sym is ∙ asked)))
same_number Assemble Draw words is asked = absurd (omega (arith, first_letters _ _ _ _ (sym is ∙ asked)))
same_number Text Assemble words is asked = absurd (omega (arith, first_letters _ _ _ _ (sym is ∙ asked)))
same_number Text Run words is asked = absurd (omega (arith, first_letters _ _ _ _ (sym is ∙ asked)))
same_number Text Draw words is asked = absurd (omega (arith, first_letters _ _ _ _ (sym is ∙ asked)))
same_number Run Assemble words is asked = absurd (omega (arith, first_letters _ _ _ _ (sym is ∙ asked)))
same_number Run Text words is asked = absurd (omega (arith, first_letters _ _ _ _ (sym is ∙ asked)))
same_number Run Draw words is asked = absurd (omega (arith, first_letters _ _ _ _ (sym is ∙ asked)))
same_number Draw Assemble words is asked = absurd (omega (arith, first_letters _ _ _ _ (sym is ∙ asked)))
same_number Draw Text words is asked = absurd (omega (arith, first_letters _ _ _ _ (sym is ∙ asked)))
same_number Draw Run words is asked = absurd (omega (arith, first_letters _ _ _ _ (sym is ∙ asked)))

-- `text` takes nothing as a story
no_text : (c : Command) (input : List ℕ) → takes_as_story c input ≡ true → number_of c ≢ 1
no_text Assemble input takes is = absurd (omega (arith, is))
no_text Text input takes is = absurd cc
no_text Run input takes is = absurd (omega (arith, is))
no_text Draw input takes is = absurd (omega (arith, is))

-- `assemble` takes nothing as a schedule
no_assemble : (c : Command) (input : List ℕ) → takes_as_story c input ≡ false → 1 ≤ number_of c
no_assemble Assemble input takes = absurd cc
no_assemble Text input takes = omega arith
no_assemble Run input takes = omega arith
no_assemble Draw input takes = omega arith

-- the number is that of each command that the words ask for
number_is : (number : ℕ) (given words : List (String Global)) → number ≤ 3 → given ≡ words
    → ((c : Command) → number_of c ≡ number → Asks words c) → (a : Command) → Asks given a → number_of a ≡ number
number_is number given words few same asks a asked =
    let at = asked_at number given words few same asks in
    ap number_of (sym (same_number at.0 a (map string_bytes given) at.2 asked)) ∙ at.1

pub assembles_at : (number : ℕ) (given words : List (String Global)) (input : List ℕ) → number ≤ 3 → given ≡ words
    → ((c : Command) → number_of c ≡ number → Asks words c)
    → (a : Command) × Asks given a × (takes_as_story a input ≡ true) → number ≢ 1
assembles_at number given words input few same asks a one =
    no_text a.0 input a.2 (number_is number given words few same asks a.0 a.1 ∙ one)

pub reads_at : (number : ℕ) (given words : List (String Global)) (input : List ℕ) → number ≤ 3 → given ≡ words
    → ((c : Command) → number_of c ≡ number → Asks words c)
    → (a : Command) × Asks given a × (takes_as_story a input ≡ false) → 1 ≤ number
reads_at number given words input few same asks a =
    let least = no_assemble a.0 input a.2 in
    omega (arith, least, number_is number given words few same asks a.0 a.1)
