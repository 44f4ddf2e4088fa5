-- A command is read of the words that spell it, and of no others.
use Rattle.std.proofs.Common.{◌≡◌, ◌≤◌, ℕ, Bool, true, false, ◌==◌, List, [], ◌∷◌, length, map, codes, Option, Some, None, IfSome, option_map, refl, sym, ap, subst, ◌∙◌, arith}
use Rattle.std.specs.Prelude.{if◌then◌else◌}
use Rattle.std.specs.Fmt.{decimal}
use Rattle.std.proofs.lemmas.Bool.{eqb-true}
use Rattle.byte_defs.specs.Equality.{same_bytes}
use Rattle.text_defs.proofs.Choosing.{if_some, map_some, some_is}
use Rattle.text_defs.proofs.Numbers.{number_within_found, number_within_spelled}
use Rattle.text_defs.proofs.Tests.{word_is}
use Rattle.command_line.specs.Commands.{AreListed, Audit}
use Rattle.command_line.specs.Laws.{CommandIsSpelled}
use Rattle.command_line.specs.Reading.{listed_of}
use Rattle.witness_cli.specs.declared.commands.Command as code
use Rattle.witness_cli.specs.declared.commands.Command.TheVariants as asked
use Rattle.witness_cli.specs.Commands.{AsksBy, Chain, Command, Convict, Judge, Proofs, alone_of, command, command_of, one_process}

module _ (law : CommandIsSpelled) where
  -- the processes of an audit are read of the words that spell them, and of no others
  tail-is : (xs ys : List (List ℕ)) → codes "audit" ∷ xs ≡ codes "audit" ∷ ys → xs ≡ ys
  tail-is xs ys e = cc

  listed-found : (words : List (List ℕ)) (listed : List ℕ) → listed_of words ≡ Some listed → (words ≡ map decimal listed) × AreListed listed
  listed-found words listed e =
      let asks = (law (codes "audit" ∷ words) (Audit listed)).0 (ap (option_map Audit) e) in
      (tail-is words (map decimal listed) asks.spelled, asks.fits)

  audit-is : (a b : List ℕ) → Audit a ≡ Audit b → a ≡ b
  audit-is a b e = cc

  listed-spelled : (listed : List ℕ) → AreListed listed → listed_of (map decimal listed) ≡ Some listed
  listed-spelled listed are =
      let e = (law (codes "audit" ∷ map decimal listed) (Audit listed)).1 (record { fits = are; spelled = refl }) in
      let read = map_some Audit (listed_of (map decimal listed)) (Audit listed) e in
      read.1 ∙ ap (λ (ps : List ℕ). let o : Option (List ℕ) = Some ps in o) (audit-is read.0 listed read.2)

  empty-is : (xs : List (List ℕ)) → length xs ≡ 0 → xs ≡ []
  empty-is [] e = refl
  empty-is (x ∷ xs) e = absurd (omega (arith, e))

  process-found : (words : List (List ℕ)) (p : ℕ) → one_process words ≡ Some p → (words ≡ decimal p ∷ []) × (p ≤ 63)
  process-found [] p e = absurd cc
  process-found (word ∷ []) p e =
      let is = number_within_found 0 63 word p e in
      (ap (λ (w : List ℕ). w ∷ []) is.0, is.2)
  process-found (word ∷ next ∷ words) p e = absurd cc

  alone-found : (word : List ℕ) (further : List (List ℕ)) (c : Command) → further ≡ [] → alone_of word ≡ Some c → AsksBy (word ∷ further) c
  alone-found word further c none e = judges (same_bytes word (codes "judge")) refl e
    where
      chains : (is : Bool) → same_bytes word (codes "chain") ≡ is → (if is then Some Chain else None) ≡ Some c → AsksBy (word ∷ further) c
      chains true is e = subst (AsksBy (word ∷ further)) (some_is Chain c e)
          (record { fits = tt; spelled = λ i. word_is word (codes "chain") is i ∷ none i })
      chains false is e = absurd cc

      judges : (is : Bool) → same_bytes word (codes "judge") ≡ is
          → (if is then Some Judge else (if same_bytes word (codes "chain") then Some Chain else None)) ≡ Some c → AsksBy (word ∷ further) c
      judges true is e = subst (AsksBy (word ∷ further)) (some_is Judge c e)
          (record { fits = tt; spelled = λ i. word_is word (codes "judge") is i ∷ none i })
      judges false is e = chains (same_bytes word (codes "chain")) refl e

  found : (words : List (List ℕ)) (c : Command) → command_of words ≡ Some c → AsksBy words c
  found [] c e = absurd cc
  found (word ∷ further) c e = of (same_bytes word (codes "convict")) refl e
    where
      by-alone : Option Command
      by-alone = if length further == 0 then alone_of word else None

      alones : by-alone ≡ Some c → AsksBy (word ∷ further) c
      alones e =
          let tested = if_some (length further == 0) (alone_of word) c e in
          alone-found word further c (empty-is further (eqb-true (length further) 0 tested.0)) tested.1

      proves : (is : Bool) → same_bytes word (codes "proofs") ≡ is
          → (if is then option_map Proofs (one_process further) else by-alone) ≡ Some c → AsksBy (word ∷ further) c
      proves true is e =
          let read = map_some Proofs (one_process further) c e in
          let one = process-found further read.0 read.1 in
          subst (AsksBy (word ∷ further)) read.2
          (record { fits = one.1; spelled = λ i. word_is word (codes "proofs") is i ∷ one.0 i })
      proves false is e = alones e

      others : Option Command
      others = if same_bytes word (codes "proofs") then option_map Proofs (one_process further) else by-alone

      of : (is : Bool) → same_bytes word (codes "convict") ≡ is
          → (if is then option_map Convict (listed_of further) else
          others) ≡ Some c → AsksBy (word ∷ further) c
      of true is e =
          let read = map_some Convict (listed_of further) c e in
          let listed = listed-found further read.0 read.1 in
          subst (AsksBy (word ∷ further)) read.2
          (record { fits = listed.1; spelled = λ i. word_is word (codes "convict") is i ∷ listed.0 i })
      of false is e = proves (same_bytes word (codes "proofs")) refl e

  spelled : (c : Command) (words : List (List ℕ)) → AsksBy words c → command_of words ≡ Some c
  spelled (Convict listed) words asks = ap command_of asks.spelled ∙ ap (option_map Convict) (listed-spelled listed asks.fits)
  spelled (Proofs p) words asks = ap command_of asks.spelled
      ∙ ap (option_map Proofs) (number_within_spelled 0 63 p (omega arith) asks.fits (let few = asks.fits in omega (arith, few)))
  spelled Judge words asks = ap command_of asks.spelled
  spelled Chain words asks = ap command_of asks.spelled

  -- ---- what a reader promises

  pub asks-of : {C : Type 0} (view : C → Command) (words : List (List ℕ)) (o : Option C) → option_map view o ≡ command_of words
      → IfSome o (λ c. AsksBy words (view c))
  asks-of view words None e = tt
  asks-of view words (Some c) e = found words (view c) (sym e)

  pub asked-only : (words : List (List ℕ)) (o : Option Command) → o ≡ command_of words → (c : Command) → AsksBy words c → o ≡ Some c
  asked-only words o e c asks = e ∙ spelled c words asks

-- ---- what was asked is what was read

pub never : {P : Type 0} (c : Command) → (let o : Option Command = None in o) ≡ Some c → P
never c e = absurd cc

convict-is : (l m : List ℕ) → Convict l ≡ Convict m → l ≡ m
convict-is l m e = cc

pub same-listed : (c : code.Command) (l m : List ℕ) → c ≡ asked.Convict l → option_map command (Some c) ≡ Some (Convict m) → l ≡ m
same-listed c l m is e =
    convict-is l m (some_is (Convict l) (Convict m)
    (sym (ap (λ (x : code.Command). let o : Option Command = Some (command x) in o) is) ∙ e))

proofs-is : (p q : ℕ) → Proofs p ≡ Proofs q → p ≡ q
proofs-is p q e = cc

pub same-process : (c : code.Command) (p q : ℕ) → c ≡ asked.Proofs p → option_map command (Some c) ≡ Some (Proofs q) → p ≡ q
same-process c p q is e =
    proofs-is p q (some_is (Proofs p) (Proofs q)
    (sym (ap (λ (x : code.Command). let o : Option Command = Some (command x) in o) is) ∙ e))
