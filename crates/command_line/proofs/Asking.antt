-- A command is read of the words that spell it, and of no others.
use Rattle.std.proofs.Common.{◌≡◌, ℕ, Bool, true, false, ◌-◌, ◌^◌, ◌<◌, List, [], ◌∷◌, codes, map, Option, Some, None, IfSome, option_map, refl, sym, ap, subst, ◌∙◌, arith}
use Rattle.std.specs.Prelude.{if◌then◌else◌, ◌&&◌}
use Rattle.std.specs.Fmt.{decimal}
use Rattle.hex.specs.Hex.{encode_lower}
use Rattle.byte_defs.specs.Equality.{same_bytes}
use Rattle.kit_defs.specs.declared.KeyPlan.{KeyPlan}
use Rattle.text_defs.specs.Words.{bytes_of, number_within}
use Rattle.text_defs.proofs.Bytes.{bytes_found, bytes_spelled}
use Rattle.text_defs.proofs.Choosing.{if_some, map_some, some_is, then_some}
use Rattle.text_defs.proofs.Numbers.{number_within_found, number_within_spelled}
use Rattle.text_defs.proofs.Tests.{word_is, and_true}
use Rattle.command_line.specs.Commands.{Asks, Command, Replay, Chain, Gen, Keygen, Node, Resume, Guard, Serve, Ask, Audit, IsOrder, KitOrder, plan_word}
use Rattle.command_line.specs.Laws.{CommandIsSpelled}
use Rattle.command_line.specs.Reading.{command_of, hosting_of, listed_of, order_of, other_of, payload_of, plan_of}
use Rattle.command_line.proofs.RisingNumbers.{listed_found, listed_spelled}
use Rattle.command_line.proofs.PayloadWords.{payload_found, payload_spelled}
use Rattle.command_line.proofs.Plans.{plan_found, plan_spelled}

-- ---- orders

abbrev order_words : KitOrder → List (List ℕ)
order_words order = decimal order.members ∷ decimal order.roster ∷ plan_word order.keys ∷ encode_lower order.seed ∷ []

-- an order whose seed is not read yet
abbrev with_seed : ℕ → ℕ → KeyPlan → List ℕ → KitOrder
with_seed n r plan s = record { members = n; roster = r; keys = plan; seed = s }

order_found : (members roster keys seed : List ℕ) (order : KitOrder) → order_of members roster keys seed ≡ Some order
    → (members ∷ roster ∷ keys ∷ seed ∷ [] ≡ order_words order) × IsOrder order
order_found members roster keys seed order e =
    let n = then_some _ (number_within 1 16 members) order e in
    let r = then_some _ (number_within n.0 64 roster) order n.2 in
    let k = then_some _ (plan_of keys) order r.2 in
    let s = map_some (with_seed n.0 r.0 k.0) (bytes_of 32 seed) order k.2 in
    let n_is = number_within_found 1 16 members n.0 n.1 in
    let r_is = number_within_found n.0 64 roster r.0 r.1 in
    let k_is = plan_found keys k.0 k.1 in
    let s_is = bytes_found 32 seed s.0 s.1 in
    subst (λ o. (members ∷ roster ∷ keys ∷ seed ∷ [] ≡ order_words o) × IsOrder o) s.2 (
      (λ i. n_is.0 i ∷ r_is.0 i ∷ k_is.0 i ∷ s_is.0 i ∷ []),
      record { some = n_is.1; few = n_is.2; within = r_is.1; most = r_is.2; keys = k_is.1; seed = s_is.1 },
    )

order_spelled : (order : KitOrder) → IsOrder order
    → order_of (decimal order.members) (decimal order.roster) (plan_word order.keys) (encode_lower order.seed) ≡ Some order
order_spelled order fits =
    let members = number_within_spelled 1 16 order.members fits.some fits.few (omega (arith, fits.few)) in
    let roster = number_within_spelled order.members 64 order.roster fits.within fits.most (omega (arith, fits.most)) in
    rw (members, roster, plan_spelled order.keys fits.keys, bytes_spelled 32 order.seed fits.seed) refl

-- ---- commands

hosting_found : (word file : List ℕ) (c : Command) → hosting_of word file ≡ Some c → Asks (word ∷ file ∷ []) c
hosting_found word file c e = of_node (same_bytes word (codes "node")) refl e
  where
    of_serve : (if same_bytes word (codes "serve") then Some (Serve file) else None) ≡ Some c → Asks (word ∷ file ∷ []) c
    of_serve e =
        let tested = if_some (same_bytes word (codes "serve")) (Some (Serve file)) c e in
        subst (Asks (word ∷ file ∷ [])) (some_is (Serve file) c tested.1)
        (record { fits = tt; spelled = λ i. word_is word (codes "serve") tested.0 i ∷ file ∷ [] })

    of_guard : (is_guard : Bool) → same_bytes word (codes "guard") ≡ is_guard
        → (if is_guard then Some (Guard file) else (if same_bytes word (codes "serve") then Some (Serve file) else None)) ≡ Some c
        → Asks (word ∷ file ∷ []) c
    of_guard true is e = subst (Asks (word ∷ file ∷ [])) (some_is (Guard file) c e)
        (record { fits = tt; spelled = λ i. word_is word (codes "guard") is i ∷ file ∷ [] })
    of_guard false is e = of_serve e

    of_resume : (is_resume : Bool) → same_bytes word (codes "resume") ≡ is_resume
        → (if is_resume then Some (Resume file) else (if same_bytes word (codes "guard") then Some (Guard file) else
        (if same_bytes word (codes "serve") then Some (Serve file) else None))) ≡ Some c
        → Asks (word ∷ file ∷ []) c
    of_resume true is e = subst (Asks (word ∷ file ∷ [])) (some_is (Resume file) c e)
        (record { fits = tt; spelled = λ i. word_is word (codes "resume") is i ∷ file ∷ [] })
    of_resume false is e = of_guard (same_bytes word (codes "guard")) refl e

    of_node : (is_node : Bool) → same_bytes word (codes "node") ≡ is_node
        → (if is_node then Some (Node file) else (if same_bytes word (codes "resume") then Some (Resume file) else
        (if same_bytes word (codes "guard") then Some (Guard file) else
        (if same_bytes word (codes "serve") then Some (Serve file) else None)))) ≡ Some c
        → Asks (word ∷ file ∷ []) c
    of_node true is e = subst (Asks (word ∷ file ∷ [])) (some_is (Node file) c e)
        (record { fits = tt; spelled = λ i. word_is word (codes "node") is i ∷ file ∷ [] })
    of_node false is e = of_resume (same_bytes word (codes "resume")) refl e

other_found : (words : List (List ℕ)) (c : Command) → other_of words ≡ Some c → Asks words c
other_found (word ∷ []) c e = of_replay (same_bytes word (codes "replay")) refl e
  where
    of_chain : (if same_bytes word (codes "chain") then Some Chain else None) ≡ Some c → Asks (word ∷ []) c
    of_chain e =
        let tested = if_some (same_bytes word (codes "chain")) (Some Chain) c e in
        subst (Asks (word ∷ [])) (some_is Chain c tested.1)
        (record { fits = tt; spelled = λ i. word_is word (codes "chain") tested.0 i ∷ [] })

    of_replay : (is_replay : Bool) → same_bytes word (codes "replay") ≡ is_replay
        → (if is_replay then Some (Replay false) else (if same_bytes word (codes "chain") then Some Chain else None)) ≡ Some c
        → Asks (word ∷ []) c
    of_replay true is e = subst (Asks (word ∷ [])) (some_is (Replay false) c e)
        (record { fits = tt; spelled = λ i. word_is word (codes "replay") is i ∷ [] })
    of_replay false is e = of_chain e
other_found (word ∷ further ∷ []) c e = of_gen (same_bytes word (codes "gen")) refl e
  where
    of_short : (is_short : Bool) → same_bytes word (codes "replay") && same_bytes further (codes "short") ≡ is_short
        → (if is_short then Some (Replay true) else hosting_of word further) ≡ Some c → Asks (word ∷ further ∷ []) c
    of_short true is e =
        let both = and_true (same_bytes word (codes "replay")) (same_bytes further (codes "short")) is in
        subst (Asks (word ∷ further ∷ [])) (some_is (Replay true) c e)
        (record { fits = tt; spelled = λ i. word_is word (codes "replay") both.0 i ∷ word_is further (codes "short") both.1 i ∷ [] })
    of_short false is e = hosting_found word further c e

    of_ask : (is_ask : Bool) → same_bytes word (codes "ask") ≡ is_ask
        → (if is_ask then option_map Ask (payload_of further) else
        (if same_bytes word (codes "replay") && same_bytes further (codes "short") then Some (Replay true) else hosting_of word further)) ≡ Some c
        → Asks (word ∷ further ∷ []) c
    of_ask true is e =
        let read = map_some Ask (payload_of further) c e in
        let found = payload_found further read.0 read.1 in
        subst (Asks (word ∷ further ∷ [])) read.2 (record { fits = found.1; spelled = λ i. word_is word (codes "ask") is i ∷ found.0 i ∷ [] })
    of_ask false is e = of_short (same_bytes word (codes "replay") && same_bytes further (codes "short")) refl e

    of_gen : (is_gen : Bool) → same_bytes word (codes "gen") ≡ is_gen
        → (if is_gen then option_map Gen (number_within 0 (2 ^ 32 - 1) further) else
        (if same_bytes word (codes "ask") then option_map Ask (payload_of further) else
        (if same_bytes word (codes "replay") && same_bytes further (codes "short") then Some (Replay true) else hosting_of word further))) ≡ Some c
        → Asks (word ∷ further ∷ []) c
    of_gen true is e =
        let read = map_some Gen (number_within 0 (2 ^ 32 - 1) further) c e in
        let n = number_within_found 0 (2 ^ 32 - 1) further read.0 read.1 in
        let fits : read.0 < 2 ^ 32 = omega (arith, n.2) in
        subst (Asks (word ∷ further ∷ [])) read.2 (record { fits = fits; spelled = λ i. word_is word (codes "gen") is i ∷ n.0 i ∷ [] })
    of_gen false is e = of_ask (same_bytes word (codes "ask")) refl e
other_found (word ∷ members ∷ roster ∷ keys ∷ seed ∷ []) c e =
    let tested = if_some (same_bytes word (codes "keygen")) (option_map Keygen (order_of members roster keys seed)) c e in
    let read = map_some Keygen (order_of members roster keys seed) c tested.1 in
    let found = order_found members roster keys seed read.0 read.1 in
    subst (Asks (word ∷ members ∷ roster ∷ keys ∷ seed ∷ [])) read.2
    (record { fits = found.1; spelled = λ i. word_is word (codes "keygen") tested.0 i ∷ found.0 i })
other_found _ c e = absurd cc

command_found : (words : List (List ℕ)) (c : Command) → command_of words ≡ Some c → Asks words c
command_found [] c e = absurd cc
command_found (word ∷ further) c e = of_audit (same_bytes word (codes "audit")) refl e
  where
    of_audit : (is_audit : Bool) → same_bytes word (codes "audit") ≡ is_audit
        → (if is_audit then option_map Audit (listed_of further) else other_of (word ∷ further)) ≡ Some c → Asks (word ∷ further) c
    of_audit true is e =
        let read = map_some Audit (listed_of further) c e in
        let found = listed_found further read.0 read.1 in
        subst (Asks (word ∷ further)) read.2 (record { fits = found.1; spelled = λ i. word_is word (codes "audit") is i ∷ found.0 i })
    of_audit false is e = other_found (word ∷ further) c e

command_spelled : (c : Command) (words : List (List ℕ)) → Asks words c → command_of words ≡ Some c
command_spelled (Replay false) words asks = ap command_of asks.spelled
command_spelled (Replay true) words asks = ap command_of asks.spelled
command_spelled Chain words asks = ap command_of asks.spelled
command_spelled (Gen number) words asks =
    let fits : number < 2 ^ 32 = asks.fits in
    ap command_of asks.spelled ∙ ap (option_map Gen) (number_within_spelled 0 (2 ^ 32 - 1) number (omega arith) (omega arith) (omega arith))
command_spelled (Keygen order) words asks = ap command_of asks.spelled ∙ ap (option_map Keygen) (order_spelled order asks.fits)
command_spelled (Node file) words asks = ap command_of asks.spelled
command_spelled (Resume file) words asks = ap command_of asks.spelled
command_spelled (Guard file) words asks = ap command_of asks.spelled
command_spelled (Serve file) words asks = ap command_of asks.spelled
command_spelled (Ask payload) words asks = ap command_of asks.spelled ∙ ap (option_map Ask) (payload_spelled payload asks.fits)
command_spelled (Audit listed) words asks = ap command_of asks.spelled ∙ ap (option_map Audit) (listed_spelled listed asks.fits)

pub command_is_spelled : CommandIsSpelled
command_is_spelled words c = (command_found words c, command_spelled c words)

-- ---- what a reader promises

pub asks_of : {C : Type 0} (view : C → Command) (words : List (List ℕ)) (o : Option C) → option_map view o ≡ command_of words
    → IfSome o (λ c. Asks words (view c))
asks_of view words None e = tt
asks_of view words (Some c) e = command_found words (view c) (sym e)

pub asked_only : (words : List (List ℕ)) (o : Option Command) → o ≡ command_of words → (c : Command) → Asks words c → o ≡ Some c
asked_only words o e c asks = e ∙ command_spelled c words asks

-- the words behind `audit` spell the processes of the audit that they ask for
pub asked_listed : (word : List ℕ) (words : List (List ℕ)) (listed : List ℕ) → Asks (word ∷ words) (Audit listed) → listed_of words ≡ Some listed
asked_listed word words listed asks = ap listed_of (behind (map decimal listed) asks.spelled) ∙ listed_spelled listed asks.fits
  where
    behind : (spelled : List (List ℕ)) → word ∷ words ≡ codes "audit" ∷ spelled → words ≡ spelled
    behind spelled e = cc

pub or_is : (o : Option (List ℕ)) (put listed : List ℕ) → o ≡ Some listed → IfSome o (λ ps. put ≡ ps) → put ≡ listed
or_is None put listed e is = absurd cc
or_is (Some ps) put listed e is = is ∙ some_is ps listed e
