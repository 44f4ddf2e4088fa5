-- The least Init and the least Echo that are due.
use Rattle.std.proofs.Common.{◌≡◌, ◌⊎◌, inl, inr, ℕ, ◌+◌, ◌<◌, ◌≤◌, List, [], ◌∷◌, Option, Some, None, Bool, true, false, refl, sym, ap, ◌∙◌, subst, arith, slice_get, length}
use Rattle.std.specs.Prelude.{option_and_then, option_map, if◌then◌else◌, not, ◌&&◌, ◌||◌, ◌==◌, is_some, nat_lt, nat_le, unwrap_or}
use Rattle.std.proofs.lemmas.Bool.{both_ways, not-true, cases_lt, ltb-true, lt-ltb, leb-true, le-leb, eq-eqb, le-ltb}
use Rattle.group_defs.specs.Below.{is_some_and, is_yes, bytes_discrete, numbers_below, Statement, Init, Echo, InitAt, EchoAt, slot_of, payload_of}
use Rattle.group_defs.specs.Views.{is_member, rank_of}
use Rattle.group_defs.specs.Process.{Inits, Echoes, Setting, Process, earlier, delivered_from}
use Rattle.group_defs.specs.Certified.{heard_on, says, is_signed, is_ended}
use Rattle.group_defs.specs.Due.{window, may_sign, due_numbers, kind_of}
use Rattle.rule_laws.specs.Heard.{IsPool}
use Rattle.pool_laws.specs.Least.{IsLeastBelow}
use Rattle.rule_laws.specs.Least.{may_at, IsNumbered}
use Rattle.rule_laws.specs.Messages.{is_init_open, InitIsLeast, waits, EchoIsLeast, own_init, has_payload}
use Rattle.rule_laws.proofs.Hearing.{heard-is, says-heard, heard-says}
use Rattle.rule_laws.proofs.Least.{none_of_all, least_of_all}
use Rattle.rule_laws.proofs.Numbers.{same-test}
use Rattle.rule_laws.proofs.Ranks.{rank-at, at-rank}
use Rattle.rule_laws.proofs.Signable.{may-parts, may-now, made, may-made, numbered-made, first-open}
use Rattle.pool_laws.proofs.Places.{slice_get-length, get-some, index-is, Compared, ahead, behind, level, compared}
use Rattle.pool_laws.proofs.Ranks.{rank-of-member}
use Rattle.pool_laws.proofs.Tests.{and-first, and-second, both-true, is-yes, some-and, some-is, yes-is}

-- ---- Init

module _ (s : Setting) (p : Process) (member : is_member p.pool.view p.me ≡ true) where
  abbrev x : ℕ
  x = p.pool.view.number

  abbrev pub payload : ℕ → Option (List ℕ)
  payload l = slice_get p.accepted (earlier p + l)

  abbrev near : ℕ → Bool
  near l = nat_lt l (delivered_from p.me p.delivered + window)

  abbrev pub init : ℕ → List ℕ → Statement
  init l b = Init x l b

  init-parts : (st : Statement) → may_sign s p st ≡ true → kind_of st ≡ Inits
      → (l : ℕ) × (b : List ℕ) × (l < 1024) × (payload l ≡ Some b) × (init l b ≡ st)
  init-parts (Init y l b) may is =
      let it = may-parts s p (Init y l b) may in
      let at = some-and (payload l) (λ accepted. is_yes (bytes_discrete b accepted))
      (and-second (nat_lt l (delivered_from p.me p.delivered + window) && nat_le l 1023)
      (is_some_and (payload l) (λ accepted. is_yes (bytes_discrete b accepted))) it.due) in
      let far = leb-true l 1023 (and-second (nat_lt l (delivered_from p.me p.delivered + window)) (nat_le l 1023)
      (and-first (nat_lt l (delivered_from p.me p.delivered + window) && nat_le l 1023)
      (is_some_and (payload l) (λ accepted. is_yes (bytes_discrete b accepted))) it.due)) in
      (l, b, omega (arith, far), at.1 ∙ ap Some (sym (yes-is (bytes_discrete b at.0) at.2)), λ i. Init (sym it.current i) l b)
  init-parts _ may is = absurd cc

  init-now : (l : ℕ) (b : List ℕ) → l < 1024 → near l ≡ true → is_signed p (InitAt x l) ≡ false → payload l ≡ Some b
      → may_sign s p (init l b) ≡ true
  init-now l b lt close unsigned at = may-now s p (init l b) (record {
    member = member;
    current = refl;
    unsigned = unsigned;
    due = both-true _ _ (both-true _ _ close (le-leb l 1023 (omega (arith, lt))))
        (ap (λ o. is_some_and o (λ accepted. is_yes (bytes_discrete b accepted))) at ∙ is-yes (bytes_discrete b b) refl);
  })

  init-tests : (l : ℕ) (b : List ℕ) → may_sign s p (init l b) ≡ true → (is_init_open p l ≡ true) × (near l ≡ true)
  init-tests l b may =
      let it = may-parts s p (init l b) may in (
        ap not it.unsigned,
        and-first (near l) (nat_le l 1023)
            (and-first (near l && nat_le l 1023) (is_some_and (payload l) (λ accepted. is_yes (bytes_discrete b accepted))) it.due),
      )

  abbrev test : ℕ → Bool
  test l = is_init_open p l && (near l && is_some (payload l))

  may-init : (l : ℕ) → l < 1024 → may_at s p (made init payload) l ≡ test l
  may-init l lt = may-made init payload s p l ∙ same-test _ _ forth (back (payload l) refl)
    where
      forth : is_some_and (payload l) (λ b. may_sign s p (init l b)) ≡ true → test l ≡ true
      forth may = let b = some-and (payload l)
          (λ b. may_sign s p (init l b)) may in let tests = init-tests l b.0 b.2 in both-true _ _ tests.0
          (both-true _ _ tests.1 (ap is_some b.1))

      back : (o : Option (List ℕ)) → payload l ≡ o → (is_init_open p l && (near l && is_some o)) ≡ true
          → is_some_and o (λ b. may_sign s p (init l b)) ≡ true
      back None e f = absurd (let no' = and-second (near l) false (and-second (is_init_open p l) (near l && false) f) in cc)
      back (Some b) e f = init-now l b lt (and-first (near l) true (and-second (is_init_open p l) (near l && true) f))
          (not-true _ (and-first (is_init_open p l) (near l && true) f)) e

  pub init-numbered : IsNumbered s p Inits (made init payload) 1024
  init-numbered = numbered-made init payload s p Inits 1 1024 (λ l b. refl) (λ l b. refl) init-parts

  init-ends : (j l : ℕ) → j ≤ l → l < 1024 → is_init_open p j ≡ true → may_at s p (made init payload) j ≡ false
      → may_at s p (made init payload) l ≡ false
  init-ends j l le lt is_open not_j = may-init l lt ∙ go (test l) refl
    where
      nearer : near l ≡ true → near j ≡ true
      nearer e = let far = ltb-true l (delivered_from p.me p.delivered + window) e in lt-ltb j (delivered_from p.me p.delivered + window)
          (omega (arith, far, le))

      there : (o : Option (List ℕ)) → payload l ≡ o → is_some o ≡ true → is_some (payload j) ≡ true
      there None e f = absurd cc
      there (Some b) e f = let far = slice_get-length p.accepted (earlier p + l) b e in let at = get-some p.accepted (earlier p + j)
          (omega (arith, far, le)) in ap is_some at.1

      go : (b : Bool) → test l ≡ b → b ≡ false
      go false e = refl
      go true e =
          let rest = and-second (is_init_open p l) (near l && is_some (payload l)) e in
          let again : test j ≡ true = both-true _ _ is_open
          (both-true _ _ (nearer (and-first (near l) (is_some (payload l)) rest))
          (there (payload l) refl (and-second (near l) (is_some (payload l)) rest))) in
          absurd (both_ways _ not_j (may-init j (omega (arith, le, lt)) ∙ again))

  -- a payload was accepted for it where there is one
  accepted : (l : ℕ) → nat_lt (earlier p + l) (length p.accepted) ≡ is_some (payload l)
  accepted l = go (payload l) refl
    where
      go : (o : Option (List ℕ)) → payload l ≡ o → nat_lt (earlier p + l) (length p.accepted) ≡ is_some o
      go (Some b) e = lt-ltb (earlier p + l) (length p.accepted) (slice_get-length p.accepted (earlier p + l) b e)
      go None e = elim (cases_lt (earlier p + l) (length p.accepted)) [
        | inl lt ↦ absurd (let b = get-some p.accepted (earlier p + l) lt in let clash : None ≡ Some b.0 = sym e ∙ b.1 in cc)
        | inr ge ↦ le-ltb (earlier p + l) (length p.accepted) ge
      ]

  -- of an open number it may be signed where it is near and has a payload
  init-first : (l : ℕ) → l < 1024 → is_init_open p l ≡ true
      → (if may_at s p (made init payload) l then made init payload l else None)
      ≡ option_map (own_init p) (if has_payload p l then Some l else None)
  init-first l lt is_open = ap (λ b. if b then made init payload l else None)
      (may-init l lt) ∙ go (payload l) refl (is_init_open p l) is_open (near l) ∙ ap
      (λ b. option_map (own_init p) (if near l && b then Some l else None)) (sym (accepted l))
    where
      go : (o : Option (List ℕ)) → payload l ≡ o → (a : Bool) → a ≡ true → (b : Bool)
          → (let it : Option Statement = if a && (b && is_some o) then option_map (init l) o
          else None in let that : Option ℕ = if b && is_some o then Some l else None in it ≡ option_map (own_init p) that)
      go o at false e b = absurd cc
      go None at true e true = refl
      go None at true e false = refl
      go (Some c) at true e true = let is = index-is p.accepted (earlier p + l) [] c at in λ i. Some (Init x l (sym is i))
      go (Some c) at true e false = refl

pub init_is_least : InitIsLeast
init_is_least s p o member least = first-open s p Inits (made (init s p member) (payload s p member)) 1024 (is_init_open p) o
    (init-numbered s p member)
    (λ l lt may. and-first (is_init_open p l) _ (sym (may-init s p member l lt) ∙ may)) (init-ends s p member) least ∙ go o least
  where
    go : (o : Option ℕ) → IsLeastBelow 1024 (is_init_open p) o
        → option_and_then (λ l. if may_at s p (made (init s p member) (payload s p member)) l
        then made (init s p member) (payload s p member) l else None) o
        ≡ option_map (own_init p) (option_and_then (λ l. if has_payload p l then Some l else None) o)
    go None least = refl
    go (Some l) least = init-first s p member l least.1 least.2

-- ---- Echo

lower-first : (a b c d : ℕ) → a < c → numbers_below (a ∷ b ∷ []) (c ∷ d ∷ []) ≡ true
lower-first a b c d lt = ap (λ t. t || ((a == c) && (nat_lt b d || ((b == d) && false)))) (lt-ltb a c lt)

lower-second : (a b d : ℕ) → b < d → numbers_below (a ∷ b ∷ []) (a ∷ d ∷ []) ≡ true
lower-second a b d lt = go (nat_lt a a) (a == a) (eq-eqb a a refl) (nat_lt b d) (lt-ltb b d lt)
  where
    go : (e f : Bool) → f ≡ true → (g : Bool) → g ≡ true → (e || (f && (g || ((b == d) && false)))) ≡ true
    go true f is g is' = refl
    go false f is g is' = cc

init-is : (st : Statement) (x l : ℕ) → slot_of st ≡ InitAt x l → (b : List ℕ) × (st ≡ Init x l b)
init-is (Init y n b) x l e = (b, (let y_is : y ≡ x = cc in let n_is : n ≡ l = cc in λ i. Init (y_is i) (n_is i) b))
init-is _ x l e = absurd cc

module _ (s : Setting) (p : Process) (pool : IsPool p.pool) where
  -- the Echo of this message may be signed as soon as its Init is heard
  record Awaited (m l : ℕ) : Type 0 where
    pub payload : List ℕ
    pub heard : heard_on p.pool m (InitAt p.pool.view.number l) ≡ Some (Init p.pool.view.number l payload)
    pub unsigned : is_signed p (EchoAt p.pool.view.number (record { sender = m; number = l })) ≡ false

  awaited : (m l : ℕ) → waits p m l ≡ true → Awaited m l
  awaited m l e = go (heard_on p.pool m (InitAt p.pool.view.number l)) refl e
    where
      go : (o : Option Statement) → heard_on p.pool m (InitAt p.pool.view.number l) ≡ o
          → (is_some o && not (is_signed p (EchoAt p.pool.view.number (record { sender = m; number = l })))) ≡ true → Awaited m l
      go None at e = absurd cc
      go (Some st) at e =
          let is = init-is st p.pool.view.number l ((heard-is p.pool pool m (InitAt p.pool.view.number l) st at).at) in
          record { payload = is.0; heard = at ∙ ap Some is.1; unsigned = not-true _ e }

  abbrev pub echo : ℕ → ℕ → List ℕ → Statement
  echo m l b = Echo p.pool.view.number (record { sender = m; number = l }) b

  pub echo-parts : (st : Statement) → may_sign s p st ≡ true → kind_of st ≡ Echoes
      → (m l : ℕ) × (b : List ℕ) × (st ≡ echo m l b)
      × (heard_on p.pool m (InitAt p.pool.view.number l) ≡ Some (Init p.pool.view.number l b))
      × (waits p m l ≡ true) × (l < 1024)
  echo-parts (Echo y m b) may is =
      let it = may-parts s p (Echo y m b) may in
      let said : says p.pool (Init y m.number b) m.sender ≡ true = and-first _ _ it.due in
      let heard : heard_on p.pool m.sender (InitAt p.pool.view.number m.number)
      ≡ Some (Init p.pool.view.number m.number b) = subst
      (λ y. heard_on p.pool m.sender (InitAt y m.number) ≡ Some (Init y m.number b)) it.current
      (says-heard p.pool (Init y m.number b) m.sender said) in
      let unsigned : is_signed p (EchoAt p.pool.view.number m)
      ≡ false = subst (λ y. is_signed p (EchoAt y m) ≡ false) it.current it.unsigned in
      let far : m.number ≤ 1023 = (heard-is p.pool pool m.sender (InitAt p.pool.view.number m.number)
      (Init p.pool.view.number m.number b) heard).ranges.1 in
      (m.sender, m.number, b, (λ i. Echo (it.current i) m b), heard, both-true _ _ (ap is_some heard) (ap not unsigned), omega (arith, far))
  echo-parts _ may is = absurd cc

  echo-now : (m l : ℕ) → is_member p.pool.view p.me ≡ true → is_ended p ≡ false → (a : Awaited m l)
      → may_sign s p (echo m l a.payload) ≡ true
  echo-now m l member open_ a = may-now s p (echo m l a.payload) (record {
    member = member;
    current = refl;
    unsigned = a.unsigned;
    due = both-true _ _ (heard-says p.pool (Init p.pool.view.number l a.payload) m a.heard) (ap not open_);
  })

  -- the first that waits is the least
  module _ (rank m l : ℕ) (at : slice_get p.pool.view.members rank ≡ Some m) (least : IsLeastBelow 1024 (waits p m) (Some l))
      (earlier_ : (r m' : ℕ) → r < rank → slice_get p.pool.view.members r ≡ Some m' → IsLeastBelow 1024 (waits p m') None) where
    ranked : rank_of p.pool.view m ≡ Some rank
    ranked =
        let it = at-rank p.pool.view m rank at in
        elim (cases_lt it.0 rank) [
          | inl lt ↦ absurd (both_ways _ (earlier_ it.0 m lt (rank-at p.pool.view m it.0 it.1) l (omega arith) least.1) least.2)
          | inr ge ↦ (let le = it.2 in let same : it.0 ≡ rank = omega (arith, ge, le) in it.1 ∙ ap Some same)
        ]

    numbers : (m' l' r' : ℕ) (b b' : List ℕ) → rank_of p.pool.view m' ≡ Some r' → numbers_below (rank ∷ l ∷ []) (r' ∷ l' ∷ []) ≡ true
        → numbers_below (due_numbers p.pool.view (echo m l b)) (due_numbers p.pool.view (echo m' l' b')) ≡ true
    numbers m' l' r' b b' e below =
        subst (λ n. numbers_below (n ∷ l ∷ []) (unwrap_or (rank_of p.pool.view m') 0 ∷ l' ∷ []) ≡ true)
        (sym (ap (λ o. unwrap_or o 0) ranked))
        (subst (λ n. numbers_below (rank ∷ l ∷ []) (n ∷ l' ∷ []) ≡ true) (sym (ap (λ o. unwrap_or o 0) e)) below)

    behind-it : (a : Awaited m l) (other : Statement) → may_sign s p other ≡ true → kind_of other ≡ Echoes
        → (other ≡ echo m l a.payload)
        ⊎ (numbers_below (due_numbers p.pool.view (echo m l a.payload)) (due_numbers p.pool.view other) ≡ true)
    behind-it a other may is = go (echo-parts other may is)
      where
        same-sender : (l' : ℕ) (b' : List ℕ) → heard_on p.pool m (InitAt p.pool.view.number l') ≡ Some (Init p.pool.view.number l' b')
            → waits p m l' ≡ true → Compared l' l
            → (echo m l' b' ≡ echo m l a.payload)
            ⊎ (numbers_below (due_numbers p.pool.view (echo m l a.payload)) (due_numbers p.pool.view (echo m l' b')) ≡ true)
        same-sender l' b' heard w (ahead lt) = absurd (both_ways _ (least.3 l' (omega arith) lt) w)
        same-sender l' b' heard w (level same) = inl (
            let one : heard_on p.pool m (InitAt p.pool.view.number l)
            ≡ Some (Init p.pool.view.number l b') = subst
            (λ l. heard_on p.pool m (InitAt p.pool.view.number l) ≡ Some (Init p.pool.view.number l b')) same heard in
            let st : Init p.pool.view.number l b' ≡ Init p.pool.view.number l a.payload = some-is _ _ _ one a.heard in
            let b_is : b' ≡ a.payload = cc in
            λ i. echo m (same i) (b_is i))
        same-sender l' b' heard w (behind lt) = inr (numbers m l' rank a.payload b' ranked (lower-second rank l l' lt))

        pick : (m' l' : ℕ) (b' : List ℕ) → heard_on p.pool m' (InitAt p.pool.view.number l') ≡ Some (Init p.pool.view.number l' b')
            → waits p m' l' ≡ true → l' < 1024 → (r' : ℕ) → rank_of p.pool.view m' ≡ Some r' → Compared r' rank
            → (echo m' l' b' ≡ echo m l a.payload)
            ⊎ (numbers_below (due_numbers p.pool.view (echo m l a.payload)) (due_numbers p.pool.view (echo m' l' b')) ≡ true)
        pick m' l' b' heard w far r' e (ahead lt) = absurd
            (both_ways _ (earlier_ r' m' lt (rank-at p.pool.view m' r' e) l' (omega arith) far) w)
        pick m' l' b' heard w far r' e (behind lt) = inr (numbers m' l' r' a.payload b' e (lower-first rank l r' l' lt))
        pick m' l' b' heard w far r' e (level same) =
            let there : Some m' ≡ Some m = sym (rank-at p.pool.view m' r' e) ∙ ap (slice_get p.pool.view.members) same ∙ at in
            let m_is : m ≡ m' = cc in
            subst (λ m'. heard_on p.pool m' (InitAt p.pool.view.number l') ≡ Some (Init p.pool.view.number l' b') → waits p m' l' ≡ true
            → (echo m' l' b' ≡ echo m l a.payload)
            ⊎ (numbers_below (due_numbers p.pool.view (echo m l a.payload)) (due_numbers p.pool.view (echo m' l' b')) ≡ true)) m_is
            (λ heard w. same-sender l' b' heard w (compared l' l)) heard w

        go : (m' l' : ℕ) × (b' : List ℕ) × (other ≡ echo m' l' b')
            × (heard_on p.pool m' (InitAt p.pool.view.number l') ≡ Some (Init p.pool.view.number l' b')) × (waits p m' l' ≡ true)
            × (l' < 1024)
            → (other ≡ echo m l a.payload)
            ⊎ (numbers_below (due_numbers p.pool.view (echo m l a.payload)) (due_numbers p.pool.view other) ≡ true)
        go it =
            let signer = (heard-is p.pool pool it.0 (InitAt p.pool.view.number it.1) (Init p.pool.view.number it.1 it.2) it.4).signer in
            let rank' = rank-of-member p.pool.view it.0 signer in
            subst (λ other. (other ≡ echo m l a.payload)
            ⊎ (numbers_below (due_numbers p.pool.view (echo m l a.payload)) (due_numbers p.pool.view other) ≡ true)) (sym it.3)
            (pick it.0 it.1 it.2 it.4 it.5 it.6 rank'.0 rank'.1 (compared rank'.0 rank))

pub echo_is_least : EchoIsLeast
echo_is_least s p None pool member open_ none = none_of_all s p Echoes (λ st is. never st is (may_sign s p st) refl)
  where
    never : (st : Statement) → kind_of st ≡ Echoes → (b : Bool) → may_sign s p st ≡ b → b ≡ false
    never st is false may = refl
    never st is true may =
        let it = echo-parts s p pool st may is in
        let signer = (heard-is p.pool pool it.0 (InitAt p.pool.view.number it.1) (Init p.pool.view.number it.1 it.2) it.4).signer in
        let r = rank-of-member p.pool.view it.0 signer in
        absurd (both_ways _ (none r.0 it.0 r.3 it.1 (omega arith) it.6) it.5)
echo_is_least s p (Some e) pool member open_ first =
    let a = awaited s p pool e.0 e.1 first.2.2 in
    least_of_all s p (echo s p pool e.0 e.1 a.payload) (echo-now s p pool e.0 e.1 member open_ a)
    (behind-it s p pool first.0 e.0 e.1 first.1 first.2 first.3 a)
    ∙ sym (ap (λ o. Some (echo s p pool e.0 e.1 (unwrap_or (option_and_then payload_of o) []))) a.heard)
