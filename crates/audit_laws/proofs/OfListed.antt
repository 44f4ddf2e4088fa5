-- What an audit speaks of: the listed processes, and the claims that were handed to them or that they signed.
use Rattle.std.proofs.Common.{◌≡◌, ◌⊎◌, inl, inr, ℕ, List, [], ◌∷◌, ◌++◌, map, Option, Some, None, Bool, true, false, refl, sym, ap, ◌∙◌, subst}
use Rattle.std.specs.Prelude.{if◌then◌else◌, ◌==◌, ◌&&◌, nat_lt, find, filter, length, option_map, flat_map, All, Contains, IsTrue, Result, Ok, Err}
use Rattle.std.specs.List.{list_all, cons_option, enumerate_from}
use Rattle.byte_defs.specs.Fields.{◌>>=◌}
use Rattle.message_defs.specs.Statements.{Claim}
use Rattle.group_defs.specs.Process.{Setting, Process, start}
use Rattle.group_defs.specs.Hearing.{is_valid}
use Rattle.group_defs.specs.Events.{Turn, after, outcome, run}
use Rattle.group_defs.specs.Family.{Correct, Family, numbers, end_of, ends, claims_in, handed_to, handed}
use Rattle.byte_defs.specs.Members.{has}
use Rattle.journal_defs.specs.Entries.{Entry}
use Rattle.kit_defs.specs.Kits.{Kit}
use Rattle.pool_laws.proofs.Members.{Contains-mem, Mem, append-mem, list_all-mem, map-mem, mem-All, mem-Contains, mem-append, mem-behind, mem-find, mem-flat_map, mem-map}
use Rattle.pool_laws.proofs.Tests.{and-second}
use Rattle.audit_defs.specs.Sources.{Source, Step, Takes, Breaks, steps_of}
use Rattle.audit_defs.specs.Players.{Player, Taken, setting_of, hosts_of, is_missing, player, player_by, players_of, turn_of, is_written, claims_of, with_turn, absorbed, behind, taking, correct_of, family_of}
use Rattle.audit_defs.specs.Audits.{AuditFault, Missing, Repeated, Known, knows, goes, goes_through, sources_of, cast_of, Audited, audited_in, audited}
use Rattle.audit_defs.specs.Laws.{IsOfListed, AuditIsOfListed}
use Rattle.audit_laws.proofs.Written.{written_is_tested}
use Rattle.audit_laws.proofs.TurnsTaken.{turn-signs, run-more, handed-more, handed-before, handed-last}

-- ---- one entry

-- nothing happened, or one of the processes took one turn
pub data Took (s : Setting) (cs : List Player) (t : Taken) : Type 0 where
  Nothing : t.players ≡ cs → t.claims ≡ [] → Took s cs t
  Turned : (front back : List Player) (c : Player) (turn : Turn) → cs ≡ front ++ c ∷ back → t.players ≡ front ++ with_turn s c turn ∷ back
      → t.claims ≡ claims_of s c.now turn → list_all (is_valid s) (outcome s c.now turn).signed ≡ true → Took s cs t

took-behind : (s : Setting) (c : Player) (cs : List Player) (t : Taken) → Took s cs t → Took s (c ∷ cs) (behind c t)
took-behind s c cs t (Nothing same none) = Nothing (ap (λ ps. c ∷ ps) same) none
took-behind s c cs t (Turned front back d turn parts new claims valid) =
    Turned (c ∷ front) back d turn (ap (λ ps. c ∷ ps) parts) (ap (λ ps. c ∷ ps) new) claims valid

pub takes : (s : Setting) (j : ℕ) (e : Entry) (cs : List Player) (t : Taken) → taking s j e cs ≡ Some t → Took s cs t
unfolding taking
takes s j e [] t is = Nothing (ap (λ (t : Taken). t.players) (sym (some t is))) (ap (λ (t : Taken). t.claims) (sym (some t is)))
  where
    some : (t : Taken) → Some (record { players = []; claims = [] }) ≡ Some t → record { players = []; claims = [] } ≡ t
    some t is = cc
takes s j e (c ∷ cs) t is = go (c.me == e.process) is (takes s j e cs)
  where
    turned : (b : Bool) → ((c.journal == j) && is_written s c.now e) ≡ b
        → (if b then Some (record { players = with_turn s c (turn_of c.now e) ∷ cs; claims = claims_of s c.now (turn_of c.now e) }) else None)
        ≡ Some t → Took s (c ∷ cs) t
    turned true e' is' =
        let same : record { players = with_turn s c (turn_of c.now e) ∷ cs; claims = claims_of s c.now (turn_of c.now e) } ≡ t = cc in
        Turned [] cs c (turn_of c.now e) refl (ap (λ (t : Taken). t.players) (sym same)) (ap (λ (t : Taken). t.claims) (sym same))
        ((written_is_tested s c.now e).0 (and-second (c.journal == j) (is_written s c.now e) e')).1
    turned false e' is' = absurd cc

    later : (o : Option Taken) → taking s j e cs ≡ o → option_map (behind c) o ≡ Some t
        → ((t : Taken) → taking s j e cs ≡ Some t → Took s cs t) → Took s (c ∷ cs) t
    later None e' is' rest = absurd cc
    later (Some u) e' is' rest = let same : behind c u ≡ t = cc in subst (Took s (c ∷ cs)) same (took-behind s c cs u (rest u e'))

    go : (b : Bool) → (if b then absorbed s j e c cs else option_map (behind c) (taking s j e cs)) ≡ Some t
        → ((t : Taken) → taking s j e cs ≡ Some t → Took s cs t) → Took s (c ∷ cs) t
    go true is' rest = turned ((c.journal == j) && is_written s c.now e) refl is'
    go false is' rest = later (taking s j e cs) refl is' rest

-- ---- what holds all along

pub record Holds (s : Setting) (listed : List ℕ) (k : Known) : Type 0 where
  pub numbers_are : map (λ (c : Player). c.me) k.players ≡ listed
  pub runs : (c : Player) → Mem c k.players → c.now ≡ run s (start s c.me c.batch_limit) c.turns
  pub from : (x : Claim) → Mem x k.claims → (c : Player) × Mem c k.players × (Mem x (handed_to c.turns) ⊎ Mem x c.now.signed)
  pub handed_in : (c : Player) (x : Claim) → Mem c k.players → Mem x (handed_to c.turns) → Mem x k.claims
  pub signed_in : (c : Player) (x : Claim) → Mem c k.players → Mem x c.now.signed → Mem x k.claims
  pub valid : (c : Player) (x : Claim) → Mem c k.players → Mem x c.now.signed → is_valid s x ≡ true

-- one of the front, the middle or the back
middle : {A : Type 0} (front back : List A) (x y : A) → Mem y (front ++ x ∷ back) → Mem y front ⊎ ((x ≡ y) ⊎ Mem y back)
middle front back x y m = append-mem front (x ∷ back) y m

module _ (s : Setting) (listed : List ℕ) (k : Known) (h : Holds s listed k) (front back : List Player) (c : Player) (turn : Turn)
    (parts : k.players ≡ front ++ c ∷ back) (valid : list_all (is_valid s) (outcome s c.now turn).signed ≡ true) where
  new : Player
  new = with_turn s c turn

  was : Mem c k.players
  was = subst (Mem c) (sym parts) (mem-behind front (c ∷ back) c (inl refl))

  old-front : (d : Player) → Mem d front → Mem d k.players
  old-front d m = subst (Mem d) (sym parts) (mem-append front (c ∷ back) d m)

  old-back : (d : Player) → Mem d back → Mem d k.players
  old-back d m = subst (Mem d) (sym parts) (mem-behind front (c ∷ back) d (inr m))

  new-signed : (with_turn s c turn).now.signed ≡ c.now.signed ++ (outcome s c.now turn).signed
  new-signed = turn-signs s c.now turn

  numbers-same : (front' back' : List Player) → map (λ (c : Player). c.me) (front' ++ with_turn s c turn ∷ back')
      ≡ map (λ (c : Player). c.me) (front' ++ c ∷ back')
  numbers-same [] back' = refl
  numbers-same (d ∷ front') back' = ap (λ ns. d.me ∷ ns) (numbers-same front' back')

  -- the players behind it, and all claims
  next : Known
  next = record { players = front ++ with_turn s c turn ∷ back; claims = k.claims ++ claims_of s c.now turn }

  pub turned-holds : Holds s listed (record { players = front ++ with_turn s c turn ∷ back; claims = k.claims ++ claims_of s c.now turn })
  turned-holds = record {
    numbers_are = numbers-same front back ∙ ap (map (λ (c : Player). c.me)) (sym parts) ∙ h.numbers_are;
    runs = λ d m. elim (middle front back (with_turn s c turn) d m) [
      | inl m' ↦ h.runs d (old-front d m')
      | inr (inl is) ↦ subst (λ (d : Player). d.now ≡ run s (start s d.me d.batch_limit) d.turns) is
          (ap (λ (p : Process). after s p turn) (h.runs c was) ∙ sym (run-more s (start s c.me c.batch_limit) c.turns turn))
      | inr (inr m') ↦ h.runs d (old-back d m')
    ];
    from = λ x m. from-of x (append-mem k.claims (claims_of s c.now turn) x m);
    handed_in = λ d x m n. elim (middle front back (with_turn s c turn) d m) [
      | inl m' ↦ mem-append k.claims (claims_of s c.now turn) x (h.handed_in d x (old-front d m') n)
      | inr (inl is) ↦ handed-in-new x (subst (λ (d : Player). Mem x (handed_to d.turns)) (sym is) n)
      | inr (inr m') ↦ mem-append k.claims (claims_of s c.now turn) x (h.handed_in d x (old-back d m') n)
    ];
    signed_in = λ d x m n. elim (middle front back (with_turn s c turn) d m) [
      | inl m' ↦ mem-append k.claims (claims_of s c.now turn) x (h.signed_in d x (old-front d m') n)
      | inr (inl is) ↦ signed-in-new x (subst (λ (d : Player). Mem x d.now.signed) (sym is) n)
      | inr (inr m') ↦ mem-append k.claims (claims_of s c.now turn) x (h.signed_in d x (old-back d m') n)
    ];
    valid = λ d x m n. elim (middle front back (with_turn s c turn) d m) [
      | inl m' ↦ h.valid d x (old-front d m') n
      | inr (inl is) ↦ valid-new x (subst (λ (d : Player). Mem x d.now.signed) (sym is) n)
      | inr (inr m') ↦ h.valid d x (old-back d m') n
    ];
  }
    where
      all : List Player
      all = front ++ with_turn s c turn ∷ back

      in-new : Mem (with_turn s c turn) (front ++ with_turn s c turn ∷ back)
      in-new = mem-behind front (with_turn s c turn ∷ back) (with_turn s c turn) (inl refl)

      kept : (d : Player) (x : Claim) → Mem d k.players → Mem x (handed_to d.turns) ⊎ Mem x d.now.signed
          → (d' : Player) × Mem d' (front ++ with_turn s c turn ∷ back) × (Mem x (handed_to d'.turns) ⊎ Mem x d'.now.signed)
      kept d x m n = elim (middle front back c d (subst (Mem d) parts m)) [
        | inl m' ↦ (d, mem-append front (with_turn s c turn ∷ back) d m', n)
        | inr (inl is) ↦ (
          with_turn s c turn,
          in-new,
          elim n [
            | inl handed' ↦ inl (handed-before c.turns turn x (subst (λ (d : Player). Mem x (handed_to d.turns)) (sym is) handed'))
            | inr signed' ↦ inr (subst (Mem x) (sym new-signed) (mem-append c.now.signed (outcome s c.now turn).signed x
                (subst (λ (d : Player). Mem x d.now.signed) (sym is) signed')))
          ],
        )
        | inr (inr m') ↦ (d, mem-behind front (with_turn s c turn ∷ back) d (inr m'), n)
      ]

      from-of : (x : Claim) → Mem x k.claims ⊎ Mem x (claims_of s c.now turn)
          → (d : Player) × Mem d (front ++ with_turn s c turn ∷ back) × (Mem x (handed_to d.turns) ⊎ Mem x d.now.signed)
      from-of x (inl m) = let f = h.from x m in kept f.0 x f.1 f.2
      from-of x (inr m) = (
        with_turn s c turn,
        in-new,
        elim (append-mem (claims_in turn.event) (outcome s c.now turn).signed x m) [
          | inl handed' ↦ inl (handed-last c.turns turn x handed')
          | inr signed' ↦ inr (subst (Mem x) (sym new-signed) (mem-behind c.now.signed (outcome s c.now turn).signed x signed'))
        ],
      )

      handed-in-new : (x : Claim) → Mem x (handed_to (c.turns ++ turn ∷ [])) → Mem x (k.claims ++ claims_of s c.now turn)
      handed-in-new x m = elim (handed-more c.turns turn x m) [
        | inl before ↦ mem-append k.claims (claims_of s c.now turn) x (h.handed_in c x was before)
        | inr last ↦ mem-behind k.claims (claims_of s c.now turn) x (mem-append (claims_in turn.event) (outcome s c.now turn).signed x last)
      ]

      signed-split : (x : Claim) → Mem x (after s c.now turn).signed → Mem x c.now.signed ⊎ Mem x (outcome s c.now turn).signed
      signed-split x m = append-mem c.now.signed (outcome s c.now turn).signed x (subst (Mem x) new-signed m)

      signed-in-new : (x : Claim) → Mem x (after s c.now turn).signed → Mem x (k.claims ++ claims_of s c.now turn)
      signed-in-new x m = elim (signed-split x m) [
        | inl before ↦ mem-append k.claims (claims_of s c.now turn) x (h.signed_in c x was before)
        | inr last ↦ mem-behind k.claims (claims_of s c.now turn) x (mem-behind (claims_in turn.event) (outcome s c.now turn).signed x last)
      ]

      valid-new : (x : Claim) → Mem x (after s c.now turn).signed → is_valid s x ≡ true
      valid-new x m = elim (signed-split x m) [
        | inl before ↦ h.valid c x was before
        | inr last ↦ list_all-mem (is_valid s) (outcome s c.now turn).signed x valid last
      ]

took-holds : (s : Setting) (listed : List ℕ) (k : Known) (t : Taken) → Holds s listed k → Took s k.players t
    → Holds s listed (record { players = t.players; claims = k.claims ++ t.claims })
took-holds s listed k t h (Nothing same none) = record {
  numbers_are = ap (map (λ (c : Player). c.me)) same ∙ h.numbers_are;
  runs = λ c m. h.runs c (subst (Mem c) same m);
  from = λ x m. elim (append-mem k.claims t.claims x m) [
    | inl m' ↦ let f = h.from x m' in (f.0, subst (Mem f.0) (sym same) f.1, f.2)
    | inr m' ↦ absurd (subst (Mem x) none m')
  ];
  handed_in = λ c x m n. mem-append k.claims t.claims x (h.handed_in c x (subst (Mem c) same m) n);
  signed_in = λ c x m n. mem-append k.claims t.claims x (h.signed_in c x (subst (Mem c) same m) n);
  valid = λ c x m n. h.valid c x (subst (Mem c) same m) n;
}
took-holds s listed k t h (Turned front back c turn parts new claims valid) =
    subst (λ ps. Holds s listed (record { players = ps; claims = k.claims ++ t.claims })) (sym new)
    (subst (λ cs. Holds s listed (record { players = front ++ with_turn s c turn ∷ back; claims = k.claims ++ cs })) (sym claims)
    (turned-holds s listed k h front back c turn parts valid))

goes-holds : (s : Setting) (listed : List ℕ) (k k' : Known) (step : Step) → Holds s listed k → goes s k step ≡ Ok k' → Holds s listed k'
goes-holds s listed k k' (Breaks j place) h e = absurd cc
goes-holds s listed k k' (Takes j place entry) h e = go (taking s j entry k.players) refl e
  where
    go : (o : Option Taken) → taking s j entry k.players ≡ o → knows k j place o ≡ Ok k' → Holds s listed k'
    go None t e = absurd cc
    go (Some t) is e =
        let same : record { players = t.players; claims = k.claims ++ t.claims } ≡ k' = cc in
        subst (Holds s listed) same (took-holds s listed k t h (takes s j entry k.players t is))

pub through-holds : (s : Setting) (listed : List ℕ) (steps : List Step) (k k' : Known) → Holds s listed k → goes_through s k steps ≡ Ok k'
    → Holds s listed k'
unfolding goes_through
through-holds s listed [] k k' h e = let same : k ≡ k' = cc in subst (Holds s listed) same h
through-holds s listed (step ∷ steps) k k' h e = go (goes s k step) refl e
    (λ next. through-holds s listed steps next k')
  where
    go : (r : Result Known AuditFault) → goes s k step ≡ r → (r >>= λ next. goes_through s next steps) ≡ Ok k'
        → ((next : Known) → Holds s listed next → goes_through s next steps ≡ Ok k' → Holds s listed k') → Holds s listed k'
    go (Err fault) is e rest = absurd cc
    go (Ok next) is e rest = rest next (goes-holds s listed k next step h is) e

-- ---- the beginning

-- each that is not missing begins
begun : (s : Setting) (sources : List Source) (p : ℕ) → is_missing sources p ≡ false → (c : Player) × (player_by s sources p ≡ Some c) × (c.me ≡ p)
    × (c.now ≡ start s c.me c.batch_limit) × (c.turns ≡ [])
begun s sources p e =
    let host = some-host (enumerate_from 0 sources) (λ none. no-one none) in
    (player s p host.0, ap (option_map (player s p)) host.1, refl, refl, refl)
  where
    test : ℕ × Source → Bool
    test h = has h.1.hosted p

    some-host : (hs : List (ℕ × Source)) → (filter (λ (h : ℕ × Source). has h.1.hosted p) hs ≡ [] → ⊥)
        → (h : ℕ × Source) × (find (λ (h : ℕ × Source). has h.1.hosted p) hs ≡ Some h)
    some-host [] no' = absurd (no' refl)
    some-host (h ∷ hs) no' = go (has h.1.hosted p) refl no' (some-host hs)
      where
        go : (b : Bool) → has h.1.hosted p ≡ b
            → ((if b then h ∷ filter (λ (h : ℕ × Source). has h.1.hosted p) hs else filter (λ (h : ℕ × Source). has h.1.hosted p) hs) ≡ [] → ⊥)
            → ((filter (λ (h : ℕ × Source). has h.1.hosted p) hs ≡ [] → ⊥) → (h : ℕ × Source) × (find (λ (h : ℕ × Source). has h.1.hosted p) hs ≡ Some h))
            → (k : ℕ × Source) × ((if b then Some h else find (λ (h : ℕ × Source). has h.1.hosted p) hs) ≡ Some k)
        go true t no' rest = (h, refl)
        go false t no' rest = rest no'

    no-one : hosts_of sources p ≡ [] → ⊥
    no-one none = let zero' : (length (hosts_of sources p) == 0) ≡ true = ap (λ hs. length hs == 0) none in cc

-- none of them is missing
none-missing : (sources : List Source) (listed : List ℕ) → find (is_missing sources) listed ≡ None → (p : ℕ) → Mem p listed
    → is_missing sources p ≡ false
none-missing sources listed none p m = go (is_missing sources p) refl
  where
    go : (b : Bool) → is_missing sources p ≡ b → is_missing sources p ≡ false
    go false e = e
    go true e = absurd (let found = mem-find (is_missing sources) listed p m e in let it = found.1 in cc)

-- the processes as they start
pub record Begins (s : Setting) (listed : List ℕ) (cs : List Player) : Type 0 where
  pub numbers_are : map (λ (c : Player). c.me) cs ≡ listed
  pub starts : (c : Player) → Mem c cs → c.now ≡ start s c.me c.batch_limit
  pub no_turns : (c : Player) → Mem c cs → c.turns ≡ []

begins : (s : Setting) (sources : List Source) (listed : List ℕ) → ((p : ℕ) → Mem p listed → is_missing sources p ≡ false)
    → Begins s listed (players_of s sources listed)
begins s sources [] there = record { numbers_are = refl; starts = λ c m. absurd m; no_turns = λ c m. absurd m }
begins s sources (p ∷ listed) there =
    let one = begun s sources p (there p (inl refl)) in
    go one.0 (player_by s sources p) one.1 one.2 one.3 one.4 (begins s sources listed (λ q m. there q (inr m)))
  where
    go : (c : Player) (o : Option Player) → o ≡ Some c → c.me ≡ p → c.now ≡ start s c.me c.batch_limit → c.turns ≡ []
        → Begins s listed (players_of s sources listed) → Begins s (p ∷ listed) (cons_option o (players_of s sources listed))
    go c None e me now turns rest = absurd cc
    go c (Some d) e me now turns rest =
        let is : c ≡ d = cc in
        record {
          numbers_are = λ i. (ap (λ (c : Player). c.me) (sym is) ∙ me) i ∷ rest.numbers_are i;
          starts = λ x m. elim m [
            | inl same ↦ subst (λ (x : Player). x.now ≡ start s x.me x.batch_limit) (is ∙ same) now
            | inr m' ↦ rest.starts x m'
          ];
          no_turns = λ x m. elim m [
            | inl same ↦ subst (λ (x : Player). x.turns ≡ []) (is ∙ same) turns
            | inr m' ↦ rest.no_turns x m'
          ];
        }

pub cast-begins : (s : Setting) (sources : List Source) (listed : List ℕ) (cs : List Player) → cast_of s sources listed ≡ Ok cs → Begins s listed cs
cast-begins s sources listed cs e = go (find (is_missing sources) listed) refl e
  where
    then' : (o : Option ℕ) → (let it : Result (List Player) AuditFault = elim o [ Some p ↦ Err (Repeated p) | None ↦ Ok (players_of s sources listed) ] in it) ≡ Ok cs
        → players_of s sources listed ≡ cs
    then' (Some p) e = absurd cc
    then' None e = cc

    go : (o : Option ℕ) → find (is_missing sources) listed ≡ o
        → (let it : Result (List Player) AuditFault = elim o [
          | Some p ↦ Err (Missing p)
          | None ↦ elim (find (λ p. nat_lt 1 (length (hosts_of sources p))) listed) [ Some p ↦ Err (Repeated p) | None ↦ Ok (players_of s sources listed) ]
        ] in it) ≡ Ok cs → Begins s listed cs
    go (Some p) f e = absurd cc
    go None f e = subst (Begins s listed) (then' (find (λ p. nat_lt 1 (length (hosts_of sources p))) listed) e)
        (begins s sources listed (none-missing sources listed f))

run-none : (s : Setting) (p : Process) → run s p [] ≡ p
unfolding run
run-none s p = refl

pub start-holds : (s : Setting) (listed : List ℕ) (cs : List Player) → Begins s listed cs → Holds s listed (record { players = cs; claims = [] })
start-holds s listed cs b = record {
  numbers_are = b.numbers_are;
  runs = λ c m. b.starts c m ∙ sym (ap (run s (start s c.me c.batch_limit)) (b.no_turns c m) ∙ run-none s (start s c.me c.batch_limit));
  from = λ x m. absurd m;
  handed_in = λ c x m n. absurd (subst (λ ts. Mem x (handed_to ts)) (b.no_turns c m) n);
  signed_in = λ c x m n. absurd (subst (λ (p : Process). Mem x p.signed) (b.starts c m) n);
  valid = λ c x m n. absurd (subst (λ (p : Process). Mem x p.signed) (b.starts c m) n);
}

-- ---- the end

-- what an audit that comes to its end has gone through
pub record Came (s : Setting) (listed : List ℕ) (a : Audited) : Type 0 where
  pub known : Known
  pub holds : Holds s listed known
  pub is : a ≡ record { family = family_of s known.players; claims = known.claims }

ends_as : Setting → Known → Result Audited AuditFault
unfolding audited_in
ends_as s known = Ok (record { family = family_of s known.players; claims = known.claims })

pub came : (s : Setting) (sources : List Source) (listed : List ℕ) (a : Audited) → audited_in s sources listed ≡ Ok a → Came s listed a
unfolding audited_in ends_as
came s sources listed a e = one (cast_of s sources listed) refl e
  where
    two : (cs : List Player) → Begins s listed cs → (r : Result Known AuditFault)
        → goes_through s (record { players = cs; claims = [] }) (steps_of sources) ≡ r → (r >>= ends_as s) ≡ Ok a → Came s listed a
    two cs b (Err fault) is e = absurd cc
    two cs b (Ok known) is e = record {
      known = known;
      holds = through-holds s listed (steps_of sources) (record { players = cs; claims = [] }) known (start-holds s listed cs b) is;
      is = cc;
    }

    one : (r : Result (List Player) AuditFault) → cast_of s sources listed ≡ r
        → (r >>= λ cs. goes_through s (record { players = cs; claims = [] }) (steps_of sources) >>= ends_as s) ≡ Ok a → Came s listed a
    one (Err fault) is e = absurd cc
    one (Ok cs) is e = two cs (cast-begins s sources listed cs is)
        (goes_through s (record { players = cs; claims = [] }) (steps_of sources)) refl e

pub came-with : (kit : Kit) (listed : List ℕ) (journals : List (List ℕ)) (a : Audited) → audited kit listed journals ≡ Ok a
    → Came (setting_of kit) listed a
unfolding audited
came-with kit listed journals a e = go (sources_of kit journals) e
  where
    go : (r : Result (List Source) AuditFault) → (r >>= λ sources. audited_in (setting_of kit) sources listed) ≡ Ok a
        → Came (setting_of kit) listed a
    go (Err fault) e = absurd cc
    go (Ok sources) e = came (setting_of kit) sources listed a e

numbers-of : (s : Setting) (cs : List Player) → numbers (family_of s cs) ≡ map (λ (c : Player). c.me) cs
numbers-of s [] = refl
numbers-of s (c ∷ cs) = ap (λ ns. c.me ∷ ns) (numbers-of s cs)

module _ (s : Setting) (listed : List ℕ) (k : Known) (h : Holds s listed k) where
  f : Family
  f = family_of s k.players

  -- a process at the end is one of the players
  player-of : (p : Process) → Mem p (ends (family_of s k.players)) → (c : Player) × Mem c k.players × (c.now ≡ p)
  player-of p m =
      let a = map-mem (end_of s) (map correct_of k.players) p m in
      let b = map-mem correct_of k.players a.0 a.1 in
      (b.0, b.1, h.runs b.0 b.1 ∙ ap (end_of s) b.2 ∙ a.2)

  end-of-player : (c : Player) → Mem c k.players → Mem c.now (ends (family_of s k.players))
  end-of-player c m = subst (λ p. Mem p (ends (family_of s k.players))) (sym (h.runs c m))
      (mem-map (end_of s) (map correct_of k.players) (correct_of c) (mem-map correct_of k.players c m))

  handed-of : (x : Claim) → (cs : List Player) → Mem x (flat_map (λ (c : Correct). handed_to c.turns) (map correct_of cs))
      → (c : Player) × Mem c cs × Mem x (handed_to c.turns)
  handed-of x [] m = absurd m
  handed-of x (c ∷ cs) m = elim (append-mem (handed_to c.turns) (flat_map (λ (c : Correct). handed_to c.turns) (map correct_of cs)) x m) [
    | inl here ↦ (c, inl refl, here)
    | inr there ↦ let r = handed-of x cs there in (r.0, inr r.1, r.2)
  ]

  handed-from : (x : Claim) (c : Player) → Mem c k.players → Mem x (handed_to c.turns) → Mem x (handed (family_of s k.players))
  handed-from x c m n = mem-flat_map (λ (c : Correct). handed_to c.turns) (map correct_of k.players) (correct_of c) x
      (mem-map correct_of k.players c m) n

  pub claims-are : (x : Claim) → (Contains k.claims x → Contains (handed (family_of s k.players)) x
      ⊎ ((p : Process) × Contains (ends (family_of s k.players)) p × Contains p.signed x))
  claims-are x there =
      let at = h.from x (Contains-mem k.claims x there) in
      elim at.2 [
        | inl n ↦ inl (mem-Contains _ x (handed-from x at.0 at.1 n))
        | inr n ↦ inr (at.0.now, mem-Contains _ at.0.now (end-of-player at.0 at.1), mem-Contains _ x n)
      ]

  pub are-claims : (x : Claim) → Contains (handed (family_of s k.players)) x
      ⊎ ((p : Process) × Contains (ends (family_of s k.players)) p × Contains p.signed x) → Contains k.claims x
  are-claims x (inl there) =
      let at = handed-of x k.players (Contains-mem _ x there) in
      mem-Contains k.claims x (h.handed_in at.0 x at.1 at.2)
  are-claims x (inr own) =
      let at = player-of own.0 (Contains-mem _ own.0 own.1) in
      mem-Contains k.claims x (h.signed_in at.0 x at.1 (subst (λ (p : Process). Mem x p.signed) (sym at.2) (Contains-mem _ x own.2)))

  pub own-valid : (p : Process) → Mem p (ends (family_of s k.players)) → (x : Claim) → Mem x p.signed → is_valid s x ≡ true
  own-valid p m x n =
      let at = player-of p m in
      h.valid at.0 x at.1 (subst (λ (p : Process). Mem x p.signed) (sym at.2) n)

pub of-listed : (kit : Kit) (listed : List ℕ) (k : Known) → Holds (setting_of kit) listed k
    → IsOfListed kit listed (record { family = family_of (setting_of kit) k.players; claims = k.claims })
of-listed kit listed k h = record {
  setting = refl;
  listed_are = numbers-of (setting_of kit) k.players ∙ h.numbers_are;
  claims = λ c. (claims-are (setting_of kit) listed k h c, are-claims (setting_of kit) listed k h c);
  valid = mem-All (λ (p : Process). All (λ (c : Claim). IsTrue (is_valid (setting_of kit) c)) p.signed) _
      (λ p m. mem-All (λ (c : Claim). IsTrue (is_valid (setting_of kit) c)) p.signed (own-valid (setting_of kit) listed k h p m));
}

pub audit_is_of_listed : AuditIsOfListed
audit_is_of_listed kit listed journals a e =
    let c = came-with kit listed journals a e in
    subst (IsOfListed kit listed) (sym c.is) (of-listed kit listed c.known c.holds)
