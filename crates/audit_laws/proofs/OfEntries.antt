-- The turns of each process are those of its own entries.
use Rattle.std.proofs.Common.{◌≡◌, inl, inr, ℕ, suc, ◌+◌, ◌<◌, List, [], ◌∷◌, ◌++◌, map, Option, Some, None, Bool, true, false, refl, sym, ap, ◌∙◌, subst, arith}
use Rattle.std.specs.Prelude.{if◌then◌else◌, ◌==◌, ◌&&◌, slice_index, option_map, All, Result, Ok, Err}
use Rattle.std.specs.List.Sorted.{IsStrictlyIncreasing}
use Rattle.std.proofs.lemmas.Bool.{eqb-true}
use Rattle.std.proofs.lemmas.List.{append-nil, append_assoc}
use Rattle.byte_defs.specs.Fields.{◌>>=◌}
use Rattle.journal_defs.specs.Entries.{Entry}
use Rattle.group_defs.specs.Process.{Setting, start}
use Rattle.group_defs.specs.Events.{after}
use Rattle.group_defs.specs.Family.{Correct}
use Rattle.pool_laws.proofs.Members.{Mem, map-mem, mem-All}
use Rattle.audit_defs.specs.Sources.{Step, Takes, Breaks, steps_of}
use Rattle.audit_defs.specs.Players.{Player, Taken, turn_of, is_written, claims_of, with_turn, absorbed, behind, taking, turns_from, correct_of, family_of}
use Rattle.audit_defs.specs.Audits.{AuditFault, Known, knows, goes_through, cast_of, Audited, audited_in}
use Rattle.audit_defs.specs.Laws.{own_entries, FamilyIsOfEntries}
use Rattle.audit_laws.proofs.OfListed.{Begins, cast-begins}

-- ---- each number once

abbrev Apart : List ℕ → Type 0
Apart [] = Unit {0}
Apart (n ∷ ns) = ((m : ℕ) → Mem m ns → m ≡ n → ⊥) × Apart ns

rising-tail : (n : ℕ) (ns : List ℕ) → IsStrictlyIncreasing (n ∷ ns) → IsStrictlyIncreasing ns
rising-tail n ns up k lt =
    let next : suc k + 1 ≡ suc (k + 1) = omega arith in
    subst (λ j. slice_index ns k < slice_index (n ∷ ns) j) next (up (suc k) (omega (arith, lt)))

rising-above : (n : ℕ) (ns : List ℕ) → IsStrictlyIncreasing (n ∷ ns) → (m : ℕ) → Mem m ns → n < m
rising-above n [] up m there = absurd there
rising-above n (k ∷ ks) up m there =
    let first : n < k = up 0 (omega arith) in
    elim there [
      | inl is ↦ subst (λ m. n < m) is first
      | inr later ↦ let above = rising-above k ks (rising-tail n (k ∷ ks) up) m later in omega (arith, first, above)
    ]

apart : (ns : List ℕ) → IsStrictlyIncreasing ns → Apart ns
apart [] up = tt
apart (n ∷ ns) up = ((λ m there is. let above = rising-above n ns up m there in omega (arith, above, is)), apart ns (rising-tail n ns up))

-- ---- one step, of each process

abbrev moves : Setting → Entry → Player → Player
moves s e c = if c.me == e.process then with_turn s c (turn_of c.now e) else c

stay : (s : Setting) (e : Entry) (cs : List Player) → ((m : ℕ) → Mem m (map (λ (c : Player). c.me) cs) → m ≡ e.process → ⊥)
    → cs ≡ map (moves s e) cs
stay s e [] other = refl
stay s e (c ∷ cs) other = go (c.me == e.process) refl (stay s e cs (λ m there. other m (inr there)))
  where
    go : (b : Bool) → (c.me == e.process) ≡ b → cs ≡ map (moves s e) cs
        → c ∷ cs ≡ (if b then with_turn s c (turn_of c.now e) else c) ∷ map (moves s e) cs
    go true is rest = absurd (other c.me (inl refl) (eqb-true c.me e.process is))
    go false is rest = ap (λ ds. c ∷ ds) rest

taking-moves : (s : Setting) (j : ℕ) (e : Entry) (cs : List Player) (t : Taken) → Apart (map (λ (c : Player). c.me) cs)
    → taking s j e cs ≡ Some t → t.players ≡ map (moves s e) cs
unfolding taking
taking-moves s j e [] t distinct is = sym (players-of is)
  where
    players-of : Some (record { players = []; claims = [] }) ≡ Some t → [] ≡ t.players
    players-of is = let same : record { players = []; claims = [] } ≡ t = cc in ap (λ (t : Taken). t.players) same
taking-moves s j e (c ∷ cs) t distinct is = go (c.me == e.process) refl is (λ u. taking-moves s j e cs u distinct.1)
  where
    turned : (b : Bool)
        → (if b then Some (record { players = with_turn s c (turn_of c.now e) ∷ cs; claims = claims_of s c.now (turn_of c.now e) }) else None)
        ≡ Some t → t.players ≡ with_turn s c (turn_of c.now e) ∷ cs
    turned true is =
        let same : record { players = with_turn s c (turn_of c.now e) ∷ cs; claims = claims_of s c.now (turn_of c.now e) } ≡ t = cc in
        sym (ap (λ (t : Taken). t.players) same)
    turned false is = absurd cc

    later : (o : Option Taken) → taking s j e cs ≡ o → option_map (behind c) o ≡ Some t
        → ((u : Taken) → taking s j e cs ≡ Some u → u.players ≡ map (moves s e) cs) → t.players ≡ c ∷ map (moves s e) cs
    later None is' is rest = absurd cc
    later (Some u) is' is rest =
        let same : behind c u ≡ t = cc in
        sym (ap (λ (t : Taken). t.players) same) ∙ ap (λ ds. c ∷ ds) (rest u is')

    go : (b : Bool) → (c.me == e.process) ≡ b → (if b then absorbed s j e c cs else option_map (behind c) (taking s j e cs)) ≡ Some t
        → ((u : Taken) → taking s j e cs ≡ Some u → u.players ≡ map (moves s e) cs)
        → t.players ≡ (if b then with_turn s c (turn_of c.now e) else c) ∷ map (moves s e) cs
    go true at is rest =
        let me = eqb-true c.me e.process at in
        turned ((c.journal == j) && is_written s c.now e) is
        ∙ ap (λ ds. with_turn s c (turn_of c.now e) ∷ ds) (stay s e cs (λ m there is'. distinct.0 m there (is' ∙ sym me)))
    go false at is rest = later (taking s j e cs) refl is rest

-- ---- all steps

abbrev moves_all : Setting → List Step → Player → Player
moves_all s [] c = c
moves_all s (Takes j place e ∷ steps) c = moves_all s steps (moves s e c)
moves_all s (Breaks j place ∷ steps) c = moves_all s steps c

same-numbers : (s : Setting) (e : Entry) (cs : List Player) → map (λ (c : Player). c.me) (map (moves s e) cs) ≡ map (λ (c : Player). c.me) cs
same-numbers s e [] = refl
same-numbers s e (c ∷ cs) = λ i. me-is (c.me == e.process) i ∷ same-numbers s e cs i
  where
    me-is : (b : Bool) → (let d : Player = if b then with_turn s c (turn_of c.now e) else c in d.me) ≡ c.me
    me-is true = refl
    me-is false = refl

map-map : (f g : Player → Player) (cs : List Player) → map g (map f cs) ≡ map (λ c. g (f c)) cs
map-map f g [] = refl
map-map f g (c ∷ cs) = ap (λ ds. g (f c) ∷ ds) (map-map f g cs)

map-same : (cs : List Player) → cs ≡ map (λ c. c) cs
map-same [] = refl
map-same (c ∷ cs) = ap (λ ds. c ∷ ds) (map-same cs)

through : (s : Setting) (steps : List Step) (k k' : Known) → Apart (map (λ (c : Player). c.me) k.players) → goes_through s k steps ≡ Ok k'
    → k'.players ≡ map (moves_all s steps) k.players
unfolding goes_through
through s [] k k' distinct e = let same : k ≡ k' = cc in sym (ap (λ (k : Known). k.players) same) ∙ map-same k.players
through s (Breaks j place ∷ steps) k k' distinct e = absurd cc
through s (Takes j place entry ∷ steps) k k' distinct e = go (taking s j entry k.players) refl e (λ next. through s steps next k')
  where
    go : (o : Option Taken) → taking s j entry k.players ≡ o → (knows k j place o >>= λ next. goes_through s next steps) ≡ Ok k'
        → ((next : Known) → Apart (map (λ (c : Player). c.me) next.players) → goes_through s next steps ≡ Ok k'
        → k'.players ≡ map (moves_all s steps) next.players) → k'.players ≡ map (λ c. moves_all s steps (moves s entry c)) k.players
    go None is e rest = absurd cc
    go (Some t) is e rest =
        let new = taking-moves s j entry k.players t distinct is in
        let numbers : map (λ (c : Player). c.me) t.players ≡ map (λ (c : Player). c.me) k.players =
        ap (map (λ (c : Player). c.me)) new ∙ same-numbers s entry k.players in
        rest (record { players = t.players; claims = k.claims ++ t.claims }) (subst Apart (sym numbers) distinct) e
        ∙ ap (map (moves_all s steps)) new ∙ map-map (moves s entry) (moves_all s steps) k.players

-- ---- what has become of one process

record Advanced (s : Setting) (steps : List Step) (c d : Player) : Type 0 where
  pub me : d.me ≡ c.me
  pub limit : d.batch_limit ≡ c.batch_limit
  pub turns : d.turns ≡ c.turns ++ turns_from s c.now (own_entries c.me steps)

advances : (s : Setting) (steps : List Step) (c : Player) → Advanced s steps c (moves_all s steps c)
unfolding turns_from
advances s [] c = record { me = refl; limit = refl; turns = sym (append-nil c.turns) }
advances s (Breaks j place ∷ steps) c = let r = advances s steps c in record { me = r.me; limit = r.limit; turns = r.turns }
advances s (Takes j place e ∷ steps) c =
    let r = go (c.me == e.process) (advances s steps (with_turn s c (turn_of c.now e))) (advances s steps c) in
    record { me = r.0; limit = r.1; turns = r.2 }
  where
    go : (b : Bool) → Advanced s steps (with_turn s c (turn_of c.now e)) (moves_all s steps (with_turn s c (turn_of c.now e)))
        → Advanced s steps c (moves_all s steps c)
        → let d : Player = moves_all s steps (if b then with_turn s c (turn_of c.now e) else c) in
        (d.me ≡ c.me) × (d.batch_limit ≡ c.batch_limit)
        × (d.turns ≡ c.turns ++ turns_from s c.now (if b then e ∷ own_entries c.me steps else own_entries c.me steps))
    go true one other = (
      one.me,
      one.limit,
      one.turns ∙ append_assoc c.turns (turn_of c.now e ∷ [])
          (turns_from s (after s c.now (turn_of c.now e)) (own_entries c.me steps)),
    )
    go false one other = (other.me, other.limit, other.turns)

of-turns : (s : Setting) (steps : List Step) (c : Player) → c.now ≡ start s c.me c.batch_limit → c.turns ≡ []
    → (correct_of (moves_all s steps c)).turns ≡ turns_from s (start s (moves_all s steps c).me (moves_all s steps c).batch_limit)
    (own_entries (moves_all s steps c).me steps)
of-turns s steps c now none =
    let r = advances s steps c in
    r.turns ∙ ap (λ ts. ts ++ turns_from s c.now (own_entries c.me steps)) none
    ∙ (λ i. turns_from s ((now ∙ (λ j. start s (sym r.me j) (sym r.limit j))) i) (own_entries (sym r.me i) steps))

family-turns : (s : Setting) (steps : List Step) (listed : List ℕ) (cs : List Player) (k' : Known) → Begins s listed cs
    → k'.players ≡ map (moves_all s steps) cs
    → All (λ (c : Correct). c.turns ≡ turns_from s (start s c.me c.batch_limit) (own_entries c.me steps)) (family_of s k'.players).correct
family-turns s steps listed cs k' b is = mem-All _ (map correct_of k'.players) (λ x m.
    let one = map-mem correct_of k'.players x m in
    let two = map-mem (moves_all s steps) cs one.0 (subst (Mem one.0) is one.1) in
    subst (λ (c : Correct). c.turns ≡ turns_from s (start s c.me c.batch_limit) (own_entries c.me steps)) (ap correct_of two.2 ∙ one.2)
    (of-turns s steps two.0 (b.starts two.0 two.1) (b.no_turns two.0 two.1)))

ends_as : Setting → Known → Result Audited AuditFault
ends_as s known = Ok (record { family = family_of s known.players; claims = known.claims })

pub family_is_of_entries : FamilyIsOfEntries
unfolding audited_in ends_as
family_is_of_entries s sources listed a rising e = one (cast_of s sources listed) refl e
  where
    two : (cs : List Player) → Begins s listed cs → (r : Result Known AuditFault)
        → goes_through s (record { players = cs; claims = [] }) (steps_of sources) ≡ r → (r >>= ends_as s) ≡ Ok a
        → All (λ (c : Correct). c.turns ≡ turns_from s (start s c.me c.batch_limit) (own_entries c.me (steps_of sources))) a.family.correct
    two cs b (Err fault) is e = absurd cc
    two cs b (Ok known) is e =
        let same : record { family = family_of s known.players; claims = known.claims } ≡ a = cc in
        subst (λ (a : Audited). All (λ (c : Correct). c.turns ≡ turns_from s (start s c.me c.batch_limit) (own_entries c.me (steps_of sources)))
        a.family.correct) same
        (family-turns s (steps_of sources) listed cs known b
        (through s (steps_of sources) (record { players = cs; claims = [] }) known (subst Apart (sym b.numbers_are) (apart listed rising)) is))

    one : (r : Result (List Player) AuditFault) → cast_of s sources listed ≡ r
        → (r >>= λ cs. goes_through s (record { players = cs; claims = [] }) (steps_of sources) >>= ends_as s) ≡ Ok a
        → All (λ (c : Correct). c.turns ≡ turns_from s (start s c.me c.batch_limit) (own_entries c.me (steps_of sources))) a.family.correct
    one (Err fault) is e = absurd cc
    one (Ok cs) is e = two cs (cast-begins s sources listed cs is)
        (goes_through s (record { players = cs; claims = [] }) (steps_of sources)) refl e
