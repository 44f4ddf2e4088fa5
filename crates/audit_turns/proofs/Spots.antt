-- The place of the process whose entry it is, among those of the audit.
use Rattle.std.proofs.Common.{◌≡◌, ◌⊎◌, inl, inr, ℕ, suc, ◌+◌, List, [], ◌∷◌, Bool, true, false, cond, Option, Some, None, refl, sym, ap, subst, ◌∙◌, arith}
use Rattle.std.specs.Prelude.{if◌then◌else◌, ◌==◌, option_map, slice_get, slice_set}
use Rattle.std.specs.List.{AllZip, position_from}
use Rattle.message_defs.specs.Statements.{Claim}
use Rattle.group_defs.specs.Process.{Setting}
use Rattle.group_defs.specs.Events.{outcome}
use Rattle.journal_defs.specs.Entries.{Entry}
use Rattle.pool_laws.proofs.Members.{Mem, append-mem, mem-append, mem-behind}
use Rattle.rp_base.specs.Signer.{count_used}
use Rattle.member_core.proofs.Joined.{signed-more}
use Rattle.member_core.proofs.Stepped.{me-so}
use Rattle.audit_defs.specs.Players as audit
use Rattle.audit_defs.specs.Players.{Taken, absorbed, behind, claims_of, taking, turn_of, with_turn}
use Rattle.audit_turns.specs.declared.player.Player.{Player}
use Rattle.audit_turns.specs.Players.{IsPlayer, is_taken, number_of}
use Rattle.audit_turns.specs.Walks.{all_signed}

module _ (s : Setting) (j : ℕ) (e : Entry) where
  -- the processes with the turn of c, at the place where the player has become q
  pub record Turned (cs : List audit.Player) (c : audit.Player) (pls : List Player) : Type 0 where
    pub players : List audit.Player
    pub taken : taking s j e cs ≡ Some (record { players = players; claims = claims_of s c.now (turn_of c.now e) })
    pub are : AllZip (IsPlayer s) players pls
    pub new : (x : Claim) → Mem x (all_signed players) → Mem x (all_signed cs) ⊎ Mem x (outcome s c.now (turn_of c.now e)).signed
    pub old : (x : Claim) → Mem x (all_signed cs) ⊎ Mem x (outcome s c.now (turn_of c.now e)).signed → Mem x (all_signed players)

  -- the process whose entry it is, at this place
  pub record Spot (cs : List audit.Player) (pls : List Player) (i : ℕ) : Type 0 where
    pub process : audit.Player
    pub player : Player
    pub at : slice_get pls i ≡ Some player
    pub is : IsPlayer s process player
    pub named : (process.me == e.process) ≡ true
    pub refused : is_taken s j e process ≡ false → taking s j e cs ≡ None
    pub turned : is_taken s j e process ≡ true → (q : Player) → IsPlayer s (with_turn s process (turn_of process.now e)) q
        → Turned cs process (slice_set pls i q)

  -- the number is the player's
  pub same-number : (c : audit.Player) (p : Player) → IsPlayer s c p → c.me ≡ number_of p
  same-number c p is = sym is.number ∙ me-so count_used s c.now p.core is.core

  named-so : (c : audit.Player) (p : Player) → IsPlayer s c p → (b : Bool) → (number_of p == e.process) ≡ b → (c.me == e.process) ≡ b
  named-so c p is b t = ap (λ n. n == e.process) (same-number c p is) ∙ t

  -- the first one
  module _ (c : audit.Player) (cs : List audit.Player) (p : Player) (pls : List Player) (is : IsPlayer s c p)
      (all : AllZip (IsPlayer s) cs pls) where
    takes-here : (c.me == e.process) ≡ true → taking s j e (c ∷ cs) ≡ absorbed s j e c cs
    unfolding taking
    takes-here t = ap (λ (b : Bool). if b then absorbed s j e c cs else option_map (behind c) (taking s j e cs)) t

    takes-there : (c.me == e.process) ≡ false → taking s j e (c ∷ cs) ≡ option_map (behind c) (taking s j e cs)
    unfolding taking
    takes-there t = ap (λ (b : Bool). if b then absorbed s j e c cs else option_map (behind c) (taking s j e cs)) t

    absorbed-by : (b : Bool) → is_taken s j e c ≡ b → absorbed s j e c cs ≡ (if b
        then Some (record { players = with_turn s c (turn_of c.now e) ∷ cs; claims = claims_of s c.now (turn_of c.now e) }) else None)
    absorbed-by b t = ap (λ (b : Bool). if b
        then Some (record { players = with_turn s c (turn_of c.now e) ∷ cs; claims = claims_of s c.now (turn_of c.now e) }) else None) t

    signs-here : (x : Claim) → Mem x (all_signed (with_turn s c (turn_of c.now e) ∷ cs))
        → Mem x (all_signed (c ∷ cs)) ⊎ Mem x (outcome s c.now (turn_of c.now e)).signed
    signs-here x m = elim (append-mem (with_turn s c (turn_of c.now e)).now.signed (all_signed cs) x m) [
      | inl mine ↦ elim (append-mem c.now.signed (outcome s c.now (turn_of c.now e)).signed x
          (subst (Mem x) (signed-more s c.now (turn_of c.now e)) mine)) [
            | inl before ↦ inl (mem-append c.now.signed (all_signed cs) x before)
            | inr now ↦ inr now
          ]
      | inr others ↦ inl (mem-behind c.now.signed (all_signed cs) x others)
    ]

    here-signs : (x : Claim) → Mem x (all_signed (c ∷ cs)) ⊎ Mem x (outcome s c.now (turn_of c.now e)).signed
        → Mem x (all_signed (with_turn s c (turn_of c.now e) ∷ cs))
    here-signs x (inl m) = elim (append-mem c.now.signed (all_signed cs) x m) [
      | inl mine ↦ mem-append (with_turn s c (turn_of c.now e)).now.signed (all_signed cs) x
          (subst (Mem x) (sym (signed-more s c.now (turn_of c.now e)))
          (mem-append c.now.signed (outcome s c.now (turn_of c.now e)).signed x mine))
      | inr others ↦ mem-behind (with_turn s c (turn_of c.now e)).now.signed (all_signed cs) x others
    ]
    here-signs x (inr now) = mem-append (with_turn s c (turn_of c.now e)).now.signed (all_signed cs) x
        (subst (Mem x) (sym (signed-more s c.now (turn_of c.now e)))
        (mem-behind c.now.signed (outcome s c.now (turn_of c.now e)).signed x now))

    here : (number_of p == e.process) ≡ true → Spot (c ∷ cs) (p ∷ pls) 0
    here t = record {
      process = c;
      player = p;
      at = refl;
      is = is;
      named = named-so c p is true t;
      refused = λ no'. takes-here (named-so c p is true t) ∙ absorbed-by false no';
      turned = λ yes' q new. record {
        players = with_turn s c (turn_of c.now e) ∷ cs;
        taken = takes-here (named-so c p is true t) ∙ absorbed-by true yes';
        are = (new, all);
        new = signs-here;
        old = here-signs;
      };
    }

    -- or a later one
    there : (number_of p == e.process) ≡ false → (i : ℕ) → Spot cs pls i → Spot (c ∷ cs) (p ∷ pls) (suc i)
    there t i spot = record {
      process = spot.process;
      player = spot.player;
      at = spot.at;
      is = spot.is;
      named = spot.named;
      refused = λ no'. takes-there (named-so c p is false t) ∙ ap (option_map (behind c)) (spot.refused no');
      turned = λ yes' q new. let rest = spot.turned yes' q new in record {
        players = c ∷ rest.players;
        taken = takes-there (named-so c p is false t) ∙ ap (option_map (behind c)) rest.taken;
        are = (is, rest.are);
        new = λ x m. elim (append-mem c.now.signed (all_signed rest.players) x m) [
          | inl mine ↦ inl (mem-append c.now.signed (all_signed cs) x mine)
          | inr others ↦ elim (rest.new x others) [
            | inl before ↦ inl (mem-behind c.now.signed (all_signed cs) x before)
            | inr now ↦ inr now
          ]
        ];
        old = λ x m. elim m [
          | inl before ↦ elim (append-mem c.now.signed (all_signed cs) x before) [
            | inl mine ↦ mem-append c.now.signed (all_signed rest.players) x mine
            | inr others ↦ mem-behind c.now.signed (all_signed rest.players) x (rest.old x (inl others))
          ]
          | inr now ↦ mem-behind c.now.signed (all_signed rest.players) x (rest.old x (inr now))
        ];
      };
    }

  -- what is found, counted from n
  pub record Counted (cs : List audit.Player) (pls : List Player) (n i : ℕ) : Type 0 where
    pub place : ℕ
    pub counted : i ≡ n + place
    pub spot : Spot cs pls place

  abbrev pub Finds : List audit.Player → List Player → ℕ → Option ℕ → Type 0
  Finds cs pls n None = taking s j e cs ≡ Some (record { players = cs; claims = [] })
  Finds cs pls n (Some i) = Counted cs pls n i

  finds-on : (c : audit.Player) (cs : List audit.Player) (p : Player) (pls : List Player) → IsPlayer s c p → AllZip (IsPlayer s) cs pls
      → (n : ℕ) (b : Bool) → (number_of p == e.process) ≡ b → (r : Option ℕ) → Finds cs pls (n + 1) r
      → Finds (c ∷ cs) (p ∷ pls) n (cond b (Some n) r)
  finds-on c cs p pls is all n true t r rest = record { place = 0; counted = omega arith; spot = here c cs p pls is all t }
  finds-on c cs p pls is all n false t None rest = takes-there c cs p pls is all (named-so c p is false t) ∙ ap (option_map (behind c)) rest
  finds-on c cs p pls is all n false t (Some i) rest = record {
    place = suc rest.place;
    counted = omega (arith, rest.counted);
    spot = there c cs p pls is all t rest.place rest.spot;
  }

  pub finds : (cs : List audit.Player) (pls : List Player) (n : ℕ) → AllZip (IsPlayer s) cs pls
      → Finds cs pls n (position_from (λ q. number_of q == e.process) n pls)
  unfolding taking
  finds [] [] n all = refl
  finds [] (p ∷ pls) n all = absurd all
  finds (c ∷ cs) [] n all = absurd all
  finds (c ∷ cs) (p ∷ pls) n all =
      finds-on c cs p pls all.0 all.1 n (number_of p == e.process) refl
      (position_from (λ q. number_of q == e.process) (n + 1) pls) (finds cs pls (n + 1) all.1)
