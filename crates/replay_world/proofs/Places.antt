-- What one of a list does, as a change of the list.
use Rattle.std.proofs.Common.{◌≡◌, ℕ, zero, suc, ◌+◌, ◌<◌, Bool, true, false, cond, List, [], ◌∷◌, length, get_or, Option, Some, None, Result, Ok, Err, refl, sym, ap, subst, ◌∙◌, arith}
use Rattle.std.specs.List.{position_from}
use Rattle.std.specs.Prelude.{IfOk, IfSome, IfNone, slice_get, slice_set}
use Rattle.std.proofs.lemmas.Option.{slice_get-get_or}
use Rattle.signature_defs.specs.Schemes.{is_valid}
use Rattle.sig_scheme.specs.Views.{scheme as scheme_of}
use Rattle.sig_scheme.specs.Signers.{total, signature}
use Rattle.sig_scheme.specs.declared.any_scheme.AnyScheme.{AnyScheme}
use Rattle.message_defs.specs.Statements.{Statement}
use Rattle.group_defs.specs.Process.{Setting}
use Rattle.replay_defs.specs.Worlds as plain
use Rattle.rp_base.specs.declared.memory.NoMemory.{NoMemory}
use Rattle.member_events.specs.declared.events.Event.{Event}
use Rattle.member_events.specs.declared.events.Outcome.{Outcome}
use Rattle.replay_cast.specs.declared.player.Player.{Player}
use Rattle.replay_cast.specs.declared.liar.Liar.{Liar}
use Rattle.replay_cast.specs.Players.{Plays, ArePlayers, Stepped}
use Rattle.replay_cast.specs.Liars.{Reported, Silent}
use Rattle.replay_world.specs.Stepping.{StepsAt}
use Rattle.replay_world.specs.Lying.{LiedAt, LiesAt, Lied}

-- ---- players

plays_at : (s : Setting) (ps : List Player) (cs : List plain.Player) (i : ℕ) (p : Player) (c : plain.Player) → ArePlayers s ps cs
    → slice_get ps i ≡ Some p → slice_get cs i ≡ Some c → Plays s p c
plays_at s [] [] i p c all get at = absurd cc
plays_at s (q ∷ ps) (d ∷ cs) zero p c all get at =
    let same : q ≡ p = cc in
    let also : d ≡ c = cc in
    let P : Player → Type 0 = λ x. Plays s x c in
    let Q : plain.Player → Type 0 = λ x. Plays s q x in
    subst P same (subst Q also all.0)
plays_at s (q ∷ ps) (d ∷ cs) (suc i) p c all get at = plays_at s ps cs i p c all.1 get at
plays_at s [] (d ∷ cs) i p c all get at = absurd all
plays_at s (q ∷ ps) [] i p c all get at = absurd all

plays_set : (s : Setting) (ps : List Player) (cs : List plain.Player) (i : ℕ) (p : Player) (c : plain.Player) → ArePlayers s ps cs
    → Plays s p c → ArePlayers s (slice_set ps i p) (slice_set cs i c)
plays_set s [] [] i p c all one = tt
plays_set s (q ∷ ps) (d ∷ cs) zero p c all one = (one, all.1)
plays_set s (q ∷ ps) (d ∷ cs) (suc i) p c all one = (all.0, plays_set s ps cs i p c all.1 one)
plays_set s [] (d ∷ cs) i p c all one = absurd all
plays_set s (q ∷ ps) [] i p c all one = absurd all

-- the player at a place steps
pub steps_at : (scheme : AnyScheme) (ps : List Player) (i : ℕ) (p q : Player) (e : Event) (r : Result Outcome NoMemory) → i < length ps
    → p ≡ get_or ps i p
    → ((s : Setting) (c : plain.Player) → Plays s p c → s.valid ≡ is_valid (scheme_of scheme) → IfOk r (Stepped s c q e))
    → IfOk r (StepsAt scheme ps (slice_set ps i q) i e)
steps_at scheme ps i p q e (Err none) low at steps = tt
steps_at scheme ps i p q e (Ok o) low at steps = λ s cs c valid all get.
    let first : slice_get ps i ≡ Some p = slice_get-get_or ps i p low ∙ ap (λ (x : Player). Some x) (sym at) in
    let step = steps s c (plays_at s ps cs i p c all first get) valid in
    record { players = plays_set s ps cs i q _ all step.plays; outcome = step.outcome }

-- ---- liars

lied_by : (group : List ℕ) (st : Statement) (x q : Liar) (lie : Option (List ℕ)) → IfSome lie (Reported group st x q) → IfNone lie (Silent x q)
    → Lied group st x q lie
lied_by group st x q (Some frame) reported silent = reported
lied_by group st x q None reported silent = silent

-- the liar at a place lies
pub lies_at : (group : List ℕ) (st : Statement) (xs : List Liar) (i : ℕ) (x q : Liar) (r : Result (Option (List ℕ)) NoMemory)
    → i < length xs → x ≡ get_or xs i x
    → IfOk r (λ lie. IfSome lie (Reported group st x q)) → IfOk r (λ lie. IfNone lie (Silent x q))
    → q.process ≡ x.process → total q.signer ≡ total x.signer → signature q.signer ≡ signature x.signer
    → IfOk r (LiesAt group st xs (slice_set xs i q) i)
lies_at group st xs i x q (Err none) low at reported silent process all secret = tt
lies_at group st xs i x q (Ok lie) low at reported silent process all secret = λ y get.
    let first : slice_get xs i ≡ Some x = slice_get-get_or xs i x low ∙ ap (λ (z : Liar). Some z) (sym at) in
    let same : x ≡ y = cc in
    let P : Liar → Type 0 = λ z. LiedAt group st xs (slice_set xs i q) i z lie in
    subst P same (record {
      now = q;
      same = record { process = process; total = all; secret = secret };
      all = refl;
      lied = lied_by group st x q lie reported silent;
    })

-- ---- places

-- a place that is found is one of the list
pub position_low : {X : Type 0} (f : X → Bool) (n : ℕ) (xs : List X) (i : ℕ) → position_from f n xs ≡ Some i → i < n + length xs
position_low f n [] i is = absurd cc
position_low {X} f n (x ∷ xs) i is = by_test (f x) is (position_low f (n + 1) xs i)
  where
    by_test : (b : Bool) → cond b (Some n) (position_from f (n + 1) xs) ≡ Some i
        → (position_from f (n + 1) xs ≡ Some i → i < n + 1 + length xs) → i < n + length (x ∷ xs)
    by_test true e rest = let same : n ≡ i = cc in omega arith
    by_test false e rest = omega (arith, rest e)
