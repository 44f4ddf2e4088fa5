-- What an entry makes of a walk.
use Rattle.std.proofs.Common.{◌≡◌, inl, inr, ℕ, ◌<◌, List, [], ◌++◌, get_or, length, Bool, true, false, Option, Some, None, Result, Ok, Err, refl, sym, ap, subst, ◌∙◌, arith}
use Rattle.std.specs.Prelude.{◌==◌, IsTrue, IsOkUnless, OnOk, slice_get, slice_set}
use Rattle.std.specs.List.{AllZip, position_from}
use Rattle.std.proofs.lemmas.List.{append-nil}
use Rattle.std.proofs.lemmas.Option.{slice_get-get_or}
use Rattle.message_defs.specs.Statements.{Claim}
use Rattle.group_defs.specs.Process.{Setting}
use Rattle.group_defs.specs.Events.{outcome}
use Rattle.journal_defs.specs.Entries.{Entry}
use Rattle.pool_laws.proofs.Members.{Contains-mem, mem-Contains, append-mem, mem-append, mem-behind}
use Rattle.claim_firsts.specs.Tables.{Table}
use Rattle.claim_firsts.specs.Seen.{Saw}
use Rattle.claim_firsts.proofs.Results.{on-ok}
use Rattle.member_core.specs.declared.absorbing.AbsorbFault.{AbsorbFault}
use Rattle.member_core.specs.declared.absorbing.AbsorbFault.TheVariants.{Differs, NoMemory}
use Rattle.audit_defs.specs.Players as audit
use Rattle.audit_defs.specs.Players.{Taken, claims_of, taking, turn_of, with_turn}
use Rattle.audit_defs.specs.Audits.{Known}
use Rattle.audit_turns.specs.declared.player.Player.{Player}
use Rattle.audit_turns.specs.declared.walk.Walk.{Walk}
use Rattle.audit_turns.specs.Players.{IsPlayer, is_taken, number_of}
use Rattle.audit_turns.specs.Walks.{GoesOn, IsWalk, TakesAt, all_signed}
use Rattle.audit_turns.proofs.Spots.{Counted, Finds, Spot, finds}

abbrev Came : Type 0
Came = Result (Unit {0}) AbsorbFault

-- ---- at a place

module _ (s : Setting) (at j : ℕ) (e : Entry) (old : List Player) (p q : Player) (before after : Table) (r : Came) (low : at < length old)
    (is-at : p ≡ get_or old at p) where
  same-player : (x : Player) → slice_get old at ≡ Some x → p ≡ x
  same-player x get = some-is (ap (λ (y : Player). Some y) is-at ∙ sym (slice_get-get_or old at p low) ∙ get)
    where
      some-is : Some p ≡ Some x → p ≡ x
      some-is e = cc

  pub takes-at : ((c : audit.Player) (claims own : List Claim) → IsPlayer s c p → Saw s claims own before
      → OnOk r (IsTrue (is_taken s j e c) × IsPlayer s (with_turn s c (turn_of c.now e)) q
      × Saw s (claims ++ claims_of s c.now (turn_of c.now e)) (own ++ (outcome s c.now (turn_of c.now e)).signed) after))
      → ((c : audit.Player) (claims own : List Claim) → IsPlayer s c p → Saw s claims own before → IsTrue (c.me == e.process)
      → IsTrue (is_taken s j e c) → IsOkUnless r NoMemory)
      → TakesAt s at j e old (slice_set old at q) before after r
  takes-at taken only = record {
    taken = λ c x claims own get is saw. on-ok
        (IsTrue (is_taken s j e c) × IsPlayer s (with_turn s c (turn_of c.now e)) q
        × Saw s (claims ++ claims_of s c.now (turn_of c.now e)) (own ++ (outcome s c.now (turn_of c.now e)).signed) after)
        (IsTrue (is_taken s j e c)
        × ((y : Player) × (slice_set old at q ≡ slice_set old at y) × IsPlayer s (with_turn s c (turn_of c.now e)) y)
        × Saw s (claims ++ claims_of s c.now (turn_of c.now e)) (own ++ (outcome s c.now (turn_of c.now e)).signed) after) r
        (λ t. (t.0, (q, refl, t.1), t.2)) (taken c claims own (subst (IsPlayer s c) (sym (same-player x get)) is) saw);
    only = λ c x claims own get is saw named yes'. only c claims own (subst (IsPlayer s c) (sym (same-player x get)) is) saw named yes';
  }

-- ---- all of them

module _ (s : Setting) (j : ℕ) (e : Entry) (k : Known) (own : List Claim) (old : Walk) (walk : IsWalk s k own old) where
  found : (o : Option ℕ) → o ≡ position_from (λ q. number_of q == e.process) 0 old.players.items → Finds s j e k.players old.players.items 0 o
  found o is = subst (Finds s j e k.players old.players.items 0) (sym is) (finds s j e k.players old.players.items 0 walk.players)

  spot-at : (at : ℕ) → Counted s j e k.players old.players.items 0 at → Spot s j e k.players old.players.items at
  spot-at at counted =
      let same : counted.place ≡ at = omega (arith, counted.counted) in
      subst (Spot s j e k.players old.players.items) same counted.spot

  module _ (at : ℕ) (is : Some at ≡ position_from (λ q. number_of q == e.process) 0 old.players.items) (new : Walk) (r : Came)
      (takes : TakesAt s at j e old.players.items new.players.items old.claims new.claims r) where
    spot : Spot s j e k.players old.players.items at
    spot = spot-at at (found (Some at) is)

    more : List Claim
    more = (outcome s spot.process.now (turn_of spot.process.now e)).signed

    pub goes-on : OnOk r (GoesOn s k own (taking s j e k.players) new)
    goes-on = on-ok
        (IsTrue (is_taken s j e spot.process)
        × ((q : Player) × (new.players.items ≡ slice_set old.players.items at q)
        × IsPlayer s (with_turn s spot.process (turn_of spot.process.now e)) q)
        × Saw s (k.claims ++ claims_of s spot.process.now (turn_of spot.process.now e))
        (own ++ (outcome s spot.process.now (turn_of spot.process.now e)).signed) new.claims)
        (GoesOn s k own (taking s j e k.players) new) r
        (λ t.
        let turned = spot.turned t.0 t.1.0 t.1.2 in (
          record { players = turned.players; claims = claims_of s spot.process.now (turn_of spot.process.now e) },
          turned.taken,
          record {
            more = (outcome s spot.process.now (turn_of spot.process.now e)).signed;
            walk = record {
              players = subst (AllZip (IsPlayer s) turned.players) (sym t.1.1) turned.are;
              claims = t.2;
              said = λ x. (
                λ there. mem-Contains (all_signed turned.players) x (elim (append-mem own
                    (outcome s spot.process.now (turn_of spot.process.now e)).signed x (Contains-mem _ x there)) [
                      | inl was ↦ turned.old x (inl (Contains-mem (all_signed k.players) x ((walk.said x).0 (mem-Contains own x was))))
                      | inr now ↦ turned.old x (inr now)
                    ]),
                λ there. mem-Contains _ x (elim (turned.new x (Contains-mem (all_signed turned.players) x there)) [
                  | inl was ↦ mem-append own (outcome s spot.process.now (turn_of spot.process.now e)).signed x
                      (Contains-mem own x ((walk.said x).1 (mem-Contains (all_signed k.players) x was)))
                  | inr now ↦ mem-behind own (outcome s spot.process.now (turn_of spot.process.now e)).signed x now
                ]),
              );
            };
          },
        ))
        (takes.taken spot.process spot.player k.claims own spot.at spot.is walk.claims)

    pub goes-nowhere : r ≡ Err Differs → taking s j e k.players ≡ None
    goes-nowhere e' = go (is_taken s j e spot.process) refl
      where
        differs : (b : Came) → b ≡ Err Differs → IsOkUnless b NoMemory → ⊥
        differs (Ok x) is' h = absurd cc
        differs (Err f) is' h = absurd cc

        go : (b : Bool) → is_taken s j e spot.process ≡ b → taking s j e k.players ≡ None
        go false no' = spot.refused no'
        go true yes' = absurd (differs r e' (takes.only spot.process spot.player k.claims own spot.at spot.is walk.claims spot.named yes'))

  -- it is none of theirs
  pub passed-over : None ≡ position_from (λ q. number_of q == e.process) 0 old.players.items → GoesOn s k own (taking s j e k.players) old
  passed-over is = (
    record { players = k.players; claims = [] },
    found None is,
    record {
      more = [];
      walk = subst (λ cs. IsWalk s (record { players = k.players; claims = k.claims ++ [] }) cs old) (sym (append-nil own))
          (subst (λ cs. IsWalk s (record { players = k.players; claims = cs }) own old) (sym (append-nil k.claims)) walk);
    },
  )
