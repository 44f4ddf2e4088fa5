-- A walk as it begins, and with one process more.
use Rattle.std.proofs.Common.{◌≡◌, ℕ, List, [], ◌∷◌, ◌++◌, refl, sym, ap, subst}
use Rattle.std.specs.Prelude.{◌↔◌, Contains}
use Rattle.std.specs.List.{AllZip}
use Rattle.message_defs.specs.Statements.{Claim}
use Rattle.group_defs.specs.Process.{Setting}
use Rattle.claim_firsts.specs.Seen.{Saw}
use Rattle.audit_defs.specs.Players as audit
use Rattle.audit_defs.specs.Audits.{Known}
use Rattle.audit_turns.specs.declared.player.Player.{Player}
use Rattle.audit_turns.specs.declared.walk.Walk.{Walk}
use Rattle.audit_turns.specs.Players.{IsPlayer, begun}
use Rattle.audit_turns.specs.Walks.{IsWalk, all_signed, with_player}

pub none-walk : (s : Setting) (w : Walk) → w.players.items ≡ [] → Saw s [] [] w.claims → IsWalk s (record { players = []; claims = [] }) [] w
none-walk s w none saw = record {
  players = subst (AllZip (IsPlayer s) []) (sym none) tt;
  claims = saw;
  said = λ c. (λ there. there, λ there. there);
}

zip-last : (s : Setting) (cs : List audit.Player) (pls : List Player) (c : audit.Player) (p : Player) → AllZip (IsPlayer s) cs pls → IsPlayer s c p
    → AllZip (IsPlayer s) (cs ++ c ∷ []) (pls ++ p ∷ [])
zip-last s [] [] c p all is = (is, tt)
zip-last s [] (q ∷ qs) c p all is = absurd all
zip-last s (d ∷ ds) [] c p all is = absurd all
zip-last s (d ∷ ds) (q ∷ qs) c p all is = (all.0, zip-last s ds qs c p all.1 is)

-- a process that starts has signed nothing
none-signed : (s : Setting) (cs : List audit.Player) (me limit journal : ℕ) → all_signed (cs ++ begun s me limit journal ∷ []) ≡ all_signed cs
none-signed s [] me limit journal = refl
none-signed s (c ∷ cs) me limit journal = ap (λ ds. c.now.signed ++ ds) (none-signed s cs me limit journal)

pub more-walk : (s : Setting) (k : Known) (own : List Claim) (me limit journal : ℕ) (old new : Walk) (p : Player) → IsWalk s k own old
    → IsPlayer s (begun s me limit journal) p → new.players.items ≡ old.players.items ++ p ∷ [] → new.claims ≡ old.claims
    → IsWalk s (with_player k (begun s me limit journal)) own new
more-walk s k own me limit journal old new p walk is players claims = record {
  players = subst (AllZip (IsPlayer s) (k.players ++ begun s me limit journal ∷ [])) (sym players)
      (zip-last s k.players old.players.items (begun s me limit journal) p walk.players is);
  claims = subst (Saw s k.claims own) (sym claims) walk.claims;
  said = λ c. subst (λ ds. Contains own c ↔ Contains ds c) (sym (none-signed s k.players me limit journal)) (walk.said c);
}
