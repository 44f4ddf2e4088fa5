use Rattle.std.proofs.Common.{◌≡◌, ℕ, List, map, sym, ap, subst, ◌∙◌}
use Rattle.std.specs.List.{AllZip}
use Rattle.rp_base.specs.Rosters.{IsRising}
use Rattle.audit_defs.specs.Players.{setting_of}
use Rattle.audit_defs.specs.Audits.{Known}
use Rattle.audit_cast.specs.Turns.{Player}
use Rattle.audit_cast.specs.Turns.{IsPlayer}
use Rattle.audit_core.specs.Found.{Found, IsFound, grounds_by, grounds_of, listed_in}
use Rattle.audit_core.specs.Ends.{audited_by}
use Rattle.audit_core.proofs.Reported.{grounds-are, listed-are}
use Rattle.audit_core.proofs.answers.findings_of.Goals as goal

pub returns : goal.returns
returns c = λ journals sources is e.
    let s = setting_of c.args.kit.now in
    let k : Known = e.known in
    let players : List Player → Type 0 = λ ps. AllZip (IsPlayer s) k.players ps in
    let keys : IsRising s.roster = subst IsRising c.roster.ensures c.processes.ensures.rising in
    let grounds : c.in_ok-grounds.grounds.items ≡ map (grounds_of s) k.players =
    c.in_ok-grounds.ensures s k.players keys (subst players (sym c.players.ensures) e.walk.players) in
    subst (IsFound (audited_by s k)) (sym c.new.ensures) (record {
      reported = c.in_ok-reported.ensures.reported journals sources is e;
      evidence = c.in_ok-reported.ensures.evidence journals sources is e;
      listed = ap (map (λ (g : ℕ × List ℕ). g.0)) grounds ∙ listed-are s k.players;
      grounds = λ p. ap (grounds_by p) grounds ∙ grounds-are s p k.players;
    })
