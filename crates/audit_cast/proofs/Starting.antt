-- The processes that are left to add.
use Rattle.std.proofs.Common.{◌≡◌, ℕ, List, [], ◌∷◌, ◌++◌, Option, Some, None, Result, Ok, Err, map, refl, sym, ap, subst, ◌∙◌}
use Rattle.std.specs.Prelude.{filter_map, find, option_map}
use Rattle.std.specs.List.{cons_option, enumerate_from}
use Rattle.std.proofs.lemmas.List.{append-nil, append_assoc}
use Rattle.group_defs.specs.Process.{Setting}
use Rattle.audit_defs.specs.Sources.{Source}
use Rattle.audit_defs.specs.Players as audit
use Rattle.audit_defs.specs.Players.{is_missing, is_repeated, player, player_by, players_of}
use Rattle.audit_defs.specs.Audits.{AuditFault, Missing, Repeated, cast_of}
use Rattle.audit_sources.specs.declared.hosts.HostedBy.{HostedBy}
use Rattle.audit_sources.specs.Hosts.{hosted_by, is_host}
use Rattle.audit_walk.specs.Turns.{Walk}
use Rattle.audit_walk.specs.Turns.{begun}
use Rattle.audit_walk.specs.Turns.{IsWalk}
use Rattle.audit_cast.specs.Casts.{with_any}

-- these were added, and those of the processes that are left come after them
pub record Adds (s : Setting) (sources : List Source) (left listed : List ℕ) (w : Walk) : Type 0 where
  pub players : List audit.Player
  pub whole : players ++ players_of s sources left ≡ players_of s sources listed
  pub walk : IsWalk s (record { players = players; claims = [] }) [] w

module _ (s : Setting) (sources : List Source) where
  -- the process, by what is said of the journal that hosts it
  by-host : (p : ℕ) (o : Option (ℕ × Source)) → option_map (player s p) o ≡ option_map (λ by. begun s p by.batch_limit by.journal) (option_map hosted_by o)
  by-host p None = refl
  by-host p (Some host) = refl

  pub player-is : (p : ℕ) (o : Option HostedBy) → o ≡ option_map hosted_by (find (is_host p) (enumerate_from 0 sources))
      → player_by s sources p ≡ option_map (λ by. begun s p by.batch_limit by.journal) o
  player-is p o is = by-host p (find (is_host p) (enumerate_from 0 sources)) ∙ ap (option_map (λ by. begun s p by.batch_limit by.journal)) (sym is)

  pub adds-first : (listed : List ℕ) (w : Walk) → IsWalk s (record { players = []; claims = [] }) [] w → Adds s sources listed listed w
  adds-first listed w walk = record { players = []; whole = refl; walk = walk }

  -- one more
  pub adds-next : (left rest listed : List ℕ) (p : ℕ) (old new : Walk) (adds : Adds s sources left listed old) → left ≡ p ∷ rest
      → IsWalk s (with_any (record { players = adds.players; claims = [] }) (player_by s sources p)) [] new
      → Adds s sources rest listed new
  adds-next left rest listed p old new adds next walk = go (player_by s sources p) walk whole-next
    where
      whole-next : adds.players ++ cons_option (player_by s sources p) (players_of s sources rest) ≡ players_of s sources listed
      whole-next = ap (λ ps. adds.players ++ players_of s sources ps) (sym next) ∙ adds.whole

      go : (o : Option audit.Player) → IsWalk s (with_any (record { players = adds.players; claims = [] }) o) [] new
          → adds.players ++ cons_option o (players_of s sources rest) ≡ players_of s sources listed → Adds s sources rest listed new
      go None walk whole = record { players = adds.players; whole = whole; walk = walk }
      go (Some c) walk whole = record {
        players = adds.players ++ c ∷ [];
        whole = append_assoc adds.players (c ∷ []) (players_of s sources rest) ∙ whole;
        walk = walk;
      }

  -- none is left
  pub adds-all : (left listed : List ℕ) (w : Walk) (adds : Adds s sources left listed w) → left ≡ []
      → IsWalk s (record { players = players_of s sources listed; claims = [] }) [] w
  adds-all left listed w adds none = subst (λ cs. IsWalk s (record { players = cs; claims = [] }) [] w)
      (sym (append-nil adds.players) ∙ ap (λ ps. adds.players ++ players_of s sources ps) (sym none) ∙ adds.whole) adds.walk

  -- ---- who is missing, and who is there twice

  abbrev unless-repeated : List ℕ → Option ℕ → Result (List audit.Player) AuditFault
  unless-repeated listed o = elim o [ Some p ↦ Err (Repeated p) | None ↦ Ok (players_of s sources listed) ]

  abbrev unless-missing : List ℕ → Option ℕ → Result (List audit.Player) AuditFault
  unless-missing listed o = elim o [ Some p ↦ Err (Missing p) | None ↦ unless-repeated listed (find (is_repeated sources) listed) ]

  pub none-hosts : (listed : List ℕ) (p : ℕ) → Some p ≡ find (is_missing sources) listed → cast_of s sources listed ≡ Err (Missing p)
  none-hosts listed p is = ap (unless-missing listed) (sym is)

  pub two-host : (listed : List ℕ) (p : ℕ) → None ≡ find (is_missing sources) listed → Some p ≡ find (is_repeated sources) listed
      → cast_of s sources listed ≡ Err (Repeated p)
  two-host listed p there is = ap (unless-missing listed) (sym there) ∙ ap (unless-repeated listed) (sym is)

  pub one-hosts : (listed : List ℕ) → None ≡ find (is_missing sources) listed → None ≡ find (is_repeated sources) listed
      → cast_of s sources listed ≡ Ok (players_of s sources listed)
  one-hosts listed there once = ap (unless-missing listed) (sym there) ∙ ap (unless-repeated listed) (sym once)
