-- What an audit comes to, part by part.
use Rattle.std.proofs.Common.{◌≡◌, ℕ, List, [], ◌∷◌, map, Result, Ok, Err, inl, inr, refl, ap, ◌∙◌}
use Rattle.byte_defs.specs.Fields.{◌>>=◌}
use Rattle.group_defs.specs.Process.{Setting, start}
use Rattle.group_defs.specs.Events.{run}
use Rattle.group_defs.specs.Family.{ends}
use Rattle.pool_laws.proofs.Members.{Mem}
use Rattle.kit_defs.specs.Kits.{Kit}
use Rattle.audit_defs.specs.Sources.{Source, steps_of}
use Rattle.audit_defs.specs.Players.{Player, family_of, setting_of}
use Rattle.audit_defs.specs.Audits.{Audited, AuditFault, Known, audited, audited_in, cast_of, goes_through, sources_of}
use Rattle.audit_laws.proofs.OfListed.{Holds, cast-begins, start-holds, through-holds}
use Rattle.audit_cast.specs.Turns.{Walk}
use Rattle.audit_core.specs.Ends.{Ended, HasCome, audited_by}

module _ (s : Setting) (sources : List Source) (listed : List ℕ) where
  -- all steps, from these processes as they start
  abbrev pub steps-from : List Player → Result Known AuditFault
  steps-from players = goes_through s (record { players = players; claims = [] }) (steps_of sources)

  abbrev from-players : List Player → Result Audited AuditFault
  from-players players = steps-from players >>= λ known. Ok (audited_by s known)

  pub ended : (players : List Player) (known : Known) → cast_of s sources listed ≡ Ok players → steps-from players ≡ Ok known
      → audited_in s sources listed ≡ Ok (audited_by s known)
  unfolding audited_in
  ended players known cast ends = ap (λ r. r >>= from-players) cast ∙ ap (λ r. r >>= λ known. Ok (audited_by s known)) ends

  pub cast-refused : (f : AuditFault) → cast_of s sources listed ≡ Err f → audited_in s sources listed ≡ Err f
  unfolding audited_in
  cast-refused f is = ap (λ r. r >>= from-players) is

  pub steps-refused : (players : List Player) (f : AuditFault) → cast_of s sources listed ≡ Ok players → steps-from players ≡ Err f
      → audited_in s sources listed ≡ Err f
  unfolding audited_in
  steps-refused players f cast is = ap (λ r. r >>= from-players) cast ∙ ap (λ r. r >>= λ known. Ok (audited_by s known)) is

  -- what holds at the end
  pub holds-at : (w : Walk) (e : Ended s sources listed w) → Holds s listed e.known
  holds-at w e = through-holds s listed (steps_of sources) (record { players = e.players; claims = [] }) e.known
      (start-holds s listed e.players (cast-begins s sources listed e.players e.cast)) e.ends

module _ (kit : Kit) (listed : List ℕ) (journals : List (List ℕ)) where
  pub of-sources : (sources : List Source) → sources_of kit journals ≡ Ok sources
      → audited kit listed journals ≡ audited_in (setting_of kit) sources listed
  unfolding audited
  of-sources sources is = ap (λ r. r >>= λ sources. audited_in (setting_of kit) sources listed) is

  pub headers-refused : (f : AuditFault) → sources_of kit journals ≡ Err f → audited kit listed journals ≡ Err f
  unfolding audited
  headers-refused f is = ap (λ r. r >>= λ sources. audited_in (setting_of kit) sources listed) is

-- ---- what is at the end

-- the processes are those of the family, as they end
ends-are : (s : Setting) (cs : List Player) → ((c : Player) → Mem c cs → c.now ≡ run s (start s c.me c.batch_limit) c.turns)
    → map (λ (c : Player). c.now) cs ≡ ends (family_of s cs)
ends-are s [] runs = refl
ends-are s (c ∷ cs) runs = λ i. runs c (inl refl) i ∷ ends-are s cs (λ d m. runs d (inr m)) i

pub has-come : (kit : Kit) (listed : List ℕ) (journals : List (List ℕ)) (sources : List Source) → sources_of kit journals ≡ Ok sources → (w : Walk)
    → Ended (setting_of kit) sources listed w → (a : Audited) × (audited kit listed journals ≡ Ok a) × HasCome a w
has-come kit listed journals sources is w e = (
  audited_by (setting_of kit) e.known,
  of-sources kit listed journals sources is ∙ ended (setting_of kit) sources listed e.players e.known e.cast e.ends,
  record {
    players = e.known.players;
    each = e.walk.players;
    ends = ends-are (setting_of kit) e.known.players (holds-at (setting_of kit) sources listed w e).runs;
  },
)
