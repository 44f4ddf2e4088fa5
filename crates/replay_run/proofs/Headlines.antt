-- The headline of a schedule's family.
use Rattle.std.proofs.Common.{◌≡◌, ℕ, zero, suc, ◌+◌, Bool, not, List, [], ◌∷◌, length, map, refl, sym, ap, subst, ◌∙◌, arith}
use Rattle.std.specs.Prelude.{nat_le, filter}
use Rattle.std.specs.List.Sorted.{IsStrictlyIncreasing}
use Rattle.std.proofs.lemmas.Bool.{leb-true}
use Rattle.message_defs.specs.Limits.{most_members}
use Rattle.group_defs.specs.Accounts.{Bounded}
use Rattle.group_defs.specs.Family.{accounts, numbers, Honest}
use Rattle.group_defs.specs.Laws.{Premises}
use Rattle.safety_laws.proofs.AllAgree.{agreement}
use Rattle.safety_laws.proofs.OwnPayloads.{cause_and_order}
use Rattle.pool_laws.proofs.Tests.{and-first, and-second}
use Rattle.replay_defs.specs.Schedules.{Header, Listed, IsHeader, Schedule}
use Rattle.replay_defs.specs.Worlds as plain
use Rattle.replay_defs.specs.Worlds.{family_of, correct_of}
use Rattle.replay_defs.specs.Reports.{report_by}
use Rattle.replay_report.specs.Runs.{World, Shows, IsWorldOf}
use Rattle.replay_report.proofs.Runs.{Rises, listed_rise}
use Rattle.replay_run.specs.Reported.{Headline, IsReportOf}

-- rising numbers are strictly increasing
rises_strictly : (least : ℕ) (ps : List ℕ) → Rises least ps → IsStrictlyIncreasing ps
rises_strictly least [] rises k low = absurd (omega arith)
rises_strictly least (p ∷ []) rises k low = absurd (omega arith)
rises_strictly least (p ∷ q ∷ qs) rises zero low = let more = rises.1.0 in omega (arith, more)
rises_strictly least (p ∷ q ∷ qs) rises (suc k) low = let next : suc k + 1
    ≡ suc (k + 1) = omega arith in rw next (rises_strictly (p + 1) (q ∷ qs) rises.1 k (omega arith))

-- the numbers of the family are those of the listed
numbers_listed : (h : Header) (cs : List plain.Player)
    → map (λ c. c.me) (map (correct_of h) cs) ≡ map (λ l. l.process) (map (λ c. c.listed) cs)
numbers_listed h [] = refl
numbers_listed h (c ∷ cs) = ap (λ ps. c.listed.process ∷ ps) (numbers_listed h cs)

pub headline : (h : Header) (w : World) (v : plain.World) → IsHeader h → Shows h w v → Headline (family_of h v)
headline h w v header shows = λ honest bounded. let premises = meets honest bounded in (
  agreement (family_of h v) premises,
  cause_and_order (family_of h v) premises,
)
  where
    rising : IsStrictlyIncreasing (numbers (family_of h v))
    rising =
        let numbered : numbers (family_of h v)
        ≡ map (λ l. l.process) (filter (λ l. not l.corrupt) h.processes) = numbers_listed h v.players ∙ ap
        (map (λ (l : Listed). l.process)) shows.listed in
        subst IsStrictlyIncreasing (sym numbered)
        (rises_strictly 0 _ (listed_rise h.scheme 0 (λ l. not l.corrupt) h.processes shows.rising))

    meets : Honest (family_of h v) → Bounded (accounts (family_of h v)) (numbers (family_of h v)) → Premises (family_of h v)
    meets honest bounded = record {
      genesis = record {
        some = leb-true 1 (length h.genesis)
            (and-first (nat_le 1 (length h.genesis)) (nat_le (length h.genesis) most_members) header.members);
        few = leb-true (length h.genesis) most_members
            (and-second (nat_le 1 (length h.genesis)) (nat_le (length h.genesis) most_members) header.members);
        distinct = header.distinct;
      };
      first = refl;
      rising = rising;
      honest = honest;
      bounded = bounded;
    }

-- a text is the report of the schedule's world
pub is_report_of : (short : Bool) (sch : Schedule) (w : World) (text : List ℕ) → IsHeader sch.header → (of : IsWorldOf sch w)
    → text ≡ report_by short of.world (family_of sch.header of.world) → IsReportOf short sch text
is_report_of short sch w text header of written = record {
  world = of.world;
  end = of.is;
  written = written;
  headline = headline sch.header w of.world header of.shows;
}
