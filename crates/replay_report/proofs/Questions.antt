-- The family of a world, by its players.
use Rattle.std.proofs.Common.{◌≡◌, ℕ, List, [], ◌∷◌, ◌++◌, length, map, refl}
use Rattle.std.specs.Prelude.{not, nat_le, count_by}
use Rattle.std.specs.List.{list_all, AllByRecursion, flat_map}
use Rattle.byte_defs.specs.Members.{has}
use Rattle.group_defs.specs.Views.{faulty}
use Rattle.group_defs.specs.Process.{Setting, Process}
use Rattle.group_defs.specs.Accounts.{Account, account_of, bounded}
use Rattle.group_defs.specs.Family.{accounts, numbers, end_of}
use Rattle.replay_defs.specs.Schedules.{Header}
use Rattle.replay_defs.specs.Worlds as plain
use Rattle.replay_defs.specs.Worlds.{setting_of, family_of, correct_of}
use Rattle.replay_questions.specs.Cast.{Player, ArePlayers, process_of}
use Rattle.replay_questions.specs.Worlds.{IsRun}

accounts_now : (h : Header) (cs : List plain.Player) → AllByRecursion (IsRun h) cs
    → map (λ c. account_of c.now) cs ≡ map account_of (map (end_of (setting_of h)) (map (correct_of h) cs))
accounts_now h [] ran = refl
accounts_now h (c ∷ cs) ran = λ i. account_of (ran.0 i) ∷ accounts_now h cs ran.1 i

-- and so are their accounts
pub accounts_same : (h : Header) (v : plain.World) → AllByRecursion (IsRun h) v.players
    → map (λ c. account_of c.now) v.players ≡ accounts (family_of h v)
accounts_same h v ran = accounts_now h v.players ran

-- their numbers
numbers_played : (h : Header) (s : Setting) (ps : List Player) (cs : List plain.Player) → ArePlayers s ps cs
    → map process_of ps ≡ map (λ c. c.me) (map (correct_of h) cs)
numbers_played h s [] [] are = refl
numbers_played h s (p ∷ ps) (c ∷ cs) are = λ i. are.0.process i ∷ numbers_played h s ps cs are.1 i
numbers_played h s [] (c ∷ cs) are = absurd are
numbers_played h s (p ∷ ps) [] are = absurd are

pub family_numbers : (h : Header) (v : plain.World) (s : Setting) (ps : List Player) → ArePlayers s ps v.players
    → map process_of ps ≡ numbers (family_of h v)
family_numbers h v s ps are = numbers_played h s ps v.players are

-- which processes are correct is all that counts of their list
pub bounded_by_members : (all : List Account) (one other : List ℕ) → ((p : ℕ) → has one p ≡ has other p)
    → bounded all one ≡ bounded all other
bounded_by_members all one other same = λ i. list_all
    (λ (a : Account). list_all (λ v. nat_le (count_by (λ m. not (same m i)) v.members) (faulty (length v.members))) a.views) all

-- what is written of each process at its end
pub written_of_ends : {A : Type 0} (f : Process → List A) (h : Header) (cs : List plain.Player) → AllByRecursion (IsRun h) cs
    → flat_map (λ c. f c.now) cs ≡ flat_map f (map (end_of (setting_of h)) (map (correct_of h) cs))
written_of_ends f h [] ran = refl
written_of_ends f h (c ∷ cs) ran = λ i. f (ran.0 i) ++ written_of_ends f h cs ran.1 i
