-- The world before the first event.
use Rattle.std.proofs.Common.{◌≡◌, ℕ, ◌≤◌, Bool, true, false, cond, not, List, [], ◌∷◌, ◌++◌, map, Some, None, refl, sym, ap, subst, ◌∙◌, arith}
use Rattle.std.specs.Prelude.{filter}
use Rattle.std.specs.List.{AllByRecursion, filter_map, cons_option, list_all}
use Rattle.std.specs.VecDeque.{deque_items}
use Rattle.group_defs.specs.Process.{Setting, Process, start}
use Rattle.group_defs.specs.Events.{run}
use Rattle.replay_defs.specs.Schedules.{Header, Listed, IsHeader}
use Rattle.replay_defs.specs.Worlds as plain
use Rattle.replay_defs.specs.Worlds.{setting_of, begins, start_of, most_sent}
use Rattle.replay_cast.specs.declared.cast.Cast.{Cast}
use Rattle.replay_cast.specs.Casts.{IsCast}
use Rattle.replay_cast.specs.declared.player.Player.{Player}
use Rattle.replay_cast.specs.declared.liar.Liar.{Liar}
use Rattle.replay_cast.specs.Players.{ArePlayers}
use Rattle.replay_cast.specs.Liars.{AreLiars}
use Rattle.signature_defs.specs.Schemes.{is_valid}
use Rattle.sig_scheme.specs.Views.{scheme as scheme_of}
use Rattle.replay_world.specs.Handing.{handed_frames}
use Rattle.replay_world.specs.Stepping.{refused}
use Rattle.replay_world.specs.declared.world.World.{World}
use Rattle.replay_world.specs.Traffic.{sent, delivery}
use Rattle.replay_world.specs.Worlds.{Shows, IsRun}
use Rattle.replay_world.proofs.HandedOver.{passes, handed_in, family_handed}

-- a process as it starts
abbrev starting : Header → Listed → plain.Player
starting h l = record { listed = l; now = start (setting_of h) l.process h.batch_limit; turns = [] }

starts_listed : (h : Header) (ls : List Listed) → map (λ c. c.listed) (filter_map (begins h) ls) ≡ filter (λ l. not l.corrupt) ls
starts_listed h [] = refl
starts_listed h (l ∷ ls) = by_role l.corrupt (starts_listed h ls)
  where
    by_role : (b : Bool) → map (λ (c : plain.Player). c.listed) (filter_map (begins h) ls) ≡ filter (λ x. not x.corrupt) ls
        → map (λ (c : plain.Player). c.listed) (cons_option (cond b None (Some (starting h l))) (filter_map (begins h) ls))
        ≡ cond (not b) (l ∷ filter (λ x. not x.corrupt) ls) (filter (λ x. not x.corrupt) ls)
    by_role true rest = rest
    by_role false rest = ap (λ xs. l ∷ xs) rest

run_none : (s : Setting) (p : Process) → p ≡ run s p []
unfolding run
run_none s p = refl

starts_ran : (h : Header) (ls : List Listed) → AllByRecursion (IsRun h) (filter_map (begins h) ls)
starts_ran h [] = tt
starts_ran h (l ∷ ls) = by_role l.corrupt (starts_ran h ls)
  where
    by_role : (b : Bool) → AllByRecursion (IsRun h) (filter_map (begins h) ls)
        → AllByRecursion (IsRun h) (cons_option (cond b None (Some (starting h l))) (filter_map (begins h) ls))
    by_role true rest = rest
    by_role false rest = (run_none (setting_of h) (start (setting_of h) l.process h.batch_limit), rest)

starts_handed : (h : Header) (ls : List Listed) → handed_in (filter_map (begins h) ls) ≡ []
starts_handed h [] = refl
starts_handed h (l ∷ ls) = by_role l.corrupt (starts_handed h ls)
  where
    by_role : (b : Bool) → handed_in (filter_map (begins h) ls) ≡ []
        → handed_in (cons_option (cond b None (Some (starting h l))) (filter_map (begins h) ls)) ≡ []
    by_role true rest = rest
    by_role false rest = rest

none_within : (n : ℕ) → n ≡ 0 → n ≤ most_sent
none_within n none = omega (arith, none)

-- a world of a cast, in which nothing happened yet
pub world_begins : (h : Header) (c : Cast) (w : World) → IsHeader h → IsCast h c → w.group ≡ c.group → w.roster ≡ c.roster
    → w.scheme ≡ c.scheme → w.players.items ≡ c.players.items → w.liars.items ≡ c.liars.items
    → w.traffic.frames.items ≡ [] → deque_items w.traffic.pending ≡ [] → w.traffic.bytes ≡ 0 → w.raws.items ≡ [] → w.refused.items ≡ []
    → w.spent.items ≡ [] → w.count ≡ 0
    → Shows h w (start_of h)
world_begins h c w header cast group roster scheme players liars frames pending bytes raws refused_none spent count = record {
  rising = header.processes;
  group = group ∙ cast.group;
  roster = roster ∙ cast.roster;
  scheme = cast.scheme ∙ ap (λ x. is_valid (scheme_of x)) (sym scheme);
  players = let P : List Player → Type 0 = λ ps. ArePlayers (setting_of h) ps (filter_map (begins h) h.processes) in subst P
      (sym players) cast.processes.players;
  listed = starts_listed h h.processes;
  ran = starts_ran h h.processes;
  liars = let P : List Liar → Type 0 = λ xs. AreLiars [] xs (filter (λ l. l.corrupt) h.processes) in subst P
      (sym liars) cast.processes.liars;
  traffic = record {
    frames = ap (map sent) frames;
    pending = ap (map delivery) pending;
    bytes = bytes;
    within = none_within w.traffic.bytes bytes;
  };
  handed = λ test.
      ap (list_all test) (family_handed h (filter_map (begins h) h.processes) ∙ starts_handed h h.processes)
      ∙ sym (ap (λ fs. passes test (handed_frames fs ++ w.raws.items)) frames ∙ ap (λ rs. passes test rs) raws);
  refused = ap (map refused) refused_none;
  spent = spent;
  count = count;
}
