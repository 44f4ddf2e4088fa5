-- Nodes that are opened, and opened again.
use Rattle.std.proofs.Common.{◌≡◌, ◌≢◌, ◌⊎◌, ℕ, List, [], ◌∷◌, ◌++◌, map, Bool, true, false, refl, sym, ap, ◌∙◌, subst, Option, Some, None, inl, inr}
use Rattle.std.specs.Prelude.{◌==◌, if◌then◌else◌, Contains, IsTrue}
use Rattle.std.specs.Option.{option_to_list}
use Rattle.std.proofs.lemmas.List.{append-nil, append_assoc}
use Rattle.std.proofs.lemmas.Bool.{eqb-true, eq-eqb}
use Rattle.pool_laws.proofs.Members.{Mem, mem-Contains, Contains-mem}
use Rattle.pool_laws.proofs.Places.{prefix-self, prefix-more, prefix-trans}
use Rattle.byte_defs.specs.Members.{has}
use Rattle.group_defs.specs.Process.{Setting, Process, start}
use Rattle.group_defs.specs.Events.{after}
use Rattle.group_defs.specs.Events as group
use Rattle.group_defs.specs.Accounts.{IsPrefixOf}
use Rattle.journal_defs.specs.Entries.{Event, Entry}
use Rattle.safety_laws.proofs.AllAgree.{agreement}
use Rattle.node_defs.specs.Casts.{Cast, Beginning, from_start, kept_turn, entries_of, taken_up, turns_from, may_have_written}
use Rattle.node_defs.specs.Lines.{Stop, BadJournal}
use Rattle.node_defs.specs.Nodes.{Node, Opening, Answer, Snapper, run, reads, reads_one, takes_up, at_first, openings, opens}
use Rattle.node_defs.specs.Lives.{Found, Run, with_or_without, leaves_by, leaves, opened_in, last_of, lives, FitsAt, FitsFrom, IsSound, IsOpened, FitsBehind, OpensSound, Ran, RestartsAreFamily, RestartsAgree, OneBodyPerNumber}
use Rattle.node_laws.proofs.Entries.{entries-append, own-entry, other-entry, taken-snoc, taken-append, taken-grows}

-- ---- opening

-- the node holds these entries behind no others, and its processes are what they make of them
record HasRead (c : Cast) (from : ℕ → Process) (n : Node) (es : List Entry) : Type 0 where
  kept : n.kept ≡ es
  goes_on : n.stopped ≡ None
  out : n.leaving ≡ []
  tasks : n.tasks ≡ []
  processes : (p : ℕ) → n.now p ≡ taken_up c.setting (from p) (entries_of p es)

module _ (c : Cast) (from : ℕ → Process) where
  read-one : (n : Node) (before : List Entry) (e : Entry) → HasRead c from n before → HasRead c from (reads_one c n e) (before ++ e ∷ [])
  read-one n before e h = record {
    kept = ap (λ es. es ++ e ∷ []) h.kept;
    goes_on = h.goes_on;
    out = h.out;
    tasks = h.tasks;
    processes = λ q. go q (q == e.process) refl;
  }
    where
      swap : (a b : ℕ) → (a == b) ≡ false → (b == a) ≡ false
      swap a b not = look (b == a) refl
        where
          look : (x : Bool) → (b == a) ≡ x → x ≡ false
          look true is = let also = eq-eqb a b (sym (eqb-true b a is)) in cc
          look false is = refl

      go : (q : ℕ) (b : Bool) → (q == e.process) ≡ b
          → (if b then after c.setting (n.now q) (kept_turn (n.now q) e) else n.now q)
          ≡ taken_up c.setting (from q) (entries_of q (before ++ e ∷ []))
      go q true is =
          let those : entries_of q (before ++ e ∷ [])
          ≡ entries_of q before ++ e ∷ [] = entries-append q before (e ∷ []) ∙ ap (λ es. entries_of q before ++ es)
          (own-entry q e (sym (eqb-true q e.process is))) in
          ap (λ (x : Process). after c.setting x (kept_turn x e)) (h.processes q)
          ∙ sym (taken-snoc c.setting (from q) (entries_of q before) e) ∙ ap (taken_up c.setting (from q)) (sym those)
      go q false is =
          let those : entries_of q (before ++ e ∷ [])
          ≡ entries_of q before = entries-append q before (e ∷ []) ∙ ap (λ es. entries_of q before ++ es)
          (other-entry q e (swap q e.process is)) ∙ append-nil (entries_of q before) in
          h.processes q ∙ ap (taken_up c.setting (from q)) (sym those)

  taken-up-so : (n : Node) (before : List Entry) (e : Entry) → HasRead c from n before → FitsAt c from before e → takes_up c n e ≡ true
  taken-up-so n before e h so =
      ap (λ b. if b then may_have_written c (n.now e.process) e else false) so.0
      ∙ ap (λ (p : Process). may_have_written c p e) (h.processes e.process) ∙ so.1

  reads-on : (n : Node) (before es : List Entry) → HasRead c from n before → FitsBehind c from before es
      → HasRead c from (reads c n es) (before ++ es)
  unfolding reads
  reads-on n before [] h fits = subst (HasRead c from n) (sym (append-nil before)) h
  reads-on n before (e ∷ es) h fits = by (takes_up c n e) (taken-up-so n before e h fits.0)
      (subst (HasRead c from (reads c (reads_one c n e) es)) (append_assoc before (e ∷ []) es)
      (reads-on (reads_one c n e) (before ++ e ∷ []) es (read-one n before e h) fits.1))
    where
      by : (b : Bool) → b ≡ true → HasRead c from (reads c (reads_one c n e) es) (before ++ e ∷ es)
          → HasRead c from (if b then reads c (reads_one c n e) es else record n { stopped = Some (BadJournal n.gate) }) (before ++ e ∷ es)
      by true is read = read
      by false is read = cc

pub opens_sound : OpensSound
unfolding turns_from group.run
opens_sound c b lines es fits =
    let first : HasRead c b.from (at_first b lines) [] = record { kept = refl; goes_on = refl; out = refl; tasks = refl; processes = λ p. group-run p } in
    let h = reads-on c b.from (at_first b lines) [] es first fits in
    record {
      kept = h.kept;
      goes_on = h.goes_on;
      tasks = h.tasks;
      sound = record {
        processes = λ p. h.processes p ∙ ap (λ es. taken_up c.setting (b.from p) (entries_of p es)) (sym h.kept);
        out = λ l there. absurd (subst (Mem l) h.out (Contains-mem _ l there));
        finished = λ some. absurd (some h.out);
      };
    }
  where
    group-run : (p : ℕ) → b.from p ≡ taken_up c.setting (b.from p) []
    group-run p = refl

-- ---- families

pub restarts_are_family : RestartsAreFamily
restarts_are_family r p = refl

pub restarts_agree : RestartsAgree
restarts_agree s hosts premises = agreement _ premises

pub one_body_per_number : OneBodyPerNumber
one_body_per_number c from es fs front =
    subst (λ gs. IsPrefixOf (taken_up c.setting from es).signed (taken_up c.setting from gs).signed) front.1
    (subst (λ (q : Process). IsPrefixOf (taken_up c.setting from es).signed q.signed) (sym (taken-append c.setting from es front.0))
    (taken-grows c.setting (taken_up c.setting from es) front.0).signed)
