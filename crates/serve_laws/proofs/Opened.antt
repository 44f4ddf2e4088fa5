-- A node as it is opened, on whatever entries: each process is what those that were taken up make of it, and the service is still to begin.
use Rattle.std.proofs.Common.{◌≡◌, ◌≢◌, ℕ, List, [], ◌∷◌, ◌++◌, map, Bool, true, false, refl, sym, ap, ◌∙◌, subst, Some}
use Rattle.std.specs.Prelude.{◌==◌, if◌then◌else◌}
use Rattle.std.proofs.lemmas.Bool.{eq-eqb, eqb-true}
use Rattle.std.proofs.lemmas.List.{append-nil}
use Rattle.pool_laws.proofs.Members.{Mem, Contains-mem}
use Rattle.group_defs.specs.Events as group
use Rattle.group_defs.specs.Events.{after}
use Rattle.group_defs.specs.Process.{Process}
use Rattle.journal_defs.specs.Entries.{Entry}
use Rattle.node_defs.specs.Casts.{Beginning, Cast, entries_of, kept_turn, taken_up, turns_from}
use Rattle.node_defs.specs.Lines.{BadJournal}
use Rattle.node_defs.specs.Lives.{IsSound}
use Rattle.node_defs.specs.Nodes.{Bind, Finish, Greet, Leaving, Node, Opening, Serve, at_first, opens, reads, reads_one, takes_up}
use Rattle.node_laws.proofs.Entries.{entries-append, other-entry, own-entry, taken-snoc}

-- ---- its processes

module _ (c : Cast) (from : ℕ → Process) where
  -- nothing goes out, and each process is what its entries make of it
  record HasTaken (n : Node) : Type 0 where
    processes : (p : ℕ) → n.now p ≡ taken_up c.setting (from p) (entries_of p n.kept)
    out : n.leaving ≡ []

  turned : (a b : ℕ) → (a == b) ≡ false → (b == a) ≡ false
  turned a b not = look (b == a) refl
    where
      look : (x : Bool) → (b == a) ≡ x → x ≡ false
      look true is = let also = eq-eqb a b (sym (eqb-true b a is)) in cc
      look false is = refl

  take-one : (n : Node) (e : Entry) → HasTaken n → HasTaken (reads_one c n e)
  take-one n e h = record { processes = λ q. go q (q == e.process) refl; out = h.out }
    where
      go : (q : ℕ) (b : Bool) → (q == e.process) ≡ b → (if b then after c.setting (n.now q) (kept_turn (n.now q) e) else n.now q)
          ≡ taken_up c.setting (from q) (entries_of q (n.kept ++ e ∷ []))
      go q true is =
          let those : entries_of q (n.kept ++ e ∷ [])
          ≡ entries_of q n.kept ++ e ∷ [] = entries-append q n.kept (e ∷ []) ∙ ap (λ es. entries_of q n.kept ++ es)
          (own-entry q e (sym (eqb-true q e.process is))) in
          ap (λ (x : Process). after c.setting x (kept_turn x e)) (h.processes q)
          ∙ sym (taken-snoc c.setting (from q) (entries_of q n.kept) e) ∙ ap (taken_up c.setting (from q)) (sym those)
      go q false is =
          let those : entries_of q (n.kept ++ e ∷ [])
          ≡ entries_of q n.kept = entries-append q n.kept (e ∷ []) ∙ ap (λ es. entries_of q n.kept ++ es)
          (other-entry q e (turned q e.process is)) ∙ append-nil (entries_of q n.kept) in
          h.processes q ∙ ap (taken_up c.setting (from q)) (sym those)

  takes : (es : List Entry) (n : Node) → HasTaken n → HasTaken (reads c n es)
  unfolding reads
  takes [] n h = h
  takes (e ∷ es) n h = by (takes_up c n e) (takes es (reads_one c n e) (take-one n e h))
    where
      by : (b : Bool) → HasTaken (reads c (reads_one c n e) es)
          → HasTaken (if b then reads c (reads_one c n e) es else record n { stopped = Some (BadJournal n.gate) })
      by true on = on
      by false on = record { processes = h.processes; out = h.out }

pub opened-sound : (c : Cast) (b : Beginning) (lines : ℕ) (es : List Entry) → IsSound c b.from (opens c b lines es)
unfolding turns_from group.run
opened-sound c b lines es =
    let h = takes c b.from es (at_first b lines) (record { processes = λ p. refl; out = refl }) in
    record {
      processes = h.processes;
      out = λ l there. absurd (subst (Mem l) h.out (Contains-mem _ l there));
      finished = λ some. absurd (some h.out);
    }

-- ---- its service

-- the service does not begin any more
abbrev pub Begun : List Opening → Type 0
Begun [] = Unit {0}
Begun (Bind port ∷ os) = Begun os
Begun (Greet text ∷ os) = Begun os
Begun (Serve ∷ os) = ⊥
Begun (Finish ∷ os) = Begun os

-- it is still to begin, once
abbrev pub Waits : List Opening → Type 0
Waits [] = ⊥
Waits (Bind port ∷ os) = Waits os
Waits (Greet text ∷ os) = Waits os
Waits (Serve ∷ os) = Begun os
Waits (Finish ∷ os) = Waits os

pub opening-waits : (c : Cast) (ps text : List ℕ) → Waits (map (λ p. Bind (c.port p)) ps ++ Greet text ∷ Serve ∷ Finish ∷ [])
opening-waits c [] text = tt
opening-waits c (p ∷ ps) text = opening-waits c ps text
