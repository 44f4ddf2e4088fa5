-- How many entries each process has, after a turn of one.
use Rattle.std.proofs.Common.{◌≡◌, ℕ, suc, ◌+◌, ◌<◌, ◌≤◌, ◌^◌, Bool, true, false, List, [], ◌∷◌, ◌++◌, length, flat_map, refl, sym, ap, arith, ◌∙◌}
use Rattle.std.specs.Prelude.{◌==◌, if◌then◌else◌}
use Rattle.group_defs.specs.Process.{Process}
use Rattle.journal_defs.specs.Entries.{Entry, Event}
use Rattle.journal_defs.specs.Journals.{behind_gate, record_bytes}
use Rattle.node_defs.specs.Casts.{Cast, Beginning, entries_of, entry_for}
use Rattle.node_defs.specs.Lives.{IsSound}
use Rattle.node_defs.specs.Nodes.{Node}
use Rattle.node_traces.specs.Stops.{Outset}
use Rattle.sealing_laws.specs.Running.{AreCountsOf, AreKeyed, Counts, count_in}
use Rattle.node_laws.proofs.Entries.{taken-me}
use Rattle.opening_laws.proofs.EntriesRead.{one_more_counts}
use Rattle.node_taking.specs.Keeping.{grown}

abbrev one-if : Bool → ℕ
one-if b = if b then 1 else 0

at-most-one : (b : Bool) → (if b then 1 else 0) ≤ 1
at-most-one true = omega arith
at-most-one false = omega arith

-- a record has a gate at least
some-bytes : (e : Entry) → 1 ≤ length (flat_map record_bytes (e ∷ []))
some-bytes e =
    let is : length (flat_map record_bytes (e ∷ [])) ≡ suc (length (behind_gate e ++ [])) = refl in
    omega (arith, is)

-- a process bears its own number
own-number : (f : Outset) (c : Cast) (n : Node) (p : ℕ) → AreKeyed c f → IsSound c f.begins.from n → (n.now p).me ≡ p
own-number f c n p keyed sound = ap (λ (q : Process). q.me) (sound.processes p) ∙ taken-me c.setting (f.begins.from p) (entries_of p n.kept)
    ∙ (keyed p).number

-- one more of the process that took the turn
pub counts-grown : (f : Outset) (c : Cast) (n : Node) (p : ℕ) (e : Event) (old new : Counts) → AreKeyed c f → IsSound c f.begins.from n
    → AreCountsOf f.begins n old → ((q : ℕ) → count_in new q ≡ count_in old q + (if p == q then 1 else 0))
    → AreCountsOf f.begins (grown c n p e) new
counts-grown f c n p e old new keyed sound are counted = record {
  each = λ q.
      let own : one-if ((n.now p).me == q) ≡ one-if (p == q) = ap (λ (m : ℕ). one-if (m == q)) (own-number f c n p keyed sound) in
      let before : count_in old q ≡ f.begins.before q + length (entries_of q n.kept) = are.each q in
      omega (arith, counted q, before, own, one_more_counts q n.kept (entry_for c (n.now p) e));
  few = λ q. omega (arith, counted q, are.few q, at-most-one (p == q), some-bytes (entry_for c (n.now p) e));
}

-- there is room to count one more
pub room-to-count : (b : Beginning) (n : Node) (counts : Counts) (p gate : ℕ) → AreCountsOf b n counts → n.gate ≡ gate → gate < 2 ^ 30
    → count_in counts p + 1 < 2 ^ 64
room-to-count b n counts p gate are same small = omega (arith, are.few p, same, small)
