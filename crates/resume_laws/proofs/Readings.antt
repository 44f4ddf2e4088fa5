-- What the reading of entries changes of a node, and the place that it comes to.
use Rattle.std.proofs.Common.{◌≡◌, ℕ, ◌+◌, List, [], ◌∷◌, ◌++◌, length, Bool, true, false, refl, sym, ap, ◌∙◌, Some, arith}
use Rattle.std.specs.Prelude.{if◌then◌else◌, flat_map}
use Rattle.std.proofs.lemmas.List.{append-nil, length-append}
use Rattle.std.proofs.lemmas.Grind.{flat_map-append}
use Rattle.journal_defs.specs.Entries.{Entry}
use Rattle.journal_defs.specs.Journals.{record_bytes, up_to_gate}
use Rattle.node_defs.specs.Lines.{BadJournal}
use Rattle.node_defs.specs.Casts.{Cast, from_start}
use Rattle.node_defs.specs.Nodes.{Node, reads, reads_one, takes_up}

-- n, where its processes, its entries, its place and why it stopped are those of m
abbrev pub read_into : Node → Node → Node
read_into n m = record n { now = m.now; kept = m.kept; gate = m.gate; stopped = m.stopped }

-- a reading changes nothing else
pub reads-into : (c : Cast) (n : Node) (es : List Entry) → reads c n es ≡ read_into n (reads c n es)
unfolding reads
reads-into c n [] = refl
reads-into c n (e ∷ es) = by (takes_up c n e) (reads-into c (reads_one c n e) es)
  where
    by : (b : Bool) → reads c (reads_one c n e) es ≡ read_into (reads_one c n e) (reads c (reads_one c n e) es)
        → (if b then reads c (reads_one c n e) es else record n { stopped = Some (BadJournal n.gate) })
        ≡ read_into n (if b then reads c (reads_one c n e) es else record n { stopped = Some (BadJournal n.gate) })
    by true rest = rest
    by false rest = refl

-- ---- the place

-- how many bytes the records of these entries are
abbrev pub size : List Entry → ℕ
size es = length (flat_map record_bytes es)

pub size-append : (es fs : List Entry) → size (es ++ fs) ≡ size es + size fs
size-append es fs = ap length (flat_map-append record_bytes es fs) ∙ length-append (flat_map record_bytes es) (flat_map record_bytes fs)

-- the node's gate is the one after the entries that it holds, of which the first has its gate at this place
abbrev pub HasPlace : ℕ → Node → Type 0
HasPlace place n = n.gate ≡ place + size n.kept

pub read-place : (place : ℕ) (c : Cast) (n : Node) (es : List Entry) → HasPlace place n → HasPlace place (reads c n es)
unfolding reads
read-place place c n [] at = at
read-place place c n (e ∷ es) at = by (takes_up c n e) (read-place place c (reads_one c n e) es one)
  where
    one : HasPlace place (reads_one c n e)
    one =
        let more : size (n.kept ++ e ∷ []) ≡ size n.kept + size (e ∷ []) = size-append n.kept (e ∷ []) in
        let last : size (e ∷ []) ≡ length (record_bytes e) = ap length (append-nil (record_bytes e)) in
        omega (arith, at, more, last)

    by : (b : Bool) → HasPlace place (reads c (reads_one c n e) es)
        → HasPlace place (if b then reads c (reads_one c n e) es else record n { stopped = Some (BadJournal n.gate) })
    by true rest = rest
    by false rest = at

-- from the journal's start
pub start-place : (c : Cast) (es : List Entry) → (from_start c).place + size es ≡ length (up_to_gate c.header es)
start-place c es = sym (length-append c.header (flat_map record_bytes es))
