-- What stands at a gate, and what is read there.
use Rattle.std.proofs.Common.{◌≡◌, ℕ, ◌+◌, List, [], ◌∷◌, ◌++◌, length, drop, Ok, refl, sym, ap, ◌∙◌, arith, append_assoc, length-append}
use Rattle.std.specs.List.{flat_map, AllByRecursion}
use Rattle.std.proofs.lemmas.Grind.{flat_map-append}
use Rattle.std.proofs.lemmas.List.{drop_at}
use Rattle.byte_defs.proofs.Fields.{ok_is}
use Rattle.journal_defs.specs.Entries.{Entry, IsEntry, Reading}
use Rattle.journal_defs.specs.Journals.{open_gate, behind_gate, record_bytes, record_at, up_to_gate, LieBefore, EntryGoesOn, ClosedGateEnds, BrokenGateBreaks, EntryIsThere, GateIsThere, OneEntry}
use Rattle.journal_defs.proofs.Recording.{record_is_read}
use Rattle.journal_defs.proofs.Crashing.{one_more, each_push, next_place}

-- from the place on
from_place : (head bytes : List ℕ) (es : List Entry) (place : ℕ) (s : LieBefore head bytes es place) → drop place bytes ≡ s.rest
from_place head bytes es place s = ap (λ (l : List ℕ). drop place l) s.parts ∙ drop_at (up_to_gate head es) s.rest place (sym s.where_it_is)

behind_them : (head bytes : List ℕ) (es : List Entry) (place : ℕ) (l : List ℕ) → LieBefore head bytes es place → drop place bytes ≡ l
    → bytes ≡ up_to_gate head es ++ l
behind_them head bytes es place l s is = s.parts ∙ ap (λ (r : List ℕ). up_to_gate head es ++ r)
    (sym (from_place head bytes es place s) ∙ is)

record_place : (head : List ℕ) (es : List Entry) (e : Entry)
    → length (up_to_gate head es) + length (record_bytes e) ≡ length (up_to_gate head (es ++ e ∷ []))
record_place head es e = omega (arith, next_place head es e, length-append (behind_gate e) (0 ∷ []))

pub entry_goes_on : EntryGoesOn
entry_goes_on head bytes es place e next s h = record {
  rest = h.more;
  parts = behind_them head bytes es place (open_gate ∷ (behind_gate e ++ h.more)) s h.parts ∙ one_more head es e h.more;
  goes_on = h.goes_on;
  where_it_is = h.next_is ∙ ap (λ (n : ℕ). n + length (record_bytes e)) s.where_it_is ∙ record_place head es e;
  each = each_push es e s.each h.entry;
}

pub closed_gate_ends : ClosedGateEnds
closed_gate_ends head bytes es place s c = record {
  gate = c.gate;
  unread = c.behind;
  parts = behind_them head bytes es place (c.gate ∷ c.behind) s c.parts;
  closed = c.closed;
  each = s.each;
}

pub broken_gate_breaks : BrokenGateBreaks
broken_gate_breaks head bytes es place s b = record {
  entries = es;
  behind = b.behind;
  parts = behind_them head bytes es place (open_gate ∷ b.behind) s b.parts;
  where_it_is = s.where_it_is;
  each = s.each;
  no_entry = b.no_entry;
}

nested : (h r b f t : List ℕ) (o : ℕ) → (h ++ (r ++ (o ∷ (b ++ f)))) ++ t ≡ (h ++ r) ++ o ∷ (b ++ (f ++ t))
nested h r b f t o = simp append_assoc

each_within : (es fs : List Entry) (e : Entry) → AllByRecursion IsEntry (es ++ e ∷ fs) → IsEntry e
each_within [] fs e each = each.0
each_within (x ∷ es) fs e each = each_within es fs e each.1

pub entry_is_there : EntryIsThere
entry_is_there head bytes es fs e r =
    let records = flat_map record_bytes es in
    let others = flat_map record_bytes fs in
    let more = others ++ r.gate ∷ r.unread in
    let parts : bytes ≡ (head ++ records) ++ open_gate ∷ (behind_gate e ++ more) =
    r.parts ∙ ap (λ (l : List ℕ). (head ++ l) ++ r.gate ∷ r.unread)
    (flat_map-append record_bytes es (e ∷ fs)) ∙ nested head records (behind_gate e) others (r.gate ∷ r.unread) open_gate in
    record {
      more = more;
      parts = ap (λ (l : List ℕ). drop (length (up_to_gate head es)) l) parts ∙ drop_at (head ++ records)
          (open_gate ∷ (behind_gate e ++ more)) (length (up_to_gate head es)) refl;
      goes_on = omega (arith, length-append others (r.gate ∷ r.unread));
      next_is = sym (record_place head es e);
      entry = each_within es fs e r.each;
    }

pub gate_is_there : GateIsThere
gate_is_there head bytes es r = record {
  gate = r.gate;
  behind = r.unread;
  parts = ap (λ (l : List ℕ). drop (length (up_to_gate head es)) l) r.parts ∙ drop_at (up_to_gate head es) (r.gate ∷ r.unread)
      (length (up_to_gate head es)) refl;
  closed = r.closed;
}

abbrev done : Entry × List ℕ → Reading (Entry × List ℕ)
done x = Ok x

pub one_entry : OneEntry
one_entry bytes place e f m n a b =
    let same : open_gate ∷ (behind_gate e ++ a.more) ≡ open_gate ∷ (behind_gate f ++ b.more) = sym a.parts ∙ b.parts in
    let tail : behind_gate e ++ a.more ≡ behind_gate f ++ b.more = cc in
    let both : done (e, a.more) ≡ done (f, b.more) = sym
    (record_is_read e a.more a.entry a.goes_on) ∙ ap record_at tail ∙ record_is_read f b.more b.entry b.goes_on in
    ap (λ (p : Entry × List ℕ). p.0) (ok_is (e, a.more) (f, b.more) both)
