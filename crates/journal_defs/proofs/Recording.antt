-- Records behind a gate.
use Rattle.std.proofs.Common.{◌≡◌, ◌≢◌, ℕ, ◌≤◌, ltb, List, [], ◌∷◌, ◌++◌, length, take, drop, Ok, refl, sym, ap, subst, ◌∙◌, append_assoc, arith, length-append}
use Rattle.std.specs.List.{flat_map, AllByRecursion}
use Rattle.std.specs.Int.{w32}
use Rattle.std.proofs.lemmas.Bool.{ltb-false, le-ltb}
use Rattle.std.proofs.lemmas.List.{take_at, drop_at}
use Rattle.byte_defs.specs.Fields.{◌>>=◌, refuse_if, number_at, bytes_at, four_bytes}
use Rattle.byte_defs.proofs.Fields.{IsBytes, IsBytes-take, bind_ok, refuse_ok, ok_is, long_takes, long_again, bytes_takes, bytes_again}
use Rattle.journal_defs.specs.Entries.{Entry, IsEntry, Reading, entry_bytes, entry_of}
use Rattle.journal_defs.specs.Journals.{behind_gate, record_bytes, record_at, open_gate, RecordIsSpelled, RecordIsRead, OneReading}
use Rattle.journal_defs.proofs.Entering.{entry_is_spelled, entry_is_read, entry_len, bind_is, pass}

abbrev broken : Unit {0}
broken = tt

abbrev done : Entry × List ℕ → Reading (Entry × List ℕ)
done x = Ok x

abbrev ends : List ℕ → Entry → Reading (Entry × List ℕ)
ends rest e = done (e, rest)

abbrev then_entry : List ℕ × List ℕ → Reading (Entry × List ℕ)
then_entry entry = refuse_if (ltb (length entry.1) 1) broken >>= λ _. (entry_of entry.0 >>= ends entry.1)

abbrev then_bytes : ℕ × List ℕ → Reading (Entry × List ℕ)
then_bytes len = bytes_at broken len.0 len.1 >>= then_entry

pub record_is_read : RecordIsRead
unfolding record_at behind_gate
record_is_read e rest is some =
    let text = entry_bytes e in
    let n = length text in
    let y = done (e, rest) in
    ap (λ (l : List ℕ). number_at broken w32 l >>= then_bytes) (append_assoc (four_bytes n) text rest)
    ∙ bind_is (number_at broken w32 (four_bytes n ++ (text ++ rest))) then_bytes (n, text ++ rest) y
    (long_again broken n (text ++ rest) (entry_len e is))
    (bind_is (bytes_at broken n (text ++ rest)) then_entry (text, rest) y (bytes_again broken text rest)
    (pass (ltb (length rest) 1) (λ _. entry_of text >>= ends rest) (le-ltb _ _ some)
    ∙ bind_is (entry_of text) (ends rest) e y (entry_is_read e is) refl))

pub record_is_spelled : RecordIsSpelled
unfolding record_at behind_gate
record_is_spelled bytes rest e fits read =
    let n = bind_ok (number_at broken w32 bytes) then_bytes (e, rest) read in
    let b = bind_ok (bytes_at broken n.0.0 n.0.1) then_entry (e, rest) n.2 in
    let r = refuse_ok (ltb (length b.0.1) 1) broken (λ _. entry_of b.0.0 >>= ends b.0.1) (e, rest) b.2 in
    let x = bind_ok (entry_of b.0.0) (ends b.0.1) (e, rest) r.1 in
    let tn = long_takes broken bytes n.0.0 n.0.1 fits n.1 in
    let tb = bytes_takes broken n.0.0 n.0.1 b.0.0 b.0.1 tn.0.rest_fits b.1 in
    let front : take (length b.0.0) n.0.1
    ≡ b.0.0 = ap (λ (l : List ℕ). take (length b.0.0) l) tb.0.parts ∙ take_at b.0.0 b.0.1 (length b.0.0) refl in
    let entry_fits : IsBytes b.0.0 = subst IsBytes front (IsBytes-take (length b.0.0) n.0.1 tn.0.rest_fits) in
    let s = entry_is_spelled b.0.0 x.0 entry_fits x.1 in
    let size : n.0.0 ≡ length (entry_bytes x.0) = sym tb.1 ∙ ap length s.0 in
    let parts : bytes ≡ four_bytes (length (entry_bytes x.0)) ++ entry_bytes x.0
    ++ b.0.1 = joined bytes n.0.1 b.0.0 b.0.1 (entry_bytes x.0) n.0.0 tn.0.parts tb.0.parts s.0 size in
    subst (λ (y : Entry × List ℕ). (bytes ≡ four_bytes (length (entry_bytes y.0)) ++ entry_bytes y.0 ++ y.1) × (1 ≤ length y.1)
    × IsEntry y.0) (ok_is (x.0, b.0.1) (e, rest) x.2)
    (parts, ltb-false _ _ r.0, s.1)
  where
    joined : (bytes behind text rest spelled : List ℕ) (n : ℕ) → bytes ≡ four_bytes n ++ behind → behind ≡ text ++ rest → text ≡ spelled
        → n ≡ length spelled → bytes ≡ four_bytes (length spelled) ++ spelled ++ rest
    joined bytes behind text rest spelled n p q s k =
        p ∙ ap (λ (l : List ℕ). four_bytes n ++ l)
        (q ∙ ap (λ (l : List ℕ). l ++ rest) s) ∙ ap (λ (m : ℕ). four_bytes m ++ (spelled ++ rest)) k ∙ sym
        (append_assoc (four_bytes (length spelled)) spelled rest)

-- ---- one reading

abbrev records : List Entry → List ℕ
records es = flat_map record_bytes es

same_records : (es fs : List Entry) (g h : ℕ) (u v : List ℕ) → records es ++ g ∷ u ≡ records fs ++ h ∷ v → g ≢ open_gate → h ≢ open_gate
    → AllByRecursion IsEntry es → AllByRecursion IsEntry fs → es ≡ fs
same_records [] [] g h u v e ng nh es_are fs_are = refl
same_records [] (f ∷ fs) g h u v e ng nh es_are fs_are = absurd (ng cc)
same_records (x ∷ es) [] g h u v e ng nh es_are fs_are = absurd (nh cc)
same_records (x ∷ es) (f ∷ fs) g h u v e ng nh es_are fs_are =
    let left = records es ++ g ∷ u in
    let right = records fs ++ h ∷ v in
    let tail : behind_gate x ++ records es ++ g ∷ u ≡ behind_gate f ++ records fs ++ h ∷ v = cc in
    let behind : behind_gate x ++ left ≡ behind_gate f
    ++ right = sym (append_assoc (behind_gate x) (records es) (g ∷ u)) ∙ tail ∙ append_assoc (behind_gate f) (records fs) (h ∷ v) in
    let some_left : 1 ≤ length left = omega (arith, length-append (records es) (g ∷ u)) in
    let some_right : 1 ≤ length right = omega (arith, length-append (records fs) (h ∷ v)) in
    let both : done (x, left) ≡ done (f, right) = sym
    (record_is_read x left es_are.0 some_left) ∙ ap record_at behind ∙ record_is_read f right fs_are.0 some_right in
    let pair = ok_is (x, left) (f, right) both in
    let rest = same_records es fs g h u v (ap (λ (p : Entry × List ℕ). p.1) pair) ng nh es_are.1 fs_are.1 in
    (λ i. (pair i).0 ∷ rest i)

pub one_reading : OneReading
one_reading head bytes es fs a b =
    let same : head ++ records es ++ a.gate ∷ a.unread ≡ head ++ records fs ++ b.gate ∷ b.unread = sym a.parts ∙ b.parts in
    let cut : records es ++ a.gate ∷ a.unread ≡ records fs ++ b.gate ∷ b.unread =
    sym (drop_at head (records es ++ a.gate ∷ a.unread) (length head) refl)
    ∙ ap (λ (l : List ℕ). drop (length head) l)
    (sym (append_assoc head (records es) (a.gate ∷ a.unread)) ∙ same ∙ append_assoc head (records fs) (b.gate ∷ b.unread))
    ∙ drop_at head (records fs ++ b.gate ∷ b.unread) (length head) refl in
    same_records es fs a.gate b.gate a.unread b.unread cut a.closed b.closed a.each b.each
