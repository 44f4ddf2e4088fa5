-- Replies and states: what is spelled is read, and what is read is spelled so.
use Rattle.std.proofs.Common.{◌≡◌, ℕ, ◌≤◌, ◌<◌, ◌*◌, ◌+◌, Bool, true, false, List, [], ◌∷◌, ◌++◌, length, Ok, Err, refl, sym, ap, subst, ◌∙◌, append_assoc, arith}
use Rattle.std.specs.Prelude.{nat_lt, take, drop, Result}
use Rattle.std.specs.List.{flat_map, AllByRecursion}
use Rattle.std.specs.Int.{w32}
use Rattle.std.proofs.lemmas.Bool.{ltb-false}
use Rattle.std.proofs.lemmas.List.{append-nil, nil_from_length, length-append}
use Rattle.byte_defs.specs.Fields.{◌>>=◌, refuse_if, number_at, bytes_at, two_bytes, four_bytes, text}
use Rattle.byte_defs.proofs.Fields.{IsBytes, IsBytes-take, IsBytes-drop, Takes, Takes-then, bind_ok, refuse_ok, guard_ok, ok_is, long_takes, long_again, bytes_takes, bytes_again}
use Rattle.message_defs.specs.Limits.{last_process, last_number, most_payload_bytes, most_signature_bytes}
use Rattle.store_defs.specs.Stores.{Pair, Store, Reading, most_key_bytes, most_keys, most_value_bytes, pair_bytes, store_bytes, store_of, text_within, IsPair, IsStore}
use Rattle.store_defs.specs.Records.{Reply, StateRecord, IsReply, IsStateRecord, last_position, most_answer_bytes, reply_bytes, reply_of, short_at, small_at, state_at, state_bytes, state_record_of}
use Rattle.store_defs.specs.Laws.{ReplyIsRead, ReplyIsSpelled, StateIsRead, StateIsSpelled}
use Rattle.store_laws.proofs.Grammar.{bind_is, few-keys, pass, short_number_again, short_number_takes, small_again, small_takes, store_is_read, store_is_spelled, within_again, within_takes}
use Rattle.store_laws.proofs.Staying.{broken, done}

-- ---- a reply is read field by field

abbrev reply_so : ℕ → ℕ → ℕ → ℕ → List ℕ → List ℕ → List ℕ → Reply
reply_so g x k i p a s = record { signer = g; view = x; place = k; position = i; payload = p; answer = a; signature = s }

abbrev end_reply : ℕ → ℕ → ℕ → ℕ → List ℕ → List ℕ → List ℕ × List ℕ → Reading Reply
end_reply g x k i p a s = refuse_if (nat_lt 0 (length s.1)) broken >>= λ _. done (reply_so g x k i p a s.0)

abbrev then_answer : ℕ → ℕ → ℕ → ℕ → List ℕ → List ℕ × List ℕ → Reading Reply
then_answer g x k i p a = text_within most_signature_bytes a.1 >>= end_reply g x k i p a.0

abbrev then_payload : ℕ → ℕ → ℕ → ℕ → List ℕ × List ℕ → Reading Reply
then_payload g x k i p = text_within most_answer_bytes p.1 >>= then_answer g x k i p.0

abbrev then_position : ℕ → ℕ → ℕ → ℕ × List ℕ → Reading Reply
then_position g x k i = text_within most_payload_bytes i.1 >>= then_payload g x k i.0

abbrev then_place : ℕ → ℕ → ℕ × List ℕ → Reading Reply
then_place g x k = small_at last_position k.1 >>= then_position g x k.0

abbrev then_view : ℕ → ℕ × List ℕ → Reading Reply
then_view g x = short_at x.1 >>= then_place g x.0

abbrev then_signer : ℕ × List ℕ → Reading Reply
then_signer g = short_at g.1 >>= then_view g.0

pub reply_is_read : ReplyIsRead
unfolding reply_of
reply_is_read r is =
    let y : Reading Reply = Ok r in
    let s : List ℕ = text r.signature in
    let a : List ℕ = text r.answer ++ s in
    let p : List ℕ = text r.payload ++ a in
    let k : List ℕ = two_bytes r.place ++ r.position ∷ p in
    let x : List ℕ = two_bytes r.view ++ k in
    bind_is (small_at last_process (r.signer ∷ x)) then_signer (r.signer, x) y (small_again last_process r.signer x is.signer)
    (bind_is (short_at x) (then_view r.signer) (r.view, k) y (short_number_again r.view k is.view)
    (bind_is (short_at k) (then_place r.signer r.view) (r.place, r.position ∷ p) y (short_number_again r.place (r.position ∷ p) is.place)
    (bind_is (small_at last_position (r.position ∷ p)) (then_position r.signer r.view r.place) (r.position, p) y
    (small_again last_position r.position p is.position)
    (bind_is (text_within most_payload_bytes p) (then_payload r.signer r.view r.place r.position) (r.payload, a) y
    (within_again most_payload_bytes r.payload a is.payload (omega arith))
    (bind_is (text_within most_answer_bytes a) (then_answer r.signer r.view r.place r.position r.payload) (r.answer, s) y
    (within_again most_answer_bytes r.answer s is.answer (omega arith))
    (bind_is (text_within most_signature_bytes s) (end_reply r.signer r.view r.place r.position r.payload r.answer) (r.signature, []) y
    (ap (text_within most_signature_bytes) (sym (append-nil s))
    ∙ within_again most_signature_bytes r.signature [] is.signature (omega arith)) refl))))))

parts : (a b c d e g h i : List ℕ) (n m : ℕ) (x k p q s : List ℕ) → a ≡ (n ∷ []) ++ b → b ≡ x ++ c → c ≡ k ++ d → d ≡ (m ∷ []) ++ e → e ≡ p ++ g
    → g ≡ q ++ h → h ≡ s ++ i → i ≡ [] → a ≡ n ∷ (x ++ (k ++ m ∷ (p ++ (q ++ s))))
parts a b c d e g h i n m x k p q s ab bc cd de eg gh hi none =
    ab ∙ ap (λ (l : List ℕ). n ∷ l) (bc ∙ ap (λ (l : List ℕ). x ++ l) (cd ∙ ap (λ (l : List ℕ). k ++ l) (de ∙ ap (λ (l : List ℕ). m ∷ l)
    (eg ∙ ap (λ (l : List ℕ). p ++ l) (gh ∙ ap (λ (l : List ℕ). q ++ l) (hi ∙ ap (λ (l : List ℕ). s ++ l) none ∙ append-nil s))))))

pub reply_is_spelled : ReplyIsSpelled
unfolding reply_of
reply_is_spelled bytes r fits e =
    let g = bind_ok (small_at last_process bytes) then_signer r e in
    let x = bind_ok (short_at g.0.1) (then_view g.0.0) r g.2 in
    let k = bind_ok (short_at x.0.1) (then_place g.0.0 x.0.0) r x.2 in
    let i = bind_ok (small_at last_position k.0.1) (then_position g.0.0 x.0.0 k.0.0) r k.2 in
    let p = bind_ok (text_within most_payload_bytes i.0.1) (then_payload g.0.0 x.0.0 k.0.0 i.0.0) r i.2 in
    let a = bind_ok (text_within most_answer_bytes p.0.1) (then_answer g.0.0 x.0.0 k.0.0 i.0.0 p.0.0) r p.2 in
    let s = bind_ok (text_within most_signature_bytes a.0.1) (end_reply g.0.0 x.0.0 k.0.0 i.0.0 p.0.0 a.0.0) r a.2 in
    let end = refuse_ok (nat_lt 0 (length s.0.1)) broken (λ _. done (reply_so g.0.0 x.0.0 k.0.0 i.0.0 p.0.0 a.0.0 s.0.0)) r s.2 in
    let tg = small_takes last_process bytes g.0.0 g.0.1 fits g.1 in
    let tx = short_number_takes g.0.1 x.0.0 x.0.1 tg.0.rest_fits x.1 in
    let tk = short_number_takes x.0.1 k.0.0 k.0.1 tx.0.rest_fits k.1 in
    let ti = small_takes last_position k.0.1 i.0.0 i.0.1 tk.0.rest_fits i.1 in
    let tp = within_takes most_payload_bytes i.0.1 p.0.0 p.0.1 ti.0.rest_fits p.1 in
    let ta = within_takes most_answer_bytes p.0.1 a.0.0 a.0.1 tp.0.rest_fits a.1 in
    let ts = within_takes most_signature_bytes a.0.1 s.0.0 s.0.1 ta.0.rest_fits s.1 in
    let none : s.0.1 ≡ [] = nil_from_length s.0.1 (omega (arith, ltb-false _ _ end.0)) in
    let whole = parts bytes g.0.1 x.0.1 k.0.1 i.0.1 p.0.1 a.0.1 s.0.1 g.0.0 i.0.0 (two_bytes x.0.0) (two_bytes k.0.0) (text p.0.0) (text a.0.0)
    (text s.0.0) tg.0.parts tx.0.parts tk.0.parts ti.0.parts tp.0.parts ta.0.parts ts.0.parts none in
    subst (λ (z : Reply). (bytes ≡ reply_bytes z) × IsReply z) (ok_is (reply_so g.0.0 x.0.0 k.0.0 i.0.0 p.0.0 a.0.0 s.0.0) r end.1) (
      whole,
      record { signer = tg.1; view = tx.1; place = tk.1; position = ti.1; payload = tp.1; answer = ta.1; signature = ts.1 },
    )

-- ---- a state

state_again : (s : Store) (rest : List ℕ) → IsStore s → length (store_bytes s) < 4294967296
    → state_at (four_bytes (length (store_bytes s)) ++ (store_bytes s ++ rest)) ≡ Ok (store_bytes s, rest)
unfolding state_at
state_again s rest is short =
    let y : Reading (List ℕ × List ℕ) = Ok (store_bytes s, rest) in
    bind_is (number_at broken w32 (four_bytes (length (store_bytes s)) ++ (store_bytes s ++ rest)))
    (λ len. bytes_at broken len.0 len.1 >>= λ state. store_of state.0 >>= λ _. done state) (length (store_bytes s), store_bytes s ++ rest) y
    (long_again broken (length (store_bytes s)) (store_bytes s ++ rest) short)
    (bind_is (bytes_at broken (length (store_bytes s)) (store_bytes s ++ rest)) (λ state. store_of state.0 >>= λ _. done state)
    (store_bytes s, rest) y (bytes_again broken (store_bytes s) rest)
    (bind_is (store_of (store_bytes s)) (λ _. done (store_bytes s, rest)) s y (store_is_read s is) refl))

-- at most 579 bytes a pair
pair-len : (s : Store) → AllByRecursion IsPair s → length (flat_map pair_bytes s) ≤ length s * 579
pair-len [] each = omega arith
pair-len (e ∷ s) each =
    let key = each.0.key in
    let value = each.0.value in
    let rest = pair-len s each.1 in
    omega (arith, key, value, rest, length-append (pair_bytes e) (flat_map pair_bytes s), length-append e.0 (text e.1))

store-len : (s : Store) → IsStore s → length (store_bytes s) < 4294967296
unfolding store_bytes most_keys
store-len s is =
    let count = is.count in
    let pairs = pair-len s is.each in
    omega (arith, count, pairs, length-append (two_bytes (length s)) (flat_map pair_bytes s))

state_takes : (bytes state rest : List ℕ) → IsBytes bytes → state_at bytes ≡ Ok (state, rest)
    → Takes bytes (four_bytes (length state) ++ state) rest × ((s : Store) × IsStore s × (state ≡ store_bytes s))
unfolding state_at
state_takes bytes state rest fits e =
    let n = bind_ok (number_at broken w32 bytes) (λ len. bytes_at broken len.0 len.1 >>= λ state. store_of state.0 >>= λ _. done state) (state, rest) e in
    let b = bind_ok (bytes_at broken n.0.0 n.0.1) (λ state. store_of state.0 >>= λ _. done state) (state, rest) n.2 in
    let s = bind_ok (store_of b.0.0) (λ _. done b.0) (state, rest) b.2 in
    let tn = long_takes broken bytes n.0.0 n.0.1 fits n.1 in
    let tb = bytes_takes broken n.0.0 n.0.1 b.0.0 b.0.1 tn.0.rest_fits b.1 in
    let inner : IsBytes b.0.0 = inside n.0.0 n.0.1 b.0.0 b.0.1 tn.0.rest_fits b.1 in
    let its = store_is_spelled b.0.0 s.0 inner s.1 in
    let t : Takes bytes (four_bytes (length b.0.0) ++ b.0.0) b.0.1 = subst (λ (k : ℕ). Takes bytes (four_bytes k ++ b.0.0) b.0.1) (sym tb.1)
    (Takes-then bytes (four_bytes n.0.0) n.0.1 b.0.0 b.0.1 tn.0 tb.0) in
    subst (λ (z : List ℕ × List ℕ). Takes bytes (four_bytes (length z.0) ++ z.0) z.1 × ((s : Store) × IsStore s × (z.0 ≡ store_bytes s)))
    (ok_is b.0 (state, rest) s.2) (t, (s.0, its.1, its.0))
  where
    inside : (n : ℕ) (from out rest : List ℕ) → IsBytes from → bytes_at broken n from ≡ Ok (out, rest) → IsBytes out
    inside n from out rest fits e =
        let g = guard_ok (nat_lt (length from) n) broken (take n from, drop n from) (out, rest) e in
        subst IsBytes (ap (λ (p : List ℕ × List ℕ). p.0) g.1) (IsBytes-take n from fits)

abbrev state_so : ℕ → ℕ → List ℕ → List ℕ → StateRecord
state_so g x t s = record { signer = g; view = x; state = t; signature = s }

abbrev end_state : ℕ → ℕ → List ℕ → List ℕ × List ℕ → Reading StateRecord
end_state g x t s = refuse_if (nat_lt 0 (length s.1)) broken >>= λ _. done (state_so g x t s.0)

abbrev then_state : ℕ → ℕ → List ℕ × List ℕ → Reading StateRecord
then_state g x t = text_within most_signature_bytes t.1 >>= end_state g x t.0

abbrev then_number : ℕ → ℕ × List ℕ → Reading StateRecord
then_number g x = state_at x.1 >>= then_state g x.0

abbrev then_giver : ℕ × List ℕ → Reading StateRecord
then_giver g = short_at g.1 >>= then_number g.0

pub state_is_read : StateIsRead
unfolding state_record_of
state_is_read r is =
    let y : Reading StateRecord = Ok r in
    let store = is.state in
    let s : List ℕ = text r.signature in
    let t : List ℕ = four_bytes (length r.state) ++ (r.state ++ s) in
    let x : List ℕ = two_bytes r.view ++ t in
    bind_is (small_at last_process (r.signer ∷ x)) then_giver (r.signer, x) y (small_again last_process r.signer x is.signer)
    (bind_is (short_at x) (then_number r.signer) (r.view, t) y (short_number_again r.view t is.view)
    (bind_is (state_at t) (then_state r.signer r.view) (r.state, s) y
    (subst (λ (b : List ℕ). state_at (four_bytes (length b) ++ (b ++ s)) ≡ Ok (b, s)) (sym store.2)
    (state_again store.0 s store.1 (store-len store.0 store.1)))
    (bind_is (text_within most_signature_bytes s) (end_state r.signer r.view r.state) (r.signature, []) y
    (ap (text_within most_signature_bytes) (sym (append-nil s))
    ∙ within_again most_signature_bytes r.signature [] is.signature (omega arith)) refl)))

state_parts : (a b c d e : List ℕ) (n : ℕ) (x f t s : List ℕ) → a ≡ (n ∷ []) ++ b → b ≡ x ++ c → c ≡ (f ++ t) ++ d → d ≡ s ++ e → e ≡ []
    → a ≡ n ∷ (x ++ (f ++ (t ++ s)))
state_parts a b c d e n x f t s ab bc cd de none =
    ab ∙ ap (λ (l : List ℕ). n ∷ l) (bc ∙ ap (λ (l : List ℕ). x ++ l) (cd ∙ append_assoc f t d ∙ ap (λ (l : List ℕ). f ++ (t ++ l))
    (de ∙ ap (λ (l : List ℕ). s ++ l) none ∙ append-nil s)))

pub state_is_spelled : StateIsSpelled
unfolding state_record_of
state_is_spelled bytes r fits e =
    let g = bind_ok (small_at last_process bytes) then_giver r e in
    let x = bind_ok (short_at g.0.1) (then_number g.0.0) r g.2 in
    let t = bind_ok (state_at x.0.1) (then_state g.0.0 x.0.0) r x.2 in
    let s = bind_ok (text_within most_signature_bytes t.0.1) (end_state g.0.0 x.0.0 t.0.0) r t.2 in
    let end = refuse_ok (nat_lt 0 (length s.0.1)) broken (λ _. done (state_so g.0.0 x.0.0 t.0.0 s.0.0)) r s.2 in
    let tg = small_takes last_process bytes g.0.0 g.0.1 fits g.1 in
    let tx = short_number_takes g.0.1 x.0.0 x.0.1 tg.0.rest_fits x.1 in
    let tt_ = state_takes x.0.1 t.0.0 t.0.1 tx.0.rest_fits t.1 in
    let ts = within_takes most_signature_bytes t.0.1 s.0.0 s.0.1 tt_.0.rest_fits s.1 in
    let none : s.0.1 ≡ [] = nil_from_length s.0.1 (omega (arith, ltb-false _ _ end.0)) in
    let whole = state_parts bytes g.0.1 x.0.1 t.0.1 s.0.1 g.0.0 (two_bytes x.0.0) (four_bytes (length t.0.0)) t.0.0 (text s.0.0)
    tg.0.parts tx.0.parts tt_.0.parts ts.0.parts none in
    subst (λ (z : StateRecord). (bytes ≡ state_bytes z) × IsStateRecord z) (ok_is (state_so g.0.0 x.0.0 t.0.0 s.0.0) r end.1)
    (whole, record { signer = tg.1; view = tx.1; state = tt_.1; signature = ts.1 })
