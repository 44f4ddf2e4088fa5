-- Orders, Places and Keeps behind the kind byte: what was read is spelled so, and what is spelled so is read.
use Rattle.std.proofs.Common.{◌≡◌, ℕ, zero, suc, ◌+◌, ◌≤◌, Bool, true, false, ltb, List, [], ◌∷◌, ◌++◌, length, Ok, refl, sym, ap, subst, ◌∙◌, append_assoc, arith}
use Rattle.std.specs.List.{AllByRecursion, flat_map}
use Rattle.std.proofs.lemmas.Bool.{ltb-false, le-ltb}
use Rattle.std.proofs.lemmas.List.{append-nil}
use Rattle.byte_defs.specs.Fields.{two_bytes}
use Rattle.byte_defs.proofs.Fields.{IsBytes, bind_ok, refuse_ok, ok_is, Takes, Takes-then, byte_again, short_again}
use Rattle.message_defs.specs.declared.FrameFault.TheVariants as faults
use Rattle.message_defs.specs.Statements.{Message, Batch}
use Rattle.message_defs.specs.Spelling.{IsMessage, IsBatch, message_bytes, batch_bytes, place_kind}
use Rattle.message_defs.specs.Reading.{byte_at, short_at, ended, message_at, messages_at, count_at, within, message_within, messages_within, placed_at}
use Rattle.statements.proofs.Parts.{short, byte, whole, within_ok, is_within, ended_ok, message_within_ok, is_message_within, message_takes, message_again}

-- ---- so many messages

abbrev AreMessages : Batch → Type 0
AreMessages b = AllByRecursion IsMessage b

messages_within_ok : (b : Batch) → messages_within b ≡ Ok tt → AreMessages b
messages_within_ok [] e = tt
messages_within_ok (m ∷ ms) e =
    let a = bind_ok (message_within m) _ tt e in
    (message_within_ok m a.1, messages_within_ok ms a.2)

are_messages_within : (b : Batch) → AreMessages b → messages_within b ≡ Ok tt
are_messages_within [] fits = refl
are_messages_within (m ∷ ms) fits = rw (is_message_within m fits.0) (are_messages_within ms fits.1)

messages_many : (n : ℕ) (bytes : List ℕ) (x : Batch × List ℕ) → messages_at n bytes ≡ Ok x → length x.0 ≡ n
unfolding messages_at
messages_many zero bytes x e = subst (λ (y : Batch × List ℕ). length y.0 ≡ 0) (ok_is ([], bytes) x e) refl
messages_many (suc n) bytes x e =
    let a = bind_ok (message_at bytes) _ x e in
    let b = bind_ok (messages_at n a.0.1) _ x a.2 in
    let made : Batch × List ℕ = (a.0.0 ∷ b.0.0, b.0.1) in
    subst (λ (y : Batch × List ℕ). length y.0 ≡ suc n) (ok_is made x b.2) (ap suc (messages_many n a.0.1 b.0 b.1))

messages_take : (n : ℕ) (bytes : List ℕ) (x : Batch × List ℕ) → IsBytes bytes → messages_at n bytes ≡ Ok x
    → Takes bytes (flat_map message_bytes x.0) x.1
unfolding messages_at
messages_take zero bytes x fits e = subst (λ (y : Batch × List ℕ). Takes bytes (flat_map message_bytes y.0) y.1) (ok_is ([], bytes) x e)
    (record { parts = refl; rest_fits = fits })
messages_take (suc n) bytes x fits e =
    let a = bind_ok (message_at bytes) _ x e in
    let b = bind_ok (messages_at n a.0.1) _ x a.2 in
    let made : Batch × List ℕ = (a.0.0 ∷ b.0.0, b.0.1) in
    let first = message_takes bytes a.0 fits a.1 in
    let others = messages_take n a.0.1 b.0 first.rest_fits b.1 in
    subst (λ (y : Batch × List ℕ). Takes bytes (flat_map message_bytes y.0) y.1) (ok_is made x b.2)
    (Takes-then bytes (message_bytes a.0.0) a.0.1 (flat_map message_bytes b.0.0) b.0.1 first others)

messages_again : (b : Batch) (rest : List ℕ) → AreMessages b → messages_at (length b) (flat_map message_bytes b ++ rest) ≡ Ok (b, rest)
unfolding messages_at
messages_again [] rest fits = refl
messages_again (m ∷ ms) rest fits =
    let front = append_assoc (message_bytes m) (flat_map message_bytes ms) rest in
    ap (messages_at (suc (length ms))) front ∙ rw
    (message_again m (flat_map message_bytes ms ++ rest) fits.0, messages_again ms rest fits.1) refl

-- ---- how many they are

abbrev HowMany : Bool → ℕ → Type 0
HowMany false n = n ≡ 1
HowMany true n = (2 ≤ n) × (n ≤ 16)

-- one message is not counted
abbrev count_bytes : Bool → ℕ → List ℕ
count_bytes false n = []
count_bytes true n = n ∷ []

count_many : (several : Bool) (bytes : List ℕ) (x : ℕ × List ℕ) → count_at several bytes ≡ Ok x → HowMany several x.0
unfolding count_at
count_many false bytes x e = subst (λ (y : ℕ × List ℕ). y.0 ≡ 1) (ok_is (1, bytes) x e) refl
count_many true bytes x e =
    let a = bind_ok (byte_at bytes) _ x e in
    let b = refuse_ok (ltb a.0.0 2) faults.Statement _ x a.2 in
    let d = refuse_ok (ltb 16 a.0.0) faults.Statement (λ _. Ok a.0) x b.1 in
    subst (λ (y : ℕ × List ℕ). (2 ≤ y.0) × (y.0 ≤ 16)) (ok_is a.0 x d.1) (ltb-false _ _ b.0, ltb-false _ _ d.0)

count_takes : (several : Bool) (bytes : List ℕ) (x : ℕ × List ℕ) → IsBytes bytes → count_at several bytes ≡ Ok x
    → Takes bytes (count_bytes several x.0) x.1
unfolding count_at
count_takes false bytes x fits e = subst (λ (y : ℕ × List ℕ). Takes bytes [] y.1) (ok_is (1, bytes) x e)
    (record { parts = refl; rest_fits = fits })
count_takes true bytes x fits e =
    let a = bind_ok (byte_at bytes) _ x e in
    let b = refuse_ok (ltb a.0.0 2) faults.Statement _ x a.2 in
    let d = refuse_ok (ltb 16 a.0.0) faults.Statement (λ _. Ok a.0) x b.1 in
    subst (λ (y : ℕ × List ℕ). Takes bytes (y.0 ∷ []) y.1) (ok_is a.0 x d.1) (byte bytes a.0 fits a.1)

count_again : (n : ℕ) (rest : List ℕ) → 2 ≤ n → n ≤ 16 → count_at true (n ∷ rest) ≡ Ok (n, rest)
unfolding count_at
count_again n rest several few =
    let enough : ltb n 2 ≡ false = le-ltb _ _ several in
    let fine : ltb 16 n ≡ false = le-ltb _ _ few in
    rw (byte_again faults.Statement n rest, enough, fine) refl

-- ---- the whole

-- in range, and spelled so
pub record IsPlaced (several : Bool) (bytes : List ℕ) (x k : ℕ) (b : Batch) : Type 0 where
  pub view : x ≤ 1023
  pub place : k ≤ 1023
  pub batch : IsBatch b
  pub many : HowMany several (length b)
  pub parts : IsBytes bytes → bytes ≡ two_bytes x ++ two_bytes k ++ (count_bytes several (length b) ++ flat_map message_bytes b)

are_some : (several : Bool) (n : ℕ) → HowMany several n → (1 ≤ n) × (n ≤ 16)
are_some false n one = (omega (arith, one), omega (arith, one))
are_some true n many = (omega (arith, many.0), many.1)

pub placed_takes : (several : Bool) (bytes : List ℕ) (p : ℕ × ℕ × Batch) → placed_at several bytes ≡ Ok p
    → IsPlaced several bytes p.0 p.1 p.2
unfolding placed_at
placed_takes several bytes p e =
    let a = bind_ok (short_at bytes) _ p e in
    let b = bind_ok (short_at a.0.1) _ p a.2 in
    let n = bind_ok (count_at several b.0.1) _ p b.2 in
    let d = bind_ok (messages_at n.0.0 n.0.1) _ p n.2 in
    let t = bind_ok (ended d.0.1) _ p d.2 in
    let u = bind_ok (within 1023 a.0.0) _ p t.2 in
    let v = bind_ok (within 1023 b.0.0) _ p u.2 in
    let w = bind_ok (messages_within d.0.0) _ p v.2 in
    let made : ℕ × ℕ × Batch = (a.0.0, b.0.0, d.0.0) in
    let len : length d.0.0 ≡ n.0.0 = messages_many n.0.0 n.0.1 d.0 d.1 in
    let many : HowMany several (length d.0.0) = subst (HowMany several) (sym len) (count_many several b.0.1 n.0 n.1) in
    let some = are_some several (length d.0.0) many in
    subst (λ (q : ℕ × ℕ × Batch). IsPlaced several bytes q.0 q.1 q.2) (ok_is made p w.2)
    (record {
      view = within_ok _ _ u.1;
      place = within_ok _ _ v.1;
      batch = record { some = some.0; few = some.1; each = messages_within_ok _ w.1 };
      many = many;
      parts = λ fits.
          let view = short bytes a.0 fits a.1 in
          let place = short a.0.1 b.0 view.rest_fits b.1 in
          let count = subst (λ m. Takes b.0.1 (count_bytes several m) n.0.1) (sym len)
          (count_takes several b.0.1 n.0 place.rest_fits n.1) in
          let messages = messages_take n.0.0 n.0.1 d.0 count.rest_fits d.1 in
          let both = Takes-then bytes (two_bytes a.0.0) a.0.1 (two_bytes b.0.0) b.0.1 view place in
          let batch = Takes-then b.0.1 (count_bytes several (length d.0.0)) n.0.1 (flat_map message_bytes d.0.0) d.0.1 count messages in
          let all = Takes-then bytes (two_bytes a.0.0 ++ two_bytes b.0.0) b.0.1
          (count_bytes several (length d.0.0) ++ flat_map message_bytes d.0.0) d.0.1 both batch in
          whole bytes (two_bytes a.0.0 ++ two_bytes b.0.0
          ++ (count_bytes several (length d.0.0) ++ flat_map message_bytes d.0.0)) d.0.1 all.parts (ended_ok d.0.1 t.1);
    })

-- one message has the kind's own byte, and several the byte that is nine more
pub one_spelled : (kind x k : ℕ) (b : Batch) (bytes : List ℕ) → IsPlaced false bytes x k b → IsBytes bytes
    → kind ∷ bytes ≡ place_kind kind b ∷ (two_bytes x ++ two_bytes k ++ batch_bytes b)
one_spelled kind x k [] bytes p fits = absurd (omega (arith, p.many))
one_spelled kind x k (m ∷ []) bytes p fits = ap (λ (t : List ℕ). kind ∷ t) (p.parts fits)
one_spelled kind x k (m ∷ l ∷ ms) bytes p fits = absurd (omega (arith, p.many))

pub several_spelled : (kind x k : ℕ) (b : Batch) (bytes : List ℕ) → IsPlaced true bytes x k b → IsBytes bytes
    → (kind + 9) ∷ bytes ≡ place_kind kind b ∷ (two_bytes x ++ two_bytes k ++ batch_bytes b)
several_spelled kind x k [] bytes p fits = absurd (omega (arith, p.many.0))
several_spelled kind x k (m ∷ []) bytes p fits = absurd (omega (arith, p.many.0))
several_spelled kind x k (m ∷ l ∷ ms) bytes p fits = ap (λ (t : List ℕ). (kind + 9) ∷ t) (p.parts fits)

placed_again : (several : Bool) (x k : ℕ) (b : Batch) (counted : List ℕ) → x ≤ 1023 → k ≤ 1023 → AreMessages b
    → count_at several counted ≡ Ok (length b, flat_map message_bytes b)
    → placed_at several (two_bytes x ++ (two_bytes k ++ counted)) ≡ Ok (x, k, b)
unfolding placed_at
placed_again several x k b counted view place each count =
    let messages : messages_at (length b) (flat_map message_bytes b)
    ≡ Ok (b, []) = ap (messages_at (length b)) (sym (append-nil (flat_map message_bytes b))) ∙ messages_again b [] each in
    rw (
      short_again faults.Statement x (two_bytes k ++ counted) (omega (arith, view)),
      short_again faults.Statement k counted (omega (arith, place)),
      count,
      messages,
      is_within 1023 x view,
      is_within 1023 k place,
      are_messages_within b each,
    ) refl

pub one_again : (x k : ℕ) (m : Message) → x ≤ 1023 → k ≤ 1023 → IsMessage m
    → placed_at false (two_bytes x ++ two_bytes k ++ message_bytes m) ≡ Ok (x, k, m ∷ [])
unfolding count_at
one_again x k m view place fits = placed_again false x k (m ∷ []) (message_bytes m) view place (fits, tt) refl

pub several_again : (x k : ℕ) (b : Batch) → x ≤ 1023 → k ≤ 1023 → IsBatch b → 2 ≤ length b
    → placed_at true (two_bytes x ++ two_bytes k ++ (length b ∷ flat_map message_bytes b)) ≡ Ok (x, k, b)
several_again x k b view place fits several = placed_again true x k b (length b ∷ flat_map message_bytes b) view place fits.each
    (count_again (length b) (flat_map message_bytes b) several fits.few)
