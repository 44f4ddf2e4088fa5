-- Statements whole: what was read is in range and spelled so, and what is in range and spelled so is read.
use Rattle.std.proofs.Common.{◌≡◌, ℕ, ◌≤◌, Bool, true, false, not, eqb, List, [], ◌∷◌, ◌++◌, length, Option, Result, Ok, Err, refl, sym, ap, subst, ◌∙◌, arith}
use Rattle.std.specs.Prelude.{if◌then◌else◌, ◌+◌, IfOk}
use Rattle.std.proofs.lemmas.Bool.{eqb-true}
use Rattle.std.proofs.lemmas.List.{append-nil}
use Rattle.byte_defs.specs.Fields.{◌>>=◌, two_bytes, text}
use Rattle.byte_defs.proofs.Fields.{IsBytes, bind_ok, refuse_ok, ok_is, Takes-then, byte_again, short_again}
use Rattle.message_defs.specs.declared.FrameFault.{FrameFault}
use Rattle.message_defs.specs.declared.FrameFault.TheVariants as faults
use Rattle.message_defs.specs.Updates.{Update, Value, update_numbers}
use Rattle.message_defs.specs.Statements.{Message, Batch, Statement, Init, Echo, Order, Place, Keep, Notify, End, Last, Suggest, Ack, Ready}
use Rattle.message_defs.specs.Spelling.{IsStatement, IsBatch, IsValue, message_bytes, batch_bytes, place_kind, value_bytes, ready_bytes, spelling}
use Rattle.message_defs.specs.Reading.{byte_at, short_at, ended, message_at, payload_at, update_at, value_at, report_at, within, message_within, update_within, value_within, report_within, init_at, echo_at, placed_at, place_at, notify_at, end_at, last_at, valued_at, ranked_at, content_at, is_kind, statement_in, statement_of}
use Rattle.byte_defs.specs.Reads.{Gives}
use Rattle.statements.specs.declared.statement.Statement as code
use Rattle.statements.specs.Views.{stmt}
use Rattle.statements.proofs.Places.{IsPlaced, placed_takes, one_spelled, several_spelled, one_again, several_again}
use Rattle.statements.proofs.Parts.{short, byte, whole, within_ok, is_within, ended_ok, message_within_ok, is_message_within, update_within_ok, is_update_within, value_within_ok, is_value_within, report_within_ok, is_report_within, message_takes, message_again, payload_takes, payload_again, update_takes, update_again, value_takes, value_again, report_takes, report_again}

-- the statement is in range, and its spelling is the kind and these bytes
abbrev IsSpelled : ℕ → List ℕ → Statement → Type 0
IsSpelled kind bytes st = IsStatement st × (IsBytes bytes → kind ∷ bytes ≡ spelling st)

-- ---- each kind

init_takes : (bytes : List ℕ) (st : Statement) → init_at bytes ≡ Ok st → IsSpelled 1 bytes st
unfolding init_at
init_takes bytes st e =
    let a = bind_ok (short_at bytes) _ st e in
    let b = bind_ok (short_at a.0.1) _ st a.2 in
    let d = bind_ok (payload_at b.0.1) _ st b.2 in
    let u = bind_ok (within 1023 a.0.0) _ st d.2 in
    let v = bind_ok (within 1023 b.0.0) _ st u.2 in
    let w = bind_ok (within 1024 (length d.0)) _ st v.2 in
    subst (λ (s : Statement). IsSpelled 1 bytes s) (ok_is (Init a.0.0 b.0.0 d.0) st w.2) (
      (within_ok _ _ u.1, within_ok _ _ v.1, within_ok _ _ w.1),
      λ fits.
          let view = short bytes a.0 fits a.1 in
          let number = short a.0.1 b.0 view.rest_fits b.1 in
          let parts : bytes ≡ (two_bytes a.0.0 ++ two_bytes b.0.0)
          ++ text d.0 = (Takes-then bytes (two_bytes a.0.0) a.0.1 (two_bytes b.0.0) b.0.1 view number).parts ∙ ap
          (λ (t : List ℕ). (two_bytes a.0.0 ++ two_bytes b.0.0) ++ t) (payload_takes b.0.1 d.0 number.rest_fits d.1) in
          ap (λ (t : List ℕ). 1 ∷ t) parts,
    )

init_again : (x l : ℕ) (payload : List ℕ) → IsStatement (Init x l payload)
    → init_at (two_bytes x ++ two_bytes l ++ text payload) ≡ Ok (Init x l payload)
unfolding init_at
init_again x l payload fits =
    rw (
      short_again faults.Statement x (two_bytes l ++ text payload) (omega (arith, fits.0)),
      short_again faults.Statement l (text payload) (omega (arith, fits.1)),
      payload_again payload fits.2,
      is_within 1023 x fits.0,
      is_within 1023 l fits.1,
      is_within 1024 (length payload) fits.2,
    ) refl

echo_takes : (bytes : List ℕ) (st : Statement) → echo_at bytes ≡ Ok st → IsSpelled 2 bytes st
unfolding echo_at
echo_takes bytes st e =
    let a = bind_ok (short_at bytes) _ st e in
    let b = bind_ok (message_at a.0.1) _ st a.2 in
    let d = bind_ok (payload_at b.0.1) _ st b.2 in
    let u = bind_ok (within 1023 a.0.0) _ st d.2 in
    let v = bind_ok (message_within b.0.0) _ st u.2 in
    let w = bind_ok (within 1024 (length d.0)) _ st v.2 in
    subst (λ (s : Statement). IsSpelled 2 bytes s) (ok_is (Echo a.0.0 b.0.0 d.0) st w.2) (
      (within_ok _ _ u.1, message_within_ok _ v.1, within_ok _ _ w.1),
      λ fits.
          let view = short bytes a.0 fits a.1 in
          let message = message_takes a.0.1 b.0 view.rest_fits b.1 in
          let parts : bytes ≡ (two_bytes a.0.0 ++ message_bytes b.0.0)
          ++ text d.0 = (Takes-then bytes (two_bytes a.0.0) a.0.1 (message_bytes b.0.0) b.0.1 view message).parts ∙ ap
          (λ (t : List ℕ). (two_bytes a.0.0 ++ message_bytes b.0.0) ++ t) (payload_takes b.0.1 d.0 message.rest_fits d.1) in
          ap (λ (t : List ℕ). 2 ∷ t) parts,
    )

echo_again : (x : ℕ) (m : Message) (payload : List ℕ) → IsStatement (Echo x m payload)
    → echo_at (two_bytes x ++ message_bytes m ++ text payload) ≡ Ok (Echo x m payload)
unfolding echo_at
echo_again x m payload fits =
    rw (
      short_again faults.Statement x (message_bytes m ++ text payload) (omega (arith, fits.0)),
      message_again m (text payload) fits.1,
      payload_again payload fits.2,
      is_within 1023 x fits.0,
      is_message_within m fits.1,
      is_within 1024 (length payload) fits.2,
    ) refl

notify_takes : (bytes : List ℕ) (st : Statement) → notify_at bytes ≡ Ok st → IsSpelled 6 bytes st
unfolding notify_at
notify_takes bytes st e =
    let a = bind_ok (short_at bytes) _ st e in
    let b = bind_ok (update_at a.0.1) _ st a.2 in
    let t = bind_ok (ended b.0.1) _ st b.2 in
    let u = bind_ok (within 1023 a.0.0) _ st t.2 in
    let v = bind_ok (update_within b.0.0) _ st u.2 in
    subst (λ (s : Statement). IsSpelled 6 bytes s) (ok_is (Notify a.0.0 b.0.0) st v.2) (
      (within_ok _ _ u.1, update_within_ok _ v.1),
      λ fits.
          let view = short bytes a.0 fits a.1 in
          let update = update_takes a.0.1 b.0 view.rest_fits b.1 in
          let both = Takes-then bytes (two_bytes a.0.0) a.0.1 (update_numbers b.0.0) b.0.1 view update in
          ap (λ (t : List ℕ). 6 ∷ t) (whole bytes (two_bytes a.0.0 ++ update_numbers b.0.0) b.0.1 both.parts (ended_ok b.0.1 t.1)),
    )

notify_again : (x : ℕ) (u : Update) → IsStatement (Notify x u) → notify_at (two_bytes x ++ update_numbers u) ≡ Ok (Notify x u)
unfolding notify_at
notify_again x u fits =
    let last : update_at (update_numbers u) ≡ Ok (u, []) = ap update_at (sym (append-nil (update_numbers u))) ∙ update_again u [] in
    rw (
      short_again faults.Statement x (update_numbers u) (omega (arith, fits.0)),
      last,
      is_within 1023 x fits.0,
      is_update_within u fits.1,
    ) refl

end_takes : (bytes : List ℕ) (st : Statement) → end_at bytes ≡ Ok st → IsSpelled 7 bytes st
unfolding end_at
end_takes bytes st e =
    let a = bind_ok (short_at bytes) _ st e in
    let b = bind_ok (short_at a.0.1) _ st a.2 in
    let t = bind_ok (ended b.0.1) _ st b.2 in
    let u = bind_ok (within 1023 a.0.0) _ st t.2 in
    let v = bind_ok (within 1024 b.0.0) _ st u.2 in
    subst (λ (s : Statement). IsSpelled 7 bytes s) (ok_is (End a.0.0 b.0.0) st v.2) (
      (within_ok _ _ u.1, within_ok _ _ v.1),
      λ fits.
          let view = short bytes a.0 fits a.1 in
          let len = short a.0.1 b.0 view.rest_fits b.1 in
          let both = Takes-then bytes (two_bytes a.0.0) a.0.1 (two_bytes b.0.0) b.0.1 view len in
          ap (λ (t : List ℕ). 7 ∷ t) (whole bytes (two_bytes a.0.0 ++ two_bytes b.0.0) b.0.1 both.parts (ended_ok b.0.1 t.1)),
    )

end_before : (x k : ℕ) (rest : List ℕ) → rest ≡ [] → IsStatement (End x k) → end_at (two_bytes x ++ (two_bytes k ++ rest)) ≡ Ok (End x k)
unfolding end_at
end_before x k rest none fits =
    rw (
      short_again faults.Statement x (two_bytes k ++ rest) (omega (arith, fits.0)),
      short_again faults.Statement k rest (omega (arith, fits.1)),
      none,
      is_within 1023 x fits.0,
      is_within 1024 k fits.1,
    ) refl

end_again : (x k : ℕ) → IsStatement (End x k) → end_at (two_bytes x ++ two_bytes k) ≡ Ok (End x k)
end_again x k fits = ap (λ (t : List ℕ). end_at (two_bytes x ++ t)) (sym (append-nil (two_bytes k))) ∙ end_before x k [] refl fits

last_takes : (bytes : List ℕ) (st : Statement) → last_at bytes ≡ Ok st → IsSpelled 8 bytes st
unfolding last_at
last_takes bytes st e =
    let a = bind_ok (short_at bytes) _ st e in
    let b = bind_ok (byte_at a.0.1) _ st a.2 in
    let d = bind_ok (report_at b.0.1) _ st b.2 in
    let t = bind_ok (ended d.0.1) _ st d.2 in
    let u = bind_ok (within 1023 a.0.0) _ st t.2 in
    let v = bind_ok (within 15 b.0.0) _ st u.2 in
    let w = bind_ok (report_within b.0.0 d.0.0) _ st v.2 in
    subst (λ (s : Statement). IsSpelled 8 bytes s) (ok_is (Last a.0.0 b.0.0 d.0.0) st w.2) (
      (within_ok _ _ u.1, within_ok _ _ v.1, report_within_ok _ _ w.1),
      λ fits.
          let view = short bytes a.0 fits a.1 in
          let rank = byte a.0.1 b.0 view.rest_fits b.1 in
          let report = report_takes b.0.1 d.0 rank.rest_fits d.1 in
          let both = Takes-then bytes (two_bytes a.0.0) a.0.1 (b.0.0 ∷ []) b.0.1 view rank in
          let all = Takes-then bytes (two_bytes a.0.0 ++ b.0.0 ∷ []) b.0.1 (ready_bytes d.0.0) d.0.1 both report in
          ap (λ (t : List ℕ). 8 ∷ t) (whole bytes (two_bytes a.0.0 ++ b.0.0 ∷ ready_bytes d.0.0) d.0.1 all.parts (ended_ok d.0.1 t.1)),
    )

last_again : (x r : ℕ) (ready : Option (ℕ × Value)) → IsStatement (Last x r ready)
    → last_at (two_bytes x ++ r ∷ ready_bytes ready) ≡ Ok (Last x r ready)
unfolding last_at
last_again x r ready fits =
    let last : report_at (ready_bytes ready)
    ≡ Ok (ready, []) = ap report_at (sym (append-nil (ready_bytes ready))) ∙ report_again r ready [] fits.2 in
    rw (
      short_again faults.Statement x (r ∷ ready_bytes ready) (omega (arith, fits.0)),
      byte_again faults.Statement r (ready_bytes ready),
      last,
      is_within 1023 x fits.0,
      is_within 15 r fits.1,
      is_report_within r ready fits.2,
    ) refl

-- the view, the rank and the value of a Suggest, an Ack or a Ready
record IsValued (bytes : List ℕ) (x r : ℕ) (v : Value) : Type 0 where
  view : x ≤ 1023
  rank : r ≤ 15
  value : IsValue v
  parts : IsBytes bytes → bytes ≡ two_bytes x ++ r ∷ value_bytes v

valued_takes : (bytes : List ℕ) (p : ℕ × ℕ × Value) → valued_at bytes ≡ Ok p → IsValued bytes p.0 p.1 p.2
unfolding valued_at
valued_takes bytes p e =
    let a = bind_ok (short_at bytes) _ p e in
    let b = bind_ok (byte_at a.0.1) _ p a.2 in
    let d = bind_ok (value_at b.0.1) _ p b.2 in
    let t = bind_ok (ended d.0.1) _ p d.2 in
    let u = bind_ok (within 1023 a.0.0) _ p t.2 in
    let v = bind_ok (within 15 b.0.0) _ p u.2 in
    let w = bind_ok (value_within d.0.0) _ p v.2 in
    let made : ℕ × ℕ × Value = (a.0.0, b.0.0, d.0.0) in
    subst (λ (q : ℕ × ℕ × Value). IsValued bytes q.0 q.1 q.2) (ok_is made p w.2)
    (record {
      view = within_ok _ _ u.1;
      rank = within_ok _ _ v.1;
      value = value_within_ok _ w.1;
      parts = λ fits.
          let view = short bytes a.0 fits a.1 in
          let rank = byte a.0.1 b.0 view.rest_fits b.1 in
          let value = value_takes b.0.1 d.0 rank.rest_fits d.1 in
          let both = Takes-then bytes (two_bytes a.0.0) a.0.1 (b.0.0 ∷ []) b.0.1 view rank in
          let all = Takes-then bytes (two_bytes a.0.0 ++ b.0.0 ∷ []) b.0.1 (value_bytes d.0.0) d.0.1 both value in
          whole bytes (two_bytes a.0.0 ++ b.0.0 ∷ value_bytes d.0.0) d.0.1 all.parts (ended_ok d.0.1 t.1);
    })

valued_again : (x r : ℕ) (v : Value) → x ≤ 1023 → r ≤ 15 → IsValue v → valued_at (two_bytes x ++ r ∷ value_bytes v) ≡ Ok (x, r, v)
unfolding valued_at
valued_again x r v view rank fits =
    let last : value_at (value_bytes v) ≡ Ok (v, []) = ap value_at (sym (append-nil (value_bytes v))) ∙ value_again v [] fits in
    rw (
      short_again faults.Statement x (r ∷ value_bytes v) (omega (arith, view)),
      byte_again faults.Statement r (value_bytes v),
      last,
      is_within 1023 x view,
      is_within 15 r rank,
      is_value_within v fits,
    ) refl

-- ---- by the kind

place_takes : (kind : ℕ → ℕ → Batch → Statement) (n : ℕ) (several : Bool) (bytes : List ℕ) (st : Statement)
    → ((x k : ℕ) (b : Batch) → IsPlaced several bytes x k b → IsSpelled n bytes (kind x k b)) → place_at kind several bytes ≡ Ok st
    → IsSpelled n bytes st
place_takes kind n several bytes st spelled e =
    let p = bind_ok (placed_at several bytes) _ st e in
    subst (λ (s : Statement). IsSpelled n bytes s) (ok_is (kind p.0.0 p.0.1 p.0.2) st p.2)
    (spelled _ _ _ (placed_takes several bytes p.0 p.1))

ranked_takes : (kind : ℕ → ℕ → Value → Statement) (n : ℕ) (bytes : List ℕ) (st : Statement)
    → ((x r : ℕ) (v : Value) → IsValued bytes x r v → IsSpelled n bytes (kind x r v)) → ranked_at kind bytes ≡ Ok st → IsSpelled n bytes st
ranked_takes kind n bytes st spelled e =
    let p = bind_ok (valued_at bytes) _ st e in
    subst (λ (s : Statement). IsSpelled n bytes s) (ok_is (kind p.0.0 p.0.1 p.0.2) st p.2) (spelled _ _ _ (valued_takes bytes p.0 p.1))

behind : (n : ℕ) (bytes rest : List ℕ) → bytes ≡ rest → n ∷ bytes ≡ n ∷ rest
behind n bytes rest e = ap (λ (t : List ℕ). n ∷ t) e

-- the kind is the one tested, or what comes after it was read
choose : (kind n : ℕ) (bytes : List ℕ) (st : Statement) (read after : Result Statement FrameFault) → (read ≡ Ok st → IsSpelled n bytes st)
    → (after ≡ Ok st → IsSpelled kind bytes st)
    → (if eqb kind n then read else after) ≡ Ok st → IsSpelled kind bytes st
choose kind n bytes st read after here there =
    elim (eqb kind n) as (λ b. eqb kind n ≡ b → (if b then read else after) ≡ Ok st → IsSpelled kind bytes st) [
      | true ↦ λ same e. subst (λ (k : ℕ). IsSpelled k bytes st) (sym (eqb-true kind n same)) (here e)
      | false ↦ λ _ e. there e
    ] refl

content_takes : (kind : ℕ) (bytes : List ℕ) (st : Statement) → content_at kind bytes ≡ Ok st → IsSpelled kind bytes st
unfolding content_at
content_takes kind bytes st =
    choose kind 1 bytes st _ _ (init_takes bytes st)
    (choose kind 2 bytes st _ _ (echo_takes bytes st)
    (choose kind 3 bytes st _ _ (place_takes Order 3 false bytes st
    (λ x k b p. ((p.view, p.place, p.batch), λ fits. one_spelled 3 x k b bytes p fits)))
    (choose kind 4 bytes st _ _ (place_takes Place 4 false bytes st
    (λ x k b p. ((p.view, p.place, p.batch), λ fits. one_spelled 4 x k b bytes p fits)))
    (choose kind 5 bytes st _ _ (place_takes Keep 5 false bytes st
    (λ x k b p. ((p.view, p.place, p.batch), λ fits. one_spelled 5 x k b bytes p fits)))
    (choose kind 6 bytes st _ _ (notify_takes bytes st)
    (choose kind 7 bytes st _ _ (end_takes bytes st)
    (choose kind 8 bytes st _ _ (last_takes bytes st)
    (choose kind 9 bytes st _ _ (ranked_takes Suggest 9 bytes st
    (λ x r v p. ((p.view, p.rank, p.value), λ fits. behind 9 bytes _ (p.parts fits))))
    (choose kind 10 bytes st _ _ (ranked_takes Ack 10 bytes st
    (λ x r v p. ((p.view, p.rank, p.value), λ fits. behind 10 bytes _ (p.parts fits))))
    (choose kind 11 bytes st _ _ (ranked_takes Ready 11 bytes st
    (λ x r v p. ((p.view, p.rank, p.value), λ fits. behind 11 bytes _ (p.parts fits))))
    (choose kind 12 bytes st _ _ (place_takes Order 12 true bytes st
    (λ x k b p. ((p.view, p.place, p.batch), λ fits. several_spelled 3 x k b bytes p fits)))
    (choose kind 13 bytes st _ _ (place_takes Place 13 true bytes st
    (λ x k b p. ((p.view, p.place, p.batch), λ fits. several_spelled 4 x k b bytes p fits)))
    (choose kind 14 bytes st _ _ (place_takes Keep 14 true bytes st
    (λ x k b p. ((p.view, p.place, p.batch), λ fits. several_spelled 5 x k b bytes p fits)))
    (λ e. absurd cc))))))))))))))

module _ (carries : ℕ → Bool) where
  pub statement_takes : (bytes : List ℕ) (st : Statement) → statement_in carries bytes ≡ Ok st
      → IsStatement st × (IsBytes bytes → bytes ≡ spelling st)
  unfolding statement_in
  statement_takes bytes st e =
      let a = bind_ok (byte_at bytes) _ st e in
      let b = refuse_ok (not (is_kind a.0.0)) faults.Statement _ st a.2 in
      let d = refuse_ok (not (carries a.0.0)) faults.Misplaced _ st b.1 in
      let content = content_takes a.0.0 a.0.1 st d.1 in
      (content.0, λ fits. let kind = byte bytes a.0 fits a.1 in kind.parts ∙ content.1 kind.rest_fits)

read_again : (n : ℕ) (rest : List ℕ) (st : Statement) → is_kind n ≡ true → content_at n rest ≡ Ok st → statement_of (n ∷ rest) ≡ Ok st
unfolding statement_of statement_in
read_again n rest st kind e = rw (byte_again faults.Statement n rest, kind) e

-- an Order, a Place or a Keep, read as one message or as several
place_again : (kind : ℕ → ℕ → Batch → Statement) (n : ℕ) (x k : ℕ) (b : Batch) → is_kind n ≡ true → is_kind (n + 9) ≡ true
    → ((bytes : List ℕ) → content_at n bytes ≡ place_at kind false bytes)
    → ((bytes : List ℕ) → content_at (n + 9) bytes ≡ place_at kind true bytes)
    → x ≤ 1023 → k ≤ 1023 → IsBatch b → statement_of (place_kind n b ∷ (two_bytes x ++ two_bytes k ++ batch_bytes b)) ≡ Ok (kind x k b)
place_again kind n x k [] one several here there view place fits = absurd (omega (arith, fits.some))
place_again kind n x k (m ∷ []) one several here there view place fits = read_again n _ _ one
    (here _ ∙ ap made (one_again x k m view place fits.each.0)) where
      made : Result (ℕ × ℕ × Batch) FrameFault → Result Statement FrameFault
      made r = r >>= λ p. Ok (kind p.0 p.1 p.2)
place_again kind n x k (m ∷ l ∷ ms) one several here there view place fits = read_again (n + 9) _ _ several
    (there _ ∙ ap made (several_again x k (m ∷ l ∷ ms) view place fits (omega arith))) where
      made : Result (ℕ × ℕ × Batch) FrameFault → Result Statement FrameFault
      made r = r >>= λ p. Ok (kind p.0 p.1 p.2)

pub spelling_again : (st : Statement) → IsStatement st → statement_of (spelling st) ≡ Ok st
unfolding content_at
spelling_again (Init x l payload) fits = read_again 1 _ _ refl (init_again x l payload fits)
spelling_again (Echo x m payload) fits = read_again 2 _ _ refl (echo_again x m payload fits)
spelling_again (Order x k b) fits = place_again Order 3 x k b refl refl (λ _. refl) (λ _. refl) fits.0 fits.1 fits.2
spelling_again (Place x k b) fits = place_again Place 4 x k b refl refl (λ _. refl) (λ _. refl) fits.0 fits.1 fits.2
spelling_again (Keep x k b) fits = place_again Keep 5 x k b refl refl (λ _. refl) (λ _. refl) fits.0 fits.1 fits.2
spelling_again (Notify x u) fits = read_again 6 _ _ refl (notify_again x u fits)
spelling_again (End x k) fits = read_again 7 _ _ refl (end_again x k fits)
spelling_again (Last x r ready) fits = read_again 8 _ _ refl (last_again x r ready fits)
spelling_again (Suggest x r v) fits = read_again 9 _ _ refl (rw (valued_again x r v fits.0 fits.1 fits.2) refl)
spelling_again (Ack x r v) fits = read_again 10 _ _ refl (rw (valued_again x r v fits.0 fits.1 fits.2) refl)
spelling_again (Ready x r v) fits = read_again 11 _ _ refl (rw (valued_again x r v fits.0 fits.1 fits.2) refl)

pub is_found : (bytes : List ℕ) (r : Result code.Statement FrameFault) → IsBytes bytes → Gives stmt r (statement_of bytes)
    → IfOk r (λ st. IsStatement (stmt st) × (bytes ≡ spelling (stmt st)))
unfolding statement_of
is_found bytes (Ok st) fits given = let t = statement_takes (λ kind. true) bytes (stmt st) given in (t.0, t.1 fits)
is_found bytes (Err e) fits given = tt
