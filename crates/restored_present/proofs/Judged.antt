-- What is judged in one setting is judged in all that share its rule, its group and its keys.
use Rattle.std.proofs.Common.{◌≡◌, ℕ, ◌≤◌, List, map, Bool, sym, ap, ◌∙◌, subst}
use Rattle.std.specs.Prelude.{◌↔◌, ◌==◌, find, option_map, IsTrue}
use Rattle.byte_defs.specs.Choices.{is_some_and}
use Rattle.message_defs.specs.Spelling.{body}
use Rattle.message_defs.specs.Statements.{Claim, Conflicts, view_of}
use Rattle.group_defs.specs.Views.{View}
use Rattle.group_defs.specs.Process.{Setting, keyed}
use Rattle.group_defs.specs.Hearing.{is_valid}
use Rattle.image_defs.specs.Images.{Image}
use Rattle.restored_left.specs.Facts.{AreAccepted, AreConflicts, AreOwn, ArePerceived, Shares, as_setting, own_delivered}
use Rattle.pool_laws.proofs.Members.{mem-All, All-mem}
use Rattle.restored_present.specs.Parts.{IsReportedSo}

module _ (s : Setting) (valid : List ℕ → List ℕ → List ℕ → Bool) (group : List ℕ) (roster : List (ℕ × List ℕ)) (shares : Shares s valid group roster) where
  abbrev t : Setting
  t = as_setting valid group roster

  pub keys-are : keyed s ≡ map (λ k. k.0) roster
  keys-are = ap (map (λ (k : ℕ × List ℕ). k.0)) shares.keys

  pub valid-is : (c : Claim) → is_valid s c ≡ is_valid t c
  valid-is c = λ i. is_some_and (option_map (λ (k : ℕ × List ℕ). k.1) (find (λ (k : ℕ × List ℕ). k.0 == c.signer) (shares.keys i)))
      (λ key. shares.rule i key (body (shares.bound i) c.signer c.statement) c.signature)

  abbrev IsConflict : Setting → Claim × Claim → Type 0
  IsConflict u e = (e.0.signer ≡ e.1.signer) × Conflicts e.0 e.1 × IsTrue (is_valid u e.0) × IsTrue (is_valid u e.1)

  abbrev IsOwn : Setting → ℕ → View → Claim → Type 0
  IsOwn u me v c = (c.signer ≡ me) × (view_of c.statement ≤ v.number) × IsTrue (is_valid u c)

  conflicts-are : (pairs : List (Claim × Claim)) → AreConflicts t pairs ↔ AreConflicts s pairs
  conflicts-are pairs = (
    λ a. record {
      each = mem-All (IsConflict s) pairs (λ e m. (let is = All-mem (IsConflict t) pairs e a.each m in
          (is.0, is.1, valid-is e.0 ∙ is.2, valid-is e.1 ∙ is.3)));
      one_each = a.one_each;
    },
    λ a. record {
      each = mem-All (IsConflict t) pairs (λ e m. (let is = All-mem (IsConflict s) pairs e a.each m in
          (is.0, is.1, sym (valid-is e.0) ∙ is.2, sym (valid-is e.1) ∙ is.3)));
      one_each = a.one_each;
    },
  )

  own-are : (me : ℕ) (v : View) (cs : List Claim) → AreOwn t me v cs ↔ AreOwn s me v cs
  own-are me v cs = (
    λ a. mem-All (IsOwn s me v) cs (λ c m. (let is = All-mem (IsOwn t me v) cs c a m in (is.0, is.1, valid-is c ∙ is.2))),
    λ a. mem-All (IsOwn t me v) cs (λ c m. (let is = All-mem (IsOwn s me v) cs c a m in (is.0, is.1, sym (valid-is c) ∙ is.2))),
  )

  pub reported-is : (v : View) (i : Image) (keys : List ℕ) (b a1 a2 a3 a4 : Bool) → keys ≡ map (λ k. k.0) roster
      → (IsTrue b ↔ (IsTrue a1 × IsTrue a2 × IsTrue a3 × IsTrue a4))
      → (IsTrue a1 ↔ AreAccepted i.accepted (own_delivered i.me i.delivered)) → (IsTrue a2 ↔ ArePerceived keys v i.perceived)
      → (IsTrue a3 ↔ AreConflicts t i.conflicts) → (IsTrue a4 ↔ AreOwn t i.me v i.signed) → IsTrue b ↔ IsReportedSo s v i
  reported-is v i keys b a1 a2 a3 a4 keys_are all accepted perceived conflicts own =
      let same : keys ≡ keyed s = keys_are ∙ sym keys-are in (
        λ ok. (let four = all.0 ok in record {
          accepted = accepted.0 four.0;
          perceived = subst (λ ks. ArePerceived ks v i.perceived) same (perceived.0 four.1);
          conflicts = (conflicts-are i.conflicts).0 (conflicts.0 four.2);
          own = (own-are i.me v i.signed).0 (own.0 four.3);
        }),
        λ so. all.1 (
          accepted.1 so.accepted,
          perceived.1 (subst (λ ks. ArePerceived ks v i.perceived) (sym same) so.perceived),
          conflicts.1 ((conflicts-are i.conflicts).1 so.conflicts),
          own.1 ((own-are i.me v i.signed).1 so.own),
        ),
      )
