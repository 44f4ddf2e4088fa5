-- What bytes of statements tell of the claims of a frame.
use Rattle.std.proofs.Common.{◌≡◌, ℕ, Bool, true, false, List, [], ◌∷◌, ◌++◌, ◌&&◌, Result, Ok, Err, refl, sym, ap, subst, ◌∙◌}
use Rattle.std.specs.Prelude.{nat_lt}
use Rattle.std.specs.List.{list_all, AllByRecursion}
use Rattle.byte_defs.specs.Fields.{◌>>=◌}
use Rattle.byte_defs.proofs.Fields.{IsBytes, bind_ok, refuse_ok, ok_is}
use Rattle.message_defs.specs.declared.FrameFault.{FrameFault}
use Rattle.message_defs.specs.declared.FrameFault.TheVariants.{Range}
use Rattle.message_defs.specs.Limits.{last_process}
use Rattle.message_defs.specs.Statements.{Statement, Claim}
use Rattle.message_defs.specs.Spelling.{IsStatement, spelling}
use Rattle.message_defs.specs.Reading.{statement_in}
use Rattle.message_defs.specs.Frames.{Group, Bundle, Proof, frame_of}
use Rattle.message_defs.specs.Claims.{in_bundle, in_proof, claims_on, claims_of_group, claims_of_groups, claims_of, said, said_by, frame_said}
use Rattle.stmt_codec.specs.Cursor.{given}
use Rattle.statements.proofs.Grammar.{statement_takes}
use Rattle.replay_world.specs.Handing.{claims_of as claims_of_bytes}
use Rattle.replay_world.specs.Cast.{Player}
use Rattle.replay_questions.specs.Words.{is_word, IsWord}
use Rattle.replay_questions.proofs.Wants.{claims_said}

module _ (ps : List Player) where
  abbrev AreWords : List Claim → Type 0
  AreWords cs = AllByRecursion (IsWord ps) cs

  -- each of these signers is none of the players, or said the statement with these bytes
  abbrev pub all_words : List ℕ → List (ℕ × List ℕ) → Bool
  all_words bytes signatures = list_all (λ s. is_word ps s.0 bytes) signatures

  both_true : (a b : Bool) → (a && b) ≡ true → (a ≡ true) × (b ≡ true)
  both_true true true e = (refl, refl)
  both_true true false e = absurd cc
  both_true false b e = absurd cc

  words_on : (st : Statement) (signatures : List (ℕ × List ℕ)) (cs : List Claim) → IsStatement st
      → all_words (spelling st) signatures ≡ true → claims_on st signatures ≡ Ok cs → AreWords cs
  unfolding claims_on
  words_on st [] cs fits said e = subst AreWords (ok_is [] cs e) tt
  words_on st (s ∷ more) cs fits said e =
      let each = both_true (is_word ps s.0 (spelling st)) (all_words (spelling st) more) said in
      let a = refuse_ok (nat_lt last_process s.0) Range _ cs e in
      let b = bind_ok (claims_on st more) _ cs a.1 in
      let one : Claim = record { signer = s.0; statement = st; signature = s.1 } in
      subst AreWords (ok_is (one ∷ b.0) cs b.2) ((fits, each.0), words_on st more b.0 fits each.1 b.1)

  words_of : (carries : ℕ → Bool) (g : Group) (cs : List Claim) → IsBytes g.statement → all_words g.statement g.signatures ≡ true
      → claims_of_group carries g ≡ Ok cs → AreWords cs
  unfolding claims_of_group
  words_of carries g cs fits said e =
      let a = bind_ok (statement_in carries g.statement) _ cs e in
      let takes = statement_takes carries g.statement a.0 a.1 in
      words_on a.0 g.signatures cs takes.0 (subst (λ bytes. all_words bytes g.signatures ≡ true) (takes.1 fits) said) a.2

  -- the bytes of a statement that is read are its spelling
  pub group_words : (carries : ℕ → Bool) (g : Group) → IsBytes g.statement → all_words g.statement g.signatures ≡ true
      → AreWords (given (claims_of_group carries g))
  group_words carries g fits said = go (claims_of_group carries g) refl
    where
      go : (r : Result (List Claim) FrameFault) → claims_of_group carries g ≡ r → AreWords (given r)
      go (Ok cs) e = words_of carries g cs fits said e
      go (Err fault) e = tt

  words_both : (cs ds : List Claim) → AreWords cs → AreWords ds → AreWords (cs ++ ds)
  words_both [] ds p q = q
  words_both (c ∷ cs) ds p q = (p.0, words_both cs ds p.1 q)

  -- the first group, and those behind it
  pub groups_words : (carries : ℕ → Bool) (g : Group) (now more : List Group) → now ≡ g ∷ more
      → AreWords (given (claims_of_group carries g)) → AreWords (given (claims_of_groups carries more))
      → AreWords (given (claims_of_groups carries now))
  unfolding claims_of_groups
  groups_words carries g now more is first others =
      subst (λ gs. AreWords (given (claims_of_groups carries gs))) (sym is)
      (go (claims_of_group carries g) (claims_of_groups carries more) first others)
    where
      go : (r q : Result (List Claim) FrameFault) → AreWords (given r) → AreWords (given q)
          → AreWords (given (r >>= λ cs. q >>= λ ds. Ok (cs ++ ds)))
      go (Ok cs) (Ok ds) p q = words_both cs ds p q
      go (Ok cs) (Err fault) p q = tt
      go (Err fault) other p q = tt

  pub no_groups_words : (carries : ℕ → Bool) (now : List Group) → now ≡ [] → AreWords (given (claims_of_groups carries now))
  unfolding claims_of_groups
  no_groups_words carries now is = subst (λ gs. AreWords (given (claims_of_groups carries gs))) (sym is) tt

-- the claims of bytes are those of the groups
pub bundle_claims : (bytes : List ℕ) (gs : List Group) → frame_of bytes ≡ Ok (Bundle gs)
    → claims_of_bytes bytes ≡ given (claims_of_groups in_bundle gs)
unfolding frame_said claims_of
bundle_claims bytes gs is = ap (λ r. claims_said (said_by r)) is ∙ go (claims_of_groups in_bundle gs)
  where
    go : (r : Result (List Claim) FrameFault) → claims_said (said (Bundle gs) r) ≡ given r
    go (Ok cs) = refl
    go (Err fault) = refl

pub proof_claims : (bytes : List ℕ) (gs : List Group) → frame_of bytes ≡ Ok (Proof gs)
    → claims_of_bytes bytes ≡ given (claims_of_groups in_proof gs)
unfolding frame_said claims_of
proof_claims bytes gs is = ap (λ r. claims_said (said_by r)) is ∙ go (claims_of_groups in_proof gs)
  where
    go : (r : Result (List Claim) FrameFault) → claims_said (said (Proof gs) r) ≡ given r
    go (Ok cs) = refl
    go (Err fault) = refl
