-- A claim by the world of the code, and by the family.
use Rattle.std.proofs.Common.{◌≡◌, Bool, true, false, List, [], ◌∷◌, ◌&&◌, ◌||◌, not, refl, sym, ap, ◌∙◌}
use Rattle.std.specs.List.{list_all, flat_map, AllByRecursion}
use Rattle.std.proofs.lemmas.List.Folds.{list_all-append}
use Rattle.std.proofs.lemmas.List.Concat.{flat_map-append}
use Rattle.message_defs.specs.Statements.{Claim}
use Rattle.message_defs.specs.Spelling.{IsClaim}
use Rattle.signature_defs.specs.Schemes as schemes
use Rattle.sig_scheme.specs.Views.{scheme as scheme_in}
use Rattle.group_defs.specs.Hearing.{is_valid}
use Rattle.group_defs.specs.Family.{ends, honest}
use Rattle.replay_defs.specs.Schedules.{Header}
use Rattle.replay_defs.specs.Worlds as plain
use Rattle.replay_defs.specs.Worlds.{family_of, setting_of}
use Rattle.claim_pool.specs.Settings.{as_setting}
use Rattle.replay_world.specs.declared.world.World.{World}
use Rattle.replay_world.specs.Handing.{claims_of, handed_frames}
use Rattle.replay_world.specs.Worlds.{Shows, frames_of, raws_of}
use Rattle.replay_questions.specs.Owned.{is_owned, is_word_of, is_unhanded_or_owned}
use Rattle.replay_questions.specs.Words.{IsWord}
use Rattle.replay_questions.proofs.OwnWords.{says_own, words_same}
use Rattle.replay_questions.proofs.Tested.{list_by_list, chosen_by_list}

or_comm : (a b : Bool) → (a || b) ≡ (b || a)
or_comm true true = refl
or_comm true false = refl
or_comm false true = refl
or_comm false false = refl

-- the world judges signatures as the family's setting does
pub valid_same : (h : Header) (w : World) (v : plain.World) (c : Claim) → Shows h w v
    → is_valid (as_setting (schemes.is_valid (scheme_in w.scheme)) w.group w.roster) c ≡ is_valid (setting_of h) c
valid_same h w v c shows =
    ap (λ valid. is_valid (as_setting valid w.group w.roster) c) (sym shows.scheme)
    ∙ (λ i. is_valid (as_setting (setting_of h).valid (shows.group i) (shows.roster i)) c)

pub owned_same : (h : Header) (w : World) (v : plain.World) (c : Claim) (own valid : Bool) → IsClaim c → Shows h w v
    → own ≡ list_all (says_own c) w.players.items
    → valid ≡ is_valid (as_setting (schemes.is_valid (scheme_in w.scheme)) w.group w.roster) c
    → (own || not valid) ≡ is_owned (family_of h v) c
owned_same h w v c own valid fits shows said judged =
    let word : own ≡ list_all (is_word_of c)
    (ends (family_of h v)) = said ∙ words_same h c fits.1 w.players.items v.players shows.players shows.ran in
    let rule : valid ≡ is_valid (setting_of h) c = judged ∙ valid_same h w v c shows in
    or_comm own (not valid) ∙ (λ i. not (rule i) || word i)

-- claims that are their signers' words are owned
module _ (h : Header) (w : World) (v : plain.World) (shows : Shows h w v) where
  word_owned : (c : Claim) → IsWord w.players.items c → is_owned (family_of h v) c ≡ true
  word_owned c word =
      let there : list_all (is_word_of c) (ends (family_of h v)) ≡ true =
      sym (words_same h c word.0 w.players.items v.players shows.players shows.ran) ∙ word.1 in
      ap (λ b. not (is_valid (setting_of h) c) || b) there ∙ or_comm (not (is_valid (setting_of h) c)) true

  pub words_owned : (cs : List Claim) → AllByRecursion (IsWord w.players.items) cs → list_all (is_owned (family_of h v)) cs ≡ true
  words_owned [] words = refl
  words_owned (c ∷ cs) words = ap (λ b. b && list_all (is_owned (family_of h v)) cs) (word_owned c words.0) ∙ words_owned cs words.1

-- all kept bytes together
pub all_owned : (h : Header) (w : World) (v : plain.World) (frames raws : Bool) → Shows h w v
    → frames ≡ list_all (is_unhanded_or_owned (family_of h v)) (frames_of w)
    → raws ≡ list_all (λ bytes. list_all (is_owned (family_of h v)) (claims_of bytes)) (raws_of w)
    → (frames && raws) ≡ honest (family_of h v)
all_owned h w v frames raws shows first second =
    let test : Claim → Bool = is_owned (family_of h v) in
    let one : frames ≡ list_all test (flat_map claims_of (handed_frames w.traffic.frames.items)) =
    first ∙ sym (chosen_by_list (λ f. f.handed) (λ f. f.bytes) claims_of test w.traffic.frames.items) in
    let two : raws ≡ list_all test (flat_map claims_of w.raws.items) = second ∙ sym (list_by_list test claims_of w.raws.items) in
    (λ i. one i && two i)
    ∙ (sym (list_all-append test (flat_map claims_of (handed_frames w.traffic.frames.items)) (flat_map claims_of w.raws.items))
    ∙ (ap (list_all test) (sym (flat_map-append claims_of (handed_frames w.traffic.frames.items) w.raws.items))
    ∙ sym (shows.handed test)))
