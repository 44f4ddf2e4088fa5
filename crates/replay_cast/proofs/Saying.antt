-- What was said, after a turn more.
use Rattle.std.proofs.Common.{◌≡◌, ℕ, Bool, ◌||◌, List, [], ◌∷◌, map, refl, sym, ap, ◌∙◌}
use Rattle.std.specs.List.{list_any}
use Rattle.std.specs.Str.{bytes_eq}
use Rattle.std.proofs.lemmas.List.Folds.{list_any-append}
use Rattle.message_defs.specs.Statements.{Claim}
use Rattle.message_defs.specs.Spelling.{spelling}
use Rattle.message_defs.specs.Packing.{Signed, signed_of}
use Rattle.group_defs.specs.Process.{Setting, Process}
use Rattle.group_defs.specs.Events.{Turn, after, outcome}
use Rattle.member_events.specs.Below.{signed, OwnClaim}
use Rattle.member_events.specs.declared.events.Outcome.{Outcome as Came}
use Rattle.member_core.specs.Events.{IsOutcome}
use Rattle.member_core.proofs.Joined.{signed-more}
use Rattle.said_index.specs.declared.index.SaidIndex.{SaidIndex}
use Rattle.said_index.specs.Said.{is_said, is_among_claims}
use Rattle.replay_cast.specs.Players.{HasSaid}

-- one of these is spelled so
abbrev spelled_among : List ℕ → List Signed → Bool
spelled_among x cs = list_any (λ c. bytes_eq x c.statement) cs

claims_among : (x : List ℕ) (cs : List OwnClaim) → is_among_claims x cs ≡ spelled_among x (map signed cs)
claims_among x [] = refl
claims_among x (c ∷ cs) = ap (λ b. bytes_eq x c.statement || b) (claims_among x cs)

signed_among : (x : List ℕ) (cs : List Claim) → list_any (λ c. bytes_eq x (spelling c.statement)) cs ≡ spelled_among x (map signed_of cs)
signed_among x [] = refl
signed_among x (c ∷ cs) = ap (λ b. bytes_eq x (spelling c.statement) || b) (signed_among x cs)

pub says_more : (s : Setting) (p : Process) (t : Turn) (r : Came) (old new : SaidIndex) → HasSaid p old → IsOutcome (outcome s p t) r
    → ((x : List ℕ) → is_said x new ≡ (is_said x old || is_among_claims x r.signed.items)) → HasSaid (after s p t) new
says_more s p t r old new before came said = λ x.
    let now : is_among_claims x r.signed.items ≡ list_any (λ c. bytes_eq x (spelling c.statement)) (outcome s p t).signed =
    claims_among x r.signed.items ∙ (ap (spelled_among x) (sym came.signed_now) ∙ sym (signed_among x (outcome s p t).signed)) in
    said x ∙ ((λ i. before x i || now i)
    ∙ (sym (list_any-append (λ (c : Claim). bytes_eq x (spelling c.statement)) p.signed (outcome s p t).signed)
    ∙ ap (list_any (λ (c : Claim). bytes_eq x (spelling c.statement))) (sym (signed-more s p t))))
