use Rattle.std.proofs.Common.{◌≡◌, ℕ, Bool, map, ap, ◌∙◌, sym, subst}
use Rattle.std.specs.Prelude.{◌&&◌, ◌↔◌, not, List, IsTrue}
use Rattle.std.specs.List.{list_all, list_any}
use Rattle.message_defs.specs.Statements.{Claim}
use Rattle.group_defs.specs.Process.{Setting}
use Rattle.claim_firsts.specs.Tables.{Table, key}
use Rattle.claim_firsts.specs.Seen.{IsAnswered, Saw}
use Rattle.claim_firsts.specs.Answered.{is_answered, is_listed}
use Rattle.claim_firsts.specs.Entries.{kept_claim}
use Rattle.claim_firsts.proofs.Answering.{any-kept, asked-both, asked-one, is-answered, keys-are}
use Rattle.claim_firsts.proofs.firsts.Firsts.is_answered.Goals as goal

abbrev any : Table → List ℕ → Bool
any t listed = list_any (λ (c : Claim). is_listed listed c.signer) t.seconds

abbrev all : Table → List ℕ → Bool
all t listed = list_all (is_answered listed t.answered) (map key t.firsts)

by-table : (b : Bool) (t : Table) (listed : List ℕ) → b ≡ (not (any t listed) && all t listed)
    → (s : Setting) (claims own : List Claim) → Saw s claims own t → IsTrue b ↔ IsAnswered s claims own listed
by-table b t listed e s claims own saw =
    subst (λ b. IsTrue b ↔ IsAnswered s claims own listed) (sym e) (is-answered s claims own t saw listed)

pub returns-then-not-is_any_listed : goal.returns-then-not-is_any_listed
returns-then-not-is_any_listed c =
    let one : c.is_any_listed.result ≡ any c.args.self.now c.args.listed =
    c.is_any_listed.ensures ∙ ap (list_any (λ x. is_listed c.args.listed (kept_claim x).signer)) c.deref.ensures.value
    ∙ any-kept (λ (d : Claim). is_listed c.args.listed d.signer) c.self.inside.seconds.items
    ∙ ap (λ (t : Table). any t c.args.listed) c.self.view_is in
    let two : c.are_answered.result ≡ all c.args.self.now c.args.listed =
    c.are_answered.ensures
    ∙ ap (list_all (is_answered c.args.listed c.self.inside.answered.keys))
    (c.as_slice.ensures ∙ c.keys.ensures.rest ∙ keys-are c.self.inside.firsts.entries c.self.invariant.firsts)
    ∙ ap (λ (t : Table). all t c.args.listed) c.self.view_is in
    by-table c.are_answered.result c.args.self.now c.args.listed
    (asked-both c.is_any_listed.result c.are_answered.result c.if-not-is_any_listed.true
    ∙ (λ i. not (one i) && two i))

pub returns-else-not-is_any_listed : goal.returns-else-not-is_any_listed
returns-else-not-is_any_listed c =
    let one : c.is_any_listed.result ≡ any c.args.self.now c.args.listed =
    c.is_any_listed.ensures ∙ ap (list_any (λ x. is_listed c.args.listed (kept_claim x).signer)) c.deref.ensures.value
    ∙ any-kept (λ (d : Claim). is_listed c.args.listed d.signer) c.self.inside.seconds.items
    ∙ ap (λ (t : Table). any t c.args.listed) c.self.view_is in
    by-table (not c.is_any_listed.result) c.args.self.now c.args.listed
    (asked-one c.is_any_listed.result (all c.args.self.now c.args.listed) c.if-not-is_any_listed.false
    ∙ (λ i. not (one i) && all c.args.self.now c.args.listed))
