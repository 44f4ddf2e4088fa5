use Rattle.std.proofs.Common.{◌≡◌, ℕ, List, [], ◌∷◌, ◌++◌, true, refl, sym, ◌∙◌, ap, subst, length}
use Rattle.std.proofs.Math.Logic.{∥∥₁_elim, ∥∥₁_map}
use Rattle.std.proofs.Props.{props}
use Rattle.message_defs.specs.Spelling.{IsClaim}
use Rattle.message_defs.specs.Statements.{Statement, Claim}
use Rattle.group_defs.specs.Views.{View}
use Rattle.group_defs.specs.Process.{Pool}
use Rattle.group_defs.specs.Due.{may_sign}
use Rattle.group_defs.specs.Signing.{own_claim, signs}
use Rattle.stmt_codec.specs.Views.{claim}
use Rattle.own_place.specs.Owns.{IsOwnOf}
use Rattle.own_place.specs.declared.own.Own.{Own}
use Rattle.member_state.specs.Below.{IsIn, Phase}
use Rattle.member_state.proofs.Below.{due_is_in_range}
use Rattle.member_signing.proofs.Open.{none-decided}
use Rattle.member_signing.proofs.Seated.{fresh, orders-length}
use Rattle.member_signing.proofs.States.{signed-state}
use Rattle.member_signing.proofs.putting.put.Goals as goal

pub read_own-claim-requires : goal.read_own-claim-requires
read_own-claim-requires c =
    record {
      claim = ∥∥₁_map c.requires.owed.signer (λ r. record {
        said = own_claim r.setting (λ (used : ℕ) (body : List ℕ). c.args.own.now.signature) r.process r.said;
        range = due_is_in_range r.setting r.process r.said r.state.lawful r.may;
        same = r.own;
      });
      short = c.requires.owed.short;
    }

pub hear-requires : goal.hear-requires
hear-requires c = c.read_own-claim.ensures.range

pub note-requires-clause-range : goal.note-requires-clause-range
note-requires-clause-range c = c.read_own-claim.ensures.range.1

pub note-requires-clause-members : goal.note-requires-clause-members
note-requires-clause-members c = ∥∥₁_elim c.requires.owed.signer (hlevel props) (λ r.
    let same = c.read_own-claim.ensures.only (own_claim r.setting (λ (used : ℕ) (body : List ℕ). c.args.own.now.signature) r.process r.said)
    (due_is_in_range r.setting r.process r.said r.state.lawful r.may) r.own in
    let at = ap (own_claim r.setting (λ (used : ℕ) (body : List ℕ). c.args.own.now.signature) r.process)
    (ap (λ (d : Claim). d.statement) same) ∙ sym same in
    let heard = c.in_ok-hear.ensures.heard r.setting (λ (used : ℕ) (body : List ℕ). c.args.own.now.signature) r.process r.state.place.pool at in
    orders-length r.setting r.process c.args.state.now.pool.pool c.args.state.now.own r.state.place ∙ ap
    (λ (h : Pool). length h.view.members) heard ∙ ap (λ (v : View). length v.members) (sym c.view.ensures))

pub note-requires-clause-fresh : goal.note-requires-clause-fresh
note-requires-clause-fresh c = ∥∥₁_elim c.requires.owed.signer (hlevel props) (λ r.
    let same = c.read_own-claim.ensures.only (own_claim r.setting (λ (used : ℕ) (body : List ℕ). c.args.own.now.signature) r.process r.said)
    (due_is_in_range r.setting r.process r.said r.state.lawful r.may) r.own in
    fresh r.setting r.process c.args.state.now.pool.pool c.args.state.now.own (claim c.read_own-claim.result).statement r.state.place
    (subst (λ (st : Statement). may_sign r.setting r.process st ≡ true) (sym (ap (λ (d : Claim). d.statement) same)) r.may))

pub keep-requires : goal.keep-requires
keep-requires c = c.read_own-claim.ensures.range

pub returns-clause-puts : goal.returns-clause-puts
returns-clause-puts c s signer p st may own is =
    let same = c.read_own-claim.ensures.only (own_claim s signer p st) (due_is_in_range s p st is.lawful may) own in
    let said = ap (λ (d : Claim). d.statement) same in
    let now = subst (λ (st : Statement). may_sign s p st ≡ true) (sym said) may in
    let heard = c.in_ok-hear.ensures.heard s signer p is.place.pool (ap (own_claim s signer p) said ∙ sym same) in
    let seen = ap (λ (h : Pool). h.view) (sym is.place.pool) ∙ ap (λ (h : Pool). h.view) heard ∙ sym c.view.ensures in
    let tells = c.in_ok-note.ensures.noted s signer p c.args.state.now.pool.pool c.hear.new.pool.pool is.place seen now heard in
    let phase = c.close.ensures.closes s signer p now is.phase in
    signed-state s signer p st _ _ is may (none-decided _ p c.requires.undecided is.phase)
    (subst IsClaim same c.read_own-claim.ensures.range)
    (record {
      limit = refl;
      perceived = refl;
      said = c.in_ok-keep.ensures.kept ∙ ap (λ (d : Claim). c.args.state.now.said.claims ++ d ∷ []) same;
      said_from = refl;
      said_before = refl;
      conflicts = refl;
      archive = refl;
      account = refl;
    })
    (let at : Own = c.note.new.own in subst (λ (st : Statement). IsOwnOf s (signs s signer p st) c.hear.new.pool.pool at) said tells)
    (let at : Phase = c.close.new.phase in subst (λ (st : Statement). IsIn at (signs s signer p st)) said phase)

pub returns-clause-real : goal.returns-clause-real
returns-clause-real c =
    ∥∥₁_map c.requires.owed.signer (λ r. record {
      setting = r.setting;
      process = signs r.setting (λ (used : ℕ) (body : List ℕ). c.args.own.now.signature) r.process r.said;
      state = returns-clause-puts c r.setting (λ (used : ℕ) (body : List ℕ). c.args.own.now.signature) r.process r.said r.may r.own r.state;
    })
