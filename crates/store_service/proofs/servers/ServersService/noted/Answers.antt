use Rattle.std.proofs.Common.{◌≡◌, ℕ, [], ◌∷◌, refl, subst}
use Rattle.node_service.specs.Answers.{HasAnswered}
use Rattle.node_service.specs.Histories.{NotesOf}
use Rattle.node_service.specs.Words.{note}
use Rattle.store_service.specs.Served.{HasServed}
use Rattle.store_service.proofs.Histories.{lost-so}
use Rattle.store_service.proofs.Hosted.{me-so}
use Rattle.store_service.proofs.servers.ServersService.noted.Goals as goal

pub returns-in-Ok-clause-tells : goal.returns-in-Ok-clause-tells
returns-in-Ok-clause-tells c = λ k p now h has is.
    let me : c.me.result ≡ p = me-so c.args.process.now c.core.result.now c.core.ensures k p now is c.me.result
    (λ s q at. c.me.ensures.process s q at) in
    subst (λ (q : ℕ). HasAnswered HasServed c.tell.new.self h k (now ∷ []) (NotesOf q (note c.args.note.now)) c.args.lines.now.items
    c.tell.new.lines.items) me (c.in-Ok.ensures.tells k now h has)

pub returns-in-Err-clause-lost : goal.returns-in-Err-clause-lost
returns-in-Err-clause-lost c = λ h has. lost-so h c.args.self.now has _ refl
