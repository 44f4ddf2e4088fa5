use Rattle.std.proofs.Common.{refl}
use Rattle.std.proofs.lemmas.Result.{on_ok_weaker, IfErr-weaker}
use Rattle.replay_world.proofs.Showing.{noted_shows, noted_exceeds}
use Rattle.replay_world.proofs.Giving.{on_ok_both}
use Rattle.replay_world.proofs.world.World.note.Goals as goal

pub returns-clause-notes : goal.returns-clause-notes
returns-clause-notes c = on_ok_weaker c.send_all.result (λ sent. λ h v o shows among is.
    noted_shows h c.args.self.now (record c.args.self.now {
      traffic = c.send_all.new.self;
      refused = c.note_refusal.new.all;
      spent = c.note_spent.new.all;
    }) v c.args.me o c.args.outcome shows among is
    (record { group = refl; scheme = refl; roster = refl; players = refl; liars = refl; raws = refl; frames = sent.1; count = refl })
    c.in_ok-note_refusal.ensures c.in_ok-note_spent.ensures
    (λ w carried same. rw (← c.in_ok-sends.ensures.sends) (sent.0 w carried (rw c.deref.ensures.value same))))
    (on_ok_both _ _ c.send_all.result c.send_all.ensures.sends c.send_all.ensures.handed)

pub returns-clause-too_much : goal.returns-clause-too_much
returns-clause-too_much c = IfErr-weaker c.send_all.result _ _ (λ fault much. λ h v o shows among is.
    noted_exceeds h c.args.self.now v c.args.me o c.args.outcome fault shows is
    (λ w carried same at. rw (← c.in_ok-sends.ensures.sends) (much w carried (rw c.deref.ensures.value same) at)))
    c.send_all.ensures.too_much
