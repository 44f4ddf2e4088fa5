use Rattle.std.proofs.Common.{inl}
use Rattle.store_defs.specs.Serving.{after_message, after_note}
use Rattle.store_replies.specs.Words.{message_at}
use Rattle.store_giving.proofs.Telling.{on-ok}
use Rattle.store_server.specs.Notes.{note_of}
use Rattle.store_server.specs.declared.server.Server.{Server}
use Rattle.store_server.proofs.Noted.{message_of, noted-delivered, server-after, server-either}
use Rattle.store_server.proofs.Parts.{giving-message}
use Rattle.store_server.proofs.Settled.{on-err}
use Rattle.store_server.proofs.server.Server.note.Goals as goal

pub returns-in-Delivered-clause-after : goal.returns-in-Delivered-clause-after
returns-in-Delivered-clause-after c = λ q s is.
    let m = message_of c.in-Delivered.sender c.in-Delivered.number in
    let d = message_at c.in-Delivered.place c.bytes.result.now m in
    let x : Server = record { replies = c.deliver.new.self; giving = c.args.self.now.giving } in
    on-ok c.deliver.result
    (λ replies. server-after q s (after_message s d) (after_note q s (note_of c.args.note.now)) x
    (noted-delivered q s c.args.note.now c.in-Delivered.view c.in-Delivered.place c.in-Delivered.sender c.in-Delivered.number
    c.in-Delivered.payload c.bytes.result.now c.in-Delivered.is c.bytes.ensures) replies (giving-message q s d c.args.self.now.giving is.gives))
    (c.deliver.ensures.after q s m is.replies)

pub returns-in-Delivered-clause-lost : goal.returns-in-Delivered-clause-lost
returns-in-Delivered-clause-lost c = λ q s is.
    let m = message_of c.in-Delivered.sender c.in-Delivered.number in
    let d = message_at c.in-Delivered.place c.bytes.result.now m in
    let x : Server = record { replies = c.deliver.new.self; giving = c.args.self.now.giving } in
    on-err c.deliver.result
    (λ either. server-either q s (after_message s d) (after_note q s (note_of c.args.note.now)) x
    (noted-delivered q s c.args.note.now c.in-Delivered.view c.in-Delivered.place c.in-Delivered.sender c.in-Delivered.number
    c.in-Delivered.payload c.bytes.result.now c.in-Delivered.is c.bytes.ensures) either is.gives (giving-message q s d c.args.self.now.giving is.gives))
    (c.deliver.ensures.lost q s m is.replies)

pub returns-in-Installed-clause-lost : goal.returns-in-Installed-clause-lost
returns-in-Installed-clause-lost c = λ q s is. on-err c.install.result (λ kept. inl kept) (c.install.ensures.unchanged q s is)
