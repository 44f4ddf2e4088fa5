-- What a service is shown and asked, and its history: in the words of the crates below, passed on.
pub use Rattle.byte_defs.specs.Members.{has}
pub use Rattle.group_defs.specs.Process.{Process, Setting}
pub use Rattle.group_defs.specs.Events.{Note, Delivers, Installs, Liar, Spent, Halts}
pub use Rattle.journal_defs.specs.Entries.{Event}
pub use Rattle.journal_defs.specs.declared.Version.{Version}
pub use Rattle.node_defs.specs.Casts.{Cast, cast_of, host_of, hosted_by}
pub use Rattle.node_defs.specs.Nodes.{Answer, Asks, Call, Done, Named, Said, Serves, NotesOf, Words}
pub use Rattle.member_events.specs.declared.events.Sending.{Sending}
pub use Rattle.node_traces.specs.Service.{Asked, HeardBy, one_asked}
