-- That a claim is in its ranges has at most one proof, so it may be got of a state of which only some process is known.
use Rattle.std.specs.Prelude.{ℕ, List, Option, Some, None}
use Rattle.std.specs.List.{AllByRecursion, AllByRecursion-prop}
use Rattle.std.proofs.Props.{props}
use Rattle.message_defs.specs.Updates.{Update, Remove, Add, Renew, Value}
use Rattle.message_defs.specs.Statements.{Statement, Init, Echo, Order, Place, Keep, Notify, End, Last, Suggest, Ack, Ready, Claim}
use Rattle.message_defs.specs.Spelling.{IsUpdate, IsReport, IsStatement, IsClaim}

update-once : (u : Update) → IsProp (IsUpdate u)
update-once (Remove p) = hlevel props
update-once (Add p) = hlevel props
update-once Renew = hlevel props

report-once : (r : ℕ) (o : Option (ℕ × Value)) → IsProp (IsReport r o)
report-once r None = hlevel props
report-once r (Some ready) = hlevel (props, update-once)

pub statement-once : (st : Statement) → IsProp (IsStatement st)
statement-once (Init x l payload) = hlevel props
statement-once (Echo x m payload) = hlevel props
statement-once (Order x k b) = hlevel props
statement-once (Place x k b) = hlevel props
statement-once (Keep x k b) = hlevel props
statement-once (Notify x u) = hlevel (props, update-once)
statement-once (End x k) = hlevel props
statement-once (Last x r ready) = hlevel (props, report-once)
statement-once (Suggest x r v) = hlevel (props, update-once)
statement-once (Ack x r v) = hlevel (props, update-once)
statement-once (Ready x r v) = hlevel (props, update-once)

pub claims-once : (cs : List Claim) → IsProp (AllByRecursion IsClaim cs)
claims-once cs = AllByRecursion-prop IsClaim (λ c. hlevel (props, statement-once)) cs
