use Rattle.group_rows.proofs.TickInFlight.{tick_in_flight}
use Rattle.group_rows.proofs.tick_in_flight.Goals as goal

pub returns : goal.returns
returns c = tick_in_flight
