use Rattle.store_service.proofs.servers.Servers.new.Goals as goal

pub returns : goal.returns
returns c = record { answered = tt; servers = λ e. tt }
