use Rattle.store_rows.proofs.Serving as laws
use Rattle.store_rows.proofs.serve_two_requests.Goals as goal

pub returns : goal.returns
returns c = laws.serve_two_requests
