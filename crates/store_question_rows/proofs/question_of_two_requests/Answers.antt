use Rattle.store_question_rows.proofs.Rows as rows
use Rattle.store_question_rows.proofs.question_of_two_requests.Goals as goal

pub returns : goal.returns
returns c = rows.question_of_two_requests
