use Rattle.response.proofs.OneResponses.{one_response}
use Rattle.response.proofs.SomeResponses.{some_response}
use Rattle.response.proofs.respond.responses_stand.Goals as goal

pub returns : goal.returns
returns c = record { one_response = one_response; some_response = some_response }
