use Rattle.lk_http.proofs.RequestSteps.{nothing_read}
use Rattle.lk_http.proofs.request.RequestReader.new.Goals as goal

pub returns : goal.returns
returns c = (c.new.ensures, nothing_read)
