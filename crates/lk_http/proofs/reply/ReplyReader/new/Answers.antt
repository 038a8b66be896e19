use Rattle.lk_http.proofs.ReplySteps.{nothing_read}
use Rattle.lk_http.proofs.reply.ReplyReader.new.Goals as goal

pub returns : goal.returns
returns c = (c.new.ensures, nothing_read)
