use Rattle.lk_inline.proofs.LawBlocks.{blocks-kept}
use Rattle.lk_inline.proofs.LawCaptured.{blocks-capture}
use Rattle.lk_inline.proofs.LawKinds.{kinds-had}
use Rattle.lk_inline.proofs.LawSessions.{sessions-capture}
use Rattle.lk_inline.proofs.TypesOfInstances.{types-proper}
use Rattle.lk_inline.proofs.law.inline_laws.Goals as goal

pub returns : goal.returns
returns c = record { blocks = blocks-kept; captured = blocks-capture; session = sessions-capture; kinds = kinds-had; types = types-proper }
