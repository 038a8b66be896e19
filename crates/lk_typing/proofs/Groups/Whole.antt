-- The law of the walk, from its two halves for expressions.
use Rattle.lk_typing.proofs.Complete.Expressions.{expression_complete}
use Rattle.lk_typing.proofs.Sound.Expressions.{expression_sound}
use Rattle.lk_typing.proofs.Groups.Declarations.{walk_law_from}
use Rattle.lk_typing.specs.Law.{WalkLaw}

pub walk_law : WalkLaw
walk_law = walk_law_from (λ functions known_functions tables e. expression_sound functions known_functions tables e) (λ functions known_functions tables names s e t inside typed. expression_complete functions known_functions tables names s e t inside typed)
