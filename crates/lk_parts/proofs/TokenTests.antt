-- What the tests of tokens mean, with a token that passes each.
use Rattle.std.proofs.Common.{◌≡◌, true, [], refl}
use Rattle.std.specs.Prelude.{codes}
use Rattle.lk_ast.specs.declared.token.TokenKind.TheVariants.{Word, Text, Sign}
use Rattle.lk_read.specs.Keywords.{is_keyword}
use Rattle.lk_read.proofs.KindLaws.{some_token}
use Rattle.lk_read.proofs.Laws.{Means}
use Rattle.lk_parts.specs.Operators.{level_of_sign, is_operator}
use Rattle.lk_parts.specs.Starts.{start_of_keyword, begins}
use Rattle.lk_parts.specs.declared.operators.Level.{Level}
use Rattle.lk_parts.specs.declared.operators.Level.TheVariants as level
use Rattle.lk_parts.specs.declared.starts.Start.TheVariants as start

pub a_literal : Means (begins start.Literal) (λ t. begins start.Literal t ≡ true)
unfolding begins
a_literal = record { example = some_token (Text []); passes = refl; means = λ t e. e }

pub a_prefix : Means (begins start.Prefix) (λ t. begins start.Prefix t ≡ true)
unfolding begins is_keyword start_of_keyword
a_prefix = record { example = some_token (Word (codes "print")); passes = refl; means = λ t e. e }

pub an_operator : (at : Level) → Means (is_operator at) (λ t. is_operator at t ≡ true)
unfolding is_operator level_of_sign
an_operator level.Or = record { example = some_token (Sign (codes "||")); passes = refl; means = λ t e. e }
an_operator level.And = record { example = some_token (Sign (codes "&&")); passes = refl; means = λ t e. e }
an_operator level.Comparison = record { example = some_token (Sign (codes "==")); passes = refl; means = λ t e. e }
an_operator level.Join = record { example = some_token (Sign (codes "++")); passes = refl; means = λ t e. e }
an_operator level.Sum = record { example = some_token (Sign (codes "+")); passes = refl; means = λ t e. e }
an_operator level.Product = record { example = some_token (Sign (codes "*")); passes = refl; means = λ t e. e }
