-- When a signature is refused.
use Rattle.std.specs.Prelude.{List}
use Rattle.lk_ast.specs.declared.token.Token.{Token}
use Rattle.lk_read.specs.Exact.{IsUnexpected}
use Rattle.lk_rows.specs.Types.{IsType}
use Rattle.lk_rows.specs.declared.error.SigError.{SigError}
use Rattle.lk_rows.specs.declared.error.SigError.TheVariants.{Unexpected, NoMemory}

-- which tokens are refused how
abbrev pub IsRefused : List Token → SigError → Type 0
IsRefused tokens (Unexpected at) = IsUnexpected IsType tokens at
IsRefused tokens NoMemory = Unit {0}
