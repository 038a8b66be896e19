-- When tokens are refused.
use Rattle.std.specs.Prelude.{List}
use Rattle.lk_ast.specs.declared.token.Token.{Token}
use Rattle.lk_read.specs.Exact.{IsUnexpected}
use Rattle.lk_grammar.specs.Programs.{IsProgram}
use Rattle.lk_grammar.specs.declared.error.GrammarError.{GrammarError}
use Rattle.lk_grammar.specs.declared.error.GrammarError.TheVariants.{Unexpected, NoMemory}

-- which tokens are refused how
abbrev pub IsRefused : List Token → GrammarError → Type 0
IsRefused tokens (Unexpected at) = IsUnexpected IsProgram tokens at
IsRefused tokens NoMemory = Unit {0}
