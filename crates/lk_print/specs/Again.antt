-- What is printed is read again.
use Rattle.std.specs.Prelude.{◌≡◌, ◌≤◌, ℕ, List, [], length, IsUtf8}
use Rattle.lk_ast.specs.declared.declaration.Program.{Program}
use Rattle.lk_ast.specs.declared.token.Token.{Token}
use Rattle.lk_grammar.specs.Programs.{IsProgram}
use Rattle.lk_parse.specs.Nesting.{IsLight}
use Rattle.lk_parse.specs.Refusals.{IsProgramText}
use Rattle.lk_parse.specs.Tokens.{HasTokens, Reads, text_limit}
use Rattle.lk_print.specs.Bare.{bare_program}
use Rattle.lk_scope.specs.Scoped.{scoped_program}

-- the text is of this program: its tokens are a tree by the grammar, and the program is that tree with its names by scope
pub record IsSource (text : List ℕ) (program : Program) : Type 0 where
  pub tokens : List Token
  pub has : HasTokens text tokens
  pub tree : Program
  pub is : IsProgram tokens tree
  pub names : program ≡ scoped_program tree

-- The text is UTF-8, its tokens are a tree by the grammar, and the program of that tree is this one but for its places in
-- the text. Where it keeps the limits on the length and the weight of a text, it is a program's text.
pub record SaysAgain (text : List ℕ) (program : Program) : Type 0 where
  pub utf8 : IsUtf8 text
  pub tokens : List Token
  pub read : Reads 0 text tokens []
  pub tree : Program
  pub is : IsProgram tokens tree
  pub same : bare_program (scoped_program tree) ≡ bare_program program
  pub parsed : length text ≤ text_limit → IsLight tokens → IsProgramText text (scoped_program tree)
