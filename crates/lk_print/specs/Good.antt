-- Which tokens can be written, and which tokens a text is read as.
use Rattle.std.specs.Prelude.{◌≡◌, ℕ, List, [], map, Some, IsUtf8}
use Rattle.lk_ast.specs.declared.token.Token.{Token}
use Rattle.lk_ast.specs.declared.token.TokenKind.{TokenKind}
use Rattle.lk_parse.specs.Pieces.{IsPiece}
use Rattle.lk_parse.specs.Tokens.{Reads}
use Rattle.lk_print.specs.Written.{written, text_of, kinds_of}

-- the token as it is written is that token
abbrev pub IsSpelled : TokenKind → Type 0
IsSpelled kind = IsPiece (written kind) (Some kind)

-- and it is UTF-8
pub record IsGood (kind : TokenKind) : Type 0 where
  pub spelled : IsSpelled kind
  pub utf8 : IsUtf8 (written kind)

-- from a place on, at which this text stands, pieces lead to its end, and their tokens are of these kinds
pub record IsReadAs (at : ℕ) (text : List ℕ) (kinds : List TokenKind) : Type 0 where
  pub tokens : List Token
  pub read : Reads at text tokens []
  pub are : map (λ (token : Token). token.kind) tokens ≡ kinds

-- what is written of these lines is UTF-8, and is read again as their tokens
pub record IsReadAgain (lines : List (List TokenKind)) : Type 0 where
  pub utf8 : IsUtf8 (text_of lines)
  pub read : IsReadAs 0 (text_of lines) (kinds_of lines)
