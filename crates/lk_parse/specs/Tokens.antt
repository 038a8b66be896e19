-- The tokens of a text. It is cut into pieces from the left, each as long as possible: a longer prefix is preferred to
-- a shorter one (Aho, Lam, Sethi and Ullman, Compilers, 2006, section 3.5.3). A place is a number of bytes from the
-- text's beginning.
use Rattle.std.specs.Prelude.{◌≡◌, ◌+◌, ◌<◌, ◌≤◌, ◌⊎◌, ℕ, List, [], ◌∷◌, ◌++◌, length, Option, Some, None, IsUtf8, encode_utf8}
use Rattle.std.specs.Char.{is_ascii_digit}
use Rattle.std.specs.List.{AllPass}
use Rattle.lk_ast.specs.declared.place.Span.{Span}
use Rattle.lk_ast.specs.declared.token.Token.{Token}
use Rattle.lk_ast.specs.declared.token.TokenKind.{TokenKind}
use Rattle.lk_parse.specs.Pieces.{IsPiece}

-- what isn't cut: a piece, or digits, also where they are no integer
abbrev pub IsLexeme : List ℕ → Type 0
IsLexeme w = ((kind : Option TokenKind) × IsPiece w kind) ⊎ AllPass is_ascii_digit w

-- w is the piece in front of `w ++ rest`: no longer lexeme stands there
pub record IsTaken (w rest : List ℕ) (kind : Option TokenKind) : Type 0 where
  pub piece : IsPiece w kind
  pub longest : (u v : List ℕ) → w ++ rest ≡ u ++ v → IsLexeme u → length u ≤ length w

-- the token that a piece of so many bytes is at a place, if it is one
abbrev pub token_at : ℕ → ℕ → Option TokenKind → List Token
token_at at len None = []
token_at at len (Some kind) = record { span = record { start = at; end = at + len }; kind = kind } ∷ []

-- from a place on, at which this text stands, pieces with these tokens lead to what is left
pub data Reads : ℕ → List ℕ → List Token → List ℕ → Type 0 where
  nothing : (at : ℕ) (text : List ℕ) → Reads at text [] text
  piece : (at : ℕ) {w rest left : List ℕ} {kind : Option TokenKind} {tokens : List Token} → IsTaken w rest kind → Reads (at + length w) rest tokens left → Reads at (w ++ rest) (token_at at (length w) kind ++ tokens) left

-- how many bytes a program's text can have
abbrev pub text_limit : ℕ
text_limit = 1_048_576

-- the text is one that a program's text can be, and pieces with these tokens are all of it
pub record HasTokens (text : List ℕ) (tokens : List Token) : Type 0 where
  pub fits : length text ≤ text_limit
  pub utf8 : IsUtf8 text
  pub read : Reads 0 text tokens []

-- no piece stands in front
abbrev pub IsStuck : List ℕ → Type 0
IsStuck text = (w rest : List ℕ) (kind : Option TokenKind) → text ≡ w ++ rest → IsTaken w rest kind → ⊥

-- so many bytes in front are one character
pub record IsFirstCharacter (text : List ℕ) (len : ℕ) : Type 0 where
  pub character : ℕ
  pub rest : List ℕ
  pub first : text ≡ encode_utf8 character ++ rest
  pub is : len ≡ length (encode_utf8 character)

-- Pieces lead to the span's start, and no piece stands in front of what is left there. The span is one character.
pub record IsBadToken (text : List ℕ) (span : Span) : Type 0 where
  pub tokens : List Token
  pub left : List ℕ
  pub read : Reads 0 text tokens left
  pub stuck : IsStuck left
  pub start : span.start + length left ≡ length text
  pub len : ℕ
  pub character : IsFirstCharacter left len
  pub end : span.end ≡ span.start + len

-- the tokens lie one behind the other between two places, and none is empty
abbrev pub LieBetween : ℕ → List Token → ℕ → Type 0
LieBetween from [] to = from ≤ to
LieBetween from (token ∷ tokens) to = (from ≤ token.span.start) × (token.span.start < token.span.end) × LieBetween token.span.end tokens to
