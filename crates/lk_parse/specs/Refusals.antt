-- Which texts are programs, and why others are refused. Of several reasons the first in the order of the cases counts.
use Rattle.std.specs.Prelude.{◌≡◌, ◌<◌, ◌≤◌, ℕ, List, length, slice_get, Option, Some, None, IsUtf8}
use Rattle.std.specs.Str.{IsValidUpTo}
use Rattle.lk_ast.specs.declared.declaration.Program.{Program}
use Rattle.lk_ast.specs.declared.place.Span.{Span}
use Rattle.lk_ast.specs.declared.token.Token.{Token}
use Rattle.lk_read.specs.Exact.{IsUnexpected}
use Rattle.lk_scope.specs.Scoped.{scoped_program}
use Rattle.lk_grammar.specs.Programs.{IsProgram}
use Rattle.lk_parse.specs.Nesting.{IsLight, IsTooNested}
use Rattle.lk_parse.specs.Tokens.{HasTokens, IsBadToken, text_limit}
use Rattle.lk_parse.specs.declared.error.ParseError.{ParseError}
use Rattle.lk_parse.specs.declared.error.ParseError.TheVariants.{TextTooLong, NotUtf8, BadToken, TooNested, Unexpected, NoMemory}

-- why a text has no tokens: it is too long; it isn't UTF-8, and the longest front that is ends at this place; no piece
-- begins at the first character of this span; want of memory has no cause
abbrev pub HasNoTokens : List ℕ → ParseError → Type 0
HasNoTokens text (TextTooLong bytes) = (text_limit < length text) × (bytes ≡ length text)
HasNoTokens text (NotUtf8 at) = (length text ≤ text_limit) × IsValidUpTo text at
HasNoTokens text (BadToken span) = (length text ≤ text_limit) × IsUtf8 text × IsBadToken text span
HasNoTokens text NoMemory = Unit {0}
HasNoTokens text refusal = ⊥

-- why tokens are refused before the grammar looks at them
abbrev pub IsTooHeavy : List Token → ParseError → Type 0
IsTooHeavy tokens (TooNested span) = IsTooNested tokens span
IsTooHeavy tokens NoMemory = Unit {0}
IsTooHeavy tokens refusal = ⊥

-- The text is that of this program: its tokens don't nest too deep, they are a tree by the grammar, and the program is that
-- tree with its names by scope.
pub record IsProgramText (text : List ℕ) (program : Program) : Type 0 where
  pub tokens : List Token
  pub has : HasTokens text tokens
  pub light : IsLight tokens
  pub tree : Program
  pub is : IsProgram tokens tree
  pub names : program ≡ scoped_program tree

-- its tokens nest too deep, with the one of this span
pub record NestsTooDeep (text : List ℕ) (span : Span) : Type 0 where
  pub tokens : List Token
  pub has : HasTokens text tokens
  pub heavy : IsTooNested tokens span

-- the span of a token, and behind the last one the empty span at the text's end
abbrev pub span_or_end : ℕ → Option Token → Span
span_or_end end (Some token) = token.span
span_or_end end None = record { start = end; end = end }

-- its tokens are no program, and this is the span of the first one that fits nowhere
pub record IsNoProgram (text : List ℕ) (span : Span) : Type 0 where
  pub tokens : List Token
  pub has : HasTokens text tokens
  pub light : IsLight tokens
  pub at : ℕ
  pub unexpected : IsUnexpected IsProgram tokens at
  pub place : span ≡ span_or_end (length text) (slice_get tokens at)

-- why a text is no program
abbrev pub IsRefused : List ℕ → ParseError → Type 0
IsRefused text (TooNested span) = NestsTooDeep text span
IsRefused text (Unexpected span) = IsNoProgram text span
IsRefused text refusal = HasNoTokens text refusal
