-- What the functions that read one piece answer.
use Rattle.std.specs.Prelude.{◌≡◌, ◌<◌, ◌≤◌, ◌+◌, ◌==◌, nat_eq, ℕ, if◌then◌else◌, List, [], ◌∷◌, ◌++◌, length, take, drop, slice_index, find, Option, Some, None}
use Rattle.std.specs.Char.{is_ascii_lowercase, is_ascii_uppercase, is_ascii_digit}
use Rattle.std.specs.List.{starts_with}
use Rattle.std.specs.Str.{byte, IsCharBoundary}
use Rattle.lk_parse.specs.Pieces.{is_white, IsContent, signs}
use Rattle.lk_parse.specs.Tokens.{IsTaken, IsStuck}
use Rattle.lk_parse.specs.declared.piece.Piece.{Piece}
use Rattle.lk_parse.specs.declared.start.Start.{Start}
use Rattle.lk_parse.specs.declared.start.Start.TheVariants.{White, Comment, Word, Tag, Int, Text, Sign}

-- what a piece that begins with this byte is
abbrev pub start_of : ℕ → Start
start_of c =
    if is_white c then White
    else if c == byte "#" then Comment
    else if is_ascii_lowercase c then Word
    else if is_ascii_uppercase c then Tag
    else if is_ascii_digit c then Int
    else if c == byte "\"" then Text
    else Sign

-- something stands in front, and its first byte begins this
pub record Begins (text : List ℕ) (start : Start) : Type 0 where
  pub some : 0 < length text
  pub is : start_of (slice_index text 0) ≡ start

-- the piece in front
pub record Takes (text : List ℕ) (piece : Piece) : Type 0 where
  pub some : 0 < piece.len
  pub fits : piece.len ≤ length text
  pub boundary : IsCharBoundary text piece.len
  pub taken : IsTaken (take piece.len text) (drop piece.len text) piece.kind

-- the piece in front, if there is one
abbrev pub Finds : List ℕ → Option Piece → Type 0
Finds text (Some piece) = Takes text piece
Finds text None = IsStuck text

-- the first of the signs that stands in front
unfoldable pub sign_in_front : List ℕ → Option (List ℕ)
sign_in_front text = find (starts_with nat_eq text) signs

-- the bytes in front mean this one: they can be put before any content, and are taken off any that is closed here
pub record MeansFirst (bytes : List ℕ) (meant len : ℕ) : Type 0 where
  pub some : 0 < len
  pub fits : len ≤ length bytes
  pub puts : (w m : List ℕ) → IsContent w m → IsContent (take len bytes ++ w) (meant ∷ m)
  pub takes : (w m rest : List ℕ) → bytes ≡ w ++ byte "\"" ∷ rest → IsContent w m → (v n : List ℕ) × (drop len bytes ≡ v ++ byte "\"" ∷ rest) × IsContent v n

-- no content that is closed here has a byte
abbrev pub MeansNothing : List ℕ → Type 0
MeansNothing bytes = (w m rest : List ℕ) → bytes ≡ w ++ byte "\"" ∷ rest → IsContent w m → w ≡ []

-- the first bytes, of which there are so many, are content with this meaning, and a quote follows
pub record Closes (bytes : List ℕ) (len : ℕ) (meant : List ℕ) : Type 0 where
  pub fits : len < length bytes
  pub content : IsContent (take len bytes) meant
  pub quote : bytes ≡ take len bytes ++ byte "\"" ∷ drop (len + 1) bytes

-- no content is closed
abbrev pub NeverCloses : List ℕ → Type 0
NeverCloses bytes = (w m rest : List ℕ) → bytes ≡ w ++ byte "\"" ∷ rest → IsContent w m → ⊥
