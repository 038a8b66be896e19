-- The pieces of a program's text: its tokens, and the white space and comments that may stand between them, each told
-- by its own bytes. The text is UTF-8 (RFC 3629); what isn't ASCII stands in comments and text literals alone.
use Rattle.std.specs.Prelude.{◌≡◌, ◌<◌, ◌^◌, ◌||◌, ◌==◌, not, ℕ, pos, Bool, if◌then◌else◌, List, [], ◌∷◌, ◌++◌, Option, Some, None, codes, decimal, Contains, IsTrue}
use Rattle.std.specs.Char.{is_ascii_lowercase, is_ascii_uppercase, is_ascii_alphanumeric}
use Rattle.std.specs.List.{AllPass}
use Rattle.std.specs.Str.{byte}
use Rattle.lk_ast.specs.declared.token.TokenKind.{TokenKind}
use Rattle.lk_ast.specs.declared.token.TokenKind.TheVariants as kind

-- space, tab, CR and LF
abbrev pub is_white : ℕ → Bool
is_white c = c == byte " " || c == byte "\t" || c == byte "\r" || c == byte "\n"

-- what a comment goes on with: all but LF
abbrev pub is_no_feed : ℕ → Bool
is_no_feed c = not (c == byte "\n")

-- ASCII letters, digits and `_`
abbrev pub is_word_byte : ℕ → Bool
is_word_byte c = is_ascii_alphanumeric c || c == byte "_"

-- what stands for itself in a text literal: all but the quote, the backslash, LF and CR
abbrev pub is_plain : ℕ → Bool
is_plain c = not (c == byte "\"" || c == byte "\\" || c == byte "\n" || c == byte "\r")

-- what a backslash and this byte stand for
abbrev pub escaped : ℕ → Option ℕ
escaped c =
    if c == byte "\"" || c == byte "\\" then Some c
    else if c == byte "n" then Some (byte "\n")
    else if c == byte "r" then Some (byte "\r")
    else if c == byte "t" then Some (byte "\t")
    else None

-- bytes that may stand between the quotes of a text literal, and what they mean: plain ones mean themselves
pub data IsContent : List ℕ → List ℕ → Type 0 where
  nothing : IsContent [] []
  plain : (c : ℕ) {bytes meant : List ℕ} → IsTrue (is_plain c) → IsContent bytes meant → IsContent (c ∷ bytes) (c ∷ meant)
  escape : (c d : ℕ) {bytes meant : List ℕ} → escaped c ≡ Some d → IsContent bytes meant → IsContent (byte "\\" ∷ c ∷ bytes) (d ∷ meant)

-- these bytes are the decimal digits of an integer, with no zeros before them; it is one that an i64 holds
abbrev pub IsInteger : List ℕ → ℕ → Type 0
IsInteger digits n = (digits ≡ decimal n) × (n < 2 ^ 63)

-- the signs, longer ones first
abbrev pub signs : List (List ℕ)
signs =
    codes "<--" ∷ codes "[|" ∷ codes "|]" ∷ codes "::" ∷ codes "==" ∷ codes "<>" ∷ codes "<=" ∷ codes ">=" ∷ codes "<-"
    ∷ codes "->" ∷ codes "++" ∷ codes "^^" ∷ codes "&&" ∷ codes "||"
    ∷ codes "(" ∷ codes ")" ∷ codes "{" ∷ codes "}" ∷ codes "[" ∷ codes "]" ∷ codes "," ∷ codes ";" ∷ codes ":"
    ∷ codes "=" ∷ codes "<" ∷ codes ">" ∷ codes "+" ∷ codes "-" ∷ codes "*" ∷ codes "/" ∷ codes "|" ∷ codes "." ∷ []

-- these bytes are that token, or they are white space or a comment, and no token
pub data IsPiece : List ℕ → Option TokenKind → Type 0 where
  white : (c : ℕ) → IsTrue (is_white c) → IsPiece (c ∷ []) None
  comment : (w : List ℕ) → AllPass is_no_feed w → IsPiece (byte "#" ∷ w) None
  word : (c : ℕ) (w : List ℕ) → IsTrue (is_ascii_lowercase c) → AllPass is_word_byte w → IsPiece (c ∷ w) (Some (kind.Word (c ∷ w)))
  tag : (c : ℕ) (w : List ℕ) → IsTrue (is_ascii_uppercase c) → AllPass is_word_byte w → IsPiece (c ∷ w) (Some (kind.Tag (c ∷ w)))
  int : (w : List ℕ) (n : ℕ) → IsInteger w n → IsPiece w (Some (kind.Int (pos n)))
  text : (w meant : List ℕ) → IsContent w meant → IsPiece (byte "\"" ∷ (w ++ byte "\"" ∷ [])) (Some (kind.Text meant))
  sign : (w : List ℕ) → Contains signs w → IsPiece w (Some (kind.Sign w))
