-- The text of tokens. A line is its tokens with one space between and LF behind the last.
use Rattle.std.specs.Prelude.{◌||◌, ◌==◌, ℕ, if◌then◌else◌, List, [], ◌∷◌, ◌++◌, flat_map, codes}
use Rattle.std.specs.Fmt.{signed_decimal}
use Rattle.std.specs.Str.{byte}
use Rattle.lk_ast.specs.declared.token.TokenKind.{TokenKind}
use Rattle.lk_ast.specs.declared.token.TokenKind.TheVariants.{Word, Tag, Int, Text, Sign}

-- a byte as it stands between quotes: the quote, the backslash, LF, CR and tab as escapes, all others as they are
abbrev pub quoted_byte : ℕ → List ℕ
quoted_byte c =
    if c == byte "\"" || c == byte "\\" then byte "\\" ∷ c ∷ []
    else if c == byte "\n" then byte "\\" ∷ byte "n" ∷ []
    else if c == byte "\r" then byte "\\" ∷ byte "r" ∷ []
    else if c == byte "\t" then byte "\\" ∷ byte "t" ∷ []
    else c ∷ []

-- a text literal that means these bytes
abbrev pub quoted : List ℕ → List ℕ
quoted bytes = byte "\"" ∷ (flat_map quoted_byte bytes ++ byte "\"" ∷ [])

-- a token, an integer in decimal digits (no token is a negative one, which would have a minus in front)
abbrev pub written : TokenKind → List ℕ
written (Word word) = word
written (Tag tag) = tag
written (Int value) = signed_decimal value
written (Text text) = quoted text
written (Sign sign) = sign

-- a token behind another one
abbrev pub spaced : TokenKind → List ℕ
spaced kind = byte " " ∷ written kind

abbrev pub line_of : List TokenKind → List ℕ
line_of [] = byte "\n" ∷ []
line_of (kind ∷ kinds) = written kind ++ (flat_map spaced kinds ++ byte "\n" ∷ [])

-- lines one behind the other, and the tokens in them
abbrev pub text_of : List (List TokenKind) → List ℕ
text_of lines = flat_map line_of lines

abbrev pub kinds_of : List (List TokenKind) → List TokenKind
kinds_of lines = flat_map (λ line. line) lines

-- tokens behind a comma and other tokens
abbrev pub after_comma : List TokenKind → List ℕ
after_comma kinds = spaced (Sign (codes ",")) ++ flat_map spaced kinds
