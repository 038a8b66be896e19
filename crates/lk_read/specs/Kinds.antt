-- Tests of tokens, and what they mean.
use Rattle.std.specs.Prelude.{◌≡◌, ℕ, Bool, true, false, not, List, []}
use Rattle.std.specs.Str.{bytes_eq}
use Rattle.lk_ast.specs.declared.place.Word.{Word as Named}
use Rattle.lk_ast.specs.declared.token.Token.{Token}
use Rattle.lk_ast.specs.declared.token.TokenKind.{TokenKind}
use Rattle.lk_ast.specs.declared.token.TokenKind.TheVariants.{Word, Tag, Int, Text, Sign}
use Rattle.lk_read.specs.Keywords.{is_keyword}

-- tests of what a token is, without its place
abbrev pub is_sign_kind : List ℕ → TokenKind → Bool
is_sign_kind wanted (Sign sign) = bytes_eq sign wanted
is_sign_kind wanted kind = false

abbrev pub is_word_kind : List ℕ → TokenKind → Bool
is_word_kind wanted (Word word) = bytes_eq word wanted
is_word_kind wanted kind = false

abbrev pub is_tag_kind : List ℕ → TokenKind → Bool
is_tag_kind wanted (Tag tag) = bytes_eq tag wanted
is_tag_kind wanted kind = false

abbrev pub is_name_kind : TokenKind → Bool
is_name_kind (Word word) = not (is_keyword word)
is_name_kind kind = false

abbrev pub is_any_tag_kind : TokenKind → Bool
is_any_tag_kind (Tag tag) = true
is_any_tag_kind kind = false

-- whether a token is this sign, this word, this tag
unfoldable pub is_sign : List ℕ → Token → Bool
is_sign wanted token = is_sign_kind wanted token.kind

unfoldable pub is_word : List ℕ → Token → Bool
is_word wanted token = is_word_kind wanted token.kind

unfoldable pub is_tag : List ℕ → Token → Bool
is_tag wanted token = is_tag_kind wanted token.kind

-- whether it is a word that can name something, and whether it is a tag
unfoldable pub is_name : Token → Bool
is_name token = is_name_kind token.kind

unfoldable pub is_any_tag : Token → Bool
is_any_tag token = is_any_tag_kind token.kind

-- a token that is this sign, this word, this tag
abbrev pub IsSign : List ℕ → Token → Type 0
IsSign wanted token = token.kind ≡ Sign wanted

abbrev pub IsWord : List ℕ → Token → Type 0
IsWord wanted token = token.kind ≡ Word wanted

abbrev pub IsTag : List ℕ → Token → Type 0
IsTag wanted token = token.kind ≡ Tag wanted

-- a word that can name something, and a tag
abbrev pub IsName : Token → Type 0
IsName token = is_name token ≡ true

abbrev pub IsAnyTag : Token → Type 0
IsAnyTag token = is_any_tag token ≡ true

-- what a word, a tag, a text literal or a sign says; an integer says nothing
abbrev pub text_of_kind : TokenKind → List ℕ
text_of_kind (Word text) = text
text_of_kind (Tag text) = text
text_of_kind (Text text) = text
text_of_kind (Sign text) = text
text_of_kind (Int number) = []

-- a token as a name, label or tag with its place
unfoldable pub word_of : Token → Named
word_of token = record { at = token.span; text = text_of_kind token.kind }
