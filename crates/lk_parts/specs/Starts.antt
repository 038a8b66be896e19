-- What an expression can begin with: its first tokens (Aho, Lam, Sethi and Ullman, Compilers, 2006, section 4.4.2), by kinds
-- that exclude each other.
use Rattle.std.specs.Prelude.{ℕ, Bool, List, [], ◌∷◌, codes, nat_eq, if◌then◌else◌}
use Rattle.std.specs.Str.{bytes_eq}
use Rattle.lk_ast.specs.declared.token.Token.{Token}
use Rattle.lk_ast.specs.declared.token.TokenKind.{TokenKind}
use Rattle.lk_ast.specs.declared.token.TokenKind.TheVariants.{Word, Tag, Int, Text, Sign}
use Rattle.lk_read.specs.Keywords.{is_in, is_keyword}
use Rattle.lk_parts.specs.declared.starts.Start.{Start}
use Rattle.lk_parts.specs.declared.starts.Start.TheVariants as start

-- the words that are values, those that stand before one expression in parentheses, and those that begin a form
abbrev pub truths : List (List ℕ)
truths = codes "true" ∷ codes "false" ∷ []

abbrev pub prefixes : List (List ℕ)
prefixes = codes "print" ∷ codes "not" ∷ codes "hd" ∷ codes "tl" ∷ codes "empty" ∷ codes "intToString" ∷ []

abbrev pub forms : List (List ℕ)
forms = codes "if" ∷ codes "for" ∷ codes "where" ∷ codes "insert" ∷ codes "update" ∷ codes "delete" ∷ codes "switch" ∷ codes "query" ∷ codes "fun" ∷ []

unfoldable pub start_of_keyword : List ℕ → Start
start_of_keyword word = if is_in word truths then start.Literal else (if is_in word prefixes then start.Prefix else (if is_in word forms then start.Form else start.Other))

unfoldable pub start_of_sign : List ℕ → Start
start_of_sign sign = if bytes_eq sign (codes "(") then start.Round else (if bytes_eq sign (codes "[") then start.Square else (if bytes_eq sign (codes "{") then start.Brace else (if bytes_eq sign (codes "-") then start.Minus else start.Other)))

abbrev pub start_of_kind : TokenKind → Start
start_of_kind (Word word) = if is_keyword word then start_of_keyword word else start.Name
start_of_kind (Tag tag) = start.Tag
start_of_kind (Int number) = start.Literal
start_of_kind (Text text) = start.Literal
start_of_kind (Sign sign) = start_of_sign sign

abbrev pub start_of : Token → Start
start_of token = start_of_kind token.kind

-- each start has a number of its own
abbrev pub number : Start → ℕ
number start.Literal = 0
number start.Name = 1
number start.Tag = 2
number start.Round = 3
number start.Square = 4
number start.Brace = 5
number start.Prefix = 6
number start.Minus = 7
number start.Form = 8
number start.Other = 9

unfoldable pub begins : Start → Token → Bool
begins wanted token = nat_eq (number (start_of token)) (number wanted)
