-- Tables of words, and the words that name nothing.
use Rattle.std.specs.Prelude.{ℕ, Bool, List, [], ◌∷◌, codes}
use Rattle.std.specs.List.{list_any}
use Rattle.std.specs.Str.{bytes_eq}

abbrev pub is_in : List ℕ → List (List ℕ) → Bool
is_in text table = list_any (bytes_eq text) table

abbrev pub keywords : List (List ℕ)
keywords =
    codes "table" ∷ codes "with" ∷ codes "sig" ∷ codes "fun" ∷ codes "mutual" ∷ codes "client" ∷ codes "server"
    ∷ codes "var" ∷ codes "if" ∷ codes "else" ∷ codes "for" ∷ codes "where" ∷ codes "switch" ∷ codes "case"
    ∷ codes "query" ∷ codes "orderby" ∷ codes "desc" ∷ codes "insert" ∷ codes "values" ∷ codes "update"
    ∷ codes "set" ∷ codes "delete" ∷ codes "true" ∷ codes "false" ∷ codes "mod" ∷ codes "print" ∷ codes "not"
    ∷ codes "hd" ∷ codes "tl" ∷ codes "empty" ∷ codes "intToString" ∷ []

-- whether a word is one of them
unfoldable pub is_keyword : List ℕ → Bool
is_keyword word = is_in word keywords
