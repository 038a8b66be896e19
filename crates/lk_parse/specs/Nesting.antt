-- How deeply a text nests, counted from its tokens. Brackets, operators and forms are what one expression can stand in
-- another by; so a limit on the weight is meant to bound how deep the tree of any program is, which no lemma says.
use Rattle.std.specs.Prelude.{◌≡◌, ◌+◌, ◌<◌, ◌≤◌, ◌||◌, ◌&&◌, ℕ, Bool, false, if◌then◌else◌, List, [], ◌∷◌, ◌++◌, take, fold, codes, All}
use Rattle.lk_ast.specs.declared.place.Span.{Span}
use Rattle.lk_ast.specs.declared.token.Token.{Token}
use Rattle.lk_ast.specs.declared.token.TokenKind.{TokenKind}
use Rattle.lk_ast.specs.declared.token.TokenKind.TheVariants.{Word, Sign}
use Rattle.lk_read.specs.Keywords.{is_in}

-- whether a token is a sign, or a word, of a table
abbrev pub is_sign_of : List (List ℕ) → TokenKind → Bool
is_sign_of table (Sign sign) = is_in sign table
is_sign_of table kind = false

abbrev pub is_word_of : List (List ℕ) → TokenKind → Bool
is_word_of table (Word word) = is_in word table
is_word_of table kind = false

abbrev pub opening : List (List ℕ)
opening = codes "(" ∷ codes "{" ∷ codes "[" ∷ codes "[|" ∷ []

abbrev pub closing : List (List ℕ)
closing = codes ")" ∷ codes "}" ∷ codes "]" ∷ codes "|]" ∷ []

abbrev pub operators : List (List ℕ)
operators =
    codes "||" ∷ codes "&&" ∷ codes "==" ∷ codes "<>" ∷ codes "<" ∷ codes "<=" ∷ codes ">" ∷ codes ">=" ∷ codes "::"
    ∷ codes "++" ∷ codes "^^" ∷ codes "+" ∷ codes "-" ∷ codes "*" ∷ codes "/" ∷ codes "." ∷ []

-- the word that is an operator, and the words of forms
abbrev pub forms : List (List ℕ)
forms =
    codes "mod" ∷ codes "if" ∷ codes "else" ∷ codes "for" ∷ codes "where" ∷ codes "switch" ∷ codes "query"
    ∷ codes "insert" ∷ codes "update" ∷ codes "delete" ∷ codes "fun" ∷ []

-- what adds one and opens no bracket
abbrev pub adds : TokenKind → Bool
adds kind = is_sign_of operators kind || is_word_of forms kind

-- `,`, `;` and `case` begin a new part, in which nothing of the part before stands open
abbrev pub begins_part : TokenKind → Bool
begins_part kind = is_sign_of (codes "," ∷ codes ";" ∷ []) kind || is_word_of (codes "case" ∷ []) kind

-- so does one of these words directly behind `}`, where it begins a declaration
abbrev pub begins_declaration : TokenKind → Bool
begins_declaration kind = is_word_of (codes "table" ∷ codes "sig" ∷ codes "fun" ∷ codes "mutual" ∷ []) kind

-- The weight, what it was just behind each bracket that is open, the innermost first, and whether `}` came last.
pub record Load : Type 0 where
  pub weight : ℕ
  pub opened : List ℕ
  pub braced : Bool

-- nothing has been read
abbrev pub no_load : Load
no_load = record { weight = 0; opened = []; braced = false }

-- the weight without all that was added since the innermost open bracket, or since the start where none is open
abbrev pub floor : List ℕ → ℕ
floor [] = 0
floor (weight ∷ outer) = weight

-- an opening bracket adds one and is open
abbrev pub opened_load : Load → Load
opened_load load = record { weight = load.weight + 1; opened = (load.weight + 1) ∷ load.opened; braced = false }

-- A closing bracket takes back what was added inside; the one of its opening bracket stays. Any closing bracket closes
-- the innermost open one. Where none is open the weight stays.
abbrev pub closed_load : Bool → ℕ → List ℕ → Load
closed_load braced weight [] = record { weight = weight; opened = []; braced = braced }
closed_load braced weight (inner ∷ outer) = record { weight = inner; opened = outer; braced = braced }

-- whether a token takes back all that was added since the innermost open bracket
abbrev pub takes_back : Load → TokenKind → Bool
takes_back load kind = begins_part kind || (load.braced && begins_declaration kind)

-- the weight before such a token, which may take back first, adds to it
abbrev pub base_of : Load → TokenKind → ℕ
base_of load kind = if takes_back load kind then floor load.opened else load.weight

abbrev pub grown_load : Load → TokenKind → Load
grown_load load kind = record { weight = base_of load kind + (if adds kind then 1 else 0); opened = load.opened; braced = false }

abbrev pub next_load : Load → TokenKind → Load
next_load load kind =
    if is_sign_of opening kind then opened_load load
    else if is_sign_of closing kind then closed_load (is_sign_of (codes "}" ∷ []) kind) load.weight load.opened
    else grown_load load kind

-- what these tokens weigh at their end
unfoldable pub load_of : List Token → Load
load_of tokens = fold (λ load token. next_load load token.kind) no_load tokens

abbrev pub weight_of : List Token → ℕ
weight_of tokens = (load_of tokens).weight

-- how much a front of a text may weigh
abbrev pub nesting_limit : ℕ
nesting_limit = 200

-- no front of the tokens weighs more
abbrev pub IsLight : List Token → Type 0
IsLight tokens = (n : ℕ) → weight_of (take n tokens) ≤ nesting_limit

-- the span is that of the first token at which the weight is more
pub record IsTooNested (tokens : List Token) (span : Span) : Type 0 where
  pub before : List Token
  pub token : Token
  pub behind : List Token
  pub place : tokens ≡ before ++ token ∷ behind
  pub light : IsLight before
  pub heavy : nesting_limit < weight_of (before ++ token ∷ [])
  pub is : span ≡ token.span

-- neither the weight nor what it can go back to is over the limit
pub record IsSmall (load : Load) : Type 0 where
  pub weight : load.weight ≤ nesting_limit
  pub opened : All (λ weight. weight ≤ nesting_limit) load.opened
