-- The operators, by how tightly they bind: the table of precedence (Aho, Lam, Sethi and Ullman, Compilers, 2006,
-- section 4.3.4), from the loosest to the tightest.
use Rattle.std.specs.Prelude.{ℕ, Bool, List, [], ◌∷◌, codes, nat_eq, if◌then◌else◌}
use Rattle.std.specs.Str.{bytes_eq}
use Rattle.lk_ast.specs.declared.expression.Expr.{Expr}
use Rattle.lk_ast.specs.declared.expression.Node.{Node}
use Rattle.lk_ast.specs.declared.expression.Node.TheVariants as node
use Rattle.lk_ast.specs.declared.token.Token.{Token}
use Rattle.lk_ast.specs.declared.token.TokenKind.{TokenKind}
use Rattle.lk_ast.specs.declared.token.TokenKind.TheVariants.{Word, Sign}
use Rattle.lk_read.specs.Keywords.{is_in}
use Rattle.lk_parts.specs.declared.operators.Level.{Level}
use Rattle.lk_parts.specs.declared.operators.Level.TheVariants as level

abbrev pub comparisons : List (List ℕ)
comparisons = codes "==" ∷ codes "<>" ∷ codes "<" ∷ codes "<=" ∷ codes ">" ∷ codes ">=" ∷ []

abbrev pub joins : List (List ℕ)
joins = codes "::" ∷ codes "++" ∷ codes "^^" ∷ []

abbrev pub sums : List (List ℕ)
sums = codes "+" ∷ codes "-" ∷ []

abbrev pub products : List (List ℕ)
products = codes "*" ∷ codes "/" ∷ []

-- the level of an operator, from 1, and 0 where it is none
unfoldable pub level_of_sign : List ℕ → ℕ
level_of_sign sign = if bytes_eq sign (codes "||") then 1 else (if bytes_eq sign (codes "&&") then 2 else (if is_in sign comparisons then 3 else (if is_in sign joins then 4 else (if is_in sign sums then 5 else (if is_in sign products then 6 else 0)))))

unfoldable pub level_of_word : List ℕ → ℕ
level_of_word word = if bytes_eq word (codes "mod") then 6 else 0

abbrev pub level_of_kind : TokenKind → ℕ
level_of_kind (Sign sign) = level_of_sign sign
level_of_kind (Word word) = level_of_word word
level_of_kind kind = 0

abbrev pub level_of : Token → ℕ
level_of token = level_of_kind token.kind

abbrev pub rank : Level → ℕ
rank level.Or = 1
rank level.And = 2
rank level.Comparison = 3
rank level.Join = 4
rank level.Sum = 5
rank level.Product = 6

-- whether a token is an operator of this level
unfoldable pub is_operator : Level → Token → Bool
is_operator at token = nat_eq (level_of token) (rank at)

-- ---- what an operator makes of its operands

unfoldable pub comparison_node : List ℕ → Expr → Expr → Node
comparison_node sign a b = if bytes_eq sign (codes "==") then node.Eq a b else (if bytes_eq sign (codes "<>") then node.Ne a b else (if bytes_eq sign (codes "<") then node.Lt a b else (if bytes_eq sign (codes "<=") then node.Le a b else (if bytes_eq sign (codes ">") then node.Gt a b else node.Ge a b))))

unfoldable pub join_node : List ℕ → Expr → Expr → Node
join_node sign a b = if bytes_eq sign (codes "::") then node.Cons a b else (if bytes_eq sign (codes "++") then node.Append a b else node.Concat a b)

unfoldable pub sum_node : List ℕ → Expr → Expr → Node
sum_node sign a b = if bytes_eq sign (codes "+") then node.Add a b else node.Sub a b

unfoldable pub product_node : List ℕ → Expr → Expr → Node
product_node sign a b = if bytes_eq sign (codes "*") then node.Mul a b else (if bytes_eq sign (codes "/") then node.Div a b else node.Mod a b)

abbrev pub operator_node : Level → List ℕ → Expr → Expr → Node
operator_node level.Or sign a b = node.Or a b
operator_node level.And sign a b = node.And a b
operator_node level.Comparison sign a b = comparison_node sign a b
operator_node level.Join sign a b = join_node sign a b
operator_node level.Sum sign a b = sum_node sign a b
operator_node level.Product sign a b = product_node sign a b

-- what a word before parentheses makes of the expression in them
unfoldable pub prefix_node : List ℕ → Expr → Node
prefix_node word e = if bytes_eq word (codes "print") then node.Print e else (if bytes_eq word (codes "not") then node.Not e else (if bytes_eq word (codes "hd") then node.Hd e else (if bytes_eq word (codes "tl") then node.Tl e else (if bytes_eq word (codes "empty") then node.Empty e else node.IntToString e))))
