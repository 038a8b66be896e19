-- Reading expressions from left to right. A reader takes those that it calls as arguments; `expr_at` ties the knot. The
-- number is room for nesting and turns.
use Rattle.std.specs.Prelude.{ℕ, zero, suc, Bool, true, false, ◌||◌, List, [], ◌∷◌, ◌++◌, Some, None, codes}
use Rattle.lk_ast.specs.declared.expression.Case.{Case}
use Rattle.lk_ast.specs.declared.expression.Expr.{Expr}
use Rattle.lk_ast.specs.declared.expression.PartExpr.{PartExpr}
use Rattle.lk_ast.specs.declared.expression.SortKey.{SortKey}
use Rattle.lk_ast.specs.declared.place.Loc.{Loc}
use Rattle.lk_ast.specs.declared.place.Loc.TheVariants as loc
use Rattle.lk_ast.specs.declared.place.Word.{Word}
use Rattle.lk_ast.specs.declared.token.Token.{Token}
use Rattle.lk_read.specs.Kinds.{is_sign, is_word, is_name, is_any_tag, word_of}
use Rattle.lk_read.specs.Reader.{Reader, give, stop, tired, bind, when, given, eat, many}
use Rattle.lk_rows.specs.Reading.{comma}
use Rattle.lk_parts.specs.Operators.{is_operator}
use Rattle.lk_parts.specs.Parts.{literal, named, label_of, is_bare_name, wrapped, part_of, record_of, extended, list_of, bare_tag, unit_tag, tagged, prefixed, called, projected, var_statement, plain_statement, braced, negated, binary, takes_operator, takes_comparison, takes_call, if_form, list_loop, table_loop, where_form, insert_form, change_of, update_form, delete_form, switch_form, query_form, lambda_form, no_cases, case_of, last_case, goes_on, some_case}
use Rattle.lk_parts.specs.Starts.{begins}
use Rattle.lk_parts.specs.declared.operators.Level.{Level}
use Rattle.lk_parts.specs.declared.operators.Level.TheVariants as level
use Rattle.lk_parts.specs.declared.part.Cases.{Cases}
use Rattle.lk_parts.specs.declared.part.Change.{Change}
use Rattle.lk_parts.specs.declared.part.Part.{Part}
use Rattle.lk_parts.specs.declared.part.Statement.{Statement}
use Rattle.lk_parts.specs.declared.starts.Start.TheVariants as start

-- one sign or word, which makes nothing
abbrev pub skip_sign : {X : Type 0} → List ℕ → Reader X → Reader X
skip_sign sign r = eat (is_sign sign) (λ t. r)

abbrev pub skip_word : {X : Type 0} → List ℕ → Reader X → Reader X
skip_word word r = eat (is_word word) (λ t. r)

-- ---- names

unfoldable pub names_turn : List Word → Reader (List Word)
names_turn xs = skip_sign (codes ",") (eat is_name (λ x. give (xs ++ word_of x ∷ [])))

unfoldable pub params_with : ℕ → Reader (List Word)
params_with n = when (is_sign (codes ")")) (give []) (eat is_name (λ x. many comma names_turn n (word_of x ∷ [])))

unfoldable pub read_place : Reader Loc
read_place = when (is_word (codes "client")) (skip_word (codes "client") (give loc.Client))
    (when (is_word (codes "server")) (skip_word (codes "server") (give loc.Server)) (give loc.Any))

unfoldable pub read_key : Reader SortKey
read_key = eat is_name (λ l. when (is_word (codes "desc")) (skip_word (codes "desc") (give (record { label = word_of l; desc = true }))) (give (record { label = word_of l; desc = false })))

unfoldable pub keys_turn : List SortKey → Reader (List SortKey)
keys_turn keys = skip_sign (codes ",") (bind read_key (λ key. give (keys ++ key ∷ [])))

unfoldable pub keys_with : ℕ → Reader (List SortKey)
keys_with n = bind read_key (λ key. many comma keys_turn n (key ∷ []))

unfoldable pub order_with : ℕ → Reader (List SortKey)
order_with n = when (is_word (codes "orderby")) (skip_word (codes "orderby") (skip_sign (codes "(") (bind (keys_with n) (λ keys. skip_sign (codes ")") (give keys))))) (give [])

-- ---- operators

unfoldable pub operator_turn : Level → Reader Part → Part → Reader Part
operator_turn at operand a = given (takes_operator a) (eat (is_operator at) (λ s. bind operand (λ b. give (binary at a s b))))

-- whether an operator of this level comes next, whatever is read so far
abbrev pub operator_next : Level → Part → Token → Bool
operator_next at a = is_operator at

unfoldable pub left_with : Level → Reader Part → ℕ → Reader Part
left_with at operand n = bind operand (λ a. many (operator_next at) (operator_turn at operand) n a)

unfoldable pub join_with : Reader Part → ℕ → Reader Part
join_with sum zero = tired
join_with sum (suc n) = bind sum (λ a. when (is_operator level.Join) (operator_turn level.Join (join_with sum n) a) (give a))

unfoldable pub compare_turn : Reader Part → Part → Reader Part
compare_turn join a = given (takes_comparison a) (eat (is_operator level.Comparison) (λ s. bind join (λ b. give (binary level.Comparison a s b))))

unfoldable pub comparison_with : Reader Part → Reader Part
comparison_with join = bind join (λ a. when (is_operator level.Comparison) (compare_turn join a) (give a))

unfoldable pub unary_with : Reader Part → Reader Part → ℕ → Reader Part
unary_with form postfix zero = tired
unary_with form postfix (suc n) = when (is_sign (codes "-")) (eat (is_sign (codes "-")) (λ s. bind (unary_with form postfix n) (λ e. give (negated s e))))
    (when (begins start.Form) form postfix)

-- ---- calls and fields

unfoldable pub args_turn : Reader Part → List Expr → Reader (List Expr)
args_turn expr es = skip_sign (codes ",") (bind expr (λ e. give (es ++ e.expr ∷ [])))

unfoldable pub some_with : Reader Part → ℕ → Reader (List Expr)
some_with expr n = bind expr (λ e. many comma (args_turn expr) n (e.expr ∷ []))

-- the expressions before this closing sign
unfoldable pub args_with : List ℕ → Reader Part → ℕ → Reader (List Expr)
args_with close expr n = when (is_sign close) (give []) (some_with expr n)

unfoldable pub call_with : Reader Part → ℕ → Part → Reader Part
call_with expr n f = given (takes_call f) (skip_sign (codes "(") (bind (args_with (codes ")") expr n) (λ args. eat (is_sign (codes ")")) (λ c. give (called f args c)))))

unfoldable pub read_field : Part → Reader Part
read_field e = skip_sign (codes ".") (eat is_name (λ l. give (projected e l)))

unfoldable pub postfix_turn : Reader Part → ℕ → Part → Reader Part
postfix_turn expr n e = when (is_sign (codes "(")) (call_with expr n e) (read_field e)

-- whether a call or a field comes next
abbrev pub is_postfix : Token → Bool
is_postfix t = is_sign (codes "(") t || is_sign (codes ".") t

abbrev pub postfix_next : Part → Token → Bool
postfix_next e = is_postfix

unfoldable pub postfix_with : Reader Part → Reader Part → ℕ → Reader Part
postfix_with primary expr n = bind primary (λ e. many postfix_next (postfix_turn expr n) n e)

-- ---- primaries

unfoldable pub tag_body_with : Reader Part → Token → Reader Part
tag_body_with expr t = skip_sign (codes "(") (when (is_sign (codes ")")) (eat (is_sign (codes ")")) (λ c. give (unit_tag t c)))
    (bind expr (λ e. eat (is_sign (codes ")")) (λ c. give (tagged t e c)))))

unfoldable pub tag_with : Reader Part → Reader Part
tag_with expr = eat is_any_tag (λ t. when (is_sign (codes "(")) (tag_body_with expr t) (give (bare_tag t)))

unfoldable pub part_with : Reader Part → Reader PartExpr
part_with expr = eat is_name (λ l. skip_sign (codes "=") (bind expr (λ e. give (part_of (word_of l) e))))

unfoldable pub parts_turn : Reader Part → List PartExpr → Reader (List PartExpr)
parts_turn expr parts = skip_sign (codes ",") (bind (part_with expr) (λ part. give (parts ++ part ∷ [])))

unfoldable pub parts_with : Reader Part → ℕ → Reader (List PartExpr)
parts_with expr n = bind (part_with expr) (λ part. many comma (parts_turn expr) n (part ∷ []))

-- what closes a record
unfoldable pub record_end_with : Reader Part → Token → List PartExpr → Reader Part
record_end_with expr o parts = when (is_sign (codes "|"))
    (skip_sign (codes "|") (bind expr (λ r. eat (is_sign (codes ")")) (λ c. give (extended o parts r c)))))
    (eat (is_sign (codes ")")) (λ c. give (record_of o parts c)))

-- a record whose first label is read
unfoldable pub record_with : Reader Part → ℕ → Token → Part → Reader Part
record_with expr n o l = given (is_bare_name l) (skip_sign (codes "=") (bind expr (λ e. bind (many comma (parts_turn expr) n (part_of (label_of l) e ∷ [])) (record_end_with expr o))))

unfoldable pub round_body_with : Reader Part → ℕ → Token → Reader Part
round_body_with expr n o = bind expr (λ e. when (is_sign (codes "=")) (record_with expr n o e) (eat (is_sign (codes ")")) (λ c. give (wrapped o e c))))

unfoldable pub round_with : Reader Part → ℕ → Reader Part
round_with expr n = eat (is_sign (codes "(")) (λ o. when (is_sign (codes ")")) (eat (is_sign (codes ")")) (λ c. give (record_of o [] c))) (round_body_with expr n o))

unfoldable pub list_with : Reader Part → ℕ → Reader Part
list_with expr n = eat (is_sign (codes "[")) (λ o. bind (args_with (codes "]") expr n) (λ items. eat (is_sign (codes "]")) (λ c. give (list_of o items c))))

unfoldable pub prefix_with : Reader Part → Reader Part
prefix_with expr = eat (begins start.Prefix) (λ k. skip_sign (codes "(") (bind expr (λ e. eat (is_sign (codes ")")) (λ c. give (prefixed k e c)))))

unfoldable pub read_literal : Reader Part
read_literal = eat (begins start.Literal) (λ t. give (literal t))

unfoldable pub read_name : Reader Part
read_name = eat is_name (λ t. give (named t))

-- ---- blocks

unfoldable pub let_with : Reader Part → Reader Statement
let_with expr = eat (is_word (codes "var")) (λ k. eat is_name (λ x. skip_sign (codes "=") (bind expr (λ e. skip_sign (codes ";") (give (var_statement k x e))))))

-- the statements, and the expression behind them
unfoldable pub statements_with : Reader Part → ℕ → List Statement → Reader (List Statement × Part)
statements_with expr zero ss = tired
statements_with expr (suc n) ss = when (is_word (codes "var"))
    (bind (let_with expr) (λ s. statements_with expr n (ss ++ s ∷ [])))
    (bind expr (λ e. when (is_sign (codes ";")) (skip_sign (codes ";") (statements_with expr n (ss ++ plain_statement e ∷ []))) (give (ss, e))))

unfoldable pub block_with : Reader Part → ℕ → Reader Part
block_with expr n = eat (is_sign (codes "{")) (λ o. bind (statements_with expr n []) (λ body. eat (is_sign (codes "}")) (λ c. give (braced o body.0 body.1 c))))

unfoldable pub primary_with : Reader Part → ℕ → Reader Part
primary_with expr n =
    when (begins start.Literal) read_literal
    (when is_name read_name
    (when is_any_tag (tag_with expr)
    (when (is_sign (codes "(")) (round_with expr n)
    (when (is_sign (codes "[")) (list_with expr n)
    (when (is_sign (codes "{")) (block_with expr n)
    (when (begins start.Prefix) (prefix_with expr) stop))))))

-- ---- forms

unfoldable pub if_with : Reader Part → Reader Part
if_with expr = eat (is_word (codes "if")) (λ k. skip_sign (codes "(") (bind expr (λ a. skip_sign (codes ")") (bind expr (λ d. skip_word (codes "else") (bind expr (λ e. give (if_form k a d e))))))))

unfoldable pub list_loop_with : Reader Part → Token → Token → Reader Part
list_loop_with expr k x = skip_sign (codes "<-") (bind expr (λ e. skip_sign (codes ")") (bind expr (λ d. give (list_loop k x e d)))))

unfoldable pub table_loop_with : Reader Part → Token → Token → Reader Part
table_loop_with expr k x = skip_sign (codes "<--") (eat is_name (λ t. skip_sign (codes ")") (bind expr (λ d. give (table_loop k x t d)))))

unfoldable pub for_with : Reader Part → Reader Part
for_with expr = eat (is_word (codes "for")) (λ k. skip_sign (codes "(") (eat is_name (λ x. when (is_sign (codes "<-")) (list_loop_with expr k x) (table_loop_with expr k x))))

unfoldable pub where_with : Reader Part → Reader Part
where_with expr = eat (is_word (codes "where")) (λ k. skip_sign (codes "(") (bind expr (λ a. skip_sign (codes ")") (bind expr (λ e. give (where_form k a e))))))

unfoldable pub insert_with : Reader Part → Reader Part
insert_with expr = eat (is_word (codes "insert")) (λ k. eat is_name (λ t. skip_word (codes "values") (bind expr (λ e. give (insert_form k t e)))))

unfoldable pub change_cond_with : Reader Part → Token → Token → Reader Change
change_cond_with expr x t = skip_word (codes "where") (skip_sign (codes "(") (bind expr (λ a. eat (is_sign (codes ")")) (λ q. give (change_of x t a q)))))

unfoldable pub change_with : Reader Part → Reader Change
change_with expr = skip_sign (codes "(") (eat is_name (λ x. skip_sign (codes "<--") (eat is_name (λ t. skip_sign (codes ")") (change_cond_with expr x t)))))

unfoldable pub update_with : Reader Part → ℕ → Reader Part
update_with expr n = eat (is_word (codes "update")) (λ k. bind (change_with expr) (λ change. skip_word (codes "set") (skip_sign (codes "(") (bind (parts_with expr n) (λ sets. eat (is_sign (codes ")")) (λ c. give (update_form k change sets c)))))))

unfoldable pub delete_with : Reader Part → Reader Part
delete_with expr = eat (is_word (codes "delete")) (λ k. bind (change_with expr) (λ change. give (delete_form k change)))

unfoldable pub tag_case_with : Reader Part → Token → Reader Case
tag_case_with expr t = when (is_sign (codes "("))
    (skip_sign (codes "(") (eat is_name (λ x. skip_sign (codes ")") (skip_sign (codes "->") (bind expr (λ e. give (case_of t (Some (word_of x)) e)))))))
    (skip_sign (codes "->") (bind expr (λ e. give (case_of t None e))))

unfoldable pub last_case_with : Reader Part → Cases → Reader Cases
last_case_with expr cases = eat is_name (λ x. skip_sign (codes "->") (bind expr (λ e. give (record { list = cases.list; last = Some (last_case x e) }))))

unfoldable pub cases_turn : Reader Part → Cases → Reader Cases
cases_turn expr cases = given (goes_on cases) (skip_word (codes "case") (when is_any_tag
    (eat is_any_tag (λ t. bind (tag_case_with expr t) (λ case. give (record { list = cases.list ++ case ∷ []; last = None }))))
    (last_case_with expr cases)))

-- whether a case comes next, whatever is read so far
abbrev pub case_next : Cases → Token → Bool
case_next cases = is_word (codes "case")

unfoldable pub switch_with : Reader Part → ℕ → Reader Part
switch_with expr n = eat (is_word (codes "switch")) (λ k. skip_sign (codes "(") (bind expr (λ e. skip_sign (codes ")") (skip_sign (codes "{") (bind (many case_next (cases_turn expr) n no_cases) (λ cases. given (some_case cases) (eat (is_sign (codes "}")) (λ d. give (switch_form k e cases d)))))))))

unfoldable pub query_with : Reader Part → ℕ → Reader Part
query_with expr n = eat (is_word (codes "query")) (λ k. bind (order_with n) (λ keys. bind (block_with expr n) (λ b. give (query_form k keys b))))

unfoldable pub lambda_with : Reader Part → ℕ → Reader Part
lambda_with expr n = eat (is_word (codes "fun")) (λ k. skip_sign (codes "(") (bind (params_with n) (λ params. skip_sign (codes ")") (bind read_place (λ place. bind (block_with expr n) (λ b. give (lambda_form k params place b)))))))

unfoldable pub form_with : Reader Part → ℕ → Reader Part
form_with expr n =
    when (is_word (codes "if")) (if_with expr)
    (when (is_word (codes "for")) (for_with expr)
    (when (is_word (codes "where")) (where_with expr)
    (when (is_word (codes "insert")) (insert_with expr)
    (when (is_word (codes "update")) (update_with expr n)
    (when (is_word (codes "delete")) (delete_with expr)
    (when (is_word (codes "switch")) (switch_with expr n)
    (when (is_word (codes "query")) (query_with expr n) (lambda_with expr n))))))))

-- ---- the levels over one reader of expressions

unfoldable pub unary_over : Reader Part → ℕ → ℕ → Reader Part
unary_over expr n = unary_with (form_with expr n) (postfix_with (primary_with expr n) expr n)

unfoldable pub product_over : Reader Part → ℕ → Reader Part
product_over expr n = left_with level.Product (unary_over expr n n) n

unfoldable pub sum_over : Reader Part → ℕ → Reader Part
sum_over expr n = left_with level.Sum (product_over expr n) n

unfoldable pub join_over : Reader Part → ℕ → ℕ → Reader Part
join_over expr n = join_with (sum_over expr n)

unfoldable pub comparison_over : Reader Part → ℕ → Reader Part
comparison_over expr n = comparison_with (join_over expr n n)

unfoldable pub and_over : Reader Part → ℕ → Reader Part
and_over expr n = left_with level.And (comparison_over expr n) n

unfoldable pub or_over : Reader Part → ℕ → Reader Part
or_over expr n = left_with level.Or (and_over expr n) n

-- what stands between two operators of a level
abbrev pub operand_over : Level → Reader Part → ℕ → Reader Part
operand_over level.Or expr n = and_over expr n
operand_over level.And expr n = comparison_over expr n
operand_over level.Comparison expr n = join_over expr n n
operand_over level.Join expr n = sum_over expr n
operand_over level.Sum expr n = product_over expr n
operand_over level.Product expr n = unary_over expr n n

-- ---- the knot

unfoldable pub expr_at : ℕ → Reader Part
expr_at zero = tired
expr_at (suc n) = or_over (expr_at n) n
