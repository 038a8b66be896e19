-- What parts of expressions begin with.
use Rattle.std.proofs.Common.{List, [], ◌∷◌, ◌++◌, ap}
use Rattle.std.specs.Prelude.{codes}
use Rattle.lk_ast.specs.declared.expression.Expr.{Expr}
use Rattle.lk_ast.specs.declared.token.Token.{Token}
use Rattle.lk_read.specs.Keywords.{is_keyword}
use Rattle.lk_parts.specs.Starts.{start_of_keyword, start_of_sign}
use Rattle.lk_parts.specs.declared.part.Part.{Part}
use Rattle.lk_parts.specs.declared.starts.Start.TheVariants as start
use Rattle.lk_parts.proofs.StartLaws.{begins_start, sign_start, word_start, name_start, tag_start, is_primary_start, is_expr_start, Begins, begins_expr, regrouped}
use Rattle.lk_grammar.specs.Expressions.{IsExpr, IsAnd, IsComparison, IsJoin, IsSum, IsProduct, IsUnary, IsPostfix, IsPrimary, IsForm, IsBlock, IsSome}

block_begins : {w : List Token} {e : Part} → IsBlock w e → (z : List Token) → Begins is_primary_start (w ++ z)
unfolding start_of_sign
block_begins (IsBlock.braces o c h s d k) z = ap is_primary_start (sign_start (codes "{") o h)

primary_begins : {w : List Token} {e : Part} → IsPrimary w e → (z : List Token) → Begins is_primary_start (w ++ z)
unfolding start_of_sign
primary_begins (IsPrimary.literal_token t h) z = ap is_primary_start (begins_start start.Literal t h)
primary_begins (IsPrimary.name t h) z = ap is_primary_start (name_start t h)
primary_begins (IsPrimary.tag t h) z = ap is_primary_start (tag_start t h)
primary_begins (IsPrimary.tag_unit t o c h k i) z = ap is_primary_start (tag_start t h)
primary_begins (IsPrimary.tag_of t o c h k d i) z = ap is_primary_start (tag_start t h)
primary_begins (IsPrimary.unit o c h k) z = ap is_primary_start (sign_start (codes "(") o h)
primary_begins (IsPrimary.paren o c h d k) z = ap is_primary_start (sign_start (codes "(") o h)
primary_begins (IsPrimary.fields o c h d k) z = ap is_primary_start (sign_start (codes "(") o h)
primary_begins (IsPrimary.extension o b c h d k r i) z = ap is_primary_start (sign_start (codes "(") o h)
primary_begins (IsPrimary.list o c h d k) z = ap is_primary_start (sign_start (codes "[") o h)
primary_begins (IsPrimary.block d) z = block_begins d z
primary_begins (IsPrimary.prefix k o c h i d j) z = ap is_primary_start (begins_start start.Prefix k h)

pub postfix_begins : {w : List Token} {e : Part} → IsPostfix w e → (z : List Token) → Begins is_primary_start (w ++ z)
postfix_begins (IsPostfix.primary d) z = primary_begins d z
postfix_begins (IsPostfix.call o c {u = u} {w = w} d t h a k) z = regrouped is_primary_start u (o ∷ (w ++ c ∷ [])) z (postfix_begins d ((o ∷ (w ++ c ∷ [])) ++ z))
postfix_begins (IsPostfix.project p l {u = u} d h k) z = regrouped is_primary_start u (p ∷ l ∷ []) z (postfix_begins d ((p ∷ l ∷ []) ++ z))

form_begins : {w : List Token} {e : Part} → IsForm w e → (z : List Token) → Begins is_expr_start (w ++ z)
unfolding is_keyword start_of_keyword
form_begins (IsForm.conditional k o c l h i a j d m b) z = ap is_expr_start (word_start (codes "if") k h)
form_begins (IsForm.for_list k o x s c h i j m a n b) z = ap is_expr_start (word_start (codes "for") k h)
form_begins (IsForm.for_table k o x s t c h i j m n p b) z = ap is_expr_start (word_start (codes "for") k h)
form_begins (IsForm.where_holds k o c h i a j b) z = ap is_expr_start (word_start (codes "where") k h)
form_begins (IsForm.insert k t s h i j b) z = ap is_expr_start (word_start (codes "insert") k h)
form_begins (IsForm.update k h o c i a j m p n) z = ap is_expr_start (word_start (codes "update") k i)
form_begins (IsForm.delete k h a) z = ap is_expr_start (word_start (codes "delete") k h)
form_begins (IsForm.switch k o c b d h i a j m s n p) z = ap is_expr_start (word_start (codes "switch") k h)
form_begins (IsForm.query k h o b) z = ap is_expr_start (word_start (codes "query") k h)
form_begins (IsForm.lambda k o c h i p j a b) z = ap is_expr_start (word_start (codes "fun") k h)

unary_begins : {w : List Token} {e : Part} → IsUnary w e → (z : List Token) → Begins is_expr_start (w ++ z)
unfolding start_of_sign
unary_begins (IsUnary.negation s h d) z = ap is_expr_start (sign_start (codes "-") s h)
unary_begins (IsUnary.form d) z = form_begins d z
unary_begins (IsUnary.postfix {w = w} d) z = begins_expr (w ++ z) (postfix_begins d z)

product_begins : {w : List Token} {e : Part} → IsProduct w e → (z : List Token) → Begins is_expr_start (w ++ z)
product_begins (IsProduct.unary_level d) z = unary_begins d z
product_begins (IsProduct.product {u = u} {v = v} s a t h d) z = regrouped is_expr_start u (s ∷ v) z (product_begins a ((s ∷ v) ++ z))

sum_begins : {w : List Token} {e : Part} → IsSum w e → (z : List Token) → Begins is_expr_start (w ++ z)
sum_begins (IsSum.product_level d) z = product_begins d z
sum_begins (IsSum.sum {u = u} {v = v} s a t h d) z = regrouped is_expr_start u (s ∷ v) z (sum_begins a ((s ∷ v) ++ z))

join_begins : {w : List Token} {e : Part} → IsJoin w e → (z : List Token) → Begins is_expr_start (w ++ z)
join_begins (IsJoin.sum_level d) z = sum_begins d z
join_begins (IsJoin.join {u = u} {v = v} s a t h d) z = regrouped is_expr_start u (s ∷ v) z (sum_begins a ((s ∷ v) ++ z))

comparison_begins : {w : List Token} {e : Part} → IsComparison w e → (z : List Token) → Begins is_expr_start (w ++ z)
comparison_begins (IsComparison.join_level d) z = join_begins d z
comparison_begins (IsComparison.comparison {u = u} {v = v} s a t h d) z = regrouped is_expr_start u (s ∷ v) z (join_begins a ((s ∷ v) ++ z))

and_begins : {w : List Token} {e : Part} → IsAnd w e → (z : List Token) → Begins is_expr_start (w ++ z)
and_begins (IsAnd.comparison_level d) z = comparison_begins d z
and_begins (IsAnd.conjunction {u = u} {v = v} s a t h d) z = regrouped is_expr_start u (s ∷ v) z (and_begins a ((s ∷ v) ++ z))

pub expr_begins : {w : List Token} {e : Part} → IsExpr w e → (z : List Token) → Begins is_expr_start (w ++ z)
expr_begins (IsExpr.and_level d) z = and_begins d z
expr_begins (IsExpr.disjunction {u = u} {v = v} s a t h d) z = regrouped is_expr_start u (s ∷ v) z (expr_begins a ((s ∷ v) ++ z))

pub some_begins : {w : List Token} {es : List Expr} → IsSome w es → (z : List Token) → Begins is_expr_start (w ++ z)
some_begins (IsSome.first_arg d) z = expr_begins d z
some_begins (IsSome.next_arg {u = u} {v = v} s d h c) z = regrouped is_expr_start u (s ∷ v) z (some_begins d ((s ∷ v) ++ z))
