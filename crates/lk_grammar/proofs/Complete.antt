-- What the grammar derives is read, unless the room is too small.
use Rattle.std.proofs.Common.{◌≡◌, ℕ, ◌≤◌, false, List, refl, arith}
use Rattle.std.specs.Prelude.{codes}
use Rattle.lk_ast.specs.declared.expression.Case.{Case}
use Rattle.lk_ast.specs.declared.expression.Expr.{Expr}
use Rattle.lk_ast.specs.declared.expression.PartExpr.{PartExpr}
use Rattle.lk_ast.specs.declared.token.Token.{Token}
use Rattle.lk_grammar.specs.Expressions.{IsExpr, IsAnd, IsComparison, IsJoin, IsSum, IsProduct, IsUnary, IsForm, IsPostfix, IsPrimary, IsArgs, IsSome, IsParts, IsPart, IsBlock, IsStatements, IsChange, IsCases, IsCase}
use Rattle.lk_parts.specs.declared.operators.Level.TheVariants as level
use Rattle.lk_parts.specs.declared.part.Cases.{Cases}
use Rattle.lk_parts.specs.declared.part.Change.{Change}
use Rattle.lk_parts.specs.declared.part.Part.{Part}
use Rattle.lk_parts.specs.declared.part.Statement.{Statement}
use Rattle.lk_grammar.proofs.CompleteForms.{conditional_finds, list_loop_finds, table_loop_finds, where_finds, insert_finds, Change_finds, rows_find, update_finds, delete_finds, Case_finds, named_case_finds, unit_case_finds, Cases_find, no_case_finds, next_case_finds, final_case_finds, switch_finds, query_finds, lambda_finds, form_starts}
use Rattle.lk_grammar.proofs.CompleteLevels.{UNARY, PRODUCT, COMPARISON, AND, Expr_finds, And_finds, Comparison_finds, Join_finds, Sum_finds, Product_finds, Unary_finds, Form_finds, Postfix_finds, Primary_finds, Args_finds, Some_find, Closes, whole, and_whole, product_whole, unary_whole, left_up, left_op, join_up, join_op, comparison_up, comparison_op, negation_finds, form_finds, postfix_finds, primary_up, call_finds, project_finds, no_args_finds, some_args_finds, first_arg_finds, next_arg_finds}
use Rattle.lk_grammar.proofs.CompletePrimaries.{closes_round, closes_square, literal_finds, name_finds, bare_tag_finds, unit_tag_finds, tagged_finds, unit_finds, paren_finds, Part_finds, Parts_find, set_finds, first_part_finds, next_part_finds, fields_finds, extension_finds, list_finds, prefix_finds, Block_finds, Statements_find, block_finds, no_statements_find, var_finds, plain_finds, block_primary_finds}

-- ---- no comparison stands below its level

postfix_plain : {w : List Token} {e : Part} → IsPostfix w e → e.compared ≡ false
postfix_plain (IsPostfix.primary d) = primary_plain d
  where
    block_plain : {w : List Token} {e : Part} → IsBlock w e → e.compared ≡ false
    block_plain (IsBlock.braces o c h s d k) = refl

    primary_plain : {w : List Token} {e : Part} → IsPrimary w e → e.compared ≡ false
    primary_plain (IsPrimary.literal_token t h) = refl
    primary_plain (IsPrimary.name t h) = refl
    primary_plain (IsPrimary.tag t h) = refl
    primary_plain (IsPrimary.tag_unit t o c h k i) = refl
    primary_plain (IsPrimary.tag_of t o c h k d i) = refl
    primary_plain (IsPrimary.unit o c h k) = refl
    primary_plain (IsPrimary.paren o c h d k) = refl
    primary_plain (IsPrimary.fields o c h d k) = refl
    primary_plain (IsPrimary.extension o b c h d k r i) = refl
    primary_plain (IsPrimary.list o c h d k) = refl
    primary_plain (IsPrimary.block d) = block_plain d
    primary_plain (IsPrimary.prefix k o c h i d j) = refl
postfix_plain (IsPostfix.call o c d t h a k) = refl
postfix_plain (IsPostfix.project p l d h k) = refl

form_plain : {w : List Token} {e : Part} → IsForm w e → e.compared ≡ false
form_plain (IsForm.conditional k o c l h i a j d m b) = refl
form_plain (IsForm.for_list k o x s c h i j m a n b) = refl
form_plain (IsForm.for_table k o x s t c h i j m n p b) = refl
form_plain (IsForm.where_holds k o c h i a j b) = refl
form_plain (IsForm.insert k t s h i j b) = refl
form_plain (IsForm.update k h o c i a j m p n) = refl
form_plain (IsForm.delete k h a) = refl
form_plain (IsForm.switch k o c b d h i a j m s n p) = refl
form_plain (IsForm.query k h o b) = refl
form_plain (IsForm.lambda k o c h i p j a b) = refl

unary_plain : {w : List Token} {e : Part} → IsUnary w e → e.compared ≡ false
unary_plain (IsUnary.negation s h d) = refl
unary_plain (IsUnary.form d) = form_plain d
unary_plain (IsUnary.postfix d) = postfix_plain d

product_plain : {w : List Token} {e : Part} → IsProduct w e → e.compared ≡ false
product_plain (IsProduct.unary_level d) = unary_plain d
product_plain (IsProduct.product s a t h d) = refl

sum_plain : {w : List Token} {e : Part} → IsSum w e → e.compared ≡ false
sum_plain (IsSum.product_level d) = product_plain d
sum_plain (IsSum.sum s a t h d) = refl

join_plain : {w : List Token} {e : Part} → IsJoin w e → e.compared ≡ false
join_plain (IsJoin.sum_level d) = sum_plain d
join_plain (IsJoin.join s a t h d) = refl

above_sum : 6 ≤ 3 → ⊥
above_sum le = omega arith

above_product : 7 ≤ 3 → ⊥
above_product le = omega arith

-- ---- every derivation

mutual
  pub expr_finds : {w : List Token} {e : Part} → IsExpr w e → Expr_finds w e
  expr_finds (IsExpr.and_level d) = left_up level.Or refl AND _ _ (and_whole _ _ (and_finds d))
  expr_finds (IsExpr.disjunction s d ok h k) = left_op level.Or refl AND s _ _ _ _ (expr_finds d) ok h (and_whole _ _ (and_finds k)) (λ le c. c)

  and_finds : {w : List Token} {e : Part} → IsAnd w e → And_finds w e
  and_finds (IsAnd.comparison_level d) = left_up level.And refl COMPARISON _ _ (comparison_finds d)
  and_finds (IsAnd.conjunction s d ok h k) = left_op level.And refl COMPARISON s _ _ _ _ (and_finds d) ok h (comparison_finds k) (λ le c. c)

  comparison_finds : {w : List Token} {e : Part} → IsComparison w e → Comparison_finds w e
  comparison_finds (IsComparison.join_level d) = comparison_up _ _ (join_plain d) (join_finds d)
  comparison_finds (IsComparison.comparison s d ok h k) = comparison_op s _ _ _ _ (join_finds d) ok h (join_finds k)

  join_finds : {w : List Token} {e : Part} → IsJoin w e → Join_finds w e
  join_finds (IsJoin.sum_level d) = join_up _ _ (sum_finds d)
  join_finds (IsJoin.join s d ok h k) = join_op s _ _ _ _ (sum_finds d) ok h (join_finds k)

  sum_finds : {w : List Token} {e : Part} → IsSum w e → Sum_finds w e
  sum_finds (IsSum.product_level d) = left_up level.Sum refl PRODUCT _ _ (product_whole _ _ (product_finds d))
  sum_finds (IsSum.sum s d ok h k) = left_op level.Sum refl PRODUCT s _ _ _ _ (sum_finds d) ok h (product_whole _ _ (product_finds k)) (λ le c. absurd (above_sum le))

  product_finds : {w : List Token} {e : Part} → IsProduct w e → Product_finds w e
  product_finds (IsProduct.unary_level d) = left_up level.Product refl UNARY _ _ (unary_whole _ _ (unary_finds d))
  product_finds (IsProduct.product s d ok h k) = left_op level.Product refl UNARY s _ _ _ _ (product_finds d) ok h (unary_whole _ _ (unary_finds k)) (λ le c. absurd (above_product le))

  unary_finds : {w : List Token} {e : Part} → IsUnary w e → Unary_finds w e
  unary_finds (IsUnary.negation s h d) = negation_finds s _ _ h (unary_finds d)
  unary_finds (IsUnary.form d) = form_finds _ _ (form_starts d) (forms_find d)
  unary_finds (IsUnary.postfix d) = postfix_finds _ _ d (postfixes_find d)

  postfixes_find : {w : List Token} {e : Part} → IsPostfix w e → Postfix_finds w e
  postfixes_find (IsPostfix.primary d) = primary_up _ _ (primary_finds d)
  postfixes_find (IsPostfix.call o c d ok h a k) = call_finds o c _ _ _ _ (postfixes_find d) ok h (args_find a (codes ")") closes_round) k
  postfixes_find (IsPostfix.project p l d h k) = project_finds p l _ _ (postfixes_find d) h k

  primary_finds : {w : List Token} {e : Part} → IsPrimary w e → Primary_finds w e
  primary_finds (IsPrimary.literal_token t h) = literal_finds t h
  primary_finds (IsPrimary.name t h) = name_finds t h
  primary_finds (IsPrimary.tag t h) = bare_tag_finds t h
  primary_finds (IsPrimary.tag_unit t o c h k i) = unit_tag_finds t o c h k i
  primary_finds (IsPrimary.tag_of t o c h k d i) = tagged_finds t o c _ _ h k d (whole _ _ (expr_finds d)) i
  primary_finds (IsPrimary.unit o c h k) = unit_finds o c h k
  primary_finds (IsPrimary.paren o c h d k) = paren_finds o c _ _ h d (whole _ _ (expr_finds d)) k
  primary_finds (IsPrimary.fields o c h d k) = fields_finds o c _ _ h d (parts_find d) k
  primary_finds (IsPrimary.extension o b c h d k r i) = extension_finds o b c _ _ _ _ h d (parts_find d) k (whole _ _ (expr_finds r)) i
  primary_finds (IsPrimary.list o c h d k) = list_finds o c _ _ h (args_find d (codes "]") closes_square) k
  primary_finds (IsPrimary.block d) = block_primary_finds _ _ d (blocks_find d)
  primary_finds (IsPrimary.prefix k o c h i d j) = prefix_finds k o c _ _ h i (whole _ _ (expr_finds d)) j

  args_find : {w : List Token} {es : List Expr} → IsArgs w es → (close : List ℕ) → Closes close → Args_finds close w es
  args_find IsArgs.no_args close k = no_args_finds close k
  args_find (IsArgs.some_args d) close k = some_args_finds close k _ _ d (some_find d)

  some_find : {w : List Token} {es : List Expr} → IsSome w es → Some_find w es
  some_find (IsSome.first_arg d) = first_arg_finds _ _ (whole _ _ (expr_finds d))
  some_find (IsSome.next_arg s d h k) = next_arg_finds s _ _ _ _ (some_find d) h (whole _ _ (expr_finds k))

  parts_find : {w : List Token} {parts : List PartExpr} → IsParts w parts → Parts_find w parts
  parts_find (IsParts.first_part (IsPart.set l q h k d)) = first_part_finds l q _ _ h k (whole _ _ (expr_finds d))
  parts_find (IsParts.next_part s d h p) = next_part_finds s _ _ _ _ (parts_find d) h (part_finds p)

  part_finds : {w : List Token} {part : PartExpr} → IsPart w part → Part_finds w part
  part_finds (IsPart.set l q h k d) = set_finds l q _ _ h k (whole _ _ (expr_finds d))

  pub blocks_find : {w : List Token} {e : Part} → IsBlock w e → Block_finds w e
  blocks_find (IsBlock.braces o c h s d k) = block_finds o c _ _ _ _ h (statements_find s) d (whole _ _ (expr_finds d)) k

  statements_find : {w : List Token} {ss : List Statement} → IsStatements w ss → Statements_find w ss
  statements_find IsStatements.nil = no_statements_find
  statements_find (IsStatements.let_in k x q s d g h i e j) = var_finds k x q s _ _ _ _ (statements_find d) g h i (whole _ _ (expr_finds e)) j
  statements_find (IsStatements.plain s d e j) = plain_finds s _ _ _ _ (statements_find d) e (whole _ _ (expr_finds e)) j

  forms_find : {w : List Token} {e : Part} → IsForm w e → Form_finds w e
  forms_find (IsForm.conditional k o c l h i a j d m b) = conditional_finds k o c l _ _ _ _ _ _ h i (whole _ _ (expr_finds a)) j (whole _ _ (expr_finds d)) m (whole _ _ (expr_finds b))
  forms_find (IsForm.for_list k o x s c h i j m a n b) = list_loop_finds k o x s c _ _ _ _ h i j m (whole _ _ (expr_finds a)) n (whole _ _ (expr_finds b))
  forms_find (IsForm.for_table k o x s t c h i j m n p b) = table_loop_finds k o x s t c _ _ h i j m n p (whole _ _ (expr_finds b))
  forms_find (IsForm.where_holds k o c h i a j b) = where_finds k o c _ _ _ _ h i (whole _ _ (expr_finds a)) j (whole _ _ (expr_finds b))
  forms_find (IsForm.insert k t s h i j b) = insert_finds k t s _ _ h i j (whole _ _ (expr_finds b))
  forms_find (IsForm.update k h o c i a j m p n) = update_finds k h o c _ _ _ _ i (change_finds a) j m (parts_find p) n
  forms_find (IsForm.delete k h a) = delete_finds k _ _ h (change_finds a)
  forms_find (IsForm.switch k o c b d h i a j m s n p) = switch_finds k o c b d _ _ _ _ h i (whole _ _ (expr_finds a)) j m (cases_find s) n p
  forms_find (IsForm.query k h o b) = query_finds k _ _ _ _ h o b (blocks_find b)
  forms_find (IsForm.lambda k o c h i p j a b) = lambda_finds k o c _ _ _ _ _ _ h i p j a b (blocks_find b)

  change_finds : {w : List Token} {change : Change} → IsChange w change → Change_finds w change
  change_finds (IsChange.rows o x s t c h p q i j k l m d b a e) = rows_find o x s t c h p q _ _ i j k l m d b (whole _ _ (expr_finds a)) e

  cases_find : {w : List Token} {cases : Cases} → IsCases w cases → Cases_find w cases
  cases_find IsCases.no_case = no_case_finds
  cases_find (IsCases.next_case d go c) = next_case_finds _ _ _ _ (cases_find d) go c (case_finds c)
  cases_find (IsCases.final_case k x a d go h i j e) = final_case_finds k x a _ _ _ _ (cases_find d) go h i j (whole _ _ (expr_finds e))

  case_finds : {w : List Token} {case : Case} → IsCase w case → Case_finds w case
  case_finds (IsCase.named_case k t o x c a h i j m p q d) = named_case_finds k t o x c a _ _ h i j m p q (whole _ _ (expr_finds d))
  case_finds (IsCase.unit_case k t a h i q d) = unit_case_finds k t a _ _ h i q (whole _ _ (expr_finds d))
