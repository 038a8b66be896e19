-- Each lambda that is gathered in an expression of the grammar, whose names are resolved, begins with a token of its own, and so
-- does each use of a function in it, and what acts on tables: production by production.
use Rattle.std.proofs.Common.{◌≡◌, ℕ, Bool, true, false, List, [], ◌∷◌, ◌++◌, Option, Some, None, map, refl, sym, subst, append_assoc}
use Rattle.std.specs.Option.{is_none}
use Rattle.lk_ast.specs.Layers.{statement_node}
use Rattle.lk_ast.specs.declared.expression.Case.{Case}
use Rattle.lk_ast.specs.declared.expression.Expr.{Expr}
use Rattle.lk_ast.specs.declared.expression.LambdaExpr.{LambdaExpr}
use Rattle.lk_ast.specs.declared.expression.LastCase.{LastCase}
use Rattle.lk_ast.specs.declared.expression.Node.{out-Node}
use Rattle.lk_ast.specs.declared.expression.Node.TheVariants as node
use Rattle.lk_ast.specs.declared.expression.PartExpr.{PartExpr}
use Rattle.lk_ast.specs.declared.place.Span.{Span}
use Rattle.lk_ast.specs.declared.token.Token.{Token}
use Rattle.lk_grammar.specs.Expressions.{IsExpr, IsAnd, IsComparison, IsJoin, IsSum, IsProduct, IsUnary, IsPostfix, IsPrimary, IsArgs, IsSome, IsParts, IsPart, IsBlock, IsStatements, IsForm, IsChange, IsCases, IsCase}
use Rattle.lk_parts.proofs.Chains.{chain_back}
use Rattle.lk_parts.specs.Parts.{between, chain, expr_of, text_of, binary, var_statement, plain_statement, case_of, last_case}
use Rattle.lk_parts.specs.declared.operators.Level.{Level}
use Rattle.lk_parts.specs.declared.operators.Level.TheVariants as level
use Rattle.lk_parts.specs.declared.part.Cases.{Cases}
use Rattle.lk_parts.specs.declared.part.Change.{Change}
use Rattle.lk_parts.specs.declared.part.Part.{Part}
use Rattle.lk_parts.specs.declared.part.Statement.{Statement}
use Rattle.lk_read.specs.Kinds.{word_of}
use Rattle.lk_scope.specs.Names.{Names, is_local, bind, bind_all}
use Rattle.lk_scope.specs.Scoped.{In, all_in, function_in, call_by, scoped, scoped_case, scoped_lambda, scoped_part}
use Rattle.lk_places.proofs.Finds.{Finds, finds_none, finds_skip, finds_before, finds_behind, finds_both, finds_lambda, finds_use, finds_block, finds_so}
use Rattle.lk_places.proofs.Levels.{of_node, within, all_more, all_scoped, found_case, found_last, found_part}
use Rattle.lk_places.proofs.Nodes.{cases_within, word_walk, operator_pair, where_pair, seq_pair, neg_one, prefix_one, project_one, tag_one, insert_same, query_same, literal_leaf, name_same, var_same, for_list_same, for_table_same, lambda_same, if_same, record_same, extend_same, list_same, apply_same, value_same, function_same, switch_same, update_same, delete_same}
use Rattle.lk_places.proofs.Opens.{Opens, postfix_opens, finds_call}
use Rattle.lk_places.proofs.Walks.{Walk, walk_all, same_then, same_behind, same_alone, walk_of, walk_node, walk_part, walk_case}

-- whatever names are in scope, what is found in this expression begins with these tokens
abbrev pub Holds : Expr → List Token → Type 0
Holds e w = (names : Names) → Finds (within e names) [] w

-- the same of a list of parts
abbrev HoldAll : {X : Type 0} → (X → Walk) → (X → In X) → List X → List Token → Type 0
HoldAll of resolved xs w = (names : Names) → Finds (all_scoped of resolved xs names) [] w

abbrev HoldCases : List Case → Option LastCase → List Token → Type 0
HoldCases cases last w = (names : Names) → Finds (cases_within cases last names) [] w

-- ---- operators and calls

binary_holds : (at : Level) (a b : Part) (s : Token) {u v : List Token} → Holds a.expr u → Holds b.expr v → Holds (binary at a s b).expr (u ++ s ∷ v)
binary_holds at a b s h k names = finds_so (operator_pair at (text_of s) (between a.from b.to) a.expr b.expr names) (finds_both (h names) (finds_skip s (k names)))

-- what is called is a use of a function of the program, or it is found before the values
call_finds : (called : Option (List ℕ)) (f : Expr) (args : List Expr) {site : ℕ} {u : List Token} {w : List Token} → Opens site u
    → Finds (walk_of f) [] u → Finds (walk_all walk_of args) [] w → Finds (walk_node (call_by called f args) site) [] (u ++ w)
call_finds None f args {site} o d e = finds_so (value_same f args site) (finds_both d e)
call_finds (Some g) f args {site} o d e = finds_so (function_same (record { at = f.span; text = g }) args site) (finds_call g o e)

call_holds : (span : Span) (f : Expr) (args : List Expr) (o c : Token) {u w : List Token} → Opens span.start u
    → Holds f u → HoldAll walk_of scoped args w → Holds (of_node span (node.Apply f args)) (u ++ o ∷ (w ++ c ∷ []))
call_holds span f args o c from h k names =
    finds_so (apply_same span f args names)
    (call_finds (function_in (out-Node (scoped f names).node)) (scoped f names) (all_in names (map scoped args)) from (h names) (finds_skip o (finds_behind (c ∷ []) (k names))))

-- a word alone
word_finds : (local : Bool) (x : List ℕ) (t : Token) → Finds (word_walk local x t.span.start) [] (t ∷ [])
word_finds true x t = finds_none (t ∷ [])
word_finds false x t = finds_use t x t.span.start refl (finds_none [])

-- ---- statements

var_holds : (span : Span) (k x q s : Token) (e last : Expr) {v w : List Token} → Holds e v → Holds last w → Holds (of_node span (node.Var (word_of x) e last)) (k ∷ x ∷ q ∷ ((v ++ s ∷ []) ++ w))
var_holds span k x q s e last h r names = finds_so (var_same span (word_of x) e last names) (finds_before (k ∷ x ∷ q ∷ []) (finds_both (finds_behind (s ∷ []) (h names)) (r (bind (word_of x) names))))

seq_holds : (span : Span) (s : Token) (e last : Expr) {v w : List Token} → Holds e v → Holds last w → Holds (of_node span (node.Seq e last)) ((v ++ s ∷ []) ++ w)
seq_holds span s e last h r names = finds_so (seq_pair span e last names) (finds_both (finds_behind (s ∷ []) (h names)) (r names))

-- one more statement before an expression
chain_holds : (ss : List Statement) (s : Statement) (to : ℕ) (last : Expr) (u v w : List Token)
    → Holds (chain ss to (expr_of s.from to (statement_node s.name s.expr last))) (u ++ (v ++ w)) → Holds (chain (ss ++ s ∷ []) to last) ((u ++ v) ++ w)
chain_holds ss s to last u v w h =
    subst (λ e. Holds e ((u ++ v) ++ w)) (sym (chain_back (ss ++ s ∷ []) ss s to last refl))
    (subst (Holds (chain ss to (expr_of s.from to (statement_node s.name s.expr last)))) (sym (append_assoc u v w)) h)

-- ---- cases

next_hold : (cases : List Case) (last : Option LastCase) (case : Case) {u v : List Token} → is_none last ≡ true → HoldCases cases last u
    → ((names : Names) → Finds (walk_case (scoped_case case names)) [] v) → HoldCases (cases ++ case ∷ []) None (u ++ v)
next_hold cases None case none h k names = finds_so (all_more walk_case scoped_case cases case names) (finds_both (h names) (k names))
next_hold cases (Some last) case none h k names = absurd cc

final_hold : (cases : List Case) (last : Option LastCase) (k x a : Token) (e : Part) {u w : List Token} → is_none last ≡ true → HoldCases cases last u
    → Holds e.expr w → HoldCases cases (Some (last_case x e)) (u ++ k ∷ x ∷ a ∷ w)
final_hold cases None k x a e none h r names = finds_so (same_behind (cases_within cases None names) (found_last (last_case x e) names)) (finds_both (h names) (finds_before (k ∷ x ∷ a ∷ []) (r (bind (word_of x) names))))
final_hold cases (Some last) k x a e none h r names = absurd cc

-- ---- the productions

mutual
  expr_holds : {w : List Token} {e : Part} → IsExpr w e → Holds e.expr w
  expr_holds (IsExpr.and_level d) names = and_holds d names
  expr_holds (IsExpr.disjunction s {a} {b} d h is i) names = binary_holds level.Or a b s (expr_holds d) (and_holds i) names

  and_holds : {w : List Token} {e : Part} → IsAnd w e → Holds e.expr w
  and_holds (IsAnd.comparison_level d) names = comparison_holds d names
  and_holds (IsAnd.conjunction s {a} {b} d h is i) names = binary_holds level.And a b s (and_holds d) (comparison_holds i) names

  comparison_holds : {w : List Token} {e : Part} → IsComparison w e → Holds e.expr w
  comparison_holds (IsComparison.join_level d) names = join_holds d names
  comparison_holds (IsComparison.comparison s {a} {b} d h is i) names = binary_holds level.Comparison a b s (join_holds d) (join_holds i) names

  join_holds : {w : List Token} {e : Part} → IsJoin w e → Holds e.expr w
  join_holds (IsJoin.sum_level d) names = sum_holds d names
  join_holds (IsJoin.join s {a} {b} d h is i) names = binary_holds level.Join a b s (sum_holds d) (join_holds i) names

  sum_holds : {w : List Token} {e : Part} → IsSum w e → Holds e.expr w
  sum_holds (IsSum.product_level d) names = product_holds d names
  sum_holds (IsSum.sum s {a} {b} d h is i) names = binary_holds level.Sum a b s (sum_holds d) (product_holds i) names

  product_holds : {w : List Token} {e : Part} → IsProduct w e → Holds e.expr w
  product_holds (IsProduct.unary_level d) names = unary_holds d names
  product_holds (IsProduct.product s {a} {b} d h is i) names = binary_holds level.Product a b s (product_holds d) (unary_holds i) names

  unary_holds : {w : List Token} {e : Part} → IsUnary w e → Holds e.expr w
  unary_holds (IsUnary.negation s {e = e} h d) names = finds_so (neg_one (between s.span.start e.to) e.expr names) (finds_skip s (unary_holds d names))
  unary_holds (IsUnary.form d) names = form_holds d names
  unary_holds (IsUnary.postfix d) names = postfix_holds d names

  postfix_holds : {w : List Token} {e : Part} → IsPostfix w e → Holds e.expr w
  postfix_holds (IsPostfix.primary d) names = primary_holds d names
  postfix_holds (IsPostfix.call o c {u = u} {f = f} {args = args} d h i j l) names = call_holds (between f.from c.span.end) f.expr args o c (postfix_opens d) (postfix_holds d) (args_hold j) names
  postfix_holds (IsPostfix.project s l {e = e} d h i) names = finds_so (project_one (word_of l) (between e.from l.span.end) e.expr names) (finds_behind (s ∷ l ∷ []) (postfix_holds d names))

  primary_holds : {w : List Token} {e : Part} → IsPrimary w e → Holds e.expr w
  primary_holds (IsPrimary.literal_token t is) names = finds_so (literal_leaf t.kind (between t.span.start t.span.end) names) (finds_none (t ∷ []))
  primary_holds (IsPrimary.name t h) names = finds_so (name_same (text_of t) (between t.span.start t.span.end) names) (word_finds (is_local names (text_of t)) (text_of t) t)
  primary_holds (IsPrimary.tag t h) names = finds_so (same_then (tag_one (word_of t) (between t.span.start t.span.end) _ names) (record_same (between t.span.start t.span.end) [] names)) (finds_none (t ∷ []))
  primary_holds (IsPrimary.tag_unit t o c h i j) names = finds_so (same_then (tag_one (word_of t) (between t.span.start c.span.end) _ names) (record_same (between t.span.start c.span.end) [] names)) (finds_none (t ∷ o ∷ c ∷ []))
  primary_holds (IsPrimary.tag_of t o c {e = e} h i d j) names = finds_so (tag_one (word_of t) (between t.span.start c.span.end) e.expr names) (finds_before (t ∷ o ∷ []) (finds_behind (c ∷ []) (expr_holds d names)))
  primary_holds (IsPrimary.unit o c h i) names = finds_so (record_same (between o.span.start c.span.end) [] names) (finds_none (o ∷ c ∷ []))
  primary_holds (IsPrimary.paren o c h d i) names = finds_skip o (finds_behind (c ∷ []) (expr_holds d names))
  primary_holds (IsPrimary.fields o c {parts = parts} h d i) names = finds_so (record_same (between o.span.start c.span.end) parts names) (finds_skip o (finds_behind (c ∷ []) (parts_hold d names)))
  primary_holds (IsPrimary.extension o b c {parts = parts} {r = r} h d i j l) names = finds_so (extend_same (between o.span.start c.span.end) parts r.expr names) (finds_skip o (finds_both (parts_hold d names) (finds_skip b (finds_behind (c ∷ []) (expr_holds j names)))))
  primary_holds (IsPrimary.list o c {items = items} h d i) names = finds_so (list_same (between o.span.start c.span.end) items names) (finds_skip o (finds_behind (c ∷ []) (args_hold d names)))
  primary_holds (IsPrimary.block d) names = block_holds d names
  primary_holds (IsPrimary.prefix k o c {e = e} is h d i) names = finds_so (prefix_one (text_of k) (between k.span.start c.span.end) e.expr names) (finds_before (k ∷ o ∷ []) (finds_behind (c ∷ []) (expr_holds d names)))

  args_hold : {w : List Token} {es : List Expr} → IsArgs w es → HoldAll walk_of scoped es w
  args_hold IsArgs.no_args names = finds_none []
  args_hold (IsArgs.some_args d) names = some_hold d names

  some_hold : {w : List Token} {es : List Expr} → IsSome w es → HoldAll walk_of scoped es w
  some_hold (IsSome.first_arg {e = e} d) names = finds_so (same_alone walk_of (scoped e.expr names)) (expr_holds d names)
  some_hold (IsSome.next_arg s {es} {e} d h i) names = finds_so (all_more walk_of scoped es e.expr names) (finds_both (some_hold d names) (finds_skip s (expr_holds i names)))

  parts_hold : {w : List Token} {parts : List PartExpr} → IsParts w parts → HoldAll walk_part scoped_part parts w
  parts_hold (IsParts.first_part {part = part} d) names = finds_so (same_alone walk_part (scoped_part part names)) (part_holds d names)
  parts_hold (IsParts.next_part s {parts} {part} d h i) names = finds_so (all_more walk_part scoped_part parts part names) (finds_both (parts_hold d names) (finds_skip s (part_holds i names)))

  part_holds : {w : List Token} {part : PartExpr} → IsPart w part → (names : Names) → Finds (walk_part (scoped_part part names)) [] w
  part_holds (IsPart.set l q h i d) names = finds_so (found_part _ names) (finds_before (l ∷ q ∷ []) (expr_holds d names))

  pub block_holds : {w : List Token} {e : Part} → IsBlock w e → Holds e.expr w
  block_holds (IsBlock.braces o c {e = e} h d i j) names = finds_skip o (statements_hold d e.to e.expr _ (λ others. finds_behind (c ∷ []) (expr_holds i others)) names)

  statements_hold : {u : List Token} {ss : List Statement} → IsStatements u ss → (to : ℕ) (last : Expr) (w : List Token) → Holds last w → Holds (chain ss to last) (u ++ w)
  statements_hold IsStatements.nil to last w r = r
  statements_hold (IsStatements.let_in {u} {v} k x q s {ss} {e} d h i j l m) to last w r = chain_holds ss (var_statement k x e) to last u (k ∷ x ∷ q ∷ (v ++ s ∷ [])) w (statements_hold d to _ _ (var_holds (between k.span.start to) k x q s e.expr last (expr_holds l) r))
  statements_hold (IsStatements.plain {u} {v} s {ss} {e} d i j) to last w r = chain_holds ss (plain_statement e) to last u (v ++ s ∷ []) w (statements_hold d to _ _ (seq_holds (between e.from to) s e.expr last (expr_holds i) r))

  form_holds : {w : List Token} {e : Part} → IsForm w e → Holds e.expr w
  form_holds (IsForm.conditional k o c l {a = a} {d = d} {e = e} m h x i y j z) names = finds_so (if_same (between k.span.start e.to) a.expr d.expr e.expr names) (finds_before (k ∷ o ∷ []) (finds_both (expr_holds x names) (finds_skip c (finds_both (expr_holds y names) (finds_skip l (expr_holds z names))))))
  form_holds (IsForm.for_list k o x s c {e = e} {d = d} m h i j y l z) names = finds_so (for_list_same (between k.span.start d.to) (word_of x) e.expr d.expr names) (finds_before (k ∷ o ∷ x ∷ s ∷ []) (finds_both (expr_holds y names) (finds_skip c (expr_holds z (bind (word_of x) names)))))
  form_holds (IsForm.for_table k o x s t c {d = d} m h i j l n z) names = finds_so (for_table_same (between k.span.start d.to) (between k.span.start d.to) (word_of x) (word_of t) d.expr names) (finds_block k k.span.start refl (finds_before (o ∷ x ∷ s ∷ t ∷ c ∷ []) (expr_holds z (bind (word_of x) names))))
  form_holds (IsForm.where_holds k o c {a = a} {e = e} m h x i z) names = finds_so (where_pair (between k.span.start e.to) a.expr e.expr names) (finds_before (k ∷ o ∷ []) (finds_both (expr_holds x names) (finds_skip c (expr_holds z names))))
  form_holds (IsForm.insert k t s {e = e} m h i z) names = finds_so (insert_same (between k.span.start e.to) (word_of t) e.expr names) (finds_block k k.span.start refl (finds_before (t ∷ s ∷ []) (expr_holds z names)))
  form_holds (IsForm.update k h o c {change = change} {sets = sets} m x i j y l) names = finds_so (update_same (between k.span.start c.span.end) change.name change.table change.cond sets names) (finds_block k k.span.start refl (finds_both (change_holds x (bind change.name names)) (finds_before (h ∷ o ∷ []) (finds_behind (c ∷ []) (parts_hold y (bind change.name names))))))
  form_holds (IsForm.delete k {change = change} m x) names = finds_so (delete_same (between k.span.start change.to) change.name change.table change.cond names) (finds_block k k.span.start refl (change_holds x (bind change.name names)))
  form_holds (IsForm.switch k o c b d {e = e} {cases = cases} m h x i j y some l) names = finds_so (switch_same (between k.span.start d.span.end) e.expr cases.list cases.last names) (finds_before (k ∷ o ∷ []) (finds_both (expr_holds x names) (finds_before (c ∷ b ∷ []) (finds_behind (d ∷ []) (cases_hold y names)))))
  form_holds (IsForm.query k {u = u} {keys = keys} {b = b} m x y) names = finds_so (query_same (between k.span.start b.to) keys b.expr names) (finds_block k k.span.start refl (finds_before u (block_holds y names)))
  form_holds (IsForm.lambda k o c {u = u} {v = v} {params = params} {place = place} {b = b} m h x i y z) names =
      let lambda : LambdaExpr = record { params = params; place = place; body = b.expr } in
      finds_so (lambda_same (between k.span.start b.to) lambda names) (finds_lambda k (record { site = k.span.start; lambda = scoped_lambda lambda names }) refl (finds_skip o (finds_before u (finds_skip c (finds_before v (block_holds z (bind_all params names)))))))

  change_holds : {w : List Token} {change : Change} → IsChange w change → Holds change.cond w
  change_holds (IsChange.rows o x s t c h p q m i j k l n y d z) names = finds_before (o ∷ x ∷ s ∷ t ∷ c ∷ h ∷ p ∷ []) (finds_behind (q ∷ []) (expr_holds d names))

  cases_hold : {w : List Token} {cases : Cases} → IsCases w cases → HoldCases cases.list cases.last w
  cases_hold IsCases.no_case names = finds_none []
  cases_hold (IsCases.next_case {cases = cases} {case = case} d h i) names = next_hold cases.list cases.last case h (cases_hold d) (case_holds i) names
  cases_hold (IsCases.final_case k x a {cases = cases} {e = e} d h m i j y) names = final_hold cases.list cases.last k x a e h (cases_hold d) (expr_holds y) names

  case_holds : {w : List Token} {case : Case} → IsCase w case → (names : Names) → Finds (walk_case (scoped_case case names)) [] w
  case_holds (IsCase.named_case k t o x c a {e = e} m h i j l n d) names = finds_so (found_case (case_of t (Some (word_of x)) e) names) (finds_before (k ∷ t ∷ o ∷ x ∷ c ∷ a ∷ []) (expr_holds d (bind (word_of x) names)))
  case_holds (IsCase.unit_case k t a {e = e} m h i d) names = finds_so (found_case (case_of t None e) names) (finds_before (k ∷ t ∷ a ∷ []) (expr_holds d names))
