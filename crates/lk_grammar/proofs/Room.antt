-- Room for two more than the tokens suffices for an expression, and room for one more for a block.
use Rattle.std.proofs.Common.{ℕ, zero, suc, pred, ◌≤◌, List, [], ◌∷◌, ◌++◌, arith}
use Rattle.std.specs.Prelude.{codes}
use Rattle.lk_ast.specs.declared.expression.Expr.{Expr}
use Rattle.lk_ast.specs.declared.expression.PartExpr.{PartExpr}
use Rattle.lk_ast.specs.declared.expression.SortKey.{SortKey}
use Rattle.lk_ast.specs.declared.place.Word.{Word}
use Rattle.lk_ast.specs.declared.token.Token.{Token}
use Rattle.lk_read.specs.Reader.{Reader, give, bind, many}
use Rattle.lk_read.proofs.Laws.{Reads, many-reads}
use Rattle.lk_read.proofs.Room.{Lasts, Eats, Shortens, shortens, none-lasts, less, bind-lasts, eaten-lasts, next-lasts, turn-lasts, step-lasts, give-lasts, stop-lasts, when-lasts, given-lasts, bind-shortens, give-shortens, eat-eats, eat-shortens, when-eats, when-shortens, given-eats, end-lasts, end-shortens, many-lasts}
use Rattle.lk_rows.specs.Reading.{comma}
use Rattle.lk_grammar.specs.Expressions.{IsExpr, IsSum, IsForm, IsPostfix, IsParts, IsCases}
use Rattle.lk_parts.specs.Parts.{no_cases, plain_statement}
use Rattle.lk_grammar.specs.Reading.{names_turn, params_with, read_place, read_key, keys_turn, keys_with, order_with, operator_next, operator_turn, left_with, join_with, compare_turn, comparison_with, unary_with, args_turn, some_with, args_with, call_with, read_field, postfix_turn, postfix_next, postfix_with, tag_body_with, tag_with, part_with, parts_turn, parts_with, record_end_with, record_with, round_body_with, round_with, list_with, prefix_with, read_literal, read_name, let_with, statements_with, block_with, primary_with, if_with, list_loop_with, table_loop_with, for_with, where_with, insert_with, change_cond_with, change_with, update_with, delete_with, tag_case_with, last_case_with, cases_turn, case_next, switch_with, query_with, lambda_with, form_with, unary_over, product_over, sum_over, join_over, comparison_over, and_over, or_over, expr_at}
use Rattle.lk_parts.specs.declared.operators.Level.{Level}
use Rattle.lk_parts.specs.declared.operators.Level.TheVariants as level
use Rattle.lk_parts.specs.declared.part.Cases.{Cases}
use Rattle.lk_parts.specs.declared.part.Part.{Part}
use Rattle.lk_parts.specs.declared.part.Statement.{Statement}
use Rattle.lk_grammar.proofs.Sound.{unary_over-reads, product_over-reads, sum_over-reads, join_over-reads, comparison_over-reads, and_over-reads, expr_at-reads}
use Rattle.lk_grammar.proofs.SoundForms.{change-reads, tag_case-reads, last_case-reads, cases_turn-reads, form-reads}
use Rattle.lk_grammar.proofs.SoundLevels.{args-reads, join-reads, unary-reads, postfix-reads}
use Rattle.lk_grammar.proofs.SoundNames.{key-reads, keys-reads, params-reads, place-reads, order-reads}
use Rattle.lk_grammar.proofs.SoundPrimaries.{part-reads, parts_turn-reads, parts-reads, statements-reads, block-reads, primary-reads}

-- ---- names

names_turn-eats : (xs : List Word) → Eats (names_turn xs)
unfolding names_turn
names_turn-eats xs = eat-eats _ _ (λ s. end-shortens _ _)

names_turn-lasts : (n : ℕ) (xs : List Word) → Lasts n (names_turn xs)
unfolding names_turn
names_turn-lasts n xs = step-lasts n _ _ (λ s. end-lasts n _ _)

pub params-lasts : (n : ℕ) → Lasts n (params_with n)
unfolding params_with
params-lasts n = when-lasts n _ _ _ (give-lasts n []) (step-lasts n _ _ (λ x. many-lasts n comma names_turn names_turn-eats (names_turn-lasts n) n (omega arith) _))

pub place-lasts : (n : ℕ) → Lasts n read_place
unfolding read_place
place-lasts n = when-lasts n _ _ _ (end-lasts n _ _) (when-lasts n _ _ _ (end-lasts n _ _) (give-lasts n _))

key-lasts : (n : ℕ) → Lasts n read_key
unfolding read_key
key-lasts n = step-lasts n _ _ (λ l. when-lasts n _ _ _ (end-lasts n _ _) (give-lasts n _))

keys_turn-eats : (keys : List SortKey) → Eats (keys_turn keys)
unfolding keys_turn
keys_turn-eats keys = eat-eats _ _ (λ s. bind-shortens _ _ (shortens _ key-reads) (λ key. give-shortens _))

keys_turn-lasts : (n : ℕ) (keys : List SortKey) → Lasts n (keys_turn keys)
unfolding keys_turn
keys_turn-lasts n keys = step-lasts n _ _ (λ s. bind-lasts n _ _ (shortens _ key-reads) (key-lasts n) (λ key. give-lasts n _))

keys-lasts : (n : ℕ) → Lasts n (keys_with n)
unfolding keys_with
keys-lasts n = bind-lasts n _ _ (shortens _ key-reads) (key-lasts n) (λ key. many-lasts n comma keys_turn keys_turn-eats (keys_turn-lasts n) n (omega arith) (key ∷ []))

order-lasts : (n : ℕ) → Lasts n (order_with n)
unfolding order_with
order-lasts n = when-lasts n _ _ _ (step-lasts n _ _ (λ k. step-lasts n _ _ (λ o. bind-lasts n _ _ (shortens _ (keys-reads n)) (keys-lasts n) (λ keys. end-lasts n _ _)))) (give-lasts n [])

-- ---- operators

module _ (n : ℕ) (at : Level) (operand : Reader Part) (S : Shortens operand) (L : Lasts n operand) where
  operator_turn-eats : (a : Part) → Eats (operator_turn at operand a)
  unfolding operator_turn
  operator_turn-eats a = given-eats _ _ (eat-eats _ _ (λ s. bind-shortens _ _ S (λ b. give-shortens _)))

  operator_turn-lasts : (a : Part) → Lasts n (operator_turn at operand a)
  unfolding operator_turn
  operator_turn-lasts a = given-lasts n _ _ (step-lasts n _ _ (λ s. bind-lasts n _ _ S L (λ b. give-lasts n _)))

  left-lasts : Lasts n (left_with at operand n)
  unfolding left_with
  left-lasts = bind-lasts n _ _ S L (λ a. many-lasts n (operator_next at) (operator_turn at operand) operator_turn-eats operator_turn-lasts n (omega arith) a)

module _ (n : ℕ) (sum : Reader Part) (S : Reads sum IsSum) (L : Lasts n sum) where
  join-lasts : (m : ℕ) → m ≤ n → Lasts m (join_with sum m)
  unfolding join_with operator_turn
  join-lasts zero le = none-lasts _
  join-lasts (suc m) le = bind-lasts (suc m) _ _ (shortens sum S) (less (suc m) n sum le L)
      (λ a. when-lasts (suc m) _ _ _ (given-lasts (suc m) _ _ (next-lasts m _ _ (λ s. bind-lasts m _ _ (shortens _ (join-reads sum S m)) (join-lasts m (omega arith)) (λ b. give-lasts m _)))) (give-lasts (suc m) a))

comparison-lasts : (n : ℕ) (join : Reader Part) → Shortens join → Lasts n join → Lasts n (comparison_with join)
unfolding comparison_with compare_turn
comparison-lasts n join S L = bind-lasts n _ _ S L (λ a. when-lasts n _ _ _ (given-lasts n _ _ (step-lasts n _ _ (λ s. bind-lasts n _ _ S L (λ b. give-lasts n _)))) (give-lasts n a))

module _ (n : ℕ) (form postfix : Reader Part) (F : Reads form IsForm) (P : Reads postfix IsPostfix) (L : Lasts n form) (M : Lasts n postfix) where
  unary-lasts : (m : ℕ) → m ≤ n → Lasts m (unary_with form postfix m)
  unfolding unary_with
  unary-lasts zero le = none-lasts _
  unary-lasts (suc m) le = when-lasts (suc m) _ _ _
      (next-lasts m _ _ (λ s. bind-lasts m _ _ (shortens _ (unary-reads form postfix F P m)) (unary-lasts m (omega arith)) (λ e. give-lasts m _)))
      (when-lasts (suc m) _ _ _ (less (suc m) n form le L) (less (suc m) n postfix le M))

-- ---- the readers over one reader of expressions, each of which eats a token before it calls that one

module _ (expr : Reader Part) (E : Reads expr IsExpr) (n : ℕ) (L : Lasts (pred n) expr) where
  then_lasts : {Y : Type 0} (f : Part → Reader Y) → ((e : Part) → Lasts (pred n) (f e)) → Lasts (pred n) (bind expr f)
  then_lasts f h = bind-lasts (pred n) expr f (shortens expr E) L h

  then_shortens : {Y : Type 0} (f : Part → Reader Y) → ((e : Part) → Shortens (f e)) → Shortens (bind expr f)
  then_shortens f h = bind-shortens expr f (shortens expr E) h

  -- an expression, and what is made of it
  made_lasts : {Y : Type 0} (f : Part → Y) → Lasts (pred n) (bind expr (λ e. give (f e)))
  made_lasts f = then_lasts _ (λ e. give-lasts (pred n) (f e))

  -- ---- calls and fields

  args_turn-eats : (es : List Expr) → Eats (args_turn expr es)
  unfolding args_turn
  args_turn-eats es = eat-eats _ _ (λ s. then_shortens _ (λ e. give-shortens _))

  args_turn-lasts : (es : List Expr) → Lasts n (args_turn expr es)
  unfolding args_turn
  args_turn-lasts es = turn-lasts n _ _ (λ s. made_lasts _)

  args-lasts : (close : List ℕ) → Lasts (pred n) (args_with close expr n)
  unfolding args_with some_with
  args-lasts close = when-lasts (pred n) _ _ _ (give-lasts (pred n) []) (then_lasts _ (λ e. less (pred n) n _ (omega arith) (many-lasts n comma (args_turn expr) args_turn-eats args_turn-lasts n (omega arith) (e.expr ∷ []))))

  args-shortens : (close : List ℕ) → Shortens (args_with close expr n)
  args-shortens close = shortens _ (args-reads expr E n close)

  postfix_turn-eats : (e : Part) → Eats (postfix_turn expr n e)
  unfolding postfix_turn call_with read_field
  postfix_turn-eats e = when-eats _ _ _
      (given-eats _ _ (eat-eats _ _ (λ o. bind-shortens _ _ (args-shortens (codes ")")) (λ args. end-shortens _ _))))
      (eat-eats _ _ (λ d. end-shortens _ _))

  postfix_turn-lasts : (e : Part) → Lasts n (postfix_turn expr n e)
  unfolding postfix_turn call_with read_field
  postfix_turn-lasts e = when-lasts n _ _ _
      (given-lasts n _ _ (turn-lasts n _ _ (λ o. bind-lasts (pred n) _ _ (args-shortens (codes ")")) (args-lasts (codes ")")) (λ args. end-lasts (pred n) _ _))))
      (step-lasts n _ _ (λ d. end-lasts n _ _))

  -- ---- primaries

  tag-lasts : Lasts n (tag_with expr)
  unfolding tag_with tag_body_with
  tag-lasts = turn-lasts n _ _ (λ t. when-lasts (pred n) _ _ _
      (step-lasts (pred n) _ _ (λ o. when-lasts (pred n) _ _ _ (end-lasts (pred n) _ _) (then_lasts _ (λ e. end-lasts (pred n) _ _))))
      (give-lasts (pred n) _))

  part-lasts : Lasts (pred n) (part_with expr)
  unfolding part_with
  part-lasts = step-lasts (pred n) _ _ (λ l. step-lasts (pred n) _ _ (λ q. made_lasts _))

  parts_turn-eats : (parts : List PartExpr) → Eats (parts_turn expr parts)
  unfolding parts_turn
  parts_turn-eats parts = eat-eats _ _ (λ s. bind-shortens _ _ (shortens _ (part-reads expr E)) (λ part. give-shortens _))

  parts_turn-lasts : (parts : List PartExpr) → Lasts n (parts_turn expr parts)
  unfolding parts_turn
  parts_turn-lasts parts = turn-lasts n _ _ (λ s. bind-lasts (pred n) _ _ (shortens _ (part-reads expr E)) part-lasts (λ part. give-lasts (pred n) _))

  more_parts-lasts : (parts : List PartExpr) → Lasts (pred n) (many comma (parts_turn expr) n parts)
  more_parts-lasts parts = less (pred n) n _ (omega arith) (many-lasts n comma (parts_turn expr) parts_turn-eats parts_turn-lasts n (omega arith) parts)

  more_parts-shortens : (parts : List PartExpr) → Shortens (many comma (parts_turn expr) n parts)
  more_parts-shortens parts = shortens _ (many-reads comma (parts_turn expr) IsParts (parts_turn-reads expr E) n parts)

  parts-lasts : Lasts (pred n) (parts_with expr n)
  unfolding parts_with
  parts-lasts = bind-lasts (pred n) _ _ (shortens _ (part-reads expr E)) part-lasts (λ part. more_parts-lasts (part ∷ []))

  record_end-lasts : (o : Token) (parts : List PartExpr) → Lasts (pred n) (record_end_with expr o parts)
  unfolding record_end_with
  record_end-lasts o parts = when-lasts (pred n) _ _ _ (step-lasts (pred n) _ _ (λ b. then_lasts _ (λ r. end-lasts (pred n) _ _))) (end-lasts (pred n) _ _)

  record-lasts : (o : Token) (l : Part) → Lasts (pred n) (record_with expr n o l)
  unfolding record_with
  record-lasts o l = given-lasts (pred n) _ _ (step-lasts (pred n) _ _ (λ q. then_lasts _ (λ e. bind-lasts (pred n) _ _ (more_parts-shortens _) (more_parts-lasts _) (record_end-lasts o))))

  round-lasts : Lasts n (round_with expr n)
  unfolding round_with round_body_with
  round-lasts = turn-lasts n _ _ (λ o. when-lasts (pred n) _ _ _ (end-lasts (pred n) _ _) (then_lasts _ (λ e. when-lasts (pred n) _ _ _ (record-lasts o e) (end-lasts (pred n) _ _))))

  list-lasts : Lasts n (list_with expr n)
  unfolding list_with
  list-lasts = turn-lasts n _ _ (λ o. bind-lasts (pred n) _ _ (args-shortens (codes "]")) (args-lasts (codes "]")) (λ items. end-lasts (pred n) _ _))

  prefix-lasts : Lasts n (prefix_with expr)
  unfolding prefix_with
  prefix-lasts = turn-lasts n _ _ (λ k. step-lasts (pred n) _ _ (λ o. then_lasts _ (λ e. end-lasts (pred n) _ _)))

  -- ---- blocks

  let-eats : Eats (let_with expr)
  unfolding let_with
  let-eats = eat-eats _ _ (λ k. eat-shortens _ _ (λ x. eat-shortens _ _ (λ q. then_shortens _ (λ e. end-shortens _ _))))

  let-lasts : Lasts n (let_with expr)
  unfolding let_with
  let-lasts = turn-lasts n _ _ (λ k. step-lasts (pred n) _ _ (λ x. step-lasts (pred n) _ _ (λ q. then_lasts _ (λ e. end-lasts (pred n) _ _))))

  statements-lasts : (m b : ℕ) (ss : List Statement) → b ≤ m → b ≤ pred n → Lasts b (statements_with expr m ss)
  unfolding statements_with
  statements-lasts m zero ss le fits = none-lasts (statements_with expr m ss)
  statements-lasts zero (suc b) ss le fits = absurd (omega arith)
  statements-lasts (suc m) (suc b) ss le fits = when-lasts (suc b) _ _ _
      (eaten-lasts b _ _ let-eats (less (suc b) n (let_with expr) (omega arith) let-lasts) (λ s. statements-lasts m b (ss ++ s ∷ []) (omega arith) (omega arith)))
      (bind-lasts (suc b) _ _ (shortens expr E) (less (suc b) (pred n) expr fits L) (λ e. when-lasts (suc b) _ _ _ (next-lasts b _ _ (λ s. statements-lasts m b (ss ++ plain_statement e ∷ []) (omega arith) (omega arith))) (give-lasts (suc b) _)))

  pub block-lasts : Lasts n (block_with expr n)
  unfolding block_with
  block-lasts = turn-lasts n _ _ (λ o. bind-lasts (pred n) _ _ (shortens _ (statements-reads expr E n [])) (statements-lasts n (pred n) [] (omega arith) (omega arith)) (λ body. end-lasts (pred n) _ _))

  primary-lasts : Lasts n (primary_with expr n)
  unfolding primary_with read_literal read_name
  primary-lasts = when-lasts n _ _ _ (end-lasts n _ _)
      (when-lasts n _ _ _ (end-lasts n _ _)
      (when-lasts n _ _ _ tag-lasts
      (when-lasts n _ _ _ round-lasts
      (when-lasts n _ _ _ list-lasts
      (when-lasts n _ _ _ block-lasts
      (when-lasts n _ _ _ prefix-lasts (stop-lasts n)))))))

  -- ---- forms

  if-lasts : Lasts n (if_with expr)
  unfolding if_with
  if-lasts = turn-lasts n _ _ (λ k. step-lasts (pred n) _ _ (λ o. then_lasts _ (λ a. step-lasts (pred n) _ _ (λ c. then_lasts _ (λ d. step-lasts (pred n) _ _ (λ l. made_lasts _))))))

  for-lasts : Lasts n (for_with expr)
  unfolding for_with list_loop_with table_loop_with
  for-lasts = turn-lasts n _ _ (λ k. step-lasts (pred n) _ _ (λ o. step-lasts (pred n) _ _ (λ x. when-lasts (pred n) _ _ _
      (step-lasts (pred n) _ _ (λ s. then_lasts _ (λ e. step-lasts (pred n) _ _ (λ c. made_lasts _))))
      (step-lasts (pred n) _ _ (λ s. step-lasts (pred n) _ _ (λ t. step-lasts (pred n) _ _ (λ c. made_lasts _)))))))

  where-lasts : Lasts n (where_with expr)
  unfolding where_with
  where-lasts = turn-lasts n _ _ (λ k. step-lasts (pred n) _ _ (λ o. then_lasts _ (λ a. step-lasts (pred n) _ _ (λ c. made_lasts _))))

  insert-lasts : Lasts n (insert_with expr)
  unfolding insert_with
  insert-lasts = turn-lasts n _ _ (λ k. step-lasts (pred n) _ _ (λ t. step-lasts (pred n) _ _ (λ s. made_lasts _)))

  change-lasts : Lasts (pred n) (change_with expr)
  unfolding change_with change_cond_with
  change-lasts = step-lasts (pred n) _ _ (λ o. step-lasts (pred n) _ _ (λ x. step-lasts (pred n) _ _ (λ s. step-lasts (pred n) _ _ (λ t. step-lasts (pred n) _ _ (λ c.
      step-lasts (pred n) _ _ (λ h. step-lasts (pred n) _ _ (λ p. then_lasts _ (λ a. end-lasts (pred n) _ _))))))))

  update-lasts : Lasts n (update_with expr n)
  unfolding update_with
  update-lasts = turn-lasts n _ _ (λ k. bind-lasts (pred n) _ _ (shortens _ (change-reads expr E)) change-lasts (λ change. step-lasts (pred n) _ _ (λ h. step-lasts (pred n) _ _ (λ o.
      bind-lasts (pred n) _ _ (shortens _ (parts-reads expr E n)) parts-lasts (λ sets. end-lasts (pred n) _ _)))))

  delete-lasts : Lasts n (delete_with expr)
  unfolding delete_with
  delete-lasts = turn-lasts n _ _ (λ k. bind-lasts (pred n) _ _ (shortens _ (change-reads expr E)) change-lasts (λ change. give-lasts (pred n) _))

  tag_case-lasts : (t : Token) → Lasts (pred n) (tag_case_with expr t)
  unfolding tag_case_with
  tag_case-lasts t = when-lasts (pred n) _ _ _
      (step-lasts (pred n) _ _ (λ o. step-lasts (pred n) _ _ (λ x. step-lasts (pred n) _ _ (λ c. step-lasts (pred n) _ _ (λ a. made_lasts _)))))
      (step-lasts (pred n) _ _ (λ a. made_lasts _))

  last_case-lasts : (cases : Cases) → Lasts (pred n) (last_case_with expr cases)
  unfolding last_case_with
  last_case-lasts cases = step-lasts (pred n) _ _ (λ x. step-lasts (pred n) _ _ (λ a. made_lasts _))

  cases_turn-eats : (cases : Cases) → Eats (cases_turn expr cases)
  unfolding cases_turn
  cases_turn-eats cases = given-eats _ _ (eat-eats _ _ (λ k. when-shortens _ _ _
      (eat-shortens _ _ (λ t. bind-shortens _ _ (shortens _ (tag_case-reads expr E t)) (λ case. give-shortens _)))
      (shortens _ (last_case-reads expr E cases))))

  cases_turn-lasts : (cases : Cases) → Lasts n (cases_turn expr cases)
  unfolding cases_turn
  cases_turn-lasts cases = given-lasts n _ _ (turn-lasts n _ _ (λ k. when-lasts (pred n) _ _ _
      (step-lasts (pred n) _ _ (λ t. bind-lasts (pred n) _ _ (shortens _ (tag_case-reads expr E t)) (tag_case-lasts t) (λ case. give-lasts (pred n) _)))
      (last_case-lasts cases)))

  all_cases-lasts : Lasts (pred n) (many case_next (cases_turn expr) n no_cases)
  all_cases-lasts = less (pred n) n _ (omega arith) (many-lasts n case_next (cases_turn expr) cases_turn-eats cases_turn-lasts n (omega arith) no_cases)

  all_cases-shortens : Shortens (many case_next (cases_turn expr) n no_cases)
  all_cases-shortens = shortens _ (many-reads case_next (cases_turn expr) IsCases (cases_turn-reads expr E) n no_cases)

  switch-lasts : Lasts n (switch_with expr n)
  unfolding switch_with
  switch-lasts = turn-lasts n _ _ (λ k. step-lasts (pred n) _ _ (λ o. then_lasts _ (λ e. step-lasts (pred n) _ _ (λ c. step-lasts (pred n) _ _ (λ b.
      bind-lasts (pred n) _ _ all_cases-shortens all_cases-lasts (λ cases. given-lasts (pred n) _ _ (end-lasts (pred n) _ _)))))))

  behind_block-lasts : {Y : Type 0} (f : Part → Y) → Lasts (pred n) (bind (block_with expr n) (λ b. give (f b)))
  behind_block-lasts f = bind-lasts (pred n) _ _ (shortens _ (block-reads expr E n)) (less (pred n) n _ (omega arith) block-lasts) (λ b. give-lasts (pred n) (f b))

  query-lasts : Lasts n (query_with expr n)
  unfolding query_with
  query-lasts = turn-lasts n _ _ (λ k. bind-lasts (pred n) _ _ (shortens _ (order-reads n)) (less (pred n) n _ (omega arith) (order-lasts n)) (λ keys. behind_block-lasts _))

  lambda-lasts : Lasts n (lambda_with expr n)
  unfolding lambda_with
  lambda-lasts = turn-lasts n _ _ (λ k. step-lasts (pred n) _ _ (λ o. bind-lasts (pred n) _ _ (shortens _ (params-reads n)) (less (pred n) n _ (omega arith) (params-lasts n)) (λ params. step-lasts (pred n) _ _ (λ c.
      bind-lasts (pred n) _ _ (shortens _ place-reads) (place-lasts (pred n)) (λ place. behind_block-lasts _)))))

  form-lasts : Lasts n (form_with expr n)
  unfolding form_with
  form-lasts = when-lasts n _ _ _ if-lasts
      (when-lasts n _ _ _ for-lasts
      (when-lasts n _ _ _ where-lasts
      (when-lasts n _ _ _ insert-lasts
      (when-lasts n _ _ _ update-lasts
      (when-lasts n _ _ _ delete-lasts
      (when-lasts n _ _ _ switch-lasts
      (when-lasts n _ _ _ query-lasts lambda-lasts)))))))

  -- ---- the levels

  postfix_is : Reads (postfix_with (primary_with expr n) expr n) IsPostfix
  postfix_is = postfix-reads expr E n (primary_with expr n) (primary-reads expr E n)

  postfix-lasts : Lasts n (postfix_with (primary_with expr n) expr n)
  unfolding postfix_with
  postfix-lasts = bind-lasts n _ _ (shortens _ (primary-reads expr E n)) primary-lasts (λ e. many-lasts n postfix_next (postfix_turn expr n) postfix_turn-eats postfix_turn-lasts n (omega arith) e)

  unary_over-lasts : Lasts n (unary_over expr n n)
  unfolding unary_over
  unary_over-lasts = unary-lasts n _ _ (form-reads expr E n) postfix_is form-lasts postfix-lasts n (omega arith)

  product_over-lasts : Lasts n (product_over expr n)
  unfolding product_over
  product_over-lasts = left-lasts n level.Product _ (shortens _ (unary_over-reads expr E n n)) unary_over-lasts

  sum_over-lasts : Lasts n (sum_over expr n)
  unfolding sum_over
  sum_over-lasts = left-lasts n level.Sum _ (shortens _ (product_over-reads expr E n)) product_over-lasts

  join_over-lasts : Lasts n (join_over expr n n)
  unfolding join_over
  join_over-lasts = join-lasts n _ (sum_over-reads expr E n) sum_over-lasts n (omega arith)

  comparison_over-lasts : Lasts n (comparison_over expr n)
  unfolding comparison_over
  comparison_over-lasts = comparison-lasts n _ (shortens _ (join_over-reads expr E n n)) join_over-lasts

  and_over-lasts : Lasts n (and_over expr n)
  unfolding and_over
  and_over-lasts = left-lasts n level.And _ (shortens _ (comparison_over-reads expr E n)) comparison_over-lasts

  or_over-lasts : Lasts n (or_over expr n)
  unfolding or_over
  or_over-lasts = left-lasts n level.Or _ (shortens _ (and_over-reads expr E n)) and_over-lasts

-- ---- the knot

pub expr_at-lasts : (n : ℕ) → Lasts (pred n) (expr_at n)
unfolding expr_at
expr_at-lasts zero = none-lasts (expr_at zero)
expr_at-lasts (suc n) = or_over-lasts (expr_at n) (expr_at-reads n) n (expr_at-lasts n)
