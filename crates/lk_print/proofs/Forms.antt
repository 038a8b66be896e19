-- What is printed of the forms but for switches.
use Rattle.std.proofs.Common.{◌≡◌, List, [], ◌∷◌, ◌++◌, map, refl, sym, ap, ◌∙◌, append_assoc}
use Rattle.std.specs.Prelude.{codes}
use Rattle.lk_ast.specs.declared.expression.Expr.{Expr}
use Rattle.lk_ast.specs.declared.expression.LambdaExpr.{LambdaExpr}
use Rattle.lk_ast.specs.declared.expression.Node.TheOpen.{Node-F}
use Rattle.lk_ast.specs.declared.expression.Node.TheVariants as node
use Rattle.lk_ast.specs.declared.expression.PartExpr.{PartExpr}
use Rattle.lk_ast.specs.declared.expression.SortKey.{SortKey}
use Rattle.lk_ast.specs.declared.place.Loc.{Loc}
use Rattle.lk_ast.specs.declared.place.Span.{Span}
use Rattle.lk_ast.specs.declared.place.Word.{Word as Named}
use Rattle.lk_ast.specs.declared.token.Token.{Token}
use Rattle.lk_ast.specs.declared.token.TokenKind.TheVariants.{Word, Sign}
use Rattle.lk_read.specs.Kinds.{word_of}
use Rattle.lk_grammar.specs.Expressions.{IsForm, IsChange}
use Rattle.lk_parts.specs.Parts.{if_form, list_loop, table_loop, where_form, insert_form, change_of, update_form, delete_form, query_form, lambda_form, between}
use Rattle.lk_parts.specs.declared.part.Change.{Change}
use Rattle.lk_print.specs.Bare.{bare, bare_word}
use Rattle.lk_print.specs.Printed.{Kinds, Form, ChangeForm, form_of, separated, in_round, name_kind, names as names_kinds, place as place_kinds, order, compound, print_part}
use Rattle.lk_print.proofs.Goods.{Good, constant, good_append, good_round, good_braces}
use Rattle.lk_print.proofs.Levels.{of_node, same_of, form_is, bare_lambda, bare_lambda_is, bare_part, bare_change, bare_change_is, change_with, print_lambda_is, print_change_is, scoped_lambda_is, scoped_change_is}
use Rattle.lk_print.proofs.Lists.{Each}
use Rattle.lk_print.proofs.Meant.{Written, body_block, compound_written, form_expr, primary_expr}
use Rattle.lk_print.proofs.Primaries.{IsNamed, named_token, bare_name, WrittenPart, parts_written, parts_good, all_parts_meant}
use Rattle.lk_print.proofs.Spelled.{Spelt, token, spelt_none, spelt_cons, spelt_append, spelt_so, spelt_as, spelt_round}
use Rattle.lk_print.proofs.Params.{WrittenName, params_written, params_good, bound_same, place_written, place_good, WrittenKey, order_written, order_good}
use Rattle.lk_scope.specs.Names.{Names, bind, bind_all}
use Rattle.lk_scope.specs.Scoped.{scoped, all_in, scoped_lambda, scoped_part, scoped_change}

pub if_written : (names : Names) (span : Span) (c d e : Expr) → Written names c → Written names d → Written names e → Written names (of_node span (node.If c d e))
if_written names span c d e p q r = compound_written names (of_node span (node.If c d e)) _ (form_is span (node.If c d e) (Node-F.If c d e) (node.rolls-If c d e)) (constant refl (good_append (in_round (form_of c).alone) (good_round _ p.good_alone) (good_append (form_of d).part q.good_part (constant refl r.good_part)))) (spelt_cons (λ k. spelt_round (form_of c).alone p.alone (λ o h t x. spelt_append (form_of d).part q.part (λ u y. spelt_cons (λ l. spelt_so r.part (λ v z. record {
  part = if_form (token k (Word (codes "if"))) x.part y.part z.part;
  is = form_expr (IsForm.conditional (token k (Word (codes "if"))) (token o (Sign (codes "("))) (token h (Sign (codes ")"))) (token l (Word (codes "else"))) refl refl x.is refl (primary_expr y.is) refl (primary_expr z.is));
  same = same_of names _ span _ (node.If c d e) (Node-F.If x.part.expr y.part.expr z.part.expr) (Node-F.If (scoped x.part.expr names) (scoped y.part.expr names) (scoped z.part.expr names)) (Node-F.If c d e) (node.rolls-If _ _ _) (sym (node.rolls-If _ _ _)) (node.rolls-If c d e) (λ i. Node-F.If (x.same i) (y.same i) (z.same i));
}))))))

pub where_written : (names : Names) (span : Span) (c e : Expr) → Written names c → Written names e → Written names (of_node span (node.Where c e))
where_written names span c e p r = compound_written names (of_node span (node.Where c e)) _ (form_is span (node.Where c e) (Node-F.Where c e) (node.rolls-Where c e)) (constant refl (good_append (in_round (form_of c).alone) (good_round _ p.good_alone) r.good_part)) (spelt_cons (λ k. spelt_round (form_of c).alone p.alone (λ o h t x. spelt_so r.part (λ v z. record {
  part = where_form (token k (Word (codes "where"))) x.part z.part;
  is = form_expr (IsForm.where_holds (token k (Word (codes "where"))) (token o (Sign (codes "("))) (token h (Sign (codes ")"))) refl refl x.is refl (primary_expr z.is));
  same = same_of names _ span _ (node.Where c e) (Node-F.Where x.part.expr z.part.expr) (Node-F.Where (scoped x.part.expr names) (scoped z.part.expr names)) (Node-F.Where c e) (node.rolls-Where _ _) (sym (node.rolls-Where _ _)) (node.rolls-Where c e) (λ i. Node-F.Where (x.same i) (z.same i));
}))))

pub insert_written : (names : Names) (span : Span) (t : Named) (e : Expr) → IsNamed t.text → Written names e → Written names (of_node span (node.Insert t e))
insert_written names span t e h r = compound_written names (of_node span (node.Insert t e)) _ (form_is span (node.Insert t e) (Node-F.Insert t e) (node.rolls-Insert t e)) (constant refl (Each.also h.good (constant refl r.good_part))) (spelt_cons (λ k. spelt_cons (λ at. spelt_cons (λ s. spelt_so r.part (λ v z. record {
  part = insert_form (token k (Word (codes "insert"))) (token at (name_kind t)) z.part;
  is = form_expr (IsForm.insert (token k (Word (codes "insert"))) (token at (name_kind t)) (token s (Word (codes "values"))) refl (named_token at t.text h) refl (primary_expr z.is));
  same = same_of names _ span _ (node.Insert t e) (Node-F.Insert _ z.part.expr) (Node-F.Insert _ (scoped z.part.expr names)) (Node-F.Insert t e) (node.rolls-Insert _ _) (sym (node.rolls-Insert _ _)) (node.rolls-Insert t e) (λ i. Node-F.Insert (bare_name at t i) (z.same i));
})))))

pub list_loop_written : (names : Names) (span : Span) (x : Named) (e d : Expr) → IsNamed x.text → Written names e → Written (bind x names) d → Written names (of_node span (node.ForList x e d))
unfolding word_of
list_loop_written names span x e d h p r = compound_written names (of_node span (node.ForList x e d)) _ (form_is span (node.ForList x e d) (Node-F.ForList x e d) (node.rolls-ForList x e d)) (constant refl (good_append (in_round (name_kind x ∷ Sign (codes "<-") ∷ (form_of e).part)) (good_round _ (Each.also h.good (constant refl p.good_part))) r.good_part)) (spelt_as regrouped (spelt_cons (λ k. spelt_cons (λ o. spelt_cons (λ at. spelt_cons (λ s. spelt_append (form_of e).part p.part (λ u y. spelt_cons (λ c. spelt_so r.part (λ v z. record {
  part = list_loop (token k (Word (codes "for"))) (token at (name_kind x)) y.part z.part;
  is = form_expr (IsForm.for_list (token k (Word (codes "for"))) (token o (Sign (codes "("))) (token at (name_kind x)) (token s (Sign (codes "<-"))) (token c (Sign (codes ")"))) refl refl (named_token at x.text h) refl (primary_expr y.is) refl (primary_expr z.is));
  same = same_of names _ span _ (node.ForList x e d) (Node-F.ForList _ y.part.expr z.part.expr) (Node-F.ForList _ (scoped y.part.expr names) (scoped z.part.expr (bind x names))) (Node-F.ForList x e d) (node.rolls-ForList _ _ _) (sym (node.rolls-ForList _ _ _)) (node.rolls-ForList x e d) (λ i. Node-F.ForList (bare_name at x i) (y.same i) (z.same i));
})))))))))
  where
    regrouped : Word (codes "for") ∷ (in_round (name_kind x ∷ Sign (codes "<-") ∷ (form_of e).part) ++ (form_of d).part) ≡ Word (codes "for") ∷ Sign (codes "(") ∷ name_kind x ∷ Sign (codes "<-") ∷ ((form_of e).part ++ Sign (codes ")") ∷ (form_of d).part)
    regrouped = ap (λ z. Word (codes "for") ∷ Sign (codes "(") ∷ name_kind x ∷ Sign (codes "<-") ∷ z) (append_assoc (form_of e).part (Sign (codes ")") ∷ []) (form_of d).part)

table_form : (s : Span) (t : Named) → form_of (of_node s (node.Table t)) ≡ record { alone = name_kind t ∷ []; part = name_kind t ∷ []; inside = name_kind t ∷ [] }
table_form s t = form_is s (node.Table t) (Node-F.Table t) (node.rolls-Table t)

pub table_loop_written : (names : Names) (span place : Span) (x t : Named) (d : Expr) → IsNamed x.text → IsNamed t.text → Written (bind x names) d → Written names (of_node span (node.ForTable x (of_node place (node.Table t)) d))
unfolding word_of
table_loop_written names span place x t d h g r = compound_written names (of_node span (node.ForTable x (of_node place (node.Table t)) d)) _ (form_is span _ (Node-F.ForTable x (of_node place (node.Table t)) d) (node.rolls-ForTable x (of_node place (node.Table t)) d) ∙ ap (λ (f : Form). compound (Word (codes "for") ∷ (in_round (name_kind x ∷ Sign (codes "<--") ∷ f.alone) ++ (form_of d).part))) (table_form place t)) (constant refl (good_append (in_round (name_kind x ∷ Sign (codes "<--") ∷ name_kind t ∷ [])) (good_round _ (Each.also h.good (constant refl (Each.also g.good Each.none)))) r.good_part)) (spelt_cons (λ k. spelt_cons (λ o. spelt_cons (λ at. spelt_cons (λ s. spelt_cons (λ of. spelt_cons (λ c. spelt_so r.part (λ v z. record {
  part = table_loop (token k (Word (codes "for"))) (token at (name_kind x)) (token of (name_kind t)) z.part;
  is = form_expr (IsForm.for_table (token k (Word (codes "for"))) (token o (Sign (codes "("))) (token at (name_kind x)) (token s (Sign (codes "<--"))) (token of (name_kind t)) (token c (Sign (codes ")"))) refl refl (named_token at x.text h) refl (named_token of t.text g) refl (primary_expr z.is));
  same = same_of names _ span _ (node.ForTable x (of_node place (node.Table t)) d)
      (Node-F.ForTable (word_of (token at (name_kind x))) (of_node (between k.start z.part.to) (node.Table (word_of (token of (name_kind t))))) z.part.expr)
      (Node-F.ForTable (word_of (token at (name_kind x))) (scoped (of_node (between k.start z.part.to) (node.Table (word_of (token of (name_kind t))))) names) (scoped z.part.expr (bind x names)))
      (Node-F.ForTable x (of_node place (node.Table t)) d) (node.rolls-ForTable _ _ _) (sym (node.rolls-ForTable _ _ _)) (node.rolls-ForTable x (of_node place (node.Table t)) d)
      (λ i. Node-F.ForTable (bare_name at x i) (same_of names (between k.start z.part.to) place _ (node.Table t) (Node-F.Table (word_of (token of (name_kind t)))) (Node-F.Table (word_of (token of (name_kind t)))) (Node-F.Table t) (node.rolls-Table _) (sym (node.rolls-Table _)) (node.rolls-Table t) (ap (λ y. Node-F.Table y) (bare_name of t)) i) (z.same i));
}))))))))

pub query_written : (names : Names) (span : Span) (keys : List SortKey) (e : Expr) → Each WrittenKey keys → Written names e → Written names (of_node span (node.Query keys e))
query_written names span keys e each r = compound_written names (of_node span (node.Query keys e)) _ (form_is span (node.Query keys e) (Node-F.Query keys e) (node.rolls-Query keys e)) (constant refl (good_append (order keys) (order_good keys each) (good_braces _ r.good_inside))) (spelt_cons (λ k. spelt_append (order keys) (order_written keys each) (λ u m. spelt_so (body_block names e r) (λ v b. record {
  part = query_form (token k (Word (codes "query"))) m.x b.part;
  is = form_expr (IsForm.query (token k (Word (codes "query"))) refl m.is b.is);
  same = same_of names _ span _ (node.Query keys e) (Node-F.Query m.x b.part.expr) (Node-F.Query m.x (scoped b.part.expr names)) (Node-F.Query keys e) (node.rolls-Query _ _) (sym (node.rolls-Query _ _)) (node.rolls-Query keys e) (λ i. Node-F.Query (m.same i) (b.same i));
}))))

-- ---- lambdas

pub lambda_written : (names : Names) (span : Span) (params : List Named) (place : Loc) (e : Expr) → Each WrittenName params → Written (bind_all params names) e → Written names (of_node span (node.Lambda (record { params = params; place = place; body = e })))
lambda_written names span params place e each r = compound_written names (of_node span (node.Lambda lambda)) _ (form_is span (node.Lambda lambda) (Node-F.Lambda lambda) (node.rolls-Lambda lambda) ∙ ap (λ z. compound (Word (codes "fun") ∷ z)) (print_lambda_is lambda)) (constant refl (good_append (in_round (names_kinds params)) (good_round _ (params_good params each)) (good_append (place_kinds place) (place_good place) (good_braces _ r.good_inside)))) (spelt_cons (λ k. spelt_round (names_kinds params) (params_written params each) (λ o c u m. spelt_append (place_kinds place) (place_written place) (λ v p. spelt_so (body_block (bind_all params names) e r) (λ w b.
    let made : LambdaExpr = record { params = m.x; place = place; body = b.part.expr } in
    record {
      part = lambda_form (token k (Word (codes "fun"))) m.x place b.part;
      is = form_expr (IsForm.lambda (token k (Word (codes "fun"))) (token o (Sign (codes "("))) (token c (Sign (codes ")"))) refl refl m.is refl p b.is);
      same = same_of names _ span _ (node.Lambda lambda) (Node-F.Lambda made) (Node-F.Lambda (scoped_lambda made names)) (Node-F.Lambda lambda) (node.rolls-Lambda _) (sym (node.rolls-Lambda _)) (node.rolls-Lambda lambda)
          (ap (λ z. Node-F.Lambda z) (ap bare_lambda (scoped_lambda_is made names) ∙ bare_lambda_is _ ∙ (λ i. record { params = m.same i; place = place; body = (ap (λ inner. bare (scoped b.part.expr inner)) (bound_same m.x params names m.same) ∙ b.same) i }) ∙ sym (bare_lambda_is lambda)));
    })))))
  where
    lambda : LambdaExpr
    lambda = record { params = params; place = place; body = e }

-- ---- changes

-- (x <-- t) where (c)
record ReadsRows (names : Names) (x t : Named) (c : Expr) (w : List Token) : Type 0 where
  change : Change
  is : IsChange w change
  name : bare_word change.name ≡ bare_word x
  table : bare_word change.table ≡ bare_word t
  cond : bare (scoped change.cond (bind x names)) ≡ bare c
  bound : (e : Expr) → scoped e (bind change.name names) ≡ scoped e (bind x names)
  sets : (es : List PartExpr) → all_in (bind change.name names) (map scoped_part es) ≡ all_in (bind x names) (map scoped_part es)

rows_kinds : Named → Named → Expr → Kinds
rows_kinds x t c = in_round (name_kind x ∷ Sign (codes "<--") ∷ name_kind t ∷ []) ++ Word (codes "where") ∷ in_round (form_of c).alone

rows_good : (names : Names) (x t : Named) (c : Expr) → IsNamed x.text → IsNamed t.text → Written (bind x names) c → Good (rows_kinds x t c)
unfolding rows_kinds
rows_good names x t c h g r = good_append (in_round (name_kind x ∷ Sign (codes "<--") ∷ name_kind t ∷ [])) (good_round _ (Each.also h.good (constant refl (Each.also g.good Each.none)))) (constant refl (good_round _ r.good_alone))

rows_written : (names : Names) (x t : Named) (c : Expr) → IsNamed x.text → IsNamed t.text → Written (bind x names) c → Spelt (rows_kinds x t c) (ReadsRows names x t c)
unfolding word_of rows_kinds
rows_written names x t c h g r = spelt_cons (λ o. spelt_cons (λ at. spelt_cons (λ s. spelt_cons (λ of. spelt_cons (λ e. spelt_cons (λ k. spelt_cons (λ p. spelt_append (form_of c).alone r.alone (λ u a. spelt_cons (λ q. spelt_none (record {
  change = change_of (token at (name_kind x)) (token of (name_kind t)) a.part (token q (Sign (codes ")")));
  is = IsChange.rows (token o (Sign (codes "("))) (token at (name_kind x)) (token s (Sign (codes "<--"))) (token of (name_kind t)) (token e (Sign (codes ")"))) (token k (Word (codes "where"))) (token p (Sign (codes "("))) (token q (Sign (codes ")"))) refl (named_token at x.text h) refl (named_token of t.text g) refl refl refl a.is refl;
  name = refl;
  table = refl;
  cond = a.same;
  bound = λ e. refl;
  sets = λ es. refl;
}))))))))))

pub delete_written : (names : Names) (span : Span) (x t : Named) (c : Expr) → IsNamed x.text → IsNamed t.text → Written (bind x names) c → Written names (of_node span (node.Delete (change_with x t c [])))
unfolding rows_kinds
delete_written names span x t c h g r = compound_written names (of_node span (node.Delete (change_with x t c []))) _ (form_is span _ (Node-F.Delete (change_with x t c [])) (node.rolls-Delete (change_with x t c [])) ∙ ap (λ (f : ChangeForm). compound (Word (codes "delete") ∷ f.rows)) (print_change_is x t c [])) (constant refl (rows_good names x t c h g r)) (spelt_cons (λ k. spelt_so (rows_written names x t c h g r) (λ v y. record {
  part = delete_form (token k (Word (codes "delete"))) y.change;
  is = form_expr (IsForm.delete (token k (Word (codes "delete"))) refl y.is);
  same = same_of names _ span _ (node.Delete (change_with x t c [])) (Node-F.Delete (change_with y.change.name y.change.table y.change.cond [])) (Node-F.Delete (scoped_change (change_with y.change.name y.change.table y.change.cond []) names)) (Node-F.Delete (change_with x t c [])) (node.rolls-Delete _) (sym (node.rolls-Delete _)) (node.rolls-Delete (change_with x t c []))
      (ap (λ z. Node-F.Delete z) (ap bare_change (scoped_change_is y.change.name y.change.table y.change.cond [] names) ∙ bare_change_is _ _ _ _ ∙ (λ i. change_with (y.name i) (y.table i) ((ap bare (y.bound y.change.cond) ∙ y.cond) i) []) ∙ sym (bare_change_is x t c [])));
})))

pub update_written : (names : Names) (span : Span) (x t : Named) (c : Expr) (s : PartExpr) (ss : List PartExpr) → IsNamed x.text → IsNamed t.text → Written (bind x names) c → Each (WrittenPart (bind x names)) (s ∷ ss) → Written names (of_node span (node.Update (change_with x t c (s ∷ ss))))
unfolding rows_kinds
update_written names span x t c s ss h g r each = compound_written names (of_node span (node.Update (change_with x t c (s ∷ ss)))) _ (form_is span _ (Node-F.Update (change_with x t c (s ∷ ss))) (node.rolls-Update (change_with x t c (s ∷ ss))) ∙ ap (λ (f : ChangeForm). compound (Word (codes "update") ∷ (f.rows ++ Word (codes "set") ∷ in_round f.sets))) (print_change_is x t c (s ∷ ss))) (constant refl (good_append (rows_kinds x t c) (rows_good names x t c h g r) (constant refl (good_round _ (parts_good (bind x names) (s ∷ ss) each))))) (spelt_cons (λ k. spelt_append (rows_kinds x t c) (rows_written names x t c h g r) (λ v y. spelt_cons (λ of. spelt_cons (λ o. spelt_append (separated (map print_part (s ∷ ss))) (parts_written (bind x names) s ss each) (λ w m. spelt_cons (λ q. spelt_none (record {
  part = update_form (token k (Word (codes "update"))) y.change m.x (token q (Sign (codes ")")));
  is = form_expr (IsForm.update (token k (Word (codes "update"))) (token of (Word (codes "set"))) (token o (Sign (codes "("))) (token q (Sign (codes ")"))) refl y.is refl refl m.is refl);
  same = same_of names _ span _ (node.Update (change_with x t c (s ∷ ss))) (Node-F.Update (change_with y.change.name y.change.table y.change.cond m.x)) (Node-F.Update (scoped_change (change_with y.change.name y.change.table y.change.cond m.x) names)) (Node-F.Update (change_with x t c (s ∷ ss))) (node.rolls-Update _) (sym (node.rolls-Update _)) (node.rolls-Update (change_with x t c (s ∷ ss)))
      (ap (λ z. Node-F.Update z) (ap bare_change (scoped_change_is y.change.name y.change.table y.change.cond m.x names) ∙ bare_change_is _ _ _ _ ∙ (λ i. change_with (y.name i) (y.table i) ((ap bare (y.bound y.change.cond) ∙ y.cond) i) ((ap (map bare_part) (y.sets m.x) ∙ all_parts_meant (bind x names) m.x (s ∷ ss) m.same) i)) ∙ sym (bare_change_is x t c (s ∷ ss))));
}))))))))
