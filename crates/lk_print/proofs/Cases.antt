-- What is printed of switches.
use Rattle.std.proofs.Common.{◌≡◌, true, List, [], ◌∷◌, ◌++◌, Option, Some, None, map, refl, sym, ap, subst, ◌∙◌}
use Rattle.std.specs.Prelude.{codes}
use Rattle.std.specs.Option.{option_map}
use Rattle.lk_ast.specs.declared.expression.Case.{Case}
use Rattle.lk_ast.specs.declared.expression.Expr.{Expr}
use Rattle.lk_ast.specs.declared.expression.LastCase.{LastCase}
use Rattle.lk_ast.specs.declared.expression.Node.{roll-Node}
use Rattle.lk_ast.specs.declared.expression.Node.TheOpen.{Node-F}
use Rattle.lk_ast.specs.declared.expression.Node.TheVariants as node
use Rattle.lk_ast.specs.declared.place.Span.{Span}
use Rattle.lk_ast.specs.declared.place.Word.{Word as Named}
use Rattle.lk_ast.specs.declared.token.Token.{Token}
use Rattle.lk_ast.specs.declared.token.TokenKind.TheVariants.{Word, Tag, Sign}
use Rattle.lk_read.specs.Kinds.{word_of}
use Rattle.lk_grammar.specs.Expressions.{IsForm, IsCase, IsCases}
use Rattle.lk_parts.specs.Parts.{switch_form, case_of, last_case, some_case}
use Rattle.lk_parts.specs.declared.part.Cases.{Cases}
use Rattle.lk_print.specs.Bare.{bare, bare_word, bare_layer}
use Rattle.lk_print.specs.Good.{IsGood}
use Rattle.lk_print.specs.Printed.{Kinds, form_of, joined, in_round, in_braces, name_kind, compound, print_case, print_last}
use Rattle.lk_print.proofs.Goods.{Good, constant, good_append, good_round, good_braces, good_joined}
use Rattle.lk_print.proofs.Levels.{of_node, same_of, form_is, parts_scoped, parts_bare, bare_case, bare_case_is, bare_last, bare_last_is, print_case_is, print_last_is, scoped_case_is, scoped_last_is}
use Rattle.lk_print.proofs.Lists.{Each, ReadsOne, ReadsMore, series, map_map}
use Rattle.lk_print.proofs.Meant.{Written, compound_written, form_expr}
use Rattle.lk_print.proofs.Primaries.{IsNamed, named_token, tag_token}
use Rattle.lk_print.proofs.Spelled.{Spelt, token, spelt_none, spelt_cons, spelt_append, spelt_so, spelt_as, spelt_round}
use Rattle.lk_scope.specs.Names.{Names, bind, bind_some}
use Rattle.lk_scope.specs.Scoped.{scoped, node_in, all_in, scoped_case, scoped_last}

-- ---- cases with a tag

abbrev pub WrittenSome : Option Named → Type 0
WrittenSome None = Unit {0}
WrittenSome (Some x) = IsNamed x.text

pub record WrittenCase (names : Names) (s : Case) : Type 0 where
  pub tag : IsGood (Tag s.tag.text)
  pub name : WrittenSome s.name
  pub body : Written (bind_some s.name names) s.body

abbrev case_meaning : Names → Case → Case
case_meaning names case = bare_case (scoped_case case names)

case_written : (names : Names) (t : Named) (x : Option Named) (e : Expr) → WrittenSome x → Written (bind_some x names) e → Spelt (print_case (record { tag = t; name = x; body = e })) (ReadsOne IsCase (case_meaning names) (bare_case (record { tag = t; name = x; body = e })))
unfolding word_of
case_written names t None e h r = spelt_as (print_case_is (record { tag = t; name = None; body = e })) (spelt_cons (λ k. spelt_cons (λ at. spelt_cons (λ a. spelt_so r.alone (λ w b. record {
  x = case_of (token at (Tag t.text)) None b.part;
  is = IsCase.unit_case (token k (Word (codes "case"))) (token at (Tag t.text)) (token a (Sign (codes "->"))) refl (tag_token at t.text) refl b.is;
  same = ap bare_case (scoped_case_is _ names) ∙ bare_case_is _ ∙ (λ i. record { tag = bare_word t; name = None; body = b.same i }) ∙ sym (bare_case_is (record { tag = t; name = None; body = e }));
})))))
case_written names t (Some x) e h r = spelt_as (print_case_is (record { tag = t; name = Some x; body = e })) (spelt_cons (λ k. spelt_cons (λ at. spelt_cons (λ o. spelt_cons (λ n. spelt_cons (λ c. spelt_cons (λ a. spelt_so r.alone (λ w b. record {
  x = case_of (token at (Tag t.text)) (Some (word_of (token n (name_kind x)))) b.part;
  is = IsCase.named_case (token k (Word (codes "case"))) (token at (Tag t.text)) (token o (Sign (codes "("))) (token n (name_kind x)) (token c (Sign (codes ")"))) (token a (Sign (codes "->"))) refl (tag_token at t.text) refl (named_token n x.text h) refl refl b.is;
  same = ap bare_case (scoped_case_is _ names) ∙ bare_case_is _ ∙ (λ i. record { tag = bare_word t; name = Some (bare_word x); body = b.same i }) ∙ sym (bare_case_is (record { tag = t; name = Some x; body = e }));
}))))))))

each_case : (names : Names) (ss : List Case) → Each (WrittenCase names) ss → Each (λ s. Spelt (print_case s) (ReadsOne IsCase (case_meaning names) (bare_case s))) ss
each_case names [] Each.none = Each.none
each_case names (s ∷ ss) (Each.also p ps) = Each.also (case_written names s.tag s.name s.body p.name p.body) (each_case names ss ps)

case_good : (names : Names) (t : Named) (x : Option Named) (e : Expr) → IsGood (Tag t.text) → WrittenSome x → Written (bind_some x names) e → Good (print_case (record { tag = t; name = x; body = e }))
case_good names t None e g h r = subst Good (sym (print_case_is (record { tag = t; name = None; body = e }))) (constant refl (Each.also g (constant refl r.good_alone)))
case_good names t (Some x) e g h r = subst Good (sym (print_case_is (record { tag = t; name = Some x; body = e }))) (constant refl (Each.also g (constant refl (Each.also h.good (constant refl (constant refl r.good_alone))))))

each_case_good : (names : Names) (ss : List Case) → Each (WrittenCase names) ss → Each Good (map print_case ss)
each_case_good names [] Each.none = Each.none
each_case_good names (s ∷ ss) (Each.also p ps) = Each.also (case_good names s.tag s.name s.body p.tag p.name p.body) (each_case_good names ss ps)

-- cases without a last one for all others
abbrev AreCases : List Token → List Case → Type 0
AreCases w cases = IsCases w (record { list = cases; last = None })

tagged_written : (names : Names) (ss : List Case) → Each (WrittenCase names) ss → Spelt (joined (map print_case ss)) (ReadsMore AreCases (case_meaning names) [] [] (map bare_case ss))
tagged_written names ss each = series IsCase AreCases (λ u w xs x d one. IsCases.next_case d refl one) (case_meaning names) bare_case print_case [] [] IsCases.no_case ss (each_case names ss each)

all_cases_meant : (names : Names) (cs ss : List Case) → map (case_meaning names) cs ≡ map bare_case ss → map bare_case (all_in names (map scoped_case cs)) ≡ map bare_case ss
all_cases_meant names cs ss same = ap (map bare_case) (map_map (λ f. f names) scoped_case cs) ∙ map_map bare_case (λ c. scoped_case c names) cs ∙ same

-- ---- all cases

abbrev cases_kinds : List Case → Option LastCase → Kinds
cases_kinds ss None = joined (map print_case ss)
cases_kinds ss (Some last) = joined (map print_case ss) ++ print_last last

record ReadsCases (names : Names) (ss : List Case) (last : Option LastCase) (w : List Token) : Type 0 where
  cases : Cases
  is : IsCases w cases
  some : some_case cases ≡ true
  list : map bare_case (all_in names (map scoped_case cases.list)) ≡ map bare_case ss
  for_others : option_map bare_last (option_map (λ c. c names) (option_map scoped_last cases.last)) ≡ option_map bare_last last

some_tagged : (names : Names) (zs ss : List Case) (s : Case) → map (case_meaning names) zs ≡ map bare_case (s ∷ ss) → some_case (record { list = zs; last = None }) ≡ true
some_tagged names [] ss s e = absurd cc
some_tagged names (z ∷ zs) ss s e = refl

some_last : (zs : List Case) (last : LastCase) → some_case (record { list = zs; last = Some last }) ≡ true
some_last [] last = refl
some_last (z ∷ zs) last = refl

no_last_written : (names : Names) (s : Case) (ss : List Case) → Each (WrittenCase names) (s ∷ ss) → Spelt (joined (map print_case (s ∷ ss))) (ReadsCases names (s ∷ ss) None)
no_last_written names s ss each = spelt_so (tagged_written names (s ∷ ss) each) (λ w m. record {
  cases = record { list = m.zs; last = None };
  is = m.is;
  some = some_tagged names m.zs ss s m.same;
  list = all_cases_meant names m.zs (s ∷ ss) m.same;
  for_others = refl;
})

last_written : (names : Names) (ss : List Case) (x : Named) (e : Expr) → Each (WrittenCase names) ss → IsNamed x.text → Written (bind x names) e → Spelt (joined (map print_case ss) ++ print_last (record { name = x; body = e })) (ReadsCases names ss (Some (record { name = x; body = e })))
unfolding word_of
last_written names ss x e each h r = spelt_append (joined (map print_case ss)) (tagged_written names ss each) (λ u m. spelt_as (print_last_is (record { name = x; body = e })) (spelt_cons (λ k. spelt_cons (λ n. spelt_cons (λ a. spelt_so r.alone (λ w b. record {
  cases = record { list = m.zs; last = Some (last_case (token n (name_kind x)) b.part) };
  is = IsCases.final_case (token k (Word (codes "case"))) (token n (name_kind x)) (token a (Sign (codes "->"))) m.is refl refl (named_token n x.text h) refl b.is;
  some = some_last m.zs (last_case (token n (name_kind x)) b.part);
  list = all_cases_meant names m.zs ss m.same;
  for_others = ap (λ z. Some z) (ap bare_last (scoped_last_is _ names) ∙ bare_last_is _ ∙ (λ i. record { name = bare_word x; body = b.same i }) ∙ sym (bare_last_is (record { name = x; body = e })));
}))))))

-- ---- switches

scoped_switch : (names : Names) (e : Expr) (cs : List Case) (last : Option LastCase) → node_in (parts_scoped (Node-F.Switch e cs last)) names ≡ roll-Node (Node-F.Switch (scoped e names) (all_in names (map scoped_case cs)) (option_map (λ c. c names) (option_map scoped_last last)))
scoped_switch names e cs None = sym (node.rolls-Switch _ _ _)
scoped_switch names e cs (Some last) = sym (node.rolls-Switch _ _ _)

bare_switch : (e : Expr) (cs : List Case) (last : Option LastCase) → bare_layer (parts_bare (Node-F.Switch e cs last)) ≡ Node-F.Switch (bare e) (map bare_case cs) (option_map bare_last last)
bare_switch e cs None = refl
bare_switch e cs (Some last) = refl

switch_made : (names : Names) (span : Span) (e : Expr) (ss : List Case) (last : Option LastCase) → form_of (of_node span (node.Switch e ss last)) ≡ compound (Word (codes "switch") ∷ (in_round (form_of e).alone ++ in_braces (cases_kinds ss last)))
    → Written names e → Good (cases_kinds ss last) → Spelt (cases_kinds ss last) (ReadsCases names ss last) → Written names (of_node span (node.Switch e ss last))
switch_made names span e ss last form r g cs = compound_written names (of_node span (node.Switch e ss last)) _ form (constant refl (good_append (in_round (form_of e).alone) (good_round _ r.good_alone) (good_braces _ g))) (spelt_cons (λ k. spelt_round (form_of e).alone r.alone (λ o c u a. spelt_cons (λ b. spelt_append (cases_kinds ss last) cs (λ v m. spelt_cons (λ d. spelt_none (record {
  part = switch_form (token k (Word (codes "switch"))) a.part m.cases (token d (Sign (codes "}")));
  is = form_expr (IsForm.switch (token k (Word (codes "switch"))) (token o (Sign (codes "("))) (token c (Sign (codes ")"))) (token b (Sign (codes "{"))) (token d (Sign (codes "}"))) refl refl a.is refl refl m.is m.some refl);
  same = same_of names _ span _ (node.Switch e ss last) (Node-F.Switch a.part.expr m.cases.list m.cases.last) (Node-F.Switch (scoped a.part.expr names) (all_in names (map scoped_case m.cases.list)) (option_map (λ c. c names) (option_map scoped_last m.cases.last))) (Node-F.Switch e ss last) (node.rolls-Switch _ _ _) (scoped_switch names a.part.expr m.cases.list m.cases.last) (node.rolls-Switch e ss last)
      (bare_switch _ _ _ ∙ (λ i. Node-F.Switch (a.same i) (m.list i) (m.for_others i)) ∙ sym (bare_switch e ss last));
})))))))

pub switch_written : (names : Names) (span : Span) (e : Expr) (s : Case) (ss : List Case) → Written names e → Each (WrittenCase names) (s ∷ ss) → Written names (of_node span (node.Switch e (s ∷ ss) None))
switch_written names span e s ss r each = switch_made names span e (s ∷ ss) None (form_is span (node.Switch e (s ∷ ss) None) (Node-F.Switch e (s ∷ ss) None) (node.rolls-Switch e (s ∷ ss) None)) r (good_joined _ (each_case_good names (s ∷ ss) each)) (no_last_written names s ss each)

pub switch_last_written : (names : Names) (span : Span) (e : Expr) (ss : List Case) (x : Named) (d : Expr) → Written names e → Each (WrittenCase names) ss → IsNamed x.text → Written (bind x names) d → Written names (of_node span (node.Switch e ss (Some (record { name = x; body = d }))))
switch_last_written names span e ss x d r each h p = switch_made names span e ss (Some (record { name = x; body = d })) (form_is span _ (Node-F.Switch e ss (Some (record { name = x; body = d }))) (node.rolls-Switch e ss (Some (record { name = x; body = d })))) r (good_append (joined (map print_case ss)) (good_joined _ (each_case_good names ss each)) (subst Good (sym (print_last_is (record { name = x; body = d }))) (constant refl (Each.also h.good (constant refl p.good_alone))))) (last_written names ss x d each h p)
