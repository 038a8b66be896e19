-- What type an expression has depends only on the types of the names that are free in it and of those bound round it; typed again
-- under other names it has the same nodes.
use Rattle.std.proofs.Common.{◌≡◌, refl, sym, ap, ap₂, ◌∙◌, subst, Bool, true, false, ◌||◌, cond, List, [], ◌∷◌, ◌++◌, inl, inr, Option, Some, None, is_some}
use Rattle.std.specs.Cmp.Lexicographic.{slice_cmp}
use Rattle.std.specs.FinSet as set
use Rattle.std.specs.Option.{option_or}
use Rattle.std.specs.Ordering.{nat_cmp}
use Rattle.lk_ast.specs.Children.{exprs_of}
use Rattle.lk_ast.specs.declared.declaration.TableDecl.{TableDecl}
use Rattle.lk_ast.specs.declared.expression.Case.{Case}
use Rattle.lk_ast.specs.declared.expression.ChangeExpr.{ChangeExpr, out-ChangeExpr}
use Rattle.lk_ast.specs.declared.expression.Expr.{Expr}
use Rattle.lk_ast.specs.declared.place.Word.{Word}
use Rattle.lk_index.specs.Free.{use_of, free, free_case, free_change}
use Rattle.lk_scope.specs.Names.{Names, no_names, is_local, bind, bind_all, bind_some}
use Rattle.lk_types.specs.Rows.{Label, EffectSet}
use Rattle.lk_types.specs.declared.ground.Ground.{Ground}
use Rattle.lk_typing.specs.Heads.{Head}
use Rattle.lk_typing.specs.Names.{Named, named, Entry}
use Rattle.lk_typing.specs.Rules.{Rule}
use Rattle.lk_typing.specs.Types.{record_of, variant_of}
use Rattle.lk_typing.specs.Typing.{HasType, HaveTypes, HaveCases, IsChange, plain, lambda, var, switch, switch_open, for_list, for_table, query, update, delete, none, more, no_cases, case_of, changed, parts_of}
use Rattle.lk_sound.specs.Nodes.{other_part, other_node, block_node, parts_of as parts_in, type_before, known_in, used_by, compared_by, nodes_of, each_nodes, case_nodes, change_nodes}
use Rattle.lk_types.proofs.Members.{one_in_front, one_in_back}
use Rattle.lk_sound.proofs.Standing.{named_behind, Binds, binds_one, binds_held, binds_all}
use Rattle.lk_sound.proofs.FreeUnder.{AreAlso, free_also, change_also}
use Rattle.lk_sound.proofs.FreeLevels.{case_level, change_level, free_all, free_cases, own_uses, free_plain, free_lambda_form, free_var, free_switch, free_switch_open, free_for_list, free_for_table, free_query, free_update, free_delete}
use Rattle.lk_sound.proofs.Names.{IsAmong}

-- these names, and those that are bound there, stand for the same in both
pub record Agree (locals others : Named Ground) (bound : Names) (xs : List Label) : Type 0 where
  pub used : (y : Label) → IsAmong y xs → named y others ≡ named y locals
  pub round : (y : Label) → is_local bound y ≡ true → named y others ≡ named y locals

module _ {locals others : Named Ground} {bound : Names} where
  agree_on : {xs ys : List Label} → ys ≡ xs → Agree locals others bound ys → Agree locals others bound xs
  agree_on same agree = subst (Agree locals others bound) same agree

  agree_front : (xs ys : List Label) → Agree locals others bound (xs ++ ys) → Agree locals others bound xs
  agree_front xs ys agree = record { used = λ y among. agree.used y (one_in_front (λ x. x ≡ y) xs ys among); round = agree.round }

  agree_back : (xs ys : List Label) → Agree locals others bound (xs ++ ys) → Agree locals others bound ys
  agree_back xs ys agree = record { used = λ y among. agree.used y (one_in_back (λ x. x ≡ y) xs ys among); round = agree.round }

  -- where the same names are bound besides
  pub agree_inside : {inner : Names} {xs : List Label} (entries : Named Ground) → Binds bound inner entries → Agree locals others bound xs → Agree (entries ++ locals) (entries ++ others) inner xs
  agree_inside entries binds agree =
      record {
        used = λ y among. named_behind y entries others ∙ ap (option_or (named y entries)) (agree.used y among) ∙ sym (named_behind y entries locals);
        round = λ y is. named_behind y entries others ∙ by_entry (named y entries) (is_local bound y) (named y others) (named y locals) (sym (binds y) ∙ is) (agree.round y) ∙ sym (named_behind y entries locals);
      }
    where
      by_entry : (o : Option Ground) (b : Bool) (t u : Option Ground) → (is_some o || b) ≡ true → (b ≡ true → t ≡ u) → option_or o t ≡ option_or o u
      by_entry None b t u is same = same is
      by_entry (Some g) b t u is same = refl

-- a use of a name
use_agrees : {locals others : Named Ground} {bound : Names} (x : Label) → Agree locals others bound (use_of x bound) → named x others ≡ named x locals
use_agrees {locals} {others} {bound} x agree = by_test (is_local bound x) refl agree.used
  where
    by_test : (b : Bool) → is_local bound x ≡ b → ((y : Label) → IsAmong y (cond b [] (x ∷ [])) → named y others ≡ named y locals) → named x others ≡ named x locals
    by_test true is used = agree.round x is
    by_test false is used = used x (inl refl)

-- where no names are bound round it
pub outermost : {locals others : Named Ground} {xs : List Label} → ((y : Label) → IsAmong y xs → named y others ≡ named y locals) → Agree locals others no_names xs
outermost used = record { used = used; round = λ y is. absurd (let none : is_local no_names y ≡ false = set.contains-empty (slice_cmp nat_cmp) y in cc) }

-- the types of names that stand for the same in both
known_same : (locals others : Named Ground) (xs : List Label) → ((y : Label) → IsAmong y xs → named y others ≡ named y locals) → known_in others xs ≡ known_in locals xs
known_same locals others [] same = refl
known_same locals others (x ∷ xs) same = ap₂ type_before (same x (inl refl)) (known_same locals others xs (λ y among. same y (inr among)))

-- what a query or a change captures has the same types
captured_again : (locals others : Named Ground) (bound : Names) (xs ys : List Label) → AreAlso bound xs ys → Agree locals others bound ys → known_in others xs ≡ known_in locals xs
captured_again locals others bound xs ys also agree = known_same locals others xs (λ y among. by_test y among (is_local bound y) refl)
  where
    by_test : (y : Label) → IsAmong y xs → (b : Bool) → is_local bound y ≡ b → named y others ≡ named y locals
    by_test y among true is = agree.round y is
    by_test y among false is = agree.used y (also y among is)

module _ {functions : Named (Entry Ground)} {tables : List TableDecl} where
  rule_again : {locals others : Named Ground} {bound : Names} {effects : EffectSet} {h : Head} {ts : List Ground} {t : Ground}
      → Rule functions tables locals effects h ts t → Agree locals others bound (own_uses (Some h) bound) → Rule functions tables others effects h ts t
  rule_again Rule.literal agree = Rule.literal
  rule_again (Rule.local {x} is) agree = Rule.local (use_agrees x agree ∙ is)
  rule_again (Rule.function may) agree = Rule.function may
  rule_again (Rule.call may) agree = Rule.call may
  rule_again (Rule.apply local) agree = Rule.apply local
  rule_again Rule.seq agree = Rule.seq
  rule_again Rule.branch agree = Rule.branch
  rule_again Rule.logic agree = Rule.logic
  rule_again Rule.concat agree = Rule.concat
  rule_again (Rule.append a) agree = Rule.append a
  rule_again (Rule.cons local) agree = Rule.cons local
  rule_again Rule.arithmetic agree = Rule.arithmetic
  rule_again (Rule.division trap) agree = Rule.division trap
  rule_again Rule.comparison agree = Rule.comparison
  rule_again Rule.negation agree = Rule.negation
  rule_again Rule.not agree = Rule.not
  rule_again (Rule.first trap local) agree = Rule.first trap local
  rule_again (Rule.rest a trap local) agree = Rule.rest a trap local
  rule_again (Rule.empty a) agree = Rule.empty a
  rule_again (Rule.int_to_string local) agree = Rule.int_to_string local
  rule_again (Rule.print prints) agree = Rule.print prints
  rule_again (Rule.closed_record fields row at is) agree = Rule.closed_record fields row at is
  rule_again (Rule.extend fields other row at is) agree = Rule.extend fields other row at is
  rule_again (Rule.items a each) agree = Rule.items a each
  rule_again (Rule.project other row is) agree = Rule.project other row is
  rule_again (Rule.tag other row is) agree = Rule.tag other row is
  rule_again (Rule.table row rows scans) agree = Rule.table row rows scans
  rule_again (Rule.filter b) agree = Rule.filter b
  rule_again (Rule.insert row rows writes) agree = Rule.insert row rows writes

  mutual
    again : {locals : Named Ground} {effects : EffectSet} {e : Expr} {t : Ground} {inside : List Ground} → HasType functions tables locals effects e t inside
        → (others : Named Ground) (bound : Names) → Agree locals others bound (free e bound) → HasType functions tables others effects e t inside
    again {e = e} (plain h ts is parts rule) others bound agree =
        let both : Agree _ others bound (own_uses (Some h) bound ++ free_all (parts_of e) bound) = agree_on (free_plain e h bound is) agree in
        plain h ts is (all_again parts others bound (agree_back (own_uses (Some h) bound) _ both)) (rule_again rule (agree_front (own_uses (Some h) bound) _ both))
    again {e = e} (lambda l params own b is are moves body local) others bound agree =
        lambda l params own b is are moves (again body (params ++ others) (bind_all l.params bound) (agree_inside params (binds_all l.params params bound are) (agree_on (free_lambda_form e l bound is) agree))) local
    again {e = e} (var x d rest a first last is of_d of_rest) others bound agree =
        let both : Agree _ others bound (free d bound ++ free rest (bind x bound)) = agree_on (free_var e x d rest bound is) agree in
        var x d rest a first last is (again of_d others bound (agree_front (free d bound) _ both))
        (again of_rest ((x.text, a) ∷ others) (bind x bound) (agree_inside ((x.text, a) ∷ []) (binds_one x a bound) (agree_back (free d bound) _ both)))
    again {e = e} (switch d cases row tags ts first bodies is of_d of_cases each tagged local) others bound agree =
        let both : Agree _ others bound (free d bound ++ free_cases cases bound) = agree_on (free_switch e d cases bound is) agree in
        switch d cases row tags ts first bodies is (again of_d others bound (agree_front (free d bound) _ both)) (cases_again of_cases others bound (agree_back (free d bound) _ both)) each tagged local
    again {e = e} (switch_open d cases last other row tags ts first bodies inside is of_d of_cases each of_last tagged local) others bound agree =
        let all : Agree _ others bound ((free d bound ++ free_cases cases bound) ++ free last.body (bind last.name bound)) = agree_on (free_switch_open e d cases last bound is) agree in
        let both : Agree _ others bound (free d bound ++ free_cases cases bound) = agree_front (free d bound ++ free_cases cases bound) _ all in
        switch_open d cases last other row tags ts first bodies inside is (again of_d others bound (agree_front (free d bound) _ both)) (cases_again of_cases others bound (agree_back (free d bound) _ both)) each
        (again of_last ((last.name.text, variant_of other) ∷ others) (bind last.name bound)
        (agree_inside ((last.name.text, variant_of other) ∷ []) (binds_one last.name (variant_of other) bound) (agree_back (free d bound ++ free_cases cases bound) _ all))) tagged local
    again {e = e} (for_list x d body a b first inside is of_d of_body) others bound agree =
        let both : Agree _ others bound (free d bound ++ free body (bind x bound)) = agree_on (free_for_list e x d body bound is) agree in
        for_list x d body a b first inside is (again of_d others bound (agree_front (free d bound) _ both))
        (again of_body ((x.text, a) ∷ others) (bind x bound) (agree_inside ((x.text, a) ∷ []) (binds_one x a bound) (agree_back (free d bound) _ both)))
    again {e = e} (for_table x rows body a b first inside is of_rows of_body) others bound agree =
        let both : Agree _ others bound (free rows bound ++ free body (bind x bound)) = agree_on (free_for_table e x rows body bound is) agree in
        for_table x rows body a b first inside is (again of_rows others bound (agree_front (free rows bound) _ both))
        (again of_body ((x.text, a) ∷ others) (bind x bound) (agree_inside ((x.text, a) ∷ []) (binds_one x a bound) (agree_back (free rows bound) _ both)))
    again {e = e} (query keys body a inside is of_body each scans by_client) others bound agree = query keys body a inside is (again of_body others bound (agree_on (free_query e keys body bound is) agree)) each scans by_client
    again {e = e} (update change is of_change writes) others bound agree = update change is (change_again of_change others bound (agree_on (free_update e change bound is) agree)) writes
    again {e = e} (delete change is of_change writes) others bound agree = delete change is (change_again of_change others bound (agree_on (free_delete e change bound is) agree)) writes

    all_again : {locals : Named Ground} {effects : EffectSet} {es : List Expr} {ts inside : List Ground} → HaveTypes functions tables locals effects es ts inside
        → (others : Named Ground) (bound : Names) → Agree locals others bound (free_all es bound) → HaveTypes functions tables others effects es ts inside
    all_again none others bound agree = none
    all_again (more {e} inside rest of_e of_es) others bound agree = more inside rest (again of_e others bound (agree_front (free e bound) _ agree)) (all_again of_es others bound (agree_back (free e bound) _ agree))

    cases_again : {locals : Named Ground} {effects : EffectSet} {cases : List Case} {ts : List Ground} {tags : Named Ground} {inside : List Ground} → HaveCases functions tables locals effects cases ts tags inside
        → (others : Named Ground) (bound : Names) → Agree locals others bound (free_cases cases bound) → HaveCases functions tables others effects cases ts tags inside
    cases_again no_cases others bound agree = no_cases
    cases_again (case_of {case} a held inside rest is_held of_body of_cases) others bound agree =
        case_of a held inside rest is_held
        (again of_body (held ++ others) (bind_some case.name bound) (agree_inside held (binds_held case.name a held bound is_held) (agree_on (case_level case bound) (agree_front (free_case case bound) _ agree))))
        (cases_again of_cases others bound (agree_back (free_case case bound) _ agree))

    change_again : {locals : Named Ground} {change : ChangeExpr} {inside : List Ground} → IsChange functions tables locals change inside
        → (others : Named Ground) (bound : Names) → Agree locals others bound (free_change change bound) → IsChange functions tables others change inside
    change_again {change = change} (changed row sets ts cond rest rows of_cond of_sets labels each) others bound agree =
        let x : Word = (out-ChangeExpr change).name in
        let entries : Named Ground = (x.text, record_of row) ∷ [] in
        let of_bound : Agree _ others bound (free (out-ChangeExpr change).cond (bind x bound) ++ free_all (exprs_of (out-ChangeExpr change).sets) (bind x bound)) = agree_on (change_level change bound) agree in
        let both = agree_inside entries (binds_one x (record_of row) bound) of_bound in
        changed row sets ts cond rest rows (again of_cond (entries ++ others) (bind x bound) (agree_front (free (out-ChangeExpr change).cond (bind x bound)) _ both))
        (all_again of_sets (entries ++ others) (bind x bound) (agree_back (free (out-ChangeExpr change).cond (bind x bound)) _ both)) labels each

  -- ---- nodes

  -- an operator uses and compares the same
  used_again : {locals others : Named Ground} {bound : Names} {effects : EffectSet} {h : Head} {ts : List Ground} {t : Ground}
      (by : Rule functions tables locals effects h ts t) (agree : Agree locals others bound (own_uses (Some h) bound)) → used_by (rule_again by agree) ≡ used_by by
  unfolding rule_again
  used_again Rule.literal agree = refl
  used_again (Rule.local is) agree = refl
  used_again (Rule.function may) agree = refl
  used_again other agree = refl

  compared_again : {locals others : Named Ground} {bound : Names} {effects : EffectSet} {h : Head} {ts : List Ground} {t : Ground} (e : Expr)
      (by : Rule functions tables locals effects h ts t) (agree : Agree locals others bound (own_uses (Some h) bound)) → compared_by e (rule_again by agree) ≡ compared_by e by
  unfolding rule_again
  compared_again e Rule.literal agree = refl
  compared_again e (Rule.local is) agree = refl
  compared_again e (Rule.function may) agree = refl
  compared_again e other agree = refl

  mutual
    unfolding nodes_of again all_again cases_again change_again

    nodes_again : {locals : Named Ground} {effects : EffectSet} {e : Expr} {t : Ground} {inside : List Ground} (in_block : Bool) (typed : HasType functions tables locals effects e t inside)
        → (others : Named Ground) (bound : Names) (agree : Agree locals others bound (free e bound)) → nodes_of in_block (again typed others bound agree) ≡ nodes_of in_block typed
    nodes_again {e = e} {t = t} in_block (plain h ts is parts rule) others bound agree =
        let both : Agree _ others bound (own_uses (Some h) bound ++ free_all (parts_of e) bound) = agree_on (free_plain e h bound is) agree in
        let own : Agree _ others bound (own_uses (Some h) bound) = agree_front (own_uses (Some h) bound) _ both in
        λ i. record { part = record { span = e.span; type = t; use_of = used_again rule own i; compares = compared_again e rule own i; inside = in_block }; block = None } ∷ all_nodes_again in_block parts others bound (agree_back (own_uses (Some h) bound) _ both) i
    nodes_again {e = e} {t = t} in_block (lambda l params own b is are moves body local) others bound agree =
        ap (λ nodes. other_node in_block e t ∷ nodes)
        (nodes_again in_block body (params ++ others) (bind_all l.params bound) (agree_inside params (binds_all l.params params bound are) (agree_on (free_lambda_form e l bound is) agree)))
    nodes_again {e = e} {t = t} in_block (var x d rest a first last is of_d of_rest) others bound agree =
        let both : Agree _ others bound (free d bound ++ free rest (bind x bound)) = agree_on (free_var e x d rest bound is) agree in
        ap₂ (λ nodes others. other_node in_block e t ∷ (nodes ++ others)) (nodes_again in_block of_d others bound (agree_front (free d bound) _ both))
        (nodes_again in_block of_rest ((x.text, a) ∷ others) (bind x bound) (agree_inside ((x.text, a) ∷ []) (binds_one x a bound) (agree_back (free d bound) _ both)))
    nodes_again {e = e} {t = t} in_block (switch d cases row tags ts first bodies is of_d of_cases each tagged local) others bound agree =
        let both : Agree _ others bound (free d bound ++ free_cases cases bound) = agree_on (free_switch e d cases bound is) agree in
        ap₂ (λ nodes others. other_node in_block e t ∷ (nodes ++ others)) (nodes_again in_block of_d others bound (agree_front (free d bound) _ both)) (case_nodes_again in_block of_cases others bound (agree_back (free d bound) _ both))
    nodes_again {e = e} {t = t} in_block (switch_open d cases last other row tags ts first bodies inside is of_d of_cases each of_last tagged local) others bound agree =
        let all : Agree _ others bound ((free d bound ++ free_cases cases bound) ++ free last.body (bind last.name bound)) = agree_on (free_switch_open e d cases last bound is) agree in
        let both : Agree _ others bound (free d bound ++ free_cases cases bound) = agree_front (free d bound ++ free_cases cases bound) _ all in
        ap₂ (λ nodes others. other_node in_block e t ∷ (nodes ++ others)) (nodes_again in_block of_d others bound (agree_front (free d bound) _ both))
        (ap₂ (λ nodes others. nodes ++ others) (case_nodes_again in_block of_cases others bound (agree_back (free d bound) _ both))
        (nodes_again in_block of_last ((last.name.text, variant_of other) ∷ others) (bind last.name bound)
        (agree_inside ((last.name.text, variant_of other) ∷ []) (binds_one last.name (variant_of other) bound) (agree_back (free d bound ++ free_cases cases bound) _ all))))
    nodes_again {e = e} {t = t} in_block (for_list x d body a b first inside is of_d of_body) others bound agree =
        let both : Agree _ others bound (free d bound ++ free body (bind x bound)) = agree_on (free_for_list e x d body bound is) agree in
        ap₂ (λ nodes others. other_node in_block e t ∷ (nodes ++ others)) (nodes_again in_block of_d others bound (agree_front (free d bound) _ both))
        (nodes_again in_block of_body ((x.text, a) ∷ others) (bind x bound) (agree_inside ((x.text, a) ∷ []) (binds_one x a bound) (agree_back (free d bound) _ both)))
    nodes_again {e = e} {t = t} in_block (for_table x rows body a b first inside is of_rows of_body) others bound agree =
        let both : Agree _ others bound (free rows bound ++ free body (bind x bound)) = agree_on (free_for_table e x rows body bound is) agree in
        ap₂ (λ nodes others. other_node in_block e t ∷ (nodes ++ others)) (nodes_again in_block of_rows others bound (agree_front (free rows bound) _ both))
        (nodes_again in_block of_body ((x.text, a) ∷ others) (bind x bound) (agree_inside ((x.text, a) ∷ []) (binds_one x a bound) (agree_back (free rows bound) _ both)))
    nodes_again {e = e} {t = t} in_block (query keys body a inside is of_body each scans by_client) others bound agree =
        let inner : Agree _ others bound (free body bound) = agree_on (free_query e keys body bound is) agree in
        ap₂ (λ nodes captured. block_node (other_part in_block e t) (other_part in_block e t ∷ parts_in nodes) captured ∷ nodes) (nodes_again true of_body others bound inner)
        (captured_again _ others bound (free body no_names) (free body bound) (free_also of_body no_names bound) inner)
    nodes_again {e = e} {t = t} in_block (update change is of_change writes) others bound agree =
        let inner : Agree _ others bound (free_change change bound) = agree_on (free_update e change bound is) agree in
        ap₂ (λ nodes captured. block_node (other_part in_block e t) (parts_in nodes) captured ∷ nodes) (change_nodes_again of_change others bound inner)
        (captured_again _ others bound (free_change change no_names) (free_change change bound) (change_also of_change no_names bound) inner)
    nodes_again {e = e} {t = t} in_block (delete change is of_change writes) others bound agree =
        let inner : Agree _ others bound (free_change change bound) = agree_on (free_delete e change bound is) agree in
        ap₂ (λ nodes captured. block_node (other_part in_block e t) (parts_in nodes) captured ∷ nodes) (change_nodes_again of_change others bound inner)
        (captured_again _ others bound (free_change change no_names) (free_change change bound) (change_also of_change no_names bound) inner)

    all_nodes_again : {locals : Named Ground} {effects : EffectSet} {es : List Expr} {ts inside : List Ground} (in_block : Bool) (typed : HaveTypes functions tables locals effects es ts inside)
        → (others : Named Ground) (bound : Names) (agree : Agree locals others bound (free_all es bound)) → each_nodes in_block (all_again typed others bound agree) ≡ each_nodes in_block typed
    all_nodes_again in_block none others bound agree = refl
    all_nodes_again in_block (more {e} inside rest of_e of_es) others bound agree =
        ap₂ (λ nodes others. nodes ++ others) (nodes_again in_block of_e others bound (agree_front (free e bound) _ agree)) (all_nodes_again in_block of_es others bound (agree_back (free e bound) _ agree))

    case_nodes_again : {locals : Named Ground} {effects : EffectSet} {cases : List Case} {ts : List Ground} {tags : Named Ground} {inside : List Ground} (in_block : Bool) (typed : HaveCases functions tables locals effects cases ts tags inside)
        → (others : Named Ground) (bound : Names) (agree : Agree locals others bound (free_cases cases bound)) → case_nodes in_block (cases_again typed others bound agree) ≡ case_nodes in_block typed
    case_nodes_again in_block no_cases others bound agree = refl
    case_nodes_again in_block (case_of {case} a held inside rest is_held of_body of_cases) others bound agree =
        ap₂ (λ nodes others. nodes ++ others)
        (nodes_again in_block of_body (held ++ others) (bind_some case.name bound) (agree_inside held (binds_held case.name a held bound is_held) (agree_on (case_level case bound) (agree_front (free_case case bound) _ agree))))
        (case_nodes_again in_block of_cases others bound (agree_back (free_case case bound) _ agree))

    change_nodes_again : {locals : Named Ground} {change : ChangeExpr} {inside : List Ground} (typed : IsChange functions tables locals change inside)
        → (others : Named Ground) (bound : Names) (agree : Agree locals others bound (free_change change bound)) → change_nodes (change_again typed others bound agree) ≡ change_nodes typed
    change_nodes_again {change = change} (changed row sets ts cond rest rows of_cond of_sets labels each) others bound agree =
        let x : Word = (out-ChangeExpr change).name in
        let entries : Named Ground = (x.text, record_of row) ∷ [] in
        let of_bound : Agree _ others bound (free (out-ChangeExpr change).cond (bind x bound) ++ free_all (exprs_of (out-ChangeExpr change).sets) (bind x bound)) = agree_on (change_level change bound) agree in
        let both = agree_inside entries (binds_one x (record_of row) bound) of_bound in
        ap₂ (λ nodes others. nodes ++ others) (nodes_again true of_cond (entries ++ others) (bind x bound) (agree_front (free (out-ChangeExpr change).cond (bind x bound)) _ both))
        (all_nodes_again true of_sets (entries ++ others) (bind x bound) (agree_back (free (out-ChangeExpr change).cond (bind x bound)) _ both))

  -- what has a type has it too where other local names have types, if the names that it uses have the same
  pub retyped : {locals : Named Ground} {effects : EffectSet} {e : Expr} {t : Ground} {inside : List Ground} → HasType functions tables locals effects e t inside
      → (bound : Names) (others : Named Ground)
      → ((y : Label) → IsAmong y (free e bound) → named y others ≡ named y locals)
      → ((y : Label) → is_local bound y ≡ true → named y others ≡ named y locals)
      → HasType functions tables others effects e t inside
  retyped typed bound others used round = again typed others bound (record { used = used; round = round })

  -- its nodes are the same
  pub retyped_nodes : {locals : Named Ground} {effects : EffectSet} {e : Expr} {t : Ground} {inside : List Ground} (in_block : Bool) (typed : HasType functions tables locals effects e t inside)
      → (bound : Names) (others : Named Ground)
      → (used : (y : Label) → IsAmong y (free e bound) → named y others ≡ named y locals)
      → (round : (y : Label) → is_local bound y ≡ true → named y others ≡ named y locals)
      → nodes_of in_block (retyped typed bound others used round) ≡ nodes_of in_block typed
  unfolding retyped
  retyped_nodes in_block typed bound others used round = nodes_again in_block typed others bound (record { used = used; round = round })

  -- the same of a change
  pub retyped_change : {locals : Named Ground} {change : ChangeExpr} {inside : List Ground} → IsChange functions tables locals change inside
      → (others : Named Ground) → ((y : Label) → IsAmong y (free_change change no_names) → named y others ≡ named y locals) → IsChange functions tables others change inside
  retyped_change typed others used = change_again typed others no_names (outermost used)

  pub retyped_change_nodes : {locals : Named Ground} {change : ChangeExpr} {inside : List Ground} (typed : IsChange functions tables locals change inside)
      → (others : Named Ground) (used : (y : Label) → IsAmong y (free_change change no_names) → named y others ≡ named y locals) → change_nodes (retyped_change typed others used) ≡ change_nodes typed
  unfolding retyped_change
  retyped_change_nodes typed others used = change_nodes_again typed others no_names (outermost used)
