-- A name that is free where some names are bound round an expression is free where others are, unless it is one of those.
use Rattle.std.proofs.Common.{◌≡◌, sym, ap, ◌∙◌, subst, Bool, true, false, ◌||◌, cond, List, [], ◌∷◌, ◌++◌, inl, inr, ⊎_elim, Some, is_some}
use Rattle.lk_ast.specs.declared.declaration.TableDecl.{TableDecl}
use Rattle.lk_ast.specs.declared.expression.Case.{Case}
use Rattle.lk_ast.specs.declared.expression.ChangeExpr.{ChangeExpr, out-ChangeExpr}
use Rattle.lk_ast.specs.declared.expression.Expr.{Expr}
use Rattle.lk_ast.specs.declared.place.Word.{Word}
use Rattle.lk_index.specs.Free.{use_of, free, free_change}
use Rattle.lk_scope.specs.Names.{Names, is_local, bind, bind_all, bind_some}
use Rattle.lk_types.specs.Rows.{Label, EffectSet}
use Rattle.lk_types.specs.declared.ground.Ground.{Ground}
use Rattle.lk_typing.specs.Heads as operator
use Rattle.lk_typing.specs.Heads.{Head}
use Rattle.lk_typing.specs.Names.{Named, named, Entry}
use Rattle.lk_typing.specs.Types.{record_of, variant_of}
use Rattle.lk_typing.specs.Typing.{HasType, HaveTypes, HaveCases, IsChange, plain, lambda, var, switch, switch_open, for_list, for_table, query, update, delete, none, more, no_cases, case_of, changed}
use Rattle.lk_sound.proofs.Free.{AreKnown, known_in, all_known}
use Rattle.lk_sound.proofs.FreeLevels.{case_level, change_level, free_all, free_cases, own_uses, free_plain, free_lambda_form, free_var, free_switch, free_switch_open, free_for_list, free_for_table, free_query, free_update, free_delete}
use Rattle.lk_types.proofs.Members.{one_of_both, one_in_front, one_in_back}
use Rattle.lk_sound.proofs.Names.{IsAmong}
use Rattle.lk_sound.proofs.Standing.{Binds, binds_one, binds_held, binds_all}

-- of the first names those that aren't bound are among the second
abbrev pub AreAlso : Names → List Label → List Label → Type 0
AreAlso other xs ys = (y : Label) → IsAmong y xs → is_local other y ≡ false → IsAmong y ys

none_also : (other : Names) → AreAlso other [] []
none_also other y among not_bound = among

both_also : (other : Names) (xs ys front back : List Label) → AreAlso other xs front → AreAlso other ys back → AreAlso other (xs ++ ys) (front ++ back)
both_also other xs ys front back firsts lasts y among not_bound =
    ⊎_elim (λ (o : IsAmong y xs). one_in_front (λ x. x ≡ y) front back (firsts y o not_bound)) (λ (o : IsAmong y ys). one_in_back (λ x. x ≡ y) front back (lasts y o not_bound)) (one_of_both (λ x. x ≡ y) xs ys among)

these_also : (other : Names) {xs ys front back : List Label} → xs ≡ front → ys ≡ back → AreAlso other front back → AreAlso other xs ys
these_also other xs_are ys_are also y among not_bound = subst (IsAmong y) (sym ys_are) (also y (subst (IsAmong y) xs_are among) not_bound)

by_entry : (o b c : Bool) → (o || b) ≡ false → c ≡ false → (o || c) ≡ false
by_entry true b c free is = free
by_entry false b c free is = is

-- where the same names are bound besides
inside_also : (locals : Named Ground) (bound inner other outer : Names) (entries : Named Ground) (xs ys : List Label) → Binds bound inner entries → Binds other outer entries → AreKnown locals inner xs
    → AreAlso outer xs ys → AreAlso other xs ys
inside_also locals bound inner other outer entries xs ys binds others are also y among not_bound =
    also y among (others y ∙ by_entry (is_some (named y entries)) (is_local bound y) (is_local other y) (sym (binds y) ∙ (are.known y among).0) not_bound)

-- a use of a name
use_also : (x : Label) (bound other : Names) → AreAlso other (use_of x bound) (use_of x other)
use_also x bound other y among not_bound = by_test (is_local bound x) among
  where
    is_free : x ≡ y → IsAmong y (use_of x other)
    is_free same = subst (λ b. IsAmong y (cond b [] (x ∷ []))) (sym (ap (is_local other) same ∙ not_bound)) (inl same)

    by_test : (b : Bool) → IsAmong y (cond b [] (x ∷ [])) → IsAmong y (use_of x other)
    by_test true among = absurd among
    by_test false (inl same) = is_free same
    by_test false (inr among) = absurd among

own_also : (h : Head) (bound other : Names) → AreAlso other (own_uses (Some h) bound) (own_uses (Some h) other)
own_also (operator.Local x) bound other y among not_bound = use_also x bound other y among not_bound
own_also other_head bound other y among not_bound = absurd among

module _ {functions : Named (Entry Ground)} {tables : List TableDecl} where
  mutual
    pub free_also : {locals : Named Ground} {effects : EffectSet} {e : Expr} {t : Ground} {inside : List Ground} → HasType functions tables locals effects e t inside → (bound other : Names) → AreAlso other (free e bound) (free e other)
    free_also {e = e} (plain h ts is parts rule) bound other =
        these_also other (free_plain e h bound is) (free_plain e h other is) (both_also other _ _ _ _ (own_also h bound other) (all_also parts bound other))
    free_also {locals} {e = e} (lambda l params own b is are moves body local) bound other =
        these_also other (free_lambda_form e l bound is) (free_lambda_form e l other is)
        (inside_also _ bound _ other _ params _ _ (binds_all l.params params bound are) (binds_all l.params params other are) (known_in body (bind_all l.params bound)) (free_also body (bind_all l.params bound) (bind_all l.params other)))
    free_also {e = e} (var x d rest a first last is of_d of_rest) bound other =
        these_also other (free_var e x d rest bound is) (free_var e x d rest other is) (both_also other _ _ _ _ (free_also of_d bound other)
        (inside_also _ bound _ other _ ((x.text, a) ∷ []) _ _ (binds_one x a bound) (binds_one x a other) (known_in of_rest (bind x bound)) (free_also of_rest (bind x bound) (bind x other))))
    free_also {e = e} (switch d cases row tags ts first bodies is of_d of_cases each tagged local) bound other =
        these_also other (free_switch e d cases bound is) (free_switch e d cases other is) (both_also other _ _ _ _ (free_also of_d bound other) (cases_also of_cases bound other))
    free_also {e = e} (switch_open d cases last rest row tags ts first bodies inside is of_d of_cases each of_last tagged local) bound other =
        these_also other (free_switch_open e d cases last bound is) (free_switch_open e d cases last other is)
        (both_also other _ _ _ _ (both_also other _ _ _ _ (free_also of_d bound other) (cases_also of_cases bound other))
        (inside_also _ bound _ other _ ((last.name.text, variant_of rest) ∷ []) _ _ (binds_one last.name (variant_of rest) bound) (binds_one last.name (variant_of rest) other) (known_in of_last (bind last.name bound))
        (free_also of_last (bind last.name bound) (bind last.name other))))
    free_also {e = e} (for_list x d body a b first inside is of_d of_body) bound other =
        these_also other (free_for_list e x d body bound is) (free_for_list e x d body other is) (both_also other _ _ _ _ (free_also of_d bound other)
        (inside_also _ bound _ other _ ((x.text, a) ∷ []) _ _ (binds_one x a bound) (binds_one x a other) (known_in of_body (bind x bound)) (free_also of_body (bind x bound) (bind x other))))
    free_also {e = e} (for_table x rows body a b first inside is of_rows of_body) bound other =
        these_also other (free_for_table e x rows body bound is) (free_for_table e x rows body other is) (both_also other _ _ _ _ (free_also of_rows bound other)
        (inside_also _ bound _ other _ ((x.text, a) ∷ []) _ _ (binds_one x a bound) (binds_one x a other) (known_in of_body (bind x bound)) (free_also of_body (bind x bound) (bind x other))))
    free_also {e = e} (query keys body a inside is of_body each scans by_client) bound other = these_also other (free_query e keys body bound is) (free_query e keys body other is) (free_also of_body bound other)
    free_also {e = e} (update change is of_change writes) bound other = these_also other (free_update e change bound is) (free_update e change other is) (change_also of_change bound other)
    free_also {e = e} (delete change is of_change writes) bound other = these_also other (free_delete e change bound is) (free_delete e change other is) (change_also of_change bound other)

    all_also : {locals : Named Ground} {effects : EffectSet} {es : List Expr} {ts inside : List Ground} → HaveTypes functions tables locals effects es ts inside → (bound other : Names) → AreAlso other (free_all es bound) (free_all es other)
    all_also none bound other = none_also other
    all_also (more inside rest of_e of_es) bound other = both_also other _ _ _ _ (free_also of_e bound other) (all_also of_es bound other)

    cases_also : {locals : Named Ground} {effects : EffectSet} {cases : List Case} {ts : List Ground} {tags : Named Ground} {inside : List Ground} → HaveCases functions tables locals effects cases ts tags inside
        → (bound other : Names) → AreAlso other (free_cases cases bound) (free_cases cases other)
    cases_also no_cases bound other = none_also other
    cases_also (case_of {case = case} a held inside rest is_held of_body of_cases) bound other =
        both_also other _ _ _ _ (these_also other (case_level case bound) (case_level case other)
        (inside_also _ bound _ other _ held _ _ (binds_held case.name a held bound is_held) (binds_held case.name a held other is_held) (known_in of_body (bind_some case.name bound)) (free_also of_body (bind_some case.name bound) (bind_some case.name other))))
        (cases_also of_cases bound other)

    pub change_also : {locals : Named Ground} {change : ChangeExpr} {inside : List Ground} → IsChange functions tables locals change inside → (bound other : Names) → AreAlso other (free_change change bound) (free_change change other)
    change_also {change = change} (changed row sets ts cond rest rows of_cond of_sets labels each) bound other =
        let x : Word = (out-ChangeExpr change).name in
        let entries : Named Ground = (x.text, record_of row) ∷ [] in
        these_also other (change_level change bound) (change_level change other)
        (both_also other _ _ _ _
        (inside_also _ bound _ other _ entries _ _ (binds_one x (record_of row) bound) (binds_one x (record_of row) other) (known_in of_cond (bind x bound)) (free_also of_cond (bind x bound) (bind x other)))
        (inside_also _ bound _ other _ entries _ _ (binds_one x (record_of row) bound) (binds_one x (record_of row) other) (all_known of_sets (bind x bound)) (all_also of_sets (bind x bound) (bind x other))))
