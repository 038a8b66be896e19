-- What is free in an expression is used by the node that it is lowered to.
use Rattle.std.proofs.Common.{◌≡◌, ◌⊎◌, inl, inr, ⊎_elim, refl, sym, subst, ◌∙◌, ℕ, Bool, true, false, ◌||◌, List, [], ◌∷◌, ◌++◌, map, Option, Some, None}
use Rattle.std.specs.Cmp.Lexicographic.{slice_cmp}
use Rattle.std.specs.List.Sorted.{IsStrictlySortedBy}
use Rattle.std.specs.Option.{option_map}
use Rattle.std.specs.Ordering.{nat_cmp}
use Rattle.std.specs.Prelude.{bytes_eq}
use Rattle.lk_ast.specs.declared.declaration.TableDecl.{TableDecl}
use Rattle.lk_ast.specs.declared.expression.Case.{Case}
use Rattle.lk_ast.specs.declared.expression.Expr.{Expr}
use Rattle.lk_ast.specs.declared.place.Word.{Word}
use Rattle.lk_code.proofs.TypedUnder.{case_binds}
use Rattle.lk_evaluation.specs.Laws.{Both}
use Rattle.lk_index.specs.Free.{captured, free, free_case, free_change, free_lambda}
use Rattle.lk_ir.specs.Tables.{form_at, names_of}
use Rattle.lk_ir.specs.Uses as used_by
use Rattle.lk_ir.specs.Uses.{IsFreeOf, Needs, UsedIn, UsedInTails, Uses, binds}
use Rattle.lk_ir.specs.declared.nodes.CaseForm.{CaseForm}
use Rattle.lk_ir.specs.declared.nodes.Form.{Form}
use Rattle.lk_ir.specs.declared.nodes.Forms.{Forms}
use Rattle.lk_ir.specs.declared.nodes.Kind.{Kind}
use Rattle.lk_lower.specs.Lowering as low
use Rattle.lk_lower.specs.Lowering.{AreLowered, IsCase, IsLocal, IsLowered, IsMaybeLocal, Pending, case_bodies, text_of}
use Rattle.lk_lowered.proofs.Contexts.{among_number, apart_numbers}
use Rattle.lk_lowered.proofs.Inverted.{as_lambda, as_node, as_one}
use Rattle.lk_lowered.proofs.NodeKinds.{IsBlockOf, binds_are, closed_kind, delete_kind, list_kind, open_kind, query_kind, table_kind, update_kind, var_kind}
use Rattle.lk_lowered.proofs.Used.{as_operator, nothing_local}
use Rattle.lk_scope.specs.Names.{Names, bind, bind_some, is_local, no_names}
use Rattle.lk_sound.proofs.Free.{free_known}
use Rattle.lk_sound.proofs.FreeLevels.{case_level, free_all, free_cases, free_delete, free_for_list, free_for_table, free_lambda_form, free_plain, free_query, free_switch, free_switch_open, free_update, free_var, lambda_level, own_uses}
use Rattle.lk_sound.proofs.FreeUnder.{free_also}
use Rattle.lk_sound.proofs.Names.{IsAmong}
use Rattle.lk_sound.proofs.OrderedWords.{ordered_holds}
use Rattle.lk_sound.proofs.Standing.{bound_one}
use Rattle.lk_types.proofs.Members.{one_of_both}
use Rattle.lk_types.specs.Rows.{EffectSet, Label}
use Rattle.lk_types.specs.declared.ground.Ground.{Ground}
use Rattle.lk_typing.specs.Names.{Entry, Named}
use Rattle.lk_typing.specs.Typing.{HasType, HaveTypes, HaveCases, plain, lambda, var, switch, switch_open, for_list, for_table, query, update, delete, none, more, no_cases, case_of}
use Rattle.lk_typing.specs.Typing as typing

-- ---- lists

module _ (f : Forms) (x : ℕ) where
  split_uses : (ns ms : List ℕ) → UsedIn f x (ns ++ ms) → UsedIn f x ns ⊎ UsedIn f x ms
  split_uses [] ms uses = inr uses
  split_uses (n ∷ ns) ms (used_by.first uses) = inl (used_by.first uses)
  split_uses (n ∷ ns) ms (used_by.others uses) = ⊎_elim (λ (o : UsedIn f x ns). inl (used_by.others o)) (λ (o : UsedIn f x ms). inr o) (split_uses ns ms uses)

  free_tails : {ns : List ℕ} → UsedIn f x ns → UsedInTails f x [] ns
  free_tails (used_by.first uses) = used_by.first_tail tt uses
  free_tails (used_by.others uses) = used_by.other_tails (free_tails uses)

  in_one : {n : ℕ} {ns : List ℕ} → ns ≡ n ∷ [] → Uses f x n → UsedIn f x ns
  in_one are uses = subst (UsedIn f x) (sym are) (used_by.first uses)

  in_one_tail : {n : ℕ} {ns : List ℕ} (k : Kind) (j : ℕ) → binds k ≡ Some j ∷ [] → ns ≡ n ∷ [] → IsFreeOf (Some j) x → Uses f x n → UsedInTails f x (binds k) ns
  in_one_tail {n} {ns} k j binder are apart uses = subst (λ bs. UsedInTails f x bs ns) (sym binder) (subst (UsedInTails f x (Some j ∷ [])) (sym are) (used_by.first_tail apart uses))

-- ---- names that aren't bound inside

apart_of : (w : Word) (bound : Names) (y : Label) → is_local (bind w bound) y ≡ false → bytes_eq w.text y ≡ false
apart_of w bound y free = by_test (bytes_eq w.text y) (sym (bound_one w bound y) ∙ free)
  where
    by_test : (b : Bool) → (b || is_local bound y) ≡ false → b ≡ false
    by_test true is = cc
    by_test false is = refl

module _ (f : Forms) (rise : IsStrictlySortedBy (slice_cmp nat_cmp) f.locals) (x : ℕ) (y : Label) (there : IsLocal f x y) where
  some_apart : (number : Option ℕ) (name : Option Word) (bound : Names) → IsMaybeLocal f number (option_map text_of name) → is_local (bind_some name bound) y ≡ false → IsFreeOf number x
  some_apart None None bound is free = tt
  some_apart None (Some w) bound is free = absurd is
  some_apart (Some j) None bound is free = absurd is
  some_apart (Some j) (Some w) bound is free = apart_numbers f rise j x w.text y is there (apart_of w bound y free)

  -- a node that needs what it captures
  block_uses : {owner n ty number : ℕ} {names : List Label} (form : Form) → form_at f number ≡ Some form → IsBlockOf f owner n ty names form.kind → IsAmong y names → Uses f x number
  block_uses {names = names} form is k among = used_by.itself form is (subst (λ i. Needs i x) (sym k.is) (among_number f rise (names_of k.kept) names x y k.locals there among))

module _ (f : Forms) where
  -- what is used behind the cases of a switch
  behind_cases : (x owner : ℕ) (cases : List Case) (forms : List CaseForm) {within : ℕ} (es : List Expr) (bs : List (Option ℕ)) {ns : List ℕ} {before after : Pending} → Both (IsCase f) cases forms → AreLowered f owner within (case_bodies cases ++ es) before ns after
      → ((q : Pending) (lasts : List ℕ) → AreLowered f owner within es q lasts after → UsedInTails f x bs lasts) → UsedInTails f x (map case_binds forms ++ bs) ns
  behind_cases x owner [] [] es bs are lowered next = next _ _ lowered
  behind_cases x owner [] (form ∷ forms) es bs are lowered next = absurd are
  behind_cases x owner (case ∷ cases) [] es bs are lowered next = absurd are
  behind_cases x owner (case ∷ cases) (form ∷ forms) es bs are (low.more one others) next = used_by.other_tails (behind_cases x owner cases forms es bs are.1 others next)

module _ {functions : Named (Entry Ground)} {tables : List TableDecl} (f : Forms) (rise : IsStrictlySortedBy (slice_cmp nat_cmp) f.locals) (x : ℕ) (y : Label) (there : IsLocal f x y) (owner : ℕ) where
  mutual
    pub uses_free : {names : Named Ground} {effects : EffectSet} {e : Expr} {t : Ground} {inside : List Ground} {within n : ℕ} {before after : Pending} → HasType functions tables names effects e t inside → IsLowered f owner within e before n after
        → (bound : Names) → IsAmong y (free e bound) → Uses f x n
    uses_free {e = e} (plain h ts is have rule) lowered bound among =
        let o = as_operator f rise x y there h is lowered in
        ⊎_elim (λ (own : IsAmong y (own_uses (Some h) bound)). used_by.itself o.form o.is (o.own.needed bound own))
        (λ (inner : IsAmong y (free_all (typing.parts_of e) bound)).
        ⊎_elim (λ (us : UsedIn f x o.form.parts). used_by.in_part o.form o.is us)
        (λ (us : UsedIn f x o.form.tails). used_by.in_tail o.form o.is (subst (λ bs. UsedInTails f x bs o.form.tails) (sym o.own.no_binder) (free_tails f x us)))
        (split_uses f x o.form.parts o.form.tails (all_uses_free have o.lowered bound inner)))
        (one_of_both (λ z. z ≡ y) (own_uses (Some h) bound) (free_all (typing.parts_of e) bound) (subst (IsAmong y) (free_plain e h bound is) among))
    uses_free {names} {effects} {e} {t} {inside} (lambda l params own b is are moves body local) lowered bound among =
        let m = as_lambda f owner l is lowered in
        let d : HasType functions tables names effects e t inside = lambda l params own b is are moves body local in
        let outside : free e no_names ≡ free_lambda l no_names = free_lambda_form e l no_names is ∙ sym (lambda_level l no_names) in
        let kept : IsAmong y (captured l) = ordered_holds (free_lambda l no_names) y (subst (IsAmong y) outside (free_also d bound no_names y among (nothing_local y))) in
        used_by.itself m.form m.there (subst (λ k. Needs k x) (sym m.of) (among_number f rise m.xs (captured l) x y m.locals there kept))
    uses_free {e = e} (var w d rest a first last is of_d of_rest) lowered bound among =
        let m = as_node f owner _ is refl lowered in
        let one = as_one f owner m.parts in
        let next = as_one f owner m.tails in
        let k = var_kind f owner _ _ m.shell in
        ⊎_elim (λ (o : IsAmong y (free d bound)). used_by.in_part m.form m.there (in_one f x one.are (uses_free of_d one.lowered bound o)))
        (λ (o : IsAmong y (free rest (bind w bound))). used_by.in_tail m.form m.there
        (in_one_tail f x m.form.kind k.number (binds_are k.is) next.are (apart_numbers f rise k.number x w.text y k.local there (apart_of w bound y (free_known of_rest (bind w bound) y o).0)) (uses_free of_rest next.lowered (bind w bound) o)))
        (one_of_both (λ z. z ≡ y) (free d bound) (free rest (bind w bound)) (subst (IsAmong y) (free_var e w d rest bound is) among))
    uses_free {e = e} (switch d cases row tags ts first bodies is of_d of_branches each tagged local) lowered bound among =
        let m = as_node f owner _ is refl lowered in
        let one = as_one f owner m.parts in
        let k = closed_kind f owner _ _ m.shell in
        ⊎_elim (λ (o : IsAmong y (free d bound)). used_by.in_part m.form m.there (in_one f x one.are (uses_free of_d one.lowered bound o)))
        (λ (o : IsAmong y (free_cases cases bound)). used_by.in_tail m.form m.there (subst (λ bs. UsedInTails f x bs m.form.tails) (sym (binds_are k.is)) (cases_uses_free k.forms [] [] of_branches k.cases m.tails bound o)))
        (one_of_both (λ z. z ≡ y) (free d bound) (free_cases cases bound) (subst (IsAmong y) (free_switch e d cases bound is) among))
    uses_free {e = e} (switch_open d cases last rest row tags ts first bodies inside is of_d of_branches each of_last tagged local) lowered bound among =
        let m = as_node f owner _ is refl lowered in
        let one = as_one f owner m.parts in
        let k = open_kind f owner _ _ m.shell in
        ⊎_elim (λ (both : IsAmong y (free d bound ++ free_cases cases bound)).
        ⊎_elim (λ (o : IsAmong y (free d bound)). used_by.in_part m.form m.there (in_one f x one.are (uses_free of_d one.lowered bound o)))
        (λ (o : IsAmong y (free_cases cases bound)). used_by.in_tail m.form m.there (subst (λ bs. UsedInTails f x bs m.form.tails) (sym (binds_are k.is)) (cases_uses_free k.forms (last.body ∷ []) (Some k.number ∷ []) of_branches k.cases m.tails bound o)))
        (one_of_both (λ z. z ≡ y) (free d bound) (free_cases cases bound) both))
        (λ (o : IsAmong y (free last.body (bind last.name bound))). used_by.in_tail m.form m.there (subst (λ bs. UsedInTails f x bs m.form.tails) (sym (binds_are k.is))
        (behind_cases f x owner cases k.forms (last.body ∷ []) (Some k.number ∷ []) k.cases m.tails (λ q lasts final.
        let ended = as_one f owner final in
        subst (UsedInTails f x (Some k.number ∷ [])) (sym ended.are)
        (used_by.first_tail (apart_numbers f rise k.number x last.name.text y k.local there (apart_of last.name bound y (free_known of_last (bind last.name bound) y o).0)) (uses_free of_last ended.lowered (bind last.name bound) o))))))
        (one_of_both (λ z. z ≡ y) (free d bound ++ free_cases cases bound) (free last.body (bind last.name bound)) (subst (IsAmong y) (free_switch_open e d cases last bound is) among))
    uses_free {e = e} (for_list w d body a b first inside is of_d of_body) lowered bound among =
        let m = as_node f owner _ is refl lowered in
        let one = as_one f owner m.parts in
        let next = as_one f owner m.tails in
        let k = list_kind f owner _ _ m.shell in
        ⊎_elim (λ (o : IsAmong y (free d bound)). used_by.in_part m.form m.there (in_one f x one.are (uses_free of_d one.lowered bound o)))
        (λ (o : IsAmong y (free body (bind w bound))). used_by.in_tail m.form m.there
        (in_one_tail f x m.form.kind k.number (binds_are k.is) next.are (apart_numbers f rise k.number x w.text y k.local there (apart_of w bound y (free_known of_body (bind w bound) y o).0)) (uses_free of_body next.lowered (bind w bound) o)))
        (one_of_both (λ z. z ≡ y) (free d bound) (free body (bind w bound)) (subst (IsAmong y) (free_for_list e w d body bound is) among))
    uses_free {e = e} (for_table w d body a b first inside is of_d of_body) lowered bound among =
        let m = as_node f owner _ is refl lowered in
        let one = as_one f owner m.parts in
        let next = as_one f owner m.tails in
        let k = table_kind f owner _ _ m.shell in
        ⊎_elim (λ (o : IsAmong y (free d bound)). used_by.in_part m.form m.there (in_one f x one.are (uses_free of_d one.lowered bound o)))
        (λ (o : IsAmong y (free body (bind w bound))). used_by.in_tail m.form m.there
        (in_one_tail f x m.form.kind k.number (binds_are k.is) next.are (apart_numbers f rise k.number x w.text y k.local there (apart_of w bound y (free_known of_body (bind w bound) y o).0)) (uses_free of_body next.lowered (bind w bound) o)))
        (one_of_both (λ z. z ≡ y) (free d bound) (free body (bind w bound)) (subst (IsAmong y) (free_for_table e w d body bound is) among))
    uses_free {names} {effects} {e} {t} (query keys body a inside is of_body each scans by_client) lowered bound among =
        let m = as_node f owner _ is refl lowered in
        let d : HasType functions tables names effects e t _ = query keys body a inside is of_body each scans by_client in
        block_uses f rise x y there m.form m.there (query_kind f owner _ _ m.shell) (ordered_holds (free body no_names) y (subst (IsAmong y) (free_query e keys body no_names is) (free_also d bound no_names y among (nothing_local y))))
    uses_free {names} {effects} {e} {t} {inside} (update change is of_change writes) lowered bound among =
        let m = as_node f owner _ is refl lowered in
        let d : HasType functions tables names effects e t inside = update change is of_change writes in
        block_uses f rise x y there m.form m.there (update_kind f owner _ _ m.shell) (ordered_holds (free_change change no_names) y (subst (IsAmong y) (free_update e change no_names is) (free_also d bound no_names y among (nothing_local y))))
    uses_free {names} {effects} {e} {t} {inside} (delete change is of_change writes) lowered bound among =
        let m = as_node f owner _ is refl lowered in
        let d : HasType functions tables names effects e t inside = delete change is of_change writes in
        block_uses f rise x y there m.form m.there (delete_kind f owner _ _ m.shell) (ordered_holds (free_change change no_names) y (subst (IsAmong y) (free_delete e change no_names is) (free_also d bound no_names y among (nothing_local y))))

    all_uses_free : {names : Named Ground} {effects : EffectSet} {es : List Expr} {ts inside : List Ground} {within : ℕ} {ns : List ℕ} {before after : Pending} → HaveTypes functions tables names effects es ts inside → AreLowered f owner within es before ns after
        → (bound : Names) → IsAmong y (free_all es bound) → UsedIn f x ns
    all_uses_free none low.none bound among = absurd among
    all_uses_free (more {e = e} {es = es} inside rest of_e of_es) (low.more one others) bound among =
        ⊎_elim (λ (o : IsAmong y (free e bound)). used_by.first (uses_free of_e one bound o)) (λ (o : IsAmong y (free_all es bound)). used_by.others (all_uses_free of_es others bound o)) (one_of_both (λ z. z ≡ y) (free e bound) (free_all es bound) among)

    cases_uses_free : {names : Named Ground} {effects : EffectSet} {cases : List Case} {ts : List Ground} {tags : Named Ground} {inside : List Ground} {within : ℕ} {ns : List ℕ} {before after : Pending}
        → (forms : List CaseForm) (es : List Expr) (bs : List (Option ℕ)) → HaveCases functions tables names effects cases ts tags inside → Both (IsCase f) cases forms → AreLowered f owner within (case_bodies cases ++ es) before ns after → (bound : Names) → IsAmong y (free_cases cases bound) → UsedInTails f x (map case_binds forms ++ bs) ns
    cases_uses_free forms es bs no_cases are lowered bound among = absurd among
    cases_uses_free [] es bs (case_of a held inside rest is_held of_body of_branches) are lowered bound among = absurd are
    cases_uses_free (form ∷ forms) es bs (case_of {case = case} {cases = cases} a held inside rest is_held of_body of_branches) are (low.more one others) bound among =
        ⊎_elim (λ (o : IsAmong y (free_case case bound)).
        let own : IsAmong y (free case.body (bind_some case.name bound)) = subst (IsAmong y) (case_level case bound) o in
        used_by.first_tail (some_apart f rise x y there form.name case.name bound are.0.name (free_known of_body (bind_some case.name bound) y own).0) (uses_free of_body one (bind_some case.name bound) own))
        (λ (o : IsAmong y (free_cases cases bound)). used_by.other_tails (cases_uses_free forms es bs of_branches are.1 others bound o))
        (one_of_both (λ z. z ≡ y) (free_case case bound) (free_cases cases bound) among)
