-- A typed expression has as many nodes as its outline, wherever it stands.
use Rattle.std.proofs.Common.{◌≡◌, refl, sym, ap, ◌∙◌, ℕ, suc, ◌+◌, List, [], ◌∷◌, ◌++◌, length, length-append}
use Rattle.lk_ast.specs.Children.{exprs_of}
use Rattle.lk_ast.specs.declared.declaration.TableDecl.{TableDecl}
use Rattle.lk_ast.specs.declared.expression.Case.{Case}
use Rattle.lk_ast.specs.declared.expression.ChangeExpr.{ChangeExpr, out-ChangeExpr}
use Rattle.lk_ast.specs.declared.expression.Expr.{Expr}
use Rattle.lk_types.specs.Rows.{EffectSet}
use Rattle.lk_types.specs.declared.ground.Ground.{Ground}
use Rattle.lk_types.specs.declared.ground.Ground.TheVariants as known
use Rattle.lk_typing.specs.Names.{Named, Entry}
use Rattle.lk_typing.specs.Types.{variant_of}
use Rattle.lk_typing.specs.Typing.{HasType, HaveTypes, HaveCases, IsChange, plain, lambda, var, switch, switch_open, for_list, for_table, query, update, delete, none, more, no_cases, case_of, changed}
use Rattle.lk_outline.specs.Outline.{Context, Around, In, before, with_names, with_some, where_bound, outline, outline_case, outline_change}
use Rattle.lk_outline.proofs.Forms.{outlines, case_outlines, case_level, change_level, lambda_context, bound_context, block_context, outline_plain, outline_lambda_form, outline_var, outline_for_list, outline_for_table, outline_switch, outline_switch_open, outline_query, outline_update, outline_delete}

-- two parts, one after the other
both : (ts us : List Ground) (a b : In) (c : Context) (n : ℕ)
    → length ts ≡ length (a c n) → length us ≡ length (b c (n + length (a c n))) → length (ts ++ us) ≡ length (before a b c n)
both ts us a b c n first rest =
    length-append ts us ∙ (λ i. first i + rest i) ∙ sym (length-append (a c n) (b c (n + length (a c n))))

module _ {functions : Named (Entry Ground)} {tables : List TableDecl} where
  mutual
    pub length_of : {names : Named Ground} {effects : EffectSet} {e : Expr} {t : Ground} {inside : List Ground} → HasType functions tables names effects e t inside
        → (c : Context) (n : ℕ) → length (t ∷ inside) ≡ length (outline e c n)
    length_of {e = e} (plain h ts is have by) c n = ap suc (lengths_of have c (1 + n)) ∙ sym (ap length (outline_plain e h c n is))
    length_of {e = e} (lambda l params own b is named moves body local) c n =
        ap suc (length_of body (lambda_context (with_names l.params (1 + n)) n c) (1 + n))
        ∙ sym (ap length (outline_lambda_form e l c n is))
    length_of {e = e} {t = t} (var x d rest a first last is one then) c n =
        let bind : Named ℕ → Named ℕ = with_names (x ∷ []) (1 + n) in
        ap suc (both (a ∷ first) (t ∷ last) (outline d) (where_bound bind (outline rest)) c (1 + n) (length_of one c (1 + n)) (length_of then (bound_context bind c) _))
        ∙ sym (ap length (outline_var e x d rest c n is))
    length_of {e = e} (switch d cases row tags ts first bodies is one have same made local) c n =
        ap suc (both (variant_of row ∷ first) bodies (outline d) (case_outlines cases (1 + n)) c (1 + n) (length_of one c (1 + n)) (case_lengths have (1 + n) c _))
        ∙ sym (ap length (outline_switch e d cases c n is))
    length_of {e = e} {t = t} (switch_open d cases last rest row tags ts first bodies inside is one have same then made local) c n =
        let bind : Named ℕ → Named ℕ = with_names (last.name ∷ []) (1 + n) in
        ap suc (both (variant_of row ∷ first) (bodies ++ (t ∷ inside)) (outline d) (before (case_outlines cases (1 + n)) (where_bound bind (outline last.body))) c (1 + n) (length_of one c (1 + n))
        (both bodies (t ∷ inside) (case_outlines cases (1 + n)) (where_bound bind (outline last.body)) c _ (case_lengths have (1 + n) c _) (length_of then (bound_context bind c) _)))
        ∙ sym (ap length (outline_switch_open e d cases last c n is))
    length_of {e = e} (for_list x d body a b first inside is one then) c n =
        let bind : Named ℕ → Named ℕ = with_names (x ∷ []) (1 + n) in
        ap suc (both (known.List a ∷ first) (known.List b ∷ inside) (outline d) (where_bound bind (outline body)) c (1 + n) (length_of one c (1 + n)) (length_of then (bound_context bind c) _))
        ∙ sym (ap length (outline_for_list e x d body c n is))
    length_of {e = e} (for_table x rows body a b first inside is one then) c n =
        let bind : Named ℕ → Named ℕ = with_names (x ∷ []) (1 + n) in
        ap suc (both (known.List a ∷ first) (known.List b ∷ inside) (outline rows) (where_bound bind (outline body)) c (1 + n) (length_of one c (1 + n)) (length_of then (bound_context bind c) _))
        ∙ sym (ap length (outline_for_table e x rows body c n is))
    length_of {e = e} (query keys body a inside is one sorted scans own) c n = ap suc (length_of one (block_context Around.Query c) (1 + n)) ∙ sym (ap length (outline_query e keys body c n is))
    length_of {e = e} (update change is changes writes) c n = ap suc (change_length changes (1 + n) (block_context Around.Change c) (1 + n)) ∙ sym (ap length (outline_update e change c n is))
    length_of {e = e} (delete change is changes writes) c n = ap suc (change_length changes (1 + n) (block_context Around.Change c) (1 + n)) ∙ sym (ap length (outline_delete e change c n is))

    pub lengths_of : {names : Named Ground} {effects : EffectSet} {es : List Expr} {ts inside : List Ground} → HaveTypes functions tables names effects es ts inside
        → (c : Context) (n : ℕ) → length inside ≡ length (outlines es c n)
    lengths_of none c n = refl
    lengths_of (more {e} {es} {t} inside rest first others) c n = both (t ∷ inside) rest (outline e) (outlines es) c n (length_of first c n) (lengths_of others c _)

    pub case_lengths : {names : Named Ground} {effects : EffectSet} {cases : List Case} {ts : List Ground} {tags : Named Ground} {inside : List Ground} → HaveCases functions tables names effects cases ts tags inside
        → (binder : ℕ) (c : Context) (n : ℕ) → length inside ≡ length (case_outlines cases binder c n)
    case_lengths no_cases binder c n = refl
    case_lengths (case_of {case} {cases} {t} a bound inside rest held body others) binder c n =
        both (t ∷ inside) rest (outline_case case binder) (case_outlines cases binder) c n
        (length_of body (bound_context (with_some case.name binder) c) n ∙ sym (ap (λ f. length (f c n)) (case_level case binder))) (case_lengths others binder c _)

    pub change_length : {names : Named Ground} {change : ChangeExpr} {inside : List Ground} → IsChange functions tables names change inside
        → (binder : ℕ) (c : Context) (n : ℕ) → length inside ≡ length (outline_change change binder c n)
    change_length {change = change} (changed row sets ts cond rest has holds values named fields) binder c n =
        let bind : Named ℕ → Named ℕ = with_names ((out-ChangeExpr change).name ∷ []) binder in
        both (known.Bool ∷ cond) rest (where_bound bind (outline (out-ChangeExpr change).cond)) (where_bound bind (outlines (exprs_of (out-ChangeExpr change).sets))) c n
        (length_of holds (bound_context bind c) n) (lengths_of values (bound_context bind c) _)
        ∙ sym (ap (λ f. length (f c n)) (change_level change binder))
