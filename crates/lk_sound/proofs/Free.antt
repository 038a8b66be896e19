-- The free names of an expression that has a type have types themselves.
use Rattle.std.proofs.Common.{◌≡◌, refl, sym, ap, ◌∙◌, subst, Bool, true, false, ◌||◌, List, [], ◌∷◌, ◌++◌, ⊎_elim, Option, Some, None, is_some, IsSome, cond}
use Rattle.std.specs.Option.{option_or}
use Rattle.lk_ast.specs.declared.declaration.TableDecl.{TableDecl}
use Rattle.lk_ast.specs.declared.expression.Case.{Case}
use Rattle.lk_ast.specs.declared.expression.ChangeExpr.{ChangeExpr, out-ChangeExpr}
use Rattle.lk_ast.specs.declared.expression.Expr.{Expr}
use Rattle.lk_ast.specs.declared.place.Word.{Word}
use Rattle.lk_index.specs.Free.{use_of, free, free_change}
use Rattle.lk_scope.specs.Names.{Names, is_local, bind, bind_all, bind_some}
use Rattle.lk_types.specs.Rows.{Label, EffectSet}
use Rattle.lk_types.specs.declared.ground.Ground.{Ground}
use Rattle.lk_typing.specs.Heads as operator
use Rattle.lk_typing.specs.Heads.{Head}
use Rattle.lk_typing.specs.Names.{Named, named, Entry}
use Rattle.lk_typing.specs.Rules.{Rule}
use Rattle.lk_typing.specs.Types.{record_of, variant_of}
use Rattle.lk_typing.specs.Typing.{HasType, HaveTypes, HaveCases, IsChange, plain, lambda, var, switch, switch_open, for_list, for_table, query, update, delete, none, more, no_cases, case_of, changed}
use Rattle.lk_types.proofs.Members.{one_of_both}
use Rattle.lk_sound.proofs.Standing.{named_behind, Binds, binds_one, binds_held, binds_all}
use Rattle.lk_sound.proofs.FreeLevels.{case_level, change_level, free_all, free_cases, own_uses, free_plain, free_lambda_form, free_var, free_switch, free_switch_open, free_for_list, free_for_table, free_query, free_update, free_delete}
use Rattle.lk_sound.proofs.Names.{IsAmong}

-- names that aren't bound there and have types
pub record AreKnown (locals : Named Ground) (bound : Names) (xs : List Label) : Type 0 where
  pub known : (x : Label) → IsAmong x xs → (is_local bound x ≡ false) × IsSome (named x locals)

module _ {locals : Named Ground} {bound : Names} where
  none_known : AreKnown locals bound []
  none_known = record { known = λ x among. absurd among }

  both_known : {xs ys : List Label} → AreKnown locals bound xs → AreKnown locals bound ys → AreKnown locals bound (xs ++ ys)
  both_known {xs = xs} {ys = ys} front back =
      record { known = λ x among. ⊎_elim (λ (o : IsAmong x xs). front.known x o) (λ (o : IsAmong x ys). back.known x o) (one_of_both (λ y. y ≡ x) xs ys among) }

  these_known : {xs ys : List Label} → xs ≡ ys → AreKnown locals bound ys → AreKnown locals bound xs
  these_known same all = subst (AreKnown locals bound) (sym same) all

  -- a use of a name that has a type
  use_known : (x : Label) → IsSome (named x locals) → AreKnown locals bound (use_of x bound)
  use_known x some = by_test (is_local bound x) refl
    where
      by_test : (b : Bool) → is_local bound x ≡ b → AreKnown locals bound (cond b [] (x ∷ []))
      by_test true is = none_known
      by_test false is = record { known = λ y among. ⊎_elim (λ (same : x ≡ y). subst (λ z. (is_local bound z ≡ false) × IsSome (named z locals)) same (is, some)) (λ (o : ⊥). absurd o) among }

  -- names that aren't bound inside, where more is bound and has types
  pub outside_known : {inner : Names} {xs : List Label} (entries : Named Ground) → Binds bound inner entries → AreKnown (entries ++ locals) inner xs → AreKnown locals bound xs
  outside_known entries binds all =
      record {
        known = λ x among.
            let is = all.known x among in
            by_entry (named x entries) (is_local bound x) (named x locals) (sym (binds x) ∙ is.0) (ap is_some (sym (named_behind x entries locals)) ∙ is.1);
      }
    where
      by_entry : (o : Option Ground) (b : Bool) (t : Option Ground) → (is_some o || b) ≡ false → is_some (option_or o t) ≡ true → (b ≡ false) × (is_some t ≡ true)
      by_entry None b t not_bound some = (not_bound, some)
      by_entry (Some u) b t not_bound some = absurd cc

-- a local name has a type
pub local_typed : {functions : Named (Entry Ground)} {tables : List TableDecl} {names : Named Ground} {effects : EffectSet} {x : Label} {ts : List Ground} {t : Ground}
    → Rule functions tables names effects (operator.Local x) ts t → named x names ≡ Some t
local_typed (Rule.local is) = is

own_known : {functions : Named (Entry Ground)} {tables : List TableDecl} {names : Named Ground} {effects : EffectSet} {ts : List Ground} {t : Ground}
    → (bound : Names) (h : Head) → Rule functions tables names effects h ts t → AreKnown names bound (own_uses (Some h) bound)
own_known bound (operator.Local x) rule = use_known x (ap is_some (local_typed rule))
own_known bound other rule = none_known

module _ {functions : Named (Entry Ground)} {tables : List TableDecl} where
  mutual
    pub known_in : {names : Named Ground} {effects : EffectSet} {e : Expr} {t : Ground} {inside : List Ground} → HasType functions tables names effects e t inside → (bound : Names) → AreKnown names bound (free e bound)
    known_in {e = e} (plain h ts is parts rule) bound = these_known (free_plain e h bound is) (both_known (own_known bound h rule) (all_known parts bound))
    known_in {e = e} (lambda l params own b is are moves body local) bound = these_known (free_lambda_form e l bound is) (outside_known params (binds_all l.params params bound are) (known_in body (bind_all l.params bound)))
    known_in {e = e} (var x d rest a first last is of_d of_rest) bound = these_known (free_var e x d rest bound is) (both_known (known_in of_d bound) (outside_known ((x.text, a) ∷ []) (binds_one x a bound) (known_in of_rest (bind x bound))))
    known_in {e = e} (switch d cases row tags ts first bodies is of_d of_cases each tagged local) bound = these_known (free_switch e d cases bound is) (both_known (known_in of_d bound) (cases_known of_cases bound))
    known_in {e = e} (switch_open d cases last other row tags ts first bodies inside is of_d of_cases each of_last tagged local) bound =
        these_known (free_switch_open e d cases last bound is)
        (both_known (both_known (known_in of_d bound) (cases_known of_cases bound)) (outside_known ((last.name.text, variant_of other) ∷ []) (binds_one last.name (variant_of other) bound) (known_in of_last (bind last.name bound))))
    known_in {e = e} (for_list x d body a b first inside is of_d of_body) bound = these_known (free_for_list e x d body bound is) (both_known (known_in of_d bound) (outside_known ((x.text, a) ∷ []) (binds_one x a bound) (known_in of_body (bind x bound))))
    known_in {e = e} (for_table x rows body a b first inside is of_d of_body) bound = these_known (free_for_table e x rows body bound is) (both_known (known_in of_d bound) (outside_known ((x.text, a) ∷ []) (binds_one x a bound) (known_in of_body (bind x bound))))
    known_in {e = e} (query keys body a inside is of_body each scans by_client) bound = these_known (free_query e keys body bound is) (known_in of_body bound)
    known_in {e = e} (update change is of_change writes) bound = these_known (free_update e change bound is) (change_known of_change bound)
    known_in {e = e} (delete change is of_change writes) bound = these_known (free_delete e change bound is) (change_known of_change bound)

    pub all_known : {names : Named Ground} {effects : EffectSet} {es : List Expr} {ts inside : List Ground} → HaveTypes functions tables names effects es ts inside → (bound : Names) → AreKnown names bound (free_all es bound)
    all_known none bound = none_known
    all_known (more inside rest of_e of_es) bound = both_known (known_in of_e bound) (all_known of_es bound)

    pub cases_known : {names : Named Ground} {effects : EffectSet} {cases : List Case} {ts : List Ground} {tags : Named Ground} {inside : List Ground} → HaveCases functions tables names effects cases ts tags inside
        → (bound : Names) → AreKnown names bound (free_cases cases bound)
    cases_known no_cases bound = none_known
    cases_known (case_of {case = case} a held inside rest is_held of_body of_cases) bound =
        both_known (these_known (case_level case bound) (outside_known held (binds_held case.name a held bound is_held) (known_in of_body (bind_some case.name bound)))) (cases_known of_cases bound)

    pub change_known : {names : Named Ground} {change : ChangeExpr} {inside : List Ground} → IsChange functions tables names change inside → (bound : Names) → AreKnown names bound (free_change change bound)
    change_known {change = change} (changed row sets ts cond rest rows of_cond of_sets labels each) bound =
        let x : Word = (out-ChangeExpr change).name in
        let entries : Named Ground = (x.text, record_of row) ∷ [] in
        these_known (change_level change bound) (both_known (outside_known entries (binds_one x (record_of row) bound) (known_in of_cond (bind x bound))) (outside_known entries (binds_one x (record_of row) bound) (all_known of_sets (bind x bound))))

  -- a free name isn't bound round the expression, and has a type there
  pub free_known : {locals : Named Ground} {effects : EffectSet} {e : Expr} {t : Ground} {inside : List Ground} → HasType functions tables locals effects e t inside
      → (bound : Names) (x : Label) → IsAmong x (free e bound) → (is_local bound x ≡ false) × IsSome (named x locals)
  free_known typed bound = (known_in typed bound).known
