-- The free names of a typed expression: the type of each is that of a node in the expression.
use Rattle.std.proofs.Common.{◌≡◌, refl, sym, ap, ◌∙◌, subst, Bool, true, false, ◌||◌, List, [], ◌∷◌, ◌++◌, append_assoc, ⊎_elim, inl, inr, Option, Some, None, is_some, cond}
use Rattle.std.specs.Option.{option_or}
use Rattle.lk_ast.specs.declared.declaration.TableDecl.{TableDecl}
use Rattle.lk_ast.specs.declared.expression.Case.{Case}
use Rattle.lk_ast.specs.declared.expression.ChangeExpr.{ChangeExpr, out-ChangeExpr}
use Rattle.lk_ast.specs.declared.expression.Expr.{Expr}
use Rattle.lk_ast.specs.declared.place.Word.{Word}
use Rattle.lk_index.specs.Free.{free, free_change, use_of}
use Rattle.lk_scope.specs.Names.{Names, bind, bind_all, bind_some, is_local}
use Rattle.lk_sites.specs.Pending.{Pending}
use Rattle.lk_sites.specs.Takes.{Takes, called, none as taken, other}
use Rattle.lk_sound.proofs.FreeLevels.{case_level, change_level, free_all, free_cases, free_delete, free_for_list, free_for_table, free_lambda_form, free_plain, free_query, free_switch, free_switch_open, free_update, free_var, own_uses}
use Rattle.lk_types.proofs.Members.{one_in_back, one_in_front, one_of_both}
use Rattle.lk_sound.proofs.Names.{IsAmong}
use Rattle.lk_sound.proofs.Standing.{Binds, binds_all, binds_held, binds_one, named_behind}
use Rattle.lk_sound.specs.Nodes.{TypedNode, Use, case_nodes, change_nodes, each_nodes, nodes_of}
use Rattle.lk_types.specs.Each.{Each, OneOf}
use Rattle.lk_types.specs.Rows.{Label, EffectSet}
use Rattle.lk_types.specs.declared.ground.Ground.{Ground}
use Rattle.lk_typing.specs.Heads.{Head}
use Rattle.lk_typing.specs.Names.{Entry, Named, named}
use Rattle.lk_typing.specs.Rules.{Rule}
use Rattle.lk_typing.specs.Rules as rule
use Rattle.lk_typing.specs.Types.{record_of, variant_of}
use Rattle.lk_typing.specs.Typing.{HasType, HaveTypes, HaveCases, IsChange, plain, lambda, var, switch, switch_open, for_list, for_table, query, update, delete, none, more, no_cases, case_of, changed}

-- the node has this type, if there is one
abbrev HasIt : Option Ground → TypedNode → Type 0
HasIt o node = Some node.part.type ≡ o

-- names that aren't bound there, whose types are those of some of the nodes
pub record AreOfNodes (locals : Named Ground) (bound : Names) (xs : List Label) (nodes : List TypedNode) : Type 0 where
  pub of_nodes : (x : Label) → IsAmong x xs → (is_local bound x ≡ false) × OneOf (HasIt (named x locals)) nodes

module _ {locals : Named Ground} {bound : Names} where
  none_there : (nodes : List TypedNode) → AreOfNodes locals bound [] nodes
  none_there nodes = record { of_nodes = λ x among. absurd among }

  both_there : {xs ys : List Label} {ns ms : List TypedNode} → AreOfNodes locals bound xs ns → AreOfNodes locals bound ys ms → AreOfNodes locals bound (xs ++ ys) (ns ++ ms)
  both_there {xs = xs} {ys = ys} {ns = ns} {ms = ms} front back =
      record {
        of_nodes = λ x among. ⊎_elim (λ (o : IsAmong x xs). let it = front.of_nodes x o in (it.0, one_in_front (HasIt (named x locals)) ns ms it.1))
            (λ (o : IsAmong x ys). let it = back.of_nodes x o in (it.0, one_in_back (HasIt (named x locals)) ns ms it.1)) (one_of_both (λ y. y ≡ x) xs ys among);
      }

  -- behind the node of the expression itself
  behind_there : {xs : List Label} {ns : List TypedNode} (node : TypedNode) → AreOfNodes locals bound xs ns → AreOfNodes locals bound xs (node ∷ ns)
  behind_there node all = record { of_nodes = λ x among. let it = all.of_nodes x among in (it.0, inr it.1) }

  these_there : {xs ys : List Label} {ns : List TypedNode} → xs ≡ ys → AreOfNodes locals bound ys ns → AreOfNodes locals bound xs ns
  these_there {ns = ns} same all = subst (λ zs. AreOfNodes locals bound zs ns) (sym same) all

  -- where more was bound and has types
  outside_there : {inner : Names} {xs : List Label} {ns : List TypedNode} (entries : Named Ground) → Binds bound inner entries → AreOfNodes (entries ++ locals) inner xs ns → AreOfNodes locals bound xs ns
  outside_there {ns = ns} entries binds all =
      record {
        of_nodes = λ x among.
            let it = all.of_nodes x among in
            by_entry (named x entries) (is_local bound x) (named x locals) (sym (binds x) ∙ it.0) (subst (λ o. OneOf (HasIt o) ns) (named_behind x entries locals) it.1);
      }
    where
      by_entry : (o : Option Ground) (b : Bool) (t : Option Ground) → (is_some o || b) ≡ false → OneOf (HasIt (option_or o t)) ns → (b ≡ false) × OneOf (HasIt t) ns
      by_entry None b t not_bound there = (not_bound, there)
      by_entry (Some u) b t not_bound there = absurd cc

  -- a use of a name of the node's type
  use_there : (x : Label) (node : TypedNode) → named x locals ≡ Some node.part.type → AreOfNodes locals bound (use_of x bound) (node ∷ [])
  use_there x node is = by_test (is_local bound x) refl
    where
      by_test : (b : Bool) → is_local bound x ≡ b → AreOfNodes locals bound (cond b [] (x ∷ [])) (node ∷ [])
      by_test true there = none_there (node ∷ [])
      by_test false there =
          record {
            of_nodes = λ y among. ⊎_elim (λ (same : x ≡ y). subst (λ z. (is_local bound z ≡ false) × OneOf (HasIt (named z locals)) (node ∷ [])) same (there, inl (sym is))) (λ (o : ⊥). absurd o) among;
          }

own_there : {functions : Named (Entry Ground)} {tables : List TableDecl} {locals : Named Ground} {effects : EffectSet} (bound : Names) (h : Head) (ts : List Ground) (t : Ground) (node : TypedNode) → node.part.type ≡ t
    → Rule functions tables locals effects h ts t → AreOfNodes locals bound (own_uses (Some h) bound) (node ∷ [])
own_there bound _ _ t node same (rule.local {x = x} is) = use_there x node (is ∙ ap Some (sym same))
own_there bound h ts t node same by = none_there (node ∷ [])

module _ {functions : Named (Entry Ground)} {tables : List TableDecl} where
  mutual
    unfolding nodes_of

    pub free_there : {locals : Named Ground} {effects : EffectSet} {e : Expr} {t : Ground} {inside : List Ground} (flag : Bool) (d : HasType functions tables locals effects e t inside) (bound : Names) → AreOfNodes locals bound (free e bound) (nodes_of flag d)
    free_there {e = e} {t = t} flag (plain h ts is parts by) bound = these_there (free_plain e h bound is) (both_there (own_there bound h ts t _ refl by) (all_there flag parts bound))
    free_there {e = e} flag (lambda l params own b is are moves body local) bound =
        these_there (free_lambda_form e l bound is) (behind_there _ (outside_there params (binds_all l.params params bound are) (free_there flag body (bind_all l.params bound))))
    free_there {e = e} flag (var x d rest a first last is of_d of_rest) bound =
        these_there (free_var e x d rest bound is) (behind_there _ (both_there (free_there flag of_d bound) (outside_there ((x.text, a) ∷ []) (binds_one x a bound) (free_there flag of_rest (bind x bound)))))
    free_there {e = e} flag (switch d cases row tags ts first bodies is of_d of_cases each tagged local) bound =
        these_there (free_switch e d cases bound is) (behind_there _ (both_there (free_there flag of_d bound) (cases_there flag of_cases bound)))
    free_there {e = e} flag (switch_open d cases last left row tags ts first bodies inside is of_d of_cases each of_last tagged local) bound =
        these_there (free_switch_open e d cases last bound is ∙ append_assoc (free d bound) (free_cases cases bound) (free last.body (bind last.name bound)))
        (behind_there _ (both_there (free_there flag of_d bound)
        (both_there (cases_there flag of_cases bound) (outside_there ((last.name.text, variant_of left) ∷ []) (binds_one last.name (variant_of left) bound) (free_there flag of_last (bind last.name bound))))))
    free_there {e = e} flag (for_list x d body a b first inside is of_d of_body) bound =
        these_there (free_for_list e x d body bound is) (behind_there _ (both_there (free_there flag of_d bound) (outside_there ((x.text, a) ∷ []) (binds_one x a bound) (free_there flag of_body (bind x bound)))))
    free_there {e = e} flag (for_table x rows body a b first inside is of_d of_body) bound =
        these_there (free_for_table e x rows body bound is) (behind_there _ (both_there (free_there flag of_d bound) (outside_there ((x.text, a) ∷ []) (binds_one x a bound) (free_there flag of_body (bind x bound)))))
    free_there {e = e} flag (query keys body a inside is of_body each scans by_client) bound = these_there (free_query e keys body bound is) (behind_there _ (free_there true of_body bound))
    free_there {e = e} flag (update change is of_change writes) bound = these_there (free_update e change bound is) (behind_there _ (change_there of_change bound))
    free_there {e = e} flag (delete change is of_change writes) bound = these_there (free_delete e change bound is) (behind_there _ (change_there of_change bound))

    all_there : {locals : Named Ground} {effects : EffectSet} {es : List Expr} {ts inside : List Ground} (flag : Bool) (d : HaveTypes functions tables locals effects es ts inside) (bound : Names) → AreOfNodes locals bound (free_all es bound) (each_nodes flag d)
    all_there flag none bound = none_there []
    all_there flag (more inside rest of_e of_es) bound = both_there (free_there flag of_e bound) (all_there flag of_es bound)

    cases_there : {locals : Named Ground} {effects : EffectSet} {cases : List Case} {ts : List Ground} {tags : Named Ground} {inside : List Ground} (flag : Bool) (d : HaveCases functions tables locals effects cases ts tags inside) (bound : Names)
        → AreOfNodes locals bound (free_cases cases bound) (case_nodes flag d)
    cases_there flag no_cases bound = none_there []
    cases_there flag (case_of {case = case} a held inside rest is_held of_body of_cases) bound =
        both_there (these_there (case_level case bound) (outside_there held (binds_held case.name a held bound is_held) (free_there flag of_body (bind_some case.name bound)))) (cases_there flag of_cases bound)

    pub change_there : {locals : Named Ground} {change : ChangeExpr} {inside : List Ground} (d : IsChange functions tables locals change inside) (bound : Names) → AreOfNodes locals bound (free_change change bound) (change_nodes d)
    change_there {change = change} (changed row sets ts cond rest rows of_cond of_sets labels each) bound =
        let x : Word = (out-ChangeExpr change).name in
        let entries : Named Ground = (x.text, record_of row) ∷ [] in
        these_there (change_level change bound)
        (both_there (outside_there entries (binds_one x (record_of row) bound) (free_there true of_cond (bind x bound))) (outside_there entries (binds_one x (record_of row) bound) (all_there true of_sets (bind x bound))))

-- ---- what holds of the types that are taken for nodes

pub each_taken : (P : Ground → Type 0) (helpers : List Use) (nodes : List TypedNode) (p q : Pending) → Takes helpers nodes p q → Each P p.types → Each (λ (node : TypedNode). P node.part.type) nodes
each_taken P helpers [] _ q taken all = tt
each_taken P helpers (node ∷ nodes) _ q (other no_use takes) all = (all.0, each_taken P helpers nodes _ q takes all.1)
each_taken P helpers (node ∷ nodes) _ q (called used at takes) all = (all.0, each_taken P helpers nodes _ q takes all.1)

-- holds of the type of a free name
pub of_node : (P : Ground → Type 0) (nodes : List TypedNode) (o : Option Ground) (t : Ground) → o ≡ Some t → OneOf (HasIt o) nodes → Each (λ (node : TypedNode). P node.part.type) nodes → P t
of_node P [] o t is there all = absurd there
of_node P (node ∷ nodes) o t is (inl same) all = let types : Some node.part.type ≡ Some t = same ∙ is in let it : node.part.type ≡ t = cc in subst P it all.0
of_node P (node ∷ nodes) o t is (inr there) all = of_node P nodes o t is there all.1
