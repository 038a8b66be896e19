-- What queries give depends on the tables that the program declares alone.
use Rattle.std.proofs.Common.{◌≡◌, refl, sym, ap, ap₂, subst, ◌∙◌, ℕ, zero, suc, Bool, true, false, List, [], ◌∷◌, ◌++◌, map, flat_map, length, Option, Some, None, find}
use Rattle.std.specs.Prelude.{bytes_eq, unwrap_or}
use Rattle.lk_ast.specs.Functions.{functions_of, function_named, is_named}
use Rattle.lk_ast.specs.Layers.{Layer, layer}
use Rattle.lk_ast.specs.Rows.{row_value, rows_value}
use Rattle.lk_ast.specs.Tables.{Tables}
use Rattle.lk_ast.specs.declared.declaration.FunDef.{FunDef}
use Rattle.lk_ast.specs.declared.declaration.Program.{Program}
use Rattle.lk_ast.specs.declared.expression.Case.{Case}
use Rattle.lk_ast.specs.declared.expression.Expr.{Expr}
use Rattle.lk_ast.specs.declared.expression.LastCase.{LastCase}
use Rattle.lk_ast.specs.declared.expression.Node.TheOpen.{Node-F}
use Rattle.lk_ast.specs.declared.expression.PartExpr.{PartExpr}
use Rattle.lk_ast.specs.declared.place.Word.{Word}
use Rattle.lk_ast.specs.declared.value.Value.{Value}
use Rattle.lk_ast.specs.declared.value.Value.TheVariants as value
use Rattle.lk_bag.proofs.Given.{operands, is_operation, all_given, beside, given_level, given_name, given_call, given_var, given_seq, given_if, given_and, given_or, given_where, given_for_list, given_for_table, given_table, given_query, given_operation}
use Rattle.lk_bag.specs.Bag.{called, called_function, chosen, entered, for_each, given, items, level, value_of}
use Rattle.lk_bag.specs.Blocks.{begins, block_at, blocks_of}
use Rattle.lk_bag.specs.Legal.{bag, bag_by, names_in}
use Rattle.lk_locals.specs.Names.{Names, bind, bind_all, no_names}
use Rattle.lk_names.specs.Programs.{IsBound}
use Rattle.lk_operators.specs.Operators.{operated}
use Rattle.lk_operators.specs.Values.{bool_in, truth, unit}
use Rattle.lk_sound.proofs.Inside.{insides, by_insides}
use Rattle.lk_types.proofs.Members.{each_in, found_in}
use Rattle.lk_types.specs.Each.{Each}
use Rattle.lk_types.specs.Rows.{Label}
use Rattle.lk_sound.proofs.TablesSeen.{IsDeclared, SeesTables, blocks_see, functions_see, insides_see, table_seen}

-- a switch gives the unit value whatever is in it
pub no_rule : (tables : Tables) (calls : List ℕ → List Value → Value) (e d : Expr) (cases : List Case) (last : Option LastCase) (names : Names) → layer e ≡ Node-F.Switch d cases last → given tables calls e names ≡ unit
no_rule tables calls e d cases last names is = given_level tables calls e names ∙ ap (λ l. level tables calls (beside tables calls l) l names) is

module _ (p : Program) (tables others : Tables) (agree : (x : Label) → IsDeclared p x → tables x ≡ others x) where
  module _ (calls other_calls : List ℕ → List Value → Value) (same_calls : (g : List ℕ) (args : List Value) → calls g args ≡ other_calls g args) where
    -- it gives the same over both
    abbrev Same : Expr → Type 0
    Same e = (names : Names) → given tables calls e names ≡ given others other_calls e names

    abbrev IsSame : Expr → Type 0
    IsSame e = SeesTables p e → Same e

    each_same : (es : List Expr) → Each IsSame es → Each (SeesTables p) es → Each Same es
    each_same [] all see = tt
    each_same (e ∷ es) all see = (all.0 see.0, each_same es all.1 see.1)

    all_same : (es : List Expr) → Each Same es → (names : Names) → all_given tables calls names es ≡ all_given others other_calls names es
    all_same [] all names = refl
    all_same (e ∷ es) all names = ap₂ (λ v vs. v ∷ vs) (all.0 names) (all_same es all.1 names)

    each_itself : (es : List Expr) → Each Same es → Each Same (flat_map (λ (e : Expr). e ∷ []) es)
    each_itself [] all = tt
    each_itself (e ∷ es) all = (all.0, each_itself es all.1)

    loops : (x : List ℕ) (elements : List Value) (body : Expr) → Same body → (names : Names) → for_each x elements (given tables calls body) names ≡ for_each x elements (given others other_calls body) names
    loops x elements body same names = λ i. for_each x elements (λ ns. same ns i) names

    operation : (e : Expr) (l : Layer) → layer e ≡ l → is_operation l ≡ true → Each Same (operands l) → Same e
    operation e l is ops all names =
        given_operation tables calls e l names is ops ∙ ap (λ vs. value_of (operated l vs)) (all_same (operands l) all names) ∙ sym (given_operation others other_calls e l names is ops)

    each_field : (fields : List PartExpr) → Each Same (map (λ (part : PartExpr). part.expr) fields) → Each Same (flat_map (λ (part : PartExpr). part.expr ∷ []) fields)
    each_field [] all = tt
    each_field (part ∷ fields) all = (all.0, each_field fields all.1)

    with_last : (fields : List PartExpr) (e : Expr) → Each Same (map (λ (part : PartExpr). part.expr) fields ++ e ∷ []) → Each Same (flat_map (λ (part : PartExpr). part.expr ∷ []) fields ++ e ∷ [])
    with_last [] e all = all
    with_last (part ∷ fields) e all = (all.0, with_last fields e all.1)

    -- the operands of an operation are among what is right inside it
    operands_same : (l : Layer) → is_operation l ≡ true → Each Same (insides l) → Each Same (operands l)
    operands_same (Node-F.Call g args) ops all = absurd cc
    operands_same (Node-F.Switch e cases last) ops all = absurd cc
    operands_same (Node-F.Lambda l) ops all = tt
    operands_same (Node-F.Update change) ops all = tt
    operands_same (Node-F.Delete change) ops all = tt
    operands_same (Node-F.Apply f args) ops all = (all.0, each_itself args all.1)
    operands_same (Node-F.List es) ops all = each_itself es all
    operands_same (Node-F.Record fields) ops all = each_field fields all
    operands_same (Node-F.Extend fields e) ops all = with_last fields e all
    operands_same other ops all = all

    same_at : (e : Expr) (l : Layer) → layer e ≡ l → SeesTables p e → Each Same (insides l) → Same e
    same_at e (Node-F.Name x) is s all names = given_name tables calls e x names is ∙ sym (given_name others other_calls e x names is)
    same_at e (Node-F.Call g args) is s all names =
        given_call tables calls e g args names is ∙ same_calls g.text (all_given tables calls names args) ∙ ap (other_calls g.text) (all_same args all names) ∙ sym (given_call others other_calls e g args names is)
    same_at e (Node-F.Var x d rest) is s all names =
        given_var tables calls e x d rest names is ∙ all.1.0 (bind x.text (given tables calls d names) names) ∙ ap (λ v. given others other_calls rest (bind x.text v names)) (all.0 names) ∙ sym (given_var others other_calls e x d rest names is)
    same_at e (Node-F.Seq d rest) is s all names = given_seq tables calls e d rest names is ∙ all.1.0 names ∙ sym (given_seq others other_calls e d rest names is)
    same_at e (Node-F.If c a b) is s all names =
        given_if tables calls e c a b names is
        ∙ ap (λ v. chosen (bool_in v) (given tables calls a names) (given tables calls b names)) (all.0 names)
        ∙ ap₂ (λ v w. chosen (bool_in (given others other_calls c names)) v w) (all.1.0 names) (all.1.1.0 names)
        ∙ sym (given_if others other_calls e c a b names is)
    same_at e (Node-F.And a b) is s all names =
        given_and tables calls e a b names is ∙ ap₂ (λ v w. chosen (bool_in v) w (truth false)) (all.0 names) (all.1.0 names) ∙ sym (given_and others other_calls e a b names is)
    same_at e (Node-F.Or a b) is s all names =
        given_or tables calls e a b names is ∙ ap₂ (λ v w. chosen (bool_in v) (truth true) w) (all.0 names) (all.1.0 names) ∙ sym (given_or others other_calls e a b names is)
    same_at e (Node-F.Where c d) is s all names =
        given_where tables calls e c d names is ∙ ap₂ (λ v w. chosen (bool_in v) w (value.List [])) (all.0 names) (all.1.0 names) ∙ sym (given_where others other_calls e c d names is)
    same_at e (Node-F.ForList x d body) is s all names =
        given_for_list tables calls e x d body names is ∙ loops x.text (items (given tables calls d names)) body all.1.0 names ∙ ap (λ v. for_each x.text (items v) (given others other_calls body) names) (all.0 names)
        ∙ sym (given_for_list others other_calls e x d body names is)
    same_at e (Node-F.ForTable x d body) is s all names =
        given_for_table tables calls e x d body names is ∙ loops x.text (items (given tables calls d names)) body all.1.0 names ∙ ap (λ v. for_each x.text (items v) (given others other_calls body) names) (all.0 names)
        ∙ sym (given_for_table others other_calls e x d body names is)
    same_at e (Node-F.Table t) is s all names =
        given_table tables calls e t names is ∙ ap rows_value (agree t.text (table_seen p e t is s)) ∙ sym (given_table others other_calls e t names is)
    same_at e (Node-F.Query keys body) is s all names = given_query tables calls e keys body names is ∙ all.0 names ∙ sym (given_query others other_calls e keys body names is)
    same_at e (Node-F.Switch d cases last) is s all names = no_rule tables calls e d cases last names is ∙ sym (no_rule others other_calls e d cases last names is)
    same_at e other is s all names = operation e other is refl (operands_same other refl all) names

    step : (e : Expr) → Each IsSame (insides (layer e)) → IsSame e
    step e all s = same_at e (layer e) refl s (each_same (insides (layer e)) all (insides_see p e s))

    pub given_same : (e : Expr) → IsSame e
    given_same = by_insides IsSame step

  module _ (bound : IsBound p) where
    entered_same : (calls other_calls : List ℕ → List Value → Value) → ((g : List ℕ) (args : List Value) → calls g args ≡ other_calls g args) → (f : FunDef) → SeesTables p f.body → (names : Option Names)
        → entered (given tables calls f.body) names ≡ entered (given others other_calls f.body) names
    entered_same calls other_calls same f s (Some names) = given_same calls other_calls same f.body s names
    entered_same calls other_calls same f s None = refl

    function_same : (calls other_calls : List ℕ → List Value → Value) → ((g : List ℕ) (args : List Value) → calls g args ≡ other_calls g args) → (g : List ℕ) (found : Option FunDef) → function_named p g ≡ found → (args : List Value)
        → called_function p tables calls found args ≡ called_function p others other_calls found args
    function_same calls other_calls same g None is args = refl
    function_same calls other_calls same g (Some f) is args =
        entered_same calls other_calls same f (each_in (λ (h : FunDef). SeesTables p h.body) (functions_of p) f (found_in (is_named g) (functions_of p) f is).0 (functions_see p bound)) (bind_all no_names f.params args)

    called_same : (n : ℕ) (g : List ℕ) (args : List Value) → called p tables n g args ≡ called p others n g args
    unfolding called
    called_same zero g args = refl
    called_same (suc n) g args = function_same (called p tables n) (called p others n) (called_same n) g (function_named p g) refl args

    bag_same : (block : Expr) (l : Layer) → layer block ≡ l → SeesTables p block → (args : List Value) → bag_by p tables block l args ≡ bag_by p others block l args
    bag_same block (Node-F.Query keys e) is s args =
        let inside = subst (λ l. Each (SeesTables p) (insides l)) is (insides_see p block s) in
        ap items (given_same (called p tables (length (functions_of p))) (called p others (length (functions_of p))) (called_same (length (functions_of p))) e inside.0 (names_in block args))
    bag_same block (Node-F.Table t) is s args = ap (map row_value) (agree t.text (table_seen p block t is s))
    bag_same block other is s args = refl

    -- over tables that agree on what is declared, a reading of the program gives the same
    pub same_bag : (site : ℕ) (block : Expr) → block_at p site ≡ Some block → (args : List Value) → bag p tables block args ≡ bag p others block args
    same_bag site block found args = bag_same block (layer block) refl (each_in (SeesTables p) (blocks_of p) block (found_in (begins site) (blocks_of p) block found).0 (blocks_see p bound)) args
