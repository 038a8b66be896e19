-- A call does what its label does with what is kept and then what is passed.
use Rattle.std.proofs.Common.{◌≡◌, refl, sym, ap, ◌∙◌, ℕ, true, false, List, [], ◌∷◌, ◌++◌, Some, length}
use Rattle.std.specs.Option.{option_map}
use Rattle.lk_ast.specs.declared.place.Loc.{Loc}
use Rattle.lk_ast.specs.declared.value.Value.{Value}
use Rattle.lk_evaluation.specs.Evaluation.{eval}
use Rattle.lk_evaluation.specs.Run.{Run}
use Rattle.lk_ir.specs.Environments.{Env, bind, bind_each, no_names}
use Rattle.lk_ir.specs.LetNormal.{under}
use Rattle.lk_ir.specs.Tables.{body_at}
use Rattle.lk_ir.specs.declared.nodes.Body.{Body}
use Rattle.lk_code.specs.Meaning.{does, does_body, does_kind, language}
use Rattle.lk_code.specs.Tables.{fun_info, is_function}
use Rattle.lk_code.specs.declared.infos.FunInfo.{FunInfo}
use Rattle.lk_code.specs.declared.infos.FunKind.{FunKind}
use Rattle.lk_code.specs.declared.infos.FunKind.TheVariants as fun
use Rattle.lk_code.specs.declared.tables.CodeTables.{CodeTables}

bound_both : (xs ys : List ℕ) (values others : List Value) (env : Env) → length xs ≡ length values → bind_each env (xs ++ ys) (values ++ others) ≡ bind_each (bind_each env xs values) ys others
bound_both [] ys [] others env long = refl
bound_both [] ys (v ∷ values) others env long = cc
bound_both (x ∷ xs) ys [] others env long = cc
bound_both (x ∷ xs) ys (v ∷ values) others env long = bound_both xs ys values others (bind x v env) (let e : length xs ≡ length values = cc in e)

by_kind : (c : CodeTables) (kind : FunKind) (label : ℕ) (args : List Value) (place : Loc) (r : Run) → is_function kind ≡ true → does_body c (body_at c.forms label) args place r ≡ does_kind c (Some kind) label args place r
by_kind c fun.Print label args place r is = let wrong : false ≡ true = is in cc
by_kind c fun.Top label args place r is = refl
by_kind c fun.Lambda label args place r is = refl
by_kind c fun.Query label args place r is = let wrong : false ≡ true = is in cc
by_kind c fun.TableRead label args place r is = let wrong : false ≡ true = is in cc
by_kind c fun.Insert label args place r is = let wrong : false ≡ true = is in cc
by_kind c fun.Update label args place r is = let wrong : false ≡ true = is in cc
by_kind c fun.Delete label args place r is = let wrong : false ≡ true = is in cc

pub calls_law : (c : CodeTables) (label : ℕ) (i : FunInfo) (b : Body) → fun_info c label ≡ Some i → is_function i.kind ≡ true → body_at c.forms label ≡ Some b → (env args : List Value) → length b.names ≡ length env → (place : Loc) (r : Run)
    → eval (language c) (under (bind_each (bind_each no_names b.names env) b.params args) b.root) place r ≡ does c label (env ++ args) place r
calls_law c label i b is function there env args long place r =
    ap (λ names. eval (language c) (under names b.root) place r) (sym (bound_both b.names b.params env args no_names long))
    ∙ ap (λ o. does_body c o (env ++ args) place r) (sym there)
    ∙ by_kind c i.kind label (env ++ args) place r function
    ∙ ap (λ o. does_kind c (option_map (λ (i : FunInfo). i.kind) o) label (env ++ args) place r) (sym is)
