-- An expression has as many nodes as types: its own, and those of what stands in it.
use Rattle.std.proofs.Common.{◌≡◌, refl, ap, ◌∙◌, ℕ, suc, ◌+◌, List, [], ◌∷◌, ◌++◌, length, length-append, map, arith}
use Rattle.lk_ast.specs.Children.{exprs_of}
use Rattle.lk_ast.specs.Layers.{Layer, layer}
use Rattle.lk_ast.specs.declared.declaration.TableDecl.{TableDecl}
use Rattle.lk_ast.specs.declared.expression.Case.{Case}
use Rattle.lk_ast.specs.declared.expression.ChangeExpr.{ChangeExpr, out-ChangeExpr}
use Rattle.lk_ast.specs.declared.expression.Expr.{Expr}
use Rattle.lk_bodies.specs.Nodes.{total}
use Rattle.lk_ground.proofs.PlacedLevels.{operator_insides}
use Rattle.lk_lower.proofs.NodesInside.{nodes_insides, total_both}
use Rattle.lk_lower.specs.Lowering.{nodes_in}
use Rattle.lk_sound.proofs.Inside.{bodies_of, inside_change, insides}
use Rattle.lk_types.specs.Rows.{EffectSet}
use Rattle.lk_types.specs.declared.ground.Ground.{Ground}
use Rattle.lk_types.specs.declared.ground.Ground.TheVariants as known
use Rattle.lk_typing.specs.Names.{Entry, Named}
use Rattle.lk_typing.specs.Types.{variant_of}
use Rattle.lk_typing.specs.Typing.{HasType, HaveTypes, HaveCases, IsChange, plain, lambda, var, switch, switch_open, for_list, for_table, query, update, delete, none, more, no_cases, case_of, changed}

at_form : (e : Expr) (l : Layer) → layer e ≡ l → nodes_in e ≡ 1 + total (map nodes_in (insides l))
at_form e l is = nodes_insides e ∙ ap (λ m. 1 + total (map nodes_in (insides m))) is

-- one part, and two, whose types stand one behind the other
one_part : (n a : ℕ) → n ≡ 1 + a → 1 + (n + 0) ≡ 1 + suc a
one_part n a first = omega arith

two_parts : (n m a b : ℕ) (xs ys : List Ground) → length xs ≡ suc a → length ys ≡ suc b → n ≡ 1 + a → m ≡ 1 + b → 1 + (n + (m + 0)) ≡ 1 + length (xs ++ ys)
two_parts n m a b xs ys long longer first second = let all : length (xs ++ ys) ≡ length xs + length ys = length-append xs ys in omega arith

-- one part, and others behind it
and_others : (n m a : ℕ) (xs ys : List Ground) → length xs ≡ suc a → n ≡ 1 + a → m ≡ length ys → n + m ≡ length (xs ++ ys)
and_others n m a xs ys long first rest = let all : length (xs ++ ys) ≡ length xs + length ys = length-append xs ys in omega arith

and_last : (k n b : ℕ) (xs ys : List Ground) → length ys ≡ suc b → k ≡ length xs → n ≡ 1 + b → k + (n + 0) ≡ length (xs ++ ys)
and_last k n b xs ys long first last = let all : length (xs ++ ys) ≡ length xs + length ys = length-append xs ys in omega arith

more_zero : (n : ℕ) → n + 0 ≡ n
more_zero n = omega arith

module _ {functions : Named (Entry Ground)} {tables : List TableDecl} where
  mutual
    pub as_many : {names : Named Ground} {effects : EffectSet} {e : Expr} {t : Ground} {inside : List Ground} → HasType functions tables names effects e t inside → nodes_in e ≡ 1 + length inside
    as_many {e = e} (plain h ts is have by) = nodes_insides e ∙ ap (λ es. 1 + total (map nodes_in es)) (operator_insides (layer e) h is) ∙ ap (λ n. 1 + n) (all_many have)
    as_many {e = e} (lambda {inside = inside} l params own b is are moves body local) = at_form e _ is ∙ one_part (nodes_in l.body) (length inside) (as_many body)
    as_many {e = e} {t = t} (var x d rest a first last is one next) = at_form e _ is ∙ two_parts (nodes_in d) (nodes_in rest) (length first) (length last) (a ∷ first) (t ∷ last) refl refl (as_many one) (as_many next)
    as_many {e = e} (switch d cases row tags ts first bodies is one have same made local) =
        at_form e _ is ∙ ap (λ n. 1 + (nodes_in d + n)) (total_both nodes_in (bodies_of cases) [] ∙ more_zero (total (map nodes_in (bodies_of cases))))
        ∙ ap (λ n. 1 + n) (and_others (nodes_in d) (total (map nodes_in (bodies_of cases))) (length first) (variant_of row ∷ first) bodies refl (as_many one) (cases_many have))
    as_many {e = e} {t = t} (switch_open d cases last rest row tags ts first bodies inside is one have same next made local) =
        at_form e _ is ∙ ap (λ n. 1 + (nodes_in d + n)) (total_both nodes_in (bodies_of cases) (last.body ∷ []))
        ∙ ap (λ n. 1 + n) (and_others (nodes_in d) (total (map nodes_in (bodies_of cases)) + (nodes_in last.body + 0)) (length first) (variant_of row ∷ first) (bodies ++ (t ∷ inside)) refl (as_many one)
        (and_last (total (map nodes_in (bodies_of cases))) (nodes_in last.body) (length inside) bodies (t ∷ inside) refl (cases_many have) (as_many next)))
    as_many {e = e} (for_list x d body a b first inside is one next) = at_form e _ is ∙ two_parts (nodes_in d) (nodes_in body) (length first) (length inside) (known.List a ∷ first) (known.List b ∷ inside) refl refl (as_many one) (as_many next)
    as_many {e = e} (for_table x rows body a b first inside is one next) = at_form e _ is ∙ two_parts (nodes_in rows) (nodes_in body) (length first) (length inside) (known.List a ∷ first) (known.List b ∷ inside) refl refl (as_many one) (as_many next)
    as_many {e = e} (query keys body a inside is one sorted scans own) = at_form e _ is ∙ one_part (nodes_in body) (length inside) (as_many one)
    as_many {e = e} (update change is changes writes) = at_form e _ is ∙ ap (λ n. 1 + n) (change_many changes)
    as_many {e = e} (delete change is changes writes) = at_form e _ is ∙ ap (λ n. 1 + n) (change_many changes)

    all_many : {names : Named Ground} {effects : EffectSet} {es : List Expr} {ts inside : List Ground} → HaveTypes functions tables names effects es ts inside → total (map nodes_in es) ≡ length inside
    all_many none = refl
    all_many (more {e = e} {es = es} {t = t} inside rest first others) = and_others (nodes_in e) (total (map nodes_in es)) (length inside) (t ∷ inside) rest refl (as_many first) (all_many others)

    cases_many : {names : Named Ground} {effects : EffectSet} {cases : List Case} {ts : List Ground} {tags : Named Ground} {inside : List Ground} → HaveCases functions tables names effects cases ts tags inside → total (map nodes_in (bodies_of cases)) ≡ length inside
    cases_many no_cases = refl
    cases_many (case_of {case = case} {cases = cases} {t = t} a held inside rest is_held body others) = and_others (nodes_in case.body) (total (map nodes_in (bodies_of cases))) (length inside) (t ∷ inside) rest refl (as_many body) (cases_many others)

    change_many : {names : Named Ground} {change : ChangeExpr} {inside : List Ground} → IsChange functions tables names change inside → total (map nodes_in (inside_change change)) ≡ length inside
    change_many {change = change} (changed row sets ts cond rest has holds values named fields) = and_others (nodes_in (out-ChangeExpr change).cond) (total (map nodes_in (exprs_of (out-ChangeExpr change).sets))) (length cond) (known.Bool ∷ cond) rest refl (as_many holds) (all_many values)
