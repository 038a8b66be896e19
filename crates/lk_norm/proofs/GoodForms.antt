-- When SQL is well formed, on each form of it.
use Rattle.std.proofs.Common.{◌≡◌, ℕ, ◌&&◌, ◌==◌, Bool, true, List, [], ◌∷◌, map, length, refl, ◌∙◌, ap, ap₂}
use Rattle.std.specs.List.{list_all}
use Rattle.lk_ast.specs.declared.table.Base.{Base}
use Rattle.lk_sql.specs.Good.{Judged, are_alike, is_good, judged, operand_count, out_level, scalar_level, select_level}
use Rattle.lk_sql.specs.declared.tree.Out.{Out, fold-Out, fold_out-Out}
use Rattle.lk_sql.specs.declared.tree.Scalar.{Scalar}
use Rattle.lk_sql.specs.declared.tree.Scalar.TheFolds.{the_lemmas}
use Rattle.lk_sql.specs.declared.tree.Scalar.TheVariants as scalar
use Rattle.lk_sql.specs.declared.tree.Select.{Select, fold-roll-Select}
use Rattle.lk_sql.specs.declared.tree.SqlOp.{SqlOp}
use Rattle.lk_norm.specs.Normal.{Branch, select}

pub good-Lit : (b : Base) → is_good (scalar.Lit b) ≡ true
unfolding is_good
good-Lit b = search the_lemmas

pub good-Param : (k : ℕ) → is_good (scalar.Param k) ≡ true
unfolding is_good
good-Param k = search the_lemmas

pub good-Column : (n : ℕ) (label : List ℕ) → is_good (scalar.Column n label) ≡ true
unfolding is_good
good-Column n label = search the_lemmas

pub good-Op : (o : SqlOp) (xs : List Scalar) → is_good (scalar.Op o xs) ≡ (length (map is_good xs) == operand_count o) && list_all (λ good. good) (map is_good xs)
unfolding is_good
good-Op o xs = search the_lemmas

pub good-Case : (c a b : Scalar) → is_good (scalar.Case c a b) ≡ is_good c && (is_good a && is_good b)
unfolding is_good
good-Case c a b = search the_lemmas

pub good-Exists : (selects : List Select) → is_good (scalar.Exists selects) ≡ are_alike (map judged selects)
unfolding is_good judged
good-Exists selects = search the_lemmas

judged_out : Out → List ℕ × Bool
judged_out = fold-Out Bool (List ℕ × Bool) Judged scalar_level out_level select_level

out-is : (out : Out) → judged_out out ≡ (out.label, is_good out.scalar)
unfolding is_good judged_out
out-is out = fold_out-Out Bool (List ℕ × Bool) Judged scalar_level out_level select_level out

outs-are : (outs : List Out) → map judged_out outs ≡ map (λ (out : Out). (out.label, is_good out.scalar)) outs
outs-are [] = refl
outs-are (out ∷ outs) = ap₂ (λ x xs. x ∷ xs) (out-is out) (outs-are outs)

pub judged-is : (b : Branch) → judged (select b) ≡ select_level (record { froms = b.froms; cond = is_good b.cond; outs = map (λ (out : Out). (out.label, is_good out.scalar)) b.outs })
unfolding is_good judged judged_out
judged-is b =
    fold-roll-Select Bool (List ℕ × Bool) Judged scalar_level out_level select_level (record { froms = b.froms; cond = b.cond; outs = b.outs })
    ∙ ap (λ outs. select_level (record { froms = b.froms; cond = is_good b.cond; outs = outs })) (outs-are b.outs)
