-- Which tables SQL names, on each form of it.
use Rattle.std.proofs.Common.{◌≡◌, ℕ, Bool, true, ◌&&◌, List, [], ◌∷◌, map, refl, ◌∙◌, ap, ap₂}
use Rattle.std.specs.List.{list_all}
use Rattle.tree_cases.specs.Named.{scalar_declared}
use Rattle.lk_ast.specs.declared.table.Base.{Base}
use Rattle.lk_ast.specs.declared.table.TableDef.{TableDef}
use Rattle.lk_exec.specs.NamedTables.{is_declared, names_declared, out_level, scalar_level, select_level}
use Rattle.lk_sql.specs.declared.tree.FromItem.{FromItem}
use Rattle.lk_sql.specs.declared.tree.Out.{Out, fold-Out, fold_out-Out}
use Rattle.lk_sql.specs.declared.tree.Scalar.{Scalar}
use Rattle.lk_sql.specs.declared.tree.Scalar.TheFolds.{the_lemmas}
use Rattle.lk_sql.specs.declared.tree.Scalar.TheVariants as scalar
use Rattle.lk_sql.specs.declared.tree.Select.{Select, fold_out-Select, out-Select}
use Rattle.lk_sql.specs.declared.tree.SqlOp.{SqlOp}

all_mapped : {X : Type 0} (f : X → Bool) (xs : List X) → list_all (λ declared. declared) (map f xs) ≡ list_all f xs
all_mapped f [] = refl
all_mapped f (x ∷ xs) = ap (λ rest. f x && rest) (all_mapped f xs)

module _ (defs : List TableDef) where
  pub lit_form : (b : Base) → scalar_declared defs (scalar.Lit b) ≡ true
  unfolding scalar_declared
  lit_form b = search the_lemmas

  pub param_form : (k : ℕ) → scalar_declared defs (scalar.Param k) ≡ true
  unfolding scalar_declared
  param_form k = search the_lemmas

  pub column_form : (n : ℕ) (label : List ℕ) → scalar_declared defs (scalar.Column n label) ≡ true
  unfolding scalar_declared
  column_form n label = search the_lemmas

  op_level : (o : SqlOp) (xs : List Scalar) → scalar_declared defs (scalar.Op o xs) ≡ list_all (λ declared. declared) (map (scalar_declared defs) xs)
  unfolding scalar_declared
  op_level o xs = search the_lemmas

  pub op_form : (o : SqlOp) (xs : List Scalar) → scalar_declared defs (scalar.Op o xs) ≡ list_all (scalar_declared defs) xs
  op_form o xs = op_level o xs ∙ all_mapped (scalar_declared defs) xs

  pub case_form : (c a b : Scalar) → scalar_declared defs (scalar.Case c a b) ≡ scalar_declared defs c && (scalar_declared defs a && scalar_declared defs b)
  unfolding scalar_declared
  case_form c a b = search the_lemmas

  exists_level : (selects : List Select) → scalar_declared defs (scalar.Exists selects) ≡ list_all (λ declared. declared) (map (names_declared defs) selects)
  unfolding scalar_declared names_declared
  exists_level selects = search the_lemmas

  pub exists_form : (selects : List Select) → scalar_declared defs (scalar.Exists selects) ≡ list_all (names_declared defs) selects
  exists_form selects = exists_level selects ∙ all_mapped (names_declared defs) selects

  out_declared : Out → Bool
  out_declared = fold-Out Bool Bool Bool (scalar_level defs) (out_level defs) (select_level defs)

  out_form : (out : Out) → out_declared out ≡ scalar_declared defs out.scalar
  unfolding scalar_declared out_declared
  out_form out = fold_out-Out Bool Bool Bool (scalar_level defs) (out_level defs) (select_level defs) out

  outs_form : (outs : List Out) → list_all (λ declared. declared) (map out_declared outs) ≡ list_all (λ (out : Out). scalar_declared defs out.scalar) outs
  outs_form [] = refl
  outs_form (out ∷ outs) = ap₂ (λ a b. a && b) (out_form out) (outs_form outs)

  select_folded : (q : Select) → names_declared defs q
      ≡ list_all (λ (from : FromItem). is_declared defs from.table) (out-Select q).froms && (scalar_declared defs (out-Select q).cond && list_all (λ declared. declared) (map out_declared (out-Select q).outs))
  unfolding scalar_declared names_declared out_declared
  select_folded q = fold_out-Select Bool Bool Bool (scalar_level defs) (out_level defs) (select_level defs) q

  pub select_form : (q : Select) → names_declared defs q
      ≡ list_all (λ (from : FromItem). is_declared defs from.table) (out-Select q).froms && (scalar_declared defs (out-Select q).cond && list_all (λ (out : Out). scalar_declared defs out.scalar) (out-Select q).outs)
  select_form q =
      select_folded q
      ∙ ap (λ outs. list_all (λ (from : FromItem). is_declared defs from.table) (out-Select q).froms && (scalar_declared defs (out-Select q).cond && outs)) (outs_form (out-Select q).outs)
