-- What a reading gives, by what it is.
use Rattle.std.proofs.Common.{◌≡◌, subst, refl, sym, ap, ◌∙◌, List, [], ◌∷◌}
use Rattle.lk_ast.specs.Layers.{layer}
use Rattle.lk_ast.specs.Tables.{Tables}
use Rattle.lk_ast.specs.declared.declaration.Program.{Program}
use Rattle.lk_ast.specs.declared.expression.Expr.{Expr}
use Rattle.lk_ast.specs.declared.expression.Node.{Node, out-Node}
use Rattle.lk_ast.specs.declared.expression.Node.TheOpen.{Node-F}
use Rattle.lk_ast.specs.declared.expression.Node.TheVariants as node
use Rattle.lk_ast.specs.declared.expression.SortKey.{SortKey}
use Rattle.lk_ast.specs.declared.place.Word.{Word}
use Rattle.lk_ast.specs.declared.table.Row.{Row}
use Rattle.lk_ast.specs.declared.value.Value.{Value}
use Rattle.lk_bag.specs.Bag.{gives, items}
use Rattle.lk_bag.specs.Legal.{AreSorted, bag, bag_by, keys_at, names_in}

module _ (p : Program) (tables : Tables) (block : Expr) (args : List Value) where
  -- a query
  pub query_bag : (n : Node) (keys : List SortKey) (e : Expr) → n ≡ block.node → n ≡ node.Query keys e → bag p tables block args ≡ items (gives p tables e (names_in block args))
  query_bag n keys e at is = ap (λ l. bag_by p tables block l args) (ap out-Node (sym at ∙ is) ∙ node.outs-Query keys e)

-- rows without keys are sorted in any order
any_order : (rows : List Row) → AreSorted [] rows
any_order [] = tt
any_order (row ∷ []) = tt
any_order (row ∷ other ∷ rows) = (refl, any_order (other ∷ rows))

-- a table
pub table_sorted : (block : Expr) (n : Node) (t : Word) (rows : List Row) → n ≡ block.node → n ≡ node.Table t → AreSorted (keys_at (layer block)) rows
table_sorted block n t rows at is = subst (λ l. AreSorted (keys_at l) rows) (sym (ap out-Node (sym at ∙ is) ∙ node.outs-Table t)) (any_order rows)
