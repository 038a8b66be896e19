-- What acts on tables in an expression: the expression itself, where it does, and then what does so inside it.
use Rattle.std.proofs.Common.{◌≡◌, arith, refl, sym, ap, ap₂, ◌∙◌, Bool, true, false, List, [], ◌∷◌, ◌++◌, append-nil, append_assoc, Option, Some, None, map, flat_map}
use Rattle.std.proofs.lemmas.Grind.{flat_map-append}
use Rattle.lk_ast.specs.Layers.{Layer, before, layer, statement_node}
use Rattle.lk_ast.specs.declared.expression.Case.{Case}
use Rattle.lk_ast.specs.declared.expression.ChangeExpr.{out-ChangeExpr}
use Rattle.lk_ast.specs.declared.expression.Expr.{Expr}
use Rattle.lk_ast.specs.declared.expression.Node.{Node, out-Node}
use Rattle.lk_ast.specs.declared.expression.Node.TheOpen.{Node-F}
use Rattle.lk_ast.specs.declared.expression.Node.TheVariants as node
use Rattle.lk_ast.specs.declared.expression.PartExpr.{PartExpr}
use Rattle.lk_ast.specs.declared.place.Word.{Word}
use Rattle.lk_ast.specs.declared.statements.Statement.{Statement}
use Rattle.lk_bag.proofs.Levels.{blocks_level, inside as parts, itself as alone}
use Rattle.lk_bag.specs.Blocks.{acts_on_tables, blocks_in}
use Rattle.lk_bag.specs.Inside.{in_case, in_part, inside, itself}

in_parts : (parts : List PartExpr) → flat_map blocks_in (map (λ (part : PartExpr). part.expr) parts) ≡ flat_map in_part parts
in_parts [] = refl
in_parts (part ∷ parts) = ap (λ more. in_part part ++ more) (in_parts parts)

in_cases : (cases : List Case) → flat_map blocks_in (map (λ (case : Case). case.body) cases) ≡ flat_map in_case cases
in_cases [] = refl
in_cases (case ∷ cases) = ap (λ more. in_case case ++ more) (in_cases cases)

-- parts, and an expression behind them
in_extended : (parts : List PartExpr) (e : Expr) → flat_map blocks_in (map (λ (part : PartExpr). part.expr) parts ++ e ∷ []) ≡ flat_map in_part parts ++ blocks_in e
in_extended parts e = flat_map-append blocks_in (map (λ (part : PartExpr). part.expr) parts) (e ∷ []) ∙ ap₂ (λ a b. a ++ b) (in_parts parts) (append-nil (blocks_in e))

in_switch : (e : Expr) (cases : List Case) (last : List Expr) (final : List Expr) → flat_map blocks_in last ≡ final
    → blocks_in e ++ flat_map blocks_in (map (λ (case : Case). case.body) cases ++ last) ≡ (blocks_in e ++ flat_map in_case cases) ++ final
in_switch e cases last final is =
    ap (λ more. blocks_in e ++ more) (flat_map-append blocks_in (map (λ (case : Case). case.body) cases) last ∙ ap₂ (λ a b. a ++ b) (in_cases cases) is)
    ∙ sym (append_assoc (blocks_in e) (flat_map in_case cases) final)

by_parts : (l : Layer) → flat_map blocks_in (parts l) ≡ inside l
by_parts (Node-F.Lambda lambda) = append-nil (blocks_in lambda.body)
by_parts (Node-F.Call g args) = refl
by_parts (Node-F.Apply f args) = refl
by_parts (Node-F.If c d e) = ap (λ more. blocks_in c ++ (blocks_in d ++ more)) (append-nil (blocks_in e)) ∙ sym (append_assoc (blocks_in c) (blocks_in d) (blocks_in e))
by_parts (Node-F.Record parts) = in_parts parts
by_parts (Node-F.Extend parts e) = in_extended parts e
by_parts (Node-F.List items) = refl
by_parts (Node-F.Switch e cases None) = in_switch e cases [] [] refl
by_parts (Node-F.Switch e cases (Some last)) = in_switch e cases (last.body ∷ []) (blocks_in last.body) (append-nil (blocks_in last.body))
by_parts (Node-F.Update change) = ap (λ more. blocks_in (out-ChangeExpr change).cond ++ more) (in_parts (out-ChangeExpr change).sets)
by_parts (Node-F.Delete change) = ap (λ more. blocks_in (out-ChangeExpr change).cond ++ more) (in_parts (out-ChangeExpr change).sets)
by_parts other = grind (arith, append-nil)

same_itself : (truth : Bool) (e : Expr) → alone truth e ≡ itself truth e
same_itself true e = refl
same_itself false e = refl

pub block_level : (e : Expr) → blocks_in e ≡ itself (acts_on_tables (layer e)) e ++ inside (layer e)
block_level e = blocks_level e ∙ ap₂ (λ a b. a ++ b) (same_itself (acts_on_tables (layer e)) e) (by_parts (layer e))

-- a statement, and what follows
pub before_level : (s : Statement) (next : Expr) → blocks_in (before s next) ≡ blocks_in s.expr ++ blocks_in next
before_level s next = block_level _ ∙ by_name s.name s.expr next
  where
    by_name : (name : Option Word) (bound next : Expr) → itself (acts_on_tables (out-Node (statement_node name bound next))) (before s next) ++ inside (out-Node (statement_node name bound next)) ≡ blocks_in bound ++ blocks_in next
    by_name None bound next = ap (λ l. itself (acts_on_tables l) (before s next) ++ inside l) (node.outs-Seq bound next)
    by_name (Some x) bound next = ap (λ l. itself (acts_on_tables l) (before s next) ++ inside l) (node.outs-Var x bound next)
