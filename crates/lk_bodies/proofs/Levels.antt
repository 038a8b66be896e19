-- The walk of an expression, by those of its parts.
use Rattle.std.proofs.Common.{◌≡◌, ℕ, zero, suc, ◌+◌, arith, List, [], ◌∷◌, Option, Some, None, drop, map, slice_get, ap, ap₂, sym, ◌∙◌}
use Rattle.lk_ast.specs.Layers.{Layer, before, statement_node}
use Rattle.lk_ast.specs.declared.expression.Expr.{Expr, fold_out-Expr}
use Rattle.lk_ast.specs.declared.expression.Node.{Node, out-Node, roll-Node, fold-Node, fold-roll-Node, fold_out-Node}
use Rattle.lk_ast.specs.declared.expression.Node.TheFolds.{map-Node}
use Rattle.lk_ast.specs.declared.expression.Node.TheOpen.{Node-F}
use Rattle.lk_ast.specs.declared.expression.Node.TheVariants as node
use Rattle.lk_ast.specs.declared.expression.PartExpr.{PartExpr, fold_out-PartExpr}
use Rattle.lk_ast.specs.declared.place.Word.{Word}
use Rattle.lk_ast.specs.declared.statements.Statement.{Statement}
use Rattle.lk_bodies.specs.Walk.{Calls, Made, State, Walk, add, behind_type, called, entered_some, expr_level, extension, fields, labels_in, walks_in, node_level, part_level, variable, walk, walk_node, walk_part, with_some, zero_part}
use Rattle.lk_ground.specs.declared.program.GroundFun.{GroundFun}
use Rattle.lk_query.specs.declared.part.Part.{Part}
use Rattle.lk_types.specs.Rows.{Label}
use Rattle.lk_types.specs.declared.ground.Ground.{Ground}
use Rattle.lk_typing.specs.Names.{Named}

pub drop_one : {A : Type 0} (i : ℕ) (xs : List A) → drop 1 (drop i xs) ≡ drop (i + 1) xs
drop_one zero xs = λ i. drop 1 xs
drop_one (suc i) [] = let e : suc i + 1 ≡ suc (i + 1) = omega arith in ap (λ k. drop k []) (sym e)
drop_one (suc i) (x ∷ xs) = let e : suc i + 1 ≡ suc (i + 1) = omega arith in drop_one i xs ∙ ap (λ k. drop k (x ∷ xs)) (sym e)

module _ (calls : Calls) where
  pub walk_expr : (e : Expr) (names : Named ℕ) (s : State) → walk calls e names s ≡ walk_node calls e.node s.types names (behind_type s)
  unfolding walk walk_node
  walk_expr e names s = ap (λ w. w names s) (fold_out-Expr (List Ground → Walk) (Unit {0}) (Unit {0}) Walk (Unit {0}) (Unit {0}) (Label × Walk) (node_level calls) (λ case. tt) (λ change. tt) (expr_level calls) (λ lambda. tt) (λ last. tt) (part_level calls) e)

  -- a node with the walks of its parts
  abbrev pub with_walks : Layer → Node-F (List Ground → Walk) (Unit {0}) (Unit {0}) Walk (Unit {0}) (Unit {0}) (Label × Walk)
  with_walks l = map-Node _ _ _ _ _ _ _ (List Ground → Walk) (Unit {0}) (Unit {0}) Walk (Unit {0}) (Unit {0}) (Label × Walk) (walk_node calls) (λ case. tt) (λ change. tt) (walk calls) (λ lambda. tt) (λ last. tt) (walk_part calls) l

  pub walk_level : (n : Node) (l : Layer) → n ≡ roll-Node l → (own : List Ground) (names : Named ℕ) (s : State) → walk_node calls n own names s ≡ node_level calls (with_walks l) own names s
  unfolding walk walk_node walk_part
  walk_level n l is own names s = ap (λ m. walk_node calls m own names s) is ∙ ap (λ w. w own names s) (fold-roll-Node (List Ground → Walk) (Unit {0}) (Unit {0}) Walk (Unit {0}) (Unit {0}) (Label × Walk) (node_level calls) (λ case. tt) (λ change. tt) (expr_level calls) (λ lambda. tt) (λ last. tt) (part_level calls) l)

  pub walk_out : (n : Node) (own : List Ground) (names : Named ℕ) (s : State) → walk_node calls n own names s ≡ node_level calls (with_walks (out-Node n)) own names s
  unfolding walk walk_node walk_part
  walk_out n own names s = ap (λ w. w own names s) (fold_out-Node (List Ground → Walk) (Unit {0}) (Unit {0}) Walk (Unit {0}) (Unit {0}) (Label × Walk) (node_level calls) (λ case. tt) (λ change. tt) (expr_level calls) (λ lambda. tt) (λ last. tt) (part_level calls) n)

  pub part_level_is : (p : PartExpr) → walk_part calls p ≡ (p.label.text, walk calls p.expr)
  unfolding walk walk_part
  part_level_is p = fold_out-PartExpr (List Ground → Walk) (Unit {0}) (Unit {0}) Walk (Unit {0}) (Unit {0}) (Label × Walk) (node_level calls) (λ case. tt) (λ change. tt) (expr_level calls) (λ lambda. tt) (λ last. tt) (part_level calls) p

  pub labels_are : (items : List PartExpr) → labels_in (map (walk_part calls) items) ≡ map (λ item. item.label.text) items
  labels_are [] = λ i. []
  labels_are (item ∷ items) = ap₂ (λ l ls. l ∷ ls) (ap (λ p. p.0) (part_level_is item)) (labels_are items)

  pub walks_are : (items : List PartExpr) → walks_in (map (walk_part calls) items) ≡ map (λ item. walk calls item.expr) items
  walks_are [] = λ i. []
  walks_are (item ∷ items) = ap₂ (λ w ws. w ∷ ws) (ap (λ p. p.1) (part_level_is item)) (walks_are items)

  pub walk_record : (n : Node) (items : List PartExpr) → n ≡ node.Record items → (own : List Ground) (names : Named ℕ) (s : State)
      → walk_node calls n own names s ≡ fields own (map (λ item. item.label.text) items) (map (λ item. walk calls item.expr) items) names s
  walk_record n items is own names s = walk_level n (Node-F.Record items) (is ∙ sym (node.rolls-Record items)) own names s ∙ ap₂ (λ ls ws. fields own ls ws names s) (labels_are items) (walks_are items)

  pub walk_extend : (n : Node) (items : List PartExpr) (e : Expr) → n ≡ node.Extend items e → (own : List Ground) (names : Named ℕ) (s : State)
      → walk_node calls n own names s ≡ extension own (map (λ item. item.label.text) items) (map (λ item. walk calls item.expr) items) (walk calls e) names s
  walk_extend n items e is own names s = walk_level n (Node-F.Extend items e) (is ∙ sym (node.rolls-Extend items e)) own names s ∙ ap₂ (λ ls ws. extension own ls ws (walk calls e) names s) (labels_are items) (walks_are items)

  pub walk_var : (x : Word) (e rest : Expr) (own : List Ground) (names : Named ℕ) (s : State) → walk_node calls (node.Var x e rest) own names s ≡ walk calls rest ((x.text, (walk calls e names s).part) ∷ names) (walk calls e names s).state
  walk_var x e rest own names s = walk_level (node.Var x e rest) (Node-F.Var x e rest) (sym (node.rolls-Var x e rest)) own names s

  pub walk_seq : (e rest : Expr) (own : List Ground) (names : Named ℕ) (s : State) → walk_node calls (node.Seq e rest) own names s ≡ walk calls rest names (walk calls e names s).state
  walk_seq e rest own names s = walk_level (node.Seq e rest) (Node-F.Seq e rest) (sym (node.rolls-Seq e rest)) own names s

  -- a statement, and then what follows
  pub walk_before : (s : Statement) (next : Expr) (names : Named ℕ) (state : State)
      → walk calls (before s next) names state ≡ walk calls next (with_some s.name (walk calls s.expr names (behind_type state)).part names) (walk calls s.expr names (behind_type state)).state
  walk_before s next names state = walk_expr (before s next) names state ∙ by_name s.name s.expr
    where
      by_name : (name : Option Word) (e : Expr) → walk_node calls (statement_node name e next) state.types names (behind_type state) ≡ walk calls next (with_some name (walk calls e names (behind_type state)).part names) (walk calls e names (behind_type state)).state
      by_name None e = walk_seq e next state.types names (behind_type state)
      by_name (Some x) e = walk_var x e next state.types names (behind_type state)

  pub statement_step : (s : Statement) (e next : Expr) (names kept more : Named ℕ) (number : ℕ) (state behind after : State)
      → e ≡ before s next → behind ≡ behind_type state → record { part = number; state = after } ≡ walk calls s.expr names behind → kept ≡ names → more ≡ with_some s.name number kept
      → walk calls next more after ≡ walk calls e names state
  statement_step s e next names kept more number state behind after is first one same enters =
      let m = one ∙ ap (walk calls s.expr names) first in
      ap₂ (walk calls next) (enters ∙ ap₂ (with_some s.name) (ap (λ m. m.part) m) same) (ap (λ m. m.state) m)
      ∙ sym (walk_before s next names state)
      ∙ ap (λ e. walk calls e names state) (sym is)

-- ---- calls

pub called_not : (helpers : List GroundFun) (n h : ℕ) (numbers : List ℕ) (parts : List Part) → n ≡ 0 → called helpers n h numbers parts ≡ add zero_part (record { parts = parts; types = []; calls = [] })
unfolding called
called_not helpers zero h numbers parts is = λ i. add zero_part (record { parts = parts; types = []; calls = [] })
called_not helpers (suc n) h numbers parts is = cc

pub called_more : (helpers : List GroundFun) (n m h : ℕ) (numbers : List ℕ) (parts : List Part) (f : Option GroundFun) → n ≡ suc m → slice_get helpers h ≡ f → called helpers n h numbers parts ≡ entered_some (called helpers m) f numbers parts
unfolding called
called_more helpers n m h numbers parts f more is = ap (λ k. called helpers k h numbers parts) more ∙ ap (λ g. entered_some (called helpers m) g numbers parts) is
