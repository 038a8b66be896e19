-- Each point that has a type does what a point of its type does: by its typing rule, and an operator by its node.
use Rattle.std.proofs.Common.{◌≡◌, refl, sym, subst, map, false, List, [], ◌∷◌, ◌++◌}
use Rattle.std.specs.Prelude.{Some}
use Rattle.lk_ast.specs.Layers.{Layer, layer}
use Rattle.lk_ast.specs.declared.declaration.Program.{Program}
use Rattle.lk_ast.specs.declared.expression.Expr.{Expr}
use Rattle.lk_ast.specs.declared.expression.Node.TheOpen.{Node-F}
use Rattle.lk_ast.specs.declared.place.Word.{Word}
use Rattle.lk_ast.specs.declared.table.BaseKind.TheVariants as kind
use Rattle.lk_evaluation.specs.Source.{Point}
use Rattle.lk_types.proofs.Members.{each_front, each_back}
use Rattle.lk_types.specs.Each.{Each}
use Rattle.lk_types.specs.Rows.{EffectSet}
use Rattle.lk_types.specs.declared.ground.Ground.{Ground}
use Rattle.lk_typing.specs.Heads as operator
use Rattle.lk_typing.specs.Heads.{Head, head, parts}
use Rattle.lk_typing.specs.Names.{Named, Entry}
use Rattle.lk_ast.specs.Tables.{tables_of}
use Rattle.lk_typing.specs.Rules.{Rule}
use Rattle.lk_typing.specs.Rules as rule
use Rattle.lk_typing.specs.Types.{function_of}
use Rattle.lk_typing.specs.Typing.{HasType, label_of, expr_of, plain, lambda, var, switch, switch_open, for_list, for_table, query, update, delete}
use Rattle.lk_sound.specs.Acts.{IsNode}
use Rattle.lk_sound.specs.Instances.{Instances, IsListed, IsFine, AreClosed}
use Rattle.lk_sound.specs.Law.{AreBoundAndApart}
use Rattle.lk_sound.specs.Nodes.{Use, used_by, nodes_of, case_nodes}
use Rattle.lk_sound.specs.Points.{IsPoint, AreLocals}
use Rattle.lk_sound.proofs.Blocks as blocks
use Rattle.lk_sound.proofs.Naming as naming
use Rattle.lk_sound.proofs.OperatorNodes.{operation_node}
use Rattle.lk_sound.proofs.Operators as operators
use Rattle.lk_sound.proofs.Points.{AreTyped, no_typed, typed_more, each_typed, cases_typed}
use Rattle.lk_sound.proofs.Stands.{StandsIn}
use Rattle.lk_sound.proofs.Switches as switches
use Rattle.lk_sound.proofs.TableNodes as changes

module _ (p : Program) (i : Instances) (apart : AreBoundAndApart p) (closed : AreClosed p i) (functions : Named (Entry Ground)) (effects : EffectSet) (locals : Named Ground) (point : Point) (fit : AreLocals p i locals point.names) (stands : StandsIn p point.expr) where
  -- the rule of an operator, whose use of a function is an instance
  abbrev By : Head → List Ground → Ground → Type 0
  By h ts t = (by : Rule functions (tables_of p) locals effects h ts t) × ((u : Use) → used_by by ≡ Some u → IsListed i.mains u)

  -- an operator is what its node says
  by_head : (g h : Head) (ts : List Ground) (t : Ground) → Some g ≡ Some h → By h ts t → By g ts t
  by_head g h ts t is by = let same : g ≡ h = cc in subst (λ x. By x ts t) (sym same) by

  table : (x : Word) (ts : List Ground) (t : Ground) → layer point.expr ≡ Node-F.Table x → By (operator.Table x.text) ts t → IsNode p i effects t point
  table x _ _ is (rule.table row has scans, uses) = changes.table_node p i apart.bound apart.blocks closed functions effects locals point fit stands x row is has scans

  insert : (x : Word) (e : Expr) (ts : List Ground) (t : Ground) → layer point.expr ≡ Node-F.Insert x e → AreTyped p i functions locals effects (e ∷ []) ts → By (operator.Insert x.text) ts t → IsNode p i effects t point
  insert x e _ _ is (typed_more one no_typed) (rule.insert row has writes, uses) = changes.insert_node p i apart.bound apart.blocks closed functions effects locals point fit stands x e row is one has writes

  function : (g : _) (ts : List Ground) (t : Ground) → layer point.expr ≡ Node-F.Function g → By (operator.Function g) ts t → IsNode p i effects t point
  function g _ t is (rule.function may, uses) = naming.function_node p i apart.bound apart.placed closed functions effects locals point fit stands g t is (uses (record { name = g; type = t }) refl)

  call : (g : Word) (args : List Expr) (ts : List Ground) (t : Ground) → layer point.expr ≡ Node-F.Call g args → AreTyped p i functions locals effects args ts → By (operator.Call g.text) ts t → IsNode p i effects t point
  call g args ts t is have (rule.call may, uses) = naming.call_node p i apart.bound apart.placed closed functions effects locals point fit stands g args ts t is have (uses (record { name = g.text; type = function_of ts effects t }) refl)

  operator_node : (l : Layer) (h : Head) (ts : List Ground) (t : Ground) → layer point.expr ≡ l → head label_of expr_of l ≡ Some h → AreTyped p i functions locals effects (parts label_of expr_of l) ts → By h ts t → IsNode p i effects t point
  operator_node (Node-F.Int n) h ts t is its have by = operation_node p i functions effects locals point fit stands (Node-F.Int n) ts t is refl (λ values. refl) have (operators.literal_number p i functions effects locals n ts t (by_head (operator.Literal kind.Int) h ts t its by).0)
  operator_node (Node-F.Text bytes) h ts t is its have by = operation_node p i functions effects locals point fit stands (Node-F.Text bytes) ts t is refl (λ values. refl) have (operators.literal_text p i functions effects locals bytes ts t (by_head (operator.Literal kind.Text) h ts t its by).0)
  operator_node (Node-F.Bool b) h ts t is its have by = operation_node p i functions effects locals point fit stands (Node-F.Bool b) ts t is refl (λ values. refl) have (operators.literal_truth p i functions effects locals b ts t (by_head (operator.Literal kind.Bool) h ts t its by).0)
  operator_node (Node-F.Name x) h ts t is its have by = naming.local_node p i apart.bound apart.placed closed functions effects locals point fit stands x ts t is (by_head (operator.Local x) h ts t its by).0
  operator_node (Node-F.Function g) h ts t is its have by = function g ts t is (by_head (operator.Function g) h ts t its by)
  operator_node (Node-F.Call g args) h ts t is its have by = call g args ts t is have (by_head (operator.Call g.text) h ts t its by)
  operator_node (Node-F.Apply f args) h ts t is its have by = naming.apply_node p i apart.bound apart.placed closed functions effects locals point fit stands f args ts t is have (by_head operator.Apply h ts t its by).0
  operator_node (Node-F.Seq d e) h ts t is its have by = blocks.seq_node p i functions effects locals point fit stands d e ts t is have (by_head operator.Seq h ts t its by).0
  operator_node (Node-F.If c d e) h ts t is its have by = blocks.if_node p i functions effects locals point fit stands c d e ts t is have (by_head operator.If h ts t its by).0
  operator_node (Node-F.And a b) h ts t is its have by = blocks.and_node p i functions effects locals point fit stands a b ts t is have (by_head operator.Logic h ts t its by).0
  operator_node (Node-F.Or a b) h ts t is its have by = blocks.or_node p i functions effects locals point fit stands a b ts t is have (by_head operator.Logic h ts t its by).0
  operator_node (Node-F.Concat a b) h ts t is its have by = operation_node p i functions effects locals point fit stands (Node-F.Concat a b) ts t is refl (λ values. refl) have (operators.concat_results p i functions effects locals a b ts t (by_head operator.Concat h ts t its by).0)
  operator_node (Node-F.Append a b) h ts t is its have by = operation_node p i functions effects locals point fit stands (Node-F.Append a b) ts t is refl (λ values. refl) have (operators.append_results p i functions effects locals a b ts t (by_head operator.Append h ts t its by).0)
  operator_node (Node-F.Cons a b) h ts t is its have by = operation_node p i functions effects locals point fit stands (Node-F.Cons a b) ts t is refl (λ values. refl) have (operators.cons_results p i functions effects locals a b ts t (by_head operator.Cons h ts t its by).0)
  operator_node (Node-F.Add a b) h ts t is its have by = operation_node p i functions effects locals point fit stands (Node-F.Add a b) ts t is refl (λ values. refl) have (operators.add_results p i functions effects locals a b ts t (by_head operator.Arithmetic h ts t its by).0)
  operator_node (Node-F.Sub a b) h ts t is its have by = operation_node p i functions effects locals point fit stands (Node-F.Sub a b) ts t is refl (λ values. refl) have (operators.sub_results p i functions effects locals a b ts t (by_head operator.Arithmetic h ts t its by).0)
  operator_node (Node-F.Mul a b) h ts t is its have by = operation_node p i functions effects locals point fit stands (Node-F.Mul a b) ts t is refl (λ values. refl) have (operators.mul_results p i functions effects locals a b ts t (by_head operator.Arithmetic h ts t its by).0)
  operator_node (Node-F.Div a b) h ts t is its have by = operation_node p i functions effects locals point fit stands (Node-F.Div a b) ts t is refl (λ values. refl) have (operators.div_results p i functions effects locals a b ts t (by_head operator.Division h ts t its by).0)
  operator_node (Node-F.Mod a b) h ts t is its have by = operation_node p i functions effects locals point fit stands (Node-F.Mod a b) ts t is refl (λ values. refl) have (operators.mod_results p i functions effects locals a b ts t (by_head operator.Division h ts t its by).0)
  operator_node (Node-F.Eq a b) h ts t is its have by = operation_node p i functions effects locals point fit stands (Node-F.Eq a b) ts t is refl (λ values. refl) have (operators.equal_results p i functions effects locals a b ts t (by_head operator.Comparison h ts t its by).0)
  operator_node (Node-F.Ne a b) h ts t is its have by = operation_node p i functions effects locals point fit stands (Node-F.Ne a b) ts t is refl (λ values. refl) have (operators.other_results p i functions effects locals a b ts t (by_head operator.Comparison h ts t its by).0)
  operator_node (Node-F.Lt a b) h ts t is its have by = operation_node p i functions effects locals point fit stands (Node-F.Lt a b) ts t is refl (λ values. refl) have (operators.less_results p i functions effects locals a b ts t (by_head operator.Comparison h ts t its by).0)
  operator_node (Node-F.Le a b) h ts t is its have by = operation_node p i functions effects locals point fit stands (Node-F.Le a b) ts t is refl (λ values. refl) have (operators.at_most_results p i functions effects locals a b ts t (by_head operator.Comparison h ts t its by).0)
  operator_node (Node-F.Gt a b) h ts t is its have by = operation_node p i functions effects locals point fit stands (Node-F.Gt a b) ts t is refl (λ values. refl) have (operators.greater_results p i functions effects locals a b ts t (by_head operator.Comparison h ts t its by).0)
  operator_node (Node-F.Ge a b) h ts t is its have by = operation_node p i functions effects locals point fit stands (Node-F.Ge a b) ts t is refl (λ values. refl) have (operators.at_least_results p i functions effects locals a b ts t (by_head operator.Comparison h ts t its by).0)
  operator_node (Node-F.Neg e) h ts t is its have by = operation_node p i functions effects locals point fit stands (Node-F.Neg e) ts t is refl (λ values. refl) have (operators.negation_results p i functions effects locals e ts t (by_head operator.Negation h ts t its by).0)
  operator_node (Node-F.Not e) h ts t is its have by = operation_node p i functions effects locals point fit stands (Node-F.Not e) ts t is refl (λ values. refl) have (operators.not_results p i functions effects locals e ts t (by_head operator.Not h ts t its by).0)
  operator_node (Node-F.Hd e) h ts t is its have by = operation_node p i functions effects locals point fit stands (Node-F.Hd e) ts t is refl (λ values. refl) have (operators.first_results p i functions effects locals e ts t (by_head operator.First h ts t its by).0)
  operator_node (Node-F.Tl e) h ts t is its have by = operation_node p i functions effects locals point fit stands (Node-F.Tl e) ts t is refl (λ values. refl) have (operators.rest_results p i functions effects locals e ts t (by_head operator.Rest h ts t its by).0)
  operator_node (Node-F.Empty e) h ts t is its have by = operation_node p i functions effects locals point fit stands (Node-F.Empty e) ts t is refl (λ values. refl) have (operators.empty_results p i functions effects locals e ts t (by_head operator.Empty h ts t its by).0)
  operator_node (Node-F.IntToString e) h ts t is its have by = operation_node p i functions effects locals point fit stands (Node-F.IntToString e) ts t is refl (λ values. refl) have (operators.int_to_string_results p i functions effects locals e ts t (by_head operator.IntToString h ts t its by).0)
  operator_node (Node-F.Print e) h ts t is its have by = blocks.print_node p i functions effects locals point fit stands e ts t is have (by_head operator.Print h ts t its by).0
  operator_node (Node-F.Record fields) h ts t is its have by = operation_node p i functions effects locals point fit stands (Node-F.Record fields) ts t is refl (λ values. refl) have (operators.record_results p i functions effects locals fields ts t (by_head (operator.Record (map label_of fields)) h ts t its by).0)
  operator_node (Node-F.Extend fields e) h ts t is its have by = operation_node p i functions effects locals point fit stands (Node-F.Extend fields e) ts t is refl (λ values. refl) have (operators.extend_results p i functions effects locals fields e ts t (by_head (operator.Extend (map label_of fields)) h ts t its by).0)
  operator_node (Node-F.List items) h ts t is its have by = operation_node p i functions effects locals point fit stands (Node-F.List items) ts t is refl (λ values. refl) have (operators.items_results p i functions effects locals items ts t (by_head operator.Items h ts t its by).0)
  operator_node (Node-F.Project e l) h ts t is its have by = operation_node p i functions effects locals point fit stands (Node-F.Project e l) ts t is refl (λ values. refl) have (operators.project_results p i functions effects locals e l ts t (by_head (operator.Project l.text) h ts t its by).0)
  operator_node (Node-F.Tag l e) h ts t is its have by = operation_node p i functions effects locals point fit stands (Node-F.Tag l e) ts t is refl (λ values. refl) have (operators.tag_results p i functions effects locals l e ts t (by_head (operator.Tag l.text) h ts t its by).0)
  operator_node (Node-F.Table x) h ts t is its have by = table x ts t is (by_head (operator.Table x.text) h ts t its by)
  operator_node (Node-F.Where c e) h ts t is its have by = blocks.where_node p i functions effects locals point fit stands c e ts t is have (by_head operator.Where h ts t its by).0
  operator_node (Node-F.Insert x e) h ts t is its have by = insert x e ts t is have (by_head (operator.Insert x.text) h ts t its by)
  operator_node (Node-F.Lambda l) h ts t is its have by = absurd cc
  operator_node (Node-F.Var x d e) h ts t is its have by = absurd cc
  operator_node (Node-F.Switch d cases last) h ts t is its have by = absurd cc
  operator_node (Node-F.ForList x d body) h ts t is its have by = absurd cc
  operator_node (Node-F.ForTable x rows body) h ts t is its have by = absurd cc
  operator_node (Node-F.Query keys e) h ts t is its have by = absurd cc
  operator_node (Node-F.Update change) h ts t is its have by = absurd cc
  operator_node (Node-F.Delete change) h ts t is its have by = absurd cc

  -- what has a type, with fine nodes
  typed_node : (t : Ground) (inside : List Ground) (typed : HasType functions (tables_of p) locals effects point.expr t inside) → Each (IsFine i) (nodes_of false typed) → IsNode p i effects t point
  unfolding nodes_of
  typed_node t inside (plain h ts its have by) (own, fine) = operator_node (layer point.expr) h ts t refl its (each_typed p i functions have fine) (by, λ u used. own.calls u refl used)
  typed_node _ _ (lambda {inside} l params own b is named moves typed local) (node, fine) =
      naming.lambda_node p i apart.bound apart.placed closed functions effects locals point fit stands l params own b is named (record { inside = inside; typed = typed; fine = fine })
  typed_node t _ (var x d rest a first last is one then) (own, fine) =
      blocks.var_node p i functions effects locals point fit stands x d rest a t is
      (record { inside = first; typed = one; fine = each_front (IsFine i) (nodes_of false one) (nodes_of false then) fine })
      (record { inside = last; typed = then; fine = each_back (IsFine i) (nodes_of false one) (nodes_of false then) fine })
  typed_node t _ (switch d cases row tags ts first bodies is one have all made local) (own, fine) =
      switches.switch_node p i functions effects locals point fit stands t d cases row tags ts is
      (record { inside = first; typed = one; fine = each_front (IsFine i) (nodes_of false one) (case_nodes false have) fine })
      (cases_typed p i functions have (each_back (IsFine i) (nodes_of false one) (case_nodes false have) fine)) all made
  typed_node t _ (switch_open d cases last other row tags ts first bodies inside is one have all typed made local) (own, fine) =
      let behind : Each (IsFine i) (case_nodes false have ++ nodes_of false typed) = each_back (IsFine i) (nodes_of false one) (case_nodes false have ++ nodes_of false typed) fine in
      switches.switch_open_node p i functions effects locals point fit stands t d cases last other row tags ts is
      (record { inside = first; typed = one; fine = each_front (IsFine i) (nodes_of false one) (case_nodes false have ++ nodes_of false typed) fine })
      (cases_typed p i functions have (each_front (IsFine i) (case_nodes false have) (nodes_of false typed) behind)) all
      (record { inside = inside; typed = typed; fine = each_back (IsFine i) (case_nodes false have) (nodes_of false typed) behind }) made
  typed_node _ _ (for_list x d body a b first inside is one typed) (own, fine) =
      blocks.for_list_node p i functions effects locals point fit stands x d body a b is
      (record { inside = first; typed = one; fine = each_front (IsFine i) (nodes_of false one) (nodes_of false typed) fine })
      (record { inside = inside; typed = typed; fine = each_back (IsFine i) (nodes_of false one) (nodes_of false typed) fine })
  typed_node _ _ (for_table x rows body a b first inside is one typed) (own, fine) =
      blocks.for_table_node p i functions effects locals point fit stands x rows body a b is
      (record { inside = first; typed = one; fine = each_front (IsFine i) (nodes_of false one) (nodes_of false typed) fine })
      (record { inside = inside; typed = typed; fine = each_back (IsFine i) (nodes_of false one) (nodes_of false typed) fine })
  typed_node _ _ (query keys body a inside is typed sorted scans own) (node, fine) =
      changes.query_node p i apart.bound apart.blocks closed functions effects locals point fit stands keys body a inside is typed scans node
  typed_node _ _ (update {inside} change is typed writes) (node, fine) =
      changes.update_node p i apart.bound apart.blocks closed functions effects locals point fit stands change inside is typed writes node
  typed_node _ _ (delete {inside} change is typed writes) (node, fine) =
      changes.delete_node p i apart.bound apart.blocks closed functions effects locals point fit stands change inside is typed writes node

-- a point that has a type
pub node_law : (p : Program) (i : Instances) → AreBoundAndApart p → AreClosed p i → (effects : EffectSet) (t : Ground) (point : Point) → IsPoint p i effects t point → IsNode p i effects t point
node_law p i apart closed effects t point is = typed_node p i apart closed is.functions effects is.locals point is.fit (is.within, is.blocks) t is.inside is.typed is.fine
