-- What operators come to that do nothing but calculate.
use Rattle.std.proofs.Common.{◌≡◌, sym, subst, Bool, true, false, List, map, Some}
use Rattle.lk_ast.specs.Layers.{Layer}
use Rattle.lk_ast.specs.Tables.{tables_of}
use Rattle.lk_ast.specs.declared.declaration.Program.{Program}
use Rattle.lk_ast.specs.declared.expression.Node.TheOpen.{Node-F}
use Rattle.lk_ast.specs.declared.table.BaseKind.TheVariants as kind
use Rattle.lk_sound.proofs.Operators as operators
use Rattle.lk_sound.specs.Instances.{Instances}
use Rattle.lk_types.specs.Rows.{EffectSet}
use Rattle.lk_types.specs.declared.ground.Ground.{Ground}
use Rattle.lk_typing.specs.Heads as operator
use Rattle.lk_typing.specs.Heads.{Head, head, parts}
use Rattle.lk_typing.specs.Names.{Named}
use Rattle.lk_typing.specs.Names as typed_names
use Rattle.lk_typing.specs.Rules.{Rule}
use Rattle.lk_typing.specs.Typing.{label_of, expr_of}

-- whether what the node comes to is known by its operation alone
abbrev pub is_calculated : Layer → Bool
is_calculated (Node-F.Int n) = true
is_calculated (Node-F.Text bytes) = true
is_calculated (Node-F.Bool b) = true
is_calculated (Node-F.List es) = true
is_calculated (Node-F.Concat a b) = true
is_calculated (Node-F.Append a b) = true
is_calculated (Node-F.Cons a b) = true
is_calculated (Node-F.Add a b) = true
is_calculated (Node-F.Sub a b) = true
is_calculated (Node-F.Mul a b) = true
is_calculated (Node-F.Div a b) = true
is_calculated (Node-F.Mod a b) = true
is_calculated (Node-F.Eq a b) = true
is_calculated (Node-F.Ne a b) = true
is_calculated (Node-F.Lt a b) = true
is_calculated (Node-F.Le a b) = true
is_calculated (Node-F.Gt a b) = true
is_calculated (Node-F.Ge a b) = true
is_calculated (Node-F.Neg e) = true
is_calculated (Node-F.Not e) = true
is_calculated (Node-F.Hd e) = true
is_calculated (Node-F.Tl e) = true
is_calculated (Node-F.Empty e) = true
is_calculated (Node-F.IntToString e) = true
is_calculated (Node-F.Record parts) = true
is_calculated (Node-F.Extend parts e) = true
is_calculated (Node-F.Project e l) = true
is_calculated (Node-F.Tag l e) = true
is_calculated other = false

module _ (p : Program) (i : Instances) (functions : Named (typed_names.Entry Ground)) (effects : EffectSet) (locals : Named Ground) where
  abbrev By : Head → List Ground → Ground → Type 0
  By = Rule functions (tables_of p) locals effects

  head_by : (g h : Head) (ts : List Ground) (t : Ground) → Some g ≡ Some h → By h ts t → By g ts t
  head_by g h ts t is by = let same : g ≡ h = cc in subst (λ x. By x ts t) (sym same) by

  pub results : (l : Layer) (h : Head) (ts : List Ground) (t : Ground) → head label_of expr_of l ≡ Some h → is_calculated l ≡ true → By h ts t → operators.Results p i functions effects locals l ts t
  results (Node-F.Int m) h ts t its calculated by = operators.literal_number p i functions effects locals m ts t (head_by (operator.Literal kind.Int) h ts t its by)
  results (Node-F.Text bytes) h ts t its calculated by = operators.literal_text p i functions effects locals bytes ts t (head_by (operator.Literal kind.Text) h ts t its by)
  results (Node-F.Bool b) h ts t its calculated by = operators.literal_truth p i functions effects locals b ts t (head_by (operator.Literal kind.Bool) h ts t its by)
  results (Node-F.Concat a b) h ts t its calculated by = operators.concat_results p i functions effects locals a b ts t (head_by operator.Concat h ts t its by)
  results (Node-F.Append a b) h ts t its calculated by = operators.append_results p i functions effects locals a b ts t (head_by operator.Append h ts t its by)
  results (Node-F.Cons a b) h ts t its calculated by = operators.cons_results p i functions effects locals a b ts t (head_by operator.Cons h ts t its by)
  results (Node-F.Add a b) h ts t its calculated by = operators.add_results p i functions effects locals a b ts t (head_by operator.Arithmetic h ts t its by)
  results (Node-F.Sub a b) h ts t its calculated by = operators.sub_results p i functions effects locals a b ts t (head_by operator.Arithmetic h ts t its by)
  results (Node-F.Mul a b) h ts t its calculated by = operators.mul_results p i functions effects locals a b ts t (head_by operator.Arithmetic h ts t its by)
  results (Node-F.Div a b) h ts t its calculated by = operators.div_results p i functions effects locals a b ts t (head_by operator.Division h ts t its by)
  results (Node-F.Mod a b) h ts t its calculated by = operators.mod_results p i functions effects locals a b ts t (head_by operator.Division h ts t its by)
  results (Node-F.Eq a b) h ts t its calculated by = operators.equal_results p i functions effects locals a b ts t (head_by operator.Comparison h ts t its by)
  results (Node-F.Ne a b) h ts t its calculated by = operators.other_results p i functions effects locals a b ts t (head_by operator.Comparison h ts t its by)
  results (Node-F.Lt a b) h ts t its calculated by = operators.less_results p i functions effects locals a b ts t (head_by operator.Comparison h ts t its by)
  results (Node-F.Le a b) h ts t its calculated by = operators.at_most_results p i functions effects locals a b ts t (head_by operator.Comparison h ts t its by)
  results (Node-F.Gt a b) h ts t its calculated by = operators.greater_results p i functions effects locals a b ts t (head_by operator.Comparison h ts t its by)
  results (Node-F.Ge a b) h ts t its calculated by = operators.at_least_results p i functions effects locals a b ts t (head_by operator.Comparison h ts t its by)
  results (Node-F.Neg d) h ts t its calculated by = operators.negation_results p i functions effects locals d ts t (head_by operator.Negation h ts t its by)
  results (Node-F.Not d) h ts t its calculated by = operators.not_results p i functions effects locals d ts t (head_by operator.Not h ts t its by)
  results (Node-F.Hd d) h ts t its calculated by = operators.first_results p i functions effects locals d ts t (head_by operator.First h ts t its by)
  results (Node-F.Tl d) h ts t its calculated by = operators.rest_results p i functions effects locals d ts t (head_by operator.Rest h ts t its by)
  results (Node-F.Empty d) h ts t its calculated by = operators.empty_results p i functions effects locals d ts t (head_by operator.Empty h ts t its by)
  results (Node-F.IntToString d) h ts t its calculated by = operators.int_to_string_results p i functions effects locals d ts t (head_by operator.IntToString h ts t its by)
  results (Node-F.Record fields) h ts t its calculated by = operators.record_results p i functions effects locals fields ts t (head_by (operator.Record (map label_of fields)) h ts t its by)
  results (Node-F.Extend fields d) h ts t its calculated by = operators.extend_results p i functions effects locals fields d ts t (head_by (operator.Extend (map label_of fields)) h ts t its by)
  results (Node-F.List es) h ts t its calculated by = operators.items_results p i functions effects locals es ts t (head_by operator.Items h ts t its by)
  results (Node-F.Project d l) h ts t its calculated by = operators.project_results p i functions effects locals d l ts t (head_by (operator.Project l.text) h ts t its by)
  results (Node-F.Tag l d) h ts t its calculated by = operators.tag_results p i functions effects locals l d ts t (head_by (operator.Tag l.text) h ts t its by)
  results other h ts t its calculated by = absurd cc
