-- Nodes that are operations on the values of their parts.
use Rattle.std.proofs.Common.{◌≡◌, sym, subst, List}
use Rattle.lk_ast.specs.Layers.{Layer, layer}
use Rattle.lk_ast.specs.declared.declaration.Program.{Program}
use Rattle.lk_ast.specs.declared.value.Value.{Value}
use Rattle.lk_evaluation.specs.Source.{Point, act, done}
use Rattle.lk_evaluation.specs.Syntax.{parts_of}
use Rattle.lk_operators.specs.Operators.{operated}
use Rattle.lk_types.specs.Rows.{EffectSet}
use Rattle.lk_types.specs.declared.ground.Ground.{Ground}
use Rattle.lk_typing.specs.Heads.{parts}
use Rattle.lk_typing.specs.Names.{Named, Entry}
use Rattle.lk_typing.specs.Typing.{label_of, expr_of}
use Rattle.lk_sound.specs.Acts.{IsAct, IsNode}
use Rattle.lk_sound.specs.Instances.{Instances}
use Rattle.lk_sound.specs.Points.{AreLocals}
use Rattle.lk_sound.proofs.Operators.{Results, done_sound}
use Rattle.lk_sound.proofs.Points.{AreTyped, with_parts}
use Rattle.lk_sound.proofs.Stands.{StandsIn}

pub operation_node : (p : Program) (i : Instances) (functions : Named (Entry Ground)) (effects : EffectSet) (locals : Named Ground) (point : Point) → AreLocals p i locals point.names → StandsIn p point.expr
    → (l : Layer) (ts : List Ground) (t : Ground) → layer point.expr ≡ l → parts_of l ≡ parts label_of expr_of l
    → ((values : List Value) → act p point.expr.span l point.names values ≡ done point.expr.span (operated l values))
    → AreTyped p i functions locals effects (parts label_of expr_of l) ts → Results p i functions effects locals l ts t → IsNode p i effects t point
operation_node p i functions effects locals point fit stands l ts t is are acts have results =
    with_parts p i functions effects locals point fit stands t l (parts label_of expr_of l) ts is are have
    (λ values fits. subst (λ a. IsAct p i effects t a) (sym (acts values)) (done_sound p i functions effects locals point.expr.span t (operated l values) (results values fits)))
