-- Programs with continuations whose functions and frames can be numbered.
use Rattle.std.specs.Prelude.{◌≡◌, ℕ, false, [], ◌∷◌, Some, None}
use Rattle.lk_ast.specs.declared.place.Loc.TheVariants.{Client}
use Rattle.lk_ground_types.specs.Shapes.{has_function}
use Rattle.lk_ir.specs.Orders.{CountFrom, all_orders}
use Rattle.lk_ir.specs.Tables.{label_at}
use Rattle.lk_ir.specs.declared.ir.CpsProgram.{CpsProgram}
use Rattle.lk_ir.specs.declared.nodes.Body.{Body}
use Rattle.lk_ir.specs.declared.nodes.LabelForm.{LabelForm}
use Rattle.lk_types.specs.declared.ground.Ground.TheVariants as known
use Rattle.lk_code.specs.Parts.{Info}
use Rattle.lk_code.specs.Sound.{IsTypedProgram}
use Rattle.lk_code.specs.Told.{info_in}

-- neither an instance nor inside one
pub record IsPrint (l : LabelForm) : Type 0 where
  pub node : l.node ≡ None
  pub body : l.body ≡ None

-- the instance that sessions begin with: a function of a text at the client, whose answer has no function in it
pub record IsFirst (p : CpsProgram) (l : LabelForm) : Type 0 where
  pub node : l.node ≡ None
  pub body : Body
  pub body_is : l.body ≡ Some body
  pub place : body.place ≡ Client
  pub of : Info
  pub of_is : info_in p 1 ≡ Some of
  pub params : of.params ≡ known.Text ∷ []
  pub plain : has_function of.result ≡ false

-- The program is typed, its continuations are counted one by one, label 0 alone is `print`, and label 1 what sessions begin with.
pub record IsWhole (p : CpsProgram) : Type 0 where
  pub typed : IsTypedProgram p
  pub order : CountFrom 0 (all_orders p.conts)
  pub printer : LabelForm
  pub printer_is : label_at p.forms 0 ≡ Some printer
  pub prints : IsPrint printer
  pub alone : (label : ℕ) (l : LabelForm) → label_at p.forms label ≡ Some l → IsPrint l → label ≡ 0
  pub main : LabelForm
  pub main_is : label_at p.forms 1 ≡ Some main
  pub first : IsFirst p main
