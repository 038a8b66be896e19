-- Values of a ground program that stand for values of its program: equal up to functions, and each label stands for the
-- place of the function or lambda that has it, whose captured values stand for the others in order.
use Rattle.std.specs.Prelude.{◌≡◌, ℕ, List, [], ◌∷◌, Some, None}
use Rattle.lk_ast.specs.declared.expression.LambdaExpr.{LambdaExpr}
use Rattle.lk_ast.specs.declared.table.Base.{Base}
use Rattle.lk_ast.specs.declared.value.Field.{Field}
use Rattle.lk_ast.specs.declared.value.Value.{Value}
use Rattle.lk_ast.specs.declared.value.Value.TheVariants as value
use Rattle.lk_index.specs.Places.{function_at, lambda_at}
use Rattle.lk_ground.specs.Language.{Whole, Site, function_of, instance, label_of}
use Rattle.lk_ground.specs.Standing.{StandsIn}
use Rattle.lk_ground.specs.declared.program.GroundFun.{GroundFun}
use Rattle.lk_ground.specs.declared.program.GroundProgram.{GroundProgram}

module _ (p : GroundProgram) where
  mutual
    pub data Alike : Value → Value → Type 0 where
      base : {v w : Value} (b : Base) → v ≡ value.Base b → w ≡ value.Base b → Alike v w
      list : {v w : Value} (values others : List Value) → v ≡ value.List values → w ≡ value.List others → AllAlike values others → Alike v w
      fields : {v w : Value} (fs gs : List Field) → v ≡ value.Fields fs → w ≡ value.Fields gs → FieldsAlike fs gs → Alike v w
      tag : {v w : Value} (t : List ℕ) (held other : Value) → v ≡ value.Tag t held → w ≡ value.Tag t other → Alike held other → Alike v w
      -- an instance and its function, which capture nothing
      function : {v w : Value} (i label : ℕ) (f : GroundFun) → instance p i ≡ Some f → label_of p (Whole i) ≡ Some label → function_at p.program.now (function_of f).name.at.start ≡ Some (function_of f)
          → v ≡ value.Fun (record { site = label; env = [] }) → w ≡ value.Fun (record { site = (function_of f).name.at.start; env = [] }) → Alike v w
      -- a lambda in an instance and in the program
      lambda : {v w : Value} (i label site : ℕ) (f : GroundFun) (l : LambdaExpr) (env others : List Value) → instance p i ≡ Some f → label_of p (Site i site) ≡ Some label
          → function_at p.program.now site ≡ None → lambda_at p.program.now site ≡ Some l → StandsIn p f l.body → AllAlike env others
          → v ≡ value.Fun (record { site = label; env = env }) → w ≡ value.Fun (record { site = site; env = others }) → Alike v w

    pub data AllAlike : List Value → List Value → Type 0 where
      none : AllAlike [] []
      more : {v w : Value} {values others : List Value} → Alike v w → AllAlike values others → AllAlike (v ∷ values) (w ∷ others)

    pub data FieldsAlike : List Field → List Field → Type 0 where
      no_field : FieldsAlike [] []
      field : {f g : Field} {fs gs : List Field} → f.label ≡ g.label → Alike f.value g.value → FieldsAlike fs gs → FieldsAlike (f ∷ fs) (g ∷ gs)
