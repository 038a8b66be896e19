-- No operator but calls, records and lists has more than three parts.
use Rattle.std.proofs.Common.{◌≡◌, refl, ℕ, List, ◌∷◌, Option, Some, None}
use Rattle.lk_ast.specs.declared.declaration.TableDecl.{TableDecl}
use Rattle.lk_types.specs.declared.ty.Effects.{Effects}
use Rattle.lk_types.specs.declared.ty.Ty.{Ty}
use Rattle.lk_typing.specs.Equations.{never}
use Rattle.lk_typing.specs.Heads.{Head}
use Rattle.lk_typing.specs.Heads as operator
use Rattle.lk_typing.specs.Names.{Named, Entry}
use Rattle.lk_equations.specs.Fixed.{fixed_at}

module _ (functions : Named (Entry Ty)) (tables : List TableDecl) (names : Named Ty) (effects : Effects) where
  pub too_many : (h : Option Head) (a b c d : Ty) (ts : List Ty) (n : ℕ) → fixed_at functions tables names effects h (a ∷ b ∷ c ∷ d ∷ ts) n ≡ never n
  too_many None a b c d ts n = refl
  too_many (Some (operator.Literal k)) a b c d ts n = refl
  too_many (Some (operator.Local x)) a b c d ts n = refl
  too_many (Some (operator.Function g)) a b c d ts n = refl
  too_many (Some (operator.Call g)) a b c d ts n = refl
  too_many (Some operator.Apply) a b c d ts n = refl
  too_many (Some operator.Seq) a b c d ts n = refl
  too_many (Some operator.If) a b c d ts n = refl
  too_many (Some operator.Logic) a b c d ts n = refl
  too_many (Some operator.Concat) a b c d ts n = refl
  too_many (Some operator.Append) a b c d ts n = refl
  too_many (Some operator.Cons) a b c d ts n = refl
  too_many (Some operator.Arithmetic) a b c d ts n = refl
  too_many (Some operator.Division) a b c d ts n = refl
  too_many (Some operator.Comparison) a b c d ts n = refl
  too_many (Some operator.Negation) a b c d ts n = refl
  too_many (Some operator.Not) a b c d ts n = refl
  too_many (Some operator.First) a b c d ts n = refl
  too_many (Some operator.Rest) a b c d ts n = refl
  too_many (Some operator.Empty) a b c d ts n = refl
  too_many (Some operator.IntToString) a b c d ts n = refl
  too_many (Some operator.Print) a b c d ts n = refl
  too_many (Some (operator.Record ls)) a b c d ts n = refl
  too_many (Some (operator.Extend ls)) a b c d ts n = refl
  too_many (Some operator.Items) a b c d ts n = refl
  too_many (Some (operator.Project l)) a b c d ts n = refl
  too_many (Some (operator.Tag l)) a b c d ts n = refl
  too_many (Some (operator.Table x)) a b c d ts n = refl
  too_many (Some operator.Where) a b c d ts n = refl
  too_many (Some (operator.Insert x)) a b c d ts n = refl
