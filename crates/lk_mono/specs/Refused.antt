-- What a ground program is refused for because of its shape.
use Rattle.std.specs.Prelude.{◌≡◌, List, Some}
use Rattle.lk_ast.specs.Functions.{main_of}
use Rattle.lk_ast.specs.declared.declaration.FunDef.{FunDef}
use Rattle.lk_ast.specs.declared.declaration.Program.{Program}
use Rattle.lk_ast.specs.declared.place.Span.{Span}
use Rattle.lk_mono.specs.Instances.{AreInstances, Body}
use Rattle.lk_mono.specs.Shapes.{IsMisshapen}
use Rattle.lk_mono.specs.declared.error.ShapeKind.{ShapeKind}
use Rattle.lk_types.specs.declared.scheme.Scheme.{Scheme}
use Rattle.lk_types.specs.declared.ty.Ty.{Ty}

-- its instances are these, and this is the first that their shapes are refused for, here
pub record HasFault (p : Program) (schemes : List Scheme) (types : List Ty) (kind : ShapeKind) (at : Span) : Type 0 where
  pub main : FunDef
  pub is : main_of p ≡ Some main
  pub mains : List Body
  pub helpers : List Body
  pub instances : AreInstances p schemes types mains helpers
  pub fault : IsMisshapen main.name.at mains helpers kind at
