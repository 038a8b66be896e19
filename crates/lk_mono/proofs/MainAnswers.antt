-- The first instance: `main` at the type that its scheme's body becomes.
use Rattle.std.proofs.Common.{◌≡◌, List, Some, refl, sym, subst}
use Rattle.lk_ast.specs.Functions.{main_of}
use Rattle.lk_ast.specs.declared.declaration.FunDef.{FunDef}
use Rattle.lk_ast.specs.declared.declaration.Program.{Program}
use Rattle.lk_ground_types.specs.Least.{least}
use Rattle.lk_mono.proofs.MainUses.{IsFirst}
use Rattle.lk_mono.specs.Instances.{IsMain}
use Rattle.lk_mono.specs.Mains.{of_text}
use Rattle.lk_mono.specs.Members.{TheMember}
use Rattle.lk_principal.specs.Law.{IsInstanceOf}
use Rattle.lk_types.specs.Schemes.{IsInstance}
use Rattle.lk_types.specs.declared.ground.Ground.{Ground}
use Rattle.lk_types.specs.declared.scheme.Scheme.{Scheme}
use Rattle.lk_types.specs.declared.ty.Ty.{Ty}

module _ (p : Program) (schemes : List Scheme) (types : List Ty) (main : FunDef) (member : TheMember) (is : main_of p ≡ Some main) (first : IsFirst p schemes types main member) where
  abbrev main_type : Ground
  main_type = of_text first.effects first.answer

  pub is_main_use : (t : Ground) → t ≡ main_type → IsMain p schemes (record { name = main.name.text; type = t })
  is_main_use t same = record {
    number = first.number;
    function = main;
    scheme = member.scheme;
    main = is;
    is = first.is;
    has = first.has;
    name = refl;
    instance = subst (IsInstance least member.scheme) (sym same) first.instance;
  }

  pub is_instance : (t : Ground) → t ≡ main_type → IsInstanceOf p schemes main.name.text t
  is_instance t same = record {
    number = first.number;
    function = main;
    scheme = member.scheme;
    σ = least;
    is = first.is;
    named = first.named;
    has = first.has;
    instance = subst (IsInstance least member.scheme) (sym same) first.instance;
  }
