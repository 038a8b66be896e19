-- The law of the walk: functions have types by the rules just where something can stand for the variables of the walk so that
-- all that it says holds.
use Rattle.std.specs.Prelude.{◌≡◌, ◌↔◌, List, Some, map}
use Rattle.lk_ast.specs.declared.declaration.Decl.{Decl}
use Rattle.lk_ast.specs.declared.declaration.TableDecl.{TableDecl}
use Rattle.lk_types.specs.Grounding.{Grounding, under}
use Rattle.lk_types.specs.declared.ground.Ground.{Ground}
use Rattle.lk_types.specs.declared.scheme.Scheme.{Scheme}
use Rattle.lk_types.specs.declared.ty.Ty.{Ty}
use Rattle.lk_typing.specs.Groups.{IsGroup, group_types, group_walked}
use Rattle.lk_typing.specs.Names.{Named}
use Rattle.lk_typing.specs.Steps.{Meets}

-- what these types become
abbrev pub Become : Grounding → List Ty → List Ground → Type 0
Become σ types ts = map (under σ) types ≡ map (λ t. Some t) ts

-- all that the walk through the group says holds, and its functions and nodes get these types
pub record IsMetBy (σ : Grounding) (earlier : Named Scheme) (tables : List TableDecl) (decl : Decl) (ts nodes : List Ground) : Type 0 where
  pub met : Meets σ (group_walked earlier tables decl).steps
  pub functions : Become σ (group_types decl) ts
  pub inside : Become σ (group_walked earlier tables decl).nodes nodes

abbrev pub WalkLaw : Type 0
WalkLaw = (earlier : Named Scheme) (tables : List TableDecl) (decl : Decl) (ts nodes : List Ground)
    → IsGroup earlier tables decl ts nodes ↔ ((σ : Grounding) × IsMetBy σ earlier tables decl ts nodes)
