-- A ground program has a first instance, and it is one of `main`.
use Rattle.std.proofs.Common.{◌≡◌, false, List, [], ◌∷◌, Some, refl, slice_get, sym, ap, ◌∙◌}
use Rattle.std.proofs.lemmas.Option.{none-some}
use Rattle.lk_ast.specs.Functions.{functions_of, function_named, is_main, main_of}
use Rattle.lk_ast.specs.declared.declaration.Program.{Program}
use Rattle.lk_ground.specs.Language.{function_of, instance}
use Rattle.lk_ground.specs.declared.program.GroundFun.{GroundFun}
use Rattle.lk_ground.specs.declared.program.GroundProgram.{GroundProgram}
use Rattle.lk_types.proofs.Parts.{same_some}
use Rattle.lk_mono.proofs.Closed.{first_same, walked_from}
use Rattle.lk_mono.specs.Grounded.{Are, IsGrounded}
use Rattle.lk_mono.specs.Instances.{Body, uses_of}
use Rattle.lk_mono.specs.Keeps.{IsMainInstance}
use Rattle.lk_mono.specs.Shapes.{AreShaped}
use Rattle.lk_names.specs.Programs.{IsBound}
use Rattle.lk_principal.proofs.FunctionNames.{found_named}
use Rattle.lk_sound.proofs.Apart.{functions_apart}
use Rattle.lk_types.proofs.Members.{found_in}
use Rattle.lk_sound.specs.Nodes.{Use}
use Rattle.lk_types.specs.declared.scheme.Scheme.{Scheme}
use Rattle.lk_types.specs.declared.ty.Ty.{Ty}

module _ (p : Program) (mains helpers : List Use) (u : Use) where
  -- the first of instances whose first use is this one
  first_function : (fs : List GroundFun) (bodies : List Body) → Are p mains helpers false fs bodies → (more : List Use) → uses_of bodies ≡ u ∷ more → (f : GroundFun) → slice_get fs 0 ≡ Some f → function_named p u.name ≡ Some (function_of f)
  first_function _ _ Are.none more is f at = absurd (none-some f at)
  first_function _ _ (Are.more {f = g} {body = body} its others) more is f at =
      let same : g ≡ f = same_some at in
      let first : body.use_of ≡ u = first_same _ _ _ _ is in
      ap (function_named p) (ap (λ (w : Use). w.name) (sym first)) ∙ its.function ∙ ap (λ (h : GroundFun). Some (function_of h)) same

main_first : (p : Program) (schemes : List Scheme) (types : List Ty) → IsBound p → (g : GroundProgram) → IsGrounded p schemes types g → (main : GroundFun) → instance g 0 ≡ Some main → main_of p ≡ Some (function_of main)
main_first p schemes types bound g is main at =
    let (u, first, done) = is.instances.first in
    let (more, are) = walked_from (u ∷ []) done.number (uses_of is.mains) done.walked in
    let (among, passes) = found_in is_main (functions_of p) first.function first.main in
    let named : function_named p u.name ≡ Some first.function = ap (function_named p) first.name ∙ found_named (functions_of p) first.function (functions_apart p bound) among in
    first.main ∙ sym named ∙ first_function p (uses_of is.mains) (uses_of is.helpers) u g.funs is.mains is.funs more are main at

-- instances of bodies have a first, where these have
first_there : (p : Program) (mains helpers : List Use) (fs : List GroundFun) (bodies : List Body) → Are p mains helpers false fs bodies → (body : Body) (others : List Body) → bodies ≡ body ∷ others → (f : GroundFun) × (slice_get fs 0 ≡ Some f)
first_there p mains helpers _ _ Are.none body others is = absurd cc
first_there p mains helpers _ _ (Are.more {f = f} its rest) body others is = (f, refl)

pub main_there : (p : Program) (schemes : List Scheme) (types : List Ty) → IsBound p → (g : GroundProgram) → IsGrounded p schemes types g → (main : GroundFun) × IsMainInstance p g main
main_there p schemes types bound g is = elim is.shaped [ AreShaped.shaped {main = body} {others = others} same none each ↦ from_first body others same ]
  where
    from_first : (body : Body) (others : List Body) → is.mains ≡ body ∷ others → (main : GroundFun) × IsMainInstance p g main
    from_first body others same =
        let (main, at) = first_there p (uses_of is.mains) (uses_of is.helpers) g.funs is.mains is.funs body others same in
        (main, (at, main_first p schemes types bound g is main at))
