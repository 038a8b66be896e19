-- Functions have as many types, and as many schemes, as there are of them.
use Rattle.std.proofs.Common.{◌≡◌, suc, Bool, List, [], ◌∷◌, ◌++◌, length, refl, ap, ◌∙◌}
use Rattle.lk_ast.specs.Functions.{functions_in}
use Rattle.lk_ast.specs.declared.declaration.Decl.{Decl}
use Rattle.lk_ast.specs.declared.declaration.FunDef.{FunDef}
use Rattle.lk_ast.specs.declared.declaration.TableDecl.{TableDecl}
use Rattle.lk_types.specs.Grounding.{Grounding}
use Rattle.lk_types.specs.declared.ground.Ground.{Ground}
use Rattle.lk_types.specs.declared.scheme.Scheme.{Scheme}
use Rattle.lk_typing.specs.Groups.{AreFunctions, IsGroup, is_mutual, own_entries, scheme_entries}
use Rattle.lk_typing.specs.Names.{Named, Entry}
use Rattle.lk_typing.specs.Programs.{AreAt, AreInstances, Hold}

pub as_many_types : (functions : Named (Entry Ground)) (tables : List TableDecl) (in_mutual : Bool) (fs : List FunDef) (ts nodes : List Ground) → AreFunctions functions tables in_mutual fs ts nodes → length ts ≡ length fs
as_many_types functions tables in_mutual _ _ _ AreFunctions.none = refl
as_many_types functions tables in_mutual _ _ _ (AreFunctions.more nodes rest typed later) = ap (λ n. suc n) (as_many_types functions tables in_mutual _ _ _ later)

pub as_many_at : (σ : Grounding) (schemes : List Scheme) (ts : List Ground) → AreAt σ schemes ts → length schemes ≡ length ts
as_many_at σ [] [] are = refl
as_many_at σ [] (t ∷ ts) are = absurd are
as_many_at σ (scheme ∷ schemes) [] are = absurd are
as_many_at σ (scheme ∷ schemes) (t ∷ ts) are = ap (λ n. suc n) (as_many_at σ schemes ts are.1)

-- schemes that hold are as many as the functions
pub as_many_schemes : (earlier : Named Scheme) (tables : List TableDecl) (decl : Decl) (schemes : List Scheme) → Hold earlier tables decl schemes → length schemes ≡ length (functions_in decl)
as_many_schemes earlier tables decl schemes hold =
    let some : (ts : List Ground) × AreInstances schemes ts = hold.some in
    let typed : (nodes : List Ground) × IsGroup earlier tables decl some.0 nodes = hold.each some.0 some.1 in
    as_many_at some.1.0 schemes some.0 some.1.1
    ∙ as_many_types (own_entries (functions_in decl) some.0 ++ scheme_entries earlier) tables (is_mutual decl) (functions_in decl) some.0 typed.0 typed.1
