-- At each instance of its scheme a function is typed with the principal types of its nodes, with the least for the variables of
-- which its type says nothing.
use Rattle.std.proofs.Common.{◌≡◌, ℕ, false, List, [], ◌++◌, Some, slice_get, sym, ap, subst, ◌∙◌}
use Rattle.lk_ast.specs.Functions.{functions_in}
use Rattle.lk_ast.specs.declared.declaration.FunDef.{FunDef}
use Rattle.lk_ast.specs.declared.declaration.Program.{Program}
use Rattle.lk_ground_types.specs.Law.{AgreeLaw, EmptiedLaw, ExistsLaw}
use Rattle.lk_ground_types.specs.Least.{IsLeastBut, AreSameAt}
use Rattle.lk_outline.specs.Law.{LengthLaw}
use Rattle.lk_principal.proofs.Emptied.{all_still_lack, still_at, still_become, instance_at}
use Rattle.lk_principal.proofs.Shares.{IsOneOf, function_there, share_becomes}
use Rattle.lk_principal.proofs.There.{IsThere, there, all_schemes}
use Rattle.lk_principal.specs.Bodies.{IsTypedLeast, shares}
use Rattle.lk_principal.specs.Law.{BodyLaw, SchemesLaw}
use Rattle.lk_types.proofs.Members.{one_at}
use Rattle.lk_types.proofs.Parts.{same_some}
use Rattle.lk_types.specs.Each.{Each}
use Rattle.lk_types.specs.Grounding.{Grounding}
use Rattle.lk_types.specs.Schemes.{IsInstance, IsLacking}
use Rattle.lk_types.specs.Variables.{variables_of}
use Rattle.lk_types.specs.declared.ground.Ground.{Ground}
use Rattle.lk_types.specs.declared.scheme.Scheme.{Scheme}
use Rattle.lk_types.specs.declared.ty.Ty.{Ty}
use Rattle.lk_typing.specs.Groups.{IsGroup, is_mutual, own_entries, scheme_entries}
use Rattle.lk_typing.specs.Law.{Become}
use Rattle.lk_typing.specs.Names.{Named, Entry}
use Rattle.lk_typing.specs.Programs.{AreAt}
use Rattle.lk_ast.specs.Tables.{tables_of}

pub schemes_law : SchemesLaw
schemes_law p schemes types has = all_schemes (tables_of p) false [] p.decls schemes types has

-- from what stands for the variables of its group, where it has this type, the least for those of which its own type says nothing
typed_least : AgreeLaw → EmptiedLaw → LengthLaw → (p : Program) (schemes : List Scheme) (types : List Ty) (i : ℕ) (f : FunDef) (scheme : Scheme) (mine : List Ty) (t : Ground)
    (one : IsThere (tables_of p) [] p.decls schemes types i f scheme) → slice_get (shares (functions_in one.decl) one.inside) one.place ≡ Some mine
    → (ts : List Ground) → slice_get ts one.place ≡ Some t → (σ : Grounding) → AreAt σ one.own ts → (nodes : List Ground) → Become σ one.inside nodes → Each (IsLacking σ) one.inferred.lacks
    → (τ : Grounding) → IsLeastBut (variables_of scheme.body) τ → AreSameAt (variables_of scheme.body) τ σ → IsTypedLeast p schemes f scheme mine t
typed_least agree emptied long p schemes types i f scheme mine t one share ts is σ are nodes become lacking τ low same =
    let xs = variables_of scheme.body in
    let was : (u : Ground) × (slice_get ts one.place ≡ Some u) × IsInstance σ scheme u = instance_at σ one.own ts are one.place scheme one.has in
    let all : (ws : List Ground) × AreAt τ one.own ws = still_at emptied xs τ σ low same one.own ts are in
    let inside : (ws : List Ground) × Become τ one.inside ws = still_become emptied xs τ σ low same one.inside nodes become in
    let now : (u : Ground) × (slice_get all.0 one.place ≡ Some u) × IsInstance τ scheme u = instance_at τ one.own all.0 all.1 one.place scheme one.has in
    let the_type : now.0 ≡ t = same_some (sym now.2.body ∙ agree scheme.body τ σ same ∙ was.2.body ∙ sym was.1 ∙ is) in
    let group : IsGroup one.before (tables_of p) one.decl all.0 inside.0 = one.inferred.sound τ all.0 inside.0 all.1 inside.1 (all_still_lack emptied xs τ σ low same one.inferred.lacks lacking) in
    let functions : Named (Entry Ground) = own_entries (functions_in one.decl) all.0 ++ scheme_entries one.before in
    let function : IsOneOf long functions (tables_of p) (is_mutual one.decl) (functions_in one.decl) inside.0 one.place f t =
    function_there long functions (tables_of p) (is_mutual one.decl) (functions_in one.decl) all.0 inside.0 group one.place f t one.declared (now.1 ∙ ap (λ u. Some u) the_type) in
    record {
      σ = τ;
      instance = subst (IsInstance τ scheme) the_type now.2;
      least = low;
      nodes = function.own;
      become = share_becomes τ (functions_in one.decl) one.inside inside.0 inside.1 one.place mine function.own share function.share;
      is = record {
        decl = one.decl;
        member = one_at (functions_in one.decl) one.place f one.declared;
        functions = functions;
        seen = one.seen all.0 inside.0 group;
        typed = function.typed;
      };
    }

pub body_law : AgreeLaw → EmptiedLaw → ExistsLaw → LengthLaw → BodyLaw
body_law agree emptied exists long p schemes types has i f scheme mine is at its σ t instance =
    let one = there (tables_of p) long false [] p.decls schemes types has i f scheme is at in
    let whole = one.inferred.hold.alone one.place scheme σ t one.has instance in
    let group = one.inferred.hold.each whole.0 whole.1 in
    let general = one.inferred.general whole.0 group.0 group.1 in
    let low = exists (variables_of scheme.body) general.0 in
    typed_least agree emptied long p schemes types i f scheme mine t one (one.share mine its) whole.0 whole.2 general.0 general.1 group.0 general.2 general.3 low.0 low.1 low.2
