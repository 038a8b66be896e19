-- The schemes of a group that are made of the types that unification finds are principal, and its nodes have those types.
use Rattle.std.proofs.Common.{◌≡◌, true, List, [], ◌++◌, map, length, flat_map, refl}
use Rattle.lk_ast.specs.declared.declaration.Decl.{Decl}
use Rattle.lk_ast.specs.declared.declaration.TableDecl.{TableDecl}
use Rattle.lk_infer.proofs.GeneralisedTypes.{all_at, all_become, all_even, all_narrowed, body_at, narrowed_lacking, one_narrowed, one_narrowed_lacking, one_of_loose}
use Rattle.lk_types.proofs.Members.{each_of_in}
use Rattle.lk_infer.proofs.GroupTypes.{AreFound, is_group, lacks, loose_bodies, loose_nodes, typed_at}
use Rattle.lk_infer.proofs.Made.{BecomeLoosely, loosely_all}
use Rattle.lk_infer.proofs.Restricted.{restricted, restricted_lacking}
use Rattle.lk_infer.specs.Generalised.{AreGeneralised}
use Rattle.lk_infer.proofs.OwnLacks.{all_own}
use Rattle.lk_infer.specs.Inferred.{IsInferred}
use Rattle.lk_types.specs.Each.{Each}
use Rattle.lk_types.specs.Grounding.{Grounding}
use Rattle.lk_types.specs.Rows.{no_fields}
use Rattle.lk_types.specs.Schemes.{IsLacking}
use Rattle.lk_types.specs.Variables.{variables_of}
use Rattle.lk_types.specs.declared.ground.Ground.{Ground}
use Rattle.lk_types.specs.declared.ground.Ground.TheVariants as known
use Rattle.lk_types.specs.declared.scheme.Scheme.{Scheme}
use Rattle.lk_types.specs.declared.ty.Ty.{Ty}
use Rattle.lk_typing.specs.EffectRows.{EffectsLaw, IsEvenScheme}
use Rattle.lk_typing.specs.Groups.{IsGroup, group_types, group_walked}
use Rattle.lk_typing.specs.Law.{Become, WalkLaw}
use Rattle.lk_typing.specs.Names.{Named}
use Rattle.lk_typing.specs.Programs.{AreAt, AreInstances, Hold, StandAlone}
use Rattle.lk_typing.specs.Steps.{equation_of}
use Rattle.lk_typing.specs.Unknowns.{same}
use Rattle.lk_unify.specs.Constraints.{AreSides}

-- the least there is for each type and row, and all effects
abbrev full : Grounding
full = record { plain = λ n. known.Int; rows = λ n. no_fields; effects = λ n e. true }

module _ {earlier : Named Scheme} {tables : List TableDecl} {decl : Decl} {bodies nodes rest : List Ty} (found : AreFound earlier tables decl bodies nodes rest)
    (schemes : List Scheme) (made : AreGeneralised (bodies ++ (nodes ++ rest)) bodies schemes) where
  abbrev types : List Ty
  types = bodies ++ (nodes ++ rest)

  full_lacking : Each (IsLacking full) (lacks found)
  full_lacking = each_of_in (IsLacking full) (lacks found) (λ lack known. restricted_lacking [] full lack (λ there. cc))

  -- what the bodies become loosely is an instance of the schemes, and a typing
  instances : (τ : Grounding) → Each (IsLacking τ) (lacks found) → (ts : List Ground) → BecomeLoosely τ bodies ts → AreInstances schemes ts
  instances τ lacking ts are =
      let inside = loose_nodes found τ lacking in
      let at = typed_at found ts inside.0 (is_group found τ lacking ts inside.0 are inside.1) in
      (at.0, all_at types at.0 bodies schemes ts made at.1.functions at.1.lacking)

  group_some : (ts : List Ground) × AreInstances schemes ts
  group_some = let ts = loose_bodies found full full_lacking in (ts.0, instances full full_lacking ts.0 ts.1)

  group_alone : StandAlone schemes
  group_alone i scheme σ t at instance =
      let body = body_at types i bodies schemes scheme made at in
      let τ : Grounding = restricted (variables_of body.0) σ in
      let lacking : Each (IsLacking τ) (lacks found) = one_narrowed_lacking types σ body.0 scheme t body.2 instance in
      let ts = loose_bodies found τ lacking in
      (ts.0, instances τ lacking ts.0 ts.1, one_of_loose τ i bodies ts.0 body.0 t ts.1 body.1 (one_narrowed types σ body.0 scheme t body.2 instance))

  group_each : (ts : List Ground) → AreInstances schemes ts → (inside : List Ground) × IsGroup earlier tables decl ts inside
  group_each ts at =
      let τ : Grounding = restricted (flat_map variables_of bodies) at.0 in
      let lacking : Each (IsLacking τ) (lacks found) = narrowed_lacking types at.0 bodies schemes ts made at.1 in
      let inside = loose_nodes found τ lacking in
      (inside.0, is_group found τ lacking ts inside.0 (all_narrowed at.0 bodies ts (loosely_all at.0 bodies ts (all_become types at.0 bodies schemes ts made at.1))) inside.1)

  group_hold : Hold earlier tables decl schemes
  group_hold = record { some = group_some; alone = group_alone; each = group_each }

  group_general : (ts inside : List Ground) → IsGroup earlier tables decl ts inside → (τ : Grounding) × AreAt τ schemes ts × Become τ nodes inside × Each (IsLacking τ) (lacks found)
  group_general ts inside group =
      let at = typed_at found ts inside group in
      (at.0, all_at types at.0 bodies schemes ts made at.1.functions at.1.lacking, at.1.inside_is, at.1.lacking)

  group_sound : (τ : Grounding) (ts inside : List Ground) → AreAt τ schemes ts → Become τ nodes inside → Each (IsLacking τ) (lacks found) → IsGroup earlier tables decl ts inside
  group_sound τ ts inside at are lacking =
      is_group found τ lacking ts inside (loosely_all τ bodies ts (all_become types τ bodies schemes ts made at)) (loosely_all τ nodes inside are)

  group_even : Each IsEvenScheme schemes
  group_even =
      let ts = loose_bodies found full full_lacking in
      let inside = loose_nodes found full full_lacking in
      let at = typed_at found ts.0 inside.0 (is_group found full full_lacking ts.0 inside.0 ts.1 inside.1) in
      all_even types full at.0 (λ n e. refl) bodies schemes ts.0 made at.1.functions ts.1

pub group_inferred : WalkLaw → EffectsLaw
    → (earlier : Named Scheme) (tables : List TableDecl) (decl : Decl) → Each (λ entry. IsEvenScheme entry.1) earlier
    → (bodies nodes rest : List Ty) (schemes : List Scheme)
    → AreSides (map (λ t. same t t) (group_types decl)
    ++ (map (λ t. same t t) (group_walked earlier tables decl).nodes ++ map (λ step. equation_of step.said) (group_walked earlier tables decl).steps)) (bodies ++ (nodes ++ rest))
    → length bodies ≡ length (group_types decl) → length nodes ≡ length (group_walked earlier tables decl).nodes
    → AreGeneralised (bodies ++ (nodes ++ rest)) bodies schemes
    → IsInferred earlier tables decl schemes nodes × Each IsEvenScheme schemes
group_inferred walk effects earlier tables decl even bodies nodes rest schemes sides bodies_fit nodes_fit made =
    let found : AreFound earlier tables decl bodies nodes rest =
    record { walk = walk; effects = effects; even = even; sides = sides; bodies_fit = bodies_fit; nodes_fit = nodes_fit } in
    (record { hold = group_hold found schemes made; own = all_own (bodies ++ (nodes ++ rest)) bodies schemes made; lacks = lacks found; general = group_general found schemes made; sound = group_sound found schemes made }, group_even found schemes made)
