-- The types that unification finds for a group: each typing of the group is an instance of them, and where their row variables lack
-- the labels that the types show, what they become loosely is a typing.
use Rattle.std.proofs.Common.{◌≡◌, ℕ, List, [], ◌∷◌, ◌++◌, map, length, flat_map, refl, sym, ap₂, ◌∙◌}
use Rattle.lk_arena.specs.Openings.{Opening}
use Rattle.lk_ast.specs.declared.declaration.Decl.{Decl}
use Rattle.lk_ast.specs.declared.declaration.TableDecl.{TableDecl}
use Rattle.lk_types.proofs.Members.{each_both, each_to_map, each_from_map, each_weaker, each_front, each_back}
use Rattle.lk_infer.proofs.Made.{BecomeLoosely, HasMeaning, HasLooseMeaning, alike, alike_met, alike_made, all_loose, length_alike, makes_front, makes_back, opens_left, OpensLeft}
use Rattle.lk_infer.proofs.Made.{made_meanings, met_loosely, same_loosely, shown_lacking, loosely_meant}
use Rattle.lk_infer.proofs.NodeVariables.{IsVariable, nodes_named, variable_even}
use Rattle.lk_infer.proofs.LooselyComposed.{loose_after}
use Rattle.lk_infer.specs.Lacks.{shown}
use Rattle.lk_types.specs.Each.{Each}
use Rattle.lk_types.specs.Grounding.{Grounding, under}
use Rattle.lk_types.specs.Rows.{EffectSet}
use Rattle.lk_types.specs.Schemes.{IsLacking}
use Rattle.lk_types.specs.Solutions.{IsMet, Solves}
use Rattle.lk_types.specs.declared.equation.Equation.{Equation}
use Rattle.lk_types.specs.declared.ground.Ground.{Ground}
use Rattle.lk_types.specs.declared.scheme.Lack.{Lack}
use Rattle.lk_types.specs.declared.scheme.Scheme.{Scheme}
use Rattle.lk_types.specs.declared.ty.Ty.{Ty}
use Rattle.lk_typing.specs.EffectRows.{EffectsLaw, IsEven, IsEvenScheme, IsMetLoosely, apart, loosely}
use Rattle.lk_typing.specs.Groups.{IsGroup, group_types, group_walked}
use Rattle.lk_typing.specs.Law.{Become, IsMetBy, WalkLaw}
use Rattle.lk_typing.specs.Names.{Named}
use Rattle.lk_typing.specs.Steps.{equation_of}
use Rattle.lk_unify.specs.Constraints.{AreSides, Makes}

-- what is said in a walk, as equations
abbrev pub said_in : Named Scheme → List TableDecl → Decl → List Equation
said_in earlier tables decl = map (λ step. equation_of step.said) (group_walked earlier tables decl).steps

-- Types that unification finds: of the functions of a group, of its nodes, and of the sides of what is said in it.
pub record AreFound (earlier : Named Scheme) (tables : List TableDecl) (decl : Decl) (bodies nodes rest : List Ty) : Type 0 where
  pub walk : WalkLaw
  pub effects : EffectsLaw
  pub even : Each (λ entry. IsEvenScheme entry.1) earlier
  pub sides : AreSides (alike (group_types decl) ++ (alike (group_walked earlier tables decl).nodes ++ said_in earlier tables decl)) (bodies ++ (nodes ++ rest))
  pub bodies_fit : length bodies ≡ length (group_types decl)
  pub nodes_fit : length nodes ≡ length (group_walked earlier tables decl).nodes

even_become : (law : EffectsLaw) (before : ℕ → EffectSet) (σ : Grounding) (types : List Ty) (ts : List Ground) → Each (IsEven before) types → BecomeLoosely σ types ts
    → Become (apart before σ) types ts
even_become law before σ types ts even are = alike_on types even ∙ are
  where
    alike_on : (types : List Ty) → Each (IsEven before) types → map (under (apart before σ)) types ≡ map (loosely σ) types
    alike_on [] even = refl
    alike_on (t ∷ types) even = ap₂ (λ a as'. a ∷ as') (law.same before σ t even.0) (alike_on types even.1)

module _ {earlier : Named Scheme} {tables : List TableDecl} {decl : Decl} {bodies nodes rest : List Ty} (found : AreFound earlier tables decl bodies nodes rest) where
  abbrev ρ : Opening
  ρ = found.sides.opening

  abbrev fronts : List Equation
  fronts = alike (group_types decl)

  abbrev middles : List Equation
  middles = alike (group_walked earlier tables decl).nodes

  abbrev backs : List Equation
  backs = said_in earlier tables decl

  abbrev pub types : List Ty
  types = bodies ++ (nodes ++ rest)

  -- what the types show that row variables lack
  abbrev pub lacks : List Lack
  lacks = flat_map shown types

  made_bodies : Makes ρ fronts bodies
  made_bodies = makes_front ρ fronts (middles ++ backs) bodies (nodes ++ rest) (found.bodies_fit ∙ sym (length_alike (group_types decl))) found.sides.sides

  made_others : Makes ρ (middles ++ backs) (nodes ++ rest)
  made_others = makes_back ρ fronts (middles ++ backs) bodies (nodes ++ rest) (found.bodies_fit ∙ sym (length_alike (group_types decl))) found.sides.sides

  made_nodes : Makes ρ middles nodes
  made_nodes = makes_front ρ middles backs nodes rest (found.nodes_fit ∙ sym (length_alike (group_walked earlier tables decl).nodes)) made_others

  made_rest : Makes ρ backs rest
  made_rest = makes_back ρ middles backs nodes rest (found.nodes_fit ∙ sym (length_alike (group_walked earlier tables decl).nodes)) made_others

  -- ---- each typing is an instance

  solved : (σ : Grounding) (ts inside : List Ground) → IsMetBy σ earlier tables decl ts inside → Solves σ (fronts ++ (middles ++ backs))
  solved σ ts inside met =
      each_both (IsMet σ) fronts (middles ++ backs) (alike_met σ (group_types decl) ts met.functions)
      (each_both (IsMet σ) middles backs (alike_met σ (group_walked earlier tables decl).nodes inside met.inside)
      (each_to_map (IsMet σ) (λ step. equation_of step.said) (group_walked earlier tables decl).steps met.met))

  -- what is put for the variables at a solution
  pub record IsTypedAt (τ : Grounding) (ts inside : List Ground) : Type 0 where
    pub functions : Become τ bodies ts
    pub inside_is : Become τ nodes inside
    pub lacking : Each (IsLacking τ) lacks

  pub typed_at : (ts inside : List Ground) → IsGroup earlier tables decl ts inside → (τ : Grounding) × IsTypedAt τ ts inside
  typed_at ts inside group =
      let met = (found.walk earlier tables decl ts inside).0 group in
      let σ : Grounding = met.0 in
      let all : Solves σ (fronts ++ (middles ++ backs)) = solved σ ts inside met.1 in
      let general = found.sides.general σ all in
      let τ : Grounding = general.0 in
      let opens = opens_left ρ τ σ (fronts ++ (middles ++ backs)) general.1 in
      let others = each_back (OpensLeft ρ τ σ) fronts (middles ++ backs) opens in (
        τ,
        record {
          functions = alike_made ρ τ σ (group_types decl) bodies ts made_bodies (each_front (OpensLeft ρ τ σ) fronts (middles ++ backs) opens) met.1.functions;
          inside_is = alike_made ρ τ σ (group_walked earlier tables decl).nodes nodes inside made_nodes (each_front (OpensLeft ρ τ σ) middles backs others) met.1.inside;
          lacking = shown_lacking τ types (made_meanings ρ τ σ (fronts ++ (middles ++ backs)) types found.sides.sides opens all);
        },
      )

  -- the types have meanings at some grounding
  meant : (τ : Grounding) × Each (HasMeaning τ) types
  meant =
      let all = found.sides.some.1 in
      let σ : Grounding = found.sides.some.0 in
      let general = found.sides.general σ all in
      (general.0, made_meanings ρ general.0 σ (fronts ++ (middles ++ backs)) types found.sides.sides (opens_left ρ general.0 σ (fronts ++ (middles ++ backs)) general.1) all)

  -- ---- what the types become loosely is a typing

  module _ (τ : Grounding) (lacking : Each (IsLacking τ) lacks) where
    loose : Each (HasLooseMeaning τ) types
    loose = loosely_meant τ meant.0 types meant.1 lacking

    pub loose_bodies : (ts : List Ground) × BecomeLoosely τ bodies ts
    loose_bodies = all_loose τ bodies (each_front (HasLooseMeaning τ) bodies (nodes ++ rest) loose)

    pub loose_nodes : (ts : List Ground) × BecomeLoosely τ nodes ts
    loose_nodes = all_loose τ nodes (each_front (HasLooseMeaning τ) nodes rest (each_back (HasLooseMeaning τ) bodies (nodes ++ rest) loose))

    pub is_group : (ts inside : List Ground) → BecomeLoosely τ bodies ts → BecomeLoosely τ nodes inside → IsGroup earlier tables decl ts inside
    is_group ts inside functions inner =
        let even = found.effects.even earlier tables decl found.even in
        let before : (ℕ → EffectSet) = even.0 in
        let σ : Grounding = loose_after ρ τ in
        let met : Each (IsMetLoosely σ) backs = met_loosely ρ τ backs rest made_rest (each_back (HasLooseMeaning τ) nodes rest (each_back (HasLooseMeaning τ) bodies (nodes ++ rest) loose)) in
        (found.walk earlier tables decl ts inside).1 (
          apart before σ,
          record {
            met = found.effects.holds before σ (group_walked earlier tables decl).steps even.1 (each_from_map (IsMetLoosely σ) (λ step. equation_of step.said) (group_walked earlier tables decl).steps met);
            functions = even_become found.effects before σ (group_types decl) ts even.2 (same_loosely ρ τ (group_types decl) bodies ts made_bodies functions);
            inside = even_become found.effects before σ (group_walked earlier tables decl).nodes inside
                (each_weaker IsVariable (IsEven before) (variable_even before) (group_walked earlier tables decl).nodes (nodes_named earlier tables decl))
                (same_loosely ρ τ (group_walked earlier tables decl).nodes nodes inside made_nodes inner);
          },
        )
