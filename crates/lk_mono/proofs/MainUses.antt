-- The first instance: `main` at its least type.
use Rattle.std.proofs.Common.{◌≡◌, ℕ, Bool, true, ◌&&◌, ◌==◌, codes, List, [], ◌∷◌, Some, None, length, slice_get, sym, ap, subst, ◌∙◌}
use Rattle.std.proofs.lemmas.Bool.{eqb-true}
use Rattle.std.proofs.lemmas.List.{length-map}
use Rattle.std.proofs.lemmas.Option.{none-some}
use Rattle.std.specs.Cmp.{first_so, second_so}
use native.Mathlib.Omega.{arith}
use Rattle.lk_ast.specs.Functions.{functions_of, function_named, is_client, is_main, is_named, main_of}
use Rattle.lk_ast.specs.declared.declaration.FunDef.{FunDef}
use Rattle.lk_ast.specs.declared.declaration.Program.{Program}
use Rattle.lk_ast.specs.declared.declaration.TableDecl.{TableDecl}
use Rattle.lk_types.proofs.Parts.{same_some}
use Rattle.lk_ground_types.specs.Least.{least}
use Rattle.lk_infer.specs.Inferred.{HasTypes}
use Rattle.lk_mono.proofs.MembersAt.{IsMemberAt, IsNamedAt, member_at, named_at}
use Rattle.lk_mono.specs.Mains.{of_text}
use Rattle.lk_mono.specs.Members.{TheMember, members_of, named_member}
use Rattle.lk_names.specs.Programs.{IsBound}
use Rattle.lk_principal.proofs.FunctionNames.{found_named}
use Rattle.lk_principal.specs.Bodies.{IsTypedLeast, shares}
use Rattle.lk_principal.specs.Law.{BodyLaw, LeastLaw, SchemesLaw}
use Rattle.lk_sound.proofs.Apart.{functions_apart}
use Rattle.lk_types.proofs.Members.{found_in}
use Rattle.lk_types.specs.Each.{Each}
use Rattle.lk_types.specs.Rows.{EffectSet, effects_of}
use Rattle.lk_types.specs.Schemes.{IsInstance}
use Rattle.lk_types.specs.declared.ground.Ground.{Ground}
use Rattle.lk_types.specs.declared.ground.Ground.TheVariants as known
use Rattle.lk_types.specs.declared.scheme.Scheme.{Scheme}
use Rattle.lk_types.specs.declared.ty.Effect.{Effect}
use Rattle.lk_types.specs.declared.ty.Ty.{Ty}
use Rattle.lk_typing.specs.Groups.{IsFunction}
use Rattle.lk_typing.specs.Names.{Named, Entry, types_of}
use Rattle.lk_typing.specs.Types.{function_of}

module _ (p : Program) (schemes : List Scheme) (types : List Ty) where
  -- what there is of `main`
  pub record IsFirst (main : FunDef) (member : TheMember) : Type 0 where
    pub number : ℕ
    pub found : named_member main.name.text (members_of (functions_of p) schemes types) ≡ Some member
    pub named : function_named p main.name.text ≡ Some main
    pub is : slice_get (functions_of p) number ≡ Some main
    pub has : slice_get schemes number ≡ Some member.scheme
    pub own : slice_get (shares (functions_of p) types) number ≡ Some member.types
    pub effects : List Effect
    pub answer : Ground
    pub instance : IsInstance least member.scheme (of_text effects answer)
    pub typed : IsTypedLeast p schemes main member.scheme member.types (of_text effects answer)

  -- the types of one parameter that is a text
  one_text : (ts : List Ground) → length ts ≡ 1 → Each (λ t. t ≡ known.Text) ts → ts ≡ known.Text ∷ []
  one_text [] one are = absurd (omega (arith, one))
  one_text (t ∷ []) one are = ap (λ t. t ∷ []) are.0
  one_text (t ∷ u ∷ ts) one are = absurd (omega (arith, one))

  one_parameter : (f : FunDef) → is_main f ≡ true → length f.params ≡ 1
  one_parameter f is = eqb-true (length f.params) 1 (second_so (is_named (codes "main") f) (length f.params == 1) (first_so (is_named (codes "main") f && (length f.params == 1)) (is_client f.place) is))

  pub is_of_text : {functions : Named (Entry Ground)} {tables : List TableDecl} {in_mutual : Bool} {f : FunDef} {t : Ground} {nodes : List Ground} → is_main f ≡ true
      → IsFunction functions tables in_mutual f t nodes → (effects : EffectSet) × (answer : Ground) × (t ≡ function_of (known.Text ∷ []) effects answer)
  is_of_text {f = f} is typed =
      let count : length (types_of typed.params) ≡ 1 = length-map typed.params (λ x. x.1) ∙ sym (length-map typed.params (λ x. x.0)) ∙ ap length typed.names ∙ length-map f.params (λ w. w.text) ∙ one_parameter f is in
      (typed.effects, typed.answer, typed.is ∙ ap (λ ts. known.Fun ts (effects_of typed.effects) typed.answer) (one_text (types_of typed.params) count (typed.main is)))

  module _ (bound : IsBound p) (has : HasTypes p schemes types) (schemes_law : SchemesLaw) (least_law : LeastLaw) (body_law : BodyLaw) where
    pub first : (main : FunDef) → main_of p ≡ Some main → (member : TheMember) × IsFirst main member
    first main is =
        let (among, passes) = found_in is_main (functions_of p) main is in
        let named : function_named p main.name.text ≡ Some main = found_named (functions_of p) main (functions_apart p bound) among in
        let at : IsNamedAt (functions_of p) schemes types main.name.text main = named_at main.name.text (functions_of p) schemes types main (schemes_law p schemes types has) named in
        let there : IsMemberAt (functions_of p) schemes types at.number at.member = member_at (functions_of p) schemes types at.number at.member at.at in
        let (t, instance) = least_law p schemes types has at.number at.member.scheme there.scheme in
        let typed : IsTypedLeast p schemes main at.member.scheme at.member.types t = body_law p schemes types has at.number main at.member.scheme at.member.types at.is there.scheme there.own least t instance in
        let (effects, answer, same) = is_of_text passes typed.is.typed in (
          at.member,
          record {
            number = at.number;
            found = at.found;
            named = named;
            is = at.is;
            has = there.scheme;
            own = there.own;
            effects = effects_of effects;
            answer = answer;
            instance = subst (IsInstance least at.member.scheme) same instance;
            typed = subst (IsTypedLeast p schemes main at.member.scheme at.member.types) same typed;
          },
        )

    -- the member that is found by the name of `main`
    pub first_found : (main : FunDef) → main_of p ≡ Some main → (list : List TheMember) → list ≡ members_of (functions_of p) schemes types
        → (m : TheMember) → Some m ≡ named_member main.name.text list → IsFirst main m
    first_found main is list are m found =
        let (member, there) = first main is in
        let same : Some m ≡ Some member = found ∙ ap (named_member main.name.text) are ∙ there.found in
        subst (IsFirst main) (sym (same_some same)) there

    pub never_missing : (main : FunDef) → main_of p ≡ Some main → (list : List TheMember) → list ≡ members_of (functions_of p) schemes types
        → None ≡ named_member main.name.text list → ⊥
    never_missing main is list are missing =
        let (member, there) = first main is in
        none-some member (missing ∙ ap (named_member main.name.text) are ∙ there.found)
