-- The table of a typed program's ground program, with its continuations, can be numbered.
use Rattle.std.proofs.Common.{◌≡◌, refl, sym, ap, subst, ◌∙◌, ℕ, true, false, ◌&&◌, ◌==◌, codes, List, [], ◌∷◌, Option, Some, None, length, slice_get}
use Rattle.std.proofs.lemmas.Option.{none-some}
use Rattle.std.specs.Cmp.{second_so}
use Rattle.lk_ast.specs.Functions.{functions_of, is_client, is_main, is_named, main_of}
use Rattle.lk_ast.specs.declared.declaration.FunDef.{FunDef}
use Rattle.lk_ast.specs.declared.declaration.Program.{Program}
use Rattle.lk_ast.specs.declared.place.Loc.{Loc}
use Rattle.lk_ast.specs.declared.place.Loc.TheVariants.{Client, Server, Any}
use Rattle.lk_code.specs.Parts.{Info}
use Rattle.lk_code.specs.Sound.{IsTypedProgram}
use Rattle.lk_code.specs.Told.{info_in}
use Rattle.lk_defun.specs.Whole.{IsFirst, IsPrint, IsWhole}
use Rattle.lk_ground.specs.Language.{function_of, instance}
use Rattle.lk_ground.specs.declared.program.GroundFun.{GroundFun}
use Rattle.lk_ground.specs.declared.program.GroundProgram.{GroundProgram}
use Rattle.lk_ground_types.specs.Shapes.{has_function}
use Rattle.lk_infer.specs.declared.typed.Typed.{Typed}
use Rattle.lk_ir.specs.Orders.{CountFrom, all_orders}
use Rattle.lk_ir.specs.Tables.{label_at}
use Rattle.lk_ir.specs.declared.ir.CpsProgram.{CpsProgram}
use Rattle.lk_ir.specs.declared.nodes.LabelForm.{LabelForm}
use Rattle.lk_lower.specs.Lowering as low
use Rattle.lk_lower.specs.Lowering.{AreForms, AreFuns}
use Rattle.lk_lowered.proofs.Continued.{envs_of}
use Rattle.lk_lowered.proofs.Telling.{tells_in}
use Rattle.lk_lowered.proofs.Told.{Tells}
use Rattle.lk_lowered.proofs.TypedPrograms.{captured}
use Rattle.lk_lowered.specs.Typing.{IsContinued, IsTypedGround}
use Rattle.lk_mono.proofs.MainUses.{is_of_text}
use Rattle.lk_mono.specs.Grounded as grounded
use Rattle.lk_mono.specs.Grounded.{Are, IsGrounded}
use Rattle.lk_mono.specs.Instanced as instanced
use Rattle.lk_mono.specs.Instanced.{AreInstancesOf}
use Rattle.lk_mono.specs.Instances.{Body, uses_of}
use Rattle.lk_mono.specs.Shapes as shapes
use Rattle.lk_mono.specs.Shapes.{AreShaped, answer_level, answers_function}
use Rattle.lk_names.specs.Programs.{IsBound}
use Rattle.lk_sound.specs.Instances.{Instances, IsFine}
use Rattle.lk_sound.specs.Nodes.{TypedNode, Use}
use Rattle.lk_types.proofs.Members.{found_in}
use Rattle.lk_types.proofs.Parts.{same_some}
use Rattle.lk_types.specs.Rows.{EffectSet, effects_of}
use Rattle.lk_types.specs.declared.ground.Ground.{Ground}
use Rattle.lk_types.specs.declared.ground.Ground.TheVariants as known
use Rattle.lk_typing.specs.Types as typing
use Rattle.lk_compile.proofs.Alone.{alone}
use Rattle.lk_compile.specs.Accepted.{IsGround, IsTyped}

-- ---- where sessions begin

of_client : (place : Loc) → is_client place ≡ true → place ≡ Client
of_client Client is = refl
of_client Server is = absurd (let wrong : false ≡ true = is in cc)
of_client Any is = absurd (let wrong : false ≡ true = is in cc)

main_place : (f : FunDef) → is_main f ≡ true → f.place ≡ Client
main_place f is = of_client f.place (second_so (is_named (codes "main") f && (length f.params == 1)) (is_client f.place) is)

-- the first instance has a type whose answer has no function in it
plain_first : (p : Program) (mains helpers : List Use) (funs : List GroundFun) (bodies : List Body) → Are p mains helpers false funs bodies → (body : Body) (others : List Body) → bodies ≡ body ∷ others → answers_function body.use_of.type ≡ false
    → (f : GroundFun) → slice_get funs 0 ≡ Some f → answers_function f.ty ≡ false
plain_first p mains helpers _ _ grounded.none body others is none f at = absurd (none-some f at)
plain_first p mains helpers _ _ (grounded.more {f = g} {body = own} its rest) body others is none f at =
    let same : own ≡ body = cc in
    ap answers_function (ap (λ (h : GroundFun). h.ty) (sym (same_some at)) ∙ its.type ∙ ap (λ (b : Body). b.use_of.type) same) ∙ none

plain_main : (p : Program) (typed : Typed) (g : GroundProgram) → IsGrounded p typed.schemes typed.types g → (f : GroundFun) → instance g 0 ≡ Some f → answers_function f.ty ≡ false
plain_main p typed g is f at = elim is.shaped [ AreShaped.shaped {main = body} {others = others} same none each ↦ plain_first p (uses_of is.mains) (uses_of is.helpers) g.funs is.mains is.funs body others same none f at ]

plain_answer : (params : List Ground) (effects : EffectSet) (answer t : Ground) → t ≡ typing.function_of params effects answer → answers_function t ≡ false → has_function answer ≡ false
plain_answer params effects answer t is none = sym (ap answers_function is ∙ ap answer_level (known.outs-Fun params (effects_of effects) answer)) ∙ none

-- and it is a function of a text
record IsOfText (f : GroundFun) : Type 0 where
  effects : EffectSet
  answer : Ground
  is : f.ty ≡ typing.function_of (known.Text ∷ []) effects answer

module _ (p : Program) (typed : Typed) (i : Instances) where
  text_first : (funs : List GroundFun) (us : List Use) → AreInstancesOf p i false (λ u. IsFine i) funs us → (f : GroundFun) → slice_get funs 0 ≡ Some f → is_main (function_of f) ≡ true → IsOfText f
  text_first _ _ instanced.none f at main = absurd (none-some f at)
  text_first _ _ (instanced.more {f = own} {u = u} is others) f at main =
      let same : own ≡ f = same_some at in
      let of = is_of_text p typed.schemes typed.types (ap (λ (h : GroundFun). is_main (function_of h)) same ∙ main) is.has.typed in
      record { effects = of.0; answer = of.1; is = ap (λ (h : GroundFun). h.ty) (sym same) ∙ is.type ∙ of.2 }

-- ---- the first label

module _ (p : Program) (typed : Typed) (g : GroundProgram) (c : CpsProgram) (bound : IsBound p) (is : IsGround p typed g) (of : AreForms g c.forms) (conts : IsContinued c) where
  source : IsTypedGround p g
  source = record { bound = bound; instances = is.instances }

  tells : Tells c.forms (info_in c)
  tells = tells_in g c of (envs_of c conts.envs (captured p g c.forms source of))

  record HasFirst : Type 0 where
    main : LabelForm
    main_is : label_at c.forms 1 ≡ Some main
    first : IsFirst c main

  first_of : (f : GroundFun) → instance g 0 ≡ Some f → main_of p ≡ Some (function_of f) → HasFirst
  first_of f at main = by_funs g.funs of.funs at
    where
      passes : is_main (function_of f) ≡ true
      passes = (found_in is_main (functions_of p) (function_of f) main).1

      text : IsOfText f
      text = text_first p typed is.instances.shaped.instances g.funs is.instances.shaped.instances.mains is.instances.mains f at passes

      plain : has_function text.answer ≡ false
      plain = plain_answer (known.Text ∷ []) text.effects text.answer f.ty text.is (plain_main p typed g is.grounded f at)

      by_funs : (funs : List GroundFun) → AreFuns c.forms 0 funs 1 0 → slice_get funs 0 ≡ Some f → HasFirst
      by_funs _ (low.no_fun wholes titles labels nodes) there = absurd (none-some f there)
      by_funs _ (low.one_fun {fun = fun} body after ty whole titled type_is label lowered others) there =
          let same : fun ≡ f = same_some there in
          let has : slice_get c.forms.types ty ≡ Some (known.Fun (known.Text ∷ []) (effects_of text.effects) text.answer) = type_is.1 ∙ sym type_is.2 ∙ ap Some (ap (λ (h : GroundFun). h.ty) same ∙ text.is) in
          let told = tells.bodies 1 label.form body (known.Text ∷ []) (effects_of text.effects) text.answer label.is label.body_is (ap (slice_get c.forms.types) label.ty_is ∙ has) in
          record {
            main = label.form;
            main_is = label.is;
            first = record {
              node = label.node_is;
              body = body;
              body_is = label.body_is;
              place = label.place_is ∙ ap (λ (h : GroundFun). (function_of h).place) same ∙ main_place (function_of f) passes;
              of = record { params = known.Text ∷ []; effects = effects_of text.effects; result = text.answer; env = told.0 };
              of_is = told.1;
              params = refl;
              plain = plain;
            };
          }

  pub are_whole : CountFrom 0 (all_orders c.conts) → IsTypedProgram c → IsWhole c
  are_whole order is_typed =
      let main = is.keeps.0 in
      let first = first_of main is.keeps.1.0 is.keeps.1.1 in
      record {
        typed = is_typed;
        order = order;
        printer = of.printer;
        printer_is = of.printer_is;
        prints = record { node = of.printer_node; body = of.printer_body };
        alone = alone g c.forms of;
        main = first.main;
        main_is = first.main_is;
        first = first.first;
      }
