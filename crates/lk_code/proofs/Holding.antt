-- A frame made at a typed node holds values of the types told of it.
use Rattle.std.proofs.Common.{◌≡◌, sym, subst, ◌∙◌, inl, inr, ◌⊎◌, ◌+◌, List, [], ◌++◌, Some}
use Rattle.lk_ast.specs.declared.place.Loc.TheVariants.{Any}
use Rattle.lk_ast.specs.declared.value.Value.{Value}
use Rattle.lk_fits.proofs.Fitting.{fit_both}
use Rattle.lk_fits.specs.Values.{FitEach}
use Rattle.lk_ir.specs.Continuing.{conts_at}
use Rattle.lk_ir.specs.Environments.{Env, lookup_all}
use Rattle.lk_ir.specs.Tables.{form_at, names_of}
use Rattle.lk_ir.specs.TypedUses.{UsedBehindAs}
use Rattle.lk_ir.specs.Uses.{Among}
use Rattle.lk_ir.specs.declared.nodes.Cont.{Cont}
use Rattle.lk_ir.specs.declared.nodes.Form.{Form}
use Rattle.lk_types.proofs.Parts.{same_some}
use Rattle.lk_types.specs.declared.ground.Ground.{Ground}
use Rattle.lk_code.proofs.KeptNames.{all_kept}
use Rattle.lk_code.proofs.Naming.{AreFound}
use Rattle.lk_code.proofs.Places.{AreSplit, AtPart, AtTurn, place as place_of, split}
use Rattle.lk_code.proofs.Waiting.{IsNode, inverted, told, types}
use Rattle.lk_code.specs.Acting.{FitNames}
use Rattle.lk_code.specs.Parts as typed
use Rattle.lk_code.specs.Parts.{AreTyped, Context, IsTyped}
use Rattle.lk_code.specs.Sound.{IsFrameOf, held_types, told_by}
use Rattle.lk_code.specs.Tables.{cont_at, first_frame, frame_info}
use Rattle.lk_code.specs.Told.{kept_types}
use Rattle.lk_code.specs.TypedLaw.{IsWhole}
use Rattle.lk_code.specs.Values.{IsFun}
use Rattle.lk_code.specs.declared.infos.FrameInfo.{FrameInfo}
use Rattle.lk_code.specs.declared.tables.CodeTables.{CodeTables}
use Rattle.lk_code.specs.declared.tables.Home.{Home}

module _ (c : CodeTables) (whole : IsWhole c) (h : Home) (form : Form) (cont : Cont) (i : FrameInfo) (there : form_at c.forms h.node ≡ Some form) (is : cont_at c h ≡ Some cont) (info_is : frame_info c (first_frame c + cont.order) ≡ Some i)
    (context : Context) (t : Ground) (has : IsTyped c.forms (told_by c) context h.node t) (names : Env) (fit : FitNames (IsFun c) (λ x. Among x (names_of cont.keeps)) context names) where
  node : IsNode c.forms (told_by c) context form t
  node = inverted c.forms (told_by c) context h.node form t there has

  frame_types : IsFrameOf c.forms form h.position cont i
  frame_types = types c whole h form cont i there is info_is [] Any

  found : (kept : List Ground) → kept_types c.forms cont.keeps ≡ Some kept → AreFound (IsFun c) names (names_of cont.keeps) kept
  found kept are = by_place (place_of c.forms form cont form.parts (conts_at c.conts h.node) (whole.sound.named.each h.node form there) (whole.sound.named_as.each h.node form there) h.position is)
    where
      by_place : AtPart c.forms form cont form.parts h.position ⊎ AtTurn c.forms form cont form.parts h.position → AreFound (IsFun c) names (names_of cont.keeps) kept
      by_place (inl at) =
          let s : AreSplit c.forms (told_by c) context at.earlier at.position at.later node.ts = split c.forms (told_by c) context at.earlier at.position at.later node.ts (subst (λ ks. AreTyped c.forms (told_by c) context ks node.ts) at.is node.parts) in
          all_kept c.forms (IsFun c) (UsedBehindAs c.forms form at.later) context names cont.keeps kept are at.types (told c whole h form cont i there is info_is [] Any context t node at.later s.after s.rest) fit
      by_place (inr at) = all_kept c.forms (IsFun c) (UsedBehindAs c.forms form []) context names cont.keeps kept are at.types (told c whole h form cont i there is info_is [] Any context t node [] [] typed.none) fit

  pub holds_law : (done : List Value) (held : List Ground) → held_types c.forms form h.position ≡ Some held → FitEach (IsFun c) done held
      → (kept : List Value) × (lookup_all names (names_of cont.keeps) ≡ Some kept) × FitEach (IsFun c) (done ++ kept) i.env
  holds_law done held held_are fits =
      let all : AreFound (IsFun c) names (names_of cont.keeps) frame_types.kept = found frame_types.kept frame_types.kept_are in
      let both : FitEach (IsFun c) (done ++ all.values) (held ++ frame_types.kept) = fit_both (IsFun c) done all.values held frame_types.kept fits all.fit in
      (all.values, all.are, subst (FitEach (IsFun c) (done ++ all.values)) (sym frame_types.env) (subst (λ ts. FitEach (IsFun c) (done ++ all.values) (ts ++ frame_types.kept)) (same_some (sym held_are ∙ frame_types.held_are)) both))
