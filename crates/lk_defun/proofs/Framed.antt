-- What a frame's information shows, and where frames stand.
use Rattle.std.proofs.Common.{◌≡◌, refl, sym, ap, subst, ◌∙◌, ℕ, zero, suc, ◌+◌, List, [], ◌∷◌, ◌++◌, Option, Some, None, length, slice_get, arith}
use Rattle.std.specs.Option.{option_and_then, option_map}
use Rattle.lk_ir.specs.Tables.{form_at, label_at}
use Rattle.lk_ir.specs.declared.ir.CpsProgram.{CpsProgram}
use Rattle.lk_ir.specs.declared.nodes.Cont.{Cont}
use Rattle.lk_ir.specs.declared.nodes.Form.{Form}
use Rattle.lk_ir.specs.declared.nodes.Forms.{Forms}
use Rattle.lk_ir.specs.declared.nodes.LabelForm.{LabelForm}
use Rattle.lk_types.specs.declared.ground.Ground.{Ground}
use Rattle.lk_code.specs.Sound.{IsFrameOf, IsReturnOf, held_types, hole_type}
use Rattle.lk_code.specs.Tables.{type_at}
use Rattle.lk_code.specs.Told.{kept_types}
use Rattle.lk_code.specs.declared.infos.FrameInfo.{FrameInfo}
use Rattle.lk_code.specs.declared.infos.FunInfo.{FunInfo}
use Rattle.lk_code.specs.declared.tables.Home.{Home}
use Rattle.lk_defun.proofs.Lists.{nowhere, some_same}
use Rattle.lk_defun.specs.Numbers.{all_types, cont_in, frame_at, frame_by, frame_in, owner_in, position_types, return_at, return_by, returns_from, title_of}
use Rattle.lk_defun.specs.Words.{Word}
use Rattle.lk_defun.specs.declared.positions.PositionTypes.{PositionTypes}

-- ---- returns

pub returns_long : (f : Forms) (n : ℕ) (funs : List FunInfo) → length (returns_from f n funs) ≡ length funs
returns_long f n [] = refl
returns_long f n (i ∷ is) = ap suc (returns_long f (n + 1) is)

pub returns_at : (f : Forms) (n : ℕ) (funs : List FunInfo) (k : ℕ) (i : FunInfo) → slice_get funs k ≡ Some i → slice_get (returns_from f n funs) k ≡ Some (return_at f (n + k) i)
returns_at f n [] k i at = absurd (nowhere at)
returns_at f n (j ∷ is) zero i at =
    let same = some_same at in
    let none : n ≡ n + 0 = omega arith in
    ap (λ m. Some (return_at f m j)) none ∙ ap (λ j. Some (return_at f (n + 0) j)) same
returns_at f n (j ∷ is) (suc k) i at =
    let one : (n + 1) + k ≡ n + suc k = omega arith in
    returns_at f (n + 1) is k i at ∙ ap (λ m. Some (return_at f m i)) one

return_by_owner : (i : FunInfo) (owner : Option Word) (r : FrameInfo) → option_map (return_by i) owner ≡ Some r → IsReturnOf i r
return_by_owner i None r is = absurd (nowhere is)
return_by_owner i (Some owner) r is =
    subst (IsReturnOf i) (some_same is) (record { place = refl; env = refl; hole = refl; result = refl })

return_by_label : (f : Forms) (l : Option LabelForm) (i : FunInfo) (r : FrameInfo) → option_and_then (λ (l : LabelForm). option_map (return_by i) (owner_in f l i.kind)) l ≡ Some r → IsReturnOf i r
return_by_label f None i r is = absurd (nowhere is)
return_by_label f (Some l) i r is = return_by_owner i (owner_in f l i.kind) r is

pub return_shown : (f : Forms) (label : ℕ) (i : FunInfo) (r : FrameInfo) → return_at f label i ≡ Some r → IsReturnOf i r
return_shown f label i r is = return_by_label f (label_at f label) i r is

-- ---- positions

-- a frame runs where the function around does, and has the types of its position
pub record IsShownFrame (p : CpsProgram) (funs : List FunInfo) (h : Home) (form : Form) (cont : Cont) (i : FrameInfo) : Type 0 where
  pub within : FunInfo
  pub within_is : slice_get funs form.within ≡ Some within
  pub place : i.place ≡ within.place
  pub types : IsFrameOf p.forms form h.position cont i

module _ (p : CpsProgram) (funs : List FunInfo) (h : Home) (form : Form) (cont : Cont) (i : FrameInfo) where
  -- what its types are made of
  record Typed (held kept : Option (List Ground)) (hole result : Option Ground) (t : PositionTypes) : Type 0 where
    own : List Ground
    own_is : held ≡ Some own
    more : List Ground
    more_is : kept ≡ Some more
    env : t.env ≡ own ++ more
    hole_is : hole ≡ Some t.hole
    result_is : result ≡ Some t.result

  types_shown : (held kept : Option (List Ground)) (hole result : Option Ground) (t : PositionTypes) → all_types held kept hole result ≡ Some t → Typed held kept hole result t
  types_shown None kept hole result t is = absurd (nowhere is)
  types_shown (Some held) None hole result t is = absurd (nowhere is)
  types_shown (Some held) (Some kept) None result t is = absurd (nowhere is)
  types_shown (Some held) (Some kept) (Some hole) None t is = absurd (nowhere is)
  types_shown (Some held) (Some kept) (Some hole) (Some result) t is =
      subst (Typed (Some held) (Some kept) (Some hole) (Some result)) (some_same is) (record { own = held; own_is = refl; more = kept; more_is = refl; env = refl; hole_is = refl; result_is = refl })

  by_types : (within : FunInfo) (owner : Word) (types : Option PositionTypes) → slice_get funs form.within ≡ Some within → position_types p.forms form h.position cont ≡ types
      → option_map (frame_by within owner form.kind h.position) types ≡ Some i → IsShownFrame p funs h form cont i
  by_types within owner None at are is = absurd (nowhere is)
  by_types within owner (Some t) at are is =
      let typed = types_shown (held_types p.forms form h.position) (kept_types p.forms cont.keeps) (hole_type p.forms form h.position) (type_at p.forms form.ty) t are in
      subst (IsShownFrame p funs h form cont) (some_same is) (record {
        within = within;
        within_is = at;
        place = refl;
        types = record { held = typed.own; held_are = typed.own_is; kept = typed.more; kept_are = typed.more_is; env = typed.env; hole = typed.hole_is; result = typed.result_is };
      })

  by_owner : (within : FunInfo) (owner : Option Word) → slice_get funs form.within ≡ Some within
      → option_and_then (λ owner. option_map (frame_by within owner form.kind h.position) (position_types p.forms form h.position cont)) owner ≡ Some i → IsShownFrame p funs h form cont i
  by_owner within None at is = absurd (nowhere is)
  by_owner within (Some owner) at is = by_types within owner (position_types p.forms form h.position cont) at refl is

  by_within : (within : Option FunInfo) → slice_get funs form.within ≡ within
      → option_and_then (λ within. option_and_then (λ owner. option_map (frame_by within owner form.kind h.position) (position_types p.forms form h.position cont)) (title_of p.forms form.within)) within ≡ Some i → IsShownFrame p funs h form cont i
  by_within None at is = absurd (nowhere is)
  by_within (Some within) at is = by_owner within (title_of p.forms form.within) at is

  pub frame_shown : form_at p.forms h.node ≡ Some form → cont_in p.conts h ≡ Some cont → frame_at p funs h ≡ Some i → IsShownFrame p funs h form cont i
  frame_shown there has is =
      by_within (slice_get funs form.within) refl
      (sym (ap (option_and_then (λ form. option_and_then (frame_in p.forms funs form h.position) (cont_in p.conts h))) there ∙ ap (option_and_then (frame_in p.forms funs form h.position)) has) ∙ is)
