-- Values, numbers and frames of code that is worked by hand.
use Rattle.std.proofs.Common.{◌≡◌, refl, ap, subst, inl, inr, ℕ, ◌<◌, ◌≤◌, List, [], ◌∷◌, Some, None, arith}
use Rattle.std.specs.Prelude.{codes}
use Rattle.lk_ast.specs.declared.place.Loc.TheVariants.{Any}
use Rattle.lk_ast.specs.declared.table.Base.TheVariants as base
use Rattle.lk_ast.specs.declared.value.Field.{Field}
use Rattle.lk_ast.specs.declared.value.FunValue.{FunValue}
use Rattle.lk_ast.specs.declared.value.Value.{Value, out-Value}
use Rattle.lk_ast.specs.declared.value.Value.TheOpen.{Value-F}
use Rattle.lk_ast.specs.declared.value.Value.TheVariants as value
use Rattle.lk_fits.proofs.Fitting.{first_field, first_of_each}
use Rattle.lk_fits.proofs.Levels.{shown}
use Rattle.lk_fits.specs.Levels.{IsOf, IsTag}
use Rattle.lk_fits.specs.Values.{Fits, FitEach, none_left, one_more}
use Rattle.lk_ir.specs.declared.nodes.Conts.{Conts}
use Rattle.lk_ir.specs.declared.nodes.Forms.{Forms}
use Rattle.lk_operators.specs.Values.{field, fields, tagged, text}
use Rattle.lk_types.specs.declared.ground.Ground.{Ground, out-Ground}
use Rattle.lk_types.specs.declared.ground.Ground.TheOpen.{Ground-F}
use Rattle.lk_types.specs.declared.ground.Ground.TheVariants as known
use Rattle.lk_types.specs.declared.ground.GroundField.{GroundField}
use Rattle.lk_code.proofs.Matching.{kept_by}
use Rattle.lk_code.specs.Chains.{AreChained}
use Rattle.lk_code.specs.Tables.{frame_info, fun_info}
use Rattle.lk_code.specs.Values.{IsFun}
use Rattle.lk_code.specs.declared.infos.FrameInfo.{FrameInfo}
use Rattle.lk_code.specs.declared.infos.FunInfo.{FunInfo}
use Rattle.lk_code.specs.declared.infos.FunKind.{FunKind}
use Rattle.lk_code.specs.declared.infos.FunKind.TheVariants.{Print, Top, Lambda}
use Rattle.lk_code.specs.declared.tables.CodeTables.{CodeTables}
use Rattle.lk_code.specs.declared.tables.Frame.{Frame}

abbrev pub info : FunKind → List Ground → Ground → List Ground → FunInfo
info kind params result env = record { name = []; kind = kind; place = Any; params = params; effects = []; result = result; env = env }

abbrev pub waits : Ground → Ground → FrameInfo
waits hole result = record { owner = []; place = Any; node = []; position = 1; env = []; hole = hole; result = result }

-- (Int) {}-> Int
abbrev pub on_numbers : Ground
on_numbers = known.Fun (known.Int ∷ []) [] known.Int

-- `print`, the function that sessions begin with, a function on numbers, a lambda on numbers that keeps one of these, and a lambda
-- that keeps one and a text
abbrev pub funs : List FunInfo
funs =
    info Print (known.Text ∷ []) (known.Fields []) []
    ∷ info Top (known.Text ∷ []) known.Text []
    ∷ info Top (known.Int ∷ []) known.Int []
    ∷ info Lambda (known.Int ∷ []) known.Int (on_numbers ∷ [])
    ∷ info Lambda (known.Text ∷ []) known.Int (on_numbers ∷ known.Text ∷ [])
    ∷ []

-- their returns, and two frames more
abbrev pub frames : List FrameInfo
frames =
    waits (known.Fields []) (known.Fields [])
    ∷ waits known.Text known.Text
    ∷ waits known.Int known.Int
    ∷ waits known.Int known.Int
    ∷ waits known.Int known.Int
    ∷ waits known.Bool known.Int
    ∷ waits known.Int known.Text
    ∷ []

abbrev pub function : ℕ → List Value → Value
function label env = value.Fun (record { site = label; env = env })

abbrev pub frame : ℕ → Frame
frame number = record { number = number; env = [] }

abbrev first_byte : List ℕ → ℕ
first_byte [] = 0
first_byte (b ∷ bytes) = b

module _ (forms : Forms) (conts : List Conts) where
  abbrev pub tables : CodeTables
  tables = record { forms = forms; conts = conts; funs = funs; frames = frames; homes = [] }

  abbrev Is : Value → Ground → Type 0
  Is v t = Fits (IsFun tables) v t

  -- ---- numbers

  pub no_function : fun_info tables 99 ≡ None
  no_function = refl

  pub no_frame : frame_info tables 99 ≡ None
  no_frame = refl

  -- ---- functions that keep functions

  pub plain : Is (function 2 []) on_numbers
  plain = Fits.function _ (known.Int ∷ []) [] [] known.Int refl (info Top (known.Int ∷ []) known.Int [], refl, refl, refl, refl) none_left refl

  pub keeps_one : Is (function 3 (function 2 [] ∷ [])) on_numbers
  keeps_one = Fits.function _ (known.Int ∷ []) (on_numbers ∷ []) [] known.Int refl (info Lambda (known.Int ∷ []) known.Int (on_numbers ∷ []), refl, refl, refl, refl) (one_more plain none_left) refl

  pub keeps_two : Is (function 4 (function 3 (function 2 [] ∷ []) ∷ text (codes "x") ∷ [])) (known.Fun (known.Text ∷ []) [] known.Int)
  keeps_two = Fits.function _ (known.Text ∷ []) (on_numbers ∷ known.Text ∷ []) [] known.Int refl (info Lambda (known.Text ∷ []) known.Int (on_numbers ∷ known.Text ∷ []), refl, refl, refl, refl)
      (one_more keeps_one (one_more (Fits.text (codes "x") refl refl) none_left)) refl

  level : (v : Value) (t : Ground) (x : Value-F Value Field FunValue) (y : Ground-F Ground GroundField) → out-Value v ≡ x → out-Ground t ≡ y → Is v t → IsOf (IsFun tables) x y
  level v t x y v_is t_is fits = subst (λ z. IsOf (IsFun tables) z y) v_is (subst (IsOf (IsFun tables) (out-Value v)) t_is (shown (IsFun tables) v t fits))

  made : (f : FunValue) (params : List Ground) → Is (value.Fun f) (known.Fun params [] known.Int) → (i : FunInfo) → fun_info tables f.site ≡ Some i → FitEach (IsFun tables) f.env i.env
  made f params fits i told = kept_by tables (known.Fun params [] known.Int) f i told (level _ _ (Value-F.Fun f) (Ground-F.Fun params [] known.Int) (value.outs-Fun f) (known.outs-Fun params [] known.Int) fits)

  -- a text is kept where a function is wanted, also deeper inside
  pub keeps_a_text : (bytes : List ℕ) → Is (function 3 (text bytes ∷ [])) on_numbers → ⊥
  keeps_a_text bytes fits =
      let kept = made _ (known.Int ∷ []) fits (info Lambda (known.Int ∷ []) known.Int (on_numbers ∷ [])) refl in
      level (text bytes) on_numbers (Value-F.Base (base.Text bytes)) (Ground-F.Fun _ _ _) (value.outs-Base _) (known.outs-Fun _ _ _) (first_of_each (IsFun tables) kept).0

  pub keeps_it_inside : (bytes : List ℕ) → Is (function 4 (function 3 (text bytes ∷ []) ∷ text bytes ∷ [])) (known.Fun (known.Text ∷ []) [] known.Int) → ⊥
  keeps_it_inside bytes fits =
      let kept = made _ (known.Text ∷ []) fits (info Lambda (known.Text ∷ []) known.Int (on_numbers ∷ known.Text ∷ [])) refl in
      keeps_a_text bytes (first_of_each (IsFun tables) kept).0

  -- ---- records and tags

  abbrev typed : List ℕ → Ground → GroundField
  typed label t = record { label = label; ty = t }

  -- fields stand in the order of their types
  pub out_of_order : (v w : Value) → Is (fields (field (codes "b") v ∷ field (codes "a") w ∷ [])) (known.Fields (typed (codes "a") known.Text ∷ typed (codes "b") known.Text ∷ [])) → ⊥
  out_of_order v w fits =
      let same : 98 ≡ 97 = ap first_byte (first_field (IsFun tables) (level _ _ (Value-F.Fields _) (Ground-F.Fields _) (value.outs-Fields _) (known.outs-Fields _) fits)).0 in
      absurd (let wrong : ⊥ = omega (arith, same) in wrong)

  -- a tag that the type hasn't
  pub no_tag : (v : Value) → Is (tagged (codes "b") v) (known.Tags (typed (codes "a") known.Text ∷ [])) → ⊥
  no_tag v fits = by_tag (level _ _ (Value-F.Tag _ _) (Ground-F.Tags _) (value.outs-Tag _ _) (known.outs-Tags _) fits)
    where
      by_tag : IsTag (IsFun tables) (typed (codes "a") known.Text ∷ []) (codes "b") v → ⊥
      by_tag (inl is) = let same : 97 ≡ 98 = ap first_byte is.0 in absurd (let wrong : ⊥ = omega (arith, same) in wrong)
      by_tag (inr none) = none

  -- ---- frames behind one another

  abbrev told : (number : ℕ) → FrameInfo → Type 0
  told number i = frame_info tables number ≡ Some i

  -- a truth value makes frame 5 a number, and a number frame 6 a text, which is returned to label 1
  pub chained : AreChained tables (frame 6 ∷ frame 1 ∷ []) known.Int
  chained = (waits known.Int known.Text, refl, refl, (let e : 5 ≤ 6 = omega arith in e), (waits known.Text known.Text, refl, refl, (let e : 1 < 5 = omega arith in e)))

  -- a return stands at the end alone
  pub returned_before : (t : Ground) → AreChained tables (frame 2 ∷ frame 2 ∷ []) t → ⊥
  returned_before t chain = let early : 5 ≤ 2 = chain.3 in absurd (let wrong : ⊥ = omega (arith, early) in wrong)

  pub no_return : (t : Ground) → AreChained tables (frame 5 ∷ []) t → ⊥
  no_return t chain = let late : 5 < 5 = chain.3 in absurd (let wrong : ⊥ = omega (arith, late) in wrong)
