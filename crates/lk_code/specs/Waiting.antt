-- Waiting parts of an evaluation by types: one that waits for a value of a type, and what it goes on with is of another.
use Rattle.std.specs.Prelude.{◌≡◌, ℕ, suc, List, ◌∷◌, ◌++◌, Option, Some, None, drop, length}
use Rattle.lk_ast.specs.declared.value.Value.{Value}
use Rattle.lk_fits.specs.Values.{AllFit, FitEach}
use Rattle.lk_ir.specs.Continuing.{continuing}
use Rattle.lk_ir.specs.LetNormal.{Point}
use Rattle.lk_ir.specs.declared.nodes.Conts.{Conts}
use Rattle.lk_ir.specs.declared.nodes.Forms.{Forms}
use Rattle.lk_moves.specs.Frames as frames
use Rattle.lk_moves.specs.Frames.{Part, Turn, Back}
use Rattle.lk_types.specs.Each.{Each as EachOf}
use Rattle.lk_types.specs.declared.ground.Ground.{Ground}
use Rattle.lk_types.specs.declared.ground.Ground.TheVariants as known
use Rattle.lk_code.specs.Acting.{ActsWell, ArePoints, IsPointOf}
use Rattle.lk_code.specs.Parts.{Info}

module _ (IsFun : ℕ → Ground → List Ground → Type 0) (f : Forms) (info : ℕ → Option Info) (conts : List Conts) where
  -- a point whose first positions have these values: those behind the next are points of types, and from values of all these types the
  -- act is one of the result's type
  pub record IsPartOf (hole result : Ground) (p : Point) (done : List Value) : Type 0 where
    pub before : List Ground
    pub after : List Ground
    pub fit : FitEach IsFun done before
    pub left : ArePoints IsFun f info after (drop (suc (length done)) ((continuing f conts).parts p))
    pub acts : (values : List Value) → FitEach IsFun values (before ++ hole ∷ after) → ActsWell IsFun f info result ((continuing f conts).act p values)

  -- one of several bodies, which all come to lists as the whole does
  pub record IsTurnOf (hole result : Ground) (left : List Point) (made : List Value) : Type 0 where
    pub of : Ground
    pub hole_is : hole ≡ known.List of
    pub result_is : result ≡ known.List of
    pub fit : AllFit IsFun made of
    pub bodies : EachOf (IsPointOf IsFun f info (known.List of)) left

  abbrev pub GoesOn : Ground → Ground → Option (frames.Frame Point) → Type 0
  GoesOn hole result None = ⊥
  GoesOn hole result (Some (Part p done place)) = IsPartOf hole result p done
  GoesOn hole result (Some (Turn at body left place made)) = IsTurnOf hole result left made
  GoesOn hole result (Some (Back place)) = ⊥
