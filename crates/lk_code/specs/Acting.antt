-- What a typed node does with values of the types of its positions: it never lacks a rule, what it gives is of its type, and where it
-- goes on the point is typed and the names that it uses have values of their types (progress and preservation: A. K. Wright and
-- M. Felleisen, A Syntactic Approach to Type Soundness, 1994).
use Rattle.std.specs.Prelude.{◌≡◌, ◌⊎◌, ℕ, List, [], ◌∷◌, Option, Some}
use Rattle.lk_ast.specs.declared.place.Loc.{Loc}
use Rattle.lk_ast.specs.declared.value.FunValue.{FunValue}
use Rattle.lk_ast.specs.declared.value.Value.{Value}
use Rattle.lk_evaluation.specs.Evaluation.{Act, Give, Tail, Goto, Uses, Each, Fails, Lacks, Primitive, Printing, Reading, Writing}
use Rattle.lk_fits.specs.Values.{Fits, FitEach}
use Rattle.lk_ir.specs.Continuing.{continuing}
use Rattle.lk_ir.specs.Environments.{Env, lookup}
use Rattle.lk_ir.specs.LetNormal.{Point, act}
use Rattle.lk_ir.specs.Tables.{body_at, form_at, mark_of}
use Rattle.lk_ir.specs.Uses as used
use Rattle.lk_ir.specs.Uses.{Needs, UsedInTails, binds}
use Rattle.lk_ir.specs.declared.nodes.Conts.{Conts}
use Rattle.lk_ir.specs.declared.nodes.Form.{Form}
use Rattle.lk_ir.specs.declared.nodes.Forms.{Forms}
use Rattle.lk_types.specs.Each.{Each as EachOf}
use Rattle.lk_types.specs.declared.ground.Ground.{Ground}
use Rattle.lk_types.specs.declared.ground.Ground.TheVariants as known
use Rattle.lk_typing.specs.Types.{unit}
use Rattle.lk_code.specs.Parts.{Asked, Context, HasBody, HaveTypes, Info, IsTyped, Rule, function_type, type_in}
use Rattle.lk_code.specs.Tables.{site_of}

module _ (IsFun : ℕ → Ground → List Ground → Type 0) where
  -- each of these names of which the context tells has a value that fits
  abbrev pub FitNames : (ℕ → Type 0) → Context → Env → Type 0
  FitNames Used c names = (x : ℕ) → Used x → (t : Ground) → type_in x c ≡ Some t → (v : Value) × (lookup names x ≡ Some v) × Fits IsFun v t

  module _ (f : Forms) (info : ℕ → Option Info) where
    -- What is said of functions is what is told of their labels, and these have bodies.
    pub record AreFunctions : Type 0 where
      pub told : (label : ℕ) (t : Ground) (kept : List Ground) → IsFun label t kept → (of : Info) × (info label ≡ Some of) × (t ≡ function_type of) × (kept ≡ of.env) × HasBody f label
      pub made : (label : ℕ) (of : Info) → info label ≡ Some of → HasBody f label → IsFun label (function_type of) of.env

    -- a point of this type: its node has it in a context, and each name that the node uses has a value of the type told there
    pub record IsPointOf (t : Ground) (p : Point) : Type 0 where
      pub context : Context
      pub typed : IsTyped f info context p.node t
      pub names : FitNames (λ x. used.Uses f x p.node) context p.names

    -- a call of what has a label, at its place, with values of the types of what it keeps and of its parameters
    pub record IsCallOf (t : Ground) (mark : Loc) (g : FunValue) (args : List Value) (p : Point) : Type 0 where
      pub of : Info
      pub is : info g.site ≡ Some of
      pub place : mark_of (body_at f g.site) ≡ Some mark
      pub kept : FitEach IsFun g.env of.env
      pub passed : FitEach IsFun args of.params
      pub result : of.result ≡ t
      pub point : IsPointOf t p

    -- what begins here in the text has a label, with values of the types of its parameters, and a result of this type
    abbrev pub IsReach : Ground → ℕ → List Value → Type 0
    IsReach t site args = (label : ℕ) × (of : Info) × (site_of f label ≡ site) × (info label ≡ Some of) × FitEach IsFun args of.params × (of.result ≡ t)

    abbrev pub IsUse : Ground → Primitive → Type 0
    IsUse t (Printing bytes) = t ≡ unit
    IsUse t (Reading site args) = IsReach t site args
    IsUse t (Writing site args) = IsReach t site args

    abbrev pub ActsWell : Ground → Act Point → Type 0
    ActsWell t (Give v) = Fits IsFun v t
    ActsWell t (Tail p) = IsPointOf t p
    ActsWell t (Goto mark g args p) = IsCallOf t mark g args p
    ActsWell t (Uses mark primitive) = IsUse t primitive
    ActsWell t (Each at points) = (a : Ground) × (t ≡ known.List a) × EachOf (IsPointOf t) points
    ActsWell t (Fails trap) = Unit {0}
    ActsWell t (Lacks at) = ⊥

    -- An act by the rule of its node: from values of the positions' types, and from the names that are left behind these.
    abbrev pub TypedActs : Type 0
    TypedActs = (c : Context) (n : ℕ) (form : Form) (ts : List Ground) (asked : List Asked) (t : Ground) → form_at f n ≡ Some form → Rule f info c form.kind ts asked t → HaveTypes f info form.tails asked
        → (names : Env) → FitNames (λ x. Needs form.kind x ⊎ UsedInTails f x (binds form.kind) form.tails) c names
        → (values : List Value) → FitEach IsFun values ts → ActsWell t (act f form.at form.kind form.tails names values)

    -- points of these types, one by one
    abbrev pub ArePoints : List Ground → List Point → Type 0
    ArePoints [] [] = Unit {0}
    ArePoints (t ∷ ts) (p ∷ ps) = IsPointOf t p × ArePoints ts ps
    ArePoints ts ps = ⊥

    -- where continuations keep what is used: points of some types come first, and from values of these the act is one of this type
    pub record GoesWell (conts : List Conts) (t : Ground) (p : Point) : Type 0 where
      pub types : List Ground
      pub parts : ArePoints types ((continuing f conts).parts p)
      pub acts : (values : List Value) → FitEach IsFun values types → ActsWell t ((continuing f conts).act p values)

    abbrev pub TypedPoints : List Conts → Type 0
    TypedPoints conts = (t : Ground) (p : Point) → IsPointOf t p → GoesWell conts t p
