-- What is told of labels where a table is typed: an instance and a lambda by their own types, a lambda's captured names each by the type
-- of a use in its body, a block by its captured names and its own type.
use Rattle.std.specs.Prelude.{◌≡◌, ℕ, true, List, [], ◌∷◌, Option, None, Some, slice_get}
use Rattle.lk_code.specs.Parts.{Info, captures}
use Rattle.lk_code.specs.Told.{env_of}
use Rattle.lk_evaluation.specs.Laws.{Both}
use Rattle.lk_ir.specs.Tables.{body_at, form_at, label_at}
use Rattle.lk_ir.specs.TypedUses.{UsesAs}
use Rattle.lk_ir.specs.declared.ir.CpsProgram.{CpsProgram}
use Rattle.lk_ir.specs.declared.nodes.Block.{Block}
use Rattle.lk_ir.specs.declared.nodes.Block.TheVariants as block
use Rattle.lk_ir.specs.declared.nodes.Body.{Body}
use Rattle.lk_ir.specs.declared.nodes.Form.{Form}
use Rattle.lk_ir.specs.declared.nodes.Forms.{Forms}
use Rattle.lk_ir.specs.declared.nodes.Kept.{Kept}
use Rattle.lk_ir.specs.declared.nodes.Kind.TheVariants as kind
use Rattle.lk_ir.specs.declared.nodes.LabelForm.{LabelForm}
use Rattle.lk_types.specs.declared.ground.Ground.{Ground}
use Rattle.lk_types.specs.declared.ground.Ground.TheVariants as known
use Rattle.lk_types.specs.declared.ty.Effect.{Effect}

module _ (f : Forms) where
  -- names with types, each that of a use in what has this number
  pub data AreFromUses (root : ℕ) : List ℕ → List Ground → Type 0 where
    no_name : AreFromUses root [] []
    one_name : {x : ℕ} {xs : List ℕ} {t : Ground} {ts : List Ground} (ty : ℕ) → UsesAs f x ty root → slice_get f.types ty ≡ Some t → AreFromUses root xs ts → AreFromUses root (x ∷ xs) (t ∷ ts)

  abbrev pub KeptTypes : List Kept → List Ground → Type 0
  KeptTypes [] [] = Unit {0}
  KeptTypes (k ∷ kept) (t ∷ ts) = (slice_get f.types k.ty ≡ Some t) × KeptTypes kept ts
  KeptTypes kept ts = ⊥

  pub record Tells (info : ℕ → Option Info) : Type 0 where
    pub bodies : (label : ℕ) (l : LabelForm) (b : Body) (params : List Ground) (effects : List Effect) (result : Ground)
        → label_at f label ≡ Some l → l.body ≡ Some b → slice_get f.types l.ty ≡ Some (known.Fun params effects result)
        → (env : List Ground) × (info label ≡ Some (record { params = params; effects = effects; result = result; env = env })) × AreFromUses b.root b.names env
    pub blocks : (label n : ℕ) (l : LabelForm) (form : Form) (b : Block) (kept : List Kept) (ts : List Ground) (t : Ground)
        → label_at f label ≡ Some l → l.node ≡ Some n → l.body ≡ None → form_at f n ≡ Some form → form.kind ≡ kind.Reach b label kept → captures b ≡ true → KeptTypes kept ts → slice_get f.types l.ty ≡ Some t
        → (effects : List Effect) × (env : List Ground) × (info label ≡ Some (record { params = ts; effects = effects; result = t; env = env }))
    pub inserts : (label n k : ℕ) (l : LabelForm) (form part : Form) (a t : Ground)
        → label_at f label ≡ Some l → l.node ≡ Some n → l.body ≡ None → form_at f n ≡ Some form → form.kind ≡ kind.Reach block.Insert label [] → form.parts ≡ k ∷ [] → form_at f k ≡ Some part
        → slice_get f.types part.ty ≡ Some a → slice_get f.types l.ty ≡ Some t
        → (effects : List Effect) × (env : List Ground) × (info label ≡ Some (record { params = a ∷ []; effects = effects; result = t; env = env }))

-- what a body captures has the type of a use in it
abbrev pub AreEnvsOf : CpsProgram → Type 0
AreEnvsOf c = (label : ℕ) (b : Body) → body_at c.forms label ≡ Some b → Both (λ x ty. UsesAs c.forms x ty b.root) b.names (env_of c label)
