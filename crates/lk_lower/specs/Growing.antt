-- What a walk over the expressions of a program has made so far, and how it grows: nodes stand in the order of the text; labels, types
-- and tables only grow at their end.
use Rattle.std.specs.Prelude.{◌≡◌, ℕ, List, ◌++◌, length}
use Rattle.lk_ast.specs.declared.expression.Expr.{Expr}
use Rattle.lk_ir.specs.declared.nodes.Form.{Form}
use Rattle.lk_ir.specs.declared.nodes.Forms.{Forms}
use Rattle.lk_ir.specs.declared.nodes.LabelForm.{LabelForm}
use Rattle.lk_ir.specs.declared.nodes.Touched.{Touched}
use Rattle.lk_lower.specs.Lowering.{Pending, IsLowered, AreLowered}
use Rattle.lk_types.specs.declared.ground.Ground.{Ground}

-- ---- states

pub record State : Type 0 where
  pub nodes : List Form
  pub labels : List LabelForm
  -- the local names, which are known before the walk
  pub locals : List (List ℕ)
  pub types : List Ground
  pub tables : List Touched
  pub pending : Pending

abbrev pub Begins : {A : Type 0} → List A → List A → Type 0
Begins {A} xs ys = (more : List A) × (ys ≡ xs ++ more)

-- a table has what a state has of labels, names, types and tables
pub record Has (s : State) (f : Forms) : Type 0 where
  pub locals : f.locals ≡ s.locals
  pub labels : Begins s.labels f.labels
  pub types : Begins s.types f.types
  pub tables : Begins s.tables f.tables

-- a state that another one has grown to
pub record Grows (old new : State) : Type 0 where
  pub locals : new.locals ≡ old.locals
  pub own : List Form
  pub is : new.nodes ≡ old.nodes ++ own
  pub labels : Begins old.labels new.labels
  pub types : Begins old.types new.types
  pub tables : Begins old.tables new.tables

-- ---- expressions

module _ (owner : ℕ) where
  -- The tables have grown by nodes of their own, which are what the expression is lowered to whatever stands before and behind them.
  pub record Lowers (within : ℕ) (old new : State) (e : Expr) (n : ℕ) : Type 0 where
    pub grows : Grows old new
    pub number : n ≡ length old.nodes
    -- the next number is that of the next node
    pub next : new.pending.next ≡ length new.nodes
    pub stands : (f : Forms) (front back : List Form) → f.nodes ≡ front ++ (grows.own ++ back) → length front ≡ length old.nodes → Has new f → IsLowered f owner within e old.pending n new.pending

  pub record AllLower (within : ℕ) (old new : State) (es : List Expr) (ns : List ℕ) : Type 0 where
    pub grows : Grows old new
    pub stands : (f : Forms) (front back : List Form) → f.nodes ≡ front ++ (grows.own ++ back) → length front ≡ length old.nodes → Has new f → AreLowered f owner within es old.pending ns new.pending
