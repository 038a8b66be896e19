-- Instances one after another, and the table that they make.
use Rattle.std.specs.Prelude.{◌≡◌, ℕ, ◌+◌, ◌<◌, List, [], ◌∷◌, ◌++◌, Some, None, drop, length, slice_get}
use Rattle.lk_ground.specs.Language.{function_of}
use Rattle.lk_ground.specs.declared.program.GroundFun.{GroundFun}
use Rattle.lk_ir.specs.Tables.{label_at, most_instances}
use Rattle.lk_ir.specs.declared.nodes.Body.{Body}
use Rattle.lk_ir.specs.declared.nodes.Form.{Form}
use Rattle.lk_ir.specs.declared.nodes.Forms.{Forms}
use Rattle.lk_ir.specs.declared.nodes.LabelForm.{LabelForm}
use Rattle.lk_lower.specs.Growing.{Begins, Grows, Has, State}
use Rattle.lk_lower.specs.Lowering.{AreFuns, IsBodyLabel, Pending, TypeIs}
use Rattle.lk_lower.specs.Once.{StandOnce}
use Rattle.lk_lower.specs.declared.lowering.Made.{Made}

-- `print`, which has no body
abbrev pub printer : LabelForm
printer = record { owner = 0; ty = 0; node = None; body = None }

-- before the first instance
abbrev pub beginning : List (List ℕ) → State
beginning locals = record {
  nodes = [];
  labels = printer ∷ [];
  locals = locals;
  types = [];
  tables = [];
  pending = record { types = []; calls = []; label = 1; next = 0 };
}

-- behind the label of an instance, before its body
abbrev pub first_pending : GroundFun → ℕ → ℕ → Pending
first_pending fun label next = record { types = fun.types; calls = fun.calls; label = label + 1; next = next }

-- an instance has its label, and its types and calls are to come
pub record OpensFun (i : ℕ) (fun : GroundFun) (old new : State) (label : ℕ) : Type 0 where
  pub grows : Grows old new
  pub nodes : new.nodes ≡ old.nodes
  pub label_is : label ≡ old.pending.label
  pub pending : new.pending ≡ first_pending fun old.pending.label old.pending.next
  pub ty : ℕ
  pub body : Body
  pub root : body.root ≡ old.pending.next
  pub type : (f : Forms) → Has new f → TypeIs f ty (fun.ty ∷ [])
  pub labelled : (f : Forms) → Has new f → IsBodyLabel f i None ty old.pending.label (function_of fun).place [] (function_of fun).params body

-- An instance with its label and its body: a table that goes on behind it with others is that of both.
pub record LowersFun (i : ℕ) (fun : GroundFun) (old new : State) : Type 0 where
  pub grows : Grows old new
  pub follows : (f : Forms) (front back : List Form) (rest : List GroundFun) → f.nodes ≡ front ++ (grows.own ++ back) → length front ≡ length old.nodes → Has new f
      → slice_get f.wholes i ≡ Some old.pending.label → slice_get f.titles i ≡ Some (function_of fun).name.text
      → AreFuns f (1 + i) rest new.pending.label new.pending.next → AreFuns f i (fun ∷ rest) old.pending.label old.pending.next

-- The instances so far: a table that goes on from here with the others is that of all.
pub record FollowFuns (funs : List GroundFun) (i : ℕ) (s : State) (wholes : List ℕ) (titles : List (List ℕ)) : Type 0 where
  pub wholes_long : length wholes ≡ i
  pub titles_long : length titles ≡ i
  pub first_label : Begins (printer ∷ []) s.labels
  pub follow : (f : Forms) (back : List Form) → f.nodes ≡ s.nodes ++ back → Has s f → Begins wholes f.wholes → Begins titles f.titles
      → AreFuns f i (drop i funs) s.pending.label s.pending.next → AreFuns f 0 funs 1 0

abbrev pub made_of : State → List ℕ → List (List ℕ) → Made
made_of s wholes titles = record { nodes = s.nodes; labels = s.labels; wholes = wholes; titles = titles; types = s.types; tables = s.tables }

abbrev pub as_forms : List (List ℕ) → Made → Forms
as_forms locals made = record { nodes = made.nodes; labels = made.labels; wholes = made.wholes; titles = made.titles; locals = locals; types = made.types; tables = made.tables }

-- what was made is the table of these instances
pub record IsMade (funs : List GroundFun) (locals : List (List ℕ)) (made : Made) : Type 0 where
  pub few : length made.wholes < most_instances
  pub first_label : label_at (as_forms locals made) 0 ≡ Some printer
  pub funs_are : AreFuns (as_forms locals made) 0 funs 1 0
  pub distinct : StandOnce made.types made.tables
