-- The laws of tables that are those of ground programs; their proofs stand in proofs/.
use Rattle.std.specs.Prelude.{◌≡◌, ℕ, ◌+◌, ◌≤◌, ◌<◌, List, [], Option, Some, None, drop, length, option_map, slice_get}
use Rattle.lk_ast.specs.Layers.{Layer}
use Rattle.lk_ast.specs.declared.expression.ChangeExpr.{out-ChangeExpr}
use Rattle.lk_ast.specs.declared.expression.Expr.{Expr}
use Rattle.lk_ast.specs.declared.expression.Node.TheOpen.{Node-F}
use Rattle.lk_ast.specs.declared.place.Loc.{Loc}
use Rattle.lk_ast.specs.declared.place.Span.{Span}
use Rattle.lk_bodies.specs.Uses.{query_uses, change_uses}
use Rattle.lk_ground.specs.Language.{function_of, instance}
use Rattle.lk_ground.specs.Sites.{labelled_in, uses_in}
use Rattle.lk_ground.specs.declared.program.GroundFun.{GroundFun}
use Rattle.lk_ground.specs.declared.program.GroundProgram.{GroundProgram}
use Rattle.lk_types.specs.Each.{Each}
use Rattle.lk_types.specs.declared.ground.Ground.{Ground}
use Rattle.lk_typing.specs.Names.{Named, named}
use Rattle.lk_ir.specs.Tables.{form_at, label_at, place_of}
use Rattle.lk_ir.specs.declared.nodes.Block.{Block}
use Rattle.lk_ir.specs.declared.nodes.Form.{Form}
use Rattle.lk_ir.specs.declared.nodes.Forms.{Forms}
use Rattle.lk_ir.specs.declared.nodes.Kept.{Kept}
use Rattle.lk_ir.specs.declared.nodes.Kind.TheVariants as kind
use Rattle.lk_ir.specs.declared.nodes.LabelForm.{LabelForm}
use Rattle.lk_lower.specs.Lowering.{AreForms, IsLocal, IsLowered, IsTouched, Pending, Shell, nodes_in}

-- numbers from this one on
abbrev pub AreFrom : ℕ → List ℕ → Type 0
AreFrom n ns = Each (λ k. n ≤ k) ns

-- the children of a node have greater numbers than itself
abbrev pub ArePreOrdered : Forms → Type 0
ArePreOrdered f = (n : ℕ) (form : Form) → form_at f n ≡ Some form → AreFrom (n + 1) form.parts × AreFrom (n + 1) form.tails

-- the node with this number is that of an expression, and its children have greater numbers
pub record IsCovered (f : Forms) (n : ℕ) : Type 0 where
  pub owner : ℕ
  pub within : ℕ
  pub expr : Expr
  pub before : Pending
  pub after : Pending
  pub lowered : IsLowered f owner within expr before n after
  pub form : Form
  pub is : form_at f n ≡ Some form
  pub parts : AreFrom (n + 1) form.parts
  pub tails : AreFrom (n + 1) form.tails

-- a table of a ground program has no other node
abbrev pub CoveredLaw : Type 0
CoveredLaw = (g : GroundProgram) (f : Forms) → AreForms g f → (n : ℕ) → n < length f.nodes → IsCovered f n

-- behind an expression a type is gone for each of its nodes, what is called for each of its uses, and a label for all that is labelled
-- in it
pub record IsTaken (e : Expr) (before after : Pending) : Type 0 where
  pub types : after.types ≡ drop (nodes_in e) before.types
  pub calls : after.calls ≡ drop (length (uses_in e)) before.calls
  pub label : after.label ≡ before.label + length (labelled_in e)

abbrev pub TakenLaw : Type 0
TakenLaw = (f : Forms) (owner within n : ℕ) (e : Expr) (before after : Pending) → IsLowered f owner within e before n after → IsTaken e before after

-- the table that an expression changes
abbrev pub changed : Layer → Option (List ℕ)
changed (Node-F.Insert t e) = Some t.text
changed (Node-F.Update change) = Some (out-ChangeExpr change).table.text
changed (Node-F.Delete change) = Some (out-ChangeExpr change).table.text
changed other = None

-- the uses of local names in what reads or changes tables, whose nodes have these types
abbrev pub inner_uses : Layer → List Ground → Named Ground
inner_uses (Node-F.Query keys e) types = query_uses e types
inner_uses (Node-F.Update change) types = change_uses change types
inner_uses (Node-F.Delete change) types = change_uses change types
inner_uses other types = []

-- What reads or changes tables has the next label, which tells its instance, its node and its type. What it captures has the type of
-- its first use, by the types behind its own, and of its label it is told which table it changes.
pub record IsBlock (f : Forms) (owner n ty : ℕ) (l : Layer) (p : Pending) (label : ℕ) (kept : List Kept) : Type 0 where
  pub label_is : label ≡ p.label
  pub form : LabelForm
  pub is : label_at f label ≡ Some form
  pub owner_is : form.owner ≡ owner
  pub node_is : form.node ≡ Some n
  pub ty_is : form.ty ≡ ty
  pub kept_are : Each (λ (k : Kept). (x : List ℕ) × (t : Ground) × IsLocal f k.name x × (named x (inner_uses l (drop 1 p.types)) ≡ Some t) × (slice_get f.types k.ty ≡ Some t)) kept
  pub touched : (t : List ℕ) → changed l ≡ Some t → IsTouched f label t

abbrev pub BlocksLaw : Type 0
BlocksLaw = (f : Forms) (owner n ty : ℕ) (l : Layer) (at : Span) (p q : Pending) (b : Block) (label : ℕ) (kept : List Kept) → Shell f owner n ty l at p (kind.Reach b label kept) q → IsBlock f owner n ty l p label kept

abbrev pub place_of_fun : GroundFun → Loc
place_of_fun fun = (function_of fun).place

abbrev pub title_of_fun : GroundFun → List ℕ
title_of_fun fun = (function_of fun).name.text

-- A table of a ground program has as many instances as the program, by their names, and the body of each runs where its function is
-- marked to.
pub record ArePlaces (g : GroundProgram) (f : Forms) : Type 0 where
  pub counted : length f.wholes ≡ length g.funs
  pub places : (i : ℕ) → place_of f i ≡ option_map place_of_fun (instance g i)
  pub titles : (i : ℕ) → slice_get f.titles i ≡ option_map title_of_fun (instance g i)

abbrev pub InstancesLaw : Type 0
InstancesLaw = (g : GroundProgram) (f : Forms) → AreForms g f → ArePlaces g f
