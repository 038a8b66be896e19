-- Nodes by the levels that they are lowered from: which names they bind and need.
use Rattle.std.proofs.Common.{◌≡◌, refl, ap, ℕ, false, List, Option, Some, None}
use Rattle.std.specs.Option.{option_map}
use Rattle.lk_evaluation.specs.Laws.{Both}
use Rattle.lk_ast.specs.Layers.{Layer}
use Rattle.lk_ast.specs.declared.expression.Case.{Case}
use Rattle.lk_ast.specs.declared.expression.ChangeExpr.{ChangeExpr}
use Rattle.lk_ast.specs.declared.expression.Expr.{Expr}
use Rattle.lk_ast.specs.declared.expression.LastCase.{LastCase}
use Rattle.lk_ast.specs.declared.expression.Node.TheOpen.{Node-F}
use Rattle.lk_ast.specs.declared.expression.SortKey.{SortKey}
use Rattle.lk_ast.specs.declared.place.Span.{Span}
use Rattle.lk_ast.specs.declared.place.Word.{Word}
use Rattle.lk_index.specs.Free.{captured_query, captured_change}
use Rattle.lk_types.specs.Rows.{Label}
use Rattle.lk_typing.specs.Heads.{Head, head}
use Rattle.lk_typing.specs.Typing.{label_of, expr_of}
use Rattle.lk_ir.specs.Tables.{names_of}
use Rattle.lk_ir.specs.Uses.{binds}
use Rattle.lk_ir.specs.declared.nodes.Block.{Block}
use Rattle.lk_ir.specs.declared.nodes.Block.TheVariants as block
use Rattle.lk_ir.specs.declared.nodes.CaseForm.{CaseForm}
use Rattle.lk_ir.specs.declared.nodes.Forms.{Forms}
use Rattle.lk_ir.specs.declared.nodes.Kept.{Kept}
use Rattle.lk_ir.specs.declared.nodes.Kind.{Kind}
use Rattle.lk_ir.specs.declared.nodes.Kind.TheVariants as kind
use Rattle.lk_lower.specs.Lowering as low
use Rattle.lk_lower.specs.Lowering.{AreLocals, IsCase, IsLocal, IsMaybeLocal, Pending, Shell, last_name}
use Rattle.lk_lowered.proofs.Inverted.{is_lambda}
use Rattle.std.proofs.lemmas.Option.{none-some}

-- ---- the kinds that bind names

-- a node that binds one name in its tail
pub record BindsOne (f : Forms) (make : ℕ → Kind) (w : Word) (k : Kind) : Type 0 where
  pub number : ℕ
  pub is : k ≡ make number
  pub local : IsLocal f number w.text

pub record IsSwitch (f : Forms) (branches : List Case) (final : Option LastCase) (k : Kind) : Type 0 where
  pub forms : List CaseForm
  pub number : Option ℕ
  pub is : k ≡ kind.Switch forms number
  pub cases : Both (IsCase f) branches forms
  pub last : IsMaybeLocal f number (option_map last_name final)

-- a switch without a last case
pub record IsClosed (f : Forms) (branches : List Case) (k : Kind) : Type 0 where
  pub forms : List CaseForm
  pub is : k ≡ kind.Switch forms None
  pub cases : Both (IsCase f) branches forms

-- a switch whose last case binds this name
pub record IsOpen (f : Forms) (branches : List Case) (last : LastCase) (k : Kind) : Type 0 where
  pub forms : List CaseForm
  pub number : ℕ
  pub is : k ≡ kind.Switch forms (Some number)
  pub cases : Both (IsCase f) branches forms
  pub local : IsLocal f number last.name.text

as_closed : (f : Forms) (cases : List Case) (k : Kind) (forms : List CaseForm) (number : Option ℕ) → k ≡ kind.Switch forms number → Both (IsCase f) cases forms → IsMaybeLocal f number None → IsClosed f cases k
as_closed f cases k forms None is are last = record { forms = forms; is = is; cases = are }
as_closed f cases k forms (Some j) is are last = absurd last

as_open : (f : Forms) (cases : List Case) (final : LastCase) (k : Kind) (forms : List CaseForm) (number : Option ℕ) → k ≡ kind.Switch forms number → Both (IsCase f) cases forms → IsMaybeLocal f number (Some final.name.text) → IsOpen f cases final k
as_open f cases final k forms None is are last = absurd last
as_open f cases final k forms (Some j) is are last = record { forms = forms; number = j; is = is; cases = are; local = last }

module _ (f : Forms) (owner n ty : ℕ) where
  pub var_kind : {w : Word} {d rest : Expr} {at : Span} {p q : Pending} {k : Kind} → Shell f owner n ty (Node-F.Var w d rest) at p k q → BindsOne f kind.Bind w k
  var_kind (low.operation is) = absurd (none-some _ is)
  var_kind (low.bind {k = j} is) = record { number = j; is = refl; local = is }

  pub list_kind : {w : Word} {d rest : Expr} {at : Span} {p q : Pending} {k : Kind} → Shell f owner n ty (Node-F.ForList w d rest) at p k q → BindsOne f kind.For w k
  list_kind (low.operation is) = absurd (none-some _ is)
  list_kind (low.for_list {k = j} is) = record { number = j; is = refl; local = is }

  pub table_kind : {w : Word} {d rest : Expr} {at : Span} {p q : Pending} {k : Kind} → Shell f owner n ty (Node-F.ForTable w d rest) at p k q → BindsOne f kind.For w k
  table_kind (low.operation is) = absurd (none-some _ is)
  table_kind (low.for_table {k = j} is) = record { number = j; is = refl; local = is }

  switch_kind : {d : Expr} {cases : List Case} {last : Option LastCase} {at : Span} {p q : Pending} {k : Kind} → Shell f owner n ty (Node-F.Switch d cases last) at p k q → IsSwitch f cases last k
  switch_kind (low.operation is) = absurd (none-some _ is)
  switch_kind (low.switch {forms = forms} {k = j} are is) = record { forms = forms; number = j; is = refl; cases = are; last = is }

  pub closed_kind : {d : Expr} {cases : List Case} {at : Span} {p q : Pending} {k : Kind} → Shell f owner n ty (Node-F.Switch d cases None) at p k q → IsClosed f cases k
  closed_kind {cases = cases} {k = k} shell = let s = switch_kind shell in as_closed f cases k s.forms s.number s.is s.cases s.last

  pub open_kind : {d : Expr} {cases : List Case} {last : LastCase} {at : Span} {p q : Pending} {k : Kind} → Shell f owner n ty (Node-F.Switch d cases (Some last)) at p k q → IsOpen f cases last k
  open_kind {cases = cases} {last = last} {k = k} shell = let s = switch_kind shell in as_open f cases last k s.forms s.number s.is s.cases s.last

  -- a query, an update or a deletion needs these names and binds none
  pub record IsBlockOf (names : List Label) (k : Kind) : Type 0 where
    pub block : Block
    pub label : ℕ
    pub kept : List Kept
    pub is : k ≡ kind.Reach block label kept
    pub locals : AreLocals f (names_of kept) names

  pub query_kind : {keys : List SortKey} {d : Expr} {at : Span} {p q : Pending} {k : Kind} → Shell f owner n ty (Node-F.Query keys d) at p k q → IsBlockOf (captured_query d) k
  query_kind (low.operation is) = absurd (none-some _ is)
  query_kind (low.query {p} {kept} of are) = record { block = block.Query; label = p.label; kept = kept; is = refl; locals = are.names_are }

  pub update_kind : {change : ChangeExpr} {at : Span} {p q : Pending} {k : Kind} → Shell f owner n ty (Node-F.Update change) at p k q → IsBlockOf (captured_change change) k
  update_kind (low.operation is) = absurd (none-some _ is)
  update_kind (low.update {p} {kept} of are touched) = record { block = block.Update; label = p.label; kept = kept; is = refl; locals = are.names_are }

  pub delete_kind : {change : ChangeExpr} {at : Span} {p q : Pending} {k : Kind} → Shell f owner n ty (Node-F.Delete change) at p k q → IsBlockOf (captured_change change) k
  delete_kind (low.operation is) = absurd (none-some _ is)
  delete_kind (low.delete {p} {kept} of are touched) = record { block = block.Delete; label = p.label; kept = kept; is = refl; locals = are.names_are }

pub binds_are : {k other : Kind} → k ≡ other → binds k ≡ binds other
binds_are same = ap binds same

pub no_lambda : (l : Layer) (h : Head) → head label_of expr_of l ≡ Some h → is_lambda l ≡ false
no_lambda (Node-F.Lambda l) h is = absurd (none-some h is)
no_lambda other h is = refl
