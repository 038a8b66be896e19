-- Label 0 alone is `print`: what has another label has a node or a body.
use Rattle.std.proofs.Common.{◌≡◌, ◌⊎◌, inl, inr, refl, sym, subst, ◌∙◌, ℕ, zero, suc, ◌+◌, ◌≤◌, ◌<◌, List, Option, Some, None, length, slice_get, arith}
use Rattle.std.proofs.lemmas.Bool.{cases_lt}
use Rattle.std.proofs.lemmas.Option.{none-some, slice_get_within}
use Rattle.lk_ast.specs.Layers.{Layer}
use Rattle.lk_ast.specs.declared.expression.Expr.{Expr}
use Rattle.lk_ast.specs.declared.place.Loc.{Loc}
use Rattle.lk_ast.specs.declared.place.Span.{Span}
use Rattle.lk_ast.specs.declared.place.Word.{Word}
use Rattle.lk_defun.specs.Whole.{IsPrint}
use Rattle.lk_ground.specs.declared.program.GroundFun.{GroundFun}
use Rattle.lk_ground.specs.declared.program.GroundProgram.{GroundProgram}
use Rattle.lk_ir.specs.Tables.{label_at}
use Rattle.lk_ir.specs.declared.nodes.Body.{Body}
use Rattle.lk_ir.specs.declared.nodes.Forms.{Forms}
use Rattle.lk_ir.specs.declared.nodes.Kind.{Kind}
use Rattle.lk_ir.specs.declared.nodes.LabelForm.{LabelForm}
use Rattle.lk_lower.specs.Lowering as low
use Rattle.lk_lower.specs.Lowering.{AreForms, AreFuns, AreLowered, IsBlockLabel, IsBodyLabel, IsLowered, Pending, Shell}
use Rattle.lk_types.proofs.Parts.{same_some}

module _ (f : Forms) where
  -- what has this label has a node or a body
  abbrev IsMore : ℕ → Type 0
  IsMore k = (l : LabelForm) → label_at f k ≡ Some l → IsPrint l → ⊥

  block_more : {owner n ty label : ℕ} → IsBlockLabel f owner n ty label → IsMore label
  block_more {n = n} of l there print = none-some n (sym print.node ∙ subst (λ (m : LabelForm). m.node ≡ Some n) (same_some (sym of.is ∙ there)) of.node_is)

  body_more : {owner ty label : ℕ} {node : Option ℕ} {place : Loc} {names : List (List ℕ)} {params : List Word} {body : Body} → IsBodyLabel f owner node ty label place names params body → IsMore label
  body_more {body = body} of l there print = none-some body (sym print.body ∙ subst (λ (m : LabelForm). m.body ≡ Some body) (same_some (sym of.is ∙ there)) of.body_is)

  -- a node takes no label itself, or one of what reads or changes tables
  abbrev TakesOwn : Pending → Pending → Type 0
  TakesOwn p q = (q.label ≡ p.label) ⊎ ((q.label ≡ p.label + 1) × IsMore p.label)

  takes_own : (owner n ty : ℕ) {l : Layer} {at : Span} {p q : Pending} {k : Kind} → Shell f owner n ty l at p k q → TakesOwn p q
  takes_own owner n ty (low.operation is) = inl refl
  takes_own owner n ty (low.name is) = inl refl
  takes_own owner n ty (low.function is) = inl refl
  takes_own owner n ty (low.call is) = inl refl
  takes_own owner n ty low.apply = inl refl
  takes_own owner n ty (low.bind is) = inl refl
  takes_own owner n ty low.then_next = inl refl
  takes_own owner n ty low.choose_if = inl refl
  takes_own owner n ty low.choose_and = inl refl
  takes_own owner n ty low.choose_or = inl refl
  takes_own owner n ty low.choose_where = inl refl
  takes_own owner n ty low.print = inl refl
  takes_own owner n ty (low.switch are is) = inl refl
  takes_own owner n ty (low.for_list is) = inl refl
  takes_own owner n ty (low.for_table is) = inl refl
  takes_own owner n ty (low.table of) = inr (refl, block_more of)
  takes_own owner n ty (low.insert of touched) = inr (refl, block_more of)
  takes_own owner n ty (low.query of kept) = inr (refl, block_more of)
  takes_own owner n ty (low.update of kept touched) = inr (refl, block_more of)
  takes_own owner n ty (low.delete of kept touched) = inr (refl, block_more of)

  -- by whether a label is this one or behind it
  at_or_behind : (label k : ℕ) → label ≤ k → (label ≡ k) ⊎ (label + 1 ≤ k)
  at_or_behind label k from = by_side (cases_lt label k)
    where
      by_side : (label < k) ⊎ (k ≤ label) → (label ≡ k) ⊎ (label + 1 ≤ k)
      by_side (inl later) = inr (let e : label + 1 ≤ k = omega arith in e)
      by_side (inr here) = inl (let e : label ≡ k = omega arith in e)

  by_own : (p q : Pending) (k : ℕ) → TakesOwn p q → p.label ≤ k → (q.label ≤ k → IsMore k) → IsMore k
  by_own p q k (inl same) from inner = inner (let e : q.label ≤ k = omega (arith, same) in e)
  by_own p q k (inr (one, more)) from inner = by_side (at_or_behind p.label k from)
    where
      by_side : (p.label ≡ k) ⊎ (p.label + 1 ≤ k) → IsMore k
      by_side (inl here) = subst IsMore here more
      by_side (inr behind) = inner (let e : q.label ≤ k = omega (arith, one) in e)

  by_middle : (k middle : ℕ) → (k < middle → IsMore k) → (middle ≤ k → IsMore k) → IsMore k
  by_middle k middle first others = by_side (cases_lt k middle)
    where
      by_side : (k < middle) ⊎ (middle ≤ k) → IsMore k
      by_side (inl before) = first before
      by_side (inr behind) = others behind

  -- a label, and those behind it
  by_start : (label k : ℕ) → IsMore label → (label ≡ k) ⊎ (label + 1 ≤ k) → (label + 1 ≤ k → IsMore k) → IsMore k
  by_start label k own (inl here) others = subst IsMore here own
  by_start label k own (inr behind) others = others behind

  mutual
    more_in : {owner within n : ℕ} {e : Expr} {p q : Pending} → IsLowered f owner within e p n q → (k : ℕ) → p.label ≤ k → k < q.label → IsMore k
    more_in {owner = owner} {n = n} {p = p} (low.node form inside between number is at in_it has shell parts tails) k from to =
        by_own p inside k (takes_own owner n form.ty shell) from (λ inner. by_middle k between.label (λ before. all_more_in parts k inner before) (λ behind. all_more_in tails k behind to))
    more_in {p = p} (low.lambda form l xs own is number there at in_it has kind_is locals no_part no_tail label inner) k from to =
        by_start p.label k (body_more label) (at_or_behind p.label k from) (λ behind. more_in inner k behind to)

    all_more_in : {owner within : ℕ} {es : List Expr} {ns : List ℕ} {p q : Pending} → AreLowered f owner within es p ns q → (k : ℕ) → p.label ≤ k → k < q.label → IsMore k
    all_more_in low.none k from to = absurd (omega arith)
    all_more_in (low.more {between = between} one rest) k from to = by_middle k between.label (λ before. more_in one k from before) (λ behind. all_more_in rest k behind to)

  more_from : {i label next : ℕ} {funs : List GroundFun} → AreFuns f i funs label next → (k : ℕ) → label ≤ k → IsMore k
  more_from (low.no_fun wholes titles labels nodes) k from = λ l there print. let below : k < length f.labels = slice_get_within f.labels k l there in omega (arith, labels, below, from)
  more_from {label = label} (low.one_fun body after ty whole titled type_is of lowered others) k from =
      by_start label k (body_more of) (at_or_behind label k from) (λ behind. by_middle k after.label (λ before. more_in lowered k behind before) (λ later. more_from others k later))

pub alone : (g : GroundProgram) (f : Forms) → AreForms g f → (label : ℕ) (l : LabelForm) → label_at f label ≡ Some l → IsPrint l → label ≡ 0
alone g f of zero l there print = refl
alone g f of (suc label) l there print = absurd (more_from f of.funs (suc label) (let e : 1 ≤ suc label = omega arith in e) l there print)
