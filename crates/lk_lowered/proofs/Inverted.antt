-- What a lowered expression has in the table, by its level.
use Rattle.std.proofs.Common.{◌≡◌, refl, sym, ap, subst, ◌∙◌, ℕ, Bool, true, false, List, [], ◌∷◌, Some}
use Rattle.std.proofs.lemmas.Option.{none-some}
use Rattle.lk_ast.specs.Layers.{Layer, layer}
use Rattle.lk_ast.specs.declared.expression.Expr.{Expr}
use Rattle.lk_ast.specs.declared.expression.LambdaExpr.{LambdaExpr}
use Rattle.lk_ast.specs.declared.expression.Node.TheOpen.{Node-F}
use Rattle.lk_ast.specs.declared.place.Span.{Span}
use Rattle.lk_evaluation.specs.Syntax.{parts_of}
use Rattle.lk_index.specs.Free.{captured}
use Rattle.lk_ir.specs.Tables.{form_at}
use Rattle.lk_ir.specs.declared.nodes.Body.{Body}
use Rattle.lk_ir.specs.declared.nodes.Form.{Form}
use Rattle.lk_ir.specs.declared.nodes.Forms.{Forms}
use Rattle.lk_ir.specs.declared.nodes.Kind.{Kind}
use Rattle.lk_ir.specs.declared.nodes.Kind.TheVariants as kind
use Rattle.lk_lower.specs.Lowering as low
use Rattle.lk_lower.specs.Lowering.{Pending, Shell, IsLowered, AreLowered, AreLocals, IsBodyLabel, TypeIs, tails_of, behind_label}

abbrev pub is_lambda : Layer → Bool
is_lambda (Node-F.Lambda l) = true
is_lambda other = false

module _ (f : Forms) (owner : ℕ) where
  pub record IsNode (within : ℕ) (e : Expr) (l : Layer) (before : Pending) (n : ℕ) (after : Pending) : Type 0 where
    pub form : Form
    pub inside : Pending
    pub between : Pending
    pub there : form_at f n ≡ Some form
    pub typed : TypeIs f form.ty before.types
    pub shell : Shell f owner n form.ty l e.span before form.kind inside
    pub parts : AreLowered f owner within (parts_of l) inside form.parts between
    pub tails : AreLowered f owner within (tails_of l) between form.tails after

  pub as_node : {within n : ℕ} {e : Expr} {before after : Pending} (l : Layer) → layer e ≡ l → is_lambda l ≡ false → IsLowered f owner within e before n after → IsNode within e l before n after
  as_node {within} {n} {e} {before} {after} l is none (low.node form inside between number there at in_it has shell parts tails) =
      subst (λ m. IsNode within e m before n after) is (record { form = form; inside = inside; between = between; there = there; typed = has; shell = shell; parts = parts; tails = tails })
  as_node l is none (low.lambda form k xs body also number there at in_it has of locals no_part no_tail label lowered) =
      let same : true ≡ false = sym (ap is_lambda (sym is ∙ also)) ∙ none in absurd cc

  pub record IsLambdaNode (within : ℕ) (e : Expr) (l : LambdaExpr) (before : Pending) (n : ℕ) (after : Pending) : Type 0 where
    pub form : Form
    pub body : Body
    pub there : form_at f n ≡ Some form
    pub typed : TypeIs f form.ty before.types
    pub xs : List ℕ
    pub of : form.kind ≡ kind.Lambda before.label xs
    pub locals : AreLocals f xs (captured l)
    pub no_part : form.parts ≡ []
    pub no_tail : form.tails ≡ []
    pub label : IsBodyLabel f owner (Some n) form.ty before.label l.place (captured l) l.params body
    pub lowered : IsLowered f owner before.label l.body (behind_label before) body.root after

  pub no_shell : {n ty : ℕ} {l : LambdaExpr} {at : Span} {p q : Pending} {k : Kind} → Shell f owner n ty (Node-F.Lambda l) at p k q → ⊥
  no_shell (low.operation is) = absurd (none-some _ is)

  pub as_lambda : {within n : ℕ} {e : Expr} {before after : Pending} (l : LambdaExpr) → layer e ≡ Node-F.Lambda l → IsLowered f owner within e before n after → IsLambdaNode within e l before n after
  as_lambda {within} {n} {e} {before} {after} l is (low.node form inside between number there at in_it has shell parts tails) =
      absurd (no_shell (subst (λ m. Shell f owner n form.ty m e.span before form.kind inside) is shell))
  as_lambda {within} {n} {e} {before} {after} l is (low.lambda form k xs body also number there at in_it has of locals no_part no_tail label lowered) =
      let both : Node-F.Lambda k ≡ Node-F.Lambda l = sym also ∙ is in
      let same : k ≡ l = cc in
      subst (λ m. IsLambdaNode within e m before n after) same (record { form = form; body = body; there = there; typed = has; xs = xs; of = of; locals = locals; no_part = no_part; no_tail = no_tail; label = label; lowered = lowered })

  -- one expression
  pub record IsOne (within : ℕ) (e : Expr) (before : Pending) (ns : List ℕ) (after : Pending) : Type 0 where
    pub number : ℕ
    pub are : ns ≡ number ∷ []
    pub lowered : IsLowered f owner within e before number after

  pub as_one : {within : ℕ} {e : Expr} {before after : Pending} {ns : List ℕ} → AreLowered f owner within (e ∷ []) before ns after → IsOne within e before ns after
  as_one (low.more one low.none) = record { number = _; are = refl; lowered = one }

  pub as_none : {within : ℕ} {before after : Pending} {ns : List ℕ} → AreLowered f owner within [] before ns after → (ns ≡ []) × (before ≡ after)
  as_none low.none = (refl, refl)
