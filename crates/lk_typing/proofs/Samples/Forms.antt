-- Small syntax trees, whose nodes stand at no place in particular, and typings of them: which there are, and what one says of the parts.
use Rattle.std.proofs.Common.{◌≡◌, ℕ, List, [], ◌∷◌, ◌++◌, refl, sym, subst, ap, ◌∙◌, Option, Some, None, pos}
use Rattle.lk_ast.specs.Layers.{Layer, layer}
use Rattle.lk_ast.specs.declared.declaration.FunDef.{FunDef}
use Rattle.lk_ast.specs.declared.declaration.TableDecl.{TableDecl}
use Rattle.lk_ast.specs.declared.expression.Expr.{Expr}
use Rattle.lk_ast.specs.declared.expression.Node.{Node}
use Rattle.lk_ast.specs.declared.expression.Node.TheOpen.{Node-F}
use Rattle.lk_ast.specs.declared.expression.Node.TheVariants as node
use Rattle.lk_ast.specs.declared.expression.PartExpr.{PartExpr}
use Rattle.lk_ast.specs.declared.place.Loc.{Loc}
use Rattle.lk_ast.specs.declared.place.Span.{Span}
use Rattle.lk_ast.specs.declared.place.Word.{Word}
use Rattle.lk_ast.specs.declared.table.BaseKind.{BaseKind}
use Rattle.lk_types.proofs.Parts.{same_some}
use Rattle.lk_types.specs.Rows.{Label, Row, EffectSet, no_fields}
use Rattle.lk_types.specs.declared.ground.Ground.{Ground}
use Rattle.lk_types.specs.declared.ground.Ground.TheVariants as known
use Rattle.lk_typing.proofs.Inverses.{first_same}
use Rattle.lk_typing.specs.Heads as head
use Rattle.lk_typing.specs.Heads.{Head, head, parts}
use Rattle.lk_typing.specs.Names.{Named, named, Entry, MayBe}
use Rattle.lk_typing.specs.Rules as rule
use Rattle.lk_typing.specs.Rules.{Rule}
use Rattle.lk_typing.specs.Types.{base, record_of, function_of, with_fields, labelled, only_scan}
use Rattle.lk_typing.specs.Typing.{label_of, expr_of, HasType, plain, lambda, var, switch, switch_open, for_list, for_table, query, update, delete, HaveTypes, none, more}

-- ---- trees

abbrev pub nowhere : Span
nowhere = record { start = 0; end = 0 }

abbrev pub word : List ℕ → Word
word letters = record { at = nowhere; text = letters }

abbrev pub at : Node → Expr
at n = record { span = nowhere; node = n }

-- l = e
abbrev pub part : List ℕ → Expr → PartExpr
part l e = record { label = word l; expr = e }

-- literals, and a local name
abbrev pub number : ℕ → Expr
number n = at (node.Int (pos n))

abbrev pub text : List ℕ → Expr
text bytes = at (node.Text bytes)

abbrev pub name : List ℕ → Expr
name x = at (node.Name x)

-- g(e)
abbrev pub call : List ℕ → Expr → Expr
call g e = at (node.Call (word g) (e ∷ []))

-- fun f(x) place { body }
abbrev pub fun : List ℕ → List ℕ → Loc → Expr → FunDef
fun f x place body = record { name = word f; sig = None; params = word x ∷ []; place = place; body = body }

-- ---- what a typing says of an expression of some forms

module _ (functions : Named (Entry Ground)) (tables : List TableDecl) (names : Named Ground) (effects : EffectSet) where
  pub record IsPlain (h : Head) (es : List Expr) (t : Ground) : Type 0 where
    pub ts : List Ground
    pub inside : List Ground
    pub typed : HaveTypes functions tables names effects es ts inside
    pub rule : Rule functions tables names effects h ts t

  pub record IsVar (x : Word) (d rest : Expr) (t : Ground) : Type 0 where
    pub a : Ground
    pub first : List Ground
    pub last : List Ground
    pub bound : HasType functions tables names effects d a first
    pub then : HasType functions tables ((x.text, a) ∷ names) effects rest t last

  pub record IsQuery (body : Expr) (t : Ground) : Type 0 where
    pub a : Ground
    pub inner : List Ground
    pub typed : HasType functions tables names only_scan body (known.List a) inner

  -- of the other forms that bind names nothing is said
  abbrev Binder : Layer → Ground → Type 0
  Binder (Node-F.Var x d rest) t = IsVar x d rest t
  Binder (Node-F.Query keys body) t = IsQuery body t
  Binder other t = Unit {0}

  abbrev ByHead : Option Head → Layer → Ground → Type 0
  ByHead (Some h) n t = IsPlain h (parts label_of expr_of n) t
  ByHead None n t = Binder n t

  abbrev pub Form : Ground → Layer → Type 0
  Form t n = ByHead (head label_of expr_of n) n t

module _ {functions : Named (Entry Ground)} {tables : List TableDecl} {names : Named Ground} {effects : EffectSet} where
  form_of : {e : Expr} {t : Ground} {inside : List Ground} → HasType functions tables names effects e t inside → Form functions tables names effects t (layer e)
  form_of {e} {t} {inside} (plain h ts is typed rule) = subst (λ o. ByHead functions tables names effects o (layer e) t) (sym is) (record { ts = ts; inside = inside; typed = typed; rule = rule })
  form_of {t = t} (var x d rest a first last is bound then) = subst (Form functions tables names effects t) (sym is) (record { a = a; first = first; last = last; bound = bound; then = then })
  form_of {t = t} (query keys body a inner is typed sorted scans sorts) = subst (Form functions tables names effects t) (sym is) (record { a = a; inner = inner; typed = typed })
  form_of {t = t} (lambda l params own b is same_names moves typed local) = subst (Form functions tables names effects t) (sym is) tt
  form_of {t = t} (switch d cases row tags ts first bodies is typed rest same whole local) = subst (Form functions tables names effects t) (sym is) tt
  form_of {t = t} (switch_open d cases last other row tags ts first bodies inside is typed rest same end whole local) = subst (Form functions tables names effects t) (sym is) tt
  form_of {t = t} (for_list x d body a b first inner is over typed) = subst (Form functions tables names effects t) (sym is) tt
  form_of {t = t} (for_table x d body a b first inner is over typed) = subst (Form functions tables names effects t) (sym is) tt
  form_of {t = t} (update change is change_typed writes) = subst (Form functions tables names effects t) (sym is) tt
  form_of {t = t} (delete change is change_typed writes) = subst (Form functions tables names effects t) (sym is) tt

  pub opened : {e : Expr} {t : Ground} {inside : List Ground} (n : Layer) → layer e ≡ n → HasType functions tables names effects e t inside → Form functions tables names effects t n
  opened {t = t} n is typed = subst (Form functions tables names effects t) is (form_of typed)

  -- ---- parts

  -- the first of several, and the others
  pub first_of_them : {e : Expr} {es : List Expr} {ts inside : List Ground} → HaveTypes functions tables names effects (e ∷ es) ts inside
      → (t : Ground) × (us : List Ground) × (inner rest : List Ground) × (ts ≡ t ∷ us) × HasType functions tables names effects e t inner × HaveTypes functions tables names effects es us rest
  first_of_them (more {t = t} {ts = us} inner rest typed then) = (t, us, inner, rest, refl, typed, then)

  no_more : {ts inside : List Ground} → HaveTypes functions tables names effects [] ts inside → ts ≡ []
  no_more none = refl

  pub alone : {e : Expr} {ts inside : List Ground} → HaveTypes functions tables names effects (e ∷ []) ts inside → (t : Ground) × (inner : List Ground) × (ts ≡ t ∷ []) × HasType functions tables names effects e t inner
  alone typed = let f = first_of_them typed in (f.0, f.2, f.4 ∙ ap (λ us. f.0 ∷ us) (no_more f.6), f.5)

  pub both : {d e : Expr} {ts inside : List Ground} → HaveTypes functions tables names effects (d ∷ e ∷ []) ts inside
      → (t u : Ground) × (first second : List Ground) × (ts ≡ t ∷ u ∷ []) × HasType functions tables names effects d t first × HasType functions tables names effects e u second
  both typed = let f = first_of_them typed in let g = alone f.6 in (f.0, g.0, f.2, g.1, f.4 ∙ ap (λ us. f.0 ∷ us) g.2, f.5, g.3)

  -- ---- names, numbers and calls

  local_says : {x : Label} {ts : List Ground} {t : Ground} → Rule functions tables names effects (head.Local x) ts t → named x names ≡ Some t
  local_says (rule.local is) = is

  pub of_name : (x : Label) {t : Ground} {inside : List Ground} → HasType functions tables names effects (name x) t inside → named x names ≡ Some t
  of_name x typed = local_says (opened _ (node.outs-Name x) typed).rule

  literal_says : {kind : BaseKind} {ts : List Ground} {t : Ground} → Rule functions tables names effects (head.Literal kind) ts t → t ≡ base kind
  literal_says rule.literal = refl

  pub of_number : (n : ℕ) {t : Ground} {inside : List Ground} → HasType functions tables names effects (number n) t inside → t ≡ known.Int
  of_number n typed = literal_says (opened _ (node.outs-Int _) typed).rule

  call_says : {g : Label} {ts : List Ground} {a : Ground} → Rule functions tables names effects (head.Call g) ts a → MayBe functions g (function_of ts effects a)
  call_says (rule.call may) = may

  pub of_call : (g : Label) (e : Expr) {a : Ground} {inside : List Ground} → HasType functions tables names effects (call g e) a inside
      → (p : Ground) × (inner : List Ground) × HasType functions tables names effects e p inner × MayBe functions g (function_of (p ∷ []) effects a)
  of_call g e {a} typed =
      let c = opened _ (node.outs-Call _ _) typed in
      let arg = alone c.typed in
      (arg.0, arg.1, arg.3, subst (λ ts. MayBe functions g (function_of ts effects a)) arg.2 (call_says c.rule))

-- ---- records

module _ (functions : Named (Entry Ground)) (tables : List TableDecl) (names : Named Ground) (effects : EffectSet) where
  -- (l = e)
  pub record OfField (l : Label) (e : Expr) (t : Ground) : Type 0 where
    pub a : Ground
    pub row : Row
    pub inner : List Ground
    pub typed : HasType functions tables names effects e a inner
    pub whole : with_fields ((l, a) ∷ []) no_fields ≡ Some row
    pub is : t ≡ record_of row

  -- (l = e | r)
  pub record OfExtend (l : Label) (e r : Expr) (t : Ground) : Type 0 where
    pub a : Ground
    pub other : Row
    pub row : Row
    pub second : List Ground
    pub before : HasType functions tables names effects r (record_of other) second
    pub whole : with_fields ((l, a) ∷ []) other ≡ Some row
    pub is : t ≡ record_of row

  -- e.l
  pub record OfProject (l : Label) (e : Expr) (a : Ground) : Type 0 where
    pub other : Row
    pub row : Row
    pub inner : List Ground
    pub typed : HasType functions tables names effects e (record_of row) inner
    pub whole : with_fields ((l, a) ∷ []) other ≡ Some row

module _ {functions : Named (Entry Ground)} {tables : List TableDecl} {names : Named Ground} {effects : EffectSet} where
  closed_says : {labels : List Label} {ts : List Ground} {t : Ground} → Rule functions tables names effects (head.Record labels) ts t
      → (fields : List (Label × Ground)) × (row : Row) × (labelled labels ts ≡ Some (fields, [])) × (with_fields fields no_fields ≡ Some row) × (t ≡ record_of row)
  closed_says (rule.closed_record fields row parts whole) = (fields, row, parts, whole, refl)

  pub of_field : (l : Label) (e : Expr) {t : Ground} {inside : List Ground} → HasType functions tables names effects (at (node.Record (part l e ∷ []))) t inside → OfField functions tables names effects l e t
  of_field l e typed =
      let r = opened _ (node.outs-Record _) typed in
      let one = alone r.typed in
      let c = closed_says r.rule in
      let same : (l, one.0) ∷ [] ≡ c.0 = ap (λ p. p.0) (same_some (sym (ap (labelled (l ∷ [])) one.2) ∙ c.2)) in
      record { a = one.0; row = c.1; inner = one.1; typed = one.3; whole = ap (λ fs. with_fields fs no_fields) same ∙ c.3; is = c.4 }

  extend_says : {labels : List Label} {ts : List Ground} {t : Ground} → Rule functions tables names effects (head.Extend labels) ts t
      → (fields : List (Label × Ground)) × (other row : Row) × (labelled labels ts ≡ Some (fields, record_of other ∷ [])) × (with_fields fields other ≡ Some row) × (t ≡ record_of row)
  extend_says (rule.extend fields other row parts whole) = (fields, other, row, parts, whole, refl)

  pub of_extend : (l : Label) (e r : Expr) {t : Ground} {inside : List Ground} → HasType functions tables names effects (at (node.Extend (part l e ∷ []) r)) t inside → OfExtend functions tables names effects l e r t
  of_extend l e r typed =
      let x = opened _ (node.outs-Extend _ _) typed in
      let two = both x.typed in
      let c = extend_says x.rule in
      let same : ((l, two.0) ∷ [], two.1 ∷ []) ≡ (c.0, record_of c.1 ∷ []) = same_some (sym (ap (labelled (l ∷ [])) two.4) ∙ c.3) in
      let behind : two.1 ∷ [] ≡ record_of c.1 ∷ [] = ap (λ p. p.1) same in
      record { a = two.0; other = c.1; row = c.2; second = two.3; before = subst (λ u. HasType functions tables names effects r u two.3) (first_same behind) two.6; whole = ap (λ p. with_fields p.0 c.1) same ∙ c.4; is = c.5 }

  project_says : {l : Label} {ts : List Ground} {a : Ground} → Rule functions tables names effects (head.Project l) ts a → (other row : Row) × (with_fields ((l, a) ∷ []) other ≡ Some row) × (ts ≡ record_of row ∷ [])
  project_says (rule.project other row whole) = (other, row, whole, refl)

  pub of_project : (l : Label) (e : Expr) {a : Ground} {inside : List Ground} → HasType functions tables names effects (at (node.Project e (word l))) a inside → OfProject functions tables names effects l e a
  of_project l e typed =
      let p = opened _ (node.outs-Project _ _) typed in
      let one = alone p.typed in
      let c = project_says p.rule in
      let types : one.0 ∷ [] ≡ record_of c.1 ∷ [] = sym one.2 ∙ c.3 in
      record { other = c.0; row = c.1; inner = one.1; typed = subst (λ t. HasType functions tables names effects e t one.1) (first_same types) one.3; whole = c.2 }

-- ---- typings of some forms

module _ {functions : Named (Entry Ground)} {tables : List TableDecl} {names : Named Ground} {effects : EffectSet} where
  pub made : {e : Expr} {t : Ground} {ts inside : List Ground} {h : Head} (n : Layer) → layer e ≡ n → head label_of expr_of n ≡ Some h
      → HaveTypes functions tables names effects (parts label_of expr_of n) ts inside → Rule functions tables names effects h ts t → HasType functions tables names effects e t inside
  made {ts = ts} {inside = inside} {h = h} n is headed typed rule =
      plain h ts (ap (head label_of expr_of) is ∙ headed) (subst (λ m. HaveTypes functions tables names effects (parts label_of expr_of m) ts inside) (sym is) typed) rule

  pub name_has : (x : Label) {t : Ground} → named x names ≡ Some t → HasType functions tables names effects (name x) t []
  name_has x is = made _ (node.outs-Name x) refl none (rule.local is)

  pub number_has : (n : ℕ) → HasType functions tables names effects (number n) known.Int []
  number_has n = made _ (node.outs-Int _) refl none rule.literal

  pub call_has : (g : Label) {e : Expr} {p a : Ground} {inside : List Ground} → HasType functions tables names effects e p inside → MayBe functions g (function_of (p ∷ []) effects a)
      → HasType functions tables names effects (call g e) a ((p ∷ inside) ++ [])
  call_has g {inside = inside} typed may = made _ (node.outs-Call _ _) refl (more inside [] typed none) (rule.call may)
