-- The table of a ground program with its continuations is typed.
use Rattle.std.proofs.Common.{◌≡◌, refl, sym, ap, subst, ◌∙◌, ℕ, zero, suc, ◌+◌, ◌≤◌, ◌<◌, List, length, Option, Some, None, slice_get, arith}
use Rattle.std.proofs.lemmas.Option.{none-some, slice_get_within}
use Rattle.std.specs.Option.{option_and_then}
use Rattle.lk_ast.specs.Layers.{Layer}
use Rattle.lk_ast.specs.declared.declaration.Program.{Program}
use Rattle.lk_ast.specs.declared.expression.Expr.{Expr}
use Rattle.lk_ast.specs.declared.place.Span.{Span}
use Rattle.lk_code.specs.Parts.{AreTypedForms, Info}
use Rattle.lk_code.specs.Tables.{node_of}
use Rattle.lk_code.specs.Told.{info_in}
use Rattle.lk_ground.specs.declared.program.GroundProgram.{GroundProgram}
use Rattle.lk_ir.specs.Tables.{body_at, body_of, form_at, label_at}
use Rattle.lk_ir.specs.declared.nodes.Block.{Block}
use Rattle.lk_ir.specs.declared.nodes.Body.{Body}
use Rattle.lk_ir.specs.declared.nodes.Form.{Form}
use Rattle.lk_ir.specs.declared.nodes.Forms.{Forms}
use Rattle.lk_ir.specs.declared.nodes.Kept.{Kept}
use Rattle.lk_ir.specs.declared.nodes.Kind.{Kind}
use Rattle.lk_ir.specs.declared.nodes.Kind.TheVariants as kind
use Rattle.lk_ir.specs.declared.nodes.LabelForm.{LabelForm}
use Rattle.lk_lower.specs.Lowering as low
use Rattle.lk_lower.specs.Lowering.{AreForms, IsBlockLabel, IsLowered, Pending, Shell}
use Rattle.lk_lowered.proofs.Contexts.{same_numbers}
use Rattle.lk_lowered.proofs.Continued.{envs_of}
use Rattle.lk_lowered.proofs.Enclosing.{bodies_within, children_within}
use Rattle.lk_lowered.proofs.OwnBodies.{IsOwnBody}
use Rattle.lk_lowered.proofs.Telling.{covered, tells_in}
use Rattle.lk_lowered.proofs.Turning.{IsWholeOf}
use Rattle.lk_lowered.proofs.TypedFunctions.{AreTypedFrom, own_all, typed_all, wholes}
use Rattle.lk_lowered.proofs.Told.{Tells}
use Rattle.lk_lowered.specs.Typing.{CapturedLaw, IsTypedGround, TypedLaw}
use Rattle.lk_sound.specs.Instances.{Instances}
use Rattle.lk_sound.specs.Nodes.{Use}
use Rattle.lk_types.proofs.Parts.{same_some}

-- ---- what a node of a kind has

no_lambda_kind : (f : Forms) (owner n ty : ℕ) {l : Layer} {at : Span} {p q : Pending} {k : Kind} → Shell f owner n ty l at p k q → {label : ℕ} {xs : List ℕ} → k ≡ kind.Lambda label xs → ⊥
no_lambda_kind f owner n ty (low.operation is) same = cc
no_lambda_kind f owner n ty (low.name is) same = cc
no_lambda_kind f owner n ty (low.function is) same = cc
no_lambda_kind f owner n ty (low.call is) same = cc
no_lambda_kind f owner n ty low.apply same = cc
no_lambda_kind f owner n ty (low.bind is) same = cc
no_lambda_kind f owner n ty low.then_next same = cc
no_lambda_kind f owner n ty low.choose_if same = cc
no_lambda_kind f owner n ty low.choose_and same = cc
no_lambda_kind f owner n ty low.choose_or same = cc
no_lambda_kind f owner n ty low.choose_where same = cc
no_lambda_kind f owner n ty low.print same = cc
no_lambda_kind f owner n ty (low.switch are is) same = cc
no_lambda_kind f owner n ty (low.for_list is) same = cc
no_lambda_kind f owner n ty (low.for_table is) same = cc
no_lambda_kind f owner n ty (low.table of) same = cc
no_lambda_kind f owner n ty (low.insert of touched) same = cc
no_lambda_kind f owner n ty (low.query of kept) same = cc
no_lambda_kind f owner n ty (low.update of kept touched) same = cc
no_lambda_kind f owner n ty (low.delete of kept touched) same = cc

label_of : {b c : Block} {label other : ℕ} {kept others : List Kept} → kind.Reach b label kept ≡ kind.Reach c other others → label ≡ other
label_of same = cc

block_label : (f : Forms) (owner n ty : ℕ) {l : Layer} {at : Span} {p q : Pending} {k : Kind} → Shell f owner n ty l at p k q → {b : Block} {label : ℕ} {kept : List Kept} → k ≡ kind.Reach b label kept → IsBlockLabel f owner n ty label
block_label f owner n ty (low.table of) same = subst (IsBlockLabel f owner n ty) (label_of same) of
block_label f owner n ty (low.insert of touched) same = subst (IsBlockLabel f owner n ty) (label_of same) of
block_label f owner n ty (low.query of kept) same = subst (IsBlockLabel f owner n ty) (label_of same) of
block_label f owner n ty (low.update of kept touched) same = subst (IsBlockLabel f owner n ty) (label_of same) of
block_label f owner n ty (low.delete of kept touched) same = subst (IsBlockLabel f owner n ty) (label_of same) of
block_label f owner n ty other same = cc

lambda_same : {a b : ℕ} {xs ys : List ℕ} → kind.Lambda a xs ≡ kind.Lambda b ys → (a ≡ b) × (xs ≡ ys)
lambda_same same = (cc, cc)

lambda_reach : {a b : ℕ} {xs : List ℕ} {block : Block} {kept : List Kept} → kind.Lambda a xs ≡ kind.Reach block b kept → ⊥
lambda_reach same = cc

module _ (f : Forms) (g : GroundProgram) (of : AreForms g f) where
  -- the label of what reads or changes tables
  pub at_block : {owner within n : ℕ} {e : Expr} {p q : Pending} → IsLowered f owner within e p n q → (form : Form) (b : Block) (label : ℕ) (kept : List Kept) → form_at f n ≡ Some form → form.kind ≡ kind.Reach b label kept → (node_of f label ≡ Some n) × (body_at f label ≡ None)
  at_block {owner = owner} (low.node other inside between number is at in_it has shell parts tails) form b label kept there kind_is =
      let label_is = block_label f owner _ _ shell (ap (λ (it : Form). it.kind) (same_some (sym is ∙ there)) ∙ kind_is) in
      (ap (option_and_then (λ (l : LabelForm). l.node)) label_is.is ∙ label_is.node_is, ap body_of label_is.is ∙ label_is.body_is)
  at_block (low.lambda other l xs body is number at_it at in_it has lambda_is locals no_part no_tail label_is inner) form b label kept there kind_is =
      absurd (lambda_reach (sym lambda_is ∙ ap (λ (it : Form). it.kind) (same_some (sym at_it ∙ there)) ∙ kind_is))

  -- the body of a lambda has the names that are captured for it
  at_lambda : {owner within n : ℕ} {e : Expr} {p q : Pending} → IsLowered f owner within e p n q → (form : Form) (label : ℕ) (xs : List ℕ) → form_at f n ≡ Some form → form.kind ≡ kind.Lambda label xs → (b : Body) × (body_at f label ≡ Some b) × (b.names ≡ xs)
  at_lambda {owner = owner} (low.node other inside between number is at in_it has shell parts tails) form label xs there kind_is =
      absurd (no_lambda_kind f owner _ _ shell (ap (λ (it : Form). it.kind) (same_some (sym is ∙ there)) ∙ kind_is))
  at_lambda (low.lambda other l ys body is number at_it at in_it has lambda_is locals no_part no_tail label_is inner) form label xs there kind_is =
      let same = lambda_same (sym lambda_is ∙ ap (λ (it : Form). it.kind) (same_some (sym at_it ∙ there)) ∙ kind_is) in
      (body, ap (body_at f) (sym same.0) ∙ ap body_of label_is.is ∙ label_is.body_is, same_numbers f of.locals body.names ys _ label_is.names_are locals ∙ same.1)

  -- label 0 has no body, and each label with a body is in the table
  no_printer : (b : Body) → body_at f 0 ≡ Some b → ⊥
  no_printer b is = none-some b (sym of.printer_body ∙ sym (ap body_of of.printer_is) ∙ is)

  there : (label : ℕ) (o : Option LabelForm) (b : Body) → label_at f label ≡ o → body_of o ≡ Some b → label < length f.labels
  there label None b is body = absurd (none-some b body)
  there label (Some l) b is body = slice_get_within f.labels label l is

  from_one : (label : ℕ) (b : Body) → body_at f label ≡ Some b → 1 ≤ label
  from_one zero b is = absurd (no_printer b is)
  from_one (suc label) b is = omega arith

  within : (label : ℕ) (b : Body) → body_at f label ≡ Some b → label < length f.labels
  within label b is = there label (label_at f label) b refl is

-- ---- the laws

module _ (p : Program) (g : GroundProgram) (f : Forms) (source : IsTypedGround p g) (of : AreForms g f) (info : ℕ → Option Info) where
  abbrev i : Instances
  i = source.instances.shaped.instances

  own : (label : ℕ) (b : Body) → body_at f label ≡ Some b → IsOwnBody f info label b
  own label b is = own_all f of.locals info p i source.bound of.funs source.instances.mains label (from_one f g of label b is) (within f g of label b is) b is

  every : Tells f info → (place : ℕ) (u : Use) → slice_get i.mains place ≡ Some u → IsWholeOf f info place u
  every tells place u at = subst (λ n. IsWholeOf f info n u) (let e : place + 0 ≡ place = omega arith in e) (wholes f of.locals info p i tells of.funs source.instances.mains place u at)

  typed_forms : Tells f info → AreTypedForms f info
  typed_forms tells =
      let all : AreTypedFrom f of.locals info p i tells source.instances.shaped.closed (every tells) 1 0 = typed_all f of.locals info p i tells source.instances.shaped.closed (every tells) of.funs source.instances.mains in
      record {
        bodies = λ label b is. all.bodies label (from_one f g of label b is) (within f g of label b is) b is;
        nodes = λ n form is. all.nodes n (let e : 0 ≤ n = omega arith in e) (slice_get_within f.nodes n form is);
        once = λ label b is. ((own label b is).params, (own label b is).names);
        tops = λ label l b is no_node has. (own label b (ap body_of is ∙ has)).top l is no_node;
        blocks = λ n form b label kept is kind_is. at_block f g of (covered f g of n form is).lowered form b label kept is kind_is;
        within = record {
          children = λ n form k child is among child_is. children_within f (covered f g of n form is).lowered form is k among child child_is;
          roots = λ label b root is root_is. bodies_within f of.funs label (from_one f g of label b is) (within f g of label b is) b is root root_is;
        };
      }

pub captured : CapturedLaw
captured p g f source of = record {
  bodies = λ n label xs form is kind_is. at_lambda f g of (covered f g of n form is).lowered form label xs is kind_is;
  used = λ label b is x among. (own p g f source of (λ other. None) label b is).used x among;
}

pub typed_programs : TypedLaw
typed_programs p g c source of conts =
    let used = captured p g c.forms source of in
    record {
      forms = typed_forms p g c.forms source of (info_in c) (tells_in g c of (envs_of c conts.envs used));
      named = conts.named;
      named_as = conts.types used;
    }
