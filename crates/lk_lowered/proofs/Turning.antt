-- A node of an operator, whose children are typed.
use Rattle.std.proofs.Common.{◌≡◌, refl, sym, ap, subst, ◌∙◌, ℕ, Bool, false, List, [], ◌∷◌, ◌++◌, append-nil, drop, Option, Some, None, if◌then◌else◌}
use Rattle.std.proofs.lemmas.Option.{none-some}
use Rattle.std.specs.Cmp.Lexicographic.{slice_cmp}
use Rattle.std.specs.List.Sorted.{IsStrictlySortedBy}
use Rattle.std.specs.Ordering.{nat_cmp}
use Rattle.std.specs.Prelude.{slice_get}
use Rattle.lk_ast.specs.Layers.{Layer}
use Rattle.lk_ast.specs.declared.declaration.TableDecl.{TableDecl}
use Rattle.lk_ast.specs.declared.expression.Expr.{Expr}
use Rattle.lk_ast.specs.declared.place.Span.{Span}
use Rattle.lk_evaluation.specs.Syntax.{parts_of}
use Rattle.lk_sound.specs.Nodes.{Use, TypedNode, used_by}
use Rattle.lk_types.proofs.Parts.{same_some}
use Rattle.lk_types.specs.Rows.{Label, EffectSet, effects_of}
use Rattle.lk_types.specs.declared.ty.Effect.{Effect}
use Rattle.lk_types.specs.declared.ground.Ground.{Ground, out-Ground}
use Rattle.lk_types.specs.declared.ground.Ground.TheOpen.{Ground-F}
use Rattle.lk_types.specs.declared.ground.GroundField.{GroundField}
use Rattle.lk_types.specs.declared.ground.Ground.TheVariants as known
use Rattle.lk_typing.specs.Heads as operator
use Rattle.lk_typing.specs.Heads.{Head, head, parts}
use Rattle.lk_typing.specs.Names.{Named, Entry}
use Rattle.lk_typing.specs.Rules as rule
use Rattle.lk_typing.specs.Types.{function_of}
use Rattle.lk_typing.specs.Typing.{label_of, expr_of}
use Rattle.lk_code.specs.Parts as code
use Rattle.lk_code.specs.Parts.{Context, Info, Asked, Rule, AreTyped, function_type, HasBody}
use Rattle.lk_ir.specs.Tables.{form_at, whole_at}
use Rattle.lk_ir.specs.declared.nodes.Block.TheVariants as block
use Rattle.lk_ir.specs.declared.nodes.Choice.TheVariants as choice
use Rattle.lk_ir.specs.declared.nodes.Form.{Form}
use Rattle.lk_ir.specs.declared.nodes.Forms.{Forms}
use Rattle.lk_ir.specs.declared.nodes.Kind.{Kind}
use Rattle.lk_ir.specs.declared.nodes.Kind.TheVariants as kind
use Rattle.lk_ir.specs.declared.nodes.Op.{Op}
use Rattle.lk_ir.specs.declared.nodes.Op.TheVariants as op
use Rattle.lk_lower.specs.Lowering as low
use Rattle.lk_lower.specs.Lowering.{Pending, Shell, AreLowered, IsBlockLabel, IsLocal, tails_of}
use Rattle.lk_mono.specs.Grounded as called
use Rattle.lk_mono.specs.Grounded.{AreCalled}
use Rattle.lk_lowered.proofs.Told.{Tells}
use Rattle.lk_lowered.proofs.Contexts.{AreNamesOf, named_alike}
use Rattle.lk_lowered.proofs.Inverted.{as_none}
use Rattle.lk_lowered.proofs.Operators.{op_head, op_tails, op_is, as_op}

-- what an instance has in the table
pub record IsWholeOf (f : Forms) (info : ℕ → Option Info) (place : ℕ) (u : Use) : Type 0 where
  pub label : ℕ
  pub of : Info
  pub whole : whole_at f place ≡ Some label
  pub is : info label ≡ Some of
  pub no_env : of.env ≡ []
  pub has : HasBody f label
  pub type : u.type ≡ function_type of

module _ (functions : Named (Entry Ground)) (tables : List TableDecl) (names : Named Ground) (effects : EffectSet) where
  -- which function an operator uses
  abbrev pub UseIs : Head → List Ground → Ground → Option Use → Type 0
  UseIs (operator.Function g) ts t o = (u : Use) × (o ≡ Some u) × (u.type ≡ t)
  UseIs (operator.Call g) ts t o = (u : Use) × (o ≡ Some u) × (u.type ≡ function_of ts effects t)
  UseIs other ts t o = o ≡ None

  pub record By (h : Head) (ts : List Ground) (t : Ground) (o : Option Use) : Type 0 where
    pub rule : rule.Rule functions tables names effects h ts t
    pub is : UseIs h ts t o

  pub by_use : {h : Head} {ts : List Ground} {t : Ground} (by : rule.Rule functions tables names effects h ts t) → UseIs h ts t (used_by by)
  by_use (rule.function {g} {t} may) = (record { name = g; type = t }, refl, refl)
  by_use (rule.call {g} {ts} {a} may) = (record { name = g; type = function_of ts effects a }, refl, refl)
  by_use other = refl

  op_unused : (ts : List Ground) (t : Ground) (of : Option Use) (o : Op) → UseIs (code.head_of o) ts t of → of ≡ None
  op_unused ts t of (op.Int n) is = is
  op_unused ts t of (op.Text n) is = is
  op_unused ts t of (op.Bool n) is = is
  op_unused ts t of op.List is = is
  op_unused ts t of op.Concat is = is
  op_unused ts t of op.Append is = is
  op_unused ts t of op.Cons is = is
  op_unused ts t of op.Add is = is
  op_unused ts t of op.Sub is = is
  op_unused ts t of op.Mul is = is
  op_unused ts t of op.Div is = is
  op_unused ts t of op.Mod is = is
  op_unused ts t of op.Eq is = is
  op_unused ts t of op.Ne is = is
  op_unused ts t of op.Lt is = is
  op_unused ts t of op.Le is = is
  op_unused ts t of op.Gt is = is
  op_unused ts t of op.Ge is = is
  op_unused ts t of op.Neg is = is
  op_unused ts t of op.Not is = is
  op_unused ts t of op.Hd is = is
  op_unused ts t of op.Tl is = is
  op_unused ts t of op.Empty is = is
  op_unused ts t of op.IntToString is = is
  op_unused ts t of (op.Record n) is = is
  op_unused ts t of (op.Extend n) is = is
  op_unused ts t of (op.Project n) is = is
  op_unused ts t of (op.Tag n) is = is

module _ (mains helpers : List Use) where
  pub skipped : {node : TypedNode} {rest : List TypedNode} {calls : List ℕ} → node.part.use_of ≡ None → AreCalled mains helpers false (node ∷ rest) calls → AreCalled mains helpers false rest calls
  skipped is (called.other also rest) = rest
  skipped is (called.called also at rest) = absurd (none-some _ (sym is ∙ also))

  pub record IsPlaced (u : Use) (rest : List TypedNode) (calls : List ℕ) : Type 0 where
    pub place : ℕ
    pub left : List ℕ
    pub calls_are : calls ≡ place ∷ left
    pub at : slice_get mains place ≡ Some u
    pub others : AreCalled mains helpers false rest left

  pub placed : {node : TypedNode} {rest : List TypedNode} {calls : List ℕ} {u : Use} → node.part.use_of ≡ Some u → node.part.inside ≡ false → AreCalled mains helpers false (node ∷ rest) calls → IsPlaced u rest calls
  placed is outside (called.other also rest) = absurd (none-some _ (sym also ∙ is))
  placed {node = node} is outside (called.called {place} {places} {u = v} also at rest) =
      record {
        place = place;
        left = places;
        calls_are = refl;
        others = rest;
        at = subst (λ (b : Bool). slice_get (if b then helpers else mains) place ≡ Some v) outside at ∙ sym also ∙ is;
      }

abbrev Three : Type 0
Three = List Ground × List Effect × Ground

abbrev three_in : Ground-F Ground GroundField → Option Three
three_in (Ground-F.Fun ps es a) = Some (ps, es, a)
three_in other = None

function_same : (ps qs : List Ground) (es fs : List Effect) (a b : Ground) → known.Fun ps es a ≡ known.Fun qs fs b → ◌≡◌ {A = Three} (ps, es, a) (qs, fs, b)
function_same ps qs es fs a b e = same_some (sym (ap three_in (known.outs-Fun ps es a)) ∙ ap (λ g. three_in (out-Ground g)) e ∙ ap three_in (known.outs-Fun qs fs b))

same_first : {i j : ℕ} {is js : List ℕ} → i ∷ is ≡ j ∷ js → i ≡ j
same_first same = cc

module _ (f : Forms) (rise : IsStrictlySortedBy (slice_cmp nat_cmp) f.locals) (info : ℕ → Option Info) (tells : Tells f info) (mains helpers : List Use) (owner : ℕ) where
  pub record Turned (names : Context) (k : Kind) (ns ms : List ℕ) (t : Ground) : Type 0 where
    pub positions : List Ground
    pub asked : List Asked
    pub rule : Rule f info names k positions asked t
    pub parts : AreTyped f info names ns positions
    pub tails : code.HaveTypes f info ms asked

  no_tails : {names : Context} {k : Kind} {ns ms : List ℕ} {ts : List Ground} {t : Ground} → Rule f info names k ts [] t → ms ≡ [] → AreTyped f info names (ns ++ ms) ts → Turned names k ns ms t
  no_tails {names} {k} {ns} {ms} {ts} {t} by none all = record {
    positions = ts;
    asked = [];
    rule = by;
    parts = subst (λ ks. AreTyped f info names ks ts) (ap (λ r. ns ++ r) none ∙ append-nil ns) all;
    tails = subst (λ ks. code.HaveTypes f info ks []) (sym none) code.no_tail;
  }

  -- one position and one tail
  one_one : {names : Context} {k : Kind} {within : ℕ} {c d : Expr} {p q r : Pending} {ns ms : List ℕ} {a b t : Ground} → Rule f info names k (a ∷ []) ((names, b) ∷ []) t
      → AreLowered f owner within (c ∷ []) p ns q → AreLowered f owner within (d ∷ []) q ms r → AreTyped f info names (ns ++ ms) (a ∷ b ∷ []) → Turned names k ns ms t
  one_one by (low.more _ low.none) (low.more _ low.none) (code.more one (code.more next code.none)) =
      record { positions = _; asked = _; rule = by; parts = code.more one code.none; tails = code.tail next code.no_tail }

  function_turned : {names : Context} {ns ms : List ℕ} {ts : List Ground} {t : Ground} {i : ℕ} {u : Use} → IsWholeOf f info i u → u.type ≡ t → ts ≡ [] → ms ≡ [] → AreTyped f info names (ns ++ ms) ts → Turned names (kind.Function i) ns ms t
  function_turned {names} {ns} {ms} {i = i} w type no_type none all =
      no_tails (subst (λ a. Rule f info names (kind.Function i) [] [] a) (sym w.type ∙ type) (code.function w.whole w.is w.no_env w.has)) none (subst (λ us. AreTyped f info names (ns ++ ms) us) no_type all)

  call_turned : {names : Context} (own : List Effect) {ns ms : List ℕ} {ts : List Ground} {t : Ground} {i : ℕ} {u : Use} → IsWholeOf f info i u → u.type ≡ known.Fun ts own t → ms ≡ [] → AreTyped f info names (ns ++ ms) ts → Turned names (kind.Call i) ns ms t
  call_turned {names} own {ns} {ms} {ts = ts} {t = t} {i = i} w type none all =
      let same = function_same w.of.params ts w.of.effects own w.of.result t (sym w.type ∙ type) in
      no_tails (subst (λ us. Rule f info names (kind.Call i) us [] t) (ap (λ (three : Three). three.0) same) (subst (λ a. Rule f info names (kind.Call i) w.of.params [] a) (ap (λ (three : Three). three.2) same) (code.call w.whole w.is w.no_env w.has))) none all

  -- what an operator takes of what is to come
  pub record IsStep (k : Kind) (p q : Pending) (rest : List TypedNode) : Type 0 where
    pub types : q.types ≡ drop 1 p.types
    pub calls : AreCalled mains helpers false rest q.calls
    pub no_body : (label : ℕ) (xs : List ℕ) → k ≡ kind.Lambda label xs → ⊥

  module _ {functions : Named (Entry Ground)} {tables : List TableDecl} {names : Named Ground} {effects : EffectSet} (c : Context) (alike : AreNamesOf f names c) where
    seq_turned : {within : ℕ} {d₁ d₂ : Expr} {p q r : Pending} {ns ms : List ℕ} {ts : List Ground} {t : Ground} → rule.Rule functions tables names effects operator.Seq ts t
        → AreLowered f owner within (d₁ ∷ []) p ns q → AreLowered f owner within (d₂ ∷ []) q ms r → AreTyped f info c (ns ++ ms) ts → Turned c kind.Then ns ms t
    seq_turned rule.seq ns ms all = one_one code.then_next ns ms all

    if_turned : {within : ℕ} {d₁ d₂ d₃ : Expr} {p q r : Pending} {ns ms : List ℕ} {ts : List Ground} {t : Ground} → rule.Rule functions tables names effects operator.If ts t
        → AreLowered f owner within (d₁ ∷ []) p ns q → AreLowered f owner within (d₂ ∷ d₃ ∷ []) q ms r → AreTyped f info c (ns ++ ms) ts → Turned c (kind.Choose choice.If) ns ms t
    if_turned rule.branch (low.more _ low.none) (low.more _ (low.more _ low.none)) (code.more one (code.more next (code.more last code.none))) =
        record { positions = _; asked = _; rule = code.choose_if; parts = code.more one code.none; tails = code.tail next (code.tail last code.no_tail) }

    and_turned : {within : ℕ} {d₁ d₂ : Expr} {p q r : Pending} {ns ms : List ℕ} {ts : List Ground} {t : Ground} → rule.Rule functions tables names effects operator.Logic ts t
        → AreLowered f owner within (d₁ ∷ []) p ns q → AreLowered f owner within (d₂ ∷ []) q ms r → AreTyped f info c (ns ++ ms) ts → Turned c (kind.Choose choice.And) ns ms t
    and_turned rule.logic ns ms all = one_one code.choose_and ns ms all

    or_turned : {within : ℕ} {d₁ d₂ : Expr} {p q r : Pending} {ns ms : List ℕ} {ts : List Ground} {t : Ground} → rule.Rule functions tables names effects operator.Logic ts t
        → AreLowered f owner within (d₁ ∷ []) p ns q → AreLowered f owner within (d₂ ∷ []) q ms r → AreTyped f info c (ns ++ ms) ts → Turned c (kind.Choose choice.Or) ns ms t
    or_turned rule.logic ns ms all = one_one code.choose_or ns ms all

    where_turned : {within : ℕ} {d₁ d₂ : Expr} {p q r : Pending} {ns ms : List ℕ} {ts : List Ground} {t : Ground} → rule.Rule functions tables names effects operator.Where ts t
        → AreLowered f owner within (d₁ ∷ []) p ns q → AreLowered f owner within (d₂ ∷ []) q ms r → AreTyped f info c (ns ++ ms) ts → Turned c (kind.Choose choice.Where) ns ms t
    where_turned (rule.filter b) ns ms all = one_one (code.choose_where b) ns ms all

    name_turned : {x : Label} {k : ℕ} {ns ms : List ℕ} {ts : List Ground} {t : Ground} → IsLocal f k x → rule.Rule functions tables names effects (operator.Local x) ts t → ms ≡ [] → AreTyped f info c (ns ++ ms) ts → Turned c (kind.Name k) ns ms t
    name_turned {x = x} {k = k} of (rule.local is) none all = no_tails (code.name (named_alike f rise alike k x of ∙ is)) none all

    print_turned : {ns ms : List ℕ} {ts : List Ground} {t : Ground} → rule.Rule functions tables names effects operator.Print ts t → ms ≡ [] → AreTyped f info c (ns ++ ms) ts → Turned c kind.Print ns ms t
    print_turned (rule.print a) none all = no_tails code.print none all

    apply_turned : {ns ms : List ℕ} {ts : List Ground} {t : Ground} → rule.Rule functions tables names effects operator.Apply ts t → ms ≡ [] → AreTyped f info c (ns ++ ms) ts → Turned c kind.Apply ns ms t
    apply_turned (rule.apply local) none all = no_tails (code.apply _) none all

    no_parts : {g : Label} {ts : List Ground} {t : Ground} → rule.Rule functions tables names effects (operator.Function g) ts t → ts ≡ []
    no_parts (rule.function may) = refl

    table_turned : {n ty label : ℕ} {x : Label} {ns ms : List ℕ} {ts : List Ground} {t : Ground} (form : Form) → form_at f n ≡ Some form → form.kind ≡ kind.Reach block.TableRead label [] → slice_get f.types ty ≡ Some t → IsBlockLabel f owner n ty label
        → rule.Rule functions tables names effects (operator.Table x) ts t → ms ≡ [] → AreTyped f info c (ns ++ ms) ts → Turned c (kind.Reach block.TableRead label []) ns ms t
    table_turned {n} {ty} {label} {t = t} form there of has l (rule.table row rows scans) none all =
        let told = tells.blocks label n l.form form block.TableRead [] [] _ l.is l.node_is l.body_is there of refl tt (ap (slice_get f.types) l.ty_is ∙ has) in
        no_tails (code.reach refl told.2 tt) none all

    insert_turned : {within n ty label : ℕ} {x : Label} {d₁ : Expr} {p q : Pending} {ns ms : List ℕ} {ts : List Ground} {t : Ground} (form : Form) → form_at f n ≡ Some form → form.kind ≡ kind.Reach block.Insert label [] → form.parts ≡ ns → slice_get f.types ty ≡ Some t
        → IsBlockLabel f owner n ty label → rule.Rule functions tables names effects (operator.Insert x) ts t → AreLowered f owner within (d₁ ∷ []) p ns q → ms ≡ [] → AreTyped f info c (ns ++ ms) ts → Turned c (kind.Reach block.Insert label []) ns ms t
    insert_turned {n = n} {ty} {label} {t = t} form there of parts_are has l (rule.insert row rows writes) (low.more _ low.none) none (code.more (code.node part rs asked is type by inner tails) rest) =
        let told = tells.inserts label n _ l.form form part _ _ l.is l.node_is l.body_is there of parts_are is type (ap (slice_get f.types) l.ty_is ∙ has) in
        no_tails (code.insert told.2 refl) none (code.more (code.node part rs asked is type by inner tails) rest)

    at_head : {g h : Head} {ts : List Ground} {t : Ground} {o : Option Use} → By functions tables names effects h ts t o → Some g ≡ Some h → By functions tables names effects g ts t o
    at_head {ts = ts} {t = t} {o = o} by same = subst (λ h. By functions tables names effects h ts t o) (sym (same_some same)) by

    pub shell_turned : {l : Layer} {at : Span} {p q r s : Pending} {k : Kind} {h : Head} {ts : List Ground} {t : Ground} {n ty within : ℕ} {node : TypedNode} {rest : List TypedNode} (form : Form)
        → ((place : ℕ) (u : Use) → slice_get mains place ≡ Some u → IsWholeOf f info place u)
        → Shell f owner n ty l at p k q → head label_of expr_of l ≡ Some h → By functions tables names effects h ts t node.part.use_of → node.part.inside ≡ false → AreCalled mains helpers false (node ∷ rest) p.calls
        → form_at f n ≡ Some form → form.kind ≡ k → slice_get f.types ty ≡ Some t
        → AreLowered f owner within (parts_of l) q form.parts r → AreLowered f owner within (tails_of l) r form.tails s → AreTyped f info c (form.parts ++ form.tails) ts → Turned c k form.parts form.tails t
    shell_turned {l} {r = r} {s = s} {h = h} {ts = ts} {t = t} {within = within} form wholes (low.operation {o = o} is) has by outside calls there of typed ps qs all =
        let same : code.head_of o ≡ h = same_some (sym (op_head l o is) ∙ has) in
        let one = as_op (subst (λ h. rule.Rule functions tables names effects h ts t) (sym same) by.rule) (op_is o) in
        no_tails (code.operation one.rule) (as_none f owner (subst (λ es. AreLowered f owner within es r form.tails s) (op_tails l o is) qs)).0 all
    shell_turned {node = node} form wholes (low.name {x = x} {k = k} local) has by outside calls there of typed ps qs all = name_turned {x = x} {k = k} local (at_head by has).rule (as_none f owner qs).0 all
    shell_turned {node = node} form wholes (low.function {i = i} is) has by outside calls there of typed ps qs all =
        let b = at_head by has in
        let at = placed mains helpers b.is.1 outside calls in
        let same : at.place ≡ i = same_first (sym at.calls_are ∙ is) in
        function_turned (subst (λ i. IsWholeOf f info i b.is.0) same (wholes at.place b.is.0 at.at)) b.is.2 (no_parts b.rule) (as_none f owner qs).0 all
    shell_turned {node = node} form wholes (low.call {i = i} is) has by outside calls there of typed ps qs all =
        let b = at_head by has in
        let at = placed mains helpers b.is.1 outside calls in
        let same : at.place ≡ i = same_first (sym at.calls_are ∙ is) in
        call_turned (effects_of effects) (subst (λ i. IsWholeOf f info i b.is.0) same (wholes at.place b.is.0 at.at)) b.is.2 (as_none f owner qs).0 all
    shell_turned form wholes low.apply has by outside calls there of typed ps qs all = apply_turned (at_head by has).rule (as_none f owner qs).0 all
    shell_turned form wholes (low.bind is) has by outside calls there of typed ps qs all = absurd (none-some _ has)
    shell_turned form wholes low.then_next has by outside calls there of typed ps qs all = seq_turned (at_head by has).rule ps qs all
    shell_turned form wholes low.choose_if has by outside calls there of typed ps qs all = if_turned (at_head by has).rule ps qs all
    shell_turned form wholes low.choose_and has by outside calls there of typed ps qs all = and_turned (at_head by has).rule ps qs all
    shell_turned form wholes low.choose_or has by outside calls there of typed ps qs all = or_turned (at_head by has).rule ps qs all
    shell_turned form wholes low.choose_where has by outside calls there of typed ps qs all = where_turned (at_head by has).rule ps qs all
    shell_turned form wholes low.print has by outside calls there of typed ps qs all = print_turned (at_head by has).rule (as_none f owner qs).0 all
    shell_turned form wholes (low.switch are is) has by outside calls there of typed ps qs all = absurd (none-some _ has)
    shell_turned form wholes (low.for_list is) has by outside calls there of typed ps qs all = absurd (none-some _ has)
    shell_turned form wholes (low.for_table is) has by outside calls there of typed ps qs all = absurd (none-some _ has)
    shell_turned form wholes (low.table label) has by outside calls there of typed ps qs all = table_turned form there of typed label (at_head by has).rule (as_none f owner qs).0 all
    shell_turned form wholes (low.insert label touched) has by outside calls there of typed ps qs all = insert_turned form there of refl typed label (at_head by has).rule ps (as_none f owner qs).0 all
    shell_turned form wholes (low.query label kept) has by outside calls there of typed ps qs all = absurd (none-some _ has)
    shell_turned form wholes (low.update label kept touched) has by outside calls there of typed ps qs all = absurd (none-some _ has)
    shell_turned form wholes (low.delete label kept touched) has by outside calls there of typed ps qs all = absurd (none-some _ has)

    pub shell_step : {l : Layer} {at : Span} {p q : Pending} {k : Kind} {h : Head} {ts : List Ground} {t : Ground} {n ty : ℕ} {node : TypedNode} {rest : List TypedNode}
        → Shell f owner n ty l at p k q → head label_of expr_of l ≡ Some h → By functions tables names effects h ts t node.part.use_of → node.part.inside ≡ false → AreCalled mains helpers false (node ∷ rest) p.calls → IsStep k p q rest
    shell_step {ts = ts} {t = t} {node = node} (low.operation {o = o} is) has by outside calls =
        let one = as_op (subst (λ h. rule.Rule functions tables names effects h ts t) (same_some (sym has ∙ op_head _ o is)) by.rule) (op_is o) in
        record { types = refl; calls = skipped mains helpers {node = node} (op_unused functions tables names effects ts t node.part.use_of o (subst (λ h. UseIs functions tables names effects h ts t node.part.use_of) (same_some (sym has ∙ op_head _ o is)) by.is)) calls; no_body = λ label xs same. cc }
    shell_step (low.name is) has by outside calls = record { types = refl; calls = skipped mains helpers (at_head by has).is calls; no_body = λ label xs same. cc }
    shell_step (low.function {rest = left} is) has by outside calls =
        let at = placed mains helpers (at_head by has).is.1 outside calls in
        record { types = refl; calls = subst (AreCalled mains helpers false _) (sym (ap (drop 1) at.calls_are)) at.others; no_body = λ label xs same. cc }
    shell_step (low.call {rest = left} is) has by outside calls =
        let at = placed mains helpers (at_head by has).is.1 outside calls in
        record { types = refl; calls = subst (AreCalled mains helpers false _) (sym (ap (drop 1) at.calls_are)) at.others; no_body = λ label xs same. cc }
    shell_step low.apply has by outside calls = record { types = refl; calls = skipped mains helpers (at_head by has).is calls; no_body = λ label xs same. cc }
    shell_step low.then_next has by outside calls = record { types = refl; calls = skipped mains helpers (at_head by has).is calls; no_body = λ label xs same. cc }
    shell_step low.choose_if has by outside calls = record { types = refl; calls = skipped mains helpers (at_head by has).is calls; no_body = λ label xs same. cc }
    shell_step low.choose_and has by outside calls = record { types = refl; calls = skipped mains helpers (at_head by has).is calls; no_body = λ label xs same. cc }
    shell_step low.choose_or has by outside calls = record { types = refl; calls = skipped mains helpers (at_head by has).is calls; no_body = λ label xs same. cc }
    shell_step low.choose_where has by outside calls = record { types = refl; calls = skipped mains helpers (at_head by has).is calls; no_body = λ label xs same. cc }
    shell_step low.print has by outside calls = record { types = refl; calls = skipped mains helpers (at_head by has).is calls; no_body = λ label xs same. cc }
    shell_step (low.table label) has by outside calls = record { types = refl; calls = skipped mains helpers (at_head by has).is calls; no_body = λ label xs same. cc }
    shell_step (low.insert label touched) has by outside calls = record { types = refl; calls = skipped mains helpers (at_head by has).is calls; no_body = λ label xs same. cc }
    shell_step (low.bind is) has by outside calls = absurd (none-some _ has)
    shell_step (low.switch are is) has by outside calls = absurd (none-some _ has)
    shell_step (low.for_list is) has by outside calls = absurd (none-some _ has)
    shell_step (low.for_table is) has by outside calls = absurd (none-some _ has)
    shell_step (low.query label kept) has by outside calls = absurd (none-some _ has)
    shell_step (low.update label kept touched) has by outside calls = absurd (none-some _ has)
    shell_step (low.delete label kept touched) has by outside calls = absurd (none-some _ has)
