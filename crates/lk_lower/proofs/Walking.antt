-- Nodes and lambdas as a walk in code makes them.
use Rattle.std.proofs.Common.{◌≡◌, refl, sym, ap, subst, ◌∙◌, ℕ, ◌+◌, ◌<◌, List, [], ◌∷◌, ◌++◌, append_assoc, append-nil, get_or, length, length-append, map, slice_get, take, Option, Some, None, arith}
use Rattle.std.proofs.lemmas.List.{map-append, take_more}
use Rattle.std.specs.Borrow.{Bor}
use Rattle.std.proofs.Math.ListN.{set, length-set}
use Rattle.std.proofs.Math.Seq.{set-append_seam}
use Rattle.lk_ast.specs.Layers.{before, layer, statement_node}
use Rattle.lk_ast.specs.declared.expression.Expr.{Expr}
use Rattle.lk_ast.specs.declared.expression.LambdaExpr.{LambdaExpr}
use Rattle.lk_ast.specs.declared.expression.Node.{out-Node}
use Rattle.lk_ast.specs.declared.expression.Node.TheOpen.{Node-F}
use Rattle.lk_ast.specs.declared.expression.Node.TheVariants as node
use Rattle.lk_ast.specs.declared.place.Loc.{Loc}
use Rattle.lk_ast.specs.declared.place.Span.{Span}
use Rattle.lk_ast.specs.declared.place.Word.{Word}
use Rattle.lk_ast.specs.declared.statements.Statement.{Statement}
use Rattle.lk_evaluation.specs.Syntax.{parts_of}
use Rattle.lk_index.specs.Free.{captured}
use Rattle.lk_ir.specs.declared.nodes.Body.{Body}
use Rattle.lk_ir.specs.declared.nodes.Form.{Form}
use Rattle.lk_ir.specs.declared.nodes.Forms.{Forms}
use Rattle.lk_ir.specs.declared.nodes.Kind.{Kind}
use Rattle.lk_ir.specs.declared.nodes.Kind.TheVariants as kind
use Rattle.lk_ir.specs.declared.nodes.LabelForm.{LabelForm}
use Rattle.lk_lower.proofs.Growing.{begins_itself, filled, grows_then, had, lambda_made, one_more, reserved, still_there, there}
use Rattle.lk_lower.proofs.Shaping.{learns_grows, locals_are}
use Rattle.lk_lower.specs.Growing.{AllLower, Begins, Grows, Has, Lowers, State}
use Rattle.lk_lower.specs.Lowering as low
use Rattle.lk_lower.specs.Lowering.{IsBodyLabel, Shell, TypeIs, tails_of, text_of}
use Rattle.lk_lower.specs.Steps.{AreNamed, IsBody, IsOwnType, IsShaped, Learns, LowersBefore, Opens, OpensLambda, form_of, past, with_form, with_label, with_node, with_types}
use Rattle.lk_lower.specs.Walked.{shown}
use Rattle.lk_types.specs.declared.ground.Ground.{Ground}

-- ---- the place of a node

module _ (owner within n ty : ℕ) (e : Expr) (k_is : Kind) (hole : Form) (old learnt shaped new : State) where
  -- the number of the next type, and what the node is
  pub opens : n ≡ length old.nodes → IsOwnType old.pending learnt ty → Learns old learnt → IsShaped owner n ty (layer e) learnt k_is shaped → new ≡ with_node hole shaped → Opens owner within old new e n ty k_is
  opens number own learns is step =
      let first : Grows old learnt = learns_grows old learnt learns in
      let second : Grows learnt shaped = is.grows in
      let third : Grows shaped (with_node hole shaped) = record { locals = refl; own = hole ∷ []; is = refl; labels = ([], sym (append-nil shaped.labels)); types = ([], sym (append-nil shaped.types)); tables = ([], sym (append-nil shaped.tables)) } in
      let later : (f : Forms) → Has (with_node hole shaped) f → Has shaped f = λ f has. record { locals = has.locals; labels = has.labels; types = has.types; tables = has.tables } in
      let nodes : shaped.nodes ≡ old.nodes = is.nodes ∙ ap (λ (s : State). s.nodes) learns.1 in
      let pending : learnt.pending ≡ old.pending = ap (λ (s : State). s.pending) learns.1 in
      subst (λ new. Opens owner within old new e n ty k_is) (sym step) (record {
        grows = grows_then old learnt (with_node hole shaped) first (grows_then learnt shaped (with_node hole shaped) second third);
        hole = hole;
        nodes = ap (λ (xs : List Form). xs ++ hole ∷ []) nodes;
        number = number;
        type = λ f has. (own.type, still_there learnt.types f.types ty own.type (had learnt shaped f second (later f has)).types own.there, own.next);
        shell = λ f has. subst (λ p. Shell f owner n ty (layer e) e.span p k_is (with_node hole shaped).pending) pending (is.shell f e.span (later f has));
      })

-- ---- nodes

-- the state behind a kept place, in the words of the lemmas on growing
is_reserved : (old first : State) (hole : Form) → first.nodes ≡ old.nodes ++ hole ∷ [] → first ≡ reserved old hole first
is_reserved old first hole nodes = ap (λ (xs : List Form). record first { nodes = xs }) nodes

module _ (owner within n ty : ℕ) (old first between new : State) (e : Expr) (k_is : Kind) (parts tails : List ℕ) where
  pub node_made : Opens owner within old first e n ty k_is → old.pending.next ≡ length old.nodes → new.pending.next ≡ length new.nodes
      → AllLower owner within first between (parts_of (layer e)) parts → AllLower owner within between new (tails_of (layer e)) tails
      → Lowers owner within old (with_form new n (form_of within e.span ty k_is parts tails)) e n
  node_made opens here behind lowers ends =
      let form = form_of within e.span ty k_is parts tails in
      let same : first ≡ reserved old opens.hole first = is_reserved old first opens.hole opens.nodes in
      subst (λ k. Lowers owner within old (with_form new k form) e k) (sym opens.number)
      (filled owner within old first between new opens.hole form e (subst (Grows old) same opens.grows) here behind refl refl
      (λ f has. opens.type f (had first new f (grows_then first between new lowers.grows ends.grows) has))
      (λ f has. subst (λ k. Shell f owner k ty (layer e) e.span old.pending k_is first.pending) opens.number (opens.shell f (had first new f (grows_then first between new lowers.grows ends.grows) has)))
      (subst (λ s. AllLower owner within s between (parts_of (layer e)) parts) same lowers) ends)

  -- the node's place is there
  pub place_there : Opens owner within old first e n ty k_is → AllLower owner within first between (parts_of (layer e)) parts → AllLower owner within between new (tails_of (layer e)) tails → n < length new.nodes
  place_there opens lowers ends =
      let one : length first.nodes ≡ length old.nodes + 1 = ap length opens.nodes ∙ length-append old.nodes (opens.hole ∷ []) in
      let two : length between.nodes ≡ length first.nodes + length lowers.grows.own = ap length lowers.grows.is ∙ length-append first.nodes lowers.grows.own in
      let three : length new.nodes ≡ length between.nodes + length ends.grows.own = ap length ends.grows.is ∙ length-append between.nodes ends.grows.own in
      let number : n ≡ length old.nodes = opens.number in
      omega arith

-- ---- the first statement of a block, whose node is filled before the rest is lowered

module _ (owner within n ty : ℕ) (old first between : State) (e : Expr) (k_is : Kind) (parts : List ℕ) where
  pub statement_there : Opens owner within old first e n ty k_is → AllLower owner within first between (parts_of (layer e)) parts → n < length between.nodes
  statement_there opens lowers =
      let one : length first.nodes ≡ length old.nodes + 1 = ap length opens.nodes ∙ length-append old.nodes (opens.hole ∷ []) in
      let two : length between.nodes ≡ length first.nodes + length lowers.grows.own = ap length lowers.grows.is ∙ length-append first.nodes lowers.grows.own in
      let number : n ≡ length old.nodes = opens.number in
      omega arith

  -- a place that is there may be filled before or behind what comes later
  filled_before : (form : Form) (more : List Form) → Opens owner within old first e n ty k_is → AllLower owner within first between (parts_of (layer e)) parts → set (between.nodes ++ more) n form ≡ set between.nodes n form ++ more
  filled_before form more opens lowers =
      let own = lowers.grows.own in
      let whole : between.nodes ≡ old.nodes ++ opens.hole ∷ own = lowers.grows.is ∙ ap (λ xs. xs ++ own) opens.nodes ∙ append_assoc old.nodes (opens.hole ∷ []) own in
      ap (λ k. set (between.nodes ++ more) k form) opens.number
      ∙ ap (λ xs. set (xs ++ more) (length old.nodes) form) whole
      ∙ ap (λ xs. set xs (length old.nodes) form) (append_assoc old.nodes (opens.hole ∷ own) more)
      ∙ set-append_seam old.nodes opens.hole (own ++ more) form
      ∙ sym (append_assoc old.nodes (form ∷ own) more)
      ∙ ap (λ xs. xs ++ more) (sym (set-append_seam old.nodes opens.hole own form))
      ∙ ap (λ xs. set xs (length old.nodes) form ++ more) (sym whole)
      ∙ ap (λ k. set between.nodes k form ++ more) (sym opens.number)

  pub statement_made : (tail : ℕ) (mid : State) → Opens owner within old first e n ty k_is → old.pending.next ≡ length old.nodes → between.pending.next ≡ length between.nodes
      → AllLower owner within first between (parts_of (layer e)) parts → tail ≡ between.pending.next → mid ≡ with_form between n (form_of within e.span ty k_is parts (tail ∷ [])) → LowersBefore owner within old mid e
  statement_made tail mid opens here behind lowers tail_is mid_is rest is later k one =
      let form = form_of within e.span ty k_is parts (tail ∷ []) in
      let filled_one : Lowers owner within (with_form between n form) later rest k = subst (λ s. Lowers owner within s later rest k) mid_is one in
      let more = filled_one.grows.own in
      let new : State = record later { nodes = between.nodes ++ more } in
      let long : length (set between.nodes n form) ≡ length between.nodes = length-set between.nodes n form in
      let all : set (between.nodes ++ more) n form ≡ later.nodes = filled_before form more opens lowers ∙ sym filled_one.grows.is in
      let same_number : k ≡ tail = filled_one.number ∙ long ∙ sym behind ∙ sym tail_is in
      let ends : AllLower owner within between new (rest ∷ []) (k ∷ []) = record {
        grows = record { locals = filled_one.grows.locals; own = more; is = refl; labels = filled_one.grows.labels; types = filled_one.grows.types; tables = filled_one.grows.tables };
        stands = λ f front back nodes same has. low.more (filled_one.stands f front back nodes (same ∙ sym long) (record { locals = has.locals; labels = has.labels; types = has.types; tables = has.tables })) low.none;
      } in
      let behind_all : new.pending.next ≡ length new.nodes = filled_one.next ∙ ap length (sym all) ∙ length-set (between.nodes ++ more) n form in
      let made : Lowers owner within old (with_form new n (form_of within e.span ty k_is parts (k ∷ []))) e n =
      node_made owner within n ty old first between new e k_is parts (k ∷ []) opens here behind_all lowers (subst (λ es. AllLower owner within between new es (k ∷ [])) (sym is) ends) in
      let made_here : Lowers owner within old (with_form new n form) e n = subst (λ j. Lowers owner within old (with_form new n (form_of within e.span ty k_is parts (j ∷ []))) e n) same_number made in
      subst (Lowers owner within old later e) opens.number
      (subst (λ (xs : List Form). Lowers owner within old (record later { nodes = xs }) e n) all made_here)

-- ---- lambdas

pub lambda_lowered : (owner within label n : ℕ) (old first new : State) (e : Expr) (l : LambdaExpr) (k : ℕ) → n ≡ length old.nodes → old.pending.next ≡ length old.nodes → OpensLambda owner within old first e.span l label → layer e ≡ Node-F.Lambda l
    → Lowers owner label first new l.body k → Lowers owner within old new e n
lambda_lowered owner within label n old first new e l k number here opens is inner =
    let same : first ≡ reserved old opens.form first = is_reserved old first opens.form opens.nodes in
    let body : Lowers owner old.pending.label (reserved old opens.form first) new l.body opens.body.root =
    subst (λ label. Lowers owner label (reserved old opens.form first) new l.body opens.body.root) opens.label_is
    (subst (λ s. Lowers owner label s new l.body opens.body.root) same
    (subst (Lowers owner label first new l.body) (inner.number ∙ sym opens.root) inner)) in
    subst (Lowers owner within old new e) (sym number)
    (lambda_made owner within old first new opens.form e l opens.names opens.body (subst (Grows old) same opens.grows) here is opens.at opens.within_is
    (λ f has. opens.type f (had first new f inner.grows has)) opens.kind_is (λ f has. opens.locals f (had first new f inner.grows has)) opens.no_part opens.no_tail
    (λ f has. opens.labelled f (had first new f inner.grows has)) opens.pending body)

-- ---- expressions one after another

pub one_behind : (owner within : ℕ) (old mid new : State) (es more : List Expr) (ns numbers : List ℕ) (e : Expr) (n : ℕ) → AllLower owner within old mid es ns → Lowers owner within mid new e n → more ≡ es ++ e ∷ [] → numbers ≡ ns ++ n ∷ []
    → AllLower owner within old new more numbers
one_behind owner within old mid new es more ns numbers e n are one more_is numbers_are =
    subst (λ es. AllLower owner within old new es numbers) (sym more_is) (subst (AllLower owner within old new (es ++ e ∷ [])) (sym numbers_are) (one_more owner within old mid new es ns e n are one))

-- the label of a function or a lambda is there
pub body_labelled : (f : Forms) (s : State) (one : LabelForm) (place : Loc) (names : List (List ℕ)) (params : List Word) (root : ℕ) (body : Body) → s.pending.label ≡ length s.labels → Begins (s.labels ++ one ∷ []) f.labels → f.locals ≡ s.locals → one.body ≡ Some body
    → IsBody s.locals place names params root body → IsBodyLabel f one.owner one.node one.ty s.pending.label place names params body
body_labelled f s one place names params root body long begins same has_body is = record {
  form = one;
  is = ap (slice_get f.labels) long ∙ still_there (s.labels ++ one ∷ []) f.labels (length s.labels) one begins (there s.labels [] one);
  owner_is = refl;
  ty_is = refl;
  node_is = refl;
  body_is = has_body;
  place_is = is.place_is;
  names_are = locals_are f s.locals body.names names same is.names_are;
  params_are = locals_are f s.locals body.params (map text_of params) same is.params_are;
}

-- the label of a lambda
abbrev pub lambda_label : ℕ → ℕ → ℕ → Body → LabelForm
lambda_label owner ty number body = record { owner = owner; ty = ty; node = Some number; body = Some body }

module _ (owner within : ℕ) (span : Span) (l : LambdaExpr) (label ty number : ℕ) (names : List ℕ) (body : Body) where
  abbrev pub node_form : Form
  node_form = form_of within span ty (kind.Lambda label names) [] []

  opened_with : (types : List Ground) (old : State) → old.pending.label ≡ length old.labels → old.pending.next ≡ length old.nodes → label ≡ old.pending.label → number ≡ old.pending.next → IsOwnType old.pending (with_types types old) ty
      → IsBody old.locals l.place (captured l) l.params (number + 1) body → AreNamed old.locals names (captured l)
      → OpensLambda owner within old (past 1 0 (with_node node_form (with_label (lambda_label owner ty number body) (with_types types old)))) span l label
  opened_with types old long here label_is number_is own is named =
      let place : number ≡ length old.nodes = number_is ∙ here in
      record {
        grows = record { locals = refl; own = node_form ∷ []; is = refl; labels = (lambda_label owner ty number body ∷ [], refl); types = (types, refl); tables = begins_itself old.tables };
        form = node_form;
        names = names;
        body = body;
        nodes = refl;
        label_is = label_is;
        at = refl;
        within_is = refl;
        kind_is = ap (λ (k : ℕ). kind.Lambda k names) label_is;
        no_part = refl;
        no_tail = refl;
        root = is.root_is ∙ ap (λ (k : ℕ). k + 1) place ∙ sym (length-append old.nodes (node_form ∷ []));
        pending = refl;
        type = λ f has. (own.type, still_there (old.types ++ types) f.types ty own.type has.types own.there, own.next);
        locals = λ f has. locals_are f old.locals names (captured l) has.locals named;
        labelled = λ f has. subst (λ (n : ℕ). IsBodyLabel f owner (Some n) ty old.pending.label l.place (captured l) l.params body) place
            (body_labelled f old (lambda_label owner ty number body) l.place (captured l) l.params (number + 1) body long has.labels has.locals refl is);
      }

  pub lambda_opened : (old learnt new : State) → old.pending.label ≡ length old.labels → old.pending.next ≡ length old.nodes → label ≡ old.pending.label → number ≡ old.pending.next → IsOwnType old.pending learnt ty → Learns old learnt
      → IsBody old.locals l.place (captured l) l.params (number + 1) body → AreNamed old.locals names (captured l)
      → new ≡ past 1 0 (with_node node_form (with_label (lambda_label owner ty number body) learnt)) → OpensLambda owner within old new span l label
  lambda_opened old learnt new long here label_is number_is own learns is named step =
      subst (λ (new : State). OpensLambda owner within old new span l label) (sym (step ∙ ap (λ (s : State). past 1 0 (with_node node_form (with_label (lambda_label owner ty number body) s))) learns.1))
      (opened_with learns.0 old long here label_is number_is (subst (λ (s : State). IsOwnType old.pending s ty) learns.1 own) is named)

-- the next expressions of a list
pub shown_more : (es : List (Bor Expr)) (i : ℕ) (e : Bor Expr) → i < length es → e ≡ get_or es i e → shown (take (i + 1) es) ≡ shown (take i es) ++ e.now ∷ []
shown_more es i e below is = ap shown (take_more es i e below ∙ ap (λ (y : Bor Expr). take i es ++ y ∷ []) (sym is)) ∙ map-append (λ (e : Bor Expr). e.now) (take i es) (e ∷ [])

-- the rest of a block is the tail of its first statement
pub statement_tail : (s : Statement) (e rest : Expr) → e ≡ before s rest → tails_of (layer e) ≡ rest ∷ []
statement_tail s e rest is = ap (λ (e : Expr). tails_of (layer e)) is ∙ by_name s.name s.expr
  where
    by_name : (name : Option Word) (bound : Expr) → tails_of (out-Node (statement_node name bound rest)) ≡ rest ∷ []
    by_name None bound = ap tails_of (node.outs-Seq bound rest)
    by_name (Some x) bound = ap tails_of (node.outs-Var x bound rest)
