-- Tables that grow: what a walk over an expression makes of them, in the order of the text. A node's place is reserved before its
-- children are walked, and filled behind them; labels, types and tables only grow at their end.
use Rattle.std.proofs.Common.{◌≡◌, refl, sym, ap, subst, ◌∙◌, ℕ, ◌+◌, List, [], ◌∷◌, ◌++◌, Some, length, append_assoc, append-nil, length-append, slice_get}
use Rattle.std.proofs.Math.ListN.{set, length-set}
use Rattle.std.proofs.Math.Seq.{set-append_seam}
use Rattle.lk_ast.specs.Layers.{layer}
use Rattle.lk_ast.specs.declared.expression.Expr.{Expr}
use Rattle.lk_ast.specs.declared.expression.LambdaExpr.{LambdaExpr}
use Rattle.lk_ast.specs.declared.expression.Node.TheOpen.{Node-F}
use Rattle.lk_evaluation.specs.Syntax.{parts_of}
use Rattle.lk_ground_types.proofs.Entering.{front_there}
use Rattle.lk_index.specs.Free.{captured}
use Rattle.lk_ir.specs.declared.nodes.Body.{Body}
use Rattle.lk_ir.specs.declared.nodes.Form.{Form}
use Rattle.lk_ir.specs.declared.nodes.Forms.{Forms}
use Rattle.lk_ir.specs.declared.nodes.Kind.TheVariants as kind
use Rattle.lk_lower.specs.Growing.{AllLower, Begins, Grows, Has, Lowers, State}
use Rattle.lk_lower.specs.Steps.{with_form}
use Rattle.lk_lower.specs.Lowering as low
use Rattle.lk_lower.specs.Lowering.{Pending, Shell, IsLowered, AreLocals, AreLowered, IsBodyLabel, TypeIs, tails_of, behind_label}

-- ---- lists that begin with others

abbrev pub begins_itself : {A : Type 0} (xs : List A) → Begins xs xs
begins_itself xs = ([], sym (append-nil xs))

abbrev pub begins_then : {A : Type 0} (xs ys zs : List A) → Begins xs ys → Begins ys zs → Begins xs zs
begins_then xs ys zs one two = (one.0 ++ two.0, two.1 ∙ ap (λ r. r ++ two.0) one.1 ∙ append_assoc xs one.0 two.0)

pub there : {A : Type 0} (front back : List A) (x : A) → slice_get (front ++ x ∷ back) (length front) ≡ Some x
there [] back x = refl
there (y ∷ front) back x = there front back x

pub still_there : {A : Type 0} (xs ys : List A) (k : ℕ) (x : A) → Begins xs ys → slice_get xs k ≡ Some x → slice_get ys k ≡ Some x
still_there xs ys k x begins is = ap (λ all. slice_get all k) begins.1 ∙ front_there xs begins.0 k x is

-- ---- states

abbrev pub grows_itself : (s : State) → Grows s s
grows_itself s = record { locals = refl; own = []; is = sym (append-nil s.nodes); labels = begins_itself s.labels; types = begins_itself s.types; tables = begins_itself s.tables }

abbrev pub grows_then : (a b c : State) → Grows a b → Grows b c → Grows a c
grows_then a b c one two = record {
  locals = two.locals ∙ one.locals;
  own = one.own ++ two.own;
  is = two.is ∙ ap (λ r. r ++ two.own) one.is ∙ append_assoc a.nodes one.own two.own;
  labels = begins_then a.labels b.labels c.labels one.labels two.labels;
  types = begins_then a.types b.types c.types one.types two.types;
  tables = begins_then a.tables b.tables c.tables one.tables two.tables;
}

pub had : (a b : State) (f : Forms) → Grows a b → Has b f → Has a f
had a b f grows has = record {
  locals = has.locals ∙ grows.locals;
  labels = begins_then a.labels b.labels f.labels grows.labels has.labels;
  types = begins_then a.types b.types f.types grows.types has.types;
  tables = begins_then a.tables b.tables f.tables grows.tables has.tables;
}

-- with a node's place reserved; labels, types and tables, and what is to come, may be others by then
abbrev pub reserved : State → Form → State → State
reserved old hole inside = record { nodes = old.nodes ++ hole ∷ []; labels = inside.labels; locals = inside.locals; types = inside.types; tables = inside.tables; pending = inside.pending }

module _ (owner : ℕ) where
  pub begins : (within : ℕ) (s : State) → AllLower owner within s s [] []
  begins within s = record { grows = grows_itself s; stands = λ f front back is same has. low.none }

  one_behind : {f : Forms} {within : ℕ} {es : List Expr} {p q r : Pending} {ns : List ℕ} (e : Expr) (n : ℕ) → AreLowered f owner within es p ns q → IsLowered f owner within e q n r → AreLowered f owner within (es ++ e ∷ []) p (ns ++ n ∷ []) r
  one_behind e n low.none one = low.more one low.none
  one_behind e n (low.more first rest) one = low.more first (one_behind e n rest one)

  longer : (front : List Form) (a b : State) (g : Grows a b) → length front ≡ length a.nodes → length (front ++ g.own) ≡ length b.nodes
  longer front a b g same = length-append front g.own ∙ ap (λ k. k + length g.own) same ∙ sym (length-append a.nodes g.own) ∙ ap length (sym g.is)

  -- one more expression
  pub one_more : (within : ℕ) (old mid new : State) (es : List Expr) (ns : List ℕ) (e : Expr) (n : ℕ) → AllLower owner within old mid es ns → Lowers owner within mid new e n → AllLower owner within old new (es ++ e ∷ []) (ns ++ n ∷ [])
  one_more within old mid new es ns e n are one = record {
    grows = grows_then old mid new are.grows one.grows;
    stands = λ f front back is same has.
        one_behind e n
        (are.stands f front (one.grows.own ++ back) (is ∙ ap (λ xs. front ++ xs) (append_assoc are.grows.own one.grows.own back)) same (had mid new f one.grows has))
        (one.stands f (front ++ are.grows.own) back (is ∙ ap (λ xs. front ++ xs) (append_assoc are.grows.own one.grows.own back) ∙ sym (append_assoc front are.grows.own (one.grows.own ++ back))) (longer front old mid are.grows same) has);
  }

  module _ (within : ℕ) (old inside between new : State) (hole form : Form) (e : Expr) where
    pub filled : Grows old (reserved old hole inside) → old.pending.next ≡ length old.nodes → new.pending.next ≡ length new.nodes → form.at ≡ e.span → form.within ≡ within
        → ((f : Forms) → Has new f → TypeIs f form.ty old.pending.types)
        → ((f : Forms) → Has new f → Shell f owner (length old.nodes) form.ty (layer e) e.span old.pending form.kind inside.pending)
        → AllLower owner within (reserved old hole inside) between (parts_of (layer e)) form.parts → AllLower owner within between new (tails_of (layer e)) form.tails
        → Lowers owner within old (with_form new (length old.nodes) form) e (length old.nodes)
    filled first here behind at in_it type shell parts tails =
        let own = parts.grows.own ++ tails.grows.own in
        let all = grows_then (reserved old hole inside) between new parts.grows tails.grows in
        record {
          grows = record {
            locals = all.locals ∙ first.locals;
            own = form ∷ own;
            is = ap (λ xs. set xs (length old.nodes) form) (all.is ∙ append_assoc old.nodes (hole ∷ []) own) ∙ set-append_seam old.nodes hole own form;
            labels = begins_then old.labels inside.labels new.labels first.labels all.labels;
            types = begins_then old.types inside.types new.types first.types all.types;
            tables = begins_then old.tables inside.tables new.tables first.tables all.tables;
          };
          number = refl;
          next = behind ∙ sym (length-set new.nodes (length old.nodes) form);
          stands = λ f front back is same has.
              let has_new : Has new f = record { locals = has.locals; labels = has.labels; types = has.types; tables = has.tables } in
              let whole : f.nodes ≡ (front ++ form ∷ []) ++ (parts.grows.own ++ (tails.grows.own ++ back)) = is ∙ ap (λ xs. front ++ form ∷ xs) (append_assoc parts.grows.own tails.grows.own back) ∙ sym (append_assoc front (form ∷ []) (parts.grows.own ++ (tails.grows.own ++ back))) in
              let long : length (front ++ form ∷ []) ≡ length (old.nodes ++ hole ∷ []) = length-append front (form ∷ []) ∙ ap (λ k. k + 1) same ∙ sym (length-append old.nodes (hole ∷ [])) in
              low.node form inside.pending between.pending (sym here)
              (ap (λ xs. slice_get xs (length old.nodes)) is ∙ ap (slice_get (front ++ form ∷ (own ++ back))) (sym same) ∙ there front (own ++ back) form)
              at in_it (type f has_new) (shell f has_new)
              (parts.stands f (front ++ form ∷ []) (tails.grows.own ++ back) whole long (had between new f tails.grows has_new))
              (tails.stands f ((front ++ form ∷ []) ++ parts.grows.own) back (whole ∙ sym (append_assoc (front ++ form ∷ []) parts.grows.own (tails.grows.own ++ back))) (longer (front ++ form ∷ []) (reserved old hole inside) between parts.grows long) has_new);
        }

  -- A lambda: its node is whole before its body is walked, since its body is the next node; so is its label.
  module _ (within : ℕ) (old inside new : State) (form : Form) (e : Expr) (l : LambdaExpr) (xs : List ℕ) (body : Body) where
    pub lambda_made : Grows old (reserved old form inside) → old.pending.next ≡ length old.nodes → layer e ≡ Node-F.Lambda l → form.at ≡ e.span → form.within ≡ within
        → ((f : Forms) → Has new f → TypeIs f form.ty old.pending.types)
        → form.kind ≡ kind.Lambda old.pending.label xs → ((f : Forms) → Has new f → AreLocals f xs (captured l)) → form.parts ≡ [] → form.tails ≡ []
        → ((f : Forms) → Has new f → IsBodyLabel f owner (Some (length old.nodes)) form.ty old.pending.label l.place (captured l) l.params body)
        → inside.pending ≡ behind_label old.pending
        → Lowers owner old.pending.label (reserved old form inside) new l.body body.root
        → Lowers owner within old new e (length old.nodes)
    lambda_made first here is_lambda at in_it type kind_is locals no_part no_tail label pending inner =
        record {
          grows = grows_then old (reserved old form inside) new (record { locals = first.locals; own = form ∷ []; is = refl; labels = first.labels; types = first.types; tables = first.tables }) inner.grows;
          number = refl;
          next = inner.next;
          stands = λ f front back is same has.
              let whole : f.nodes ≡ (front ++ form ∷ []) ++ (inner.grows.own ++ back) = is ∙ sym (append_assoc front (form ∷ []) (inner.grows.own ++ back)) in
              let long : length (front ++ form ∷ []) ≡ length (old.nodes ++ form ∷ []) = length-append front (form ∷ []) ∙ ap (λ k. k + 1) same ∙ sym (length-append old.nodes (form ∷ [])) in
              low.lambda form l xs body is_lambda (sym here)
              (ap (λ xs. slice_get xs (length old.nodes)) is ∙ ap (slice_get (front ++ form ∷ (inner.grows.own ++ back))) (sym same) ∙ there front (inner.grows.own ++ back) form)
              at in_it (type f has) kind_is (locals f has) no_part no_tail (label f has)
              (subst (λ p. IsLowered f owner old.pending.label l.body p body.root new.pending) pending (inner.stands f (front ++ form ∷ []) back whole long has));
        }
