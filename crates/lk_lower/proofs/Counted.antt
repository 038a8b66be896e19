-- How much an expression takes of what is to come: as many types as nodes, calls as uses, and labels as are labelled in it.
use Rattle.std.proofs.Common.{◌≡◌, ◌⊎◌, inl, inr, refl, sym, ap, subst, ◌∙◌, ℕ, zero, suc, ◌+◌, List, [], ◌∷◌, ◌++◌, append-nil, flat_map, length, length-append, drop, map, Option, Some, None, arith}
use Rattle.std.proofs.lemmas.Grind.{flat_map-append}
use Rattle.std.proofs.lemmas.Option.{none-some}
use Rattle.lk_ast.specs.Children.{exprs_of}
use Rattle.lk_ast.specs.Layers.{Layer, layer}
use Rattle.lk_ast.specs.declared.expression.Expr.{Expr}
use Rattle.lk_ast.specs.declared.expression.LambdaExpr.{LambdaExpr}
use Rattle.lk_ast.specs.declared.expression.Node.TheOpen.{Node-F}
use Rattle.lk_ast.specs.declared.place.Span.{Span}
use Rattle.lk_evaluation.specs.Syntax.{parts_of}
use Rattle.lk_bodies.specs.Nodes.{total}
use Rattle.lk_ground.proofs.Levels.{outer, own_use, own_label, labelled_level}
use Rattle.lk_ground.proofs.PlacedLevels.{form_uses}
use Rattle.lk_ground.specs.Sites.{PlacedUse, uses_in, labelled_in}
use Rattle.lk_sound.proofs.Inside.{insides, bodies_of, last_body}
use Rattle.lk_ir.specs.declared.nodes.Forms.{Forms}
use Rattle.lk_ir.specs.declared.nodes.Kind.{Kind}
use Rattle.lk_ir.specs.declared.nodes.Op.{Op}
use Rattle.lk_lower.specs.Lowering as low
use Rattle.lk_lower.proofs.NodesInside.{nodes_insides, total_both}
use Rattle.lk_lower.specs.Law.{IsTaken}
use Rattle.lk_lower.specs.Lowering.{Pending, Shell, IsLowered, AreLowered, tails_of, last_bodies, op_of, nodes_in, behind_label}

-- ---- lists

abbrev nil : (A : Type 0) → List A
nil A = []

pub drop_none : {A : Type 0} (k : ℕ) → drop k (nil A) ≡ nil A
drop_none zero = refl
drop_none (suc k) = refl

pub drop_sum : {A : Type 0} (n m : ℕ) (xs : List A) → drop n (drop m xs) ≡ drop (m + n) xs
drop_sum n zero xs = ap (λ k. drop k xs) (let e : n ≡ zero + n = omega arith in e)
drop_sum n (suc m) [] = drop_none n ∙ sym (drop_none (suc m + n))
drop_sum n (suc m) (x ∷ xs) = drop_sum n m xs ∙ sym (ap (λ k. drop k (x ∷ xs)) (let e : suc m + n ≡ suc (m + n) = omega arith in e))

-- ---- children

abbrev pub children_of : Layer → List Expr
children_of l = parts_of l ++ tails_of l

pub same_last : (last : Option _) → last_bodies last ≡ last_body last
same_last None = refl
same_last (Some last) = refl

-- ---- what a node takes

-- what stands right inside it has so many nodes, with its own
abbrev pub nodes_at : Layer → ℕ
nodes_at l = 1 + total (map nodes_in (insides l))

-- so many nodes, and these uses and labels, come before those in the children
pub record Takes (l : Layer) (site : ℕ) (before inside : Pending) : Type 0 where
  pub nodes : ℕ
  pub are_nodes : nodes_at l ≡ nodes + total (map nodes_in (children_of l))
  pub types : inside.types ≡ drop nodes before.types
  pub uses : List PlacedUse
  pub are_uses : own_use l site ++ flat_map uses_in (insides l) ≡ uses ++ flat_map uses_in (children_of l)
  pub calls : inside.calls ≡ drop (length uses) before.calls
  pub are_labels : own_label l site ++ flat_map labelled_in (outer l) ≡ own_label l site ++ flat_map labelled_in (children_of l)
  pub label : inside.label ≡ before.label + length (own_label l site)
  -- its children are what stands right inside it, or there is none
  pub inner : (insides l ≡ children_of l) ⊎ (children_of l ≡ [])

pub more_none : (n : ℕ) → n ≡ n + 0
more_none n = omega arith

-- what stands right inside it is its children, and it takes just its own
simple : (l : Layer) (site : ℕ) (before inside : Pending) → insides l ≡ children_of l → outer l ≡ children_of l → inside.types ≡ drop 1 before.types → inside.calls ≡ drop (length (own_use l site)) before.calls → inside.label ≡ before.label + length (own_label l site) → Takes l site before inside
simple l site before inside all also types calls label = record {
  nodes = 1;
  are_nodes = ap (λ es. 1 + total (map nodes_in es)) all;
  types = types;
  uses = own_use l site;
  are_uses = ap (λ es. own_use l site ++ flat_map uses_in es) all;
  calls = calls;
  are_labels = ap (λ es. own_label l site ++ flat_map labelled_in es) also;
  label = label;
  inner = inl all;
}

record IsOperation (l : Layer) (site : ℕ) : Type 0 where
  inner : insides l ≡ children_of l
  outside : outer l ≡ children_of l
  calls : own_use l site ≡ []
  label : own_label l site ≡ []

fixed : {l : Layer} {site : ℕ} → insides l ≡ children_of l → outer l ≡ children_of l → own_use l site ≡ [] → own_label l site ≡ [] → IsOperation l site
fixed inner outside calls label = record { inner = inner; outside = outside; calls = calls; label = label }

an_operation : (l : Layer) (site : ℕ) (o : Op) → op_of l ≡ Some o → IsOperation l site
an_operation (Node-F.List es) site o is = fixed (sym (append-nil es)) (sym (append-nil es)) refl refl
an_operation (Node-F.Record parts) site o is = fixed (sym (append-nil (exprs_of parts))) (sym (append-nil (exprs_of parts))) refl refl
an_operation (Node-F.Extend parts e) site o is = fixed (sym (append-nil (exprs_of parts ++ e ∷ []))) (sym (append-nil (exprs_of parts ++ e ∷ []))) refl refl
an_operation (Node-F.Name x) site o is = absurd (none-some o is)
an_operation (Node-F.Function g) site o is = absurd (none-some o is)
an_operation (Node-F.Lambda l) site o is = absurd (none-some o is)
an_operation (Node-F.Call g args) site o is = absurd (none-some o is)
an_operation (Node-F.Apply f args) site o is = absurd (none-some o is)
an_operation (Node-F.Var x e rest) site o is = absurd (none-some o is)
an_operation (Node-F.Seq e rest) site o is = absurd (none-some o is)
an_operation (Node-F.If c d e) site o is = absurd (none-some o is)
an_operation (Node-F.And a b) site o is = absurd (none-some o is)
an_operation (Node-F.Or a b) site o is = absurd (none-some o is)
an_operation (Node-F.Print e) site o is = absurd (none-some o is)
an_operation (Node-F.Switch e cases last) site o is = absurd (none-some o is)
an_operation (Node-F.ForList x e body) site o is = absurd (none-some o is)
an_operation (Node-F.ForTable x rows body) site o is = absurd (none-some o is)
an_operation (Node-F.Table t) site o is = absurd (none-some o is)
an_operation (Node-F.Where c e) site o is = absurd (none-some o is)
an_operation (Node-F.Query keys e) site o is = absurd (none-some o is)
an_operation (Node-F.Insert t e) site o is = absurd (none-some o is)
an_operation (Node-F.Update change) site o is = absurd (none-some o is)
an_operation (Node-F.Delete change) site o is = absurd (none-some o is)
an_operation other site o is = fixed refl refl refl refl

pub no_own_label : (l : Layer) (site : ℕ) (o : Op) → op_of l ≡ Some o → own_label l site ≡ []
no_own_label l site o is = (an_operation l site o is).label

-- a query, an update or a deletion takes all that stands in it
closed : (l : Layer) (site : ℕ) (before inside : Pending) → own_use l site ≡ [] → children_of l ≡ [] → outer l ≡ [] → inside.types ≡ drop (nodes_at l) before.types → inside.calls ≡ drop (length (flat_map uses_in (insides l))) before.calls → inside.label ≡ before.label + length (own_label l site) → Takes l site before inside
closed l site before inside own no_child no_outer types calls label = record {
  nodes = nodes_at l;
  are_nodes = more_none (nodes_at l) ∙ sym (ap (λ es. nodes_at l + total (map nodes_in es)) no_child);
  types = types;
  uses = flat_map uses_in (insides l);
  are_uses = ap (λ us. us ++ flat_map uses_in (insides l)) own ∙ sym (append-nil (flat_map uses_in (insides l))) ∙ sym (ap (λ es. flat_map uses_in (insides l) ++ flat_map uses_in es) no_child);
  calls = calls;
  are_labels = ap (λ es. own_label l site ++ flat_map labelled_in es) (no_outer ∙ sym no_child);
  label = label;
  inner = inr no_child;
}

module _ (f : Forms) (owner n ty : ℕ) where
  pub takes : {l : Layer} {at : Span} {before inside : Pending} {k : Kind} → Shell f owner n ty l at before k inside → Takes l at.start before inside
  takes {l = l} {at = at} {before = before} (low.operation {o = o} is) =
      let own = an_operation l at.start o is in
      simple l at.start before _ own.inner own.outside refl (sym (ap (λ us. drop (length us) before.calls) own.calls)) (more_none before.label ∙ sym (ap (λ ls. before.label + length ls) own.label))
  takes {before = before} (low.name is) = simple _ _ before _ refl refl refl refl (more_none before.label)
  takes {before = before} (low.function is) = simple _ _ before _ refl refl refl refl (more_none before.label)
  takes {before = before} (low.call {args = args} is) = simple _ _ before _ (sym (append-nil args)) (sym (append-nil args)) refl refl (more_none before.label)
  takes {before = before} (low.apply {e = e} {args = args}) = simple _ _ before _ (ap (λ es. e ∷ es) (sym (append-nil args))) (ap (λ es. e ∷ es) (sym (append-nil args))) refl refl (more_none before.label)
  takes {before = before} (low.bind is) = simple _ _ before _ refl refl refl refl (more_none before.label)
  takes {before = before} low.then_next = simple _ _ before _ refl refl refl refl (more_none before.label)
  takes {before = before} low.choose_if = simple _ _ before _ refl refl refl refl (more_none before.label)
  takes {before = before} low.choose_and = simple _ _ before _ refl refl refl refl (more_none before.label)
  takes {before = before} low.choose_or = simple _ _ before _ refl refl refl refl (more_none before.label)
  takes {before = before} low.choose_where = simple _ _ before _ refl refl refl refl (more_none before.label)
  takes {before = before} low.print = simple _ _ before _ refl refl refl refl (more_none before.label)
  takes {before = before} (low.switch {e = e} {cases = cases} {last = last} are is) =
      let same : e ∷ (bodies_of cases ++ last_body last) ≡ e ∷ (bodies_of cases ++ last_bodies last) = ap (λ es. e ∷ (bodies_of cases ++ es)) (sym (same_last last)) in
      simple _ _ before _ same same refl refl (more_none before.label)
  takes {before = before} (low.for_list is) = simple _ _ before _ refl refl refl refl (more_none before.label)
  takes {before = before} (low.for_table is) = simple _ _ before _ refl refl refl refl (more_none before.label)
  takes {before = before} (low.table of) = simple _ _ before _ refl refl refl refl refl
  takes {before = before} (low.insert of touched) = simple _ _ before _ refl refl refl refl refl
  takes {before = before} (low.query {e = e} of kept) = closed _ _ before _ refl refl refl (ap (λ n. drop (1 + n) before.types) (more_none (nodes_in e))) (ap (λ us. drop (length us) before.calls) (sym (append-nil (uses_in e)))) refl
  takes {before = before} (low.update of kept touched) = closed _ _ before _ refl refl refl refl refl refl
  takes {before = before} (low.delete of kept touched) = closed _ _ before _ refl refl refl refl refl refl

-- ---- what an expression takes

pub record Counts (before after : Pending) (nodes : ℕ) (us : List PlacedUse) (ls : List ℕ) : Type 0 where
  pub types : after.types ≡ drop nodes before.types
  pub calls : after.calls ≡ drop (length us) before.calls
  pub label : after.label ≡ before.label + length ls

counts_none : (p : Pending) → Counts p p 0 [] []
counts_none p = record { types = refl; calls = refl; label = more_none p.label }

counts_both : {a b c : Pending} (n m : ℕ) (us vs : List PlacedUse) (ls ms : List ℕ) → Counts a b n us ls → Counts b c m vs ms → Counts a c (n + m) (us ++ vs) (ls ++ ms)
counts_both {a = a} {b = b} {c = c} n m us vs ls ms one two = record {
  types = two.types ∙ ap (drop m) one.types ∙ drop_sum m n a.types;
  calls = two.calls ∙ ap (drop (length vs)) one.calls ∙ drop_sum (length vs) (length us) a.calls ∙ sym (ap (λ k. drop k a.calls) (length-append us vs));
  label =
      let x : b.label ≡ a.label + length ls = one.label in
      let y : c.label ≡ b.label + length ms = two.label in
      let z : length (ls ++ ms) ≡ length ls + length ms = length-append ls ms in
      omega arith;
}

counts_as : {a b : Pending} {n m : ℕ} {us vs : List PlacedUse} {ls ms : List ℕ} → m ≡ n → vs ≡ us → ms ≡ ls → Counts a b n us ls → Counts a b m vs ms
counts_as {a = a} {b = b} {n = n} {m = m} {us = us} {vs = vs} {ls = ls} nodes uses labels counts =
    subst (λ xs. Counts a b m vs xs) (sym labels) (subst (λ xs. Counts a b m xs ls) (sym uses) (subst (λ k. Counts a b k us ls) (sym nodes) counts))

-- lists one after another
pub lowered_both : {f : Forms} {owner within : ℕ} {es ds : List Expr} {p q r : Pending} {ns ms : List ℕ} → AreLowered f owner within es p ns q → AreLowered f owner within ds q ms r → AreLowered f owner within (es ++ ds) p (ns ++ ms) r
lowered_both low.none second = second
lowered_both (low.more one rest) second = low.more one (lowered_both rest second)

module _ (f : Forms) (owner : ℕ) where
  pub own_counts : (e : Expr) (before inside : Pending) (t : Takes (layer e) e.span.start before inside) → Counts before inside t.nodes t.uses (own_label (layer e) e.span.start)
  own_counts e before inside t = record { types = t.types; calls = t.calls; label = t.label }

  pub uses_split : (e : Expr) (before inside : Pending) (t : Takes (layer e) e.span.start before inside) → uses_in e ≡ t.uses ++ flat_map uses_in (children_of (layer e))
  uses_split e before inside t = form_uses e (layer e) refl ∙ t.are_uses

  pub labels_split : (e : Expr) (before inside : Pending) (t : Takes (layer e) e.span.start before inside) → labelled_in e ≡ own_label (layer e) e.span.start ++ flat_map labelled_in (children_of (layer e))
  labels_split e before inside t = labelled_level e ∙ t.are_labels

  -- what comes before those in the children, those in the parts, and those in the tails
  nodes_three : (e : Expr) (before inside : Pending) (t : Takes (layer e) e.span.start before inside) → nodes_in e ≡ t.nodes + (total (map nodes_in (parts_of (layer e))) + total (map nodes_in (tails_of (layer e))))
  nodes_three e before inside t = nodes_insides e ∙ t.are_nodes ∙ ap (λ n. t.nodes + n) (total_both nodes_in (parts_of (layer e)) (tails_of (layer e)))

  uses_three : (e : Expr) (before inside : Pending) (t : Takes (layer e) e.span.start before inside) → uses_in e ≡ t.uses ++ (flat_map uses_in (parts_of (layer e)) ++ flat_map uses_in (tails_of (layer e)))
  uses_three e before inside t = uses_split e before inside t ∙ ap (λ us. t.uses ++ us) (flat_map-append uses_in (parts_of (layer e)) (tails_of (layer e)))

  labels_three : (e : Expr) (before inside : Pending) (t : Takes (layer e) e.span.start before inside)
      → labelled_in e ≡ own_label (layer e) e.span.start ++ (flat_map labelled_in (parts_of (layer e)) ++ flat_map labelled_in (tails_of (layer e)))
  labels_three e before inside t = labels_split e before inside t ∙ ap (λ ls. own_label (layer e) e.span.start ++ ls) (flat_map-append labelled_in (parts_of (layer e)) (tails_of (layer e)))

  -- a lambda, and what stands in its body
  lambda_nodes : (e : Expr) (l : LambdaExpr) → layer e ≡ Node-F.Lambda l → nodes_in e ≡ 1 + nodes_in l.body
  lambda_nodes e l is = nodes_insides e ∙ ap nodes_at is ∙ ap (λ n. 1 + n) (sym (more_none (nodes_in l.body)))

  pub lambda_uses : (e : Expr) (l : LambdaExpr) → layer e ≡ Node-F.Lambda l → uses_in e ≡ uses_in l.body
  lambda_uses e l is = form_uses e (Node-F.Lambda l) is ∙ append-nil (uses_in l.body)

  pub lambda_labels : (e : Expr) (l : LambdaExpr) → layer e ≡ Node-F.Lambda l → labelled_in e ≡ e.span.start ∷ labelled_in l.body
  lambda_labels e l is = labelled_level e ∙ ap (λ m. own_label m e.span.start ++ flat_map labelled_in (outer m)) is ∙ ap (λ r. e.span.start ∷ r) (append-nil (labelled_in l.body))

  pub lambda_counts : (e : Expr) (before : Pending) → Counts before (behind_label before) 1 [] (e.span.start ∷ [])
  lambda_counts e before = record { types = refl; calls = refl; label = refl }

  mutual
    pub counted : {within n : ℕ} {e : Expr} {before after : Pending} → IsLowered f owner within e before n after → Counts before after (nodes_in e) (uses_in e) (labelled_in e)
    counted {e = e} {before = before} (low.node form inside between number is at in_it has shell parts tails) =
        let t = takes f owner _ _ shell in
        counts_as (nodes_three e before inside t) (uses_three e before inside t) (labels_three e before inside t)
        (counts_both _ _ _ _ _ _ (own_counts e before inside t) (counts_both _ _ _ _ _ _ (all_counted parts) (all_counted tails)))
    counted {e = e} {before = before} (low.lambda form l xs body is number there at in_it has kind locals no_part no_tail of inner) =
        counts_as (lambda_nodes e l is) (lambda_uses e l is) (lambda_labels e l is) (counts_both _ _ [] _ (e.span.start ∷ []) _ (lambda_counts e before) (counted inner))

    pub all_counted : {within : ℕ} {ns : List ℕ} {es : List Expr} {before after : Pending} → AreLowered f owner within es before ns after → Counts before after (total (map nodes_in es)) (flat_map uses_in es) (flat_map labelled_in es)
    all_counted low.none = counts_none _
    all_counted (low.more {e = e} {es = es} one rest) = counts_both _ _ (uses_in e) (flat_map uses_in es) (labelled_in e) (flat_map labelled_in es) (counted one) (all_counted rest)

  pub taken : {within n : ℕ} {e : Expr} {before after : Pending} → IsLowered f owner within e before n after → IsTaken e before after
  taken lowered = let counts = counted lowered in record { types = counts.types; calls = counts.calls; label = counts.label }
