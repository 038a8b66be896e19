-- The bodies of labels: those of the lambdas in an expression have the labels that it takes.
use Rattle.std.proofs.Common.{◌≡◌, ◌⊎◌, inl, inr, refl, sym, ap, subst, ◌∙◌, ℕ, ◌+◌, ◌≤◌, ◌<◌, List, Option, Some, None, arith}
use Rattle.std.proofs.lemmas.Bool.{cases_lt}
use Rattle.std.proofs.lemmas.Option.{none-some}
use Rattle.lk_ast.specs.Layers.{Layer}
use Rattle.lk_ast.specs.declared.expression.Expr.{Expr}
use Rattle.lk_ast.specs.declared.place.Span.{Span}
use Rattle.lk_code.specs.Parts as code
use Rattle.lk_code.specs.Parts.{Context, HasBodies, HaveBodies, Info, IsTyped, IsTypedBody}
use Rattle.lk_ir.specs.Tables.{body_at, body_of}
use Rattle.lk_ir.specs.declared.nodes.Body.{Body}
use Rattle.lk_ir.specs.declared.nodes.Form.{Form}
use Rattle.lk_ir.specs.declared.nodes.Forms.{Forms}
use Rattle.lk_ir.specs.declared.nodes.Kind.{Kind}
use Rattle.lk_lower.specs.Lowering as low
use Rattle.lk_lower.specs.Lowering.{AreLowered, IsBlockLabel, IsLowered, Pending, Shell}
use Rattle.lk_types.proofs.Parts.{same_some}
use Rattle.lk_types.specs.declared.ground.Ground.{Ground}

-- ---- labels that a node takes itself

-- none, or one that has no body
abbrev pub IsOwnLabel : Forms → Pending → Pending → Type 0
IsOwnLabel f p q = (q.label ≡ p.label) ⊎ ((q.label ≡ p.label + 1) × (body_at f p.label ≡ None))

no_body : (f : Forms) (p : Pending) {owner n ty : ℕ} → IsBlockLabel f owner n ty p.label → body_at f p.label ≡ None
no_body f p of = ap body_of of.is ∙ of.body_is

pub own_step : (f : Forms) (owner n ty : ℕ) {l : Layer} {at : Span} {p q : Pending} {k : Kind} → Shell f owner n ty l at p k q → (q.next ≡ p.next + 1) × IsOwnLabel f p q
own_step f owner n ty (low.operation is) = (refl, inl refl)
own_step f owner n ty (low.name is) = (refl, inl refl)
own_step f owner n ty (low.function is) = (refl, inl refl)
own_step f owner n ty (low.call is) = (refl, inl refl)
own_step f owner n ty low.apply = (refl, inl refl)
own_step f owner n ty (low.bind is) = (refl, inl refl)
own_step f owner n ty low.then_next = (refl, inl refl)
own_step f owner n ty low.choose_if = (refl, inl refl)
own_step f owner n ty low.choose_and = (refl, inl refl)
own_step f owner n ty low.choose_or = (refl, inl refl)
own_step f owner n ty low.choose_where = (refl, inl refl)
own_step f owner n ty low.print = (refl, inl refl)
own_step f owner n ty (low.switch are is) = (refl, inl refl)
own_step f owner n ty (low.for_list is) = (refl, inl refl)
own_step f owner n ty (low.for_table is) = (refl, inl refl)
own_step f owner n ty {p = p} (low.table of) = (refl, inr (refl, no_body f p of))
own_step f owner n ty {p = p} (low.insert of touched) = (refl, inr (refl, no_body f p of))
own_step f owner n ty {p = p} (low.query of kept) = (refl, inr (refl, no_body f p of))
own_step f owner n ty {p = p} (low.update of kept touched) = (refl, inr (refl, no_body f p of))
own_step f owner n ty {p = p} (low.delete of kept touched) = (refl, inr (refl, no_body f p of))

-- so a label with a body is one of those inside
pub inside_from : (f : Forms) (p q : Pending) → IsOwnLabel f p q → (k : ℕ) → p.label ≤ k → (b : Body) → body_at f k ≡ Some b → q.label ≤ k
inside_from f p q (inl same) k from b is = omega (arith, same)
inside_from f p q (inr (one, nothing)) k from b is = by_side (cases_lt p.label k)
  where
    by_side : (p.label < k) ⊎ (k ≤ p.label) → q.label ≤ k
    by_side (inl later) = omega (arith, one)
    by_side (inr here) = absurd (let same : p.label ≡ k = omega arith in none-some b (sym nothing ∙ ap (body_at f) same ∙ is))

module _ (f : Forms) (info : ℕ → Option Info) where
  -- ---- typed bodies

  mutual
    pub bodies_typed : {owner within n : ℕ} {e : Expr} {p q : Pending} → IsLowered f owner within e p n q → HasBodies f info n → (k : ℕ) → p.label ≤ k → k < q.label → (b : Body) → body_at f k ≡ Some b → IsTypedBody f info k b
    bodies_typed {owner = owner} {p = p} {q = q} (low.node form inside between number is at in_it has shell parts tails) (code.with_bodies other also bodies below in_parts in_tails) k from to b body =
        let same : other ≡ form = same_some (sym also ∙ is) in
        let further : inside.label ≤ k = inside_from f p inside (own_step f owner _ _ shell).1 k from b body in
        by_side (cases_lt k between.label) (λ before. all_bodies_typed parts (subst (λ (g : Form). HaveBodies f info g.parts) same in_parts) k further before b body) (λ behind. all_bodies_typed tails (subst (λ (g : Form). HaveBodies f info g.tails) same in_tails) k behind to b body)
      where
        by_side : (k < between.label) ⊎ (between.label ≤ k) → (k < between.label → IsTypedBody f info k b) → (between.label ≤ k → IsTypedBody f info k b) → IsTypedBody f info k b
        by_side (inl before) first others = first before
        by_side (inr behind) first others = others behind
    bodies_typed {p = p} {q = q} (low.lambda form l xs own is number there at in_it has kind_is locals no_part no_tail label inner) (code.with_bodies other also bodies below in_parts in_tails) k from to b body =
        let kinds : other.kind ≡ form.kind = ap (λ (g : Form). g.kind) (same_some (sym also ∙ there)) in
        let own_there : body_at f p.label ≡ Some own = ap body_of label.is ∙ label.body_is in
        by_side (cases_lt p.label k) (λ here. subst (λ j. IsTypedBody f info j b) here (bodies p.label xs b (kinds ∙ kind_is) (ap (body_at f) here ∙ body)))
        (λ later. bodies_typed inner (below p.label xs own (kinds ∙ kind_is) own_there) k later to b body)
      where
        by_side : (p.label < k) ⊎ (k ≤ p.label) → (p.label ≡ k → IsTypedBody f info k b) → (p.label + 1 ≤ k → IsTypedBody f info k b) → IsTypedBody f info k b
        by_side (inl later) own others = others (let e : p.label + 1 ≤ k = omega arith in e)
        by_side (inr here) own others = own (let e : p.label ≡ k = omega arith in e)

    all_bodies_typed : {owner within : ℕ} {es : List Expr} {ns : List ℕ} {p q : Pending} → AreLowered f owner within es p ns q → HaveBodies f info ns → (k : ℕ) → p.label ≤ k → k < q.label → (b : Body) → body_at f k ≡ Some b → IsTypedBody f info k b
    all_bodies_typed low.none has k from to b body = absurd (omega arith)
    all_bodies_typed {p = p} {q = q} (low.more {between = between} one rest) (code.more_bodies in_one in_rest) k from to b body =
        by_side (cases_lt k between.label) (λ before. bodies_typed one in_one k from before b body) (λ behind. all_bodies_typed rest in_rest k behind to b body)
      where
        by_side : (k < between.label) ⊎ (between.label ≤ k) → (k < between.label → IsTypedBody f info k b) → (between.label ≤ k → IsTypedBody f info k b) → IsTypedBody f info k b
        by_side (inl before) first others = first before
        by_side (inr behind) first others = others behind

  -- ---- typed nodes

  abbrev pub IsTypedAt : ℕ → Type 0
  IsTypedAt k = (c : Context) × (t : Ground) × IsTyped f info c k t

  mutual
    pub nodes_typed : {owner within n : ℕ} {e : Expr} {p q : Pending} {c : Context} {t : Ground} → IsLowered f owner within e p n q → IsTyped f info c n t → HasBodies f info n → (k : ℕ) → p.next ≤ k → k < q.next → IsTypedAt k
    nodes_typed {owner = owner} {n = n} {p = p} {q = q} {c = c} {t = t} (low.node form inside between number is at in_it has shell parts tails) (code.node third ts asked third_is type rule in_parts in_tails) (code.with_bodies other also bodies below parts_bodies tails_bodies) k from to =
        let same : other ≡ form = same_some (sym also ∙ is) in
        let alike : third ≡ form = same_some (sym third_is ∙ is) in
        let next : inside.next ≡ p.next + 1 = (own_step f owner _ _ shell).0 in
        by_side (cases_lt p.next k) (cases_lt k between.next)
        (λ here. subst IsTypedAt here (c, t, code.node third ts asked third_is type rule in_parts in_tails))
        (λ later before. all_nodes_typed parts (subst (λ (g : Form). code.AreTyped f info c g.parts ts) alike in_parts) (subst (λ (g : Form). HaveBodies f info g.parts) same parts_bodies) k (let e : inside.next ≤ k = omega (arith, next) in e) before)
        (λ behind. all_tails_typed tails (subst (λ (g : Form). code.HaveTypes f info g.tails asked) alike in_tails) (subst (λ (g : Form). HaveBodies f info g.tails) same tails_bodies) k behind to)
      where
        by_side : (p.next < k) ⊎ (k ≤ p.next) → (k < between.next) ⊎ (between.next ≤ k) → (n ≡ k → IsTypedAt k) → (p.next < k → k < between.next → IsTypedAt k) → (between.next ≤ k → IsTypedAt k) → IsTypedAt k
        by_side (inl later) (inl before) own first others = first later before
        by_side (inl later) (inr behind) own first others = others behind
        by_side (inr here) side own first others = own (let e : n ≡ k = omega (arith, number) in e)
    nodes_typed {n = n} {p = p} {q = q} {c = c} {t = t} (low.lambda form l xs own is number there at in_it has kind_is locals no_part no_tail label inner) typed (code.with_bodies other also bodies below parts_bodies tails_bodies) k from to =
        let kinds : other.kind ≡ form.kind = ap (λ (g : Form). g.kind) (same_some (sym also ∙ there)) in
        let own_there : body_at f p.label ≡ Some own = ap body_of label.is ∙ label.body_is in
        by_side (cases_lt p.next k) (λ here. subst IsTypedAt here (c, t, typed))
        (λ later. nodes_typed inner (bodies p.label xs own (kinds ∙ kind_is) own_there).typed (below p.label xs own (kinds ∙ kind_is) own_there) k later to)
      where
        by_side : (p.next < k) ⊎ (k ≤ p.next) → (n ≡ k → IsTypedAt k) → (p.next + 1 ≤ k → IsTypedAt k) → IsTypedAt k
        by_side (inl later) own_node others = others (let e : p.next + 1 ≤ k = omega arith in e)
        by_side (inr here) own_node others = own_node (let e : n ≡ k = omega (arith, number) in e)

    all_nodes_typed : {owner within : ℕ} {es : List Expr} {ns : List ℕ} {p q : Pending} {c : Context} {ts : List Ground} → AreLowered f owner within es p ns q → code.AreTyped f info c ns ts → HaveBodies f info ns → (k : ℕ) → p.next ≤ k → k < q.next → IsTypedAt k
    all_nodes_typed low.none typed has k from to = absurd (omega arith)
    all_nodes_typed {p = p} {q = q} (low.more {between = between} one rest) (code.more of_one of_rest) (code.more_bodies in_one in_rest) k from to =
        by_side (cases_lt k between.next) (λ before. nodes_typed one of_one in_one k from before) (λ behind. all_nodes_typed rest of_rest in_rest k behind to)
      where
        by_side : (k < between.next) ⊎ (between.next ≤ k) → (k < between.next → IsTypedAt k) → (between.next ≤ k → IsTypedAt k) → IsTypedAt k
        by_side (inl before) first others = first before
        by_side (inr behind) first others = others behind

    all_tails_typed : {owner within : ℕ} {es : List Expr} {ns : List ℕ} {p q : Pending} {asked : List code.Asked} → AreLowered f owner within es p ns q → code.HaveTypes f info ns asked → HaveBodies f info ns → (k : ℕ) → p.next ≤ k → k < q.next → IsTypedAt k
    all_tails_typed low.none typed has k from to = absurd (omega arith)
    all_tails_typed {p = p} {q = q} (low.more {between = between} one rest) (code.tail of_one of_rest) (code.more_bodies in_one in_rest) k from to =
        by_side (cases_lt k between.next) (λ before. nodes_typed one of_one in_one k from before) (λ behind. all_tails_typed rest of_rest in_rest k behind to)
      where
        by_side : (k < between.next) ⊎ (between.next ≤ k) → (k < between.next → IsTypedAt k) → (between.next ≤ k → IsTypedAt k) → IsTypedAt k
        by_side (inl before) first others = first before
        by_side (inr behind) first others = others behind
