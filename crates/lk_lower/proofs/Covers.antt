-- Each node of a table is that of an expression, and the numbers of a node's children are above its own.
use Rattle.std.proofs.Common.{◌≡◌, ◌⊎◌, inl, inr, refl, sym, subst, ◌∙◌, ℕ, ◌+◌, ◌≤◌, ◌<◌, List, length, arith}
use Rattle.std.proofs.lemmas.Bool.{cases_lt}
use Rattle.std.proofs.lemmas.Option.{same_Some, slice_get_within}
use Rattle.lk_ast.specs.Layers.{Layer}
use Rattle.lk_ast.specs.declared.expression.Expr.{Expr}
use Rattle.lk_ast.specs.declared.place.Span.{Span}
use Rattle.lk_ground.specs.declared.program.GroundFun.{GroundFun}
use Rattle.lk_ground.specs.declared.program.GroundProgram.{GroundProgram}
use Rattle.lk_ir.specs.declared.nodes.Form.{Form}
use Rattle.lk_ir.specs.declared.nodes.Forms.{Forms}
use Rattle.lk_ir.specs.declared.nodes.Kind.{Kind}
use Rattle.lk_lower.specs.Law.{AreFrom, ArePreOrdered, IsCovered}
use Rattle.lk_lower.specs.Lowering as low
use Rattle.lk_lower.specs.Lowering.{Pending, Shell, IsLowered, AreLowered, AreFuns, AreForms}

module _ (f : Forms) where
  one_further : {owner n ty : ℕ} {l : Layer} {at : Span} {p q : Pending} {k : Kind} → Shell f owner n ty l at p k q → q.next ≡ p.next + 1
  one_further (low.operation is) = refl
  one_further (low.name is) = refl
  one_further (low.function is) = refl
  one_further (low.call is) = refl
  one_further low.apply = refl
  one_further (low.bind is) = refl
  one_further low.then_next = refl
  one_further low.choose_if = refl
  one_further low.choose_and = refl
  one_further low.choose_or = refl
  one_further low.choose_where = refl
  one_further low.print = refl
  one_further (low.switch cases last) = refl
  one_further (low.for_list is) = refl
  one_further (low.for_table is) = refl
  one_further (low.table of) = refl
  one_further (low.insert of touched) = refl
  one_further (low.query of kept) = refl
  one_further (low.update of kept touched) = refl
  one_further (low.delete of kept touched) = refl

  mutual
    pub further : {owner within n : ℕ} {e : Expr} {p q : Pending} → IsLowered f owner within e p n q → p.next + 1 ≤ q.next
    further {p = p} {q = q} (low.node form inside between number is at in_it has shell parts tails) =
        let a : inside.next ≡ p.next + 1 = one_further shell in
        let b : inside.next ≤ between.next = all_further parts in
        let c : between.next ≤ q.next = all_further tails in
        omega arith
    further {p = p} {q = q} (low.lambda form l xs body is number there at in_it has kind locals no_part no_tail label inner) =
        let a : (p.next + 1) + 1 ≤ q.next = further inner in
        omega arith

    pub all_further : {owner within : ℕ} {es : List Expr} {ns : List ℕ} {p q : Pending} → AreLowered f owner within es p ns q → p.next ≤ q.next
    all_further {p = p} low.none = let e : p.next ≤ p.next = omega arith in e
    all_further {p = p} {q = q} (low.more {between = between} one rest) =
        let a : p.next + 1 ≤ between.next = further one in
        let b : between.next ≤ q.next = all_further rest in
        omega arith

  number_is : {owner within n : ℕ} {e : Expr} {p q : Pending} → IsLowered f owner within e p n q → n ≡ p.next
  number_is (low.node form inside between number is at in_it has shell parts tails) = number
  number_is (low.lambda form l xs body is number there at in_it has kind locals no_part no_tail label inner) = number

  from_here : {owner within : ℕ} (n : ℕ) {es : List Expr} {ns : List ℕ} {p q : Pending} → n ≤ p.next → AreLowered f owner within es p ns q → AreFrom n ns
  from_here n le low.none = tt
  from_here n {p = p} le (low.more {between = between} {n = m} one rest) =
      let number : m ≡ p.next = number_is one in
      let more : p.next + 1 ≤ between.next = further one in
      (let e : n ≤ m = omega arith in e, from_here n (let e : n ≤ between.next = omega arith in e) rest)

  itself : {owner within n : ℕ} {e : Expr} {p q : Pending} → IsLowered f owner within e p n q → IsCovered f n
  itself {owner = owner} {within = within} {n = n} {e = e} {p = p} {q = q} (low.node form inside between number is at in_it has shell parts tails) =
      let a : inside.next ≡ p.next + 1 = one_further shell in
      let b : inside.next ≤ between.next = all_further parts in
      record {
        owner = owner;
        within = within;
        expr = e;
        before = p;
        after = q;
        lowered = low.node form inside between number is at in_it has shell parts tails;
        form = form;
        is = is;
        parts = from_here (n + 1) (let e : n + 1 ≤ inside.next = omega (arith, number) in e) parts;
        tails = from_here (n + 1) (let e : n + 1 ≤ between.next = omega (arith, number) in e) tails;
      }
  itself {owner = owner} {within = within} {n = n} {e = e} {p = p} {q = q} (low.lambda form l xs body is number there at in_it has kind locals no_part no_tail label inner) = record {
    owner = owner;
    within = within;
    expr = e;
    before = p;
    after = q;
    lowered = low.lambda form l xs body is number there at in_it has kind locals no_part no_tail label inner;
    form = form;
    is = there;
    parts = subst (AreFrom (n + 1)) (sym no_part) tt;
    tails = subst (AreFrom (n + 1)) (sym no_tail) tt;
  }

  at_number : {owner within n : ℕ} {e : Expr} {p q : Pending} (k : ℕ) → IsLowered f owner within e p n q → p.next ≤ k → k ≤ p.next → IsCovered f k
  at_number {n = n} {p = p} k one from to =
      let number : n ≡ p.next = number_is one in
      let here : n ≡ k = omega arith in
      subst (IsCovered f) here (itself one)

  mutual
    pub covers : {owner within n : ℕ} {e : Expr} {p q : Pending} → IsLowered f owner within e p n q → (k : ℕ) → p.next ≤ k → k < q.next → IsCovered f k
    covers {n = n} {p = p} {q = q} (low.node form inside between number is at in_it has shell parts tails) k from to =
        by_side (cases_lt p.next k) (cases_lt k between.next) (all_cover parts k) (all_cover tails k)
      where
        by_side : (p.next < k) ⊎ (k ≤ p.next) → (k < between.next) ⊎ (between.next ≤ k) → (inside.next ≤ k → k < between.next → IsCovered f k) → (between.next ≤ k → k < q.next → IsCovered f k) → IsCovered f k
        by_side (inl later) (inl before) in_parts in_tails = in_parts (let a : inside.next ≡ p.next + 1 = one_further shell in omega arith) before
        by_side (inl later) (inr behind) in_parts in_tails = in_tails behind to
        by_side (inr here) side in_parts in_tails = at_number k (low.node form inside between number is at in_it has shell parts tails) from here
    covers {n = n} {p = p} {q = q} (low.lambda form l xs body is number there at in_it has kind locals no_part no_tail label inner) k from to =
        by_side (cases_lt p.next k) (covers inner k)
      where
        by_side : (p.next < k) ⊎ (k ≤ p.next) → (p.next + 1 ≤ k → k < q.next → IsCovered f k) → IsCovered f k
        by_side (inl later) in_body = in_body (let e : p.next + 1 ≤ k = omega arith in e) to
        by_side (inr here) in_body = at_number k (low.lambda form l xs body is number there at in_it has kind locals no_part no_tail label inner) from here

    pub all_cover : {owner within : ℕ} {es : List Expr} {ns : List ℕ} {p q : Pending} → AreLowered f owner within es p ns q → (k : ℕ) → p.next ≤ k → k < q.next → IsCovered f k
    all_cover low.none k from to = absurd (omega arith)
    all_cover {p = p} {q = q} (low.more {between = between} one rest) k from to = by_side (cases_lt k between.next) (covers one k from) (all_cover rest k)
      where
        by_side : (k < between.next) ⊎ (between.next ≤ k) → (k < between.next → IsCovered f k) → (between.next ≤ k → k < q.next → IsCovered f k) → IsCovered f k
        by_side (inl before) first others = first before
        by_side (inr behind) first others = others behind to

  -- ---- all nodes

  all_nodes : (i : ℕ) (funs : List GroundFun) (label next : ℕ) → AreFuns f i funs label next → (k : ℕ) → next ≤ k → k < length f.nodes → IsCovered f k
  all_nodes i _ label next (low.no_fun wholes named labels nodes) k from to = absurd (omega (arith, nodes))
  all_nodes i _ label next (low.one_fun {funs = funs} body after ty whole named type has lowered others) k from to =
      by_side (cases_lt k after.next) (covers lowered k from) (all_nodes (1 + i) funs after.label after.next others k)
    where
      by_side : (k < after.next) ⊎ (after.next ≤ k) → (k < after.next → IsCovered f k) → (after.next ≤ k → k < length f.nodes → IsCovered f k) → IsCovered f k
      by_side (inl before) first later = first before
      by_side (inr behind) first later = later behind to

  pub each_node : (g : GroundProgram) → AreForms g f → (k : ℕ) → k < length f.nodes → IsCovered f k
  each_node g of k to = all_nodes 0 g.funs 1 0 of.funs k (let e : 0 ≤ k = omega arith in e) to

-- the children of each node have greater numbers
pub pre_ordered : (g : GroundProgram) (f : Forms) → AreForms g f → ArePreOrdered f
pre_ordered g f of n form is =
    let one : IsCovered f n = each_node f g of n (slice_get_within f.nodes n form is) in
    let same : one.form ≡ form = same_Some _ _ (sym one.is ∙ is) in
    subst (λ (form : Form). AreFrom (n + 1) form.parts × AreFrom (n + 1) form.tails) same (one.parts, one.tails)
