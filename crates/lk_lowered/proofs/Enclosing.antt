-- In which function nodes stand: the positions and tails of a node in that of the node, and the root of a body in that of its label.
use Rattle.std.proofs.Common.{◌≡◌, ◌⊎◌, inl, inr, ⊎_elim, sym, ap, subst, ◌∙◌, ℕ, ◌+◌, ◌≤◌, ◌<◌, List, [], ◌∷◌, ◌++◌, length, Some, arith}
use Rattle.std.proofs.lemmas.Bool.{cases_lt}
use Rattle.lk_ast.specs.declared.expression.Expr.{Expr}
use Rattle.lk_ground.specs.declared.program.GroundFun.{GroundFun}
use Rattle.lk_ir.specs.Tables.{body_at, body_of, form_at}
use Rattle.lk_ir.specs.Uses as used
use Rattle.lk_ir.specs.Uses.{Among}
use Rattle.lk_ir.specs.declared.nodes.Body.{Body}
use Rattle.lk_ir.specs.declared.nodes.Form.{Form}
use Rattle.lk_ir.specs.declared.nodes.Forms.{Forms}
use Rattle.lk_lower.specs.Lowering as low
use Rattle.lk_lower.specs.Lowering.{AreFuns, AreLowered, IsLowered, Pending}
use Rattle.lk_lowered.proofs.LabelBodies.{inside_from, own_step}
use Rattle.lk_types.proofs.Parts.{same_some}

among_either : (x : ℕ) (xs ys : List ℕ) → Among x (xs ++ ys) → Among x xs ⊎ Among x ys
among_either x [] ys among = inr among
among_either x (_ ∷ xs) ys used.here = inl used.here
among_either x (_ ∷ xs) ys (used.later among) = ⊎_elim (λ (one : Among x xs). inl (used.later one)) (λ (other : Among x ys). inr other) (among_either x xs ys among)

module _ (f : Forms) where
  abbrev StandsIn : ℕ → ℕ → Type 0
  StandsIn within n = (form : Form) → form_at f n ≡ Some form → form.within ≡ within

  itself_within : {owner within n : ℕ} {e : Expr} {p q : Pending} → IsLowered f owner within e p n q → StandsIn within n
  itself_within (low.node other inside between number is at in_it has shell parts tails) form there = ap (λ (g : Form). g.within) (same_some (sym there ∙ is)) ∙ in_it
  itself_within (low.lambda other l xs body is number at_it at in_it has kind_is locals no_part no_tail label inner) form there = ap (λ (g : Form). g.within) (same_some (sym there ∙ at_it)) ∙ in_it

  -- ---- children

  each_within : {owner within : ℕ} {es : List Expr} {ns : List ℕ} {p q : Pending} → AreLowered f owner within es p ns q → (k : ℕ) → Among k ns → StandsIn within k
  each_within low.none k among = elim among [ ]
  each_within (low.more one rest) k used.here = itself_within one
  each_within (low.more one rest) k (used.later among) = each_within rest k among

  pub children_within : {owner within n : ℕ} {e : Expr} {p q : Pending} → IsLowered f owner within e p n q → (form : Form) → form_at f n ≡ Some form → (k : ℕ) → Among k (form.parts ++ form.tails) → StandsIn form.within k
  children_within (low.node other inside between number is at in_it has shell parts tails) form there k among =
      let same : form ≡ other = same_some (sym there ∙ is) in
      subst (λ w. StandsIn w k) (sym (ap (λ (g : Form). g.within) same ∙ in_it))
      (⊎_elim (λ (one : Among k other.parts). each_within parts k one) (λ (one : Among k other.tails). each_within tails k one) (among_either k other.parts other.tails (subst (λ (g : Form). Among k (g.parts ++ g.tails)) same among)))
  children_within (low.lambda other l xs body is number at_it at in_it has kind_is locals no_part no_tail label inner) form there k among =
      let same : form ≡ other = same_some (sym there ∙ at_it) in
      absurd (no_child (subst (λ ns. Among k (ns ++ [])) no_part (subst (λ ns. Among k (other.parts ++ ns)) no_tail (subst (λ (g : Form). Among k (g.parts ++ g.tails)) same among))))
    where
      no_child : Among k [] → ⊥
      no_child none = elim none [ ]

  -- ---- bodies

  abbrev RootStands : ℕ → Body → Type 0
  RootStands label b = StandsIn label b.root

  mutual
    roots_within : {owner within n : ℕ} {e : Expr} {p q : Pending} → IsLowered f owner within e p n q → (k : ℕ) → p.label ≤ k → k < q.label → (b : Body) → body_at f k ≡ Some b → RootStands k b
    roots_within {owner = owner} {p = p} (low.node form inside between number is at in_it has shell parts tails) k from to b body =
        let further : inside.label ≤ k = inside_from f p inside (own_step f owner _ _ shell).1 k from b body in
        ⊎_elim (λ (before : k < between.label). all_roots_within parts k further before b body) (λ (behind : between.label ≤ k). all_roots_within tails k behind to b body) (cases_lt k between.label)
    roots_within {p = p} (low.lambda form l xs own is number there at in_it has kind_is locals no_part no_tail label inner) k from to b body =
        let own_there : body_at f p.label ≡ Some own = ap body_of label.is ∙ label.body_is in
        ⊎_elim (λ (later : p.label < k). let further : p.label + 1 ≤ k = omega arith in roots_within inner k further to b body)
        (λ (here : k ≤ p.label).
        let same : p.label ≡ k = omega arith in
        subst (λ j. RootStands j b) same (subst (RootStands p.label) (same_some (sym own_there ∙ ap (body_at f) same ∙ body)) (itself_within inner)))
        (cases_lt p.label k)

    all_roots_within : {owner within : ℕ} {es : List Expr} {ns : List ℕ} {p q : Pending} → AreLowered f owner within es p ns q → (k : ℕ) → p.label ≤ k → k < q.label → (b : Body) → body_at f k ≡ Some b → RootStands k b
    all_roots_within low.none k from to b body = absurd (omega arith)
    all_roots_within (low.more {between = between} one rest) k from to b body =
        ⊎_elim (λ (before : k < between.label). roots_within one k from before b body) (λ (behind : between.label ≤ k). all_roots_within rest k behind to b body) (cases_lt k between.label)

  -- those of instances and of all lambdas in them
  pub bodies_within : {i label next : ℕ} {funs : List GroundFun} → AreFuns f i funs label next → (k : ℕ) → label ≤ k → k < length f.labels → (b : Body) → body_at f k ≡ Some b → RootStands k b
  bodies_within (low.no_fun wholes titles labels nodes) k from to b body = absurd (omega (arith, labels))
  bodies_within {label = label} (low.one_fun own after ty whole titled type_is of lowered others) k from to b body =
      ⊎_elim (λ (later : label < k).
      ⊎_elim (λ (before : k < after.label). let further : label + 1 ≤ k = omega arith in roots_within lowered k further before b body) (λ (behind : after.label ≤ k). bodies_within others k behind to b body) (cases_lt k after.label))
      (λ (here : k ≤ label).
      let same : label ≡ k = omega arith in
      subst (λ j. RootStands j b) same (subst (RootStands label) (same_some (sym (ap body_of of.is ∙ of.body_is) ∙ ap (body_at f) same ∙ body)) (itself_within lowered)))
      (cases_lt label k)
