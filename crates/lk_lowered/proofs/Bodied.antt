-- Each node stands in an instance or a lambda that has a body.
use Rattle.std.proofs.Common.{◌≡◌, ⊎_elim, refl, sym, ap, subst, ◌∙◌, ℕ, ◌+◌, ◌≤◌, ◌<◌, List, length, Option, Some, arith}
use Rattle.std.proofs.lemmas.Bool.{cases_lt}
use Rattle.std.proofs.lemmas.Option.{slice_get_within}
use Rattle.std.specs.Prelude.{IsSome}
use Rattle.lk_ast.specs.declared.expression.Expr.{Expr}
use Rattle.lk_ast.specs.declared.place.Loc.{Loc}
use Rattle.lk_ast.specs.declared.place.Word.{Word}
use Rattle.lk_ground.specs.declared.program.GroundFun.{GroundFun}
use Rattle.lk_ir.specs.Tables.{body_at, body_of, form_at}
use Rattle.lk_ir.specs.declared.nodes.Body.{Body}
use Rattle.lk_ir.specs.declared.nodes.Form.{Form}
use Rattle.lk_ir.specs.declared.nodes.Forms.{Forms}
use Rattle.lk_lower.specs.Lowering as low
use Rattle.lk_lower.specs.Lowering.{AreFuns, AreLowered, IsBodyLabel, IsLowered, Pending}
use Rattle.lk_lowered.proofs.LabelBodies.{own_step}
use Rattle.lk_lowered.specs.Law.{StandsLaw}
use Rattle.lk_types.proofs.Parts.{same_some}

module _ (f : Forms) where
  abbrev HasBody : ℕ → Type 0
  HasBody label = IsSome (body_at f label)

  -- what this number is a node of has a body
  abbrev IsBodied : ℕ → Type 0
  IsBodied k = (form : Form) → form_at f k ≡ Some form → HasBody form.within

  label_body : {owner ty label : ℕ} {node : Option ℕ} {place : Loc} {names : List (List ℕ)} {params : List Word} {body : Body} → IsBodyLabel f owner node ty label place names params body → HasBody label
  label_body of = subst IsSome (sym (ap body_of of.is ∙ of.body_is)) refl

  itself_bodied : {within : ℕ} (n : ℕ) (form : Form) → form_at f n ≡ Some form → form.within ≡ within → HasBody within → IsBodied n
  itself_bodied n form is in_it body other there = subst HasBody (sym (ap (λ (g : Form). g.within) (same_some (sym there ∙ is)) ∙ in_it)) body

  mutual
    bodied_in : {owner within n : ℕ} {e : Expr} {p q : Pending} → IsLowered f owner within e p n q → HasBody within → (k : ℕ) → p.next ≤ k → k < q.next → IsBodied k
    bodied_in {owner = owner} {n = n} {p = p} (low.node form inside between number is at in_it has shell parts tails) body k from to =
        let next : inside.next ≡ p.next + 1 = (own_step f owner _ _ shell).0 in
        ⊎_elim (λ (later : p.next < k).
        ⊎_elim (λ (before : k < between.next). let further : inside.next ≤ k = omega (arith, next) in all_bodied_in parts body k further before) (λ (behind : between.next ≤ k). all_bodied_in tails body k behind to) (cases_lt k between.next))
        (λ (here : k ≤ p.next). let same : n ≡ k = omega (arith, number) in subst IsBodied same (itself_bodied n form is in_it body))
        (cases_lt p.next k)
    bodied_in {n = n} {p = p} (low.lambda form l xs own is number there at in_it has kind_is locals no_part no_tail label inner) body k from to =
        ⊎_elim (λ (later : p.next < k). let further : p.next + 1 ≤ k = omega arith in bodied_in inner (label_body label) k further to)
        (λ (here : k ≤ p.next). let same : n ≡ k = omega (arith, number) in subst IsBodied same (itself_bodied n form there in_it body))
        (cases_lt p.next k)

    all_bodied_in : {owner within : ℕ} {es : List Expr} {ns : List ℕ} {p q : Pending} → AreLowered f owner within es p ns q → HasBody within → (k : ℕ) → p.next ≤ k → k < q.next → IsBodied k
    all_bodied_in low.none body k from to = absurd (omega arith)
    all_bodied_in (low.more {between = between} one rest) body k from to =
        ⊎_elim (λ (before : k < between.next). bodied_in one body k from before) (λ (behind : between.next ≤ k). all_bodied_in rest body k behind to) (cases_lt k between.next)

  bodied_from : {i label next : ℕ} {funs : List GroundFun} → AreFuns f i funs label next → (k : ℕ) → next ≤ k → k < length f.nodes → IsBodied k
  bodied_from (low.no_fun wholes titles labels nodes) k from to = absurd (omega (arith, nodes))
  bodied_from (low.one_fun own after ty whole titled type_is of lowered others) k from to =
      ⊎_elim (λ (before : k < after.next). bodied_in lowered (label_body of) k from before) (λ (behind : after.next ≤ k). bodied_from others k behind to) (cases_lt k after.next)

pub stands : StandsLaw
stands g f of n form is = bodied_from f of.funs n (let e : 0 ≤ n = omega arith in e) (slice_get_within f.nodes n form is) form is
