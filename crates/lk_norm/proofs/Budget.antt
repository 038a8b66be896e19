-- Bytes that are taken from those that are left.
use Rattle.std.proofs.Common.{◌≡◌, ℕ, zero, suc, ◌+◌, ◌-◌, ◌<◌, ◌≤◌, [], ◌∷◌, ◌++◌, length, Some, None, refl, ◌∙◌, ap, arith, length-append, codes, pos, true}
use Rattle.lk_ast.specs.declared.table.Base.{Base}
use Rattle.lk_sql.specs.Text.{base_text, scalar_text, sign}
use Rattle.lk_sql.specs.declared.tree.Scalar.{Scalar}
use Rattle.lk_sql.specs.declared.tree.Scalar.TheVariants as scalar
use Rattle.lk_sql.specs.declared.tree.SqlOp.{SqlOp}
use Rattle.lk_sql.proofs.TextForms.{operation_of_one, scalar_case, scalar_lit, scalar_op}
use Rattle.std.proofs.lemmas.Fmt.{decimal_digit}
use Rattle.std.proofs.Math.Nat.{suc-add}
use Rattle.lk_ast.specs.declared.table.Base.TheVariants as base
use Rattle.lk_norm.specs.Made.{behind, paid, taken}
use Rattle.lk_norm.specs.Normal.{always, no_scalar}

-- ---- bytes

zero_first : (b : ℕ) → 0 + b ≡ b
zero_first b = omega arith

pub taken_both : (a b left : ℕ) → taken (a + b) left ≡ behind (taken a left) (taken b)
unfolding taken
taken_both zero b left = ap (λ n. taken n left) (zero_first b)
taken_both (suc a) b zero = ap (λ n. taken n 0) (suc-add a b)
taken_both (suc a) b (suc left) = ap (λ n. taken n (suc left)) (suc-add a b) ∙ taken_both a b left

pub taken_nothing : (left : ℕ) → taken 0 left ≡ Some left
unfolding taken
taken_nothing left = refl

pub taken_none : (n left : ℕ) → left < n → taken n left ≡ None
unfolding taken
taken_none zero left l = absurd (omega (arith, l))
taken_none (suc n) zero l = refl
taken_none (suc n) (suc left) l = taken_none n left (omega (arith, l))

pub taken_some : (n left : ℕ) → n ≤ left → taken n left ≡ Some (left - n)
unfolding taken
taken_some zero left l = ap Some (omega arith)
taken_some (suc n) zero l = absurd (omega (arith, l))
taken_some (suc n) (suc left) l = taken_some n left (omega (arith, l)) ∙ ap Some (omega arith)

-- ---- scalars

pub paid_length : (s : Scalar) (n left : ℕ) → length (scalar_text s) ≡ n → paid s left ≡ taken n left
unfolding paid
paid_length s n left is = ap (λ n. taken n left) is

pub paid_lit : (b : Base) (left : ℕ) → paid (scalar.Lit b) left ≡ taken (length (base_text b)) left
paid_lit b left = paid_length (scalar.Lit b) _ left (ap length (scalar_lit b))

length_one : (o : SqlOp) (s : Scalar) → length (scalar_text (scalar.Op o (s ∷ []))) ≡ (length (sign o) + 2) + length (scalar_text s)
length_one o s =
    let a = length-append (sign o) (scalar_text s ++ codes ")") in
    let b = length-append (scalar_text s) (codes ")") in
    ap length (scalar_op o (s ∷ []) ∙ operation_of_one o s) ∙ omega (arith, a, b)

pub paid_one : (o : SqlOp) (s : Scalar) (left : ℕ) → paid (scalar.Op o (s ∷ [])) left ≡ behind (taken (length (sign o) + 2) left) (paid s)
unfolding paid
paid_one o s left = ap (λ n. taken n left) (length_one o s) ∙ taken_both (length (sign o) + 2) (length (scalar_text s)) left

pub length_two : (o : SqlOp) (s t : Scalar) → length (scalar_text (scalar.Op o (s ∷ t ∷ []))) ≡ (length (sign o) + 2) + (length (scalar_text s) + length (scalar_text t))
length_two o s t =
    let a = length-append (scalar_text s ++ ((sign o ++ scalar_text t) ++ [])) (codes ")") in
    let b = length-append (scalar_text s) ((sign o ++ scalar_text t) ++ []) in
    let c = length-append (sign o ++ scalar_text t) [] in
    let d = length-append (sign o) (scalar_text t) in
    ap length (scalar_op o (s ∷ t ∷ [])) ∙ omega (arith, a, b, c, d)

pub paid_two : (o : SqlOp) (s t : Scalar) (left : ℕ) → paid (scalar.Op o (s ∷ t ∷ [])) left ≡ behind (taken (length (sign o) + 2) left) (λ l. behind (paid s l) (paid t))
unfolding paid
paid_two o s t left =
    ap (λ n. taken n left) (length_two o s t)
    ∙ taken_both (length (sign o) + 2) (length (scalar_text s) + length (scalar_text t)) left
    ∙ λ i. behind (taken (length (sign o) + 2) left) (λ l. taken_both (length (scalar_text s)) (length (scalar_text t)) l i)

length_case : (c s t : Scalar) → length (scalar_text (scalar.Case c s t)) ≡ 28 + (length (scalar_text c) + (length (scalar_text s) + length (scalar_text t)))
length_case c s t =
    let e = length-append (scalar_text t) (codes " END)") in
    let f = length-append (scalar_text s) (codes " ELSE " ++ (scalar_text t ++ codes " END)")) in
    let g = length-append (scalar_text c) (codes " THEN " ++ (scalar_text s ++ (codes " ELSE " ++ (scalar_text t ++ codes " END)")))) in
    ap length (scalar_case c s t) ∙ omega (arith, e, f, g)

pub paid_case : (c s t : Scalar) (left : ℕ) → paid (scalar.Case c s t) left ≡ behind (taken 28 left) (λ l. behind (paid c l) (λ l. behind (paid s l) (paid t)))
unfolding paid
paid_case c s t left =
    ap (λ n. taken n left) (length_case c s t)
    ∙ taken_both 28 (length (scalar_text c) + (length (scalar_text s) + length (scalar_text t))) left
    ∙ λ i. behind (taken 28 left) (λ l. (taken_both (length (scalar_text c)) (length (scalar_text s) + length (scalar_text t)) l
    ∙ λ j. behind (taken (length (scalar_text c)) l) (λ l. taken_both (length (scalar_text s)) (length (scalar_text t)) l j)) i)

zero_length : length (base_text (base.Int (pos 0))) ≡ 1
zero_length = ap length (decimal_digit 0 (omega arith))

pub paid_zero : (left : ℕ) → paid no_scalar left ≡ taken 1 left
paid_zero left = paid_lit (base.Int (pos 0)) left ∙ ap (λ n. taken n left) zero_length

pub paid_true : (left : ℕ) → paid always left ≡ taken 4 left
paid_true left = paid_lit (base.Bool true) left
