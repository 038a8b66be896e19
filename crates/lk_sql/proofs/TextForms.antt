-- The texts of scalars and selects, on each form.
use Rattle.std.proofs.Common.{◌≡◌, ℕ, ◌≢◌, List, [], ◌∷◌, ◌++◌, map, length, refl, ◌∙◌, ap}
use Rattle.std.specs.Fmt.{decimal}
use Rattle.std.specs.List.{join_by}
use Rattle.std.specs.Prelude.{codes, flat_map}
use Rattle.lk_ast.specs.declared.table.Base.{Base}
use Rattle.lk_sql.specs.Text.{Bytes, joined, name_text, base_text, generator_text, sign, operation_text, case_text, exists_text, out_text, froms_text, selected, scalar_text, output_text, select_text, selects_text}
use Rattle.lk_sql.specs.declared.tree.Out.{Out}
use Rattle.lk_sql.specs.declared.tree.Scalar.{Scalar}
use Rattle.lk_sql.specs.declared.tree.Scalar.TheFolds.{the_lemmas}
use Rattle.lk_sql.specs.declared.tree.Scalar.TheVariants as known
use Rattle.lk_sql.specs.declared.tree.Select.{Select, out-Select}
use Rattle.lk_sql.specs.declared.tree.SqlOp.{SqlOp}

-- ---- texts with another one between

behind_map : {X : Type 0} (between : Bytes) (f : X → Bytes) (xs : List X) → flat_map (λ text. between ++ text) (map f xs) ≡ flat_map (λ x. between ++ f x) xs
behind_map between f [] = refl
behind_map between f (x ∷ xs) = ap (λ z. (between ++ f x) ++ z) (behind_map between f xs)

pub joined_map : {X : Type 0} (between : Bytes) (f : X → Bytes) (xs : List X) → joined between (map f xs) ≡ join_by f between xs
joined_map between f [] = refl
joined_map between f (x ∷ xs) = ap (λ z. f x ++ z) (behind_map between f xs)

-- ---- scalars

pub scalar_lit : (b : Base) → scalar_text (known.Lit b) ≡ base_text b
unfolding scalar_text
scalar_lit b = search the_lemmas

pub scalar_param : (k : ℕ) → scalar_text (known.Param k) ≡ codes ":" ++ decimal k
unfolding scalar_text
scalar_param k = search the_lemmas

pub scalar_column : (n : ℕ) (label : Bytes) → scalar_text (known.Column n label) ≡ generator_text n ++ (codes "." ++ name_text label)
unfolding scalar_text
scalar_column n label = search the_lemmas

pub scalar_op : (o : SqlOp) (xs : List Scalar) → scalar_text (known.Op o xs) ≡ operation_text o (map scalar_text xs)
unfolding scalar_text
scalar_op o xs = search the_lemmas

pub scalar_case : (c a b : Scalar) → scalar_text (known.Case c a b) ≡ case_text (scalar_text c) (scalar_text a) (scalar_text b)
unfolding scalar_text
scalar_case c a b = search the_lemmas

by_exists : (selects : List Select) → scalar_text (known.Exists selects) ≡ exists_text (joined (codes " UNION ALL ") (map select_text selects))
unfolding scalar_text select_text
by_exists selects = search the_lemmas

pub scalar_exists : (selects : List Select) → scalar_text (known.Exists selects) ≡ exists_text (selects_text selects)
scalar_exists selects = by_exists selects ∙ ap exists_text (joined_map (codes " UNION ALL ") select_text selects)

-- ---- operations, by how many operands there are

-- the sign before one operand
pub operation_of_one : (o : SqlOp) (x : Scalar) → operation_text o (map scalar_text (x ∷ [])) ≡ codes "(" ++ (sign o ++ (scalar_text x ++ codes ")"))
operation_of_one o x = refl

-- the sign between the operands
pub operation_of_others : (o : SqlOp) (xs : List Scalar) → length xs ≢ 1 → operation_text o (map scalar_text xs) ≡ codes "(" ++ (join_by scalar_text (sign o) xs ++ codes ")")
operation_of_others o [] others = refl
operation_of_others o (x ∷ []) others = absurd (others refl)
operation_of_others o (x ∷ y ∷ xs) others = ap (λ z. codes "(" ++ (z ++ codes ")")) (joined_map (sign o) scalar_text (x ∷ y ∷ xs))

-- ---- selects

pub output_is : (out : Out) → output_text out ≡ out_text (scalar_text out.scalar) out.label
unfolding scalar_text output_text
output_is out = search the_lemmas

by_select : (s : Select) → select_text s ≡ selected (joined (codes ", ") (map output_text (out-Select s).outs)) (froms_text (out-Select s).froms) (scalar_text (out-Select s).cond)
unfolding scalar_text output_text select_text
by_select s = search the_lemmas

pub select_is : (s : Select) → select_text s ≡ selected (join_by output_text (codes ", ") (out-Select s).outs) (froms_text (out-Select s).froms) (scalar_text (out-Select s).cond)
select_is s = by_select s ∙ ap (λ z. selected z (froms_text (out-Select s).froms) (scalar_text (out-Select s).cond)) (joined_map (codes ", ") output_text (out-Select s).outs)
