-- What the code makes, by what the definitions say.
use Rattle.std.proofs.Common.{◌≡◌, ℕ, ◌+◌, ◌<◌, ◌==◌, drop, get_or, Bool, true, false, if◌then◌else◌, List, [], ◌∷◌, ◌++◌, length, map, Option, Some, None, bytes_eq, refl, sym, ◌∙◌, ap, codes, arith, length-append}
use Rattle.std.specs.Fmt.{decimal}
use Rattle.std.specs.Bool.{Decides}
use Rattle.std.proofs.lemmas.Bool.{eq-eqb}
use Rattle.std.proofs.lemmas.List.{drop_more}
use Rattle.std.proofs.lemmas.Slice.Eq.{bytes_eq-Decides}
use Rattle.lk_sql.specs.declared.tree.Out.{Out}
use Rattle.lk_sql.specs.declared.tree.Scalar.{Scalar}
use Rattle.lk_sql.specs.declared.tree.Scalar.TheVariants as scalar
use Rattle.lk_sql.specs.declared.tree.SqlOp.TheVariants as op
use Rattle.lk_sql.specs.Text.{generator_text, name_text, scalar_text}
use Rattle.lk_sql.proofs.TextForms.{scalar_column, scalar_param}
use Rattle.lk_ast.specs.declared.table.Column.{Column}
use Rattle.lk_query.specs.Captured.{bindings_from}
use Rattle.lk_query.specs.declared.query.Captured.{Captured}
use Rattle.lk_query.specs.declared.query.Captured.TheVariants as captured
use Rattle.lk_norm.specs.Captured.{names_from}
use Rattle.lk_norm.specs.Made.{behind, has_label, more_paid, paid, taken}
use Rattle.lk_norm.specs.Normal.{both, columns_of, equal_at, equal_from, no_scalar, output, scalar_in, scalar_or}
use Rattle.lk_norm.specs.Scopes.{of_captured, width}
use Rattle.lk_norm.proofs.Budget.{length_two, paid_length, taken_both}
use Rattle.lk_norm.proofs.Counts.{length-map}

-- ---- captured values

pub captured_step : (k n number : ℕ) (one : Captured) (rest : List Captured)
    → names_from k (bindings_from number (one ∷ rest)) n ≡ (if n == number then of_captured k one else names_from (k + width one) (bindings_from (number + 1) rest) n)
captured_step k n number (captured.Base kind) rest = refl
captured_step k n number (captured.Row columns) rest =
    ap (λ w. if n == number then of_captured k (captured.Row columns) else names_from (k + w) (bindings_from (number + 1) rest) n) (length-map (λ (column : Column). column.label) columns)

pub captured_here : (k n number i : ℕ) (list : List Captured) (one d : Captured) → i < length list → one ≡ get_or list i d → n ≡ number
    → names_from k (bindings_from number (drop i list)) n ≡ of_captured k one
captured_here k n number i list one d within at same =
    ap (λ rest. names_from k (bindings_from number rest) n) (drop_more list i d within)
    ∙ captured_step k n number (get_or list i d) (drop (i + 1) list)
    ∙ ap (λ b. if b then of_captured k (get_or list i d) else names_from (k + width (get_or list i d)) (bindings_from (number + 1) (drop (i + 1) list)) n) (eq-eqb n number same)
    ∙ ap (of_captured k) (sym at)

-- ---- the scalar under a label

in_labels : (f : List ℕ → Scalar) (labels : List (List ℕ)) (label : List ℕ)
    → scalar_in (map (λ l. output l (f l)) labels) label ≡ (if has_label labels label then f label else no_scalar)
in_labels f [] label = refl
in_labels f (l ∷ labels) label = step (bytes_eq l label) (bytes_eq-Decides l label) (in_labels f labels label)
  where
    step : (b : Bool) → Decides b (l ≡ label)
        → scalar_in (map (λ l. output l (f l)) labels) label ≡ (if has_label labels label then f label else no_scalar)
        → (if b then f l else scalar_in (map (λ l. output l (f l)) labels) label) ≡ (if (if b then true else has_label labels label) then f label else no_scalar)
    step true e h = ap f (e.0 refl)
    step false e h = h

pub choice_in : (c : Scalar) (a b : List Out) (labels : List (List ℕ)) (label : List ℕ)
    → scalar_in (map (λ l. output l (scalar.Case c (scalar_in a l) (scalar_in b l))) labels) label ≡ (if has_label labels label then scalar.Case c (scalar_in a label) (scalar_in b label) else no_scalar)
choice_in c a b labels label = in_labels (λ l. scalar.Case c (scalar_in a l) (scalar_in b l)) labels label

pub extended_in : (outs rest : List Out) (labels : List (List ℕ)) (label : List ℕ)
    → scalar_in (map (λ l. output l (scalar_or outs rest l)) labels) label ≡ (if has_label labels label then scalar_or outs rest label else no_scalar)
extended_in outs rest labels label = in_labels (scalar_or outs rest) labels label

pub columns_in : (n : ℕ) (labels : List (List ℕ)) (label : List ℕ)
    → scalar_in (columns_of n labels) label ≡ (if has_label labels label then scalar.Column n label else no_scalar)
columns_in n labels label = in_labels (scalar.Column n) labels label

-- ---- parameters and columns

pub paid_param : (k left : ℕ) → paid (scalar.Param k) left ≡ taken (length (decimal k) + 1) left
paid_param k left = paid_length (scalar.Param k) _ left (ap length (scalar_param k) ∙ omega (arith, length-append (codes ":") (decimal k)))

pub paid_column : (n : ℕ) (label : List ℕ) (left : ℕ) → paid (scalar.Column n label) left ≡ behind (taken (length (generator_text n) + 1) left) (taken (length (name_text label)))
paid_column n label left =
    let a = length-append (generator_text n) (codes "." ++ name_text label) in
    let b = length-append (codes ".") (name_text label) in
    paid_length (scalar.Column n label) ((length (generator_text n) + 1) + length (name_text label)) left (ap length (scalar_column n label) ∙ omega (arith, a, b))
    ∙ taken_both (length (generator_text n) + 1) (length (name_text label)) left

-- ---- equal rows

length_both : (s e : Scalar) → length (scalar_text (both s e)) ≡ length (scalar_text s) + (7 + length (scalar_text e))
length_both s e = let h = length_two op.And s e in omega (arith, h)

pub both_paid : (s e : Scalar) (left : ℕ) → paid (both s e) left ≡ behind (paid s left) (λ l. behind (taken 7 l) (paid e))
unfolding paid
both_paid s e left =
    ap (λ n. taken n left) (length_both s e)
    ∙ taken_both (length (scalar_text s)) (7 + length (scalar_text e)) left
    ∙ λ i. behind (taken (length (scalar_text s)) left) (λ l. taken_both 7 (length (scalar_text e)) l i)

pub nothing_more : (o : Option ℕ) → o ≡ behind o Some
nothing_more None = refl
nothing_more (Some left) = refl

pub behind_both : (o : Option ℕ) (f g : ℕ → Option ℕ) → behind (behind o f) g ≡ behind o (λ l. behind (f l) g)
behind_both None f g = refl
behind_both (Some left) f g = refl

pub paid_equal : (s : Scalar) (outs others : List Out) (labels : List (List ℕ)) (left : ℕ)
    → paid (equal_from s outs others labels) left ≡ behind (paid s left) (more_paid outs others labels)
paid_equal s outs others [] left = nothing_more (paid s left)
paid_equal s outs others (label ∷ labels) left =
    paid_equal (both s (equal_at outs others label)) outs others labels left
    ∙ ap (λ o. behind o (more_paid outs others labels)) (both_paid s (equal_at outs others label) left)
    ∙ behind_both (paid s left) (λ l. behind (taken 7 l) (paid (equal_at outs others label))) (more_paid outs others labels)
    ∙ λ i. behind (paid s left) (λ l. behind_both (taken 7 l) (paid (equal_at outs others label)) (more_paid outs others labels) i)
