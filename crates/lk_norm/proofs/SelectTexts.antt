-- Bytes of selects.
use Rattle.std.proofs.Common.{◌≡◌, ℕ, ◌+◌, Bool, true, false, ◌-◌, true≢false, if◌then◌else◌, List, [], ◌∷◌, ◌++◌, length, map, Option, Some, None, refl, sym, ◌∙◌, ap, arith, length-append, codes}
use Rattle.std.specs.List.{flat_map, join_by}
use Rattle.lk_ast.specs.declared.table.Base.TheVariants as base
use Rattle.lk_ast.specs.declared.table.Column.{Column}
use Rattle.lk_sql.specs.Text.{from_text, froms_text, generator_text, name_text, output_text, scalar_text, select_text, selected, selects_text}
use Rattle.lk_sql.specs.declared.tree.FromItem.{FromItem}
use Rattle.lk_sql.specs.declared.tree.Out.{Out}
use Rattle.lk_sql.specs.declared.tree.Scalar.{Scalar, out-Scalar, roll-Scalar, roll-out-Scalar}
use Rattle.lk_sql.specs.declared.tree.Scalar.TheOpen.{Scalar-F}
use Rattle.lk_sql.specs.declared.tree.Scalar.TheVariants as scalar
use Rattle.lk_sql.specs.declared.tree.Select.{Select, out-roll-Select}
use Rattle.lk_sql.specs.declared.tree.SqlOp.{SqlOp}
use Rattle.lk_sql.specs.declared.tree.SqlOp.TheVariants as op
use Rattle.lk_sql.proofs.TextForms.{output_is, scalar_exists, select_is}
use Rattle.lk_norm.specs.Made.{behind, paid, taken}
use Rattle.lk_norm.specs.Normal.{Branch, always, always_level, both, branch, conjunction, generator, is_always, negation, never, no_output, no_select, select, selects}
use Rattle.lk_norm.specs.Walks.{all_paid, cond_of, cond_paid, froms_length, joined, joined_paid, label_paid, outs_paid, select_paid, total, whole, whole_paid, words_length}
use Rattle.lk_norm.proofs.Budget.{paid_length, paid_lit, paid_one, paid_true, taken_both, taken_some}
use Rattle.lk_norm.proofs.Making.{both_paid, nothing_more}

-- ---- sums

swapped : (a b left : ℕ) → behind (taken a left) (taken b) ≡ behind (taken b left) (taken a)
swapped a b left = sym (taken_both a b left) ∙ ap (λ n. taken n left) (omega arith) ∙ taken_both b a left

-- so many bytes, and then what is so many bytes
pub both_taken : (a b left : ℕ) (g : ℕ → Option ℕ) → ((l : ℕ) → g l ≡ taken b l) → behind (taken a left) g ≡ taken (a + b) left
both_taken a b left g h = (λ i. behind (taken a left) (λ l. h l i)) ∙ sym (taken_both a b left)

total_behind : {X : Type 0} (between : List ℕ) (f : X → List ℕ) (xs : List X) → length (flat_map (λ x. between ++ f x) xs) ≡ total (length between) f xs
total_behind between f [] = refl
total_behind between f (x ∷ xs) =
    let a = length-append (between ++ f x) (flat_map (λ x. between ++ f x) xs) in
    let b = length-append between (f x) in
    let c = total_behind between f xs in
    omega (arith, a, b, c)

-- texts with another one between
pub total_joined : {X : Type 0} (between : List ℕ) (f : X → List ℕ) (x : X) (xs : List X) → length between + length (join_by f between (x ∷ xs)) ≡ total (length between) f (x ∷ xs)
total_joined between f x xs =
    let a = length-append (f x) (flat_map (λ x. between ++ f x) xs) in
    let b = total_behind between f xs in
    omega (arith, a, b)

total_more : {X : Type 0} (n : ℕ) (f : X → List ℕ) (xs : List X) (x : X) → total n f (xs ++ x ∷ []) ≡ total n f xs + (n + length (f x))
total_more n f [] x = omega arith
total_more n f (y ∷ xs) x = let e = total_more n f xs x in omega (arith, e)

-- ---- generators

pub one_more : {X : Type 0} (xs : List X) (x : X) → length (xs ++ x ∷ []) ≡ length xs + 1
one_more xs x = length-append xs (x ∷ [])

pub paid_from : (n : ℕ) (table : List ℕ) (left : ℕ)
    → taken (2 + length (from_text (generator n table))) left ≡ behind (taken 6 left) (λ l. behind (taken (length (name_text table)) l) (taken (length (generator_text n))))
paid_from n table left =
    let a = length-append (name_text table) (codes " AS " ++ generator_text n) in
    let b = length-append (codes " AS ") (generator_text n) in
    ap (λ n. taken n left) (omega (arith, a, b))
    ∙ sym (both_taken 6 (length (name_text table) + length (generator_text n)) left (λ l. behind (taken (length (name_text table)) l) (taken (length (generator_text n)))) (λ l. sym (taken_both (length (name_text table)) (length (generator_text n)) l)))

pub paid_froms : (froms : List FromItem) (from : FromItem) (left : ℕ) → taken (froms_length (froms ++ from ∷ [])) left ≡ behind (taken (froms_length froms) left) (taken (2 + length (from_text from)))
paid_froms froms from left = ap (λ n. taken n left) (total_more 2 from_text froms from) ∙ taken_both (froms_length froms) (2 + length (from_text from)) left

-- ---- conditions

level_always : (x : Scalar-F Scalar Out Select) → always_level x ≡ true → x ≡ Scalar-F.Lit (base.Bool true)
level_always (Scalar-F.Lit (base.Bool b)) e = ap (λ b. Scalar-F.Lit (base.Bool b)) e
level_always (Scalar-F.Lit (base.Int n)) e = absurd (true≢false (sym e))
level_always (Scalar-F.Lit (base.Text n)) e = absurd (true≢false (sym e))
level_always (Scalar-F.Param n) e = absurd (true≢false (sym e))
level_always (Scalar-F.Column n label) e = absurd (true≢false (sym e))
level_always (Scalar-F.Op o xs) e = absurd (true≢false (sym e))
level_always (Scalar-F.Case c a b) e = absurd (true≢false (sym e))
level_always (Scalar-F.Exists selects) e = absurd (true≢false (sym e))

-- what is TRUE is that literal
always_is : (s : Scalar) → is_always s ≡ true → s ≡ always
always_is s e = sym (roll-out-Scalar s) ∙ ap roll-Scalar (level_always (out-Scalar s) e) ∙ scalar.rolls-Lit (base.Bool true)

not_op : (o : SqlOp) (xs : List Scalar) → is_always (scalar.Op o xs) ≡ false
not_op o xs = ap always_level (scalar.outs-Op o xs)

pub cond_not : (s : Scalar) → cond_of (negation s) ≡ Some (negation s)
cond_not s = ap (λ b. if b then None else Some (negation s)) (not_op op.Not (s ∷ []))

pub paid_not : (s : Scalar) (left : ℕ) → cond_paid (negation s) left ≡ behind (taken 6 left) (paid s)
paid_not s left = ap (λ b. if b then Some left else paid (negation s) left) (not_op op.Not (s ∷ [])) ∙ paid_one op.Not s left

-- four bytes more for what may be TRUE
pub paid_more : (s : Scalar) (left : ℕ) → cond_paid s left ≡ behind (paid s (left + 4)) (λ l. if is_always s then Some l else taken 4 l)
unfolding paid taken
paid_more s left = step (is_always s) refl
  where
    back : (n : ℕ) → n + 4 - 4 ≡ n
    back n = omega arith

    four : (n : ℕ) → taken 4 (n + 4) ≡ Some n
    four n = taken_some 4 (n + 4) (omega arith) ∙ ap Some (back n)

    step : (b : Bool) → is_always s ≡ b → (if b then Some left else paid s left) ≡ behind (paid s (left + 4)) (λ l. if b then Some l else taken 4 l)
    step true e = sym (four left) ∙ sym (paid_true (left + 4)) ∙ ap (λ s. paid s (left + 4)) (sym (always_is s e)) ∙ nothing_more (paid s (left + 4))
    step false e = ap (λ o. behind o (paid s)) (sym (four left)) ∙ swapped 4 (length (scalar_text s)) (left + 4)

pub cond_both : (a b : Scalar) → cond_of (conjunction a b) ≡ joined (cond_of a) (cond_of b)
cond_both a b = step (is_always a) (is_always b) refl refl
  where
    step : (x y : Bool) → is_always a ≡ x → is_always b ≡ y → cond_of (if x then b else (if y then a else both a b)) ≡ joined (if x then None else Some a) (if y then None else Some b)
    step true y e f = ap (λ y. if y then None else Some b) f
    step false true e f = ap (λ x. if x then None else Some a) e
    step false false e f = ap (λ x. if x then None else Some (both a b)) (not_op op.And (a ∷ b ∷ []))

pub cond_both_paid : (a b : Scalar) (left : ℕ) → cond_paid (conjunction a b) left ≡ behind (cond_paid a left) (λ l. behind (cond_paid b l) (joined_paid (cond_of a) (cond_of b)))
unfolding paid
cond_both_paid a b left = step (is_always a) (is_always b) refl refl
  where
    step : (x y : Bool) → is_always a ≡ x → is_always b ≡ y
        → cond_paid (if x then b else (if y then a else both a b)) left ≡ behind (if x then Some left else paid a left) (λ l. behind (if y then Some l else paid b l) (joined_paid (if x then None else Some a) (if y then None else Some b)))
    step true true e f = ap (λ y. if y then Some left else paid b left) f
    step true false e f = ap (λ y. if y then Some left else paid b left) f ∙ nothing_more (paid b left)
    step false true e f = ap (λ x. if x then Some left else paid a left) e ∙ nothing_more (paid a left)
    step false false e f =
        ap (λ x. if x then Some left else paid (both a b) left) (not_op op.And (a ∷ b ∷ []))
        ∙ both_paid a b left
        ∙ λ i. behind (paid a left) (λ l. swapped 7 (length (scalar_text b)) l i)

pub whole_of : (s : Scalar) → whole (cond_of s) ≡ s
whole_of s = step (is_always s) refl
  where
    step : (x : Bool) → is_always s ≡ x → whole (if x then None else Some s) ≡ s
    step true e = sym (always_is s e)
    step false e = refl

paid_whole : (s : Scalar) (left : ℕ) → paid s left ≡ behind (cond_paid s left) (whole_paid (cond_of s))
paid_whole s left = step (is_always s) refl
  where
    step : (x : Bool) → is_always s ≡ x → paid s left ≡ behind (if x then Some left else paid s left) (whole_paid (if x then None else Some s))
    step true e = ap (λ s. paid s left) (always_is s e) ∙ paid_true left
    step false e = nothing_more (paid s left)

-- ---- selects

outs_taken : (outs : List Out) (left : ℕ) → outs_paid outs left ≡ taken (total 2 output_text outs) left
unfolding paid taken
outs_taken [] left = refl
outs_taken (out ∷ outs) left =
    let n = length (scalar_text out.scalar) in
    let m = length (name_text out.label) in
    let k = total 2 output_text outs in
    let a = ap length (output_is out) ∙ length-append (scalar_text out.scalar) (codes " AS " ++ name_text out.label) in
    let b = length-append (codes " AS ") (name_text out.label) in
    both_taken n ((6 + m) + k) left (λ l. behind (label_paid out.label l) (outs_paid outs)) (λ l. ap (λ o. behind o (outs_paid outs)) (sym (taken_both 6 m l)) ∙ both_taken (6 + m) k l (outs_paid outs) (outs_taken outs))
    ∙ ap (λ n. taken n left) (omega (arith, a, b))

selected_length : (outs froms cond : List ℕ) → length (selected outs froms cond) ≡ 14 + (length outs + (length froms + length cond))
selected_length outs froms cond =
    let a = length-append outs (froms ++ (codes " WHERE " ++ cond)) in
    let b = length-append froms (codes " WHERE " ++ cond) in
    omega (arith, a, b)

words : (froms : List FromItem) (outs : List Out) (n : ℕ)
    → 14 + (length (join_by output_text (codes ", ") outs) + (length (froms_text froms) + n)) ≡ total 2 output_text outs + (froms_length froms + (words_length froms outs + n))
words [] [] n = omega arith
words [] (out ∷ outs) n = let a = total_joined (codes ", ") output_text out outs in omega (arith, a)
words (from ∷ froms) [] n =
    let a = total_joined (codes ", ") from_text from froms in
    let b = length-append (codes " FROM ") (join_by from_text (codes ", ") (from ∷ froms)) in
    omega (arith, a, b)
words (from ∷ froms) (out ∷ outs) n =
    let a = total_joined (codes ", ") from_text from froms in
    let b = length-append (codes " FROM ") (join_by from_text (codes ", ") (from ∷ froms)) in
    let c = total_joined (codes ", ") output_text out outs in
    omega (arith, a, b, c)

select_length : (froms : List FromItem) (cond : Scalar) (outs : List Out)
    → length (select_text (select (branch froms cond outs))) ≡ total 2 output_text outs + (froms_length froms + (words_length froms outs + length (scalar_text cond)))
select_length froms cond outs =
    ap length (select_is (select (branch froms cond outs)))
    ∙ ap (λ s. length (selected (join_by output_text (codes ", ") s.outs) (froms_text s.froms) (scalar_text s.cond))) (out-roll-Select _)
    ∙ selected_length (join_by output_text (codes ", ") outs) (froms_text froms) (scalar_text cond)
    ∙ words froms outs (length (scalar_text cond))

by_parts : (froms : List FromItem) (cond : Scalar) (outs : List Out) (left : ℕ)
    → select_paid (select (branch froms cond outs)) left ≡ behind (outs_paid outs left) (λ l. behind (taken (froms_length froms) l) (λ l. behind (taken (words_length froms outs) l) (paid cond)))
unfolding paid select_paid
by_parts froms cond outs left =
    let n = total 2 output_text outs in
    let m = froms_length froms in
    let k = words_length froms outs in
    let c = length (scalar_text cond) in
    ap (λ n. taken n left) (select_length froms cond outs)
    ∙ sym (both_taken n (m + (k + c)) left (λ l. behind (taken m l) (λ l. behind (taken k l) (taken c))) (λ l. both_taken m (k + c) l (λ l. behind (taken k l) (taken c)) (λ l. sym (taken_both k c l))))
    ∙ ap (λ o. behind o (λ l. behind (taken m l) (λ l. behind (taken k l) (taken c)))) (sym (outs_taken outs left))

pub paid_select : (froms : List FromItem) (cond : Scalar) (outs : List Out) (left : ℕ)
    → select_paid (select (branch froms cond outs)) left
    ≡ behind (outs_paid outs left) (λ l. behind (taken (froms_length froms) l) (λ l. behind (taken (words_length froms outs) l) (λ l. behind (cond_paid cond l) (whole_paid (cond_of cond)))))
paid_select froms cond outs left =
    by_parts froms cond outs left ∙ λ i. behind (outs_paid outs left) (λ l. behind (taken (froms_length froms) l) (λ l. behind (taken (words_length froms outs) l) (λ l. paid_whole cond l i)))

pub paid_no_select : (columns : List Column) (left : ℕ)
    → select_paid (no_select columns) left ≡ behind (outs_paid (map no_output columns) left) (λ l. behind (taken (words_length [] (map no_output columns)) l) (taken 5))
unfolding taken
paid_no_select columns left =
    by_parts [] never (map no_output columns) left ∙ λ i. behind (outs_paid (map no_output columns) left) (λ l. behind (taken (words_length [] (map no_output columns)) l) (λ l. paid_lit (base.Bool false) l i))

-- ---- several selects

pub all_taken : (selects : List Select) (left : ℕ) → all_paid selects left ≡ taken (total 11 select_text selects) left
unfolding select_paid taken
all_taken [] left = refl
all_taken (s ∷ selects) left =
    both_taken 11 (length (select_text s) + total 11 select_text selects) left (λ l. behind (select_paid s l) (all_paid selects)) (λ l. both_taken (length (select_text s)) (total 11 select_text selects) l (all_paid selects) (all_taken selects))
    ∙ ap (λ n. taken n left) (omega arith)

exists_paid : (s : Select) (selects : List Select) (left : ℕ) → paid (scalar.Exists (s ∷ selects)) left ≡ all_paid (s ∷ selects) left
exists_paid s selects left =
    let a = total_joined (codes " UNION ALL ") select_text s selects in
    let b = length-append (codes "(EXISTS (") (selects_text (s ∷ selects) ++ codes "))") in
    let c = length-append (selects_text (s ∷ selects)) (codes "))") in
    paid_length (scalar.Exists (s ∷ selects)) (total 11 select_text (s ∷ selects)) left (ap length (scalar_exists (s ∷ selects)) ∙ omega (arith, a, b, c))
    ∙ sym (all_taken (s ∷ selects) left)

pub paid_empty : (columns : List Column) (branches : List Branch) (left : ℕ)
    → paid (negation (scalar.Exists (selects columns branches))) left ≡ behind (taken 6 left) (all_paid (selects columns branches))
paid_empty columns branches left = paid_one op.Not (scalar.Exists (selects columns branches)) left ∙ λ i. behind (taken 6 left) (λ l. some branches l i)
  where
    some : (branches : List Branch) (left : ℕ) → paid (scalar.Exists (selects columns branches)) left ≡ all_paid (selects columns branches) left
    some [] left = exists_paid (no_select columns) [] left
    some (b ∷ branches) left = exists_paid (select b) (map select branches) left
