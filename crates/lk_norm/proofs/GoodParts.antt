-- What a part stands for is well formed, where each part gives a thing of its kind.
use Rattle.std.proofs.Common.{◌≡◌, ℕ, ◌+◌, ◌<◌, ◌&&◌, ◌==◌, Bool, true, false, List, [], ◌∷◌, map, length, Some, slice_get, refl, sym, ◌∙◌, ap, ap₂, subst, if◌then◌else◌, bytes_eq, true≢false}
use Rattle.std.specs.Cmp.Lexicographic.{bytes_decides}
use Rattle.std.specs.List.{list_all}
use Rattle.std.proofs.lemmas.Bool.{eqb-true, eq-eqb}
use Rattle.lk_ast.specs.declared.table.Base.TheVariants as base
use Rattle.lk_ast.specs.declared.table.Column.{Column}
use Rattle.lk_sql.specs.Good.{Judged, are_alike, are_in_order, are_same, first_labels, is_good, judged, operand_count, select_level}
use Rattle.lk_sql.specs.Operations.{zero_base}
use Rattle.lk_sql.specs.declared.tree.FromItem.{FromItem}
use Rattle.lk_sql.specs.declared.tree.Out.{Out}
use Rattle.lk_sql.specs.declared.tree.Scalar.{Scalar}
use Rattle.lk_sql.specs.declared.tree.Scalar.TheVariants as scalar
use Rattle.lk_sql.specs.declared.tree.Select.{Select}
use Rattle.lk_sql.specs.declared.tree.SqlOp.{SqlOp}
use Rattle.lk_sql.specs.declared.tree.SqlOp.TheVariants as op
use Rattle.lk_query.specs.Kinds.{AllHave, AreBases, AreColumns, HasUnder, Has, HasColumns, Is, IsList, Kind, OfBase, OfList, OfRecord, labels_of}
use Rattle.lk_query.specs.Order.{AllBelow, AreOrdered, Below, LabelledBelow, bind}
use Rattle.lk_query.specs.declared.part.Labelled.{Labelled}
use Rattle.lk_query.specs.declared.part.Part.{Part}
use Rattle.lk_query.specs.declared.part.Part.TheVariants as part
use Rattle.lk_query.proofs.Placed.{filled-placed}
use Rattle.lk_norm.specs.Normal.{Branch, Names, Stands, StandsFor, always, as_base, as_list, as_row, both, branch, conjunction, equal_at, equal_from, equal_rows, is_always, negation, never, next, no_output, norm_level, norms, nothing, output, outputs, scalar_in, scalar_or, select, selects, test, zero_of}
use Rattle.lk_norm.proofs.GoodForms.{good-Case, good-Column, good-Exists, good-Lit, good-Op, judged-is}
use Rattle.lk_norm.proofs.Shows.{Each, Each-append, Each-flat}

-- ---- scalars

abbrev pub IsGood : Scalar → Type 0
IsGood s = is_good s ≡ true

pub good-not : (c : Scalar) → IsGood c → IsGood (negation c)
good-not c e = good-Op op.Not (c ∷ []) ∙ ap (λ g. g && true) e

good-one : (o : SqlOp) (a : Scalar) → operand_count o ≡ 1 → IsGood a → IsGood (scalar.Op o (a ∷ []))
good-one o a c e = good-Op o (a ∷ []) ∙ ap₂ (λ x y. x && (y && true)) (eq-eqb 1 (operand_count o) (sym c)) e

good-two : (o : SqlOp) (a b : Scalar) → operand_count o ≡ 2 → IsGood a → IsGood b → IsGood (scalar.Op o (a ∷ b ∷ []))
good-two o a b c e f = good-Op o (a ∷ b ∷ []) ∙ ap₂ (λ x y. x && y) (eq-eqb 2 (operand_count o) (sym c)) (ap₂ (λ x y. x && (y && true)) e f)

good-case : (c a b : Scalar) → IsGood c → IsGood a → IsGood b → IsGood (scalar.Case c a b)
good-case c a b e f g = good-Case c a b ∙ ap₂ (λ x y. x && y) e (ap₂ (λ x y. x && y) f g)

pub good-always : IsGood always
good-always = good-Lit (base.Bool true)

pub good-conjunction : (c d : Scalar) → IsGood c → IsGood d → IsGood (conjunction c d)
good-conjunction c d e f = by_tests (is_always c) (is_always d)
  where
    by_tests : (x y : Bool) → IsGood (if x then d else (if y then c else both c d))
    by_tests true y = f
    by_tests false true = e
    by_tests false false = good-two op.And c d refl e f

-- ---- outputs

abbrev pub out_labels : List Out → List (List ℕ)
out_labels outs = map (λ (out : Out). out.label) outs

abbrev pub AreGoodScalars : List Out → Type 0
AreGoodScalars outs = Each (λ (out : Out). IsGood out.scalar) outs

abbrev pub AreGood : List (List ℕ) → List Out → Type 0
AreGood labels outs = (out_labels outs ≡ labels) × AreGoodScalars outs

good-in : (outs : List Out) (label : List ℕ) → AreGoodScalars outs → IsGood (scalar_in outs label)
good-in [] label all = good-Lit zero_base
good-in (out ∷ outs) label all = step (bytes_eq out.label label) (good-in outs label all.1)
  where
    step : (b : Bool) → IsGood (scalar_in outs label) → IsGood (if b then out.scalar else scalar_in outs label)
    step true e = all.0
    step false e = e

good-or : (outs rest : List Out) (label : List ℕ) → AreGoodScalars outs → AreGoodScalars rest → IsGood (scalar_or outs rest label)
good-or [] rest label all others = good-in rest label others
good-or (out ∷ outs) rest label all others = step (bytes_eq out.label label) (good-or outs rest label all.1 others)
  where
    step : (b : Bool) → IsGood (scalar_or outs rest label) → IsGood (if b then out.scalar else scalar_or outs rest label)
    step true e = all.0
    step false e = e

-- an output for each label
pub good-labels : (f : List ℕ → Scalar) (labels : List (List ℕ)) → ((label : List ℕ) → IsGood (f label)) → AreGood labels (map (λ label. output label (f label)) labels)
good-labels f [] e = (refl, tt)
good-labels f (label ∷ labels) e = let rest = good-labels f labels e in (ap (λ ls. label ∷ ls) rest.0, (e label, rest.1))

good-equal_at : (a b : List Out) (label : List ℕ) → AreGoodScalars a → AreGoodScalars b → IsGood (equal_at a b label)
good-equal_at a b label e f = good-two op.Eq (scalar_in a label) (scalar_in b label) refl (good-in a label e) (good-in b label f)

good-equal_from : (x : Scalar) (a b : List Out) (labels : List (List ℕ)) → IsGood x → AreGoodScalars a → AreGoodScalars b → IsGood (equal_from x a b labels)
good-equal_from x a b [] g e f = g
good-equal_from x a b (label ∷ labels) g e f = good-equal_from (both x (equal_at a b label)) a b labels (good-two op.And x (equal_at a b label) refl g (good-equal_at a b label e f)) e f

good-equal : (labels : List (List ℕ)) (a b : List Out) → AreGoodScalars a → AreGoodScalars b → IsGood (equal_rows labels a b)
good-equal [] a b e f = good-always
good-equal (label ∷ labels) a b e f = good-equal_from (equal_at a b label) a b labels (good-equal_at a b label e f) e f

-- ---- selects

pub record IsGoodBranch (labels : List (List ℕ)) (b : Branch) : Type 0 where
  pub test : IsGood b.cond
  pub gives : AreGood labels b.outs

same-itself : (labels : List (List ℕ)) → are_same labels labels ≡ true
same-itself [] = refl
same-itself (label ∷ labels) = ap₂ (λ a b. a && b) ((bytes_decides label label).1 refl) (same-itself labels)

-- every label with what is well formed
abbrev all_good : List (List ℕ) → List (List ℕ × Bool)
all_good labels = map (λ label. (label, true)) labels

outs-good : (labels : List (List ℕ)) (outs : List Out) → AreGood labels outs → map (λ (out : Out). (out.label, is_good out.scalar)) outs ≡ all_good labels
outs-good labels outs good = goods outs good.1 ∙ ap all_good good.0
  where
    goods : (outs : List Out) → AreGoodScalars outs → map (λ (out : Out). (out.label, is_good out.scalar)) outs ≡ all_good (out_labels outs)
    goods [] e = refl
    goods (out ∷ outs) e = ap₂ (λ b rest. (out.label, b) ∷ rest) e.0 (goods outs e.1)

firsts : (labels : List (List ℕ)) → map (λ (out : List ℕ × Bool). out.0) (all_good labels) ≡ labels
firsts [] = refl
firsts (label ∷ labels) = ap (λ ls. label ∷ ls) (firsts labels)

alls : (labels : List (List ℕ)) → list_all (λ (out : List ℕ × Bool). out.1) (all_good labels) ≡ true
alls [] = refl
alls (label ∷ labels) = alls labels

select-good : (froms : List FromItem) (labels : List (List ℕ)) → AreColumns labels → select_level (record { froms = froms; cond = true; outs = all_good labels }) ≡ (labels, true)
select-good froms [] columns = absurd columns
select-good froms (label ∷ labels) columns =
    ap₂ (λ rest b. (label ∷ rest, are_in_order (label ∷ rest) && b)) (firsts labels) (alls labels)
    ∙ ap (λ b. (label ∷ labels, b && true)) columns

judged-good : (labels : List (List ℕ)) → AreColumns labels → (b : Branch) → IsGoodBranch labels b → judged (select b) ≡ (labels, true)
judged-good labels columns b good =
    judged-is b
    ∙ ap₂ (λ cond outs. select_level (record { froms = b.froms; cond = cond; outs = outs })) good.test (outs-good labels b.outs good.gives)
    ∙ select-good b.froms labels columns

all-judged : (labels : List (List ℕ)) → AreColumns labels → (branches : List Branch) → Each (IsGoodBranch labels) branches → map judged (map select branches) ≡ map (λ (b : Branch). (labels, true)) branches
all-judged labels columns [] all = refl
all-judged labels columns (b ∷ branches) all = ap₂ (λ j js. j ∷ js) (judged-good labels columns b all.0) (all-judged labels columns branches all.1)

alike : (labels : List (List ℕ)) (branches : List Branch) → list_all (λ (other : Judged). are_same labels other.0 && other.1) (map (λ (b : Branch). (labels, true)) branches) ≡ true
alike labels [] = refl
alike labels (b ∷ branches) = ap₂ (λ x y. (x && true) && y) (same-itself labels) (alike labels branches)

-- selects with these columns, all well formed
abbrev pub AreGoodSelects : List (List ℕ) → List Select → Type 0
AreGoodSelects labels selects = (are_alike (map judged selects) ≡ true) × (first_labels (map judged selects) ≡ labels)

good-some : (labels : List (List ℕ)) → AreColumns labels → (b : Branch) (branches : List Branch) → IsGoodBranch labels b → Each (IsGoodBranch labels) branches → AreGoodSelects labels (map select (b ∷ branches))
good-some labels columns b branches first all =
    let is = ap₂ (λ j js. j ∷ js) (judged-good labels columns b first) (all-judged labels columns branches all) in
    (ap are_alike is ∙ alike labels branches, ap first_labels is)

no-outputs : (columns : List Column) → AreGood (labels_of columns) (map no_output columns)
no-outputs [] = (refl, tt)
no-outputs (column ∷ columns) = let rest = no-outputs columns in (ap (λ ls. column.label ∷ ls) rest.0, (good-Lit (zero_of column.kind), rest.1))

pub good-selects : (columns : List Column) (branches : List Branch) → AreColumns (labels_of columns) → Each (IsGoodBranch (labels_of columns)) branches → AreGoodSelects (labels_of columns) (selects columns branches)
good-selects columns [] has all = good-some (labels_of columns) has (branch [] never (map no_output columns)) [] (record { test = good-Lit (base.Bool false); gives = no-outputs columns }) tt
good-selects columns (b ∷ branches) has all = good-some (labels_of columns) has b branches all.0 all.1

-- ---- parts

-- whatever stands for a thing of that kind is well formed
abbrev pub GoodAs : Kind → Stands → Type 0
GoodAs OfBase s = (m : ℕ) → IsGood (s.base m)
GoodAs (OfRecord labels) s = (m : ℕ) → AreGood labels (s.row m)
GoodAs (OfList labels) s = (outer : ℕ) (froms : List FromItem) (cond : Scalar) → IsGood cond → Each (IsGoodBranch labels) (s.list outer froms cond)

good-list : (kind : Kind) → IsList kind → (g : ℕ → List FromItem → Scalar → List Branch) → ((labels : List (List ℕ)) → kind ≡ OfList labels → GoodAs (OfList labels) (as_list g)) → GoodAs kind (as_list g)
good-list OfBase is g h = absurd is
good-list (OfRecord labels) is g h = absurd is
good-list (OfList labels) is g h = h labels refl

module _ (kinds : ℕ → Kind) (scopes : ℕ → ℕ → Bool) (columns : (n : ℕ) → HasColumns (kinds n)) where
  abbrev pub InScope : ℕ → Names → Type 0
  InScope n names = (k : ℕ) → scopes n k ≡ true → GoodAs (kinds k) (names k)

  abbrev pub Good : ℕ → StandsFor → Type 0
  Good n f = (names : Names) → InScope n names → GoodAs (kinds n) (f names)

  module _ (n : ℕ) (f : ℕ → StandsFor) (all : (k : ℕ) → k < n → Good k (f k)) (names : Names) (scope : InScope n names) where
    own : (kind : Kind) (a : ℕ) → a < n → Has kinds scopes n kind a → GoodAs kind (f a names)
    own kind a l has = subst (λ k. GoodAs k (f a names)) has.0 (all a l names (λ k s. scope k (has.1 k s)))

    own-list : (labels : List (List ℕ)) → kinds n ≡ OfList labels → (a : ℕ) → a < n → Has kinds scopes n (kinds n) a → GoodAs (OfList labels) (f a names)
    own-list labels is a l has = subst (λ k. GoodAs k (f a names)) is (own (kinds n) a l has)

    own-row : (labels : List (List ℕ)) → kinds n ≡ OfRecord labels → (a : ℕ) → a < n → Has kinds scopes n (kinds n) a → GoodAs (OfRecord labels) (f a names)
    own-row labels is a l has = subst (λ k. GoodAs k (f a names)) is (own (kinds n) a l has)

    -- under the row of a branch
    own-under :
        (x : ℕ) (others : List (List ℕ)) (outs : List Out) (a : ℕ) → a < n → kinds x ≡ OfRecord others → AreGood others outs → HasUnder kinds scopes n x (kinds n) a →
        GoodAs (kinds n) (f a (bind x (as_row (λ m. outs)) names))
    own-under x others outs a l is good has = subst (λ k. GoodAs k (f a (bind x (as_row (λ m. outs)) names))) has.0 (all a l (bind x (as_row (λ m. outs)) names) (λ k s. step k s (k == x) refl))
      where
        step : (k : ℕ) → scopes a k ≡ true → (b : Bool) → k == x ≡ b → GoodAs (kinds k) (if b then as_row (λ m. outs) else names k)
        step k s true e = subst (λ kind. GoodAs kind (as_row (λ m. outs))) (sym (ap kinds (eqb-true k x e) ∙ is)) (λ m. good)
        step k s false e = scope k (has.1 k s (λ here. true≢false (sym (eq-eqb k x here) ∙ e)))

    own-items : (items : List Labelled) → LabelledBelow n items → AreBases kinds scopes n items → (m : ℕ) → AreGood (map (λ (item : Labelled). item.label) items) (outputs f items names m)
    own-items [] l has m = (refl, tt)
    own-items (item ∷ items) l has m = let rest = own-items items l.1 has.1 m in (ap (λ ls. item.label ∷ ls) rest.0, (own OfBase item.part l.0 has.0 m, rest.1))

    own-rows :
        (labels : List (List ℕ)) (items : List ℕ) → AllBelow n items → AllHave kinds scopes n (OfRecord labels) items → (froms : List FromItem) (cond : Scalar) → IsGood cond → (m : ℕ) →
        Each (IsGoodBranch labels) (map (λ item. branch froms cond ((f item names).row m)) items)
    own-rows labels [] l has froms cond e m = tt
    own-rows labels (item ∷ items) l has froms cond e m = (record { test = e; gives = own (OfRecord labels) item l.0 has.0 m }, own-rows labels items l.1 has.1 froms cond e m)

    good-base : (g : ℕ → Scalar) → kinds n ≡ OfBase → ((m : ℕ) → IsGood (g m)) → GoodAs (kinds n) (as_base g)
    good-base g is h = subst (λ k. GoodAs k (as_base g)) (sym is) h

    good-row : (labels : List (List ℕ)) (g : ℕ → List Out) → kinds n ≡ OfRecord labels → ((m : ℕ) → AreGood labels (g m)) → GoodAs (kinds n) (as_row g)
    good-row labels g is h = subst (λ k. GoodAs k (as_row g)) (sym is) h

    good-level : (x : Part) → Is kinds scopes n x (kinds n) → Below n x → GoodAs (kinds n) (norm_level f n x names)
    good-level (part.Lit b) is l = good-base (λ m. scalar.Lit b) is (λ m. good-Lit b)
    good-level part.Bound is l = scope n is.1
    good-level (part.Case c a b) is l =
        good-base (λ m. scalar.Case ((f c names).base m) ((f a names).base m) ((f b names).base m)) is.0
        (λ m. good-case ((f c names).base m) ((f a names).base m) ((f b names).base m) (own OfBase c l.0 is.1 m) (own OfBase a l.1 is.2 m) (own OfBase b l.2 is.3 m))
    good-level (part.If c a b) is l =
        good-list (kinds n) is.0 _ (λ labels e outer froms cond g.
        let t : IsGood (test f c names outer froms) = own OfBase c l.0 is.1 (outer + length froms) in
        Each-append (IsGoodBranch labels) _ _
        (own-list labels e a l.1 is.2 outer froms (conjunction cond (test f c names outer froms)) (good-conjunction cond (test f c names outer froms) g t))
        (own-list labels e b l.2 is.3 outer froms (conjunction cond (negation (test f c names outer froms))) (good-conjunction cond (negation (test f c names outer froms)) g (good-not (test f c names outer froms) t))))
    good-level (part.IfRow labels c a b) is l =
        good-row labels _ is.0 (λ m.
        good-labels (λ label. scalar.Case ((f c names).base m) (scalar_in ((f a names).row m) label) (scalar_in ((f b names).row m) label)) labels (λ label.
        good-case ((f c names).base m) (scalar_in ((f a names).row m) label) (scalar_in ((f b names).row m) label) (own OfBase c l.0 is.1 m)
        (good-in ((f a names).row m) label (own-row labels is.0 a l.1 is.2 m).1) (good-in ((f b names).row m) label (own-row labels is.0 b l.2 is.3 m).1)))
    good-level (part.One o a) is l = good-base _ is.0 (λ m. good-one o ((f a names).base m) is.1 (own OfBase a l is.2 m))
    good-level (part.Two o a b) is l = good-base _ is.0 (λ m. good-two o ((f a names).base m) ((f b names).base m) is.1 (own OfBase a l.0 is.2 m) (own OfBase b l.1 is.3 m))
    good-level (part.EqRows labels a b) is l =
        good-base _ is.0 (λ m. good-equal labels ((f a names).row m) ((f b names).row m) (own (OfRecord labels) a l.0 is.1 m).1 (own (OfRecord labels) b l.1 is.2 m).1)
    good-level (part.Empty columns' list) is l =
        good-base _ is.0 (λ m.
        let branches = (f list names).list m [] always in
        good-not (scalar.Exists (selects columns' branches))
        (good-Exists (selects columns' branches) ∙ (good-selects columns' branches (subst HasColumns is.1.0 (columns list)) (own (OfList (labels_of columns')) list l is.1 m [] always good-always)).0))
    good-level (part.Record items) is l = good-row (map (λ (item : Labelled). item.label) items) (outputs f items names) is.0 (own-items items l is.1)
    good-level (part.Extend labels items rest) is l =
        good-row labels _ is.0 (λ m.
        good-labels (λ label. scalar_or (outputs f items names m) ((f rest names).row m) label) labels (λ label.
        good-or (outputs f items names m) ((f rest names).row m) label (own-items items l.0 is.1 m).1 (own (OfRecord is.2.0) rest l.1 is.2.1 m).1))
    good-level (part.Project a label) is l = good-base _ is.0 (λ m. good-in ((f a names).row m) label (own (OfRecord is.1.0) a l is.1.1 m).1)
    good-level (part.Items items) is l =
        subst (λ k. GoodAs k (norm_level f n (part.Items items) names)) (sym is.1) (λ outer froms cond g. own-rows is.0 items l is.2 froms cond g (outer + length froms))
    good-level (part.Append a b) is l =
        good-list (kinds n) is.0 _ (λ labels e outer froms cond g. Each-append (IsGoodBranch labels) _ _ (own-list labels e a l.0 is.1 outer froms cond g) (own-list labels e b l.1 is.2 outer froms cond g))
    good-level (part.ForList list x body) is l =
        good-list (kinds n) is.0 _ (λ labels e outer froms cond g.
        Each-flat (IsGoodBranch is.1.0) (IsGoodBranch labels) (λ b. (f body (bind x (as_row (λ m. b.outs)) names)).list outer b.froms b.cond)
        (λ b good. subst (λ k. GoodAs k (f body (bind x (as_row (λ m. b.outs)) names))) e (own-under x is.1.0 b.outs body l.2 is.1.2 good.gives is.1.3) outer b.froms b.cond good.test)
        ((f list names).list outer froms cond) (own (OfList is.1.0) list l.0 is.1.1 outer froms cond g))
    good-level (part.Table table labels) is l =
        subst (λ k. GoodAs k (norm_level f n (part.Table table labels) names)) (sym is)
        (λ outer froms cond g. (record { test = g; gives = good-labels (λ label. scalar.Column (next outer froms) label) labels (λ label. good-Column (next outer froms) label) }, tt))
    good-level (part.Where c list) is l =
        good-list (kinds n) is.0 _ (λ labels e outer froms cond g.
        own-list labels e list l.1 is.2 outer froms (conjunction cond (test f c names outer froms)) (good-conjunction cond (test f c names outer froms) g (own OfBase c l.0 is.1 (outer + length froms))))

  -- each part, where those that it may look at are well formed
  pub norms-good : (parts : List Part) → AreOrdered parts → ((n : ℕ) (x : Part) → slice_get parts n ≡ Some x → Is kinds scopes n x (kinds n)) → (k : ℕ) → k < length parts → Good k (norms parts k)
  unfolding norms
  norms-good parts ordered typed k l =
      filled-placed Good (λ n x. Is kinds scopes n x (kinds n) × Below n x) norm_level (λ n x at f all names scope. good-level n f all names scope x at.0 at.1)
      (λ names. nothing) parts (λ n x is. (typed n x is, ordered n x is)) k l
