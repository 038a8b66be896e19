-- What types count where closed ends count nothing: as many as they have nodes.
use Rattle.std.proofs.Common.{◌≡◌, ℕ, ◌+◌, List, [], ◌∷◌, length, map, refl, sym, ◌∙◌, ap, ap₂, arith}
use Rattle.std.specs.List.{fold, sum}
use Rattle.lk_types.proofs.Members.{each_weaker}
use Rattle.lk_types.proofs.Unfold.{nodes_int, nodes_bool, nodes_text, nodes_list, nodes_fields, nodes_tags, nodes_function, nodes_variable, nodes_field}
use Rattle.lk_types.specs.Each.{Each}
use Rattle.lk_types.specs.Sizes.{nodes, nodes_with, row_nodes_with, field_nodes_with, effects_nodes, tail_nodes, one}
use Rattle.lk_types.specs.declared.ty.Effects.{Effects}
use Rattle.lk_types.specs.declared.ty.RowTail.{RowTail}
use Rattle.lk_types.specs.declared.ty.RowTail.TheVariants.{Closed, Var}
use Rattle.lk_types.specs.declared.ty.Ty.{Ty}
use Rattle.lk_types.specs.declared.ty.Ty.TheFolds.{the_lemmas}
use Rattle.lk_types.specs.declared.ty.TyField.{TyField}
use Rattle.lk_types.specs.declared.ty.TyRow.{TyRow, roll-TyRow, out-TyRow}
use Rattle.lk_types.specs.declared.ty.Variable.{Variable}
use Rattle.lk_types.specs.declared.ty.Variable.TheVariants as variable
use Rattle.lk_unify.proofs.OpenUnfold.{count_int, count_bool, count_text, count_list, count_fields, count_tags, count_function, count_variable, count_rolled}
use Rattle.lk_types.proofs.TypeInduction.{Hereditary, every_type, every_row}
use Rattle.lk_arena.specs.Counting.{sum_of}
use Rattle.lk_unify.specs.Nodes.{count, row_count, end_count, effects_count}

-- ---- sums from the left and from the right

sum_from : (a : ℕ) (xs : List ℕ) → fold (λ a x. a + x) a xs ≡ a + sum_of xs
sum_from a [] = omega arith
sum_from a (x ∷ xs) = let there : fold (λ a x. a + x) (a + x) xs ≡ (a + x) + sum_of xs = sum_from (a + x) xs in omega arith

pub sum_is : (xs : List ℕ) → sum xs ≡ sum_of xs
sum_is xs = let e : fold (λ a x. a + x) 0 xs ≡ 0 + sum_of xs = sum_from 0 xs in omega arith

pub sums_same : {A : Type 0} (f g : A → ℕ) (xs : List A) → Each (λ x. f x ≡ g x) xs → sum_of (map f xs) ≡ sum_of (map g xs)
sums_same f g [] e = refl
sums_same f g (x ∷ xs) e = ap₂ (λ a b. a + b) e.0 (sums_same f g xs e.1)

-- ---- rows that are rolled

pub nodes_each : (of : Variable → ℕ) (fs : List TyField) → sum (map (field_nodes_with of) fs) ≡ sum_of (map (λ f. 1 + nodes_with of f.ty) fs)
nodes_each of fs = sum_is (map (field_nodes_with of) fs) ∙ each fs
  where
    each : (fs : List TyField) → sum_of (map (field_nodes_with of) fs) ≡ sum_of (map (λ f. 1 + nodes_with of f.ty) fs)
    each [] = refl
    each (f ∷ fs) = ap₂ (λ a b. a + b) (nodes_field of f) (each fs)

by_nodes : (of : Variable → ℕ) (fs : List TyField) (tail : RowTail)
    → row_nodes_with of (roll-TyRow (record { fields = fs; tail = tail })) ≡ sum (map (field_nodes_with of) fs) + tail_nodes of variable.Row tail
unfolding row_nodes_with field_nodes_with
by_nodes of fs tail = search the_lemmas

pub nodes_rolled : (of : Variable → ℕ) (fs : List TyField) (tail : RowTail)
    → row_nodes_with of (roll-TyRow (record { fields = fs; tail = tail })) ≡ sum_of (map (λ f. 1 + nodes_with of f.ty) fs) + tail_nodes of variable.Row tail
nodes_rolled of fs tail = by_nodes of fs tail ∙ ap (λ n. n + tail_nodes of variable.Row tail) (nodes_each of fs)

-- ---- with 0 counts are sizes

end_nodes : (kind : ℕ → Variable) (tail : RowTail) → end_count 0 tail ≡ tail_nodes one kind tail
end_nodes kind Closed = refl
end_nodes kind (Var n) = refl

pub effects_count_nodes : (es : Effects) → effects_count 0 es ≡ effects_nodes one es
effects_count_nodes es = ap (λ n. length es.labels + n) (end_nodes variable.Effects es.tail)

abbrev SameSize : Ty → Type 0
SameSize t = count 0 t ≡ nodes t

abbrev SameRowSize : TyRow → Type 0
SameRowSize r = row_count 0 r ≡ row_nodes_with one r

one_more : (f : TyField) → SameSize f.ty → 1 + count 0 f.ty ≡ 1 + nodes_with one f.ty
one_more f e = ap (λ n. 1 + n) e

same_sizes : Hereditary SameSize SameRowSize
same_sizes = record {
  at_int = count_int 0 ∙ sym (nodes_int one);
  at_bool = count_bool 0 ∙ sym (nodes_bool one);
  at_text = count_text 0 ∙ sym (nodes_text one);
  at_list = λ t e. count_list 0 t ∙ ap (λ n. 1 + n) e ∙ sym (nodes_list one t);
  at_fields = λ r e. count_fields 0 r ∙ ap (λ n. 1 + n) e ∙ sym (nodes_fields one r);
  at_tags = λ r e. count_tags 0 r ∙ ap (λ n. 1 + n) e ∙ sym (nodes_tags one r);
  at_function = λ ps es t each e.
      count_function 0 ps es t
      ∙ ap₂ (λ a b. 1 + (a + b)) (sums_same (count 0) (nodes_with one) ps each ∙ sym (sum_is (map (nodes_with one) ps))) (ap₂ (λ a b. a + b) (effects_count_nodes es) e)
      ∙ sym (nodes_function one ps es t);
  at_variable = λ n. count_variable 0 n ∙ sym (nodes_variable one n);
  at_row = λ fs tail each.
      count_rolled 0 fs tail
      ∙ ap₂ (λ a b. a + b)
      (sums_same (λ f. 1 + count 0 f.ty) (λ f. 1 + nodes_with one f.ty) fs (each_weaker (λ f. SameSize f.ty) (λ f. 1 + count 0 f.ty ≡ 1 + nodes_with one f.ty) one_more fs each))
      (end_nodes variable.Row tail)
      ∙ sym (nodes_rolled one fs tail);
}

pub count_nodes : (t : Ty) → count 0 t ≡ nodes t
count_nodes = every_type SameSize SameRowSize same_sizes

pub row_count_nodes : (r : TyRow) → row_count 0 r ≡ row_nodes_with one r
row_count_nodes = every_row SameSize SameRowSize same_sizes
