-- A node more, with all that is said of it.
use Rattle.std.proofs.Common.{◌≡◌, ℕ, ◌<◌, List, [], ◌∷◌, ◌++◌, length, ◌∙◌, ap, sym}
use Rattle.lk_types.specs.Each.{Each}
use Rattle.lk_arena.proofs.Covering.{covers_push}
use Rattle.lk_arena.proofs.Growth.{HasNode-push, WeakNodes-push, built_push, IsArena-push, more_count, new_class, new_shape, old_class, old_shape}
use Rattle.lk_arena.proofs.Kinded.{kinds_add}
use Rattle.lk_arena.proofs.Weights.{weight-push}
use Rattle.lk_classes.specs.Classes.{class_at}
use Rattle.lk_arena.specs.Shapes.{fields_in, parts_of, shape_at, HasFields, IsArena, IsDistinct}
use Rattle.lk_arena.specs.Steps.{Adds}
use Rattle.lk_arena.specs.declared.node.Shape.{Shape}

pub adds : (shapes : List Shape) (classes : List ℕ) (s : Shape) (more : List Shape) (names : List ℕ) (n : ℕ) → IsArena shapes classes
    → Each (λ p. p < length shapes) (parts_of s) → IsDistinct (fields_in s) → HasFields s → more ≡ shapes ++ s ∷ [] → names ≡ classes ++ length shapes ∷ [] → n ≡ length shapes
    → Adds s n shapes classes more names
adds shapes classes s more names n arena parts distinct filled a b c = record {
  arena = IsArena-push shapes classes s more names arena parts distinct filled a b;
  number = c;
  count = ap length a ∙ more_count shapes classes s arena parts;
  shape_is = (λ i. shape_at (a i) (c i)) ∙ new_shape shapes classes s arena parts;
  named = (λ i. class_at (b i) (c i)) ∙ new_class shapes classes s arena parts ∙ sym c;
  old_shapes = λ i h. ap (λ ss. shape_at ss i) a ∙ old_shape shapes classes s arena parts i h;
  old_classes = λ i h. ap (λ cs. class_at cs i) b ∙ old_class shapes classes s arena parts i h;
  back = WeakNodes-push shapes classes s more names n arena parts a b c;
  covers = covers_push shapes classes s more names arena parts a b;
  built = built_push shapes classes s more names n arena parts a b c;
  forth = HasNode-push shapes classes s more names n arena parts a b c;
  kinds = λ kind k kinded own. kinds_add shapes classes s arena parts kind k kinded own more names n a b c;
  heavier = weight-push shapes classes s more names arena parts a b;
}
