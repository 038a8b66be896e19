-- What is said of two classes of which the first is put into the second.
use Rattle.std.proofs.Common.{◌≡◌, ℕ, List, length, refl, sym, subst}
use Rattle.lk_arena.proofs.Kinded.{kinds_unite}
use Rattle.lk_arena.proofs.Relabel.{IsRelabeled, count_from_to, new_at, same_counts_old, same_from_to, Respects-old, relabel_arena, relabel_back, relabel_forth}
use Rattle.lk_arena.proofs.Weights.{weight-unite}
use Rattle.lk_arena.specs.Shapes.{IsArena}
use Rattle.lk_arena.specs.Steps.{AreApart, Unites}
use Rattle.lk_arena.specs.declared.node.Shape.{Shape}

pub unites : (shapes : List Shape) (old : List ℕ) (more : List Shape) (new : List ℕ) (from to : ℕ) → IsArena shapes old → AreApart (length shapes) old from to → more ≡ shapes
    → IsRelabeled old new from to → Unites from to shapes old more new
unites shapes old more new from to arena d same r =
    let n = length shapes in
    let c = arena.named in
    subst (λ ss. Unites from to shapes old ss new) (sym same)
    (record {
      arena = relabel_arena shapes old new from to arena d r;
      kept = refl;
      names = new_at n old new from to c d r;
      part = λ v fits. (
        (λ i h named apart. fits.builds i h (new_at n old new from to c d r i h named apart)),
        Respects-old n old new from to c d r v fits.respects,
        same_from_to n old new from to c d r v fits.respects,
        fits.builds to d.to_below (new_at n old new from to c d r to d.to_below d.to_named (λ e. d.apart (sym e))),
      );
      covers = λ k covers. (
        (λ i h named apart. covers.builds i h (new_at n old new from to c d r i h named apart)),
        same_counts_old n old new from to c d r k covers.same,
        covers.loose,
        count_from_to n old new from to c d r k covers.same,
        covers.builds to d.to_below (new_at n old new from to c d r to d.to_below d.to_named (λ e. d.apart (sym e))),
      );
      before = λ v fits. (relabel_back shapes old new from to arena d r v fits).0;
      forth = relabel_forth shapes old new from to arena d r;
      kinds = kinds_unite shapes old new from to c d r;
      lighter = weight-unite shapes old new from to c d r;
    })
