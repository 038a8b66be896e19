-- Points in instances that stand for points of the program, at the expressions inside one.
use Rattle.std.proofs.Common.{◌≡◌, refl, subst, ℕ, List, [], ◌∷◌, ◌++◌, map, flat_map}
use Rattle.lk_ast.specs.Layers.{Layer, layer}
use Rattle.lk_ast.specs.declared.expression.Expr.{Expr}
use Rattle.lk_ast.specs.declared.expression.Node.TheOpen.{Node-F}
use Rattle.lk_evaluation.specs.Laws.{Both}
use Rattle.lk_evaluation.specs.Source as source
use Rattle.lk_evaluation.specs.Source.{under}
use Rattle.lk_locals.specs.Names.{Names}
use Rattle.lk_sound.proofs.Inside.{insides}
use Rattle.lk_types.proofs.Members.{each_in, each_back, each_in_flat}
use Rattle.lk_sound.proofs.Within.{insides_within}
use Rattle.lk_sound.specs.Within.{IsWithin}
use Rattle.lk_types.specs.Each.{Each, OneOf}
use Rattle.lk_ground.specs.Language.{Point, within, function_of}
use Rattle.lk_ground.specs.Law.{NamesAlike, IsPointOf}
use Rattle.lk_ground.specs.Standing.{IsCalled, StandsIn}
use Rattle.lk_ground.specs.Sites.{outer_uses, labelled_in}
use Rattle.lk_ground.specs.declared.program.GroundProgram.{GroundProgram}
use Rattle.lk_ground.proofs.Levels.{outer, own_use, own_label, uses_level, labelled_level}

each_outer : (P : Expr → Type 0) (l : Layer) → Each P (insides l) → Each P (outer l)
each_outer P (Node-F.Query keys e) all = tt
each_outer P (Node-F.Update change) all = tt
each_outer P (Node-F.Delete change) all = tt
each_outer P other all = all

module _ (p : GroundProgram) (at : Point) (point : source.Point) (is : IsPointOf p at point) where
  -- what begins inside an expression keeps what is asked of it
  uses_inside : (d : Expr) → OneOf (λ other. other ≡ d) (outer (layer point.expr)) → Each (IsCalled p is.owner) (outer_uses d)
  uses_inside d one =
      let all : Each (IsCalled p is.owner) (own_use (layer point.expr) point.expr.span.start ++ flat_map outer_uses (outer (layer point.expr))) = subst (Each (IsCalled p is.owner)) (uses_level point.expr) is.stands.calls in
      each_in (λ e. Each (IsCalled p is.owner) (outer_uses e)) (outer (layer point.expr)) d one (each_in_flat (IsCalled p is.owner) outer_uses (outer (layer point.expr)) (each_back (IsCalled p is.owner) (own_use (layer point.expr) point.expr.span.start) _ all))

  abbrev IsThere : ℕ → Type 0
  IsThere site = OneOf (λ other. other ≡ site) (labelled_in (function_of is.owner).body)

  labels_inside : (d : Expr) → OneOf (λ other. other ≡ d) (outer (layer point.expr)) → Each IsThere (labelled_in d)
  labels_inside d one =
      let all : Each IsThere (own_label (layer point.expr) point.expr.span.start ++ flat_map labelled_in (outer (layer point.expr))) = subst (Each IsThere) (labelled_level point.expr) is.stands.labels in
      each_in (λ e. Each IsThere (labelled_in e)) (outer (layer point.expr)) d one (each_in_flat IsThere labelled_in (outer (layer point.expr)) (each_back IsThere (own_label (layer point.expr) point.expr.span.start) _ all))

  -- an expression inside stands in the instance
  pub stands_inside : (d : Expr) → OneOf (λ other. other ≡ d) (outer (layer point.expr)) → StandsIn p is.owner d
  stands_inside d one = record { calls = uses_inside d one; labels = labels_inside d one }

  -- an expression inside, under names that stand for others
  pub inside : (d : Expr) (names others : Names) → OneOf (λ other. other ≡ d) (outer (layer point.expr)) → NamesAlike p names others → IsPointOf p (within at.owner (under names d)) (under others d)
  inside d names others one are = record {
    owner = is.owner;
    is = is.is;
    expr = refl;
    names = are;
    stands = stands_inside d one;
    within = each_in (IsWithin p.program.now) (outer (layer point.expr)) d one (each_outer (IsWithin p.program.now) (layer point.expr) (insides_within p.program.now point.expr is.within));
  }

  -- expressions inside, one after another
  pub insides_match : (es : List Expr) → Each (λ e. OneOf (λ other. other ≡ e) (outer (layer point.expr))) es → Both (IsPointOf p) (map (λ e. within at.owner (under at.point.names e)) es) (map (under point.names) es)
  insides_match [] all = tt
  insides_match (e ∷ es) (one, all) = (inside e at.point.names point.names one is.names, insides_match es all)
