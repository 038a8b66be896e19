-- What a query, an update or a deletion captures at a point that has a type: values of the types of its free names.
use Rattle.std.proofs.Common.{◌≡◌, inl, inr, refl, sym, ap, ◌∙◌, subst, ℕ, Bool, true, false, List, [], ◌∷◌, Option, None, Some, IsSome}
use Rattle.lk_ast.specs.Layers.{Layer, layer}
use Rattle.lk_ast.specs.declared.declaration.Program.{Program}
use Rattle.lk_ast.specs.declared.expression.Expr.{Expr}
use Rattle.lk_ast.specs.declared.value.Value.{Value}
use Rattle.lk_bag.specs.Blocks.{block_at}
use Rattle.lk_bag.specs.Legal.{captured_by}
use Rattle.lk_locals.specs.Names.{Names, lookup_all}
use Rattle.lk_scope.specs.Names.{no_names}
use Rattle.lk_types.proofs.Parts.{same_some}
use Rattle.lk_types.specs.Each.{OneOf}
use Rattle.lk_types.specs.Rows.{Label}
use Rattle.lk_types.specs.declared.ground.Ground.{Ground}
use Rattle.lk_typing.specs.Names.{Named, named}
use Rattle.lk_sound.proofs.Free.{AreKnown}
use Rattle.lk_sound.proofs.Names.{IsAmong}
use Rattle.lk_sound.specs.Captures.{Captures, HasCaptured, HaveValuesOf, free_in, is_block}
use Rattle.lk_sound.specs.Instances.{Instances}
use Rattle.lk_sound.specs.Nodes.{Block, Part, TypedNode, block_node, known_in, type_before}
use Rattle.lk_sound.specs.Points.{AreLocals}

module _ (p : Program) (i : Instances) (locals : Named Ground) (names : Names) (fit : AreLocals p i locals names) where
  -- a name that has a type, before others
  value_before : (x : Label) (xs : List Label) (ts : List Ground) (o : Option Ground) → named x locals ≡ o → IsSome o → HaveValuesOf p i names xs ts → HaveValuesOf p i names (x ∷ xs) (type_before o ts)
  value_before x xs ts None is some rest = absurd cc
  value_before x xs ts (Some t) is some rest = (fit x t is, rest)

  -- names that have types have values of these
  values_of : (words : List Label) → ((x : Label) → IsAmong x words → IsSome (named x locals)) → HaveValuesOf p i names words (known_in locals words)
  values_of [] known = tt
  values_of (x ∷ xs) known = value_before x xs (known_in locals xs) (named x locals) refl (known x (inl refl)) (values_of xs (λ y among. known y (inr among)))

module _ (p : Program) (i : Instances) (site : ℕ) (block : Expr) (found : block_at p site ≡ Some block) where
  -- what begins there is that block
  of_block : (args : List Value) → (is_block (layer block) ≡ true → HasCaptured p i block args) → Captures p i site args
  of_block args captured other there is =
      let same : block ≡ other = same_some (sym found ∙ there) in
      subst (λ b. is_block (layer b) ≡ true → HasCaptured p i b args) same captured is

  -- it captures nothing if it is no query, no update and no deletion
  pub nothing_captured : (args : List Value) (l : Layer) → layer block ≡ l → is_block l ≡ false → Captures p i site args
  nothing_captured args l is isnt = of_block args (λ holds. let wrong : false ≡ true = sym isnt ∙ ap is_block (sym is) ∙ holds in absurd cc)

  -- of a block whose free names have types
  pub block_captured : (locals : Named Ground) (names : Names) → AreLocals p i locals names → (l : Layer) → layer block ≡ l → (parts : List Part) (part : Part) → part.span ≡ block.span → part.inside ≡ false
      → OneOf (λ other. other ≡ block_node part parts (known_in locals (free_in l))) i.nodes → AreKnown locals no_names (free_in l)
      → (args : List Value) → lookup_all names (captured_by l) ≡ Some args → Captures p i site args
  block_captured locals names fit l is parts part span outside listed known args values = of_block args (λ holds. record {
    node = block_node part parts (known_in locals (free_in l));
    listed = listed;
    span = span;
    outside = outside;
    its = record { parts = parts; captured = known_in locals (free_in l) };
    is = refl;
    names = names;
    values = ap (λ k. lookup_all names (captured_by k)) is ∙ values;
    fit = subst (λ k. HaveValuesOf p i names (free_in k) (known_in locals (free_in l))) (sym is) (values_of p i locals names fit (free_in l) (λ x among. (known.known x among).1));
  })
