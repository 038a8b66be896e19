-- What a walk makes of loops.
use Rattle.std.proofs.Common.{◌≡◌, ℕ, ◌+◌, ◌<◌, Bool, true, false, List, [], ◌∷◌, ◌++◌, length, map, flat_map, Some, None, refl, sym, ◌∙◌, ap, ap₂, subst, arith}
use Rattle.std.proofs.lemmas.List.{length-append}
use Rattle.lk_ast.specs.Layers.{layer, Layer}
use Rattle.lk_ast.specs.Rows.{row_value}
use Rattle.lk_ast.specs.Tables.{Tables}
use Rattle.lk_ast.specs.declared.declaration.Program.{Program}
use Rattle.lk_ast.specs.declared.expression.Expr.{Expr}
use Rattle.lk_ast.specs.declared.expression.Node.TheOpen.{Node-F}
use Rattle.lk_ast.specs.declared.place.Word.{Word}
use Rattle.lk_ast.specs.declared.table.Row.{Row}
use Rattle.lk_ast.specs.declared.value.Value.{Value}
use Rattle.lk_bag.specs.Bag.{for_each, given, items}
use Rattle.lk_bodies.specs.Walk.{Calls, Made, State, add}
use Rattle.lk_ground_types.specs.Shapes.{are_rows, is_flat_row}
use Rattle.lk_inline.proofs.Adding.{Grows, at_end, grows_both, grows_one, ordered_add, still_gives, still_within}
use Rattle.lk_inline.proofs.Inducing.{number_bound, standing_bound}
use Rattle.lk_inline.proofs.Loops.{loop_stands}
use Rattle.lk_inline.proofs.Making.{AreStanding, HaveNumbers, IsMade, left, numbers_grow, standing_grows}
use Rattle.lk_inline.proofs.Standing.{row_stands}
use Rattle.lk_inline.specs.Stands.{IsRecord, Stands}
use Rattle.lk_locals.specs.Names.{Names, bind, lookup}
use Rattle.lk_query.proofs.Growing.{gives_before, gives_last}
use Rattle.lk_query.proofs.Parts.{bind-here}
use Rattle.lk_query.specs.Given.{Given, Values, gives, given_level, of_list, of_row}
use Rattle.lk_query.specs.Order as order
use Rattle.lk_query.specs.Order.{AreOrdered, Below}
use Rattle.lk_query.specs.declared.part.Part.{Part}
use Rattle.lk_query.specs.declared.part.Part.TheVariants as part
use Rattle.lk_sites.specs.Pending.{Pending}
use Rattle.lk_sound.proofs.Bindings.{bound_one}
use Rattle.lk_sound.specs.Instances.{Instances}
use Rattle.lk_sound.specs.Points.{AreLocals}
use Rattle.lk_sound.specs.Values.{Fits}
use Rattle.lk_types.specs.Rows.{Label}
use Rattle.lk_types.specs.declared.ground.Ground.{Ground}
use Rattle.lk_types.specs.declared.ground.Ground.TheVariants as known
use Rattle.lk_typing.specs.Names.{Named, named}

module _ (p : Program) (i : Instances) (tables : Tables) (calls : List ℕ → List Value → Value) (makes : Calls) where
  -- names stand for the same, whatever is bound to a number behind their parts
  pub standing_before : (locals : Named Ground) (numbers : Named ℕ) (names : Names) (parts : List Part) (n : ℕ) (g : Given) (values : Values) → AreOrdered parts
      → ((x : Label) (t : Ground) → named x locals ≡ Some t → (k : ℕ) × (named x numbers ≡ Some k) × (k < n) × (k < length parts))
      → AreStanding p i tables calls makes locals numbers names parts values → AreStanding p i tables calls makes locals numbers names parts (order.bind n g values)
  standing_before locals numbers names parts n g values ordered have standing x t k v is at value_is =
      let found = have x t is in
      let same : Some found.0 ≡ Some k = sym found.1 ∙ at in
      let here : found.0 ≡ k = cc in
      subst (λ given. Stands t v given) (sym (gives_before tables parts ordered k n (subst (λ m. m < length parts) here found.3) (subst (λ m. m < n) here found.2) g values)) (standing x t k v is at value_is)

  -- what the row of a loop gives
  row_given : (parts : List Part) (row : Row) (values : Values) → gives tables (parts ++ part.Bound ∷ []) (length parts) (order.bind (length parts) (of_row row) values) ≡ of_row row
  row_given parts row values = ap (λ g. g (order.bind (length parts) (of_row row) values)) (gives_last tables parts part.Bound) ∙ bind-here (length parts) (of_row row) values

  module _ (e body : Expr) (x : Word) (a b : Ground) (flat : is_flat_row a ≡ true) (rows : are_rows (known.List a) ≡ true) (answer : are_rows (known.List b) ≡ true)
      (locals : Named Ground) (numbers : Named ℕ) (s : State) (q r : Pending) (list_value : Names → Value) (have : HaveNumbers locals numbers s.parts) where
    -- the loop over the rows of a part, behind the row's own part and the body's
    pub loop_made : (m inner : Made)
        → ((names : Names) → AreLocals p i locals names → Fits p i (list_value names) (known.List a))
        → IsMade p i tables calls makes locals numbers (known.List a) list_value s q m
        → IsMade p i tables calls makes ((x.text, a) ∷ locals) ((x.text, length m.state.parts) ∷ numbers) (known.List b) (given tables calls body) (add part.Bound m.state).state r inner
        → IsMade p i tables calls makes locals numbers (known.List b) (λ names. for_each x.text (items (list_value names)) (given tables calls body) names) s r (add (part.ForList m.part (length m.state.parts) inner.part) inner.state)
    loop_made m inner fits one next =
        let n : ℕ = length m.state.parts in
        let bound : List Part = m.state.parts ++ part.Bound ∷ [] in
        let from_list : Grows m.state.parts inner.state.parts = grows_both (grows_one m.state.parts part.Bound) next.grows in
        let row_there : n < length inner.state.parts = still_within next.grows n (at_end m.state.parts part.Bound) in
        let loop_part : Part = part.ForList m.part n inner.part in
        record {
          left = next.left;
          grows = grows_both one.grows (grows_both from_list (grows_one inner.state.parts loop_part));
          ordered = ordered_add inner.state.parts loop_part next.ordered (still_within from_list m.part one.within, row_there, next.within);
          within = at_end inner.state.parts loop_part;
          means = λ values names fit standing.
              let list_same : gives tables inner.state.parts m.part values ≡ gives tables m.state.parts m.part values = ap (λ g. g values) (still_gives tables from_list m.part one.within) in
              let here : AreStanding p i tables calls makes locals numbers names bound values =
              standing_grows p i tables calls makes locals numbers names s.parts bound values (grows_both one.grows (grows_one m.state.parts part.Bound)) have standing in
              subst (λ g. Stands (known.List b) (for_each x.text (items (list_value names)) (given tables calls body) names) (g values)) (sym (gives_last tables inner.state.parts loop_part))
              (loop_stands p i b answer (λ w. given tables calls body (bind x.text w names)) (λ row. gives tables inner.state.parts inner.part (order.bind n (of_row row) values)) a rows
              (list_value names) (gives tables inner.state.parts m.part values) (fits names fit)
              (subst (λ g. Stands (known.List a) (list_value names) g) (sym list_same) (one.means values names fit standing))
              (λ row is_record row_fits.
              next.means (order.bind n (of_row row) values) (bind x.text (row_value row) names)
              (bound_one p i x.text (row_value row) a locals names row_fits fit)
              (standing_bound p i tables calls makes x.text a n (row_value row) locals numbers names bound (order.bind n (of_row row) values)
              (subst (λ g. Stands a (row_value row) g) (sym (row_given m.state.parts row values)) (row_stands a (row_value row) row flat refl is_record))
              (standing_before locals numbers names bound n (of_row row) values (bound_ordered one.ordered) (before_row one.grows) here))));
        }
      where
        bound_ordered : AreOrdered m.state.parts → AreOrdered (m.state.parts ++ part.Bound ∷ [])
        bound_ordered ordered = ordered_add m.state.parts part.Bound ordered tt

        before_row : Grows s.parts m.state.parts → (y : Label) (t : Ground) → named y locals ≡ Some t → (k : ℕ) × (named y numbers ≡ Some k) × (k < length m.state.parts) × (k < length (m.state.parts ++ part.Bound ∷ []))
        before_row grows y t is =
            let found = have y t is in
            let before : found.0 < length m.state.parts = still_within grows found.0 found.2 in
            (found.0, found.1, before, still_within (grows_one m.state.parts part.Bound) found.0 before)
