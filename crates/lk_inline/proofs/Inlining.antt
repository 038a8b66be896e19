-- What is inlined at a site, from what its walks have made.
use Rattle.std.proofs.Common.{◌≡◌, ℕ, List, [], ◌∷◌, drop, length, map, refl, sym, ◌∙◌, ap, ap₂, subst}
use Rattle.lk_ast.specs.Functions.{functions_of}
use Rattle.lk_ast.specs.declared.declaration.Program.{Program}
use Rattle.lk_ast.specs.declared.expression.ChangeExpr.{ChangeExpr, out-ChangeExpr}
use Rattle.lk_ast.specs.declared.expression.Expr.{Expr}
use Rattle.lk_ast.specs.declared.expression.PartExpr.{PartExpr}
use Rattle.lk_ast.specs.declared.expression.SortKey.{SortKey}
use Rattle.lk_ast.specs.declared.table.Column.{Column}
use Rattle.lk_bodies.specs.Captured.{bound_parts, captured_at, numbered}
use Rattle.lk_bodies.specs.Uses.{change_uses, query_uses}
use Rattle.lk_bodies.specs.Walk.{Made, Several, State, all, called, labelled, walk}
use Rattle.lk_ground.specs.declared.program.GroundFun.{GroundFun}
use Rattle.lk_index.specs.Free.{captured_change, captured_query}
use Rattle.lk_inline.proofs.Ordered.{one_ordered, sets_ordered}
use Rattle.lk_inline.specs.Inlined.{change_at, first_columns, key_of, query_at, state_at, table_labels}
use Rattle.lk_inline.specs.Sets.{in_order}
use Rattle.lk_query.specs.Order.{AreOrdered}
use Rattle.lk_query.specs.declared.part.Labelled.{Labelled}
use Rattle.lk_query.specs.declared.part.Part.{Part}
use Rattle.lk_query.specs.declared.query.Captured.{Captured}
use Rattle.lk_query.specs.declared.query.Inlined.TheVariants as inlined
use Rattle.lk_sites.specs.Sites.{Site}
use Rattle.lk_sound.specs.Tables.{table_at}
use Rattle.lk_sql.specs.declared.tree.Key.{Key}
use Rattle.lk_types.specs.Rows.{Label}
use Rattle.lk_types.specs.declared.ground.Ground.{Ground}
use Rattle.lk_typing.specs.Names.{Named}

-- a state with a part for each name
pub begun : (p : Program) (helpers : List GroundFun) (site : Site) (names : List Label) (parts : List Part) (types : List Ground) → parts ≡ bound_parts names → types ≡ drop 1 site.types
    → record { parts = parts; types = types; calls = site.calls } ≡ state_at p helpers names site
begun p helpers site names parts types parts_are types_are = ap₂ (λ ps ts. record { parts = ps; types = ts; calls = site.calls }) parts_are types_are

-- the walk over a program's helpers
pub same_walk : (p : Program) (helpers over : List GroundFun) (calls : ℕ) (e : Expr) (numbers from : Named ℕ) (s start : State) (m : Made)
    → m ≡ walk (called over calls) e numbers s → over ≡ helpers → calls ≡ length (functions_of p) → numbers ≡ from → s ≡ start → m ≡ walk (called helpers (length (functions_of p))) e from start
same_walk p helpers over calls e numbers from s start m is same_helpers same_calls same_numbers same_start = is
    ∙ ap₂ (λ h n. walk (called h n) e numbers s) same_helpers same_calls
    ∙ ap₂ (walk (called helpers (length (functions_of p))) e) same_numbers same_start

pub same_walks : (p : Program) (helpers over : List GroundFun) (calls : ℕ) (sets : List PartExpr) (numbers from : Named ℕ) (s start : State) (m : Several)
    → m ≡ all (map (λ (set : PartExpr). walk (called over calls) set.expr) sets) numbers s → over ≡ helpers → calls ≡ length (functions_of p) → numbers ≡ from → s ≡ start
    → m ≡ all (map (λ (set : PartExpr). walk (called helpers (length (functions_of p))) set.expr) sets) from start
same_walks p helpers over calls sets numbers from s start m is same_helpers same_calls same_numbers same_start = is
    ∙ ap₂ (λ h n. all (map (λ (set : PartExpr). walk (called h n) set.expr) sets) numbers s) same_helpers same_calls
    ∙ ap₂ (all (map (λ (set : PartExpr). walk (called helpers (length (functions_of p))) set.expr) sets)) same_numbers same_start

module _ (p : Program) (helpers : List GroundFun) (site : Site) where
  pub query_ordered : (body : Expr) (names : List Label) (m : Made) → m ≡ walk (called helpers (length (functions_of p))) body (numbered 0 names) (state_at p helpers names site) → AreOrdered m.state.parts
  query_ordered body names m is =
      subst (λ w. AreOrdered w.state.parts) (sym is) (one_ordered helpers (length (functions_of p)) names (state_at p helpers names site) body refl).ordered

  pub query_inlined : (keys : List SortKey) (body : Expr) (names : List Label) (m : Made) (parts : List Part) (captured : List Captured) (columns : List Column) (sorted : List Key)
      → names ≡ captured_query body → m ≡ walk (called helpers (length (functions_of p))) body (numbered 0 names) (state_at p helpers names site) → parts ≡ m.state.parts
      → captured ≡ captured_at (query_uses body (drop 1 site.types)) names → columns ≡ first_columns site.types → sorted ≡ map key_of keys
      → inlined.Query (record { parts = parts; root = m.part; captured = captured; columns = columns; keys = sorted }) ≡ query_at p helpers site keys body
  query_inlined keys body names m parts captured columns sorted names_are is parts_are captured_are columns_are keys_are =
      let walked : m ≡ walk (called helpers (length (functions_of p))) body (numbered 0 (captured_query body)) (state_at p helpers (captured_query body) site) =
      is ∙ ap (λ ns. walk (called helpers (length (functions_of p))) body (numbered 0 ns) (state_at p helpers ns site)) names_are in
      ap₂ (λ ps cs. inlined.Query (record { parts = ps; root = m.part; captured = cs; columns = columns; keys = sorted })) parts_are (captured_are ∙ ap (captured_at (query_uses body (drop 1 site.types))) names_are)
      ∙ ap₂ (λ cs ks. inlined.Query (record { parts = m.state.parts; root = m.part; captured = captured_at (query_uses body (drop 1 site.types)) (captured_query body); columns = cs; keys = ks })) columns_are keys_are
      ∙ ap (λ w. inlined.Query (record { parts = w.state.parts; root = w.part; captured = captured_at (query_uses body (drop 1 site.types)) (captured_query body); columns = first_columns site.types; keys = map key_of keys })) walked

  -- what is captured, by names and uses
  pub captured_names : (body : Expr) (names read : List Label) (types : List Ground) (found : Named Ground) (captured : List Captured) → captured ≡ captured_at found read → found ≡ query_uses body types → types ≡ drop 1 site.types → read ≡ names
      → captured ≡ captured_at (query_uses body (drop 1 site.types)) names
  captured_names body names read types found captured is uses_are types_are names_are = is ∙ ap₂ captured_at (uses_are ∙ ap (query_uses body) types_are) names_are

  -- ---- changes

  abbrev pub row_of : ChangeExpr → Label
  row_of change = (out-ChangeExpr change).name.text

  -- the walk of the condition, and then of what is set
  abbrev pub cond_walk : ChangeExpr → List Label → Made
  cond_walk change names = walk (called helpers (length (functions_of p))) (out-ChangeExpr change).cond (numbered 0 (row_of change ∷ names)) (state_at p helpers (row_of change ∷ names) site)

  abbrev pub sets_walk : ChangeExpr → List Label → State → Several
  sets_walk change names s = all (map (λ (set : PartExpr). walk (called helpers (length (functions_of p))) set.expr) (out-ChangeExpr change).sets) (numbered 0 (row_of change ∷ names)) s

  pub change_ordered : (change : ChangeExpr) (names : List Label) (cond : Made) (sets : Several) → cond ≡ cond_walk change names → sets ≡ sets_walk change names cond.state → AreOrdered sets.state.parts
  change_ordered change names cond sets cond_is sets_are =
      subst (λ w. AreOrdered w.state.parts) (sym (sets_are ∙ ap (λ w. sets_walk change names w.state) cond_is))
      (sets_ordered helpers (length (functions_of p)) (row_of change ∷ names) (state_at p helpers (row_of change ∷ names) site) (out-ChangeExpr change).cond (out-ChangeExpr change).sets refl)

  pub change_inlined : (change : ChangeExpr) (names : List Label) (cond : Made) (sets : Several) (parts : List Part) (ls : List Label) (captured : List Captured) (items : List Labelled)
      → names ≡ captured_change change → cond ≡ cond_walk change names → sets ≡ sets_walk change names cond.state → parts ≡ sets.state.parts
      → ls ≡ table_labels (table_at p (out-ChangeExpr change).table.text) → captured ≡ captured_at (change_uses change (drop 1 site.types)) names
      → items ≡ in_order (labelled (map (λ (set : PartExpr). set.label.text) (out-ChangeExpr change).sets) sets.numbers)
      → inlined.Change (record { parts = parts; labels = ls; captured = captured; cond = cond.part; sets = items }) ≡ change_at p helpers site change
  change_inlined change names cond sets parts ls captured items names_are cond_is sets_are parts_are labels_are captured_are items_are =
      let first : cond ≡ cond_walk change (captured_change change) = cond_is ∙ ap (cond_walk change) names_are in
      let second : sets ≡ sets_walk change (captured_change change) (cond_walk change (captured_change change)).state =
      sets_are ∙ ap₂ (λ ns (m : Made). sets_walk change ns m.state) names_are first in
      ap₂ (λ ps l. inlined.Change (record { parts = ps; labels = l; captured = captured; cond = cond.part; sets = items })) parts_are labels_are
      ∙ ap₂ (λ cs is. inlined.Change (record { parts = sets.state.parts; labels = table_labels (table_at p (out-ChangeExpr change).table.text); captured = cs; cond = cond.part; sets = is }))
      (captured_are ∙ ap (captured_at (change_uses change (drop 1 site.types))) names_are) items_are
      ∙ ap₂ (λ (m : Made) (w : Several). inlined.Change (record {
        parts = w.state.parts;
        labels = table_labels (table_at p (out-ChangeExpr change).table.text);
        captured = captured_at (change_uses change (drop 1 site.types)) (captured_change change);
        cond = m.part;
        sets = in_order (labelled (map (λ (set : PartExpr). set.label.text) (out-ChangeExpr change).sets) w.numbers);
      })) first second

  -- what is captured, by names and uses
  pub captured_changes : (change : ChangeExpr) (names read : List Label) (types : List Ground) (found : Named Ground) (captured : List Captured) → captured ≡ captured_at found read → found ≡ change_uses change types → types ≡ drop 1 site.types → read ≡ names
      → captured ≡ captured_at (change_uses change (drop 1 site.types)) names
  captured_changes change names read types found captured is uses_are types_are names_are = is ∙ ap₂ captured_at (uses_are ∙ ap (change_uses change) types_are) names_are
