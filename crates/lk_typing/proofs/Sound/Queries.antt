-- Where all that is said of a query, an update or a deletion holds, it has types by the rules if its parts have them.
use Rattle.std.proofs.Common.{◌≡◌, ℕ, ◌+◌, Bool, true, List, [], ◌∷◌, ◌++◌, map, refl, sym, subst, ap, ◌∙◌, Option, Some, None, is_some, if◌then◌else◌}
use Rattle.std.specs.Option.{option_map}
use Rattle.std.specs.Prelude.{find, bytes_eq}
use Rattle.std.proofs.Math.Bool.{or-false}
use Rattle.lk_ast.specs.Children.{exprs_of}
use Rattle.lk_ast.specs.Layers.{layer}
use Rattle.lk_ast.specs.declared.declaration.TableDecl.{TableDecl}
use Rattle.lk_ast.specs.declared.expression.ChangeExpr.{ChangeExpr, out-ChangeExpr}
use Rattle.lk_ast.specs.declared.expression.Expr.{Expr}
use Rattle.lk_ast.specs.declared.expression.Node.TheOpen.{Node-F}
use Rattle.lk_ast.specs.declared.expression.SortKey.{SortKey}
use Rattle.lk_ast.specs.declared.place.Span.{Span}
use Rattle.lk_types.proofs.Members.{each_front, each_back}
use Rattle.lk_types.proofs.Parts.{same_some, mapped}
use Rattle.lk_types.proofs.Unfold.{under_variable, under_bool}
use Rattle.lk_types.specs.Each.{Each}
use Rattle.lk_types.specs.Grounding.{Grounding, under}
use Rattle.lk_types.specs.Rows.{Label, Row, EffectSet, no_effects, same_effect}
use Rattle.lk_types.specs.Solutions.{IsMet}
use Rattle.lk_types.specs.declared.equation.Equation.{Equation}
use Rattle.lk_types.specs.declared.ground.Ground.{Ground, out-Ground}
use Rattle.lk_types.specs.declared.ground.Ground.TheOpen.{Ground-F}
use Rattle.lk_types.specs.declared.ground.Ground.TheVariants as known
use Rattle.lk_types.specs.declared.ground.GroundField.{GroundField}
use Rattle.lk_types.specs.declared.ty.Effect.TheVariants as effect
use Rattle.lk_types.specs.declared.ty.Effects.{Effects}
use Rattle.lk_types.specs.declared.ty.RowTail.TheVariants.{Closed, Var}
use Rattle.lk_types.specs.declared.ty.Ty.{Ty}
use Rattle.lk_types.specs.declared.ty.Ty.TheVariants as ty
use Rattle.lk_typing.proofs.EffectRows.{has_sound}
use Rattle.lk_typing.proofs.Instances.{never_met}
use Rattle.lk_typing.proofs.Lists.{become_both}
use Rattle.lk_typing.proofs.Sound.Sequences.{AreSound, FoundAll, all_sound}
use Rattle.lk_typing.proofs.Meaning.{Names, Functions, HasEffects, Found, Sound, seen}
use Rattle.lk_typing.proofs.Nodes.{EndedMet, ended_met, one_more, nodes_of, has_if_sound}
use Rattle.lk_typing.proofs.Operators.{labelled_both, Labelled, under_row_of}
use Rattle.lk_typing.proofs.Sound.Switches.{each_parted}
use Rattle.lk_typing.proofs.Values.{met, met_back, list_is, list_was, under_record, under_unit}
use Rattle.lk_typing.specs.Equations.{Own, own, never}
use Rattle.lk_typing.specs.Law.{Become}
use Rattle.lk_typing.specs.Names.{Named, Entry, IsRowOf, table_named, proper, row_known}
use Rattle.lk_typing.specs.Steps.{Meets, Holds}
use Rattle.lk_typing.specs.Types.{record_of, with_fields, labelled, only_scan, unit}
use Rattle.lk_typing.specs.Typing.{HasType, HaveTypes, IsChange, HasField, IsKeyOf, query, update, delete, changed, is_there, labels_of}
use Rattle.lk_typing.specs.Unknowns as unknown
use Rattle.lk_typing.specs.Walk.{Walking, Walked, WalkedAll, walk_all, all_types, Told, has_if, keys_told, query_walked, ChangeWalk, sets_told, set_own, change_in}

-- lists of one type have elements of one type
abbrev element_in : Ground → Ground-F Ground GroundField → Ground
element_in other (Ground-F.List a) = a
element_in other t = other

pub list_same : (a b : Ground) → known.List a ≡ known.List b → a ≡ b
list_same a b is = sym (ap (element_in a) (known.outs-List a)) ∙ ap (λ t. element_in a (out-Ground t)) is ∙ ap (element_in a) (known.outs-List b)

module _ (σ : Grounding) where
  -- a type that is a record with this field before others
  pub field_sound : (t : Ty) (g : Ground) (l : Label) (u : Ty) (a : Ground) (n : ℕ) → under σ t ≡ Some g → under σ u ≡ Some a
      → IsMet σ (unknown.same t (unknown.record_of ((l, u) ∷ []) (Var n))) → HasField g l a
  field_sound t g l u a n ty of_field equal =
      let found : (row : Row) × (with_fields ((l, a) ∷ []) (σ.rows n) ≡ Some row) × (g ≡ record_of row) =
      mapped record_of (with_fields ((l, a) ∷ []) (σ.rows n)) g (sym (under_record σ ((l, u) ∷ []) ((l, a) ∷ []) (Var n) (ap (λ o. (l, o) ∷ []) of_field)) ∙ met σ t (unknown.record_of ((l, u) ∷ []) (Var n)) g ty equal) in
      (σ.rows n, found.0, found.2, found.1)

  pub keys_sound : (t : Ty) (a : Ground) (keys : List SortKey) (n : ℕ) → under σ t ≡ Some (known.List a) → Each (IsMet σ) (keys_told t keys n).equations → Each (IsKeyOf a) keys
  keys_sound t a [] n becomes met_all = tt
  keys_sound t a (key ∷ keys) n becomes met_all =
      let l : Label = key.label.text in
      let rows : Ty = unknown.record_of ((l, ty.Var n) ∷ []) (Var (1 + n)) in
      let list : (b : Ground) × (under σ rows ≡ Some b) × (known.List a ≡ known.List b) = list_was σ rows (known.List a) (met σ t (ty.List rows) (known.List a) becomes met_all.0) in
      let found : (row : Row) × (with_fields ((l, σ.plain n) ∷ []) (σ.rows (1 + n)) ≡ Some row) × (list.0 ≡ record_of row) =
      mapped record_of (with_fields ((l, σ.plain n) ∷ []) (σ.rows (1 + n))) list.0 (sym (under_record σ ((l, ty.Var n) ∷ []) ((l, σ.plain n) ∷ []) (Var (1 + n)) (ap (λ o. (l, o) ∷ []) (under_variable σ n))) ∙ list.1) in
      ((σ.plain n, (σ.rows (1 + n), found.0, list_same a list.0 list.2 ∙ found.2, found.1)), keys_sound t a keys (2 + n) becomes met_all.1)

  pub sets_sound : (t : Ty) (g : Ground) (sets : Named Ty) (known_sets : Named Ground) (n : ℕ) → under σ t ≡ Some g → seen (under σ) sets ≡ seen (λ a. Some a) known_sets
      → Each (IsMet σ) (sets_told t sets n).equations → Each (λ set. HasField g set.0 set.1) known_sets
  sets_sound t g [] [] n ty same met_all = tt
  sets_sound t g [] (set ∷ known_sets) n ty same met_all = cc
  sets_sound t g (set ∷ sets) [] n ty same met_all = tt
  sets_sound t g (set ∷ sets) (known_set ∷ known_sets) n ty same met_all =
      let pair : ◌≡◌ {A = Label × Option Ground} (set.0, under σ set.1) (known_set.0, Some known_set.1) = cc in
      let label : set.0 ≡ known_set.0 = ap (λ p. p.0) pair in
      let value : under σ set.1 ≡ Some known_set.1 = ap (λ p. p.1) pair in
      let more : seen (under σ) sets ≡ seen (λ a. Some a) known_sets = cc in
      (subst (λ l. HasField g l known_set.1) label (field_sound t g set.0 set.1 known_set.1 n ty value met_all.0), sets_sound t g sets known_sets (1 + n) ty more met_all.1)

  pub scan_only : HasEffects σ (unknown.effects_of (effect.Scan ∷ []) Closed) only_scan
  scan_only = record { same = ap (λ s. Some s) (λ i e. or-false (same_effect effect.Scan e) i) }

  pub none_at_all : HasEffects σ (unknown.effects_of [] Closed) no_effects
  none_at_all = record { same = refl }

-- a table that is taken has a row
pub has_row : (o : Option TableDecl) (table : TableDecl) → proper o ≡ Some table → (row : Row) × (row_known table ≡ Some row)
has_row None table is = let wrong : None ≡ Some table = is in cc
has_row (Some other) table is = by_row (row_known other) refl
  where
    by_row : (r : Option Row) → row_known other ≡ r → (row : Row) × (row_known table ≡ Some row)
    by_row None none = let wrong : None ≡ Some table = sym (ap (λ r. if is_some r then Some other else None) none) ∙ is in cc
    by_row (Some row) some = (row, sym (ap row_known (same_some (sym (ap (λ r. if is_some r then Some other else None) some) ∙ is))) ∙ some)

module _ (functions : Named (Entry Ty)) (known_functions : Named (Entry Ground)) (tables : List TableDecl) where
  abbrev IsSound : Walking → Expr → Type 0
  IsSound = Sound functions known_functions tables

  abbrev Finds : Grounding → Walked → Expr → Named Ground → EffectSet → Type 0
  Finds = Found functions known_functions tables

  abbrev Typing : Named Ground → EffectSet → Expr → Ground → List Ground → Type 0
  Typing = HasType known_functions tables

  pub query_sound : (e inner : Expr) (keys : List SortKey) (body : Walking) → layer e ≡ Node-F.Query keys inner → IsSound body inner → IsSound (query_walked e.span keys body) e
  query_sound e inner keys body is sound_body σ names known_names effects s n fs ns es meets =
      let w : Walked = body names (unknown.effects_of (effect.Scan ∷ []) Closed) n in
      let m : ℕ = w.next in
      let ordered : Told = keys_told w.ty keys (1 + m) in
      let by_client : Told = has_if (is_there keys) effects effect.Local (1 + ordered.next) in
      let scan : Equation = unknown.has effects effect.Scan ordered.next in
      let o : Own = own w.ty (unknown.same w.ty (ty.List (ty.Var m)) ∷ (ordered.equations ++ scan ∷ by_client.equations)) by_client.next in
      let parts : EndedMet σ w.steps o = ended_met σ e.span (all_types w) w.steps o meets in
      let has_body : Finds σ w inner known_names only_scan = sound_body σ names known_names (unknown.effects_of (effect.Scan ∷ []) Closed) only_scan n fs ns (scan_only σ) parts.before in
      let a : Ground = σ.plain m in
      let is_list : has_body.t ≡ known.List a = same_some (sym (met σ w.ty (ty.List (ty.Var m)) has_body.t has_body.ty parts.equations.0) ∙ list_is σ (ty.Var m) a (under_variable σ m)) in
      let becomes : under σ w.ty ≡ Some (known.List a) = has_body.ty ∙ ap (λ t. Some t) is_list in
      let rest : Each (IsMet σ) ordered.equations × Each (IsMet σ) (scan ∷ by_client.equations) = each_parted (IsMet σ) ordered.equations (scan ∷ by_client.equations) parts.equations.1 in
      record {
        t = known.List a;
        inside = known.List a ∷ has_body.inside;
        ty = parts.node ∙ becomes;
        nodes = nodes_of σ w (known.List a) has_body.inside becomes has_body.nodes;
        typed = query keys inner a has_body.inside is (subst (λ t. Typing known_names only_scan inner t has_body.inside) is_list has_body.typed) (keys_sound σ w.ty a keys (1 + m) becomes rest.0)
            (has_sound σ effects s effect.Scan ordered.next es rest.1.0) (has_if_sound σ effects s effect.Local (1 + ordered.next) es (is_there keys) rest.1.1);
      }

  -- ---- changes

  -- the walk of a change and the change
  pub record IsSoundChange (c : ChangeWalk) (change : ChangeExpr) : Type 0 where
    pub name : c.name ≡ (out-ChangeExpr change).name.text
    pub table : c.table ≡ (out-ChangeExpr change).table.text
    pub cond : IsSound c.cond (out-ChangeExpr change).cond
    pub labels : map (λ set. set.0) c.sets ≡ labels_of (out-ChangeExpr change).sets
    pub sets : AreSound functions known_functions tables (map (λ set. set.1) c.sets) (exprs_of (out-ChangeExpr change).sets)

  pub record FoundChange (σ : Grounding) (w : Walked) (change : ChangeExpr) (names : Named Ground) (effects : EffectSet) : Type 0 where
    pub inside : List Ground
    pub ty : under σ w.ty ≡ Some unit
    pub nodes : Become σ w.inside inside
    pub typed : IsChange known_functions tables names change inside
    pub writes : effects effect.Write ≡ true

  -- what is said of what is set, where the labels and the types are these
  pub record SetsMet (σ : Grounding) (effects : Effects) (labels : List Label) (g : Ground) (cond : Ty) (ts : List Ground) (s : EffectSet) (own_ty : Ty) : Type 0 where
    pub sets : Named Ground
    pub labelled_are : labelled labels ts ≡ Some (sets, [])
    pub fields : Each (λ set. HasField g set.0 set.1) sets
    pub is_test : under σ cond ≡ Some known.Bool
    pub writes : s effect.Write ≡ true
    pub ty : under σ own_ty ≡ Some unit

  set_own_sound : (σ : Grounding) (effects : Effects) (s : EffectSet) (labels : List Label) (t : Ty) (g : Ground) (cond : Ty) (types : List Ty) (ts : List Ground) (n : ℕ)
      → HasEffects σ effects s → under σ t ≡ Some g → Become σ types ts → Each (IsMet σ) (set_own effects t cond (labelled labels types) n).equations
      → SetsMet σ effects labels g cond ts s (set_own effects t cond (labelled labels types) n).ty
  set_own_sound σ effects s labels t g cond types ts n es becomes become met_all = by_labels (labelled labels types) (labelled labels ts) refl (labelled_both σ labels types ts become) met_all
    where
      by_labels : (o : Option (Named Ty × List Ty)) (p : Option (Named Ground × List Ground)) → labelled labels ts ≡ p → Labelled σ o p
          → Each (IsMet σ) (set_own effects t cond o n).equations → SetsMet σ effects labels g cond ts s (set_own effects t cond o n).ty
      by_labels None p at both met_all = absurd (never_met σ met_all.0)
      by_labels (Some (sets, rest)) None at both met_all = absurd both
      by_labels (Some (sets, a ∷ rest)) (Some known) at both met_all = absurd (never_met σ met_all.0)
      by_labels (Some (sets, [])) (Some (known_sets, b ∷ more)) at both met_all = cc
      by_labels (Some (sets, [])) (Some (known_sets, [])) at both met_all =
          let told_sets : Told = sets_told t sets n in
          let write : Equation = unknown.has effects effect.Write told_sets.next in
          let rest : Each (IsMet σ) told_sets.equations × Each (IsMet σ) (write ∷ []) = each_parted (IsMet σ) told_sets.equations (write ∷ []) met_all.1 in
          record {
            sets = known_sets;
            labelled_are = at;
            fields = sets_sound σ t g sets known_sets n becomes both.0 rest.0;
            is_test = met_back σ cond ty.Bool known.Bool (under_bool σ) met_all.0;
            writes = has_sound σ effects s effect.Write told_sets.next es rest.1.0;
            ty = under_unit σ;
          }

  change_found : (σ : Grounding) (at : Span) (c : ChangeWalk) (change : ChangeExpr) → IsSoundChange c change
      → (names : Named Ty) (known_names : Named Ground) (effects : Effects) (s : EffectSet) (n : ℕ)
      → Functions σ functions known_functions → Names σ names known_names → HasEffects σ effects s
      → (o : Option TableDecl) → table_named tables c.table ≡ o → Meets σ (change_in at c o names effects n).steps
      → FoundChange σ (change_in at c o names effects n) change known_names s
  change_found σ at c change sound names known_names effects s n fs ns es None is meets =
      absurd (never_met σ (ended_met σ at [] [] (never n) meets).equations.0)
  change_found σ at c change sound names known_names effects s n fs ns es (Some table) is meets =
      let of_table : (row : Row) × (row_known table ≡ Some row) = has_row (find (λ table. bytes_eq table.name.text c.table) tables) table is in
      let row : Row = of_table.0 in
      let t : Ty = unknown.row_of table in
      let g : Ground = record_of row in
      let ty : under σ t ≡ Some g = under_row_of σ table ∙ ap (option_map record_of) of_table.1 in
      let inner : Named Ty = (c.name, t) ∷ names in
      let known_inner : Named Ground = (c.name, g) ∷ known_names in
      let seen_inner : Names σ inner known_inner = one_more σ names known_names c.name t g ty ns in
      let none : Effects = unknown.effects_of [] Closed in
      let w : Walked = c.cond inner none n in
      let labels : List Label = map (λ set. set.0) c.sets in
      let all : WalkedAll = walk_all (map (λ set. set.1) c.sets) inner none w.next in
      let o : Own = set_own effects t w.ty (labelled labels all.types) all.next in
      let parts : EndedMet σ (w.steps ++ all.steps) o = ended_met σ at (all_types w ++ all.inside) (w.steps ++ all.steps) o meets in
      let has_cond : Finds σ w (out-ChangeExpr change).cond known_inner no_effects = sound.cond σ inner known_inner none no_effects n fs seen_inner (none_at_all σ) (each_front (λ step. Holds σ step.said) w.steps all.steps parts.before) in
      let has_sets : FoundAll functions known_functions tables σ all (exprs_of (out-ChangeExpr change).sets) known_inner no_effects =
      all_sound functions known_functions tables (map (λ set. set.1) c.sets) (exprs_of (out-ChangeExpr change).sets) sound.sets σ inner known_inner none no_effects w.next fs seen_inner (none_at_all σ) (each_back (λ step. Holds σ step.said) w.steps all.steps parts.before) in
      let sets : SetsMet σ effects labels g w.ty has_sets.ts s o.ty = set_own_sound σ effects s labels t g w.ty all.types has_sets.ts all.next es ty has_sets.types parts.equations in
      let is_test : has_cond.t ≡ known.Bool = same_some (sym has_cond.ty ∙ sets.is_test) in
      let name : known_inner ≡ ((out-ChangeExpr change).name.text, g) ∷ known_names = ap (λ x. (x, g) ∷ known_names) sound.name in
      record {
        inside = (known.Bool ∷ has_cond.inside) ++ has_sets.inside;
        ty = parts.node ∙ sets.ty;
        nodes = become_both σ (all_types w) all.inside (known.Bool ∷ has_cond.inside) has_sets.inside (nodes_of σ w known.Bool has_cond.inside sets.is_test has_cond.nodes) has_sets.nodes;
        typed = changed row sets.sets has_sets.ts has_cond.inside has_sets.inside
            (subst (λ o. IsRowOf o row) (sym is ∙ ap (table_named tables) sound.table) of_table.1)
            (subst (λ ns. Typing ns no_effects (out-ChangeExpr change).cond known.Bool has_cond.inside) name (subst (λ t. Typing known_inner no_effects (out-ChangeExpr change).cond t has_cond.inside) is_test has_cond.typed))
            (subst (λ ns. HaveTypes known_functions tables ns no_effects (exprs_of (out-ChangeExpr change).sets) has_sets.ts has_sets.inside) name has_sets.typed)
            (subst (λ ls. labelled ls has_sets.ts ≡ Some (sets.sets, [])) sound.labels sets.labelled_are) sets.fields;
        writes = sets.writes;
      }

  pub update_sound : (e : Expr) (change : ChangeExpr) (c : ChangeWalk) → layer e ≡ Node-F.Update change → IsSoundChange c change → IsSound (λ names. change_in e.span c (table_named tables c.table) names) e
  update_sound e change c is sound σ names known_names effects s n fs ns es meets =
      let found : FoundChange σ (change_in e.span c (table_named tables c.table) names effects n) change known_names s = change_found σ e.span c change sound names known_names effects s n fs ns es (table_named tables c.table) refl meets in
      record { t = unit; inside = found.inside; ty = found.ty; nodes = found.nodes; typed = update change is found.typed found.writes }

  pub delete_sound : (e : Expr) (change : ChangeExpr) (c : ChangeWalk) → layer e ≡ Node-F.Delete change → IsSoundChange c change → IsSound (λ names. change_in e.span c (table_named tables c.table) names) e
  delete_sound e change c is sound σ names known_names effects s n fs ns es meets =
      let found : FoundChange σ (change_in e.span c (table_named tables c.table) names effects n) change known_names s = change_found σ e.span c change sound names known_names effects s n fs ns es (table_named tables c.table) refl meets in
      record { t = unit; inside = found.inside; ty = found.ty; nodes = found.nodes; typed = delete change is found.typed found.writes }
