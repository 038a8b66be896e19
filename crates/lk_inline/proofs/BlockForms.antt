-- What a typed block of an instance is made of, by the form of its expression, and how it is typed under the names alone that it
-- captures.
use Rattle.std.proofs.Common.{◌≡◌, refl, sym, ap, ◌∙◌, subst, ℕ, true, false, List, ◌∷◌, drop, Option, Some, None, ◌⊎◌, inl, inr}
use Rattle.lk_ast.specs.Layers.{Layer, layer}
use Rattle.lk_ast.specs.Tables.{tables_of}
use Rattle.lk_ast.specs.declared.declaration.Program.{Program}
use Rattle.lk_ast.specs.declared.expression.ChangeExpr.{ChangeExpr}
use Rattle.lk_ast.specs.declared.expression.Expr.{Expr}
use Rattle.lk_ast.specs.declared.expression.Node.TheOpen.{Node-F}
use Rattle.lk_ast.specs.declared.expression.SortKey.{SortKey}
use Rattle.lk_ast.specs.declared.place.Word.{Word}
use Rattle.lk_ground_types.specs.Shapes.{is_flat, is_query_type}
use Rattle.lk_index.specs.Free.{captured_change, captured_query, free, free_change}
use Rattle.lk_inline.proofs.BlockNames.{AreKept, names_kept}
use Rattle.lk_inline.proofs.CallArms.{TakesFirst, called, other, takes_first}
use Rattle.lk_scope.specs.Names.{no_names}
use Rattle.lk_sites.specs.Pending.{Pending, pending}
use Rattle.lk_sites.specs.Takes.{Takes}
use Rattle.lk_sound.proofs.Free.{change_known, known_in as names_known}
use Rattle.lk_sound.proofs.Names.{IsAmong}
use Rattle.lk_sound.proofs.OrderedWords.{ordered_holds}
use Rattle.lk_sound.proofs.Retyped.{outermost, retyped, retyped_change, retyped_change_nodes, retyped_nodes}
use Rattle.lk_sound.specs.Instances.{Instances, IsFine, IsFlatPart}
use Rattle.lk_sound.specs.Nodes.{TypedNode, Use, change_nodes, known_in, nodes_of, parts_of}
use Rattle.lk_types.specs.Each.{Each}
use Rattle.lk_types.specs.Rows.{Label, Row, EffectSet}
use Rattle.lk_types.specs.declared.ground.Ground.{Ground}
use Rattle.lk_types.specs.declared.ground.Ground.TheVariants as known
use Rattle.lk_typing.specs.Heads as operator
use Rattle.lk_typing.specs.Heads.{head}
use Rattle.lk_typing.specs.Names.{Entry, HasRows, Named, named}
use Rattle.lk_typing.specs.Rules.{Rule}
use Rattle.lk_typing.specs.Rules as rule
use Rattle.lk_typing.specs.Types.{only_scan, record_of}
use Rattle.lk_typing.specs.Typing.{HasType, IsChange, IsKeyOf, label_of, expr_of, plain, lambda, var, switch, switch_open, for_list, for_table, query, update, delete}

-- ---- what is taken for the first node

own_type : (helpers : List Use) (node : TypedNode) (nodes : List TypedNode) (types : List Ground) (calls : List ℕ) (after : Pending) → TakesFirst helpers node nodes (pending types calls) after → (others : List Ground) × (types ≡ node.part.type ∷ others)
own_type helpers node nodes types calls after (other others used own behind) = (others, own)
own_type helpers node nodes types calls after (called others later u h used at own calls_are behind) = (others, own)

-- what is behind a node that uses no function
behind_own : (helpers : List Use) (node : TypedNode) (nodes : List TypedNode) (types : List Ground) (calls : List ℕ) (after : Pending) → node.part.use_of ≡ None → TakesFirst helpers node nodes (pending types calls) after
    → Takes helpers nodes (pending (drop 1 types) calls) after
behind_own helpers node nodes types calls after none (other others used own behind) = subst (λ ts. Takes helpers nodes (pending ts calls) after) (sym (ap (drop 1) own)) behind
behind_own helpers node nodes types calls after none (called others later u h used at own calls_are behind) = let wrong : None ≡ Some u = sym none ∙ used in absurd cc

-- ---- a node that is an update or a deletion

abbrev changes_by : Layer → Option ChangeExpr
changes_by (Node-F.Update change) = Some change
changes_by (Node-F.Delete change) = Some change
changes_by _ = None

abbrev ChangesBy : Layer → ChangeExpr → Type 0
ChangesBy l change = (l ≡ Node-F.Update change) ⊎ (l ≡ Node-F.Delete change)

by_change : (l : Layer) (change : ChangeExpr) → ChangesBy l change → changes_by l ≡ Some change
by_change l change (inl at) = ap changes_by at
by_change l change (inr at) = ap changes_by at

no_head : (l : Layer) (change : ChangeExpr) → ChangesBy l change → head label_of expr_of l ≡ None
no_head l change (inl at) = ap (head label_of expr_of) at
no_head l change (inr at) = ap (head label_of expr_of) at

module _ (p : Program) (i : Instances) (functions : Named (Entry Ground)) where
  -- ---- readings of tables

  -- the table has such rows, of which the reading's type is the list
  pub record IsTableBlock (x : Word) (types : List Ground) : Type 0 where
    pub row : Row
    pub has : HasRows (tables_of p) x.text row
    pub others : List Ground
    pub own : types ≡ known.List (record_of row) ∷ others

  table_by : (locals : Named Ground) (effects : EffectSet) (x : Word) (ts : List Ground) (t : Ground) (types others : List Ground) → Rule functions (tables_of p) locals effects (operator.Table x.text) ts t → types ≡ t ∷ others → IsTableBlock x types
  table_by locals effects x _ _ types others (rule.table row has scans) own = record { row = row; has = has; others = others; own = own }

  pub table_block : {locals : Named Ground} {effects : EffectSet} {e : Expr} {t : Ground} {inside : List Ground} (d : HasType functions (tables_of p) locals effects e t inside) (x : Word) → layer e ≡ Node-F.Table x
      → (types : List Ground) (calls : List ℕ) (after : Pending) → Takes i.helpers (nodes_of false d) (pending types calls) after → IsTableBlock x types
  unfolding nodes_of
  table_block {locals = locals} {effects = effects} {t = t} (plain h ts is have by) x at types calls after takes =
      let same_head : Some h ≡ Some (operator.Table x.text) = sym is ∙ ap (head label_of expr_of) at in
      let same : h ≡ operator.Table x.text = cc in
      let own = own_type i.helpers _ _ types calls after (takes_first i.helpers _ _ (pending types calls) after takes) in
      table_by locals effects x ts t types own.0 (subst (λ h. Rule functions (tables_of p) locals effects h ts t) same by) own.1
  table_block (lambda l params own a is named moves body local) x at types calls after takes = let wrong : Node-F.Lambda l ≡ Node-F.Table x = sym is ∙ at in absurd cc
  table_block (var y d rest a first last is one next) x at types calls after takes = let wrong : Node-F.Var y d rest ≡ Node-F.Table x = sym is ∙ at in absurd cc
  table_block (switch d cases row tags ts first bodies is one have same made local) x at types calls after takes = let wrong : Node-F.Switch d cases None ≡ Node-F.Table x = sym is ∙ at in absurd cc
  table_block (switch_open d cases last rest row tags ts first bodies inside is one have same next made local) x at types calls after takes = let wrong : Node-F.Switch d cases (Some last) ≡ Node-F.Table x = sym is ∙ at in absurd cc
  table_block (for_list y d body a b first inside is one next) x at types calls after takes = let wrong : Node-F.ForList y d body ≡ Node-F.Table x = sym is ∙ at in absurd cc
  table_block (for_table y d body a b first inside is one next) x at types calls after takes = let wrong : Node-F.ForTable y d body ≡ Node-F.Table x = sym is ∙ at in absurd cc
  table_block (query keys body a inside is one sorted scans own) x at types calls after takes = let wrong : Node-F.Query keys body ≡ Node-F.Table x = sym is ∙ at in absurd cc
  table_block (update change is changes writes) x at types calls after takes = let wrong : Node-F.Update change ≡ Node-F.Table x = sym is ∙ at in absurd cc
  table_block (delete change is changes writes) x at types calls after takes = let wrong : Node-F.Delete change ≡ Node-F.Table x = sym is ∙ at in absurd cc

  -- ---- queries

  -- its body has a type with flat nodes, for which this is taken; its keys are labels of the rows that it gives
  pub record IsQueryBlock (locals : Named Ground) (keys : List SortKey) (body : Expr) (types : List Ground) (calls : List ℕ) (after : Pending) : Type 0 where
    pub row : Ground
    pub others : List Ground
    pub own : types ≡ known.List row ∷ others
    pub sorted : Each (IsKeyOf row) keys
    pub inside : List Ground
    pub typed : HasType functions (tables_of p) locals only_scan body (known.List row) inside
    pub rows : is_query_type (known.List row) ≡ true
    pub flat : Each (IsFlatPart i.helpers) (parts_of (nodes_of true typed))
    pub captured : Each (λ t. is_flat t ≡ true) (known_in locals (free body no_names))
    pub takes : Takes i.helpers (nodes_of true typed) (pending (drop 1 types) calls) after

  pub query_block : {locals : Named Ground} {effects : EffectSet} {e : Expr} {t : Ground} {inside : List Ground} (d : HasType functions (tables_of p) locals effects e t inside) (keys : List SortKey) (body : Expr) → layer e ≡ Node-F.Query keys body
      → Each (IsFine i) (nodes_of false d) → (types : List Ground) (calls : List ℕ) (after : Pending) → Takes i.helpers (nodes_of false d) (pending types calls) after → IsQueryBlock locals keys body types calls after
  unfolding nodes_of
  query_block (plain h ts is have by) keys body at fine types calls after takes = let wrong : Some h ≡ None = sym is ∙ ap (head label_of expr_of) at in absurd cc
  query_block (lambda l params own a is named moves inner local) keys body at fine types calls after takes = let wrong : Node-F.Lambda l ≡ Node-F.Query keys body = sym is ∙ at in absurd cc
  query_block (var y d rest a first last is one next) keys body at fine types calls after takes = let wrong : Node-F.Var y d rest ≡ Node-F.Query keys body = sym is ∙ at in absurd cc
  query_block (switch d cases row tags ts first bodies is one have same made local) keys body at fine types calls after takes = let wrong : Node-F.Switch d cases None ≡ Node-F.Query keys body = sym is ∙ at in absurd cc
  query_block (switch_open d cases last rest row tags ts first bodies inside is one have same next made local) keys body at fine types calls after takes = let wrong : Node-F.Switch d cases (Some last) ≡ Node-F.Query keys body = sym is ∙ at in absurd cc
  query_block (for_list y d inner a b first inside is one next) keys body at fine types calls after takes = let wrong : Node-F.ForList y d inner ≡ Node-F.Query keys body = sym is ∙ at in absurd cc
  query_block (for_table y d inner a b first inside is one next) keys body at fine types calls after takes = let wrong : Node-F.ForTable y d inner ≡ Node-F.Query keys body = sym is ∙ at in absurd cc
  query_block (update change is changes writes) keys body at fine types calls after takes = let wrong : Node-F.Update change ≡ Node-F.Query keys body = sym is ∙ at in absurd cc
  query_block (delete change is changes writes) keys body at fine types calls after takes = let wrong : Node-F.Delete change ≡ Node-F.Query keys body = sym is ∙ at in absurd cc
  query_block {locals = locals} (query other_keys inner a inside is one sorted scans own) keys body at fine types calls after takes =
      let layers : Node-F.Query other_keys inner ≡ Node-F.Query keys body = sym is ∙ at in
      let same : inner ≡ body = cc in
      let same_keys : other_keys ≡ keys = cc in
      let block = fine.0.flat _ refl in
      let first = takes_first i.helpers _ (nodes_of true one) (pending types calls) after takes in
      let own = own_type i.helpers _ (nodes_of true one) types calls after first in
      subst (λ b. IsQueryBlock locals keys b types calls after) same
      (record {
        row = a;
        others = own.0;
        own = own.1;
        sorted = subst (Each (IsKeyOf a)) same_keys sorted;
        inside = inside;
        typed = one;
        rows = block.parts.0.type;
        flat = block.parts.1;
        captured = block.captured;
        takes = behind_own i.helpers _ (nodes_of true one) types calls after refl first;
      })

  -- the same under the names alone that it captures
  pub record IsQueryAlone (locals : Named Ground) (keys : List SortKey) (body : Expr) (types : List Ground) (calls : List ℕ) (after : Pending) : Type 0 where
    pub names : AreKept locals (captured_query body)
    pub row : Ground
    pub others : List Ground
    pub own : types ≡ known.List row ∷ others
    pub sorted : Each (IsKeyOf row) keys
    pub inside : List Ground
    pub typed : HasType functions (tables_of p) names.kept only_scan body (known.List row) inside
    pub rows : is_query_type (known.List row) ≡ true
    pub flat : Each (IsFlatPart i.helpers) (parts_of (nodes_of true typed))
    pub takes : Takes i.helpers (nodes_of true typed) (pending (drop 1 types) calls) after

  pub query_alone : (locals : Named Ground) (keys : List SortKey) (body : Expr) (types : List Ground) (calls : List ℕ) (after : Pending) → IsQueryBlock locals keys body types calls after → IsQueryAlone locals keys body types calls after
  query_alone locals keys body types calls after block =
      let all : AreKept locals (captured_query body) = names_kept locals (free body no_names) (names_known block.typed no_names) block.captured in
      let inner = outermost {xs = free body no_names} (λ y among. all.same y (ordered_holds (free body no_names) y among)) in
      let nodes_are = retyped_nodes true block.typed no_names all.kept inner.used inner.round in
      record {
        names = all;
        row = block.row;
        others = block.others;
        own = block.own;
        sorted = block.sorted;
        inside = block.inside;
        typed = retyped block.typed no_names all.kept inner.used inner.round;
        rows = block.rows;
        flat = subst (λ nodes. Each (IsFlatPart i.helpers) (parts_of nodes)) (sym nodes_are) block.flat;
        takes = subst (λ nodes. Takes i.helpers nodes (pending (drop 1 types) calls) after) (sym nodes_are) block.takes;
      }

  -- ---- changes of tables

  pub record IsChangeBlock (locals : Named Ground) (change : ChangeExpr) (types : List Ground) (calls : List ℕ) (after : Pending) : Type 0 where
    pub inside : List Ground
    pub typed : IsChange functions (tables_of p) locals change inside
    pub flat : Each (IsFlatPart i.helpers) (parts_of (change_nodes typed))
    pub captured : Each (λ t. is_flat t ≡ true) (known_in locals (free_change change no_names))
    pub takes : Takes i.helpers (change_nodes typed) (pending (drop 1 types) calls) after

  -- an update or a deletion
  change_block : {locals : Named Ground} {effects : EffectSet} {e : Expr} {t : Ground} {inside : List Ground} (d : HasType functions (tables_of p) locals effects e t inside) (change : ChangeExpr) → ChangesBy (layer e) change
      → Each (IsFine i) (nodes_of false d) → (types : List Ground) (calls : List ℕ) (after : Pending) → Takes i.helpers (nodes_of false d) (pending types calls) after → IsChangeBlock locals change types calls after
  unfolding nodes_of
  change_block {e = e} (plain h ts is have by) change at fine types calls after takes = let wrong : Some h ≡ None = sym is ∙ no_head (layer e) change at in absurd cc
  change_block (lambda l params own a is named moves inner local) change at fine types calls after takes = let wrong : None ≡ Some change = sym (ap changes_by is) ∙ by_change _ change at in absurd cc
  change_block (var y d rest a first last is one next) change at fine types calls after takes = let wrong : None ≡ Some change = sym (ap changes_by is) ∙ by_change _ change at in absurd cc
  change_block (switch d cases row tags ts first bodies is one have same made local) change at fine types calls after takes = let wrong : None ≡ Some change = sym (ap changes_by is) ∙ by_change _ change at in absurd cc
  change_block (switch_open d cases last rest row tags ts first bodies inside is one have same next made local) change at fine types calls after takes = let wrong : None ≡ Some change = sym (ap changes_by is) ∙ by_change _ change at in absurd cc
  change_block (for_list y d inner a b first inside is one next) change at fine types calls after takes = let wrong : None ≡ Some change = sym (ap changes_by is) ∙ by_change _ change at in absurd cc
  change_block (for_table y d inner a b first inside is one next) change at fine types calls after takes = let wrong : None ≡ Some change = sym (ap changes_by is) ∙ by_change _ change at in absurd cc
  change_block (query keys body a inside is one sorted scans own) change at fine types calls after takes = let wrong : None ≡ Some change = sym (ap changes_by is) ∙ by_change _ change at in absurd cc
  change_block {locals = locals} {inside = inside} (update elsewhere is changes writes) change at fine types calls after takes =
      let layers : Some elsewhere ≡ Some change = sym (ap changes_by is) ∙ by_change _ change at in
      let same : elsewhere ≡ change = cc in
      let block = fine.0.flat _ refl in
      subst (λ c. IsChangeBlock locals c types calls after) same (record { inside = inside; typed = changes; flat = block.parts; captured = block.captured; takes = behind_own i.helpers _ (change_nodes changes) types calls after refl (takes_first i.helpers _ (change_nodes changes) (pending types calls) after takes) })
  change_block {locals = locals} {inside = inside} (delete elsewhere is changes writes) change at fine types calls after takes =
      let layers : Some elsewhere ≡ Some change = sym (ap changes_by is) ∙ by_change _ change at in
      let same : elsewhere ≡ change = cc in
      let block = fine.0.flat _ refl in
      subst (λ c. IsChangeBlock locals c types calls after) same (record { inside = inside; typed = changes; flat = block.parts; captured = block.captured; takes = behind_own i.helpers _ (change_nodes changes) types calls after refl (takes_first i.helpers _ (change_nodes changes) (pending types calls) after takes) })

  pub update_block : {locals : Named Ground} {effects : EffectSet} {e : Expr} {t : Ground} {inside : List Ground} (d : HasType functions (tables_of p) locals effects e t inside) (change : ChangeExpr) → layer e ≡ Node-F.Update change
      → Each (IsFine i) (nodes_of false d) → (types : List Ground) (calls : List ℕ) (after : Pending) → Takes i.helpers (nodes_of false d) (pending types calls) after → IsChangeBlock locals change types calls after
  update_block d change at = change_block d change (inl at)

  pub delete_block : {locals : Named Ground} {effects : EffectSet} {e : Expr} {t : Ground} {inside : List Ground} (d : HasType functions (tables_of p) locals effects e t inside) (change : ChangeExpr) → layer e ≡ Node-F.Delete change
      → Each (IsFine i) (nodes_of false d) → (types : List Ground) (calls : List ℕ) (after : Pending) → Takes i.helpers (nodes_of false d) (pending types calls) after → IsChangeBlock locals change types calls after
  delete_block d change at = change_block d change (inr at)

  -- the same under the names alone that it captures
  pub record IsChangeAlone (locals : Named Ground) (change : ChangeExpr) (types : List Ground) (calls : List ℕ) (after : Pending) : Type 0 where
    pub names : AreKept locals (captured_change change)
    pub inside : List Ground
    pub typed : IsChange functions (tables_of p) names.kept change inside
    pub flat : Each (IsFlatPart i.helpers) (parts_of (change_nodes typed))
    pub takes : Takes i.helpers (change_nodes typed) (pending (drop 1 types) calls) after

  pub change_alone : (locals : Named Ground) (change : ChangeExpr) (types : List Ground) (calls : List ℕ) (after : Pending) → IsChangeBlock locals change types calls after → IsChangeAlone locals change types calls after
  change_alone locals change types calls after block =
      let all : AreKept locals (captured_change change) = names_kept locals (free_change change no_names) (change_known block.typed no_names) block.captured in
      let used : (y : Label) → IsAmong y (free_change change no_names) → named y all.kept ≡ named y locals = λ y among. all.same y (ordered_holds (free_change change no_names) y among) in
      let nodes_are = retyped_change_nodes block.typed all.kept used in
      record {
        names = all;
        inside = block.inside;
        typed = retyped_change block.typed all.kept used;
        flat = subst (λ nodes. Each (IsFlatPart i.helpers) (parts_of nodes)) (sym nodes_are) block.flat;
        takes = subst (λ nodes. Takes i.helpers nodes (pending (drop 1 types) calls) after) (sym nodes_are) block.takes;
      }
