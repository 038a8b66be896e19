-- Queries, updates and deletions: what they capture has the types that the names around tell, and behind them nothing is left of
-- what stands in them.
use Rattle.std.proofs.Common.{◌≡◌, refl, sym, ap, subst, ◌∙◌, ℕ, true, false, List, [], ◌∷◌, ◌++◌, drop, length, Option, Some, None, inl, inr, slice_get, if◌then◌else◌}
use Rattle.std.proofs.lemmas.Option.{none-some}
use Rattle.std.specs.Cmp.Lexicographic.{slice_cmp}
use Rattle.std.specs.List.Sorted.{IsStrictlySortedBy}
use Rattle.std.specs.Ordering.{nat_cmp}
use Rattle.std.proofs.Math.Numerals.{one-add}
use Rattle.lk_ast.specs.Functions.{functions_of}
use Rattle.lk_ast.specs.Layers.{Layer, layer}
use Rattle.lk_ast.specs.Tables.{tables_of}
use Rattle.lk_ast.specs.declared.declaration.Program.{Program}
use Rattle.lk_ast.specs.declared.expression.ChangeExpr.{ChangeExpr}
use Rattle.lk_ast.specs.declared.expression.Expr.{Expr}
use Rattle.lk_ast.specs.declared.expression.Node.TheOpen.{Node-F}
use Rattle.lk_ast.specs.declared.expression.SortKey.{SortKey}
use Rattle.lk_ast.specs.declared.place.Span.{Span}
use Rattle.lk_bodies.specs.Uses.{change_uses, query_uses}
use Rattle.lk_code.specs.Parts as code
use Rattle.lk_code.specs.Parts.{AreKept, Context, Info, captures}
use Rattle.lk_index.specs.Free.{captured_change, captured_query}
use Rattle.lk_inline.proofs.UsesTyped.{IsTypedUse, change_typed, uses_typed}
use Rattle.lk_ir.specs.Tables.{names_of}
use Rattle.lk_ir.specs.declared.nodes.Block.{Block}
use Rattle.lk_ir.specs.declared.nodes.Block.TheVariants as block
use Rattle.lk_ir.specs.declared.nodes.Forms.{Forms}
use Rattle.lk_ir.specs.declared.nodes.Kept.{Kept}
use Rattle.lk_ir.specs.declared.nodes.Kind.{Kind}
use Rattle.lk_ir.specs.declared.nodes.Kind.TheVariants as kind
use Rattle.lk_lower.proofs.Counted.{taken}
use Rattle.lk_lower.specs.Lowering as low
use Rattle.lk_lower.specs.Lowering.{AreCaptured, AreLocals, IsBlockLabel, IsKept, IsLowered, Pending, Shell}
use Rattle.lk_lowered.proofs.Contexts.{AreNamesOf, named_alike}
use Rattle.lk_lowered.proofs.Inverted.{IsNode, as_node, as_none}
use Rattle.lk_lowered.proofs.NodeCounts.{as_many}
use Rattle.lk_lowered.proofs.Typed.{IsOk, is_block, type_there}
use Rattle.lk_lowered.proofs.Turning.{skipped}
use Rattle.lk_lowered.proofs.Told.{KeptTypes, Tells}
use Rattle.lk_mono.proofs.NodeTypes.{types_of, types_of_change}
use Rattle.lk_mono.proofs.PlacedUses.{placed, use_placed, uses_placed}
use Rattle.lk_mono.specs.Grounded as called
use Rattle.lk_mono.specs.Grounded.{AreCalled}
use Rattle.lk_mono.specs.Held.{types_in}
use Rattle.lk_ground.specs.Sites.{uses_in}
use Rattle.lk_sites.specs.Pending.{pending}
use Rattle.lk_sites.specs.Takes as takes
use Rattle.lk_sites.specs.Takes.{Takes}
use Rattle.lk_sound.proofs.Bags.{all_early}
use Rattle.lk_sound.proofs.InsideNodes.{IsInside, inside_change, inside_nodes}
use Rattle.lk_sound.proofs.Names.{IsAmong}
use Rattle.lk_sound.specs.Instances.{AreClosed, Instances, IsFine}
use Rattle.lk_sound.specs.Nodes.{TypedNode, Use, change_nodes, nodes_of}
use Rattle.lk_types.proofs.Parts.{same_some}
use Rattle.lk_types.specs.Each.{Each}
use Rattle.lk_types.specs.Rows.{EffectSet, Label}
use Rattle.lk_types.specs.declared.ground.Ground.{Ground}
use Rattle.lk_typing.specs.Heads.{Head, head}
use Rattle.lk_typing.specs.Names.{Entry, Named, named}
use Rattle.lk_typing.specs.Typing.{HasType, label_of, expr_of}
use Rattle.lk_typing.specs.Typing as typing

-- ---- what is called inside

module _ (mains helpers : List Use) where
  -- nodes inside of a query, an update or a deletion take these types and call helpers, and leave these calls for others
  pub record AreTaken (nodes rest : List TypedNode) (types : List Ground) (calls : List ℕ) : Type 0 where
    pub left : List ℕ
    pub takes : Takes helpers nodes (pending (types_in nodes ++ types) calls) (pending types left)
    pub others : AreCalled mains helpers false rest left
    pub gone : left ≡ drop (length (placed nodes)) calls

  pub called_taken : (nodes rest : List TypedNode) (types : List Ground) (calls : List ℕ) → Each IsInside nodes → AreCalled mains helpers false (nodes ++ rest) calls → AreTaken nodes rest types calls
  called_taken [] rest types calls inside all = record { left = calls; takes = takes.none; others = all; gone = refl }
  called_taken (node ∷ nodes) rest types calls inside (called.other is behind) =
      let later = called_taken nodes rest types calls inside.1 behind in
      record {
        left = later.left;
        takes = takes.other is later.takes;
        others = later.others;
        gone = later.gone ∙ sym (ap (λ us. drop (length (us ++ placed nodes)) calls) (ap (use_placed node.part.span.start) is));
      }
  called_taken (node ∷ nodes) rest types _ inside (called.called {place = place} {places = places} {u = u} is at behind) =
      let later = called_taken nodes rest types places inside.1 behind in
      record {
        left = later.left;
        takes = takes.called is (subst (λ b. slice_get (if b then helpers else mains) place ≡ Some u) inside.0 at) later.takes;
        others = later.others;
        gone = later.gone ∙ sym (ap (λ us. drop (length (us ++ placed nodes)) (place ∷ places)) (ap (use_placed node.part.span.start) is));
      }

-- ---- captured names

module _ (f : Forms) (rise : IsStrictlySortedBy (slice_cmp nat_cmp) f.locals) where
  pub record AreToldKept (c : Context) (kept : List Kept) : Type 0 where
    pub types : List Ground
    pub are : AreKept f c kept types
    pub told : KeptTypes f kept types

  pub told_kept : (names uses : Named Ground) (c : Context) → AreNamesOf f names c → (xs : List Label) (kept : List Kept) → AreLocals f (names_of kept) xs → Each (IsKept f uses) kept → ((x : Label) → IsAmong x xs → IsTypedUse uses names x) → AreToldKept c kept
  told_kept names uses c alike [] [] are types typed = record { types = []; are = tt; told = tt }
  told_kept names uses c alike (x ∷ xs) [] are types typed = absurd are
  told_kept names uses c alike [] (k ∷ kept) are types typed = absurd are
  told_kept names uses c alike (x ∷ xs) (k ∷ kept) are (one, others) typed =
      let rest = told_kept names uses c alike xs kept are.1 others (λ y among. typed y (inr among)) in
      let y : Label = one.0 in
      let t : Ground = one.1 in
      let same : x ≡ y = same_some (sym are.0 ∙ one.2) in
      let found : named x names ≡ Some t = sym (typed x (inl refl)).1 ∙ ap (λ z. named z uses) same ∙ one.3 in
      record {
        types = t ∷ rest.types;
        are = (named_alike f rise alike k.name x are.0 ∙ found, one.4, rest.are);
        told = (one.4, rest.told);
      }

-- ---- nodes

-- the node of a query, an update or a deletion, with what it captures
pub record IsBlockNode (f : Forms) (owner n ty : ℕ) (names : List Label) (uses : Named Ground) (label : ℕ) (k : Kind) : Type 0 where
  pub block : Block
  pub takes : captures block ≡ true
  pub kept : List Kept
  pub is : k ≡ kind.Reach block label kept
  pub labelled : IsBlockLabel f owner n ty label
  pub captured : AreCaptured f names uses kept

module _ (f : Forms) (owner n ty : ℕ) where
  pub query_node : {keys : List SortKey} {d : Expr} {at : Span} {p q : Pending} {k : Kind} → Shell f owner n ty (Node-F.Query keys d) at p k q → IsBlockNode f owner n ty (captured_query d) (query_uses d (drop 1 p.types)) p.label k
  query_node (low.operation is) = absurd (none-some _ is)
  query_node (low.query {kept = kept} of are) = record { block = block.Query; takes = refl; kept = kept; is = refl; labelled = of; captured = are }

  pub update_node : {change : ChangeExpr} {at : Span} {p q : Pending} {k : Kind} → Shell f owner n ty (Node-F.Update change) at p k q → IsBlockNode f owner n ty (captured_change change) (change_uses change (drop 1 p.types)) p.label k
  update_node (low.operation is) = absurd (none-some _ is)
  update_node (low.update {kept = kept} of are touched) = record { block = block.Update; takes = refl; kept = kept; is = refl; labelled = of; captured = are }

  pub delete_node : {change : ChangeExpr} {at : Span} {p q : Pending} {k : Kind} → Shell f owner n ty (Node-F.Delete change) at p k q → IsBlockNode f owner n ty (captured_change change) (change_uses change (drop 1 p.types)) p.label k
  delete_node (low.operation is) = absurd (none-some _ is)
  delete_node (low.delete {kept = kept} of are touched) = record { block = block.Delete; takes = refl; kept = kept; is = refl; labelled = of; captured = are }

no_block : (l : Layer) (h : Head) → head label_of expr_of l ≡ Some h → is_block l ≡ true → ⊥
no_block (Node-F.Query keys e) h is acts = none-some h is
no_block (Node-F.Update change) h is acts = none-some h is
no_block (Node-F.Delete change) h is acts = none-some h is
no_block other h is acts = let wrong : false ≡ true = acts in cc

drop_front : (xs ys : List Ground) → drop (length xs) (xs ++ ys) ≡ ys
drop_front [] ys = refl
drop_front (x ∷ xs) ys = drop_front xs ys

module _ (f : Forms) (rise : IsStrictlySortedBy (slice_cmp nat_cmp) f.locals) (info : ℕ → Option Info) (tells : Tells f info) (p : Program) (i : Instances) (closed : AreClosed p i) (owner : ℕ) where
  abbrev Ok : Context → ℕ → Ground → List Ground → List TypedNode → Pending → Type 0
  Ok = IsOk f rise info tells i.mains i.helpers owner

  -- what is left behind it
  record IsBehind (types : List Ground) (rest : List TypedNode) (after : Pending) : Type 0 where
    types_are : after.types ≡ types
    calls : AreCalled i.mains i.helpers false rest after.calls

  behind : {functions : Named (Entry Ground)} {names : Named Ground} {effects : EffectSet} {e : Expr} {t : Ground} {inside : List Ground} {within n : ℕ} {before after : Pending} (d : HasType functions (tables_of p) names effects e t inside) (node : TypedNode) (nodes : List TypedNode) → nodes_of false d ≡ node ∷ nodes → node.part.use_of ≡ None
      → IsLowered f owner within e before n after → (types : List Ground) (rest : List TypedNode) → before.types ≡ (t ∷ inside) ++ types → AreTaken i.mains i.helpers nodes rest types before.calls → IsBehind types rest after
  behind {e = e} {t = t} {inside = inside} {before = before} {after = after} d node nodes nodes_are unused lowered types rest types_are all =
      let gone = taken f owner lowered in
      let many : placed nodes ≡ uses_in e = sym (ap (λ us. us ++ placed nodes) (ap (use_placed node.part.span.start) unused)) ∙ sym (ap placed nodes_are) ∙ uses_placed false d in
      let left : after.calls ≡ all.left = gone.calls ∙ ap (λ us. drop (length us) before.calls) (sym many) ∙ sym all.gone in
      record {
        types_are = gone.types ∙ ap (λ k. drop k before.types) (as_many d ∙ one-add (length inside)) ∙ ap (drop (length (t ∷ inside))) types_are ∙ drop_front (t ∷ inside) types;
        calls = subst (AreCalled i.mains i.helpers false rest) (sym left) all.others;
      }

  -- a node that captures names of the types that are told around it
  node_ok : {names uses : Named Ground} {captured : List Label} {within n : ℕ} {e : Expr} {l : Layer} {before after : Pending} {t : Ground} {types : List Ground} {rest : List TypedNode} (m : IsNode f owner within e l before n after)
      → m.form.parts ≡ [] → m.form.tails ≡ [] → IsBlockNode f owner n m.form.ty captured uses before.label m.form.kind → slice_get f.types m.form.ty ≡ Some t → (c : Context) → AreNamesOf f names c → ((x : Label) → IsAmong x captured → IsTypedUse uses names x) → IsBehind types rest after → Ok c n t types rest after
  node_ok {names} {uses} {captured} {n = n} {before = before} {t = t} m no_part no_tail k has c alike typed behind =
      let all = told_kept f rise names uses c alike captured k.kept k.captured.names_are k.captured.types_are typed in
      let told = tells.blocks before.label n k.labelled.form m.form k.block k.kept all.types t k.labelled.is k.labelled.node_is k.labelled.body_is m.there k.is k.takes all.told (ap (slice_get f.types) k.labelled.ty_is ∙ has) in
      let other_kind : (label : ℕ) (xs : List ℕ) → m.form.kind ≡ kind.Lambda label xs → ⊥ = λ label xs same. (let wrong : kind.Reach k.block before.label k.kept ≡ kind.Lambda label xs = sym k.is ∙ same in cc) in
      record {
        typed = code.node m.form [] [] m.there has (subst (λ j. code.Rule f info c j [] [] t) (sym k.is) (code.reach k.takes told.2 all.are)) (subst (λ ns. code.AreTyped f info c ns []) (sym no_part) code.none) (subst (λ ns. code.HaveTypes f info ns []) (sym no_tail) code.no_tail);
        bodies = code.with_bodies m.form m.there (λ label xs b of. absurd (other_kind label xs of)) (λ label xs b of. absurd (other_kind label xs of)) (subst (code.HaveBodies f info) (sym no_part) code.no_bodies) (subst (code.HaveBodies f info) (sym no_tail) code.no_bodies);
        types_are = behind.types_are;
        calls = behind.calls;
      }

  pub blocks_ok : {functions : Named (Entry Ground)} (names : Named Ground) (effects : EffectSet) (e : Expr) (t : Ground) (inside : List Ground) (within n : ℕ) (before after : Pending) (d : HasType functions (tables_of p) names effects e t inside) → is_block (layer e) ≡ true → IsLowered f owner within e before n after → (c : Context) → AreNamesOf f names c
      → (types : List Ground) (rest : List TypedNode) → before.types ≡ (t ∷ inside) ++ types → AreCalled i.mains i.helpers false (nodes_of false d ++ rest) before.calls → Each (IsFine i) (nodes_of false d) → Ok c n t types rest after
  unfolding nodes_of
  blocks_ok {functions} names effects e t inside within n before after (typing.query keys body a inner is one sorted scans own) acts lowered c alike types rest types_are calls fine =
      let d : HasType functions (tables_of p) names effects e t inside = typing.query keys body a inner is one sorted scans own in
      let m = as_node f owner _ is refl lowered in
      let all = called_taken i.mains i.helpers (nodes_of true one) rest types before.calls (inside_nodes one) (skipped i.mains i.helpers refl calls) in
      let flat = all_early p i closed (nodes_of true one) (fine.0.flat _ refl).parts.1 in
      let first : types_in (nodes_of true one) ++ types ≡ drop 1 before.types = ap (λ ts. ts ++ types) (types_of true one) ∙ sym (ap (drop 1) types_are) in
      let takes_all = subst (λ ts. Takes i.helpers (nodes_of true one) (pending ts before.calls) (pending types all.left)) first all.takes in
      node_ok m (as_none f owner m.parts).0 (as_none f owner m.tails).0 (query_node f owner n m.form.ty m.shell) (type_there f rise info tells i.mains i.helpers owner t inside types m.form.ty before m.typed types_are) c alike
      (λ x among. uses_typed p i.helpers (length (functions_of p)) true one refl refl flat (drop 1 before.types) before.calls (pending types all.left) takes_all x among)
      (behind d _ (nodes_of true one) refl refl lowered types rest types_are all)
  blocks_ok {functions} names effects e t inside within n before after (typing.update change is changes writes) acts lowered c alike types rest types_are calls fine =
      let d : HasType functions (tables_of p) names effects e t inside = typing.update change is changes writes in
      let m = as_node f owner _ is refl lowered in
      let all = called_taken i.mains i.helpers (change_nodes changes) rest types before.calls (inside_change changes) (skipped i.mains i.helpers refl calls) in
      let flat = all_early p i closed (change_nodes changes) (fine.0.flat _ refl).parts in
      let first : types_in (change_nodes changes) ++ types ≡ drop 1 before.types = ap (λ ts. ts ++ types) (types_of_change changes) ∙ sym (ap (drop 1) types_are) in
      let takes_all = subst (λ ts. Takes i.helpers (change_nodes changes) (pending ts before.calls) (pending types all.left)) first all.takes in
      node_ok m (as_none f owner m.parts).0 (as_none f owner m.tails).0 (update_node f owner n m.form.ty m.shell) (type_there f rise info tells i.mains i.helpers owner t inside types m.form.ty before m.typed types_are) c alike
      (λ x among. change_typed p i.helpers (length (functions_of p)) changes flat (drop 1 before.types) before.calls (pending types all.left) takes_all x among)
      (behind d _ (change_nodes changes) refl refl lowered types rest types_are all)
  blocks_ok {functions} names effects e t inside within n before after (typing.delete change is changes writes) acts lowered c alike types rest types_are calls fine =
      let d : HasType functions (tables_of p) names effects e t inside = typing.delete change is changes writes in
      let m = as_node f owner _ is refl lowered in
      let all = called_taken i.mains i.helpers (change_nodes changes) rest types before.calls (inside_change changes) (skipped i.mains i.helpers refl calls) in
      let flat = all_early p i closed (change_nodes changes) (fine.0.flat _ refl).parts in
      let first : types_in (change_nodes changes) ++ types ≡ drop 1 before.types = ap (λ ts. ts ++ types) (types_of_change changes) ∙ sym (ap (drop 1) types_are) in
      let takes_all = subst (λ ts. Takes i.helpers (change_nodes changes) (pending ts before.calls) (pending types all.left)) first all.takes in
      node_ok m (as_none f owner m.parts).0 (as_none f owner m.tails).0 (delete_node f owner n m.form.ty m.shell) (type_there f rise info tells i.mains i.helpers owner t inside types m.form.ty before m.typed types_are) c alike
      (λ x among. change_typed p i.helpers (length (functions_of p)) changes flat (drop 1 before.types) before.calls (pending types all.left) takes_all x among)
      (behind d _ (change_nodes changes) refl refl lowered types rest types_are all)
  blocks_ok {functions} names effects e t inside within n before after (typing.plain h ts is have by) acts lowered c alike types rest types_are calls fine = absurd (no_block (layer e) h is acts)
  blocks_ok {functions} names effects e t inside within n before after (typing.lambda l params own b is are moves body local) acts lowered c alike types rest types_are calls fine = let wrong : false ≡ true = sym (ap is_block is) ∙ acts in absurd cc
  blocks_ok {functions} names effects e t inside within n before after (typing.var x d rest_of a first last is one next) acts lowered c alike types rest types_are calls fine = let wrong : false ≡ true = sym (ap is_block is) ∙ acts in absurd cc
  blocks_ok {functions} names effects e t inside within n before after (typing.switch d cases row tags ts first bodies is one have same made local) acts lowered c alike types rest types_are calls fine = let wrong : false ≡ true = sym (ap is_block is) ∙ acts in absurd cc
  blocks_ok {functions} names effects e t inside within n before after (typing.switch_open d cases last other row tags ts first bodies inner is one have same next made local) acts lowered c alike types rest types_are calls fine = let wrong : false ≡ true = sym (ap is_block is) ∙ acts in absurd cc
  blocks_ok {functions} names effects e t inside within n before after (typing.for_list x d body a b first inner is one next) acts lowered c alike types rest types_are calls fine = let wrong : false ≡ true = sym (ap is_block is) ∙ acts in absurd cc
  blocks_ok {functions} names effects e t inside within n before after (typing.for_table x rows body a b first inner is one next) acts lowered c alike types rest types_are calls fine = let wrong : false ≡ true = sym (ap is_block is) ∙ acts in absurd cc
