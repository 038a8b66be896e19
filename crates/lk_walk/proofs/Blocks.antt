-- Blocks, statement by statement: what is entered on the way down is left on the way up.
use Rattle.std.proofs.Common.{◌≡◌, ℕ, List, [], ◌∷◌, ◌++◌, Option, Some, None, length, refl, ap, sym, ◌∙◌, subst, append-nil}
use Rattle.lk_ast.specs.Layers.{before, layer}
use Rattle.lk_ast.specs.declared.expression.Expr.{Expr}
use Rattle.lk_ast.specs.declared.expression.Node.TheOpen.{Node-F}
use Rattle.lk_ast.specs.declared.expression.Node.TheVariants as node
use Rattle.lk_ast.specs.declared.place.Span.{Span}
use Rattle.lk_ast.specs.declared.place.Word.{Word}
use Rattle.lk_types.specs.declared.ty.Effects.{Effects}
use Rattle.lk_types.specs.declared.ty.Ty.{Ty}
use Rattle.lk_types.specs.declared.ty.Ty.TheVariants as ty
use Rattle.lk_typing.specs.Equations.{Own, own}
use Rattle.lk_typing.specs.Heads as head
use Rattle.lk_typing.specs.Heads.{head as head_at}
use Rattle.lk_typing.specs.Typing.{label_of, expr_of}
use Rattle.lk_typing.specs.Unknowns.{same, unit}
use Rattle.lk_typing.specs.Walk.{Walking, Walked, all_types, plain_walked}
use Rattle.lk_walk.proofs.Binders.{inner_from, var_inner}
use Rattle.lk_walk.proofs.Goes.{grew_twice, node_whole}
use Rattle.lk_typing.proofs.Levels.{walk_plain, walk_var}
use Rattle.lk_walk.specs.Blocks.{begun, block_left, block_of, block_own, blocks_left, unnamed}
use Rattle.lk_equations.specs.Seen.{functions_seen}
use Rattle.lk_walk.specs.Went.{entered, grew, left_by, part_walks, type_at, under_names, walk_in, went, Inner}
use Rattle.lk_walk.specs.declared.block.Block.{Block}
use Rattle.lk_equations.specs.declared.own.Globals.{Globals}
use Rattle.lk_walk.specs.declared.walker.Walker.{Walker}

-- ---- one block

seq_inner : (at : Span) (seen : Globals) (first last : Walking) (effects : Effects) (old mid new : Walker) (a : ℕ) (t : Ty)
    → mid ≡ went first effects old → ty.Var a ≡ type_at first effects old → new ≡ went last effects mid → t ≡ type_at last effects mid
    → Inner at (plain_walked (functions_seen seen.own seen.earlier.now) seen.tables.now at head.Seq (first ∷ last ∷ []) old.names effects old.next) old new (own t (same (ty.Var a) unit ∷ []) new.next)
seq_inner at seen first last effects old mid new a t m ta n tb =
    let w : Walked = first old.names effects old.next in
    let v : Walked = last old.names effects w.next in
    let grown : new ≡ grew (all_types w ++ (all_types v ++ [])) (w.steps ++ (v.steps ++ [])) v.next old =
    n ∙ ap (went last effects) m ∙ grew_twice old (all_types w) (all_types v) w.steps v.steps w.next v.next
    ∙ (λ i. grew (all_types w ++ sym (append-nil (all_types v)) i) (w.steps ++ sym (append-nil v.steps) i) v.next old) in
    let typed : t ≡ v.ty = tb ∙ ap (type_at last effects) m in
    inner_from at _ old new _ (own v.ty (same w.ty unit ∷ []) v.next) (all_types w ++ (all_types v ++ [])) (w.steps ++ (v.steps ++ [])) v.next grown (λ i. own (typed i) (same (ta i) unit ∷ []) (grown i).next) refl

-- a block, by its first statement and the rest
block_inner : (seen : Globals) (e d next : Expr) (name : Option Word) (effects : Effects) (old mid : Walker) (a : ℕ)
    → e ≡ before (record { span = e.span; name = name; expr = d }) next
    → mid ≡ went (walk_in seen d) effects old → ty.Var a ≡ type_at (walk_in seen d) effects old
    → (let inner : Walker = went (walk_in seen next) effects (begun name a mid) in
    let new : Walker = unnamed (block_of e.span 0 name a).first inner in
    Inner e.span (walk_in seen e old.names effects old.next) old new (block_own (block_of e.span 0 name a).first (type_at (walk_in seen next) effects (begun name a mid)) inner.next))
block_inner seen e d next None effects old mid a is walked typed =
    let l : layer e ≡ Node-F.Seq d next = ap layer is ∙ node.outs-Seq d next in
    let form : walk_in seen e ≡ plain_walked (functions_seen seen.own seen.earlier.now) seen.tables.now e.span head.Seq (walk_in seen d ∷ walk_in seen next ∷ []) =
    walk_plain (functions_seen seen.own seen.earlier.now) seen.tables.now e head.Seq (ap (head_at label_of expr_of) l)
    ∙ ap (λ l. plain_walked (functions_seen seen.own seen.earlier.now) seen.tables.now e.span head.Seq (part_walks seen l)) l in
    let new : Walker = went (walk_in seen next) effects mid in
    subst (λ w. Inner e.span (w old.names effects old.next) old new (own (type_at (walk_in seen next) effects mid) (same (ty.Var a) unit ∷ []) new.next)) (sym form)
    (seq_inner e.span seen (walk_in seen d) (walk_in seen next) effects old mid new a _ walked typed refl refl)
block_inner seen e d next (Some x) effects old mid a is walked typed =
    let l : layer e ≡ Node-F.Var x d next = ap layer is ∙ node.outs-Var x d next in
    let rest : Walking = under_names ((x.text, ty.Var a) ∷ []) (walk_in seen next) in
    let new : Walker = went rest effects mid in
    subst (λ w. Inner e.span (w old.names effects old.next) old new (own (type_at rest effects mid) [] new.next)) (sym (walk_var (functions_seen seen.own seen.earlier.now) seen.tables.now e x d next l))
    (var_inner e.span x.text (walk_in seen d) (walk_in seen next) effects old mid new a _ _ walked typed refl refl refl)

-- the type of a node that was entered
entered_type : (at : Span) (f : Walking) (effects : Effects) (s old new : Walker) (o : Own) → old ≡ entered s → Inner at (f old.names effects old.next) old new o → type_at f effects s ≡ ty.Var o.next
entered_type at f effects s old new o enter inner = sym (ap (λ (u : Walker). (f u.names effects u.next).ty) enter) ∙ ap (λ (w : Walked). w.ty) inner.is

-- a block is left
pub block_whole : (seen : Globals) (e d next : Expr) (name : Option Word) (effects : Effects) (s old mid : Walker) (slot a : ℕ)
    → e ≡ before (record { span = e.span; name = name; expr = d }) next
    → old ≡ entered s → slot ≡ length s.types → mid ≡ went (walk_in seen d) effects old → ty.Var a ≡ type_at (walk_in seen d) effects old
    → blocks_left (block_of e.span slot name a ∷ []) (type_at (walk_in seen next) effects (begun name a mid)) (went (walk_in seen next) effects (begun name a mid))
    ≡ (went (walk_in seen e) effects s, type_at (walk_in seen e) effects s)
block_whole seen e d next None effects s old mid slot a is enter place walked typed =
    let inner : Walker = went (walk_in seen next) effects (begun None a mid) in
    let b : Block = block_of e.span slot None a in
    let new : Walker = unnamed b.first inner in
    let o : Own = block_own b.first (type_at (walk_in seen next) effects (begun None a mid)) inner.next in
    let noted : Inner e.span (walk_in seen e old.names effects old.next) old new o = block_inner seen e d next None effects old mid a is walked typed in
    (λ i. (node_whole e.span (walk_in seen e) effects s old new (left_by e.span slot o new) slot o enter place noted refl i, sym (entered_type e.span (walk_in seen e) effects s old new o enter noted) i))
block_whole seen e d next (Some x) effects s old mid slot a is enter place walked typed =
    let inner : Walker = went (walk_in seen next) effects (begun (Some x) a mid) in
    let b : Block = block_of e.span slot (Some x) a in
    let new : Walker = unnamed b.first inner in
    let o : Own = block_own b.first (type_at (walk_in seen next) effects (begun (Some x) a mid)) inner.next in
    let noted : Inner e.span (walk_in seen e old.names effects old.next) old new o = block_inner seen e d next (Some x) effects old mid a is walked typed in
    (λ i. (node_whole e.span (walk_in seen e) effects s old new (left_by e.span slot o new) slot o enter place noted refl i, sym (entered_type e.span (walk_in seen e) effects s old new o enter noted) i))

-- ---- many blocks

-- the innermost block comes last, and is left first
pub blocks_last : (bs : List Block) (b : Block) (t : Ty) (s : Walker) → blocks_left (bs ++ b ∷ []) t s ≡ blocks_left bs (ty.Var s.next) (block_left b t s)
blocks_last [] b t s = refl
blocks_last (c ∷ cs) b t s = ap (λ (inner : Walker × Ty). (block_left c inner.1 inner.0, ty.Var inner.0.next)) (blocks_last cs b t s)

-- one more block is entered
pub block_step : (seen : Globals) (e d next : Expr) (name : Option Word) (effects : Effects) (s old mid new : Walker) (slot a : ℕ) (b : Block) (bs all : List Block) (whole : Walker × Ty)
    → e ≡ before (record { span = e.span; name = name; expr = d }) next
    → old ≡ entered s → slot ≡ length s.types → mid ≡ went (walk_in seen d) effects old → ty.Var a ≡ type_at (walk_in seen d) effects old
    → new ≡ begun name a mid → b ≡ block_of e.span slot name a → all ≡ bs ++ b ∷ []
    → blocks_left bs (type_at (walk_in seen e) effects s) (went (walk_in seen e) effects s) ≡ whole
    → blocks_left all (type_at (walk_in seen next) effects new) (went (walk_in seen next) effects new) ≡ whole
block_step seen e d next name effects s old mid new slot a b bs all whole is enter place walked typed begin made pushed was =
    (λ i. blocks_left (pushed i) (type_at (walk_in seen next) effects (begin i)) (went (walk_in seen next) effects (begin i)))
    ∙ ap (λ b. blocks_left (bs ++ b ∷ []) (type_at (walk_in seen next) effects (begun name a mid)) (went (walk_in seen next) effects (begun name a mid))) made
    ∙ blocks_last bs (block_of e.span slot name a) _ _
    ∙ ap (λ (p : Walker × Ty). blocks_left bs p.1 p.0) (block_whole seen e d next name effects s old mid slot a is enter place walked typed)
    ∙ was

-- what stands behind the blocks is walked through, and they are left
pub blocks_end : (at : Span) (f : Walking) (effects : Effects) (s old new last end : Walker) (slot a k : ℕ) (o : Own) (bs : List Block) (whole : Walker × Ty)
    → old ≡ entered s → slot ≡ length s.types → Inner at (f old.names effects old.next) old new o → last ≡ left_by at slot o new → a ≡ o.next
    → (end, ty.Var k) ≡ blocks_left bs (ty.Var a) last → blocks_left bs (type_at f effects s) (went f effects s) ≡ whole → (end, ty.Var k) ≡ whole
blocks_end at f effects s old new last end slot a k o bs whole enter place noted leave number left was =
    left
    ∙ (λ i. blocks_left bs ((ap (λ n. ty.Var n) number ∙ sym (entered_type at f effects s old new o enter noted)) i) (node_whole at f effects s old new last slot o enter place noted leave i))
    ∙ was
