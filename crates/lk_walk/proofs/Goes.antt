-- What a walker notes of several expressions, and of a whole node.
use Rattle.std.proofs.Common.{◌≡◌, ℕ, ◌+◌, List, [], ◌∷◌, ◌++◌, length, refl, ap, ap₂, sym, ◌∙◌, subst, map, true, Option, Some, None, is_some, append_assoc, append-nil}
use Rattle.std.specs.Prelude.{set, IfOk, Result}
use Rattle.std.proofs.Math.Seq.{set-append_seam}
use Rattle.std.proofs.lemmas.List.{map-append}
use Rattle.lk_ast.specs.Layers.{Layer, layer}
use Rattle.lk_ast.specs.declared.expression.Case.{Case}
use Rattle.lk_ast.specs.declared.expression.ChangeExpr.{ChangeExpr}
use Rattle.lk_ast.specs.declared.expression.Expr.{Expr}
use Rattle.lk_ast.specs.declared.expression.LambdaExpr.{LambdaExpr}
use Rattle.lk_ast.specs.declared.expression.LastCase.{LastCase}
use Rattle.lk_ast.specs.declared.expression.Node.{Node, out-Node, roll-Node, roll-out-Node}
use Rattle.lk_ast.specs.declared.expression.Node.TheOpen.{Node-F}
use Rattle.lk_ast.specs.declared.expression.Node.TheVariants as node
use Rattle.lk_ast.specs.declared.expression.PartExpr.{PartExpr}
use Rattle.lk_ast.specs.declared.expression.SortKey.{SortKey}
use Rattle.lk_ast.specs.declared.place.Word.{Word}
use Rattle.lk_ast.specs.declared.place.Span.{Span}
use Rattle.lk_types.specs.declared.ty.Effects.{Effects}
use Rattle.lk_types.specs.declared.ty.Ty.{Ty}
use Rattle.lk_types.specs.declared.ty.Ty.TheVariants as ty
use Rattle.lk_typing.specs.Equations.{Own}
use Rattle.lk_typing.specs.Heads.{Head, head}
use Rattle.lk_typing.specs.Names.{Named}
use Rattle.lk_typing.specs.Steps.{same_at, typed_at}
use Rattle.lk_typing.specs.Typing.{label_of, expr_of, head_of}
use Rattle.lk_typing.specs.Walk.{Walking, Walked, WalkedAll, all_types, ended, walk_all, walked_by}
use Rattle.lk_typing.specs.declared.step.Step.{Step}
use Rattle.lk_typing.proofs.Levels.{mapped, walk_level}
use Rattle.lk_equations.specs.Seen.{functions_seen, own_at}
use Rattle.lk_walk.specs.Went.{entered, left_by, grew, went, type_at, went_all, types_all, walk_in, part_walks, plain_in, Inner}
use Rattle.lk_equations.specs.declared.own.Globals.{Globals}
use Rattle.lk_walk.specs.declared.walker.Walker.{Walker}

-- nothing more
pub grew_none : (s : Walker) → s ≡ grew [] [] s.next s
grew_none s = sym (λ i. record { names = s.names; types = append-nil s.types i; steps = append-nil s.steps i; next = s.next })

-- first these and then those
pub grew_twice : (s : Walker) (as' bs : List Ty) (xs ys : List Step) (n m : ℕ) → grew bs ys m (grew as' xs n s) ≡ grew (as' ++ bs) (xs ++ ys) m s
grew_twice s as' bs xs ys n m = λ i. record { names = s.names; types = append_assoc s.types as' bs i; steps = append_assoc s.steps xs ys i; next = m }

-- expressions one after another
pub all_is : (ws : List Walking) (effects : Effects) (s : Walker)
    → went_all ws effects s ≡ grew (walk_all ws s.names effects s.next).inside (walk_all ws s.names effects s.next).steps (walk_all ws s.names effects s.next).next s
all_is [] effects s = grew_none s
all_is (w ∷ ws) effects s =
    let first : Walked = w s.names effects s.next in
    let rest : WalkedAll = walk_all ws s.names effects first.next in
    all_is ws effects (went w effects s) ∙ grew_twice s (all_types first) rest.inside first.steps rest.steps first.next rest.next

pub types_are : (ws : List Walking) (effects : Effects) (s : Walker) (types : List Ty) → types_all ws effects s types ≡ types ++ (walk_all ws s.names effects s.next).types
types_are [] effects s types = sym (append-nil types)
types_are (w ∷ ws) effects s types = types_are ws effects (went w effects s) (types ++ type_at w effects s ∷ []) ∙ append_assoc types (type_at w effects s ∷ []) _

-- expressions before others
pub all_joined : (ws vs : List Walking) (effects : Effects) (s : Walker) → went_all (ws ++ vs) effects s ≡ went_all vs effects (went_all ws effects s)
all_joined [] vs effects s = refl
all_joined (w ∷ ws) vs effects s = all_joined ws vs effects (went w effects s)

pub types_joined : (ws vs : List Walking) (effects : Effects) (s : Walker) (types : List Ty) → types_all (ws ++ vs) effects s types ≡ types_all vs effects (went_all ws effects s) (types_all ws effects s types)
types_joined [] vs effects s types = refl
types_joined (w ∷ ws) vs effects s types = types_joined ws vs effects (went w effects s) (types ++ type_at w effects s ∷ [])

-- fields, and an expression behind them
extended_is : (seen : Globals) (fields : List PartExpr) (e : Expr) → part_walks seen (Node-F.Extend fields e) ≡ map (walk_in seen) (map expr_of fields) ++ walk_in seen e ∷ []
extended_is seen fields e = map-append (walk_in seen) (map expr_of fields) (e ∷ [])

pub extended_all : (seen : Globals) (fields : List PartExpr) (e : Expr) (l : Layer) (effects : Effects) (s inner : Walker) → l ≡ Node-F.Extend fields e
    → inner ≡ went_all (map (walk_in seen) (map expr_of fields)) effects s → went (walk_in seen e) effects inner ≡ went_all (part_walks seen l) effects s
extended_all seen fields e l effects s inner is walked =
    ap (went (walk_in seen e) effects) walked
    ∙ sym (all_joined (map (walk_in seen) (map expr_of fields)) (walk_in seen e ∷ []) effects s)
    ∙ ap (λ ws. went_all ws effects s) (sym (extended_is seen fields e))
    ∙ ap (λ l. went_all (part_walks seen l) effects s) (sym is)

pub extended_types : (seen : Globals) (fields : List PartExpr) (e : Expr) (l : Layer) (effects : Effects) (s inner : Walker) (types found : List Ty) → l ≡ Node-F.Extend fields e
    → inner ≡ went_all (map (walk_in seen) (map expr_of fields)) effects s → found ≡ types_all (map (walk_in seen) (map expr_of fields)) effects s types
    → found ++ type_at (walk_in seen e) effects inner ∷ [] ≡ types_all (part_walks seen l) effects s types
extended_types seen fields e l effects s inner types found is walked typed =
    ap₂ (λ ts w. ts ++ type_at (walk_in seen e) effects w ∷ []) typed walked
    ∙ sym (types_joined (map (walk_in seen) (map expr_of fields)) (walk_in seen e ∷ []) effects s types)
    ∙ ap (λ ws. types_all ws effects s types) (sym (extended_is seen fields e))
    ∙ ap (λ l. types_all (part_walks seen l) effects s types) (sym is)

-- a node that was entered and left
pub node_whole : (at : Span) (f : Walking) (effects : Effects) (s old new last : Walker) (slot : ℕ) (o : Own)
    → old ≡ entered s → slot ≡ length s.types → Inner at (f old.names effects old.next) old new o → last ≡ left_by at slot o new
    → last ≡ went f effects s
node_whole at f effects s old new last slot o enter is inner leave =
    leave
    ∙ ap₂ (λ k u. left_by at k o u) is (inner.grown ∙ ap (grew inner.inside inner.steps new.next) enter)
    ∙ whole
    ∙ ap (λ v. grew (all_types v) v.steps v.next s) (sym inner.is ∙ ap (λ (u : Walker). f u.names effects u.next) enter)
  where
    whole : left_by at (length s.types) o (grew inner.inside inner.steps new.next (entered s)) ≡ grew (all_types (ended at inner.inside inner.steps o)) (ended at inner.inside inner.steps o).steps (1 + o.next) s
    whole = λ i. record {
      names = s.names;
      types = (ap (λ ts. set ts (length s.types) (ty.Var o.next)) (append_assoc s.types (ty.Int ∷ []) inner.inside) ∙ set-append_seam s.types ty.Int inner.inside (ty.Var o.next)) i;
      steps = append_assoc s.steps inner.steps (same_at at o.equations ++ typed_at at o.next o.ty ∷ []) i;
      next = 1 + o.next;
    }

-- an expression that binds no name
pub plain_inner : (seen : Globals) (e : Expr) (l : Layer) (effects : Effects) (old new : Walker) (types none : List Ty) (o : Own) → l ≡ layer e → none ≡ []
    → new ≡ went_all (part_walks seen l) effects old → types ≡ types_all (part_walks seen l) effects old none
    → o ≡ own_at (functions_seen seen.own seen.earlier.now) seen.tables.now new.names effects (head label_of expr_of l) types new.next
    → Inner e.span (plain_in seen e old.names effects old.next) old new o
plain_inner seen e l effects old new types none o is empty walked typed made =
    let found : WalkedAll = walk_all (part_walks seen (layer e)) old.names effects old.next in
    let new_is : new ≡ grew found.inside found.steps found.next old = walked ∙ ap (λ l. went_all (part_walks seen l) effects old) is ∙ all_is (part_walks seen (layer e)) effects old in
    let types_is : types ≡ found.types = typed ∙ ap₂ (λ l none. types_all (part_walks seen l) effects old none) is empty ∙ types_are (part_walks seen (layer e)) effects old [] in
    record {
      inside = found.inside;
      steps = found.steps;
      is = ap (λ o. ended e.span found.inside found.steps o) (sym (made
          ∙ (λ i. own_at (functions_seen seen.own seen.earlier.now) seen.tables.now (new_is i).names effects (head label_of expr_of (is i)) (types_is i) (new_is i).next)));
      grown = new_is ∙ ap (λ (w : Walker). grew found.inside found.steps w.next old) (sym new_is);
    }

-- where no form binds a name
pub plain_is : (seen : Globals) (e : Expr) → is_some (head_of e) ≡ true → (names : Named Ty) (effects : Effects) (n : ℕ) → walk_in seen e names effects n ≡ plain_in seen e names effects n
plain_is seen e some names effects n = ap (λ w. w names effects n) (walk_level (functions_seen seen.own seen.earlier.now) seen.tables.now e) ∙ by_head (head_of e) some
  where
    by_head : (h : Option Head) → is_some h ≡ true → walked_by (functions_seen seen.own seen.earlier.now) seen.tables.now h (part_walks seen (layer e)) (mapped (functions_seen seen.own seen.earlier.now) seen.tables.now (layer e)) e.span names effects n
        ≡ (let found : WalkedAll = walk_all (part_walks seen (layer e)) names effects n in
        ended e.span found.inside found.steps (own_at (functions_seen seen.own seen.earlier.now) seen.tables.now names effects h found.types found.next))
    by_head None is = cc
    by_head (Some h) is = refl

pub plain_node : {X E : Type 0} (seen : Globals) (e : Expr) (effects : Effects) (old new : Walker) (r : Result X E) (o : X → Own) → is_some (head_of e) ≡ true
    → IfOk r (λ x. Inner e.span (plain_in seen e old.names effects old.next) old new (o x)) → IfOk r (λ x. Inner e.span (walk_in seen e old.names effects old.next) old new (o x))
plain_node seen e effects old new r o some inner = subst (λ w. IfOk r (λ x. Inner e.span w old new (o x))) (sym (plain_is seen e some old.names effects old.next)) inner

-- what is left behind the forms that bind names
plain_layer : (l : Layer)
    → ((f : LambdaExpr) → l ≡ Node-F.Lambda f → ⊥) → ((x : Word) (d e : Expr) → l ≡ Node-F.Var x d e → ⊥) → ((d : Expr) (cases : List Case) (last : Option LastCase) → l ≡ Node-F.Switch d cases last → ⊥)
    → ((x : Word) (d e : Expr) → l ≡ Node-F.ForList x d e → ⊥) → ((x : Word) (d e : Expr) → l ≡ Node-F.ForTable x d e → ⊥) → ((keys : List SortKey) (e : Expr) → l ≡ Node-F.Query keys e → ⊥)
    → ((c : ChangeExpr) → l ≡ Node-F.Update c → ⊥) → ((c : ChangeExpr) → l ≡ Node-F.Delete c → ⊥) → is_some (head label_of expr_of l) ≡ true
plain_layer (Node-F.Lambda f) a b c d e g h k = absurd (a f refl)
plain_layer (Node-F.Var x y z) a b c d e g h k = absurd (b x y z refl)
plain_layer (Node-F.Switch x y z) a b c d e g h k = absurd (c x y z refl)
plain_layer (Node-F.ForList x y z) a b c d e g h k = absurd (d x y z refl)
plain_layer (Node-F.ForTable x y z) a b c d e g h k = absurd (e x y z refl)
plain_layer (Node-F.Query x y) a b c d e g h k = absurd (g x y refl)
plain_layer (Node-F.Update x) a b c d e g h k = absurd (h x refl)
plain_layer (Node-F.Delete x) a b c d e g h k = absurd (k x refl)
plain_layer other a b c d e g h k = refl

rolled : (n : Node) (l : Layer) → out-Node n ≡ l → n ≡ roll-Node l
rolled n l is = sym (roll-out-Node n) ∙ ap roll-Node is

pub is_plain : (n m : Node) → n ≡ m
    → ((f : LambdaExpr) → n ≡ node.Lambda f → ⊥) → ((x : Word) (d e : Expr) → n ≡ node.Var x d e → ⊥) → ((d : Expr) (cases : List Case) (last : Option LastCase) → n ≡ node.Switch d cases last → ⊥)
    → ((x : Word) (d e : Expr) → n ≡ node.ForList x d e → ⊥) → ((x : Word) (d e : Expr) → n ≡ node.ForTable x d e → ⊥) → ((keys : List SortKey) (e : Expr) → n ≡ node.Query keys e → ⊥)
    → ((c : ChangeExpr) → n ≡ node.Update c → ⊥) → ((c : ChangeExpr) → n ≡ node.Delete c → ⊥) → is_some (head label_of expr_of (out-Node m)) ≡ true
is_plain n m same a b c d e g h k = plain_layer (out-Node m)
    (λ f is. a f (same ∙ rolled m _ is ∙ node.rolls-Lambda f)) (λ x y z is. b x y z (same ∙ rolled m _ is ∙ node.rolls-Var x y z)) (λ x y z is. c x y z (same ∙ rolled m _ is ∙ node.rolls-Switch x y z))
    (λ x y z is. d x y z (same ∙ rolled m _ is ∙ node.rolls-ForList x y z)) (λ x y z is. e x y z (same ∙ rolled m _ is ∙ node.rolls-ForTable x y z)) (λ x y is. g x y (same ∙ rolled m _ is ∙ node.rolls-Query x y))
    (λ x is. h x (same ∙ rolled m _ is ∙ node.rolls-Update x)) (λ x is. k x (same ∙ rolled m _ is ∙ node.rolls-Delete x))
