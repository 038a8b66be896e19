-- Expressions that stand in an instance, with what is still to come there; and what has a label in them.
use Rattle.std.proofs.Common.{◌≡◌, ◌⊎◌, inl, inr, refl, sym, ap, subst, ◌∙◌, ℕ, suc, ◌+◌, true, List, [], ◌∷◌, ◌++◌, append_assoc, append-nil, flat_map, length, length-append, drop, map, Some, None, slice_get, arith}
use Rattle.std.proofs.lemmas.Grind.{flat_map-append}
use Rattle.std.proofs.lemmas.List.{length-map, map-append}
use Rattle.lk_ast.specs.Layers.{Layer, layer}
use Rattle.lk_ast.specs.declared.expression.Expr.{Expr}
use Rattle.lk_ast.specs.declared.expression.LambdaExpr.{LambdaExpr}
use Rattle.lk_ast.specs.declared.expression.Node.TheOpen.{Node-F}
use Rattle.lk_ast.specs.declared.place.Span.{Span}
use Rattle.lk_bag.specs.Blocks.{acts_on_tables, blocks_in}
use Rattle.lk_bag.proofs.Levels.{itself}
use Rattle.lk_evaluation.specs.Laws.{Both}
use Rattle.lk_evaluation.specs.Syntax.{parts_of}
use Rattle.lk_ground.proofs.Levels.{own_label}
use Rattle.lk_ground.specs.Language.{Labelled, Whole, Site, function_of, instance, labelled_from, labels}
use Rattle.lk_ground.specs.Sites.{PlacedUse, uses_in, labelled_in}
use Rattle.lk_ground.specs.declared.program.GroundFun.{GroundFun}
use Rattle.lk_ground.specs.declared.program.GroundProgram.{GroundProgram}
use Rattle.lk_index.specs.Free.{captured}
use Rattle.lk_index.specs.Places.{ArePlaced, lambda_at}
use Rattle.lk_sound.proofs.BlocksInside.{blocks_inside}
use Rattle.lk_sound.proofs.Found.{lambda_found}
use Rattle.lk_sound.proofs.Inside.{insides}
use Rattle.lk_sound.proofs.Within.{insides_within, lambda_inside}
use Rattle.lk_sound.specs.Within.{IsWithin}
use Rattle.lk_types.proofs.Members.{each_front, each_back, each_in_flat}
use Rattle.lk_types.specs.Each.{Each}
use Rattle.lk_ast.specs.declared.declaration.Program.{Program}
use Rattle.lk_ir.specs.Tables.{whole_at}
use Rattle.lk_ir.specs.declared.nodes.Body.{Body}
use Rattle.lk_ir.specs.declared.nodes.Forms.{Forms}
use Rattle.lk_ir.specs.declared.nodes.Kind.{Kind}
use Rattle.lk_lower.proofs.Counted.{Takes, Counts, takes, children_of, counted, all_counted, own_counts, uses_split, labels_split, lambda_counts, lambda_labels, lambda_uses, drop_sum, no_own_label}
use Rattle.lk_lower.specs.Lowering as low
use Rattle.lk_lower.specs.Lowering.{Pending, Shell, IsLowered, AreLowered, IsBlockLabel, IsBodyLabel, tails_of, behind_label}
use Rattle.lk_lowered.specs.Meeting.{IsBlockOf, IsInside, Ready, Stands}
use Rattle.lk_lowered.proofs.Labelling.{AllFrom, all_from_both}

-- ---- in the program

both_inside : (p : Program) (es : List Expr) → Each (IsWithin p) es → Each (λ e. Each (IsBlockOf p) (blocks_in e)) es → Each (IsInside p) es
both_inside p [] one two = tt
both_inside p (e ∷ es) one two = (record { lambdas = one.0; blocks = two.0 }, both_inside p es one.1 two.1)

pub insides_inside : (p : Program) (e : Expr) → IsInside p e → Each (IsInside p) (insides (layer e))
insides_inside p e is =
    both_inside p (insides (layer e)) (insides_within p e is.lambdas)
    (each_in_flat (IsBlockOf p) blocks_in (insides (layer e)) (each_back (IsBlockOf p) (itself (acts_on_tables (layer e)) e) (flat_map blocks_in (insides (layer e))) (subst (Each (IsBlockOf p)) (blocks_inside e) is.blocks)))

pub itself_inside : (p : Program) (e : Expr) → IsInside p e → acts_on_tables (layer e) ≡ true → IsBlockOf p e
itself_inside p e is acts =
    let own : Each (IsBlockOf p) (itself (acts_on_tables (layer e)) e) = each_front (IsBlockOf p) (itself (acts_on_tables (layer e)) e) (flat_map blocks_in (insides (layer e))) (subst (Each (IsBlockOf p)) (blocks_inside e) is.blocks) in
    (subst (λ b. Each (IsBlockOf p) (itself b e)) acts own).0

-- ---- in an instance

module _ (g : GroundProgram) (i : ℕ) where
  pub stands_front : (us vs : List PlacedUse) (ls ms : List ℕ) (p : Pending) → Stands g i (us ++ vs) (ls ++ ms) p → Stands g i us ls p
  stands_front us vs ls ms p s = record {
    fun = s.fun;
    there = s.there;
    uses_front = s.uses_front;
    uses_back = vs ++ s.uses_back;
    uses = s.uses ∙ ap (λ r. s.uses_front ++ r) (append_assoc us vs s.uses_back);
    calls = s.calls;
    labels_front = s.labels_front;
    labels_back = map (Site i) ms ++ s.labels_back;
    labelled = s.labelled ∙ ap (λ r. s.labels_front ++ r) (ap (λ r. r ++ s.labels_back) (map-append (Site i) ls ms) ∙ append_assoc (map (Site i) ls) (map (Site i) ms) s.labels_back);
    label = s.label;
  }

  pub stands_back : {k : ℕ} (us vs : List PlacedUse) (ls ms : List ℕ) (p q : Pending) → Counts p q k us ls → Stands g i (us ++ vs) (ls ++ ms) p → Stands g i vs ms q
  stands_back us vs ls ms p q counts s = record {
    fun = s.fun;
    there = s.there;
    uses_front = s.uses_front ++ us;
    uses_back = s.uses_back;
    uses = s.uses ∙ ap (λ r. s.uses_front ++ r) (append_assoc us vs s.uses_back) ∙ sym (append_assoc s.uses_front us (vs ++ s.uses_back));
    calls = counts.calls ∙ ap (drop (length us)) s.calls ∙ drop_sum (length us) (length s.uses_front) s.fun.calls ∙ sym (ap (λ k. drop k s.fun.calls) (length-append s.uses_front us));
    labels_front = s.labels_front ++ map (Site i) ls;
    labels_back = s.labels_back;
    labelled = s.labelled ∙ ap (λ r. s.labels_front ++ r) (ap (λ r. r ++ s.labels_back) (map-append (Site i) ls ms) ∙ append_assoc (map (Site i) ls) (map (Site i) ms) s.labels_back) ∙ sym (append_assoc s.labels_front (map (Site i) ls) (map (Site i) ms ++ s.labels_back));
    label =
        let a : q.label ≡ p.label + length ls = counts.label in
        let b : p.label ≡ 1 + length s.labels_front = s.label in
        let c : length (s.labels_front ++ map (Site i) ls) ≡ length s.labels_front + length (map (Site i) ls) = length-append s.labels_front (map (Site i) ls) in
        let d : length (map (Site i) ls) ≡ length ls = length-map ls (Site i) in
        omega arith;
  }

-- ---- instances one after another

module _ (g : GroundProgram) where
  -- instances from one on: what comes before them, and that they are the program's
  pub record IsRest (i : ℕ) (funs : List GroundFun) (label : ℕ) : Type 0 where
    pub there : (k : ℕ) (fun : GroundFun) → slice_get funs k ≡ Some fun → instance g (k + i) ≡ Some fun
    pub front : List Labelled
    pub are : labels g ≡ front ++ labelled_from i funs
    pub label_is : label ≡ 1 + length front

  pub all_rest : IsRest 0 g.funs 1
  all_rest = record { there = λ k fun is. subst (λ m. instance g m ≡ Some fun) (let e : k ≡ k + 0 = omega arith in e) is; front = []; are = refl; label_is = refl }

  module _ (i : ℕ) (fun : GroundFun) (funs : List GroundFun) (label : ℕ) (rest : IsRest i (fun ∷ funs) label) where
    abbrev own_places : List ℕ
    own_places = labelled_in (function_of fun).body

    abbrev with_first : List Labelled
    with_first = rest.front ++ Whole i ∷ []

    pub first_there : instance g i ≡ Some fun
    first_there = subst (λ k. instance g k ≡ Some fun) (let e : 0 + i ≡ i = omega arith in e) (rest.there 0 fun refl)

    first_split : labels g ≡ with_first ++ (map (Site i) own_places ++ labelled_from (1 + i) funs)
    first_split = rest.are ∙ sym (append_assoc rest.front (Whole i ∷ []) (map (Site i) own_places ++ labelled_from (1 + i) funs))

    first_long : length with_first ≡ length rest.front + 1
    first_long = length-append rest.front (Whole i ∷ [])

    -- the body of the first of them
    pub first_stands : (next : ℕ) → Stands g i (uses_in (function_of fun).body) own_places (record { types = fun.types; calls = fun.calls; label = label + 1; next = next })
    first_stands next = record {
      fun = fun;
      there = first_there;
      uses_front = [];
      uses_back = [];
      uses = sym (append-nil (uses_in (function_of fun).body));
      calls = refl;
      labels_front = with_first;
      labels_back = labelled_from (1 + i) funs;
      labelled = first_split;
      label = omega (arith, rest.label_is, first_long);
    }

    -- and those behind it
    pub others_rest : (after : ℕ) → after ≡ (label + 1) + length own_places → IsRest (1 + i) funs after
    others_rest after after_is = record {
      there = λ k other at. subst (λ m. instance g m ≡ Some other) (let e : suc k + i ≡ k + (1 + i) = omega arith in e) (rest.there (suc k) other at);
      front = with_first ++ map (Site i) own_places;
      are = first_split ∙ sym (append_assoc with_first (map (Site i) own_places) (labelled_from (1 + i) funs));
      label_is =
          let both : length (with_first ++ map (Site i) own_places) ≡ length with_first + length (map (Site i) own_places) = length-append with_first (map (Site i) own_places) in
          let long : length (map (Site i) own_places) ≡ length own_places = length-map own_places (Site i) in
          omega (arith, after_is, rest.label_is, first_long);
    }

-- ---- lowered there

module _ (g : GroundProgram) (f : Forms) where
  abbrev program : Program
  program = g.program.now

  pub ready_all : {i within : ℕ} {es : List Expr} {p q : Pending} {ns : List ℕ} → AreLowered f i within es p ns q → Stands g i (flat_map uses_in es) (flat_map labelled_in es) p → Each (IsInside program) es → Both (Ready g f i) es ns
  ready_all low.none stands inside = tt
  ready_all {i = i} (low.more {within = within} {e = e} {es = es} {before = before} {between = between} {after = after} one rest) stands inside = (
    record {
      within = within;
      before = before;
      after = between;
      lowered = one;
      stands = stands_front g i (uses_in e) (flat_map uses_in es) (labelled_in e) (flat_map labelled_in es) before stands;
      inside = inside.0;
    },
    ready_all rest (stands_back g i (uses_in e) (flat_map uses_in es) (labelled_in e) (flat_map labelled_in es) before between (counted f i one) stands) inside.1,
  )

  -- the children of a node stand behind what it takes itself
  pub children_stand : {i : ℕ} (e : Expr) (before inside : Pending) (t : Takes (layer e) e.span.start before inside) → Stands g i (uses_in e) (labelled_in e) before → Stands g i (flat_map uses_in (children_of (layer e))) (flat_map labelled_in (children_of (layer e))) inside
  children_stand {i = i} e before inside t s =
      stands_back g i t.uses (flat_map uses_in (children_of (layer e))) (own_label (layer e) e.span.start) (flat_map labelled_in (children_of (layer e))) before inside (own_counts f i e before inside t)
      (subst (λ us. Stands g i us (own_label (layer e) e.span.start ++ flat_map labelled_in (children_of (layer e))) before) (uses_split f i e before inside t)
      (subst (λ ls. Stands g i (uses_in e) ls before) (labels_split f i e before inside t) s))

  pub two_stand : {i : ℕ} (e : Expr) (before inside : Pending) (t : Takes (layer e) e.span.start before inside) → Stands g i (uses_in e) (labelled_in e) before
      → Stands g i (flat_map uses_in (parts_of (layer e)) ++ flat_map uses_in (tails_of (layer e))) (flat_map labelled_in (parts_of (layer e)) ++ flat_map labelled_in (tails_of (layer e))) inside
  two_stand {i = i} e before inside t s =
      subst (λ us. Stands g i us (flat_map labelled_in (parts_of (layer e)) ++ flat_map labelled_in (tails_of (layer e))) inside) (flat_map-append uses_in (parts_of (layer e)) (tails_of (layer e)))
      (subst (λ ls. Stands g i (flat_map uses_in (children_of (layer e))) ls inside) (flat_map-append labelled_in (parts_of (layer e)) (tails_of (layer e))) (children_stand e before inside t s))

  pub children_inside : (e : Expr) (before inside : Pending) (t : Takes (layer e) e.span.start before inside) → IsInside program e → Each (IsInside program) (children_of (layer e))
  children_inside e before inside t is = by_side t.inner
    where
      by_side : (insides (layer e) ≡ children_of (layer e)) ⊎ (children_of (layer e) ≡ []) → Each (IsInside program) (children_of (layer e))
      by_side (inl all) = subst (Each (IsInside program)) all (insides_inside program e is)
      by_side (inr none) = subst (Each (IsInside program)) (sym none) tt

  -- the body of a lambda
  pub body_stands : {i : ℕ} (e : Expr) (l : LambdaExpr) (before : Pending) → layer e ≡ Node-F.Lambda l → Stands g i (uses_in e) (labelled_in e) before → Stands g i (uses_in l.body) (labelled_in l.body) (behind_label before)
  body_stands {i = i} e l before is s =
      stands_back g i [] (uses_in l.body) (e.span.start ∷ []) (labelled_in l.body) before (behind_label before) (lambda_counts f i e before)
      (subst (λ us. Stands g i us (e.span.start ∷ labelled_in l.body) before) (lambda_uses f i e l is) (subst (λ ls. Stands g i (uses_in e) ls before) (lambda_labels f i e l is) s))

  pub body_inside : (e : Expr) (l : LambdaExpr) → layer e ≡ Node-F.Lambda l → IsInside program e → IsInside program l.body
  body_inside e l is inside = (subst (λ m. Each (IsInside program) (insides m)) is (insides_inside program e inside)).0

  -- ---- what has a label

  -- what a place has in the table that is labelled in an instance: a lambda its body, all else none
  pub data IsSite (i label site : ℕ) : Type 0 where
    of_lambda : (n ty : ℕ) (l : LambdaExpr) (body : Body) → lambda_at program site ≡ Some l → IsBodyLabel f i (Some n) ty label l.place (captured l) l.params body → Ready g f i l.body body.root → IsSite i label site
    of_block : (n ty : ℕ) → lambda_at program site ≡ None → IsBlockLabel f i n ty label → IsSite i label site

  pub record IsWhole (i label : ℕ) : Type 0 where
    pub fun : GroundFun
    pub there : instance g i ≡ Some fun
    pub whole : whole_at f i ≡ Some label
    pub body : Body
    pub ty : ℕ
    pub has : IsBodyLabel f i None ty label (function_of fun).place [] (function_of fun).params body
    pub ready : Ready g f i (function_of fun).body body.root

  abbrev pub Described : ℕ → Labelled → Type 0
  Described label (Whole i) = IsWhole i label
  Described label (Site i site) = IsSite i label site

  module _ (placed : ArePlaced program) (no_lambda : (block : Expr) → IsBlockOf program block → lambda_at program block.span.start ≡ None) where
    own_sites : {i n ty : ℕ} {l : Layer} {at : Span} {before inside : Pending} {k : Kind} → Shell f i n ty l at before k inside → (acts_on_tables l ≡ true → lambda_at program at.start ≡ None) → AllFrom (IsSite i) before.label (own_label l at.start)
    own_sites {i = i} {l = l} {at = at} {before = before} (low.operation {o = o} is) none = subst (AllFrom (IsSite i) before.label) (sym (no_own_label l at.start o is)) tt
    own_sites {n = n} {ty = ty} (low.table of) none = (of_block n ty (none refl) of, tt)
    own_sites {n = n} {ty = ty} (low.insert of touched) none = (of_block n ty (none refl) of, tt)
    own_sites {n = n} {ty = ty} (low.query of kept) none = (of_block n ty (none refl) of, tt)
    own_sites {n = n} {ty = ty} (low.update of kept touched) none = (of_block n ty (none refl) of, tt)
    own_sites {n = n} {ty = ty} (low.delete of kept touched) none = (of_block n ty (none refl) of, tt)
    own_sites (low.name is) none = tt
    own_sites (low.function is) none = tt
    own_sites (low.call is) none = tt
    own_sites low.apply none = tt
    own_sites (low.bind is) none = tt
    own_sites low.then_next none = tt
    own_sites low.choose_if none = tt
    own_sites low.choose_and none = tt
    own_sites low.choose_or none = tt
    own_sites low.choose_where none = tt
    own_sites low.print none = tt
    own_sites (low.switch cases last) none = tt
    own_sites (low.for_list is) none = tt
    own_sites (low.for_table is) none = tt

    mutual
      pub sites_of : {i within n : ℕ} {e : Expr} {before after : Pending} → IsLowered f i within e before n after → Stands g i (uses_in e) (labelled_in e) before → IsInside program e → AllFrom (IsSite i) before.label (labelled_in e)
      sites_of {i = i} {e = e} {before = before} (low.node form inside between number is at in_it has shell parts tails) stands within =
          let t = takes f i _ _ shell in
          let l = layer e in
          let own = own_label l e.span.start in
          subst (AllFrom (IsSite i) before.label) (sym (labels_split f i e before inside t))
          (all_from_both (IsSite i) before.label own (flat_map labelled_in (children_of l)) (own_sites shell (λ acts. no_lambda e (itself_inside program e within acts)))
          (subst (λ k. AllFrom (IsSite i) k (flat_map labelled_in (children_of l))) t.label
          (subst (AllFrom (IsSite i) inside.label) (sym (flat_map-append labelled_in (parts_of l) (tails_of l)))
          (all_from_both (IsSite i) inside.label (flat_map labelled_in (parts_of l)) (flat_map labelled_in (tails_of l))
          (each_sites parts (stands_front g i _ _ _ _ inside (two_stand e before inside t stands)) (each_front (IsInside program) (parts_of l) (tails_of l) (children_inside e before inside t within)))
          (subst (λ k. AllFrom (IsSite i) k (flat_map labelled_in (tails_of l))) (all_counted f i parts).label
          (each_sites tails (stands_back g i _ _ _ _ inside between (all_counted f i parts) (two_stand e before inside t stands)) (each_back (IsInside program) (parts_of l) (tails_of l) (children_inside e before inside t within))))))))
      sites_of {i = i} {e = e} {before = before} {after = after} (low.lambda {n = n} form l xs body is number there at in_it has kind locals no_part no_tail of inner) stands within =
          let body_ready : Ready g f i l.body body.root = record { within = before.label; before = behind_label before; after = after; lowered = inner; stands = body_stands e l before is stands; inside = body_inside e l is within } in
          subst (AllFrom (IsSite i) before.label) (sym (lambda_labels f i e l is)) (
            of_lambda n form.ty l body (lambda_found program _ placed (lambda_inside program e is within.lambdas).0).1 of body_ready,
            sites_of inner (body_stands e l before is stands) (body_inside e l is within),
          )

      each_sites : {i within : ℕ} {es : List Expr} {p q : Pending} {ns : List ℕ} → AreLowered f i within es p ns q → Stands g i (flat_map uses_in es) (flat_map labelled_in es) p → Each (IsInside program) es → AllFrom (IsSite i) p.label (flat_map labelled_in es)
      each_sites low.none stands inside = tt
      each_sites {i = i} (low.more {e = e} {es = es} {before = p} {between = q} one rest) stands inside =
          let us = flat_map uses_in es in
          let ls = flat_map labelled_in es in
          all_from_both (IsSite i) p.label (labelled_in e) ls (sites_of one (stands_front g i (uses_in e) us (labelled_in e) ls p stands) inside.0)
          (subst (λ k. AllFrom (IsSite i) k ls) (counted f i one).label (each_sites rest (stands_back g i (uses_in e) us (labelled_in e) ls p q (counted f i one) stands) inside.1))
