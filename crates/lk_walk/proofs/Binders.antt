-- What a walker notes of the forms that bind names.
use Rattle.std.proofs.Common.{◌≡◌, ℕ, ◌+◌, List, [], ◌∷◌, ◌++◌, Option, Some, None, length, map, refl, ap, sym, ◌∙◌, append_assoc, append-nil}
use Rattle.lk_ast.specs.declared.declaration.TableDecl.{TableDecl}
use Rattle.lk_ast.specs.declared.expression.ChangeExpr.{ChangeExpr, out-ChangeExpr}
use Rattle.lk_ast.specs.declared.expression.PartExpr.{PartExpr}
use Rattle.lk_ast.specs.declared.expression.SortKey.{SortKey}
use Rattle.lk_ast.specs.declared.place.Loc.{Loc}
use Rattle.lk_ast.specs.declared.place.Span.{Span}
use Rattle.lk_ast.specs.declared.place.Word.{Word}
use Rattle.lk_types.specs.Rows.{Label}
use Rattle.lk_types.specs.declared.equation.Equation.{Equation}
use Rattle.lk_types.specs.declared.ty.Effect.TheVariants as effect
use Rattle.lk_types.specs.declared.ty.Effects.{Effects}
use Rattle.lk_types.specs.declared.ty.RowTail.{RowTail}
use Rattle.lk_types.specs.declared.ty.RowTail.TheVariants.{Closed, Var}
use Rattle.lk_types.specs.declared.ty.Ty.{Ty}
use Rattle.lk_types.specs.declared.ty.Ty.TheVariants as ty
use Rattle.lk_types.specs.declared.ty.TyField.{TyField}
use Rattle.lk_types.specs.declared.ty.TyRow.{roll-TyRow}
use Rattle.lk_typing.specs.Equations.{Own, own}
use Rattle.lk_typing.specs.Names.{Named, table_named, types_of}
use Rattle.lk_typing.specs.Steps.{same_at}
use Rattle.lk_typing.specs.Types.{labelled}
use Rattle.lk_typing.specs.Typing.{is_marked, label_of, expr_of, labels_of}
use Rattle.lk_typing.specs.Unknowns.{effects_of, field, row_of, same, variant_of}
use Rattle.lk_typing.specs.Walk.{Walking, Walked, WalkedAll, WalkedCases, CaseWalk, PartWalk, Told, all_types, change_ended, change_in, ended, for_list_walked, for_table_walked, has_if, lambda_walked, last_walked, one_type, params_from, query_walked, set_own, switch_walked, var_walked, walk_all, walk_cases, held_by}
use Rattle.lk_typing.specs.declared.step.Step.{Step}
use Rattle.lk_walk.proofs.Goes.{all_is, grew_none, grew_twice, types_are}
use Rattle.lk_typing.proofs.Levels.{map_same}
use Rattle.lk_walk.proofs.Params.{params_gone}
use Rattle.lk_equations.specs.Forms.{for_own, lambda_own, query_own, switch_own}
use Rattle.lk_walk.specs.Went.{bound_all, case_field, case_type, case_went, cases_fields, cases_types, cases_went, change_walk, change_walked, grew, last_tail, last_types, last_went, named_by, numbered, said, told_by, type_at, types_all, unbound, under_names, walk_in, went, went_all, Inner}
use Rattle.lk_equations.specs.declared.own.Globals.{Globals}
use Rattle.lk_walk.specs.declared.walker.Walker.{Walker}

-- a node, by what it is made of
pub inner_from : (at : Span) (w : Walked) (old new : Walker) (o made : Own) (inside : List Ty) (steps : List Step) (n : ℕ)
    → new ≡ grew inside steps n old → o ≡ made → w ≡ ended at inside steps made → Inner at w old new o
inner_from at w old new o made inside steps n grown is whole = record {
  inside = inside;
  steps = steps;
  is = whole ∙ ap (ended at inside steps) (sym is);
  grown = grown ∙ ap (λ (u : Walker). grew inside steps u.next old) (sym grown);
}

pub var_inner : (at : Span) (x : Label) (first rest : Walking) (effects : Effects) (old mid new : Walker) (a : ℕ) (t : Ty) (o : Own)
    → mid ≡ went first effects old → ty.Var a ≡ type_at first effects old
    → new ≡ went (under_names ((x, ty.Var a) ∷ []) rest) effects mid → t ≡ type_at (under_names ((x, ty.Var a) ∷ []) rest) effects mid
    → o ≡ own t [] new.next
    → Inner at (var_walked at x first rest old.names effects old.next) old new o
var_inner at x first rest effects old mid new a t o m ta n tb made =
    let w : Walked = first old.names effects old.next in
    let v : Walked = rest ((x, w.ty) ∷ old.names) effects w.next in
    let grown : new ≡ grew (all_types w ++ all_types v) (w.steps ++ v.steps) v.next old =
    n ∙ (λ i. went (under_names ((x, ta i) ∷ []) rest) effects (m i)) ∙ grew_twice old (all_types w) (all_types v) w.steps v.steps w.next v.next in
    let typed : t ≡ v.ty = tb ∙ (λ i. type_at (under_names ((x, ta i) ∷ []) rest) effects (m i)) in
    inner_from at _ old new o (own v.ty [] v.next) (all_types w ++ all_types v) (w.steps ++ v.steps) v.next grown (made ∙ (λ i. own (typed i) [] (grown i).next)) refl

pub for_list_inner : (at : Span) (x : Label) (list body : Walking) (effects : Effects) (old s1 s2 new : Walker) (k a b : ℕ) (elements : List Equation) (o : Own)
    → s1 ≡ numbered old → k ≡ old.next → s2 ≡ went list effects s1 → ty.Var a ≡ type_at list effects s1
    → new ≡ went (under_names ((x, ty.Var k) ∷ []) body) effects s2 → ty.Var b ≡ type_at (under_names ((x, ty.Var k) ∷ []) body) effects s2
    → elements ≡ same (ty.Var a) (ty.List (ty.Var k)) ∷ [] → o ≡ for_own elements (ty.Var b) new.next
    → Inner at (for_list_walked at x list body old.names effects old.next) old new o
for_list_inner at x list body effects old s1 s2 new k a b elements o e1 ek e2 ta e3 tb told made =
    let n : ℕ = old.next in
    let w : Walked = list old.names effects (1 + n) in
    let v : Walked = body ((x, ty.Var n) ∷ old.names) effects w.next in
    let at2 : s2 ≡ grew (all_types w) w.steps w.next old = e2 ∙ ap (went list effects) e1 in
    let grown : new ≡ grew (all_types w ++ all_types v) (w.steps ++ v.steps) v.next old =
    e3 ∙ (λ i. went (under_names ((x, ty.Var (ek i)) ∷ []) body) effects (at2 i)) ∙ grew_twice old (all_types w) (all_types v) w.steps v.steps w.next v.next in
    let first : ty.Var a ≡ w.ty = ta ∙ ap (type_at list effects) e1 in
    let typed : ty.Var b ≡ v.ty = tb ∙ (λ i. type_at (under_names ((x, ty.Var (ek i)) ∷ []) body) effects (at2 i)) in
    let are : elements ≡ same w.ty (ty.List (ty.Var n)) ∷ [] = told ∙ (λ i. same (first i) (ty.List (ty.Var (ek i))) ∷ []) in
    inner_from at _ old new o (for_own (same w.ty (ty.List (ty.Var n)) ∷ []) v.ty v.next) (all_types w ++ all_types v) (w.steps ++ v.steps) v.next grown
    (made ∙ (λ i. for_own (are i) (typed i) (grown i).next)) refl

pub for_table_inner : (at : Span) (x : Label) (table body : Walking) (effects : Effects) (old s1 s2 s3 new : Walker) (k a b : ℕ) (elements none : List Equation) (o : Own)
    → s1 ≡ numbered old → k ≡ old.next → s2 ≡ went table effects s1 → ty.Var a ≡ type_at table effects s1
    → elements ≡ same (ty.Var a) (ty.List (ty.Var k)) ∷ [] → s3 ≡ said at elements s2
    → new ≡ went (under_names ((x, ty.Var k) ∷ []) body) effects s3 → ty.Var b ≡ type_at (under_names ((x, ty.Var k) ∷ []) body) effects s3
    → none ≡ [] → o ≡ for_own none (ty.Var b) new.next
    → Inner at (for_table_walked at x table body old.names effects old.next) old new o
for_table_inner at x table body effects old s1 s2 s3 new k a b elements none o e1 ek e2 ta told e3 e4 tb empty made =
    let n : ℕ = old.next in
    let w : Walked = table old.names effects (1 + n) in
    let v : Walked = body ((x, ty.Var n) ∷ old.names) effects w.next in
    let are : elements ≡ same w.ty (ty.List (ty.Var n)) ∷ [] = told ∙ (λ i. same ((ta ∙ ap (type_at table effects) e1) i) (ty.List (ty.Var (ek i))) ∷ []) in
    let more : List Step = same_at at (same w.ty (ty.List (ty.Var n)) ∷ []) in
    let at2 : s2 ≡ grew (all_types w) w.steps w.next old = e2 ∙ ap (went table effects) e1 in
    let at3 : s3 ≡ grew (all_types w) (w.steps ++ more) w.next old =
    e3 ∙ (λ i. said at (are i) (at2 i)) ∙ (λ i. record { names = old.names; types = old.types ++ all_types w; steps = append_assoc old.steps w.steps more i; next = w.next }) in
    let grown : new ≡ grew (all_types w ++ all_types v) (w.steps ++ (more ++ v.steps)) v.next old =
    e4 ∙ (λ i. went (under_names ((x, ty.Var (ek i)) ∷ []) body) effects (at3 i)) ∙ grew_twice old (all_types w) (all_types v) (w.steps ++ more) v.steps w.next v.next
    ∙ ap (λ steps. grew (all_types w ++ all_types v) steps v.next old) (append_assoc w.steps more v.steps) in
    let typed : ty.Var b ≡ v.ty = tb ∙ (λ i. type_at (under_names ((x, ty.Var (ek i)) ∷ []) body) effects (at3 i)) in
    inner_from at _ old new o (for_own [] v.ty v.next) (all_types w ++ all_types v) (w.steps ++ (more ++ v.steps)) v.next grown
    (made ∙ (λ i. for_own (empty i) (typed i) (grown i).next)) refl

pub query_inner : (at : Span) (keys : List SortKey) (body : Walking) (effects scan : Effects) (old new : Walker) (b : ℕ) (o : Own)
    → scan ≡ effects_of (effect.Scan ∷ []) Closed → new ≡ went body scan old → ty.Var b ≡ type_at body scan old → o ≡ query_own keys effects (ty.Var b) new.next
    → Inner at (query_walked at keys body old.names effects old.next) old new o
query_inner at keys body effects scan old new b o is e tb made =
    let w : Walked = body old.names (effects_of (effect.Scan ∷ []) Closed) old.next in
    let grown : new ≡ grew (all_types w) w.steps w.next old = e ∙ ap (λ s. went body s old) is in
    let typed : ty.Var b ≡ w.ty = tb ∙ ap (λ s. type_at body s old) is in
    inner_from at _ old new o (query_own keys effects w.ty w.next) (all_types w) w.steps w.next grown (made ∙ (λ i. query_own keys effects (typed i) (grown i).next)) refl

-- ---- lambdas

pub lambda_inner : (at : Span) (ps : List Word) (place : Loc) (body : Walking) (effects own_effects : Effects) (old s1 s2 s3 s4 new : Walker) (k b : ℕ) (params : List Ty) (marked : Told) (o : Own)
    → s1 ≡ numbered old → k ≡ old.next → own_effects ≡ effects_of [] (Var k) → s2 ≡ bound_all ps s1 → params ≡ types_of (params_from s1.next ps)
    → marked ≡ has_if (is_marked place) own_effects effect.Move s2.next → s3 ≡ told_by at marked s2
    → s4 ≡ went body own_effects s3 → ty.Var b ≡ type_at body own_effects s3 → new ≡ unbound (length ps) s4
    → o ≡ lambda_own effects params own_effects (ty.Var b) new.next
    → Inner at (lambda_walked at ps place body old.names effects old.next) old new o
lambda_inner at ps place body effects own_effects old s1 s2 s3 s4 new k b params marked o e1 ek eo e2 ep em e3 e4 tb e5 made =
    let n : ℕ = old.next in
    let mine : Effects = effects_of [] (Var n) in
    let named : Named Ty = params_from (1 + n) ps in
    let told : Told = has_if (is_marked place) mine effect.Move (length ps + (1 + n)) in
    let w : Walked = body (named ++ old.names) mine told.next in
    let effects_are : own_effects ≡ mine = eo ∙ ap (λ m. effects_of [] (Var m)) ek in
    let at2 : s2 ≡ bound_all ps (numbered old) = e2 ∙ ap (bound_all ps) e1 in
    let told_is : marked ≡ told = em ∙ (λ i. has_if (is_marked place) (effects_are i) effect.Move (at2 i).next) in
    let at3 : s3 ≡ told_by at told (bound_all ps (numbered old)) = e3 ∙ (λ i. told_by at (told_is i) (at2 i)) in
    let at4 : s4 ≡ went body mine (told_by at told (bound_all ps (numbered old))) = e4 ∙ (λ i. went body (effects_are i) (at3 i)) in
    let typed : ty.Var b ≡ w.ty = tb ∙ (λ i. type_at body (effects_are i) (at3 i)) in
    let grown : new ≡ grew (all_types w) (same_at at told.equations ++ w.steps) w.next old =
    e5 ∙ ap (unbound (length ps)) at4
    ∙ (λ i. record { names = params_gone (1 + n) ps old.names i; types = old.types ++ all_types w; steps = append_assoc old.steps (same_at at told.equations) w.steps i; next = w.next }) in
    let params_are : params ≡ types_of named = ep ∙ ap (λ (s : Walker). types_of (params_from s.next ps)) e1 in
    inner_from at _ old new o (lambda_own effects (types_of named) mine w.ty w.next) (all_types w) (same_at at told.equations ++ w.steps) w.next grown
    (made ∙ (λ i. lambda_own effects (params_are i) (effects_are i) (typed i) (grown i).next)) refl

-- ---- updates and deletions

set_labels : (seen : Globals) (sets : List PartExpr) → map (λ (set : PartWalk). set.0) (map (λ part. (label_of part, walk_in seen (expr_of part))) sets) ≡ labels_of sets
set_labels seen sets = map_same (λ (set : PartWalk). set.0) (λ part. (label_of part, walk_in seen (expr_of part))) label_of (λ part. refl) sets

set_walks : (seen : Globals) (sets : List PartExpr) → map (λ (set : PartWalk). set.1) (map (λ part. (label_of part, walk_in seen (expr_of part))) sets) ≡ map (walk_in seen) (map expr_of sets)
set_walks seen sets = map_same (λ (set : PartWalk). set.1) (λ part. (label_of part, walk_in seen (expr_of part))) (λ part. walk_in seen (expr_of part)) (λ part. refl) sets ∙ sym (map_same (walk_in seen) expr_of (λ part. walk_in seen (expr_of part)) (λ part. refl) sets)

pub change_inner : (at : Span) (seen : Globals) (c : ChangeExpr) (effects none : Effects) (old s1 s2 s3 new : Walker) (table : TableDecl) (row : Ty) (b : ℕ) (types : List Ty) (o : Own)
    → table_named seen.tables.now (out-ChangeExpr c).table.text ≡ Some table → row ≡ row_of table → none ≡ effects_of [] Closed
    → s1 ≡ named_by (out-ChangeExpr c).name.text row old → s2 ≡ went (walk_in seen (out-ChangeExpr c).cond) none s1 → ty.Var b ≡ type_at (walk_in seen (out-ChangeExpr c).cond) none s1
    → s3 ≡ went_all (map (walk_in seen) (map expr_of (out-ChangeExpr c).sets)) none s2 → types ≡ types_all (map (walk_in seen) (map expr_of (out-ChangeExpr c).sets)) none s2 []
    → new ≡ unbound 1 s3 → o ≡ set_own effects (row_of table) (ty.Var b) (labelled (labels_of (out-ChangeExpr c).sets) types) new.next
    → Inner at (change_walked at seen c old.names effects old.next) old new o
change_inner at seen c effects none old s1 s2 s3 new table row b types o found er en e1 e2 tb e3 et e4 made =
    let x : Label = (out-ChangeExpr c).name.text in
    let t : Ty = row_of table in
    let no : Effects = effects_of [] Closed in
    let cond : Walking = walk_in seen (out-ChangeExpr c).cond in
    let walks : List Walking = map (walk_in seen) (map expr_of (out-ChangeExpr c).sets) in
    let under : Walker = named_by x t old in
    let w : Walked = cond ((x, t) ∷ old.names) no old.next in
    let all : WalkedAll = walk_all walks ((x, t) ∷ old.names) no w.next in
    let at1 : s1 ≡ under = e1 ∙ ap (λ r. named_by x r old) er in
    let at2 : s2 ≡ went cond no under = e2 ∙ (λ i. went cond (en i) (at1 i)) in
    let typed : ty.Var b ≡ w.ty = tb ∙ (λ i. type_at cond (en i) (at1 i)) in
    let at3 : s3 ≡ grew (all_types w ++ all.inside) (w.steps ++ all.steps) all.next under =
    e3 ∙ (λ i. went_all walks (en i) (at2 i)) ∙ all_is walks no (went cond no under) ∙ grew_twice under (all_types w) all.inside w.steps all.steps w.next all.next in
    let types_is : types ≡ all.types = et ∙ (λ i. types_all walks (en i) (at2 i) []) ∙ types_are walks no (went cond no under) [] in
    let grown : new ≡ grew (all_types w ++ all.inside) (w.steps ++ all.steps) all.next old = e4 ∙ ap (unbound 1) at3 in
    inner_from at _ old new o (set_own effects t w.ty (labelled (labels_of (out-ChangeExpr c).sets) all.types) all.next) (all_types w ++ all.inside) (w.steps ++ all.steps) all.next grown
    (made ∙ (λ i. set_own effects t (typed i) (labelled (labels_of (out-ChangeExpr c).sets) (types_is i)) (grown i).next))
    (ap (λ f. change_in at (change_walk seen c) f old.names effects old.next) found
    ∙ (λ i. change_ended at effects t (set_labels seen (out-ChangeExpr c).sets i) w (walk_all (set_walks seen (out-ChangeExpr c).sets i) ((x, t) ∷ old.names) no w.next)))

-- ---- switches

cases_are : (cs : List CaseWalk) (effects : Effects) (s : Walker)
    → cases_went cs effects s ≡ grew (walk_cases cs s.names effects s.next).bodies.inside (walk_cases cs s.names effects s.next).bodies.steps (walk_cases cs s.names effects s.next).bodies.next s
cases_are [] effects s = grew_none s
cases_are (c ∷ cs) effects s =
    let w : Walked = c.body ((held_by c.name s.next).bound ++ s.names) effects (held_by c.name s.next).next in
    let rest : WalkedCases = walk_cases cs s.names effects w.next in
    cases_are cs effects (case_went c effects s) ∙ grew_twice s (all_types w) rest.bodies.inside w.steps rest.bodies.steps w.next rest.bodies.next

fields_are : (cs : List CaseWalk) (effects : Effects) (s : Walker) (fields : List TyField) → cases_fields cs effects s fields ≡ fields ++ map field (walk_cases cs s.names effects s.next).tags
fields_are [] effects s fields = sym (append-nil fields)
fields_are (c ∷ cs) effects s fields = fields_are cs effects (case_went c effects s) (fields ++ case_field c s ∷ []) ∙ append_assoc fields (case_field c s ∷ []) _

bodies_are : (cs : List CaseWalk) (effects : Effects) (s : Walker) (types : List Ty) → cases_types cs effects s types ≡ types ++ (walk_cases cs s.names effects s.next).bodies.types
bodies_are [] effects s types = sym (append-nil types)
bodies_are (c ∷ cs) effects s types = bodies_are cs effects (case_went c effects s) (types ++ case_type c effects s ∷ []) ∙ append_assoc types (case_type c effects s ∷ []) _

pub switch_inner : (at : Span) (value : Walking) (cs : List CaseWalk) (last : Option PartWalk) (effects : Effects) (old s1 s2 new : Walker) (a : ℕ) (tags no_tags : List TyField) (types more no_types : List Ty) (tail : RowTail) (bodies : Own) (variant : Ty) (o : Own)
    → s1 ≡ went value effects old → ty.Var a ≡ type_at value effects old
    → no_tags ≡ [] → no_types ≡ []
    → s2 ≡ cases_went cs effects s1 → tags ≡ cases_fields cs effects s1 no_tags → types ≡ cases_types cs effects s1 no_types
    → new ≡ last_went last effects s2 → tail ≡ last_tail last s2 → more ≡ last_types last effects s2 types
    → bodies ≡ one_type more new.next → variant ≡ ty.Tags (roll-TyRow (record { fields = tags; tail = tail })) → o ≡ switch_own effects (ty.Var a) variant bodies
    → Inner at (switch_walked at value cs last old.names effects old.next) old new o
switch_inner at value cs last effects old s1 s2 new a tags no_tags types more no_types tail bodies variant o e1 ta nt ny e2 et ey e3 el em eb ev made =
    let w : Walked = value old.names effects old.next in
    let found : WalkedCases = walk_cases cs old.names effects w.next in
    let at2 : s2 ≡ grew (all_types w ++ found.bodies.inside) (w.steps ++ found.bodies.steps) found.bodies.next old =
    e2 ∙ ap (cases_went cs effects) e1 ∙ cases_are cs effects (went value effects old) ∙ grew_twice old (all_types w) found.bodies.inside w.steps found.bodies.steps w.next found.bodies.next in
    let tags_are : tags ≡ map field found.tags = et ∙ (λ i. cases_fields cs effects (e1 i) (nt i)) ∙ fields_are cs effects (went value effects old) [] in
    let types_is : types ≡ found.bodies.types = ey ∙ (λ i. cases_types cs effects (e1 i) (ny i)) ∙ bodies_are cs effects (went value effects old) [] in
    by_last last w found at2 tags_are types_is ta e3 el em
  where
    by_last : (last : Option PartWalk) (w : Walked) (found : WalkedCases)
        → s2 ≡ grew (all_types w ++ found.bodies.inside) (w.steps ++ found.bodies.steps) found.bodies.next old → tags ≡ map field found.tags → types ≡ found.bodies.types → ty.Var a ≡ w.ty
        → new ≡ last_went last effects s2 → tail ≡ last_tail last s2 → more ≡ last_types last effects s2 types
        → Inner at (last_walked at effects w found last old.names) old new o
    by_last None w found at2 tg yt t3 e3 el em =
        let grown : new ≡ grew (all_types w ++ found.bodies.inside) (w.steps ++ found.bodies.steps) found.bodies.next old = e3 ∙ at2 in
        let more_is : more ≡ found.bodies.types = em ∙ yt in
        let bodies_is : bodies ≡ one_type found.bodies.types found.bodies.next = eb ∙ (λ i. one_type (more_is i) (grown i).next) in
        let variant_is : variant ≡ variant_of found.tags Closed = ev ∙ (λ i. ty.Tags (roll-TyRow (record { fields = tg i; tail = el i }))) in
        inner_from at _ old new o (switch_own effects w.ty (variant_of found.tags Closed) (one_type found.bodies.types found.bodies.next))
        (all_types w ++ found.bodies.inside) (w.steps ++ found.bodies.steps) found.bodies.next grown (made ∙ (λ i. switch_own effects (t3 i) (variant_is i) (bodies_is i))) refl
    by_last (Some last) w found at2 tg yt t3 e3 el em =
        let n : ℕ = found.bodies.next in
        let v : Walked = last.1 ((last.0, variant_of [] (Var n)) ∷ old.names) effects (1 + n) in
        let inside : List Ty = all_types w ++ found.bodies.inside in
        let steps : List Step = w.steps ++ found.bodies.steps in
        let grown : new ≡ grew (all_types w ++ (found.bodies.inside ++ all_types v)) (w.steps ++ (found.bodies.steps ++ v.steps)) v.next old =
        e3 ∙ (λ i. last_went (Some last) effects (at2 i)) ∙ grew_twice old inside (all_types v) steps v.steps n v.next
        ∙ (λ i. grew (append_assoc (all_types w) found.bodies.inside (all_types v) i) (append_assoc w.steps found.bodies.steps v.steps i) v.next old) in
        let more_is : more ≡ found.bodies.types ++ v.ty ∷ [] = em ∙ (λ i. last_types (Some last) effects (at2 i) (yt i)) in
        let bodies_is : bodies ≡ one_type (found.bodies.types ++ v.ty ∷ []) v.next = eb ∙ (λ i. one_type (more_is i) (grown i).next) in
        let tail_is : tail ≡ Var n = el ∙ (λ i. Var (at2 i).next) in
        let variant_is : variant ≡ variant_of found.tags (Var n) = ev ∙ (λ i. ty.Tags (roll-TyRow (record { fields = tg i; tail = tail_is i }))) in
        inner_from at _ old new o (switch_own effects w.ty (variant_of found.tags (Var n)) (one_type (found.bodies.types ++ v.ty ∷ []) v.next))
        (all_types w ++ (found.bodies.inside ++ all_types v)) (w.steps ++ (found.bodies.steps ++ v.steps)) v.next grown (made ∙ (λ i. switch_own effects (t3 i) (variant_is i) (bodies_is i))) refl
