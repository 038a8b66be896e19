-- Instances one after another: a table that goes on with the others is that of all.
use Rattle.std.proofs.Common.{◌≡◌, refl, sym, ap, subst, ◌∙◌, ℕ, ◌+◌, ◌<◌, List, [], ◌∷◌, ◌++◌, append_assoc, append-nil, drop, get_or, length, length-append, slice_get, Some, None, arith}
use Rattle.std.proofs.lemmas.List.{drop_more}
use Rattle.std.specs.Cmp.Lexicographic.{slice_cmp}
use Rattle.std.specs.List.Sorted.{IsStrictlySortedBy}
use Rattle.std.specs.Ordering.{nat_cmp}
use Rattle.lk_ground.specs.Language.{function_of}
use Rattle.lk_ground.specs.declared.program.GroundFun.{GroundFun}
use Rattle.lk_ground.specs.declared.program.GroundProgram.{GroundProgram}
use Rattle.lk_ir.specs.declared.nodes.Body.{Body}
use Rattle.lk_ir.specs.declared.nodes.Forms.{Forms}
use Rattle.lk_ir.specs.declared.nodes.LabelForm.{LabelForm}
use Rattle.lk_ir.specs.Tables.{most_instances}
use Rattle.lk_lower.proofs.Growing.{begins_itself, begins_then, had, still_there, there}
use Rattle.lk_lower.specs.Growing.{Has, Lowers, State}
use Rattle.lk_lower.specs.Instances.{FollowFuns, IsMade, LowersFun, OpensFun, as_forms, beginning, first_pending, made_of, printer}
use Rattle.lk_lower.specs.Lowering as low
use Rattle.lk_lower.specs.Lowering.{AreForms, AreFuns, IsLowered}
use Rattle.lk_lower.proofs.Walking.{body_labelled}
use Rattle.lk_lower.specs.Once.{StandOnce}
use Rattle.lk_lower.specs.Steps.{IsBody, IsType, Learns, with_label, with_types}
use Rattle.lk_types.specs.declared.ground.Ground.{Ground}
use Rattle.lk_lower.specs.declared.lowering.Made.{Made}

-- an instance whose body is lowered
pub fun_lowered : (i label k : ℕ) (fun : GroundFun) (old first new : State) → old.pending.next ≡ length old.nodes → OpensFun i fun old first label → Lowers i label first new (function_of fun).body k → LowersFun i fun old new
fun_lowered i label k fun old first new here opens lowers = record {
  grows = record {
    locals = lowers.grows.locals ∙ opens.grows.locals;
    own = lowers.grows.own;
    is = lowers.grows.is ∙ ap (λ nodes. nodes ++ lowers.grows.own) opens.nodes;
    labels = begins_then old.labels first.labels new.labels opens.grows.labels lowers.grows.labels;
    types = begins_then old.types first.types new.types opens.grows.types lowers.grows.types;
    tables = begins_then old.tables first.tables new.tables opens.grows.tables lowers.grows.tables;
  };
  follows = λ f front back rest is same has whole title others.
      let before : Has first f = had first new f lowers.grows has in
      let stands : IsLowered f i label (function_of fun).body first.pending k new.pending = lowers.stands f front back is (same ∙ sym (ap length opens.nodes)) has in
      let root : k ≡ opens.body.root = lowers.number ∙ ap length opens.nodes ∙ sym here ∙ sym opens.root in
      low.one_fun opens.body new.pending opens.ty whole title (opens.type f before) (opens.labelled f before)
      (subst (λ label. IsLowered f i label (function_of fun).body (first_pending fun old.pending.label old.pending.next) opens.body.root new.pending) opens.label_is
      (subst (λ p. IsLowered f i label (function_of fun).body p opens.body.root new.pending) opens.pending
      (subst (λ k. IsLowered f i label (function_of fun).body first.pending k new.pending) root stands)))
      others;
}

-- before the first one
pub none_followed : (funs : List GroundFun) (locals : List (List ℕ)) → FollowFuns funs 0 (beginning locals) [] []
none_followed funs locals = record {
  wholes_long = refl;
  titles_long = refl;
  first_label = begins_itself (printer ∷ []);
  follow = λ f back is has wholes titles others. others;
}

-- one more instance
pub one_followed : (funs : List GroundFun) (i : ℕ) (s t : State) (wholes more_wholes : List ℕ) (titles more_titles : List (List ℕ)) (fun : GroundFun) (label : ℕ) → FollowFuns funs i s wholes titles → drop i funs ≡ fun ∷ drop (i + 1) funs
    → LowersFun i fun s t → label ≡ s.pending.label → more_wholes ≡ wholes ++ label ∷ [] → more_titles ≡ titles ++ (function_of fun).name.text ∷ [] → FollowFuns funs (i + 1) t more_wholes more_titles
one_followed funs i s t wholes more_wholes titles more_titles fun label were at one label_is wholes_are titles_are =
    let next : i + 1 ≡ 1 + i = omega arith in
    let whole : slice_get more_wholes i ≡ Some s.pending.label =
    ap (λ ws. slice_get ws i) wholes_are ∙ ap (slice_get (wholes ++ label ∷ [])) (sym were.wholes_long) ∙ there wholes [] label ∙ ap Some label_is in
    let title : slice_get more_titles i ≡ Some (function_of fun).name.text =
    ap (λ ts. slice_get ts i) titles_are ∙ ap (slice_get (titles ++ (function_of fun).name.text ∷ [])) (sym were.titles_long) ∙ there titles [] (function_of fun).name.text in
    record {
      wholes_long = ap length wholes_are ∙ length-append wholes (label ∷ []) ∙ ap (λ k. k + 1) were.wholes_long;
      titles_long = ap length titles_are ∙ length-append titles ((function_of fun).name.text ∷ []) ∙ ap (λ k. k + 1) were.titles_long;
      first_label = begins_then (printer ∷ []) s.labels t.labels were.first_label one.grows.labels;
      follow = λ f back is has whole_more title_more others.
          let nodes : f.nodes ≡ s.nodes ++ (one.grows.own ++ back) = is ∙ ap (λ nodes. nodes ++ back) one.grows.is ∙ append_assoc s.nodes one.grows.own back in
          were.follow f (one.grows.own ++ back) nodes (had s t f one.grows has)
          (begins_then wholes more_wholes f.wholes (label ∷ [], wholes_are) whole_more)
          (begins_then titles more_titles f.titles ((function_of fun).name.text ∷ [], titles_are) title_more)
          (subst (λ rest. AreFuns f i rest s.pending.label s.pending.next) (sym at)
          (one.follows f s.nodes back (drop (i + 1) funs) nodes refl has
          (still_there more_wholes f.wholes i s.pending.label whole_more whole)
          (still_there more_titles f.titles i (function_of fun).name.text title_more title)
          (subst (λ k. AreFuns f k (drop (i + 1) funs) t.pending.label t.pending.next) next others)));
    }

-- behind the last one
pub all_made : (funs : List GroundFun) (i : ℕ) (s : State) (wholes : List ℕ) (titles : List (List ℕ)) → FollowFuns funs i s wholes titles → drop i funs ≡ [] → i < most_instances → s.pending.label ≡ length s.labels → s.pending.next ≡ length s.nodes
    → StandOnce s.types s.tables → IsMade funs s.locals (made_of s wholes titles)
all_made funs i s wholes titles were none small label next once =
    let f : Forms = as_forms s.locals (made_of s wholes titles) in
    record {
      few = subst (λ k. k < most_instances) (sym were.wholes_long) small;
      first_label = still_there (printer ∷ []) s.labels 0 printer were.first_label refl;
      funs_are = were.follow f [] (sym (append-nil s.nodes)) (record { locals = refl; labels = begins_itself s.labels; types = begins_itself s.types; tables = begins_itself s.tables }) (begins_itself wholes) (begins_itself titles)
          (subst (λ rest. AreFuns f i rest s.pending.label s.pending.next) (sym none) (low.no_fun were.wholes_long were.titles_long (sym label) (sym next)));
      distinct = once;
    }

-- names in byte order and the table of all instances
pub forms_are : (g : GroundProgram) (locals : List (List ℕ)) (made : Made) → IsStrictlySortedBy (slice_cmp nat_cmp) locals → IsMade g.funs locals made → AreForms g (as_forms locals made)
forms_are g locals made rise is = record { locals = rise; printer = printer; printer_is = is.first_label; printer_node = refl; printer_body = refl; funs = is.funs_are }

-- the same where the code has another word for the names or the instances
pub forms_made : (g : GroundProgram) (names : List (List ℕ)) (funs : List GroundFun) (locals : List (List ℕ)) (made : Made) → names ≡ locals → funs ≡ g.funs → IsStrictlySortedBy (slice_cmp nat_cmp) locals → IsMade funs names made → AreForms g (as_forms locals made)
forms_made g names funs locals made names_are funs_are rise is =
    forms_are g locals made rise (subst (λ locals. IsMade g.funs locals made) names_are (subst (λ funs. IsMade funs names made) funs_are is))

-- the label of an instance
abbrev pub fun_label : ℕ → ℕ → Body → LabelForm
fun_label i ty body = record { owner = i; ty = ty; node = None; body = Some body }

-- an instance's types and calls come next
abbrev pub started : GroundFun → State → State
started fun s = record s { pending = record s.pending { types = fun.types; calls = fun.calls } }

module _ (i : ℕ) (fun : GroundFun) (label ty : ℕ) (body : Body) where
  opened_with : (types : List Ground) (old : State) → old.pending.label ≡ length old.labels → label ≡ old.pending.label → IsType (with_types types old) ty fun.ty → IsBody old.locals (function_of fun).place [] (function_of fun).params old.pending.next body
      → OpensFun i fun old (started fun (with_label (fun_label i ty body) (with_types types old))) label
  opened_with types old long label_is there_is is = record {
    grows = record { locals = refl; own = []; is = sym (append-nil old.nodes); labels = (fun_label i ty body ∷ [], refl); types = (types, refl); tables = begins_itself old.tables };
    nodes = refl;
    label_is = label_is;
    pending = refl;
    ty = ty;
    body = body;
    root = is.root_is;
    type = λ f has. (fun.ty, still_there (old.types ++ types) f.types ty fun.ty has.types there_is, refl);
    labelled = λ f has. body_labelled f old (fun_label i ty body) (function_of fun).place [] (function_of fun).params old.pending.next body long has.labels has.locals refl is;
  }

  pub fun_opened : (old learnt new : State) → old.pending.label ≡ length old.labels → label ≡ old.pending.label → IsType learnt ty fun.ty → Learns old learnt → IsBody learnt.locals (function_of fun).place [] (function_of fun).params learnt.pending.next body
      → new ≡ started fun (with_label (fun_label i ty body) learnt) → OpensFun i fun old new label
  fun_opened old learnt new long label_is there_is learns is step =
      subst (λ (new : State). OpensFun i fun old new label) (sym (step ∙ ap (λ (s : State). started fun (with_label (fun_label i ty body) s)) learns.1))
      (opened_with learns.0 old long label_is (subst (λ (s : State). IsType s ty fun.ty) learns.1 there_is) (subst (λ (s : State). IsBody s.locals (function_of fun).place [] (function_of fun).params s.pending.next body) learns.1 is))

-- the next instance
pub next_fun : (funs : List GroundFun) (i : ℕ) (fun : GroundFun) → i < length funs → fun ≡ get_or funs i fun → drop i funs ≡ fun ∷ drop (i + 1) funs
next_fun funs i fun below is = drop_more funs i fun below ∙ ap (λ (x : GroundFun). x ∷ drop (i + 1) funs) (sym is)
