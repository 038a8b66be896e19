-- A typed node does what a node of its type does: a line for each kind.
use Rattle.std.proofs.Common.{◌≡◌, refl, sym, ap, subst, ◌∙◌, inl, inr, ◌⊎◌, ℕ, Bool, true, false, List, [], ◌∷◌, map, Option, Some, None}
use Rattle.std.specs.Option.{option_and_then, option_map, unwrap_or}
use Rattle.lk_ast.specs.declared.place.Span.{Span}
use Rattle.lk_ast.specs.declared.value.Value.{Value}
use Rattle.lk_ast.specs.declared.value.Value.TheVariants as value
use Rattle.lk_evaluation.specs.Evaluation.{Act, Tail, Give}
use Rattle.lk_fits.proofs.Shapes.{bool_of_fits, list_fits, list_of_fits, text_of_fits, truth_fits, unit_of_fits}
use Rattle.lk_fits.specs.Values.{Fits, AllFit, FitEach, none, more, none_left, one_more}
use Rattle.lk_ir.specs.Environments.{Env, bind}
use Rattle.lk_ir.specs.LetNormal.{Point, act, after_unit, choose, closure, given, made, over, print, reach, under}
use Rattle.lk_ir.specs.Operations.{applied}
use Rattle.lk_ir.specs.Tables.{form_at}
use Rattle.lk_ir.specs.Uses as used
use Rattle.lk_ir.specs.Uses.{Needs, UsedInTails, binds}
use Rattle.lk_ir.specs.declared.nodes.Block.{Block}
use Rattle.lk_ir.specs.declared.nodes.Block.TheVariants as block
use Rattle.lk_ir.specs.declared.nodes.Form.{Form}
use Rattle.lk_ir.specs.declared.nodes.Forms.{Forms}
use Rattle.lk_ir.specs.declared.nodes.Kept.{Kept}
use Rattle.lk_ir.specs.declared.nodes.Kind.{Kind}
use Rattle.lk_ir.specs.declared.nodes.Kind.TheVariants as kind
use Rattle.lk_operators.specs.Values.{bool_in, truth}
use Rattle.lk_types.specs.Each.{Each as EachOf}
use Rattle.lk_types.specs.declared.ground.Ground.{Ground}
use Rattle.lk_types.specs.declared.ground.Ground.TheVariants as known
use Rattle.lk_typing.specs.Types.{unit}
use Rattle.lk_code.proofs.Calling.{apply_well, call_well, function_fits}
use Rattle.lk_code.proofs.Casing.{TailsFit, bound_point, open_well, plain_point, switch_well}
use Rattle.lk_code.proofs.Naming.{all_found, kept_found}
use Rattle.lk_code.proofs.Operating.{done_well, operated_well}
use Rattle.lk_code.specs.Acting.{ActsWell, AreFunctions, FitNames, IsPointOf, IsReach, TypedActs}
use Rattle.lk_code.specs.Parts as typed
use Rattle.lk_code.specs.Parts.{AreTypedForms, Asked, Context, HaveTypes, Info, IsTyped, Rule, captures, function_type}
use Rattle.lk_code.specs.Tables.{site_of}

module _ (IsFun : ℕ → Ground → List Ground → Type 0) (f : Forms) (info : ℕ → Option Info) where
  abbrev Well : Ground → Act Point → Type 0
  Well t a = ActsWell IsFun f info t a

  choose_well : (at : Span) (b : Bool) (t : Ground) (d e : Act Point) → Well t d → Well t e → Well t (choose at (Some b) d e)
  choose_well at true t d e first second = first
  choose_well at false t d e first second = second

  -- one or the other by a value that fits
  chosen_well : (at : Span) (v : Value) (t : Ground) (d e : Act Point) → Fits IsFun v known.Bool → Well t d → Well t e → Well t (choose at (bool_in v) d e)
  chosen_well at v t d e fits first second = let b = bool_of_fits IsFun v fits in subst (λ o. Well t (choose at o d e)) (sym b.1) (choose_well at b.0 t d e first second)

  pub bodies_well : (c : Context) (names : Env) (x body : ℕ) (a b : Ground) → IsTyped f info ((x, a) ∷ c) body (known.List b) → TailsFit IsFun f info c names (Some x ∷ []) (body ∷ []) → (values : List Value) → AllFit IsFun values a
      → EachOf (IsPointOf IsFun f info (known.List b)) (map (λ v. under (bind x v names) body) values)
  bodies_well c names x body a b one fit [] none = tt
  bodies_well c names x body a b one fit (v ∷ values) (more fits all) = (bound_point IsFun f info c names x a v [] body [] (known.List b) one fits fit, bodies_well c names x body a b one fit values all)

  -- what reads or changes tables with what it captured
  reach_well : (b : Block) (t : Ground) (at : Span) (args values : List Value) → captures b ≡ true → IsReach IsFun f info t at.start args → Well t (reach at b (Some args) values)
  reach_well block.Query t at args values takes reached = reached
  reach_well block.TableRead t at args values takes reached = reached
  reach_well block.Insert t at args values takes reached = let wrong : false ≡ true = takes in cc
  reach_well block.Update t at args values takes reached = reached
  reach_well block.Delete t at args values takes reached = reached

  module _ (functions : AreFunctions IsFun f info) (sound : AreTypedForms f info) (at : Span) (c : Context) (names : Env) where
    abbrev NamesFit : Kind → List ℕ → Type 0
    NamesFit k tails = FitNames IsFun (λ x. Needs k x ⊎ UsedInTails f x (binds k) tails) c names

    tails_fit : (k : Kind) (tails : List ℕ) → NamesFit k tails → TailsFit IsFun f info c names (binds k) tails
    tails_fit k tails fit y uses = fit y (inr uses)

    -- the node begins where what it reaches does
    abbrev IsSite : Kind → Type 0
    IsSite k = (b : Block) (label : ℕ) (kept : List Kept) → k ≡ kind.Reach b label kept → site_of f label ≡ at.start

    pub acts : (k : Kind) (ts : List Ground) (asked : List Asked) (t : Ground) (tails : List ℕ) (values : List Value) → Rule f info c k ts asked t → HaveTypes f info tails asked → NamesFit k tails → IsSite k → FitEach IsFun values ts
        → Well t (act f at k tails names values)
    acts _ _ _ _ tails values (typed.operation {o = o} {ts = ts} {t = t} rule) have fit site fits = done_well IsFun f info at t (applied o values) (operated_well IsFun o ts t rule values fits)
    acts _ _ _ _ tails values (typed.name {x = x} {t = t} is) have fit site fits = let found = fit x (inl refl) t is in subst (λ o. Well t (given at o)) (sym found.1) found.2
    acts _ _ _ _ tails values (typed.function {label = label} {of = of} whole is bare has) have fit site fits =
        subst (λ o. Well (function_type of) (made at [] o)) (sym whole) (function_fits IsFun f info functions sound label of [] is has (subst (FitEach IsFun []) (sym bare) none_left))
    acts _ _ _ _ tails values (typed.lambda {label = label} {xs = xs} {of = of} is named has) have fit site fits =
        let found = all_found IsFun c names xs of.env named (λ x among. fit x (inl among)) in
        subst (λ o. Well (function_type of) (closure at label o)) (sym found.are) (function_fits IsFun f info functions sound label of found.values is has found.fit)
    acts _ _ _ _ tails values (typed.call {i = i} {label = label} {of = of} whole is bare has) have fit site fits = call_well IsFun f info functions sound at i label of values whole is bare has fits
    acts _ _ _ _ tails _ (typed.apply {ts = ts} {t = t} effects) have fit site (one_more {v = v} {values = args} first passed) = apply_well IsFun f info functions sound at ts effects t v args first passed
    acts _ _ _ _ _ _ (typed.bind {x = x} {a = a} {t = t}) (typed.tail {n = n} one typed.no_tail) fit site (one_more {v = v} fits none_left) =
        bound_point IsFun f info c names x a v [] n [] t one fits (tails_fit (kind.Bind x) (n ∷ []) fit)
    acts _ _ _ _ _ _ (typed.then_next {t = t}) (typed.tail {n = n} one typed.no_tail) fit site (one_more {v = v} fits none_left) =
        subst (λ b. Well t (after_unit at b (Tail (under names n)))) (sym (unit_of_fits IsFun v fits)) (plain_point IsFun f info c names [] n [] t (λ y. tt) one (tails_fit kind.Then (n ∷ []) fit))
    acts _ _ _ _ _ _ (typed.choose_if {t = t}) (typed.tail {n = d} one (typed.tail {n = e} other typed.no_tail)) fit site (one_more {v = v} fits none_left) =
        chosen_well at v t (Tail (under names d)) (Tail (under names e)) fits
        (plain_point IsFun f info c names [] d (e ∷ []) t (λ y. tt) one (λ y uses. fit y (inr uses)))
        (plain_point IsFun f info c names [] e [] t (λ y. tt) other (λ y uses. fit y (inr (used.other_tails uses))))
    acts _ _ _ _ _ _ typed.choose_and (typed.tail {n = d} one typed.no_tail) fit site (one_more {v = v} fits none_left) =
        chosen_well at v known.Bool (Tail (under names d)) (Give (truth false)) fits (plain_point IsFun f info c names [] d [] known.Bool (λ y. tt) one (λ y uses. fit y (inr uses))) (truth_fits IsFun false)
    acts _ _ _ _ _ _ typed.choose_or (typed.tail {n = d} one typed.no_tail) fit site (one_more {v = v} fits none_left) =
        chosen_well at v known.Bool (Give (truth true)) (Tail (under names d)) fits (truth_fits IsFun true) (plain_point IsFun f info c names [] d [] known.Bool (λ y. tt) one (λ y uses. fit y (inr uses)))
    acts _ _ _ _ _ _ (typed.choose_where a) (typed.tail {n = d} one typed.no_tail) fit site (one_more {v = v} fits none_left) =
        chosen_well at v (known.List a) (Tail (under names d)) (Give (value.List [])) fits (plain_point IsFun f info c names [] d [] (known.List a) (λ y. tt) one (λ y uses. fit y (inr uses))) (list_fits IsFun [] a none)
    acts _ _ _ _ tails _ typed.print have fit site (one_more {v = v} fits none_left) = let found = text_of_fits IsFun v fits in subst (λ o. Well unit (print at o)) (sym found.1) refl
    acts _ _ _ _ tails _ (typed.switch {cases = cases} {tags = tags} {asked = asked} {t = t} row rules made) have fit site (one_more {v = v} fits none_left) =
        switch_well IsFun f info c names at t cases tags asked tails rules v row have (tails_fit (kind.Switch cases None) tails fit) made fits
    acts _ _ _ _ tails _ (typed.switch_open {cases = cases} {x = x} {tags = tags} {asked = asked} {t = t} other row rules made) have fit site (one_more {v = v} fits none_left) =
        open_well IsFun f info c names at t cases tags asked tails rules v x other row have (tails_fit (kind.Switch cases (Some x)) tails fit) made fits
    acts _ _ _ _ _ _ (typed.for_each {x = x} a b) (typed.tail {n = body} one typed.no_tail) fit site (one_more {v = v} fits none_left) =
        let found = list_of_fits IsFun v a fits in
        subst (λ o. Well (known.List b) (over at x o body names)) (sym found.1) (b, refl, bodies_well c names x body a b one (tails_fit (kind.For x) (body ∷ []) fit) found.0 found.2)
    acts _ _ _ _ tails values (typed.insert {label = label} {of = of} is params) have fit site fits = (label, of, site block.Insert label [] refl, is, subst (FitEach IsFun values) (sym params) fits, refl)
    acts _ _ _ _ tails values (typed.reach {b = b} {label = label} {kept = kept} {of = of} takes is are) have fit site fits =
        let found = kept_found IsFun f c names kept of.params are (λ x among. fit x (inl among)) in
        subst (λ o. Well of.result (reach at b o values)) (sym found.are) (reach_well b of.result at found.values values takes (label, of, site b label kept refl, is, found.fit, refl))

  -- the site of what has the label of a node is where the node begins
  pub site_there : AreTypedForms f info → (n : ℕ) (form : Form) → form_at f n ≡ Some form → (b : Block) (label : ℕ) (kept : List Kept) → form.kind ≡ kind.Reach b label kept → site_of f label ≡ form.at.start
  site_there sound n form there b label kept is =
      ap (λ o. unwrap_or (option_map (λ (form : Form). form.at.start) (option_and_then (form_at f) o)) 0) (sound.blocks n form b label kept there is).0
      ∙ ap (λ o. unwrap_or (option_map (λ (form : Form). form.at.start) o) 0) there

  pub typed_acts : AreFunctions IsFun f info → AreTypedForms f info → TypedActs IsFun f info
  typed_acts functions sound c n form ts asked t there rule have names fit values fits =
      acts functions sound form.at c names form.kind ts asked t form.tails values rule have fit (site_there sound n form there) fits
