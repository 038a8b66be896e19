-- The form with continuations does what the form without them does: it keeps all names that are used.
use Rattle.std.proofs.Common.{◌≡◌, inl, inr, refl, sym, ap, subst, ◌∙◌, ℕ, Bool, true, false, cond, ◌==◌, if◌then◌else◌, List, [], ◌∷◌, ◌++◌, map, Option, Some, None}
use Rattle.std.specs.Prelude.{bytes_eq}
use Rattle.lk_ast.specs.declared.place.Loc.{Loc}
use Rattle.lk_ast.specs.declared.place.Span.{Span}
use Rattle.lk_ast.specs.declared.value.Value.{Value}
use Rattle.lk_ast.specs.declared.value.Value.TheVariants as value
use Rattle.lk_evaluation.proofs.Same.{same}
use Rattle.lk_evaluation.specs.Evaluation.{Act, Give, Tail, Goto, Uses, Each, Fails, Lacks, Primitive, Printing, Reading, Writing, eval}
use Rattle.lk_evaluation.specs.Laws.{Both, Maybe, Match, MatchingActs, MatchingPrimitives}
use Rattle.lk_evaluation.specs.Run.{Run}
use Rattle.lk_moves.proofs.Equal.{both_same, values_same, maybe_itself, run_itself, outs_same}
use Rattle.lk_moves.specs.Laws.{Equal}
use Rattle.lk_operators.specs.Values.{bool_in, list_in, tag_in, is_unit}
use Rattle.lk_ir.proofs.Lookups.{bound, equal_self, looked_up, only_keeps}
use Rattle.lk_ir.specs.Continuing as named
use Rattle.lk_ir.specs.Continuing.{behind, conts_at, continuing, going, narrowed, only}
use Rattle.lk_ir.specs.Environments.{Env, bind, lookup}
use Rattle.lk_ir.specs.Law.{Agree}
use Rattle.lk_ir.specs.LetNormal as forms
use Rattle.lk_ir.specs.LetNormal.{Point, act, let_normal, under}
use Rattle.lk_ir.specs.Tables.{form_at, names_of}
use Rattle.lk_ir.specs.Uses as relation
use Rattle.lk_ir.specs.Uses.{AreNamed, AreKept, IsTurnKept, turned, UsedBehind, UsedIn, UsedInTails, Needs, IsFreeOf, binds, last_binds}
use Rattle.lk_ir.specs.declared.nodes.CaseForm.{CaseForm}
use Rattle.lk_ir.specs.declared.nodes.Choice.{Choice}
use Rattle.lk_ir.specs.declared.nodes.Choice.TheVariants as choice
use Rattle.lk_ir.specs.declared.nodes.Cont.{Cont}
use Rattle.lk_ir.specs.declared.nodes.Conts.{Conts}
use Rattle.lk_ir.specs.declared.nodes.Form.{Form}
use Rattle.lk_ir.specs.declared.nodes.Forms.{Forms}
use Rattle.lk_ir.specs.declared.nodes.Kind.{Kind}
use Rattle.lk_ir.specs.declared.nodes.Kind.TheVariants as kind

-- names that have the same values where this holds
abbrev Alike : (ℕ → Type 0) → Env → Env → Type 0
Alike P a b = (x : ℕ) → P x → lookup a x ≡ lookup b x

module _ (f : Forms) where
  abbrev M : Point → Point → Type 0
  M = Agree f

  abbrev Acts : Act Point → Act Point → Type 0
  Acts a b = MatchingActs M Equal a b

  -- ---- positions

  behind_one : (form : Form) (k : ℕ) (ks : List ℕ) (x : ℕ) → UsedBehind f form ks x → UsedBehind f form (k ∷ ks) x
  behind_one form k ks x (inl used) = inl (relation.others used)
  behind_one form k ks x (inr used) = inr used

  goes : (form : Form) (ks : List ℕ) (cs : List (Option Cont)) → AreKept f form ks cs → (a b : Env) → Alike (UsedBehind f form ks) a b → Both M (going ks cs a) (map (under b) ks)
  goes form [] cs kept a b alike = tt
  goes form (k ∷ ks) [] kept a b alike = absurd kept
  goes form (k ∷ ks) (None ∷ cs) kept a b alike =
      ((refl, λ x uses. alike x (inl (relation.first uses))), goes form ks cs kept.1 a b (λ x used. alike x (behind_one form k ks x used)))
  goes form (k ∷ ks) (Some c ∷ cs) kept a b alike = (
    (refl, λ x uses. alike x (inl (relation.first uses))),
    goes form ks cs kept.2 (only (names_of c.keeps) a) b (λ x used. only_keeps (names_of c.keeps) a x ((kept.1.just x).1 used) ∙ alike x (behind_one form k ks x used)),
  )

  turn_left : (form : Form) (body : Option ℕ) (cs : List (Option Cont)) → IsTurnKept f form body cs → (a b : Env) → Alike (UsedBehind f form []) a b → Alike (UsedBehind f form []) (behind [] cs a) b
  turn_left form None [] kept a b alike = alike
  turn_left form None (c ∷ cs) kept a b alike = absurd kept
  turn_left form (Some body) [] kept a b alike = absurd kept
  turn_left form (Some body) (None ∷ []) kept a b alike = alike
  turn_left form (Some body) (None ∷ d ∷ cs) kept a b alike = absurd kept
  turn_left form (Some body) (Some c ∷ []) kept a b alike = λ x used. only_keeps (names_of c.keeps) a x ((kept.1.just x).1 used) ∙ alike x used
  turn_left form (Some body) (Some c ∷ d ∷ cs) kept a b alike = absurd kept

  left_over : (form : Form) (ks : List ℕ) (cs : List (Option Cont)) → AreKept f form ks cs → (a b : Env) → Alike (UsedBehind f form ks) a b → Alike (UsedBehind f form []) (behind ks cs a) b
  left_over form [] cs kept a b alike = turn_left form (turned form.kind form.tails) cs kept a b alike
  left_over form (k ∷ ks) [] kept a b alike = absurd kept
  left_over form (k ∷ ks) (None ∷ cs) kept a b alike = left_over form ks cs kept.1 a b (λ x used. alike x (behind_one form k ks x used))
  left_over form (k ∷ ks) (Some c ∷ cs) kept a b alike = left_over form ks cs kept.2 (only (names_of c.keeps) a) b (λ x used. only_keeps (names_of c.keeps) a x ((kept.1.just x).1 used) ∙ alike x (behind_one form k ks x used))

  -- ---- acts

  point_itself : (p : Point) → M p p
  point_itself p = (refl, λ x uses. refl)

  points_itself : (ps : List Point) → Both M ps ps
  points_itself [] = tt
  points_itself (p ∷ ps) = (point_itself p, points_itself ps)

  primitive_itself : (one : Primitive) → MatchingPrimitives Equal one one
  primitive_itself (Printing bytes) = (refl, refl)
  primitive_itself (Reading site args) = (refl, both_same args)
  primitive_itself (Writing site args) = (refl, both_same args)

  act_itself : (a : Act Point) → Acts a a
  act_itself (Give v) = refl
  act_itself (Tail p) = point_itself p
  act_itself (Goto mark g args body) = (refl, refl, both_same args, point_itself body)
  act_itself (Uses mark one) = (refl, primitive_itself one)
  act_itself (Each at bodies) = (refl, points_itself bodies)
  act_itself (Fails trap) = refl
  act_itself (Lacks at) = refl

  same_acts : (a b : Act Point) → a ≡ b → Acts a b
  same_acts a b is = subst (Acts a) is (act_itself a)

  -- a tail that binds a name or none
  bound_alike : (x : ℕ) (v : Value) (a b : Env) (n : ℕ) → ((y : ℕ) → IsFreeOf (Some x) y → relation.Uses f y n → lookup a y ≡ lookup b y) → M (under (bind x v a) n) (under (bind x v b) n)
  bound_alike x v a b n same = (refl, λ y uses. bound x v a y ∙ by_test y (x == y) refl uses ∙ sym (bound x v b y))
    where
      apart : (y : ℕ) → (x == y) ≡ false → x ≡ y → ⊥
      apart y other is = let wrong : true ≡ false = sym (subst (λ z. (x == z) ≡ true) is (equal_self x)) ∙ other in cc

      by_test : (y : ℕ) (t : Bool) → (x == y) ≡ t → relation.Uses f y n → cond t (Some v) (lookup a y) ≡ cond t (Some v) (lookup b y)
      by_test y true is uses = refl
      by_test y false is uses = same y (apart y is) uses

  choose_acts : (at : Span) (t : Option Bool) (d e d' e' : Act Point) → Acts d d' → Acts e e' → Acts (forms.choose at t d e) (forms.choose at t d' e')
  choose_acts at None d e d' e' first second = refl
  choose_acts at (Some true) d e d' e' first second = first
  choose_acts at (Some false) d e d' e' first second = second

  unit_acts : (at : Span) (t : Bool) (d d' : Act Point) → Acts d d' → Acts (forms.after_unit at t d) (forms.after_unit at t d')
  unit_acts at true d d' acts = acts
  unit_acts at false d d' acts = refl

  -- what the tails use is the same
  abbrev TailsAlike : List (Option ℕ) → List ℕ → Env → Env → Type 0
  TailsAlike bs tails a b = (x : ℕ) → UsedInTails f x bs tails → lookup a x ≡ lookup b x

  plain_tail : (n : ℕ) (tails : List ℕ) (a b : Env) → TailsAlike [] (n ∷ tails) a b → M (under a n) (under b n)
  plain_tail n tails a b alike = (refl, λ x uses. alike x (relation.first_tail tt uses))

  chosen_acts : (at : Span) (c : Choice) (t : Option Bool) (tails : List ℕ) (a b : Env) → TailsAlike [] tails a b → Acts (forms.chosen at c t tails a) (forms.chosen at c t tails b)
  chosen_acts at choice.If t [] a b alike = refl
  chosen_acts at choice.If t (d ∷ []) a b alike = refl
  chosen_acts at choice.If t (d ∷ e ∷ []) a b alike = choose_acts at t _ _ _ _ (plain_tail d (e ∷ []) a b alike) (plain_tail e [] a b (λ x used. alike x (relation.other_tails used)))
  chosen_acts at choice.If t (d ∷ e ∷ k ∷ tails) a b alike = refl
  chosen_acts at choice.And t [] a b alike = refl
  chosen_acts at choice.And t (d ∷ []) a b alike = choose_acts at t _ _ _ _ (plain_tail d [] a b alike) refl
  chosen_acts at choice.And t (d ∷ e ∷ tails) a b alike = refl
  chosen_acts at choice.Or t [] a b alike = refl
  chosen_acts at choice.Or t (d ∷ []) a b alike = choose_acts at t _ _ _ _ refl (plain_tail d [] a b alike)
  chosen_acts at choice.Or t (d ∷ e ∷ tails) a b alike = refl
  chosen_acts at choice.Where t [] a b alike = refl
  chosen_acts at choice.Where t (d ∷ []) a b alike = choose_acts at t _ _ _ _ (plain_tail d [] a b alike) refl
  chosen_acts at choice.Where t (d ∷ e ∷ tails) a b alike = refl

  bodies_agree : (x : ℕ) (n : ℕ) (a b : Env) → TailsAlike (Some x ∷ []) (n ∷ []) a b → (values : List Value) → Both M (map (λ v. under (bind x v a) n) values) (map (λ v. under (bind x v b) n) values)
  bodies_agree x n a b alike [] = tt
  bodies_agree x n a b alike (v ∷ values) = (bound_alike x v a b n (λ y free uses. alike y (relation.first_tail free uses)), bodies_agree x n a b alike values)

  over_acts : (at : Span) (x : ℕ) (o : Option (List Value)) (n : ℕ) (a b : Env) → TailsAlike (Some x ∷ []) (n ∷ []) a b → Acts (forms.over at x o n a) (forms.over at x o n b)
  over_acts at x None n a b alike = refl
  over_acts at x (Some values) n a b alike = (refl, bodies_agree x n a b alike values)

  case_acts : (at : Span) (o : Option ℕ) (n : ℕ) (held : Value) (a b : Env) → ((y : ℕ) → IsFreeOf o y → relation.Uses f y n → lookup a y ≡ lookup b y) → Acts (forms.in_case at o n held a) (forms.in_case at o n held b)
  case_acts at None n held a b same = unit_acts at (is_unit held) _ _ (refl, λ y uses. same y tt uses)
  case_acts at (Some x) n held a b same = bound_alike x held a b n same

  cases_acts : (at : Span) (v : Value) (t : List ℕ) (held : Value) (cases : List CaseForm) (last : Option ℕ) (tails : List ℕ) (a b : Env) → TailsAlike (map (λ (c : CaseForm). c.name) cases ++ last_binds last) tails a b
      → Acts (forms.in_cases at v t held cases last tails a) (forms.in_cases at v t held cases last tails b)
  cases_acts at v t held [] None [] a b alike = refl
  cases_acts at v t held [] None (n ∷ tails) a b alike = refl
  cases_acts at v t held [] (Some x) [] a b alike = refl
  cases_acts at v t held [] (Some x) (n ∷ tails) a b alike = bound_alike x v a b n (λ y free uses. alike y (relation.first_tail free uses))
  cases_acts at v t held (c ∷ cases) last [] a b alike = refl
  cases_acts at v t held (c ∷ cases) last (n ∷ tails) a b alike = by_test (bytes_eq c.tag t) (cases_acts at v t held cases last tails a b (λ y used. alike y (relation.other_tails used)))
    where
      by_test : (here : Bool) → Acts (forms.in_cases at v t held cases last tails a) (forms.in_cases at v t held cases last tails b)
          → Acts (if here then forms.in_case at c.name n held a else forms.in_cases at v t held cases last tails a) (if here then forms.in_case at c.name n held b else forms.in_cases at v t held cases last tails b)
      by_test true later = case_acts at c.name n held a b (λ y free uses. alike y (relation.first_tail free uses))
      by_test false later = later

  switch_acts : (at : Span) (v : Value) (o : Option (List ℕ × Value)) (cases : List CaseForm) (last : Option ℕ) (tails : List ℕ) (a b : Env) → TailsAlike (map (λ (c : CaseForm). c.name) cases ++ last_binds last) tails a b
      → Acts (forms.switch at v o cases last tails a) (forms.switch at v o cases last tails b)
  switch_acts at v None cases last tails a b alike = refl
  switch_acts at v (Some (t, held)) cases last tails a b alike = cases_acts at v t held cases last tails a b alike

  acts_agree : (at : Span) (k : Kind) (tails : List ℕ) (a b : Env) → Alike (Needs k) a b → TailsAlike (binds k) tails a b → (values : List Value) → Acts (act f at k tails a values) (act f at k tails b values)
  acts_agree at (kind.Op o) tails a b needs alike values = act_itself _
  acts_agree at (kind.Name x) tails a b needs alike values = same_acts _ _ (ap (forms.given at) (needs x refl))
  acts_agree at (kind.Function i) tails a b needs alike values = act_itself _
  acts_agree at (kind.Lambda label xs) tails a b needs alike values = same_acts _ _ (ap (forms.closure at label) (looked_up a b xs needs))
  acts_agree at (kind.Call i) tails a b needs alike values = act_itself _
  acts_agree at kind.Apply tails a b needs alike values = act_itself _
  acts_agree at (kind.Bind x) [] a b needs alike values = refl
  acts_agree at (kind.Bind x) (n ∷ []) a b needs alike [] = refl
  acts_agree at (kind.Bind x) (n ∷ []) a b needs alike (v ∷ []) = bound_alike x v a b n (λ y free uses. alike y (relation.first_tail free uses))
  acts_agree at (kind.Bind x) (n ∷ []) a b needs alike (v ∷ w ∷ values) = refl
  acts_agree at (kind.Bind x) (n ∷ m ∷ tails) a b needs alike values = refl
  acts_agree at kind.Then [] a b needs alike values = refl
  acts_agree at kind.Then (n ∷ []) a b needs alike [] = refl
  acts_agree at kind.Then (n ∷ []) a b needs alike (v ∷ []) = unit_acts at (is_unit v) _ _ (plain_tail n [] a b alike)
  acts_agree at kind.Then (n ∷ []) a b needs alike (v ∷ w ∷ values) = refl
  acts_agree at kind.Then (n ∷ m ∷ tails) a b needs alike values = refl
  acts_agree at (kind.Choose c) tails a b needs alike [] = refl
  acts_agree at (kind.Choose c) tails a b needs alike (v ∷ []) = chosen_acts at c (bool_in v) tails a b alike
  acts_agree at (kind.Choose c) tails a b needs alike (v ∷ w ∷ values) = refl
  acts_agree at kind.Print tails a b needs alike [] = refl
  acts_agree at kind.Print tails a b needs alike (v ∷ []) = act_itself _
  acts_agree at kind.Print tails a b needs alike (v ∷ w ∷ values) = refl
  acts_agree at (kind.Switch cases last) tails a b needs alike [] = refl
  acts_agree at (kind.Switch cases last) tails a b needs alike (v ∷ []) = switch_acts at v (tag_in v) cases last tails a b alike
  acts_agree at (kind.Switch cases last) tails a b needs alike (v ∷ w ∷ values) = refl
  acts_agree at (kind.For x) [] a b needs alike values = refl
  acts_agree at (kind.For x) (n ∷ []) a b needs alike [] = refl
  acts_agree at (kind.For x) (n ∷ []) a b needs alike (v ∷ []) = over_acts at x (list_in v) n a b alike
  acts_agree at (kind.For x) (n ∷ []) a b needs alike (v ∷ w ∷ values) = refl
  acts_agree at (kind.For x) (n ∷ m ∷ tails) a b needs alike values = refl
  acts_agree at (kind.Reach kept_by label kept) tails a b needs alike values = same_acts _ _ (ap (λ o. forms.reach at kept_by o values) (looked_up a b (names_of kept) needs))

  -- ---- the languages match

  module _ (all : List Conts) (are : AreNamed f all) where
    node_parts : (n : ℕ) (o : Option Form) → form_at f n ≡ o → (a b : Env) → Alike (λ x. relation.Uses f x n) a b → Both M (named.parts_in f all o n a) (forms.parts_in f o b)
    node_parts n None is a b alike = tt
    node_parts n (Some form) is a b alike = goes form form.parts (conts_at all n) (are.each n form is) a b (λ x used. alike x (uses x used))
      where
        uses : (x : ℕ) → UsedBehind f form form.parts x → relation.Uses f x n
        uses x (inl used) = relation.in_part form is used
        uses x (inr (inl needs)) = relation.itself form is needs
        uses x (inr (inr used)) = relation.in_tail form is used

    node_acts : (n : ℕ) (o : Option Form) → form_at f n ≡ o → (a b : Env) → Alike (λ x. relation.Uses f x n) a b → (values : List Value) → Acts (named.act_in f all o n a values) (forms.act_in f o b values)
    node_acts n None is a b alike values = refl
    node_acts n (Some form) is a b alike values =
        let left : Alike (UsedBehind f form []) (behind form.parts (conts_at all n) a) b = left_over form form.parts (conts_at all n) (are.each n form is) a b (λ x used. alike x (uses x used)) in
        acts_agree form.at form.kind form.tails _ b (λ x needs. left x (inr (inl needs))) (λ x used. left x (inr (inr used))) values
      where
        uses : (x : ℕ) → UsedBehind f form form.parts x → relation.Uses f x n
        uses x (inl used) = relation.in_part form is used
        uses x (inr (inl needs)) = relation.itself form is needs
        uses x (inr (inr used)) = relation.in_tail form is used

    at_point : (P : Point → Type 0) (p q : Point) → p.node ≡ q.node → P (under q.names p.node) → P q
    at_point P p q is holds = subst (λ n. P (under q.names n)) is holds

    pub continues : Match (continuing f all) (let_normal f) M Equal
    continues = record {
      plain = λ p q agree. ap (λ n. forms.plain_in f (form_at f n)) agree.0;
      parts = λ p q agree. at_point (λ (o : Point). Both M (named.parts_in f all (form_at f p.node) p.node p.names) (forms.parts_in f (form_at f o.node) o.names)) p q agree.0 (node_parts p.node (form_at f p.node) refl p.names q.names agree.1);
      acts = λ p q values others agree both. subst (λ vs. Acts ((continuing f all).act p values) ((let_normal f).act q vs)) (values_same values others both)
          (at_point (λ (o : Point). Acts ((continuing f all).act p values) (forms.act_in f (form_at f o.node) o.names values)) p q agree.0 (node_acts p.node (form_at f p.node) refl p.names q.names agree.1 values));
      lists = λ values others both. ap value.List (values_same values others both);
      listed = λ v w is. subst (λ x. Maybe (Both Equal) (list_in v) (list_in x)) is (maybe_itself (list_in v));
      rows = λ rows. refl;
      units = refl;
    }

    pub continues_so : (n : ℕ) (names : Env) (place : Loc) (r : Run) → eval (continuing f all) (under names n) place r ≡ eval (let_normal f) (under names n) place r
    continues_so n names place r = outs_same _ _ (same (continuing f all) (let_normal f) M Equal continues _ _ place r r (point_itself (under names n)) (run_itself r))
