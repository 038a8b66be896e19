-- Where an act goes on with a node, or with several, they are tails of its own: a line for each kind.
use Rattle.std.proofs.Common.{ℕ, Bool, true, false, List, [], ◌∷◌, ◌==◌, Option, Some, None, bytes_eq, if◌then◌else◌, length, map}
use Rattle.lk_ast.specs.declared.place.Span.{Span}
use Rattle.lk_ast.specs.declared.value.FunValue.{FunValue}
use Rattle.lk_ast.specs.declared.value.Value.{Value}
use Rattle.lk_evaluation.specs.Evaluation.{Act, Each, Tail}
use Rattle.lk_ir.specs.Environments.{Env, bind, lookup, lookup_all}
use Rattle.lk_ir.specs.LetNormal.{Point, act, after_unit, apply, apply_first, body_entered, call, choose, chosen, closure, done, entered, entered_as, given, in_case, in_cases, kept_by, made, over, print, reach, reads, switch, under, writes}
use Rattle.lk_ir.specs.Operations.{applied}
use Rattle.lk_ir.specs.Tables.{body_at, label_at, names_of, whole_at}
use Rattle.lk_ir.specs.Uses as used
use Rattle.lk_ir.specs.Uses.{Among}
use Rattle.lk_ir.specs.declared.nodes.Block.{Block}
use Rattle.lk_ir.specs.declared.nodes.Block.TheVariants as block
use Rattle.lk_ir.specs.declared.nodes.Body.{Body}
use Rattle.lk_ir.specs.declared.nodes.CaseForm.{CaseForm}
use Rattle.lk_ir.specs.declared.nodes.Choice.{Choice}
use Rattle.lk_ir.specs.declared.nodes.Choice.TheVariants as choice
use Rattle.lk_ir.specs.declared.nodes.Forms.{Forms}
use Rattle.lk_ir.specs.declared.nodes.Kind.{Kind}
use Rattle.lk_ir.specs.declared.nodes.Kind.TheVariants as kind
use Rattle.lk_ir.specs.declared.nodes.LabelForm.{LabelForm}
use Rattle.lk_operators.specs.Values.{bool_in, fun_in, is_unit, list_in, tag_in, text_in}
use Rattle.lk_operators.specs.declared.outcome.Outcome.{Outcome}
use Rattle.lk_operators.specs.declared.outcome.Outcome.TheVariants as outcome
use Rattle.lk_types.specs.Each.{Each as EachOf}
use Rattle.lk_code.specs.TypedLaw.{StaysAt}

module _ (at : Span) (tails : List ℕ) where
  abbrev Stays : Act Point → Type 0
  Stays a = StaysAt tails a

  -- ---- values

  done_stays : (o : Outcome) → Stays (done at o)
  done_stays (outcome.Value v) = tt
  done_stays (outcome.Trap trap) = tt
  done_stays outcome.NoRule = tt

  given_stays : (v : Option Value) → Stays (given at v)
  given_stays None = tt
  given_stays (Some v) = tt

  -- ---- functions

  made_stays : (env : List Value) (label : Option ℕ) → Stays (made at env label)
  made_stays env None = tt
  made_stays env (Some label) = tt

  closure_stays : (label : ℕ) (env : Option (List Value)) → Stays (closure at label env)
  closure_stays label None = tt
  closure_stays label (Some env) = tt

  entered_stays : (label : ℕ) (env args : List Value) (b : Option Body) → Stays (entered at label env args b)
  entered_stays label env args None = tt
  entered_stays label env args (Some b) = by_number (length b.params == length args)
    where
      by_number : (same : Bool) → Stays (body_entered same at label env args b)
      by_number true = tt
      by_number false = tt

  call_stays : (f : Forms) (args : List Value) (label : Option ℕ) → Stays (call f at args label)
  call_stays f args None = tt
  call_stays f args (Some label) = entered_stays label [] args (body_at f label)

  value_stays : (g : FunValue) (args : List Value) (l : Option LabelForm) → Stays (entered_as at g args l)
  value_stays g args None = tt
  value_stays g args (Some l) = entered_stays g.site (kept_by l.node g.env) args l.body

  apply_stays : (f : Forms) (args : List Value) (g : Option FunValue) → Stays (apply f at g args)
  apply_stays f args None = tt
  apply_stays f args (Some g) = value_stays g args (label_at f g.site)

  first_stays : (f : Forms) (values : List Value) → Stays (apply_first f at values)
  first_stays f [] = tt
  first_stays f (v ∷ args) = apply_stays f args (fun_in v)

  -- ---- choices

  choose_stays : (b : Option Bool) (d e : Act Point) → Stays d → Stays e → Stays (choose at b d e)
  choose_stays None d e first second = tt
  choose_stays (Some true) d e first second = first
  choose_stays (Some false) d e first second = second

  unit_stays : (b : Bool) (rest : Act Point) → Stays rest → Stays (after_unit at b rest)
  unit_stays true rest stays = stays
  unit_stays false rest stays = tt

  -- ---- outside

  print_stays : (bytes : Option (List ℕ)) → Stays (print at bytes)
  print_stays None = tt
  print_stays (Some bytes) = tt

  reads_stays : (args : Option (List Value)) → Stays (reads at args)
  reads_stays None = tt
  reads_stays (Some args) = tt

  writes_stays : (args : Option (List Value)) → Stays (writes at args)
  writes_stays None = tt
  writes_stays (Some args) = tt

  reach_stays : (b : Block) (captured : Option (List Value)) (values : List Value) → Stays (reach at b captured values)
  reach_stays block.Query captured values = reads_stays captured
  reach_stays block.TableRead captured values = reads_stays captured
  reach_stays block.Insert captured values = tt
  reach_stays block.Update captured values = writes_stays captured
  reach_stays block.Delete captured values = writes_stays captured

module _ (at : Span) where
  chosen_stays : (c : Choice) (b : Option Bool) (tails : List ℕ) (names : Env) → StaysAt tails (chosen at c b tails names)
  chosen_stays choice.If b (d ∷ e ∷ []) names = choose_stays at (d ∷ e ∷ []) b (Tail (under names d)) (Tail (under names e)) used.here (used.later used.here)
  chosen_stays choice.And b (d ∷ []) names = choose_stays at (d ∷ []) b _ _ used.here tt
  chosen_stays choice.Or b (d ∷ []) names = choose_stays at (d ∷ []) b _ _ tt used.here
  chosen_stays choice.Where b (d ∷ []) names = choose_stays at (d ∷ []) b _ _ used.here tt
  chosen_stays other b tails names = tt

  bodies_stay : (x body : ℕ) (names : Env) (values : List Value) → EachOf (λ (p : Point). Among p.node (body ∷ [])) (map (λ v. under (bind x v names) body) values)
  bodies_stay x body names [] = tt
  bodies_stay x body names (v ∷ values) = (used.here, bodies_stay x body names values)

  over_stays : (x body : ℕ) (names : Env) (values : Option (List Value)) → StaysAt (body ∷ []) (over at x values body names)
  over_stays x body names None = tt
  over_stays x body names (Some values) = bodies_stay x body names values

  -- ---- cases

  case_stays : (name : Option ℕ) (n : ℕ) (tails : List ℕ) (held : Value) (names : Env) → StaysAt (n ∷ tails) (in_case at name n held names)
  case_stays None n tails held names = unit_stays at (n ∷ tails) (is_unit held) (Tail (under names n)) used.here
  case_stays (Some x) n tails held names = used.here

  -- what stays at tails stays at these and one more
  more_stay : (n : ℕ) (tails : List ℕ) (points : List Point) → EachOf (λ (p : Point). Among p.node tails) points → EachOf (λ (p : Point). Among p.node (n ∷ tails)) points
  more_stay n tails [] stay = tt
  more_stay n tails (p ∷ points) stay = (used.later stay.0, more_stay n tails points stay.1)

  later_stays : (n : ℕ) (tails : List ℕ) (a : Act Point) → StaysAt tails a → StaysAt (n ∷ tails) a
  later_stays n tails (Tail p) stays = used.later stays
  later_stays n tails (Each at points) stays = more_stay n tails points stays
  later_stays n tails other stays = tt

  cases_stay : (v : Value) (t : List ℕ) (held : Value) (cases : List CaseForm) (last : Option ℕ) (tails : List ℕ) (names : Env) → StaysAt tails (in_cases at v t held cases last tails names)
  cases_stay v t held (c ∷ cases) last (n ∷ tails) names = by_test (bytes_eq c.tag t) (cases_stay v t held cases last tails names)
    where
      by_test : (test : Bool) → StaysAt tails (in_cases at v t held cases last tails names) → StaysAt (n ∷ tails) (if test then in_case at c.name n held names else in_cases at v t held cases last tails names)
      by_test true rest = case_stays c.name n tails held names
      by_test false rest = later_stays n tails (in_cases at v t held cases last tails names) rest
  cases_stay v t held [] (Some x) (n ∷ tails) names = used.here
  cases_stay v t held cases last tails names = tt

  switch_stays : (v : Value) (tag : Option (List ℕ × Value)) (cases : List CaseForm) (last : Option ℕ) (tails : List ℕ) (names : Env) → StaysAt tails (switch at v tag cases last tails names)
  switch_stays v None cases last tails names = tt
  switch_stays v (Some tag) cases last tails names = cases_stay v tag.0 tag.1 cases last tails names

pub stays_law : (f : Forms) (at : Span) (k : Kind) (tails : List ℕ) (names : Env) (values : List Value) → StaysAt tails (act f at k tails names values)
stays_law f at (kind.Op o) tails names values = done_stays at tails (applied o values)
stays_law f at (kind.Name x) tails names values = given_stays at tails (lookup names x)
stays_law f at (kind.Function i) tails names values = made_stays at tails [] (whole_at f i)
stays_law f at (kind.Lambda label xs) tails names values = closure_stays at tails label (lookup_all names xs)
stays_law f at (kind.Call i) tails names values = call_stays at tails f values (whole_at f i)
stays_law f at kind.Apply tails names values = first_stays at tails f values
stays_law f at (kind.Bind x) (rest ∷ []) names (v ∷ []) = used.here
stays_law f at kind.Then (rest ∷ []) names (v ∷ []) = unit_stays at (rest ∷ []) (is_unit v) (Tail (under names rest)) used.here
stays_law f at (kind.Choose c) tails names (v ∷ []) = chosen_stays at c (bool_in v) tails names
stays_law f at kind.Print tails names (v ∷ []) = print_stays at tails (text_in v)
stays_law f at (kind.Switch cases last) tails names (v ∷ []) = switch_stays at v (tag_in v) cases last tails names
stays_law f at (kind.For x) (body ∷ []) names (v ∷ []) = over_stays at x body names (list_in v)
stays_law f at (kind.Reach b label kept) tails names values = reach_stays at tails b (lookup_all names (names_of kept)) values
stays_law f at other tails names values = tt
