-- What a table of nodes means without continuations (the A-normal form of C. Flanagan, A. Sabry, B. F. Duba and M. Felleisen, The
-- Essence of Compiling with Continuations, 1993, section 4, with values of parts that need no names): the language whose points are a
-- node's number and the values of all names in scope there.
use Rattle.std.specs.Prelude.{ℕ, Bool, true, false, List, [], ◌∷◌, Option, Some, None, map, length, ◌==◌, if◌then◌else◌, bytes_eq}
use Rattle.lk_ast.specs.declared.place.Loc.TheVariants.{Client, Server}
use Rattle.lk_ast.specs.declared.place.Span.{Span}
use Rattle.lk_ast.specs.declared.value.FunValue.{FunValue}
use Rattle.lk_ast.specs.declared.value.Value.{Value}
use Rattle.lk_ast.specs.declared.value.Value.TheVariants as value
use Rattle.lk_evaluation.specs.Evaluation.{Printing, Reading, Writing, Act, Give, Tail, Goto, Uses, Each, Fails, Lacks, Language}
use Rattle.lk_operators.specs.Values.{text, truth, text_in, bool_in, list_in, tag_in, fun_in, is_unit}
use Rattle.lk_operators.specs.declared.outcome.Outcome.{Outcome}
use Rattle.lk_operators.specs.declared.outcome.Outcome.TheVariants as outcome
use Rattle.lk_ir.specs.Environments.{Env, no_names, bind, lookup, lookup_all, bind_each}
use Rattle.lk_ir.specs.Operations.{applied, is_plain}
use Rattle.lk_ir.specs.Tables.{body_at, form_at, label_at, names_of, whole_at}
use Rattle.lk_ir.specs.declared.nodes.Block.{Block}
use Rattle.lk_ir.specs.declared.nodes.Block.TheVariants as block
use Rattle.lk_ir.specs.declared.nodes.Body.{Body}
use Rattle.lk_ir.specs.declared.nodes.CaseForm.{CaseForm}
use Rattle.lk_ir.specs.declared.nodes.Choice.{Choice}
use Rattle.lk_ir.specs.declared.nodes.Choice.TheVariants as choice
use Rattle.lk_ir.specs.declared.nodes.Form.{Form}
use Rattle.lk_ir.specs.declared.nodes.Forms.{Forms}
use Rattle.lk_ir.specs.declared.nodes.Kind.{Kind}
use Rattle.lk_ir.specs.declared.nodes.Kind.TheVariants as kind
use Rattle.lk_ir.specs.declared.nodes.LabelForm.{LabelForm}

-- a node under the values of local names
pub record Point : Type 0 where
  pub node : ℕ
  pub names : Env

abbrev pub under : Env → ℕ → Point
under names n = record { node = n; names = names }

-- ---- values

abbrev pub done : Span → Outcome → Act Point
done at (outcome.Value v) = Give v
done at (outcome.Trap trap) = Fails trap
done at outcome.NoRule = Lacks at

abbrev pub given : Span → Option Value → Act Point
given at None = Lacks at
given at (Some v) = Give v

-- ---- functions

-- a function value: a label, and what it keeps
abbrev pub made : Span → List Value → Option ℕ → Act Point
made at env None = Lacks at
made at env (Some label) = Give (value.Fun (record { site = label; env = env }))

abbrev pub closure : Span → ℕ → Option (List Value) → Act Point
closure at label None = Lacks at
closure at label (Some env) = made at env (Some label)

-- the body of this label, where there are as many arguments as parameters
abbrev pub body_entered : Bool → Span → ℕ → List Value → List Value → Body → Act Point
body_entered true at label env args b = Goto b.place (record { site = label; env = env }) args (under (bind_each (bind_each no_names b.names env) b.params args) b.root)
body_entered false at label env args b = Lacks at

abbrev pub entered : Span → ℕ → List Value → List Value → Option Body → Act Point
entered at label env args None = Lacks at
entered at label env args (Some b) = body_entered (length b.params == length args) at label env args b

-- What a call passes on of what a function value keeps. An instance has no node and keeps nothing.
abbrev pub kept_by : Option ℕ → List Value → List Value
kept_by None env = []
kept_by (Some n) env = env

abbrev pub entered_as : Span → FunValue → List Value → Option LabelForm → Act Point
entered_as at g args None = Lacks at
entered_as at g args (Some l) = entered at g.site (kept_by l.node g.env) args l.body

-- ---- choices

-- one or the other by a truth value
abbrev pub choose : Span → Option Bool → Act Point → Act Point → Act Point
choose at None d e = Lacks at
choose at (Some true) d e = d
choose at (Some false) d e = e

abbrev pub chosen : Span → Choice → Option Bool → List ℕ → Env → Act Point
chosen at choice.If b (d ∷ e ∷ []) names = choose at b (Tail (under names d)) (Tail (under names e))
chosen at choice.And b (d ∷ []) names = choose at b (Tail (under names d)) (Give (truth false))
chosen at choice.Or b (d ∷ []) names = choose at b (Give (truth true)) (Tail (under names d))
chosen at choice.Where b (d ∷ []) names = choose at b (Tail (under names d)) (Give (value.List []))
chosen at other b tails names = Lacks at

-- what follows where this is the unit value
abbrev pub after_unit : Span → Bool → Act Point → Act Point
after_unit at true rest = rest
after_unit at false rest = Lacks at

abbrev pub print : Span → Option (List ℕ) → Act Point
print at None = Lacks at
print at (Some bytes) = Uses Client (Printing bytes)

-- the body once for each element
abbrev pub over : Span → ℕ → Option (List Value) → ℕ → Env → Act Point
over at x None body names = Lacks at
over at x (Some values) body names = Each at (map (λ v. under (bind x v names) body) values)

abbrev pub in_case : Span → Option ℕ → ℕ → Value → Env → Act Point
in_case at None body held names = after_unit at (is_unit held) (Tail (under names body))
in_case at (Some x) body held names = Tail (under (bind x held names) body)

-- the first case with this tag, each beside its tail, else the last one, which binds the whole value
abbrev pub in_cases : Span → Value → List ℕ → Value → List CaseForm → Option ℕ → List ℕ → Env → Act Point
in_cases at v t held (c ∷ cases) last (n ∷ tails) names = if bytes_eq c.tag t then in_case at c.name n held names else in_cases at v t held cases last tails names
in_cases at v t held [] (Some x) (n ∷ tails) names = Tail (under (bind x v names) n)
in_cases at v t held cases last tails names = Lacks at

abbrev pub switch : Span → Value → Option (List ℕ × Value) → List CaseForm → Option ℕ → List ℕ → Env → Act Point
switch at v None cases last tails names = Lacks at
switch at v (Some (t, held)) cases last tails names = in_cases at v t held cases last tails names

-- ---- tables

-- what begins here reads or changes tables, with the values that it captured
abbrev pub reads : Span → Option (List Value) → Act Point
reads at None = Lacks at
reads at (Some args) = Uses Server (Reading at.start args)

abbrev pub writes : Span → Option (List Value) → Act Point
writes at None = Lacks at
writes at (Some args) = Uses Server (Writing at.start args)

abbrev pub reach : Span → Block → Option (List Value) → List Value → Act Point
reach at block.Query captured values = reads at captured
reach at block.TableRead captured values = reads at captured
reach at block.Insert captured values = Uses Server (Writing at.start values)
reach at block.Update captured values = writes at captured
reach at block.Delete captured values = writes at captured

-- ---- nodes

module _ (f : Forms) where
  -- a call of an instance by its label
  abbrev pub call : Span → List Value → Option ℕ → Act Point
  call at args None = Lacks at
  call at args (Some label) = entered at label [] args (body_at f label)

  -- a call of a value
  abbrev pub apply : Span → Option FunValue → List Value → Act Point
  apply at None args = Lacks at
  apply at (Some g) args = entered_as at g args (label_at f g.site)

  abbrev pub apply_first : Span → List Value → Act Point
  apply_first at [] = Lacks at
  apply_first at (v ∷ args) = apply at (fun_in v) args

  -- What a node of this kind does with the values of its positions; its tails see these names. The last line is for numbers of values
  -- and of tails that never occur.
  abbrev pub act : Span → Kind → List ℕ → Env → List Value → Act Point
  act at (kind.Op o) tails names values = done at (applied o values)
  act at (kind.Name x) tails names values = given at (lookup names x)
  act at (kind.Function i) tails names values = made at [] (whole_at f i)
  act at (kind.Lambda label xs) tails names values = closure at label (lookup_all names xs)
  act at (kind.Call i) tails names values = call at values (whole_at f i)
  act at kind.Apply tails names values = apply_first at values
  act at (kind.Bind x) (rest ∷ []) names (v ∷ []) = Tail (under (bind x v names) rest)
  act at kind.Then (rest ∷ []) names (v ∷ []) = after_unit at (is_unit v) (Tail (under names rest))
  act at (kind.Choose c) tails names (v ∷ []) = chosen at c (bool_in v) tails names
  act at kind.Print tails names (v ∷ []) = print at (text_in v)
  act at (kind.Switch cases last) tails names (v ∷ []) = switch at v (tag_in v) cases last tails names
  act at (kind.For x) (body ∷ []) names (v ∷ []) = over at x (list_in v) body names
  act at (kind.Reach b label kept) tails names values = reach at b (lookup_all names (names_of kept)) values
  act at other tails names values = Lacks at

  abbrev pub parts_in : Option Form → Env → List Point
  parts_in None names = []
  parts_in (Some form) names = map (under names) form.parts

  abbrev pub plain_in : Option Form → Bool
  plain_in None = false
  plain_in (Some form) = is_plain form.kind

  -- no node begins anywhere
  abbrev pub nowhere : Span
  nowhere = record { start = 0; end = 0 }

  abbrev pub act_in : Option Form → Env → List Value → Act Point
  act_in None names values = Lacks nowhere
  act_in (Some form) names values = act form.at form.kind form.tails names values

  -- each position sees all names
  abbrev pub let_normal : Language
  let_normal = record {
    Point = Point;
    parts = λ p. parts_in (form_at f p.node) p.names;
    plain = λ p. plain_in (form_at f p.node);
    act = λ p values. act_in (form_at f p.node) p.names values;
  }

-- A session is the evaluation of the body of the first instance at the client, its parameter bound to the session's argument.
abbrev pub main_point : Body → List ℕ → Point
main_point b arg = under (bind_each no_names b.params (text arg ∷ [])) b.root
