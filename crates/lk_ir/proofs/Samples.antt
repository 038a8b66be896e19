-- A table worked by hand, with its continuations, and its session computed by the definitions.
use Rattle.std.proofs.Common.{◌≡◌, inl, inr, refl, subst, ◌∙◌, ℕ, List, [], ◌∷◌, Some, None}
use Rattle.std.specs.Prelude.{codes, true, false}
use Rattle.std.specs.List.Sorted.{IsStrictlySortedBy}
use Rattle.std.specs.Ordering.{nat_cmp}
use Rattle.lk_ast.specs.declared.event.Event.TheVariants.{Print, Enter, Leave}
use Rattle.lk_ast.specs.declared.place.Loc.TheVariants.{Client, Server}
use Rattle.lk_ast.specs.declared.place.Span.{Span}
use Rattle.lk_ast.specs.declared.value.Value.{Value}
use Rattle.lk_ast.specs.declared.value.Value.TheVariants as value
use Rattle.lk_evaluation.specs.Evaluation.{Give, Goto, eval, eval_to}
use Rattle.lk_evaluation.specs.Run.{Out, Goes, Within, Called, Returned, Function, start}
use Rattle.lk_operators.specs.Values.{text, truth}
use Rattle.lk_types.specs.declared.ground.Ground.{Ground}
use Rattle.lk_ir.proofs.Continues.{continues_so}
use Rattle.lk_ir.proofs.Lookups.{bound}
use Rattle.lk_ir.proofs.Used.{all_named, used_by}
use Rattle.lk_ir.specs.Continuing.{continuing}
use Rattle.lk_ir.specs.Environments.{bind, no_names}
use Rattle.lk_ir.specs.LetNormal.{act, let_normal, main_point, under}
use Rattle.lk_ir.specs.Uses as relation
use Rattle.lk_ir.specs.Uses.{Among, AreNamed, KeepsJust, Uses, UsedBehind, UsedIn}
use Rattle.lk_ir.specs.declared.nodes.Body.{Body}
use Rattle.lk_ir.specs.declared.nodes.Choice.TheVariants as choice
use Rattle.lk_ir.specs.declared.nodes.Conts.{Conts}
use Rattle.lk_ir.specs.declared.nodes.Form.{Form}
use Rattle.lk_ir.specs.declared.nodes.Forms.{Forms}
use Rattle.lk_ir.specs.declared.nodes.Kind.{Kind}
use Rattle.lk_ir.specs.declared.nodes.Kind.TheVariants as kind
use Rattle.lk_ir.specs.declared.nodes.LabelForm.{LabelForm}
use Rattle.lk_ir.specs.declared.nodes.Op.TheVariants as op

abbrev pub at : Span
at = record { start = 0; end = 0 }

-- within what has this label, with these positions and tails, of the first type
abbrev pub form : ℕ → Kind → List ℕ → List ℕ → Form
form within k parts tails = record { at = at; within = within; kind = k; parts = parts; tails = tails; ty = 0 }

-- ---- fun log(s) client { print(s); s ^^ "!" } fun work(n) server { "<" ^^ log(n) ^^ ">" } fun main(a) client { work(a) }

-- The local names are a, n and s; the instances main, work and log; the types those of texts, of the unit value and of the instances.
abbrev pub nodes : List Form
nodes =
    form 1 (kind.Call 1) (1 ∷ []) []
    ∷ form 1 (kind.Name 0) [] []
    ∷ form 2 (kind.Op op.Concat) (3 ∷ 4 ∷ []) []
    ∷ form 2 (kind.Op (op.Text (codes "<"))) [] []
    ∷ form 2 (kind.Op op.Concat) (5 ∷ 7 ∷ []) []
    ∷ form 2 (kind.Call 2) (6 ∷ []) []
    ∷ form 2 (kind.Name 1) [] []
    ∷ form 2 (kind.Op (op.Text (codes ">"))) [] []
    ∷ form 3 kind.Then (9 ∷ []) (11 ∷ [])
    ∷ record (form 3 kind.Print (10 ∷ []) []) { ty = 1 }
    ∷ form 3 (kind.Name 2) [] []
    ∷ form 3 (kind.Op op.Concat) (12 ∷ 13 ∷ []) []
    ∷ form 3 (kind.Name 2) [] []
    ∷ form 3 (kind.Op (op.Text (codes "!"))) [] []
    ∷ []

abbrev pub main_body : Body
main_body = record { place = Client; names = []; params = 0 ∷ []; root = 0 }

abbrev pub labels : List LabelForm
labels =
    record { owner = 0; ty = 0; node = None; body = None }
    ∷ record { owner = 0; ty = 2; node = None; body = Some main_body }
    ∷ record { owner = 1; ty = 3; node = None; body = Some (record { place = Server; names = []; params = 1 ∷ []; root = 2 }) }
    ∷ record { owner = 2; ty = 4; node = None; body = Some (record { place = Client; names = []; params = 2 ∷ []; root = 8 }) }
    ∷ []

-- evaluation asks for no types
abbrev pub nest : List Ground → Forms
nest types = record {
  nodes = nodes;
  labels = labels;
  wholes = 1 ∷ 2 ∷ 3 ∷ [];
  titles = codes "main" ∷ codes "work" ∷ codes "log" ∷ [];
  locals = codes "a" ∷ codes "n" ∷ codes "s" ∷ [];
  types = types;
  tables = [];
}

-- the same end, fuel, steps and numbers as the program's, whose functions stand here by their labels
abbrev pub nested : Out Value
nested = Goes (text (codes "<ann!>")) (record {
  fuel = 6;
  steps = 21;
  log = record { number = 3; event = Enter; crossing = Called (Function (record { site = 2; env = [] })) (text (codes "ann") ∷ []) }
      ∷ record { number = 9; event = Leave; crossing = Called (Function (record { site = 3; env = [] })) (text (codes "ann") ∷ []) }
      ∷ record { number = 12; event = Print (codes "ann"); crossing = Within }
      ∷ record { number = 17; event = Enter; crossing = Returned (text (codes "ann!")) }
      ∷ record { number = 21; event = Leave; crossing = Returned (text (codes "<ann!>")) } ∷ [];
  answers = [];
  returns = None;
})

-- fourteen nodes are entered; four changes of place, the values of `print`, of `log` and of the inner `^^` take a step each
pub nests : (types : List Ground) → eval (let_normal (nest types)) (main_point main_body (codes "ann")) Client (start 20 []) ≡ nested
unfolding eval_to
nests types = simp (value.outs-Base, value.outs-Fields, bound)

-- ---- what single nodes do

-- a left side that is false decides `&&`, and one that is true `||`
pub false_decides : act (nest []) at (kind.Choose choice.And) (3 ∷ []) no_names (truth false ∷ []) ≡ Give (truth false)
false_decides = simp (value.outs-Base)

pub true_decides : act (nest []) at (kind.Choose choice.Or) (3 ∷ []) no_names (truth true ∷ []) ≡ Give (truth true)
true_decides = simp (value.outs-Base)

-- a value with the label of an instance calls it, and nothing that the value keeps is passed on
pub passes_nothing : (kept : Value) → act (nest []) at kind.Apply [] no_names (value.Fun (record { site = 2; env = kept ∷ [] }) ∷ text (codes "a") ∷ [])
    ≡ Goto Server (record { site = 2; env = [] }) (text (codes "a") ∷ []) (under (bind 1 (text (codes "a")) no_names) 2)
passes_nothing kept = simp (value.outs-Fun)

-- ---- its continuations

-- three positions have one; that of `print(s)` keeps s
abbrev pub conts : List Conts
conts =
    record { of = None ∷ [] }
    ∷ record { of = [] }
    ∷ record { of = None ∷ Some (record { order = 0; keeps = [] }) ∷ [] }
    ∷ record { of = [] }
    ∷ record { of = Some (record { order = 1; keeps = [] }) ∷ None ∷ [] }
    ∷ record { of = None ∷ [] }
    ∷ record { of = [] }
    ∷ record { of = [] }
    ∷ record { of = Some (record { order = 2; keeps = record { name = 2; ty = 0 } ∷ [] }) ∷ [] }
    ∷ record { of = None ∷ [] }
    ∷ record { of = [] }
    ∷ record { of = None ∷ None ∷ [] }
    ∷ record { of = [] }
    ∷ record { of = [] }
    ∷ []

module _ (types : List Ground) where
  -- a literal uses nothing
  no_name : (x : ℕ) (bytes : List ℕ) (within : ℕ) → UsedBehind (nest types) (form within (kind.Op (op.Text bytes)) [] []) [] x → ⊥
  no_name x bytes within (inl part) = elim part [ ]
  no_name x bytes within (inr (inl needs)) = needs
  no_name x bytes within (inr (inr tail)) = elim tail [ ]

  -- `s` uses s
  uses_s : (x : ℕ) → Uses (nest types) x 12 → Among x (2 ∷ [])
  uses_s x uses = by_form (used_by (nest types) x 12 (form 3 (kind.Name 2) [] []) refl uses)
    where
      by_form : UsedBehind (nest types) (form 3 (kind.Name 2) [] []) [] x → Among x (2 ∷ [])
      by_form (inl part) = elim part [ ]
      by_form (inr (inl needs)) = subst (λ y. Among y (2 ∷ [])) needs relation.here
      by_form (inr (inr tail)) = elim tail [ ]

  -- and so does `s ^^ "!"`
  uses_join : (x : ℕ) → Uses (nest types) x 11 → Among x (2 ∷ [])
  uses_join x uses = by_form (used_by (nest types) x 11 (form 3 (kind.Op op.Concat) (12 ∷ 13 ∷ []) []) refl uses)
    where
      in_parts : UsedIn (nest types) x (12 ∷ 13 ∷ []) → Among x (2 ∷ [])
      in_parts (relation.first one) = uses_s x one
      in_parts (relation.others (relation.first one)) = absurd (no_name x (codes "!") 3 (used_by (nest types) x 13 (form 3 (kind.Op (op.Text (codes "!"))) [] []) refl one))
      in_parts (relation.others (relation.others one)) = elim one [ ]

      by_form : UsedBehind (nest types) (form 3 (kind.Op op.Concat) (12 ∷ 13 ∷ []) []) (12 ∷ 13 ∷ []) x → Among x (2 ∷ [])
      by_form (inl part) = in_parts part
      by_form (inr (inl needs)) = absurd needs
      by_form (inr (inr tail)) = elim tail [ ]

  -- behind `print(s)` it is used
  behind_print : (x : ℕ) → UsedBehind (nest types) (form 3 kind.Then (9 ∷ []) (11 ∷ [])) [] x → Among x (2 ∷ [])
  behind_print x (inl part) = elim part [ ]
  behind_print x (inr (inl needs)) = absurd needs
  behind_print x (inr (inr (relation.first_tail free uses))) = uses_join x uses
  behind_print x (inr (inr (relation.other_tails tail))) = elim tail [ ]

  used_there : (x : ℕ) → Among x (2 ∷ []) → UsedBehind (nest types) (form 3 kind.Then (9 ∷ []) (11 ∷ [])) [] x
  used_there x relation.here = inr (inr (relation.first_tail tt (relation.in_part (form 3 (kind.Op op.Concat) (12 ∷ 13 ∷ []) []) refl (relation.first (relation.itself (form 3 (kind.Name 2) [] []) refl refl)))))
  used_there x (relation.later among) = elim among [ ]

  one_rises : (x : ℕ) → IsStrictlySortedBy nat_cmp (x ∷ [])
  unfolding IsStrictlySortedBy
  one_rises x = (tt, tt)

  none_rises : IsStrictlySortedBy nat_cmp []
  unfolding IsStrictlySortedBy
  none_rises = tt

  keeps_s : KeepsJust (UsedBehind (nest types) (form 3 kind.Then (9 ∷ []) (11 ∷ [])) []) (record { order = 2; keeps = record { name = 2; ty = 0 } ∷ [] })
  keeps_s = record { ordered = one_rises 2; just = λ x. (used_there x, behind_print x) }

  -- behind the last position of `"<" ^^ ..` nothing is used
  behind_last : (x : ℕ) → UsedBehind (nest types) (form 2 (kind.Op op.Concat) (3 ∷ 4 ∷ []) []) [] x → Among x []
  behind_last x (inl part) = elim part [ ]
  behind_last x (inr (inl needs)) = absurd needs
  behind_last x (inr (inr tail)) = elim tail [ ]

  keeps_last : KeepsJust (UsedBehind (nest types) (form 2 (kind.Op op.Concat) (3 ∷ 4 ∷ []) []) []) (record { order = 0; keeps = [] })
  keeps_last = record { ordered = none_rises; just = λ x. (λ among. elim among [ ], behind_last x) }

  -- nor behind `log(n)` but a literal
  behind_call : (x : ℕ) → UsedBehind (nest types) (form 2 (kind.Op op.Concat) (5 ∷ 7 ∷ []) []) (7 ∷ []) x → Among x []
  behind_call x (inl (relation.first one)) = absurd (no_name x (codes ">") 2 (used_by (nest types) x 7 (form 2 (kind.Op (op.Text (codes ">"))) [] []) refl one))
  behind_call x (inl (relation.others one)) = elim one [ ]
  behind_call x (inr (inl needs)) = absurd needs
  behind_call x (inr (inr tail)) = elim tail [ ]

  keeps_call : KeepsJust (UsedBehind (nest types) (form 2 (kind.Op op.Concat) (5 ∷ 7 ∷ []) []) (7 ∷ [])) (record { order = 1; keeps = [] })
  keeps_call = record { ordered = none_rises; just = λ x. (λ among. elim among [ ], behind_call x) }

  pub are_named : AreNamed (nest types) conts
  are_named = all_named (nest types) conts
      ((refl, tt), (tt, ((refl, (refl, keeps_last, tt)), (tt, ((refl, keeps_call, (refl, tt)), ((refl, tt), (tt, (tt, ((refl, keeps_s, tt), ((refl, tt), (tt, ((refl, (refl, tt)), (tt, (tt, tt))))))))))))))

  -- so its session goes as before
  pub nests_on : eval (continuing (nest types) conts) (main_point main_body (codes "ann")) Client (start 20 []) ≡ nested
  nests_on = continues_so (nest types) conts are_named 0 _ Client (start 20 []) ∙ nests types
