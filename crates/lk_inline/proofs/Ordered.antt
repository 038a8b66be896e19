-- A walk keeps the parts in order: each part that it makes names parts before it.
use Rattle.std.proofs.Common.{◌≡◌, ℕ, zero, suc, ◌+◌, ◌<◌, ◌≤◌, Bool, true, false, List, [], ◌∷◌, ◌++◌, length, map, Option, Some, None, bytes_eq, if◌then◌else◌, slice_get, refl, sym, ◌∙◌, ap, subst, arith}
use Rattle.lk_ast.specs.Layers.{Layer, layer}
use Rattle.lk_ast.specs.declared.expression.Expr.{Expr}
use Rattle.lk_ast.specs.declared.expression.Node.TheOpen.{Node-F}
use Rattle.lk_ast.specs.declared.expression.PartExpr.{PartExpr}
use Rattle.lk_ast.specs.declared.place.Word.{Word}
use Rattle.lk_bodies.proofs.Levels.{part_level_is, walk_expr, walk_out, with_walks}
use Rattle.lk_bodies.specs.Captured.{bound_parts, numbered}
use Rattle.lk_bodies.specs.Shapes.{columns_of, labels}
use Rattle.lk_bodies.specs.Walk.{Calls, Made, Several, State, Walk, add, all, all_from, behind_type, bound, call, called, choice, emptiness, entered_some, equality, extended, extension, fields, first_labels, inequality, labelled, local, loop, never, node_level, one, table, three, two, variable, walk, walk_part, walks_in, zero_part}
use Rattle.lk_ground.specs.Language.{function_of}
use Rattle.lk_ground.specs.declared.program.GroundFun.{GroundFun}
use Rattle.lk_ground_types.specs.Shapes.{is_base, is_list}
use Rattle.lk_inline.proofs.Adding.{at_end, ordered_add}
use Rattle.lk_inline.proofs.BlockStarts.{bound_ordered}
use Rattle.lk_query.specs.Order.{AllBelow, AreOrdered, Below, LabelledBelow}
use Rattle.lk_query.specs.declared.part.Part.{Part}
use Rattle.lk_query.specs.declared.part.Part.TheVariants as part
use Rattle.lk_sound.proofs.Inside.{by_insides, insides}
use Rattle.lk_sql.specs.declared.tree.SqlOp.TheVariants as op
use Rattle.lk_types.proofs.Members.{each_front, each_back}
use Rattle.lk_types.specs.Each.{Each}
use Rattle.lk_types.specs.Rows.{Label}
use Rattle.lk_types.specs.declared.ground.Ground.{Ground}
use Rattle.lk_typing.specs.Names.{Named, named}
use Rattle.lk_typing.specs.Typing.{expr_of}

-- what each name stands for is below n
abbrev pub NamesBelow : ℕ → Named ℕ → Type 0
NamesBelow n [] = Unit {0}
NamesBelow n (entry ∷ names) = (entry.1 < n) × NamesBelow n names

names_later : (n m : ℕ) (names : Named ℕ) → n ≤ m → NamesBelow n names → NamesBelow m names
names_later n m [] le below = tt
names_later n m (entry ∷ names) le below = let l = below.0 in (omega (arith, l, le), names_later n m names le below.1)

named_below : (n k : ℕ) (x : Label) (names : Named ℕ) → NamesBelow n names → named x names ≡ Some k → k < n
named_below n k x [] below is = let wrong : None ≡ Some k = is in absurd cc
named_below n k x (entry ∷ names) below is = by (bytes_eq entry.0 x) (named_below n k x names below.1) is
  where
    by : (b : Bool) → (named x names ≡ Some k → k < n) → (if b then Some entry.1 else named x names) ≡ Some k → k < n
    by true other is = let same : entry.1 ≡ k = cc in subst (λ m. m < n) same below.0
    by false other is = other is

-- numbers below n are below what is not less
all_later : (n m : ℕ) (numbers : List ℕ) → n ≤ m → AllBelow n numbers → AllBelow m numbers
all_later n m [] le below = tt
all_later n m (k ∷ numbers) le below = let l = below.0 in (omega (arith, l, le), all_later n m numbers le below.1)

all_one : (n k : ℕ) (numbers : List ℕ) → AllBelow n numbers → k < n → AllBelow n (numbers ++ k ∷ [])
all_one n k [] below l = (l, tt)
all_one n k (j ∷ numbers) below l = (below.0, all_one n k numbers below.1 l)

labelled_below : (n : ℕ) (ls : List Label) (numbers : List ℕ) → AllBelow n numbers → LabelledBelow n (labelled ls numbers)
labelled_below n [] numbers below = tt
labelled_below n (l ∷ ls) [] below = tt
labelled_below n (l ∷ ls) (k ∷ numbers) below = (below.0, labelled_below n ls numbers below.1)

-- ---- what is made of so many parts in order

pub record IsOrdered (from : ℕ) (m : Made) : Type 0 where
  pub ordered : AreOrdered m.state.parts
  pub within : m.part < length m.state.parts
  pub more : from ≤ length m.state.parts

pub record AreAllOrdered (from : ℕ) (m : Several) : Type 0 where
  pub ordered : AreOrdered m.state.parts
  pub within : AllBelow (length m.state.parts) m.numbers
  pub more : from ≤ length m.state.parts

-- a walk that keeps parts in order
abbrev pub KeepsOrder : Walk → Type 0
KeepsOrder w = (names : Named ℕ) (s : State) → NamesBelow (length s.parts) names → AreOrdered s.parts → IsOrdered (length s.parts) (w names s)

-- and calls that do
abbrev pub CallsKeepOrder : Calls → Type 0
CallsKeepOrder calls = (h : ℕ) (numbers : List ℕ) (parts : List Part) → AllBelow (length parts) numbers → AreOrdered parts → IsOrdered (length parts) (calls h numbers parts)

-- ---- steps

added : (from : ℕ) (x : Part) (s : State) → from ≤ length s.parts → AreOrdered s.parts → Below (length s.parts) x → IsOrdered from (add x s)
added from x s le ordered below = let l = at_end s.parts x in record { ordered = ordered_add s.parts x ordered below; within = l; more = omega (arith, l, le) }

never_keeps : KeepsOrder never
never_keeps names s below ordered = let le : length s.parts ≤ length s.parts = omega arith in added (length s.parts) zero_part s le ordered tt

one_keeps : (of : ℕ → Part) → ((n x : ℕ) → x < n → Below n (of x)) → (a : Walk) → KeepsOrder a → KeepsOrder (one of a)
one_keeps of is a ka names s below ordered =
    let m = ka names s below ordered in
    added (length s.parts) (of (a names s).part) (a names s).state m.more m.ordered (is _ _ m.within)

two_after : (of : ℕ → Part) (from x : ℕ) → (b : Walk) → KeepsOrder b → (names : Named ℕ) (s : State) → NamesBelow (length s.parts) names → AreOrdered s.parts → from ≤ length s.parts
    → ((n y : ℕ) → length s.parts ≤ n → y < n → Below n (of y)) → IsOrdered from (add (of (b names s).part) (b names s).state)
two_after of from x b kb names s below ordered le is =
    let m = kb names s below ordered in
    let more = m.more in
    added from (of (b names s).part) (b names s).state (omega (arith, le, more)) m.ordered (is _ _ more m.within)

two_keeps : (of : ℕ → ℕ → Part) → ((n x y : ℕ) → x < n → y < n → Below n (of x y)) → (a b : Walk) → KeepsOrder a → KeepsOrder b → KeepsOrder (two of a b)
two_keeps of is a b ka kb names s below ordered =
    let m = ka names s below ordered in
    let x = (a names s).part in
    let l = m.within in
    two_after (of x) (length s.parts) x b kb names (a names s).state (names_later _ _ names m.more below) m.ordered m.more (λ n y le k. is n x y (omega (arith, l, le)) k)

three_keeps : (of : ℕ → ℕ → ℕ → Part) → ((n x y z : ℕ) → x < n → y < n → z < n → Below n (of x y z)) → (a b c : Walk) → KeepsOrder a → KeepsOrder b → KeepsOrder c → KeepsOrder (three of a b c)
three_keeps of is a b c ka kb kc names s below ordered =
    let m = ka names s below ordered in
    let s2 = (a names s).state in
    let x = (a names s).part in
    let below2 = names_later _ _ names m.more below in
    let k = kb names s2 below2 m.ordered in
    let s3 = (b names s2).state in
    let y = (b names s2).part in
    let l = m.within in
    let l2 = k.within in
    let more = m.more in
    let more2 = k.more in
    two_after (of x y) (length s.parts) y c kc names s3 (names_later _ _ names more2 below2) k.ordered (omega (arith, more, more2)) (λ n z le j. is n x y z (omega (arith, l, more2, le)) (omega (arith, l2, le)) j)

all_keep : (walks : List Walk) → Each KeepsOrder walks → (numbers : List ℕ) (names : Named ℕ) (s : State) → NamesBelow (length s.parts) names → AreOrdered s.parts → AllBelow (length s.parts) numbers
    → AreAllOrdered (length s.parts) (all_from numbers walks names s)
all_keep [] keep numbers names s below ordered within = record { ordered = ordered; within = within; more = omega arith }
all_keep (w ∷ walks) keep numbers names s below ordered within =
    let m = keep.0 names s below ordered in
    let made = w names s in
    let rest = all_keep walks keep.1 (numbers ++ made.part ∷ []) names made.state (names_later _ _ names m.more below) m.ordered (all_one _ _ numbers (all_later _ _ numbers m.more within) m.within) in
    let more = m.more in
    let further = rest.more in
    record { ordered = rest.ordered; within = rest.within; more = omega (arith, more, further) }

-- ---- parts by types

choice_below : (own : List Ground) (n c a b : ℕ) → c < n → a < n → b < n → Below n (choice own c a b)
choice_below [] n c a b lc la lb = (lc, la, lb)
choice_below (t ∷ ts) n c a b lc la lb = by (is_base t) (is_list t)
  where
    by : (base list : Bool) → Below n (if base then part.Case c a b else (if list then part.If c a b else part.IfRow (labels (columns_of t)) c a b))
    by true list = (lc, la, lb)
    by false true = (lc, la, lb)
    by false false = (lc, la, lb)

equality_below : (own : List Ground) (n a b : ℕ) → a < n → b < n → Below n (equality own a b)
equality_below [] n a b la lb = (la, lb)
equality_below (t ∷ ts) n a b la lb = by (is_base t)
  where
    by : (base : Bool) → Below n (if base then part.Two op.Eq a b else part.EqRows (labels (columns_of t)) a b)
    by true = (la, lb)
    by false = (la, lb)

emptiness_below : (own : List Ground) (n list : ℕ) → list < n → Below n (emptiness own list)
emptiness_below [] n list l = l
emptiness_below (t ∷ ts) n list l = l

table_below : (own : List Ground) (name : List ℕ) (n : ℕ) → Below n (table own name)
table_below [] name n = tt
table_below (t ∷ ts) name n = tt

unequal : (own : List Ground) (from a b : ℕ) (s : State) → from ≤ length s.parts → AreOrdered s.parts → a < length s.parts → b < length s.parts → IsOrdered from (inequality own a b s)
unequal [] from a b s le ordered la lb = added from (part.Two op.Ne a b) s le ordered (la, lb)
unequal (t ∷ ts) from a b s le ordered la lb = by (is_base t)
  where
    equal : Part
    equal = part.EqRows (labels (columns_of t)) a b

    by : (base : Bool) → IsOrdered from (if base then add (part.Two op.Ne a b) s else add (part.One op.Not (add equal s).part) (add equal s).state)
    by true = added from (part.Two op.Ne a b) s le ordered (la, lb)
    by false =
        let m = added from equal s le ordered (la, lb) in
        added from (part.One op.Not (add equal s).part) (add equal s).state m.more m.ordered m.within

-- ---- names

local_kept : (o : Option ℕ) (s : State) → ((k : ℕ) → o ≡ Some k → k < length s.parts) → AreOrdered s.parts → IsOrdered (length s.parts) (local o s)
local_kept None s is ordered = never_keeps [] s tt ordered
local_kept (Some k) s is ordered = record { ordered = ordered; within = is k refl; more = omega arith }

variable_keeps : (x : Word) (e rest : Walk) → KeepsOrder e → KeepsOrder rest → KeepsOrder (variable x e rest)
variable_keeps x e rest ke kr names s below ordered =
    let m = ke names s below ordered in
    let k = kr ((x.text, (e names s).part) ∷ names) (e names s).state (m.within, names_later _ _ names m.more below) m.ordered in
    let more = m.more in
    let further = k.more in
    record { ordered = k.ordered; within = k.within; more = omega (arith, more, further) }

-- one after the other
after_keeps : (e rest : Walk) → KeepsOrder e → KeepsOrder rest → (names : Named ℕ) (s : State) → NamesBelow (length s.parts) names → AreOrdered s.parts → IsOrdered (length s.parts) (rest names (e names s).state)
after_keeps e rest ke kr names s below ordered =
    let m = ke names s below ordered in
    let k = kr names (e names s).state (names_later _ _ names m.more below) m.ordered in
    let more = m.more in
    let further = k.more in
    record { ordered = k.ordered; within = k.within; more = omega (arith, more, further) }

loop_keeps : (x : Word) (e body : Walk) → KeepsOrder e → KeepsOrder body → KeepsOrder (loop x e body)
loop_keeps x e body ke kb names s below ordered =
    let list = e names s in
    let m = ke names s below ordered in
    let row = add part.Bound list.state in
    let r = added (length list.state.parts) part.Bound list.state (omega arith) m.ordered tt in
    let more = m.more in
    let more2 = r.more in
    let inner = body ((x.text, row.part) ∷ names) row.state in
    let k = kb ((x.text, row.part) ∷ names) row.state (r.within, names_later _ _ names (omega (arith, more, more2)) below) r.ordered in
    let more3 = k.more in
    let l = m.within in
    let l2 = r.within in
    added (length s.parts) (part.ForList list.part row.part inner.part) inner.state (omega (arith, more, more2, more3)) k.ordered (omega (arith, l, more2, more3), omega (arith, l2, more3), k.within)

-- ---- records

extension_keeps : (own : List Ground) (ls : List Label) (items : List Walk) (e : Walk) → Each KeepsOrder items → KeepsOrder e → KeepsOrder (extension own ls items e)
extension_keeps own ls items e keep ke names s below ordered =
    let several = all items names s in
    let m = all_keep items keep [] names s below ordered tt in
    let k = ke names several.state (names_later _ _ names m.more below) m.ordered in
    let rest = e names several.state in
    let more = m.more in
    let more2 = k.more in
    added (length s.parts) (extended own ls several.numbers rest.part) rest.state (omega (arith, more, more2)) k.ordered (labelled_below _ ls several.numbers (all_later _ _ several.numbers more2 m.within), k.within)

record_keeps : KeepsOrder (λ names. add (part.Record []))
record_keeps names s below ordered = let le : length s.parts ≤ length s.parts = omega arith in added (length s.parts) (part.Record []) s le ordered tt

module _ (calls : Calls) (good : CallsKeepOrder calls) where
  call_kept : (later : List ℕ) (args : List Walk) → Each KeepsOrder args → KeepsOrder (call calls later args)
  call_kept [] args keep names s below ordered = never_keeps names s below ordered
  call_kept (h ∷ later) args keep names s below ordered =
      let start : State = record { parts = s.parts; types = s.types; calls = later } in
      let several = all args names start in
      let m = all_keep args keep [] names start below ordered tt in
      let k = good h several.numbers several.state.parts m.within m.ordered in
      let more = m.more in
      let more2 = k.more in
      record { ordered = k.ordered; within = k.within; more = omega (arith, more, more2) }

  -- ---- expressions

  abbrev Keeps : Expr → Type 0
  Keeps e = KeepsOrder (walk calls e)

  each_walk : (es : List Expr) → Each Keeps es → Each KeepsOrder (map (walk calls) es)
  each_walk [] each = tt
  each_walk (e ∷ es) each = (each.0, each_walk es each.1)

  each_part : (items : List PartExpr) → Each Keeps (map expr_of items) → Each KeepsOrder (walks_in (map (walk_part calls) items))
  each_part [] each = tt
  each_part (item ∷ items) each = (subst KeepsOrder (sym (ap (λ p. p.1) (part_level_is calls item))) each.0, each_part items each.1)

  level_keeps : (l : Layer) → Each Keeps (insides l) → (own : List Ground) → KeepsOrder (node_level calls (with_walks calls l) own)
  level_keeps (Node-F.Int n) each own names s below ordered = added (length s.parts) _ s (omega arith) ordered tt
  level_keeps (Node-F.Text text) each own names s below ordered = added (length s.parts) _ s (omega arith) ordered tt
  level_keeps (Node-F.Bool b) each own names s below ordered = added (length s.parts) _ s (omega arith) ordered tt
  level_keeps (Node-F.Name x) each own names s below ordered = local_kept (named x names) s (λ k is. named_below _ k x names below is) ordered
  level_keeps (Node-F.Call g args) each own names s below ordered = call_kept s.calls (map (walk calls) args) (each_walk args each) names s below ordered
  level_keeps (Node-F.Var x e rest) each own names s below ordered = variable_keeps x (walk calls e) (walk calls rest) each.0 each.1.0 names s below ordered
  level_keeps (Node-F.Seq e rest) each own names s below ordered = after_keeps (walk calls e) (walk calls rest) each.0 each.1.0 names s below ordered
  level_keeps (Node-F.If c a b) each own names s below ordered = three_keeps (choice own) (λ n x y z. choice_below own n x y z) (walk calls c) (walk calls a) (walk calls b) each.0 each.1.0 each.1.1.0 names s below ordered
  level_keeps (Node-F.And a b) each own names s below ordered = two_keeps (part.Two op.And) (λ n x y l k. (l, k)) (walk calls a) (walk calls b) each.0 each.1.0 names s below ordered
  level_keeps (Node-F.Or a b) each own names s below ordered = two_keeps (part.Two op.Or) (λ n x y l k. (l, k)) (walk calls a) (walk calls b) each.0 each.1.0 names s below ordered
  level_keeps (Node-F.Concat a b) each own names s below ordered = two_keeps (part.Two op.Concat) (λ n x y l k. (l, k)) (walk calls a) (walk calls b) each.0 each.1.0 names s below ordered
  level_keeps (Node-F.Append a b) each own names s below ordered = two_keeps part.Append (λ n x y l k. (l, k)) (walk calls a) (walk calls b) each.0 each.1.0 names s below ordered
  level_keeps (Node-F.Add a b) each own names s below ordered = two_keeps (part.Two op.Add) (λ n x y l k. (l, k)) (walk calls a) (walk calls b) each.0 each.1.0 names s below ordered
  level_keeps (Node-F.Sub a b) each own names s below ordered = two_keeps (part.Two op.Sub) (λ n x y l k. (l, k)) (walk calls a) (walk calls b) each.0 each.1.0 names s below ordered
  level_keeps (Node-F.Mul a b) each own names s below ordered = two_keeps (part.Two op.Mul) (λ n x y l k. (l, k)) (walk calls a) (walk calls b) each.0 each.1.0 names s below ordered
  level_keeps (Node-F.Eq a b) each own names s below ordered = two_keeps (equality s.types) (λ n x y. equality_below s.types n x y) (walk calls a) (walk calls b) each.0 each.1.0 names s below ordered
  level_keeps (Node-F.Ne a b) each own names s below ordered =
      let m = each.0 names s below ordered in
      let first = walk calls a names s in
      let k = each.1.0 names first.state (names_later _ _ names m.more below) m.ordered in
      let second = walk calls b names first.state in
      let more = m.more in
      let more2 = k.more in
      let l = m.within in
      unequal s.types (length s.parts) first.part second.part second.state (omega (arith, more, more2)) k.ordered (omega (arith, l, more2)) k.within
  level_keeps (Node-F.Lt a b) each own names s below ordered = two_keeps (part.Two op.Lt) (λ n x y l k. (l, k)) (walk calls a) (walk calls b) each.0 each.1.0 names s below ordered
  level_keeps (Node-F.Le a b) each own names s below ordered = two_keeps (part.Two op.Le) (λ n x y l k. (l, k)) (walk calls a) (walk calls b) each.0 each.1.0 names s below ordered
  level_keeps (Node-F.Gt a b) each own names s below ordered = two_keeps (part.Two op.Gt) (λ n x y l k. (l, k)) (walk calls a) (walk calls b) each.0 each.1.0 names s below ordered
  level_keeps (Node-F.Ge a b) each own names s below ordered = two_keeps (part.Two op.Ge) (λ n x y l k. (l, k)) (walk calls a) (walk calls b) each.0 each.1.0 names s below ordered
  level_keeps (Node-F.Neg e) each own names s below ordered = one_keeps (part.One op.Neg) (λ n x l. l) (walk calls e) each.0 names s below ordered
  level_keeps (Node-F.Not e) each own names s below ordered = one_keeps (part.One op.Not) (λ n x l. l) (walk calls e) each.0 names s below ordered
  level_keeps (Node-F.Empty e) each own names s below ordered = one_keeps (emptiness s.types) (λ n x. emptiness_below s.types n x) (walk calls e) each.0 names s below ordered
  level_keeps (Node-F.Record items) each own names s below ordered =
      extension_keeps own _ (walks_in (map (walk_part calls) items)) (λ names. add (part.Record [])) (each_part items each) record_keeps names s below ordered
  level_keeps (Node-F.Extend items e) each own names s below ordered =
      extension_keeps own _ (walks_in (map (walk_part calls) items)) (walk calls e) (each_part items (each_front Keeps (map expr_of items) (e ∷ []) each)) (each_back Keeps (map expr_of items) (e ∷ []) each).0 names s below ordered
  level_keeps (Node-F.List items) each own names s below ordered =
      let m = all_keep (map (walk calls) items) (each_walk items each) [] names s below ordered tt in
      let several = all (map (walk calls) items) names s in
      added (length s.parts) (part.Items several.numbers) several.state m.more m.ordered m.within
  level_keeps (Node-F.Project e l) each own names s below ordered = one_keeps (λ x. part.Project x l.text) (λ n x l. l) (walk calls e) each.0 names s below ordered
  level_keeps (Node-F.ForList x e body) each own names s below ordered = loop_keeps x (walk calls e) (walk calls body) each.0 each.1.0 names s below ordered
  level_keeps (Node-F.ForTable x rows body) each own names s below ordered = loop_keeps x (walk calls rows) (walk calls body) each.0 each.1.0 names s below ordered
  level_keeps (Node-F.Table t) each own names s below ordered = added (length s.parts) (table own t.text) s (omega arith) ordered (table_below own t.text _)
  level_keeps (Node-F.Where c e) each own names s below ordered = two_keeps part.Where (λ n x y l k. (l, k)) (walk calls c) (walk calls e) each.0 each.1.0 names s below ordered
  level_keeps (Node-F.Query keys e) each own names s below ordered = each.0 names s below ordered
  level_keeps other each own names s below ordered = never_keeps names s below ordered

  step : (e : Expr) → Each Keeps (insides (layer e)) → Keeps e
  step e each names s below ordered =
      subst (IsOrdered (length s.parts)) (sym (walk_expr calls e names s ∙ walk_out calls e.node s.types names (behind_type s)))
      (level_keeps (layer e) each s.types names (behind_type s) below ordered)

  pub walk_keeps : (e : Expr) → KeepsOrder (walk calls e)
  walk_keeps = by_insides Keeps step

-- ---- calls

bound_below : (n : ℕ) (names : Named ℕ) (params : List Word) (numbers : List ℕ) → NamesBelow n names → AllBelow n numbers → NamesBelow n (bound names params numbers)
bound_below n names [] numbers below within = below
bound_below n names (x ∷ params) [] below within = below
bound_below n names (x ∷ params) (k ∷ numbers) below within = bound_below n ((x.text, k) ∷ names) params numbers (within.0, below) within.1

entered_keeps : (calls : Calls) → CallsKeepOrder calls → (f : Option GroundFun) (numbers : List ℕ) (parts : List Part) → AllBelow (length parts) numbers → AreOrdered parts → IsOrdered (length parts) (entered_some calls f numbers parts)
entered_keeps calls good None numbers parts within ordered = never_keeps [] (record { parts = parts; types = []; calls = [] }) tt ordered
entered_keeps calls good (Some f) numbers parts within ordered =
    walk_keeps calls good (function_of f).body (bound [] (function_of f).params numbers) (record { parts = parts; types = f.types; calls = f.calls }) (bound_below _ [] (function_of f).params numbers tt within) ordered

pub called_keeps : (helpers : List GroundFun) (n : ℕ) → CallsKeepOrder (called helpers n)
unfolding called
called_keeps helpers zero h numbers parts within ordered = never_keeps [] (record { parts = parts; types = []; calls = [] }) tt ordered
called_keeps helpers (suc n) h numbers parts within ordered = entered_keeps (called helpers n) (called_keeps helpers n) (slice_get helpers h) numbers parts within ordered

-- ---- what is walked at the start: a part for each name

pub numbered_below : (names : List Label) (first n : ℕ) → first + length (bound_parts names) ≤ n → NamesBelow n (numbered first names)
numbered_below [] first n le = tt
numbered_below (name ∷ names) first n le = (omega (arith, le), numbered_below names (first + 1) n (omega (arith, le)))

-- ---- the parts of sites

module _ (helpers : List GroundFun) (n : ℕ) (names : List Label) (s : State) where
  -- the walk of one expression
  pub one_ordered : (e : Expr) → s.parts ≡ bound_parts names → IsOrdered (length s.parts) (walk (called helpers n) e (numbered 0 names) s)
  one_ordered e is =
      let same : length s.parts ≡ length (bound_parts names) = ap length is in
      walk_keeps (called helpers n) (called_keeps helpers n) e (numbered 0 names) s (numbered_below names 0 (length s.parts) (omega (arith, same))) (subst AreOrdered (sym is) (bound_ordered names))

  all_set : (sets : List PartExpr) → Each KeepsOrder (map (λ (set : PartExpr). walk (called helpers n) set.expr) sets)
  all_set [] = tt
  all_set (set ∷ sets) = (walk_keeps (called helpers n) (called_keeps helpers n) set.expr, all_set sets)

  -- and of others behind it
  pub sets_ordered : (e : Expr) (sets : List PartExpr) → s.parts ≡ bound_parts names
      → AreOrdered (all (map (λ (set : PartExpr). walk (called helpers n) set.expr) sets) (numbered 0 names) (walk (called helpers n) e (numbered 0 names) s).state).state.parts
  sets_ordered e sets is =
      let m = one_ordered e is in
      let same : length s.parts ≡ length (bound_parts names) = ap length is in
      let more = m.more in
      (all_keep (map (λ (set : PartExpr). walk (called helpers n) set.expr) sets) (all_set sets) [] (numbered 0 names) (walk (called helpers n) e (numbered 0 names) s).state
      (numbered_below names 0 _ (omega (arith, same, more))) m.ordered tt).ordered
