-- What stands in an expression, counted by what stands right inside it.
use Rattle.std.proofs.Common.{◌≡◌, refl, sym, ap, ap₂, ◌∙◌, ℕ, ◌+◌, ◌<◌, ◌≤◌, List, [], ◌∷◌, ◌++◌, flat_map, append-nil, length, length-append, arith}
use Rattle.std.proofs.lemmas.List.{map-append}
use Rattle.std.specs.Borrow.{Bor}
use Rattle.lk_ast.specs.Children.{exprs_of}
use Rattle.lk_ast.specs.Layers.{Layer, layer}
use Rattle.lk_ast.specs.declared.expression.Expr.{Expr}
use Rattle.lk_ast.specs.declared.expression.Node.TheOpen.{Node-F}
use Rattle.lk_ground.proofs.Levels.{own_use}
use Rattle.lk_ground.proofs.PlacedLevels.{form_uses}
use Rattle.lk_ground.specs.Sites.{uses_in}
use Rattle.lk_lower.proofs.Counted.{same_last}
use Rattle.lk_lower.proofs.NodesInside.{nodes_insides, total_both}
use Rattle.lk_lower.specs.Children.{inside, nodes_of, own_uses, uses_of}
use Rattle.lk_lower.specs.Lowering.{case_bodies, nodes_in}
use Rattle.lk_lower.specs.Walked.{shown}
use Rattle.lk_sound.proofs.Inside.{insides}

-- ---- several

pub nodes_both : (es ds : List Expr) → nodes_of (es ++ ds) ≡ nodes_of es + nodes_of ds
nodes_both es ds = total_both nodes_in es ds

uses_both : (es ds : List Expr) → uses_of (es ++ ds) ≡ uses_of es + uses_of ds
uses_both [] ds = omega arith
uses_both (e ∷ es) ds =
    let first : length (uses_in e ++ flat_map uses_in (es ++ ds)) ≡ length (uses_in e) + uses_of (es ++ ds) = length-append (uses_in e) (flat_map uses_in (es ++ ds)) in
    let second : length (uses_in e ++ flat_map uses_in es) ≡ length (uses_in e) + uses_of es = length-append (uses_in e) (flat_map uses_in es) in
    let rest : uses_of (es ++ ds) ≡ uses_of es + uses_of ds = uses_both es ds in
    omega arith

pub nodes_one : (e : Expr) → nodes_of (e ∷ []) ≡ nodes_in e
nodes_one e = omega arith

pub uses_one : (e : Expr) → uses_of (e ∷ []) ≡ length (uses_in e)
uses_one e = ap length (append-nil (uses_in e))

-- ---- by what stands right inside

own_are : (l : Layer) (site : ℕ) → length (own_use l site) ≡ own_uses l
own_are (Node-F.Function g) site = refl
own_are (Node-F.Call g args) site = refl
own_are other site = refl

insides_are : (l : Layer) → insides l ≡ inside l
insides_are (Node-F.Call g args) = sym (append-nil args)
insides_are (Node-F.Apply f args) = ap (λ es. f ∷ es) (sym (append-nil args))
insides_are (Node-F.Record parts) = sym (append-nil (exprs_of parts))
insides_are (Node-F.Extend parts e) = sym (append-nil (exprs_of parts ++ e ∷ []))
insides_are (Node-F.List items) = sym (append-nil items)
insides_are (Node-F.Switch e cases last) = ap (λ es. e ∷ (case_bodies cases ++ es)) (sym (same_last last))
insides_are other = refl

pub nodes_by_inside : (e : Expr) → nodes_in e ≡ 1 + nodes_of (inside (layer e))
nodes_by_inside e = nodes_insides e ∙ ap (λ es. 1 + nodes_of es) (insides_are (layer e))

pub uses_by_inside : (e : Expr) → length (uses_in e) ≡ own_uses (layer e) + uses_of (inside (layer e))
uses_by_inside e =
    let l = layer e in
    ap length (form_uses e l refl) ∙ length-append (own_use l e.span.start) (flat_map uses_in (insides l))
    ∙ ap₂ (λ m n. m + n) (own_are l e.span.start) (ap (λ es. uses_of es) (insides_are l))

-- ---- one taken from the end, and what stands in it put there

-- so many nodes are still there, and so many are done
pub one_counted : (held rest more : List Expr) (e : Expr) (done next all : ℕ) → held ≡ rest ++ e ∷ [] → more ≡ rest ++ inside (layer e) → next ≡ done + 1 → done + nodes_of held ≡ all → next + nodes_of more ≡ all
one_counted held rest more e done next all is grown step same =
    let whole : nodes_of held ≡ nodes_of rest + nodes_of (e ∷ []) = ap nodes_of is ∙ nodes_both rest (e ∷ []) in
    let one : nodes_of (e ∷ []) ≡ nodes_in e = nodes_one e in
    let level : nodes_in e ≡ 1 + nodes_of (inside (layer e)) = nodes_by_inside e in
    let left : nodes_of more ≡ nodes_of rest + nodes_of (inside (layer e)) = ap nodes_of grown ∙ nodes_both rest (inside (layer e)) in
    omega arith

pub one_used : (held rest more : List Expr) (e : Expr) (done next all : ℕ) → held ≡ rest ++ e ∷ [] → more ≡ rest ++ inside (layer e) → next ≡ done + own_uses (layer e) → done + uses_of held ≡ all → next + uses_of more ≡ all
one_used held rest more e done next all is grown step same =
    let whole : uses_of held ≡ uses_of rest + uses_of (e ∷ []) = ap uses_of is ∙ uses_both rest (e ∷ []) in
    let one : uses_of (e ∷ []) ≡ length (uses_in e) = uses_one e in
    let level : length (uses_in e) ≡ own_uses (layer e) + uses_of (inside (layer e)) = uses_by_inside e in
    let left : uses_of more ≡ uses_of rest + uses_of (inside (layer e)) = ap uses_of grown ∙ uses_both rest (inside (layer e)) in
    omega arith

-- fewer nodes are there then
pub fewer_there : (held rest more : List Expr) (e : Expr) → held ≡ rest ++ e ∷ [] → more ≡ rest ++ inside (layer e) → nodes_of more < nodes_of held
fewer_there held rest more e is grown =
    let whole : nodes_of held ≡ nodes_of rest + nodes_of (e ∷ []) = ap nodes_of is ∙ nodes_both rest (e ∷ []) in
    let one : nodes_of (e ∷ []) ≡ nodes_in e = nodes_one e in
    let level : nodes_in e ≡ 1 + nodes_of (inside (layer e)) = nodes_by_inside e in
    let left : nodes_of more ≡ nodes_of rest + nodes_of (inside (layer e)) = ap nodes_of grown ∙ nodes_both rest (inside (layer e)) in
    omega arith

-- a walk that leaves some of what stands in it out
pub fewer_entered : (held rest : List Expr) (e : Expr) (more : ℕ) → held ≡ rest ++ e ∷ [] → more ≤ nodes_of rest + nodes_of (inside (layer e)) → more < nodes_of held
fewer_entered held rest e more is below =
    let whole : nodes_of held ≡ nodes_of rest + nodes_of (e ∷ []) = ap nodes_of is ∙ nodes_both rest (e ∷ []) in
    let one : nodes_of (e ∷ []) ≡ nodes_in e = nodes_one e in
    let level : nodes_in e ≡ 1 + nodes_of (inside (layer e)) = nodes_by_inside e in
    omega arith

pub some_entered : (old new more : List Expr) → new ≡ old ++ more → nodes_of new ≤ nodes_of old + nodes_of more
some_entered old new more is =
    let sum : nodes_of new ≡ nodes_of old + nodes_of more = ap nodes_of is ∙ nodes_both old more in
    omega arith

pub shown_last : (held rest : List (Bor Expr)) (e : Bor Expr) → held ≡ rest ++ e ∷ [] → shown held ≡ shown rest ++ e.now ∷ []
shown_last held rest e is = ap shown is ∙ map-append (λ (e : Bor Expr). e.now) rest (e ∷ [])
